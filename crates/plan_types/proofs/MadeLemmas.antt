-- Types that were made of parts that are there.
use Rattle.std.proofs.Common.{◌≡◌, ℕ, List, Option, Some, None, refl}
use Rattle.std.specs.Option.{option_map}
use Rattle.plan_types.specs.Types.{Ty, Fields, with_field}
use Rattle.plan_types.specs.Supertypes.{in_front}

-- what an option's value was made of
pub record MadeOf {A B : Type 0} (make : A → B) (o : Option A) (made : B) : Type 0 where
  pub part : A
  pub part_is : o ≡ Some part
  pub made_is : make part ≡ made

pub made_of : {A B : Type 0} (make : A → B) (o : Option A) (made : B) → option_map make o ≡ Some made → MadeOf make o made
made_of make None made e = cc
made_of make (Some part) made e = record { part = part; part_is = refl; made_is = cc }

pub record FrontOf (name : List ℕ) (o : Option Ty) (r : Option Fields) (made : Fields) : Type 0 where
  pub type : Ty
  pub type_is : o ≡ Some type
  pub rest : Fields
  pub rest_is : r ≡ Some rest
  pub made_is : with_field name type rest ≡ made

pub front_of : (name : List ℕ) (o : Option Ty) (r : Option Fields) (made : Fields) → in_front name o r ≡ Some made → FrontOf name o r made
front_of name None r made e = cc
front_of name (Some type) None made e = cc
front_of name (Some type) (Some rest) made e = record { type = type; type_is = refl; rest = rest; rest_is = refl; made_is = cc }
