-- Columns that are made of columns, one by one.
use Rattle.std.proofs.Common.{◌≡◌, ◌∙◌, ℕ, List, [], ◌∷◌, ◌++◌, map, Bool, true, false, cond, sym, ap}
use Rattle.std.proofs.lemmas.List.{map-append}
use Rattle.plan_types.specs.Types.{Ty}
use Rattle.plan_types.specs.Schemas.{Name}
use Rattle.plan_types.specs.Values.{Val}
use Rattle.plan_types.specs.FrameFaults.{shown}
use Rattle.plan_types.specs.declared.column.Column.{Column}
use Rattle.plan_dsl.specs.Picks.{explode_values}
use Rattle.plan_dsl.specs.Signatures.{own_type}
use Rattle.plan_dsl.specs.declared.signature.OwnType.TheVariants.{Item}
use Rattle.plan_exec.specs.ColumnFunctions.{exploded_column, exploded_values, repeated}
use Rattle.plan_exec.specs.LaidFrames.{Shown}

-- one more column is made and put behind the others
pub column_put : (make : Shown → Shown) (columns made after : List Column) (column new : Column) → after ≡ made ++ new ∷ [] → shown new ≡ make (shown column) → map shown made ≡ map make (map shown columns) → map shown after ≡ map make (map shown (columns ++ column ∷ []))
column_put make columns made after column new put is so_far =
    ap (map shown) put ∙ map-append shown made (new ∷ []) ∙ (λ i. so_far i ++ is i ∷ []) ∙ sym (map-append make (map shown columns) (shown column ∷ [])) ∙ ap (map make) (sym (map-append shown columns (column ∷ [])))

module _ (test : Name → Bool) (counts : List ℕ) (old : Shown) where
  -- of lists their items
  pub listed_made : (type : Ty) (values : List Val) → test old.0.0 ≡ true → type ≡ own_type Item old.0.1 → values ≡ explode_values old.1 → ((old.0.0, type), values) ≡ exploded_column test counts old
  listed_made type values listed own made =
      let types = own ∙ sym (ap (λ b. cond b (own_type Item old.0.1) old.0.1) listed) in
      let items = made ∙ sym (ap (λ b. exploded_values b counts old.1) listed) in
      (λ i. ((old.0.0, types i), items i))

  -- of other values each so often
  pub repeated_made : (values : List Val) → test old.0.0 ≡ false → values ≡ repeated counts old.1 → (old.0, values) ≡ exploded_column test counts old
  repeated_made values other made =
      let types = sym (ap (λ b. cond b (own_type Item old.0.1) old.0.1) other) in
      let items = made ∙ sym (ap (λ b. exploded_values b counts old.1) other) in
      (λ i. ((old.0.0, types i), items i))
