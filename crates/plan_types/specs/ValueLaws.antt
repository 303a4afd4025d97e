-- Laws of comparing values, and what of them is hashed.
use Rattle.std.specs.Prelude.{◌≡◌, ℕ, suc, true, false, [], ◌++◌, encode_utf8_all}
use Rattle.std.specs.Cmp.{IsEquivalence}
use Rattle.std.specs.Hash as fed
use Rattle.std.specs.Hash.{HashWrites}
use Rattle.std.specs.Ordering.{on}
use Rattle.std.proofs.Common.{refl, ap, ◌∙◌}
use Rattle.std.proofs.lemmas.Slice.Eq.{bytes_eq-Decides}
use Rattle.std.proofs.lemmas.Bool.{and_parts, and_from}
use Rattle.std.proofs.lemmas.Bool.Decides.{Decides-int_eq}
use Rattle.std.proofs.lemmas.Cmp.{on_equiv}
use Rattle.plan_types.specs.TypeLaws.{equivalence_from_exact}
use Rattle.plan_types.specs.Values.{Val, NullValue, TruthValue, IntValue, TextValue, ListValue, StructValue, Vals, no_value, with_value, same_value, same_values}
use Rattle.plan_types.specs.ValueViews.{val_of, parts_of}
use Rattle.plan_types.specs.declared.value.Value.{Value}
use Rattle.plan_types.specs.declared.value.Parts.{Parts}

-- values that compare equal are one
mutual
  pub same_value_exact : (a b : Val) → same_value a b ≡ true → a ≡ b
  same_value_exact NullValue NullValue h = refl
  same_value_exact (TruthValue true) (TruthValue true) h = refl
  same_value_exact (TruthValue false) (TruthValue false) h = refl
  same_value_exact (IntValue m) (IntValue n) h = ap IntValue ((Decides-int_eq m n).0 h)
  same_value_exact (TextValue s) (TextValue t) h = ap TextValue ((bytes_eq-Decides s t).0 h)
  same_value_exact (ListValue r) (ListValue s) h = ap ListValue (same_values_exact r s h)
  same_value_exact (StructValue r) (StructValue s) h = ap StructValue (same_values_exact r s h)
  same_value_exact _ _ h = cc

  pub same_values_exact : (r s : Vals) → same_values r s ≡ true → r ≡ s
  same_values_exact no_value no_value h = refl
  same_values_exact no_value (with_value b s) h = cc
  same_values_exact (with_value a r) no_value h = cc
  same_values_exact (with_value a r) (with_value b s) h =
      let both = and_parts (same_value a b) (same_values r s) h in
      ap (λ first. with_value first r) (same_value_exact a b both.0) ∙ ap (with_value b) (same_values_exact r s both.1)

mutual
  pub same_value_own : (a : Val) → same_value a a ≡ true
  same_value_own NullValue = refl
  same_value_own (TruthValue true) = refl
  same_value_own (TruthValue false) = refl
  same_value_own (IntValue n) = (Decides-int_eq n n).1 refl
  same_value_own (TextValue t) = (bytes_eq-Decides t t).1 refl
  same_value_own (ListValue r) = same_values_own r
  same_value_own (StructValue r) = same_values_own r

  pub same_values_own : (r : Vals) → same_values r r ≡ true
  same_values_own no_value = refl
  same_values_own (with_value a r) = and_from _ _ (same_value_own a) (same_values_own r)

pub same_value_is_equivalence : IsEquivalence (on val_of same_value)
same_value_is_equivalence = on_equiv val_of (equivalence_from_exact same_value same_value_exact same_value_own)

pub same_values_is_equivalence : IsEquivalence (on parts_of same_values)
same_values_is_equivalence = on_equiv parts_of (equivalence_from_exact same_values same_values_exact same_values_own)

-- how many values there are
abbrev pub value_count : Vals → ℕ
value_count no_value = 0
value_count (with_value first rest) = suc (value_count rest)

-- what of a value is hashed: its kind, and its truth, number or text, or how many values it has and each of them, in
-- order
abbrev mutual
  pub value_writes : Val → HashWrites
  value_writes NullValue = fed.u32 0
  value_writes (TruthValue truth) = fed.u32 1 ++ fed.bool truth
  value_writes (IntValue number) = fed.u32 2 ++ fed.i128 number
  value_writes (TextValue text) = fed.u32 3 ++ fed.str (encode_utf8_all text)
  value_writes (ListValue items) = fed.u32 4 ++ (fed.usize (value_count items) ++ each_writes items)
  value_writes (StructValue parts) = fed.u32 5 ++ (fed.usize (value_count parts) ++ each_writes parts)

  pub each_writes : Vals → HashWrites
  each_writes no_value = []
  each_writes (with_value first rest) = value_writes first ++ each_writes rest

abbrev pub parts_writes : Vals → HashWrites
parts_writes parts = fed.usize (value_count parts) ++ each_writes parts

-- equal values are hashed alike
pub same_value_hash : (a b : Value) → same_value (val_of a) (val_of b) ≡ true → value_writes (val_of a) ≡ value_writes (val_of b)
same_value_hash a b h = ap value_writes (same_value_exact (val_of a) (val_of b) h)

pub same_values_hash : (a b : Parts) → same_values (parts_of a) (parts_of b) ≡ true → parts_writes (parts_of a) ≡ parts_writes (parts_of b)
same_values_hash a b h = ap parts_writes (same_values_exact (parts_of a) (parts_of b) h)
