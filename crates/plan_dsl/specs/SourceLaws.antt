-- Laws of comparing source expressions.
use Rattle.std.specs.Prelude.{◌≡◌, Bool, true}
use Rattle.std.specs.Bool.{Decides}
use Rattle.std.specs.Cmp.Lexicographic.{pointwise_decides}
use Rattle.std.proofs.Common.{refl, ap, subst}
use Rattle.std.proofs.lemmas.Slice.Eq.{bytes_eq-Decides}
use Rattle.std.proofs.lemmas.Bool.Decides.{Decides-int_eq}
use Rattle.plan_types.specs.Types.{Ty, same_type}
use Rattle.plan_types.specs.TypeLaws.{same_type_exact, same_type_own}
use Rattle.plan_dsl.specs.ExpressionLaws.{same_op_exact, same_op_own, same_tree_exact, same_tree_own}
use Rattle.plan_dsl.specs.Sources.{Excluded, ExcludedName, ExcludedType, SetRule, Add, Sub, Intersect, ExclusiveOr, Renaming, KeepRoot, AddPrefix, AddSuffix, SetName, SourceOp, Plain, WildcardOp, ColumnsOp, DtypeColumnOp, IndexColumnOp, NthOp, ExcludeOp, SelectorOp, RootOp, SetOp, RenameOp, FieldAtOp, Source, same_excluded, same_rule, same_renaming, same_source_op, same_source}

-- a test that is true of equal things alone, and of each with itself, decides whether two are one
decided : {A : Type 0} (test : A → A → Bool) → ((a b : A) → test a b ≡ true → a ≡ b) → ((a : A) → test a a ≡ true) → (a b : A) → Decides (test a b) (a ≡ b)
decided test exact own a b = (exact a b, λ e. subst (λ x. test a x ≡ true) e (own a))

types_decided : (a b : Ty) → Decides (same_type a b) (a ≡ b)
types_decided = decided same_type same_type_exact same_type_own

pub same_excluded_exact : (a b : Excluded) → same_excluded a b ≡ true → a ≡ b
same_excluded_exact (ExcludedName name) (ExcludedName other) h = ap ExcludedName ((bytes_eq-Decides name other).0 h)
same_excluded_exact (ExcludedType type) (ExcludedType other) h = ap ExcludedType (same_type_exact type other h)
same_excluded_exact _ _ h = cc

pub same_excluded_own : (a : Excluded) → same_excluded a a ≡ true
same_excluded_own (ExcludedName name) = (bytes_eq-Decides name name).1 refl
same_excluded_own (ExcludedType type) = same_type_own type

excluded_decided : (a b : Excluded) → Decides (same_excluded a b) (a ≡ b)
excluded_decided = decided same_excluded same_excluded_exact same_excluded_own

same_rule_exact : (a b : SetRule) → same_rule a b ≡ true → a ≡ b
same_rule_exact Add Add h = refl
same_rule_exact Sub Sub h = refl
same_rule_exact Intersect Intersect h = refl
same_rule_exact ExclusiveOr ExclusiveOr h = refl
same_rule_exact _ _ h = cc

same_rule_own : (a : SetRule) → same_rule a a ≡ true
same_rule_own Add = refl
same_rule_own Sub = refl
same_rule_own Intersect = refl
same_rule_own ExclusiveOr = refl

pub same_renaming_exact : (a b : Renaming) → same_renaming a b ≡ true → a ≡ b
same_renaming_exact KeepRoot KeepRoot h = refl
same_renaming_exact (AddPrefix text) (AddPrefix other) h = ap AddPrefix ((bytes_eq-Decides text other).0 h)
same_renaming_exact (AddSuffix text) (AddSuffix other) h = ap AddSuffix ((bytes_eq-Decides text other).0 h)
same_renaming_exact (SetName text) (SetName other) h = ap SetName ((bytes_eq-Decides text other).0 h)
same_renaming_exact _ _ h = cc

pub same_renaming_own : (a : Renaming) → same_renaming a a ≡ true
same_renaming_own KeepRoot = refl
same_renaming_own (AddPrefix text) = (bytes_eq-Decides text text).1 refl
same_renaming_own (AddSuffix text) = (bytes_eq-Decides text text).1 refl
same_renaming_own (SetName text) = (bytes_eq-Decides text text).1 refl

-- nodes that compare equal do the same
pub same_source_op_exact : (a b : SourceOp) → same_source_op a b ≡ true → a ≡ b
same_source_op_exact (Plain op) (Plain other) h = ap Plain (same_op_exact op other h)
same_source_op_exact WildcardOp WildcardOp h = refl
same_source_op_exact (ColumnsOp names) (ColumnsOp others) h = ap ColumnsOp ((pointwise_decides bytes_eq-Decides names others).0 h)
same_source_op_exact (DtypeColumnOp types) (DtypeColumnOp others) h = ap DtypeColumnOp ((pointwise_decides types_decided types others).0 h)
same_source_op_exact (IndexColumnOp places) (IndexColumnOp others) h = ap IndexColumnOp ((pointwise_decides Decides-int_eq places others).0 h)
same_source_op_exact (NthOp place) (NthOp other) h = ap NthOp ((Decides-int_eq place other).0 h)
same_source_op_exact (ExcludeOp excluded) (ExcludeOp others) h = ap ExcludeOp ((pointwise_decides excluded_decided excluded others).0 h)
same_source_op_exact SelectorOp SelectorOp h = refl
same_source_op_exact RootOp RootOp h = refl
same_source_op_exact (SetOp rule) (SetOp other) h = ap SetOp (same_rule_exact rule other h)
same_source_op_exact (RenameOp renaming) (RenameOp other) h = ap RenameOp (same_renaming_exact renaming other h)
same_source_op_exact (FieldAtOp place) (FieldAtOp other) h = ap FieldAtOp ((Decides-int_eq place other).0 h)
same_source_op_exact _ _ h = cc

pub same_source_op_own : (a : SourceOp) → same_source_op a a ≡ true
same_source_op_own (Plain op) = same_op_own op
same_source_op_own WildcardOp = refl
same_source_op_own (ColumnsOp names) = (pointwise_decides bytes_eq-Decides names names).1 refl
same_source_op_own (DtypeColumnOp types) = (pointwise_decides types_decided types types).1 refl
same_source_op_own (IndexColumnOp places) = (pointwise_decides Decides-int_eq places places).1 refl
same_source_op_own (NthOp place) = (Decides-int_eq place place).1 refl
same_source_op_own (ExcludeOp excluded) = (pointwise_decides excluded_decided excluded excluded).1 refl
same_source_op_own SelectorOp = refl
same_source_op_own RootOp = refl
same_source_op_own (SetOp rule) = same_rule_own rule
same_source_op_own (RenameOp renaming) = same_renaming_own renaming
same_source_op_own (FieldAtOp place) = (Decides-int_eq place place).1 refl

pub same_source_exact : (tree other : Source) → same_source tree other ≡ true → tree ≡ other
same_source_exact = same_tree_exact same_source_op same_source_op_exact

pub same_source_own : (tree : Source) → same_source tree tree ≡ true
same_source_own = same_tree_own same_source_op same_source_op_own

pub same_source_decides : (tree other : Source) → Decides (same_source tree other) (tree ≡ other)
same_source_decides = decided same_source same_source_exact same_source_own
