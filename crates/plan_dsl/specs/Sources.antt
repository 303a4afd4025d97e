-- Expressions as queries write them.
-- A source expression has ops of its own beside those of plans. A marker stands for columns of a schema, a selector makes
-- one list of names of others, and a renaming form gives an expression the name of its first column, as it is or changed.
-- A struct's field may be told by its place.
-- Expansion leaves none of them.
use Rattle.std.specs.Prelude.{ℕ, ℤ, List, ◌++◌, Bool, true, false, ◌&&◌, encode_utf8_all}
use Rattle.std.specs.Hash as fed
use Rattle.std.specs.Cmp.Lexicographic.{pointwise}
use Rattle.std.specs.Ordering.{int_eq}
use Rattle.plan_types.specs.Types.{Ty, same_type, type_writes}
use Rattle.plan_types.specs.Schemas.{Name, same_name}
use Rattle.plan_dsl.specs.Trees.{Tree, Trees, node, no_more, more}
use Rattle.plan_dsl.specs.Ops.{Op, LenOp, Expression}
use Rattle.plan_dsl.specs.declared.function_expr.FunctionExpr.TheVariants.{FieldByIndex}
use Rattle.plan_dsl.specs.Functions.{function_writes}
use Rattle.plan_dsl.specs.SameExpressions.{same_op, same_tree, op_writes, tree_writes}

-- what an exclude leaves out: the column of a name, or those of a type
pub data Excluded : Type 0 where
  ExcludedName : (name : Name) → Excluded
  ExcludedType : (type : Ty) → Excluded

-- how a selector makes one list of names of two
pub data SetRule : Type 0 where
  Add : SetRule
  Sub : SetRule
  Intersect : SetRule
  ExclusiveOr : SetRule

-- what a renaming form makes of the name of the first column
pub data Renaming : Type 0 where
  KeepRoot : Renaming
  AddPrefix : (text : Name) → Renaming
  AddSuffix : (text : Name) → Renaming
  SetName : (text : Name) → Renaming

-- An exclude stands over another marker. A selector's marker stands over a tree of roots, each over an expression, and of
-- rules that join two selectors.
pub data SourceOp : Type 0 where
  Plain : (op : Op) → SourceOp
  WildcardOp : SourceOp
  ColumnsOp : (names : List Name) → SourceOp
  DtypeColumnOp : (types : List Ty) → SourceOp
  IndexColumnOp : (places : List ℤ) → SourceOp
  NthOp : (place : ℤ) → SourceOp
  ExcludeOp : (excluded : List Excluded) → SourceOp
  SelectorOp : SourceOp
  RootOp : SourceOp
  SetOp : (rule : SetRule) → SourceOp
  RenameOp : (renaming : Renaming) → SourceOp
  FieldAtOp : (place : ℤ) → SourceOp

abbrev pub Source : Type 0
Source = Tree SourceOp

-- ---- with plans' ops alone

abbrev mutual
  -- an expression as a query writes it
  pub written : Expression → Source
  written (node op children) = node (Plain op) (all_written children)

  pub all_written : Trees Op → Trees SourceOp
  all_written no_more = no_more
  all_written (more child rest) = more (written child) (all_written rest)

abbrev mutual
  -- whether it has plans' ops alone
  pub is_plain : Source → Bool
  is_plain (node (Plain op) children) = all_are_plain children
  is_plain source = false

  pub all_are_plain : Trees SourceOp → Bool
  all_are_plain no_more = true
  all_are_plain (more child rest) = is_plain child && all_are_plain rest

abbrev mutual
  -- the expression that is written so; what has other ops is none, and a number of rows stands in its place
  pub unwritten : Source → Expression
  unwritten (node (Plain op) children) = node op (all_unwritten children)
  unwritten source = node LenOp no_more

  pub all_unwritten : Trees SourceOp → Trees Op
  all_unwritten no_more = no_more
  all_unwritten (more child rest) = more (unwritten child) (all_unwritten rest)

-- a selector of two
abbrev pub of_two : SetRule → Source → Source → Source
of_two rule first second = node (SetOp rule) (more first (more second no_more))

-- ---- what is one

abbrev pub same_excluded : Excluded → Excluded → Bool
same_excluded (ExcludedName name) (ExcludedName other) = same_name name other
same_excluded (ExcludedType type) (ExcludedType other) = same_type type other
same_excluded excluded other = false

abbrev pub same_rule : SetRule → SetRule → Bool
same_rule Add Add = true
same_rule Sub Sub = true
same_rule Intersect Intersect = true
same_rule ExclusiveOr ExclusiveOr = true
same_rule rule other = false

abbrev pub same_renaming : Renaming → Renaming → Bool
same_renaming KeepRoot KeepRoot = true
same_renaming (AddPrefix text) (AddPrefix other) = same_name text other
same_renaming (AddSuffix text) (AddSuffix other) = same_name text other
same_renaming (SetName text) (SetName other) = same_name text other
same_renaming renaming other = false

-- whether two nodes do the same
abbrev pub same_source_op : SourceOp → SourceOp → Bool
same_source_op (Plain op) (Plain other) = same_op op other
same_source_op WildcardOp WildcardOp = true
same_source_op (ColumnsOp names) (ColumnsOp others) = pointwise same_name names others
same_source_op (DtypeColumnOp types) (DtypeColumnOp others) = pointwise same_type types others
same_source_op (IndexColumnOp places) (IndexColumnOp others) = pointwise int_eq places others
same_source_op (NthOp place) (NthOp other) = int_eq place other
same_source_op (ExcludeOp excluded) (ExcludeOp others) = pointwise same_excluded excluded others
same_source_op SelectorOp SelectorOp = true
same_source_op RootOp RootOp = true
same_source_op (SetOp rule) (SetOp other) = same_rule rule other
same_source_op (RenameOp renaming) (RenameOp other) = same_renaming renaming other
same_source_op (FieldAtOp place) (FieldAtOp other) = int_eq place other
same_source_op op other = false

-- whether two source expressions are one
abbrev pub same_source : Source → Source → Bool
same_source tree other = same_tree same_source_op tree other

-- ---- hashes

abbrev pub excluded_writes : Excluded → List (List ℕ)
excluded_writes (ExcludedName name) = fed.u8 0 ++ fed.str (encode_utf8_all name)
excluded_writes (ExcludedType type) = fed.u8 1 ++ type_writes type

-- the number of a rule: no two have the same, and a root has 0
abbrev pub rule_rank : SetRule → ℕ
rule_rank Add = 1
rule_rank Sub = 2
rule_rank ExclusiveOr = 3
rule_rank Intersect = 4

abbrev pub renaming_writes : Renaming → List (List ℕ)
renaming_writes KeepRoot = fed.u8 17
renaming_writes (AddPrefix text) = fed.u8 19 ++ (fed.u8 0 ++ fed.str (encode_utf8_all text))
renaming_writes (AddSuffix text) = fed.u8 19 ++ (fed.u8 1 ++ fed.str (encode_utf8_all text))
renaming_writes (SetName text) = fed.u8 19 ++ (fed.u8 2 ++ fed.str (encode_utf8_all text))

-- what is hashed of a node: of one of plans' ops what is hashed there
abbrev pub source_op_writes : SourceOp → List (List ℕ)
source_op_writes (Plain op) = op_writes op
source_op_writes (ColumnsOp names) = fed.u8 12 ++ fed.slice (λ name. fed.str (encode_utf8_all name)) names
source_op_writes (DtypeColumnOp types) = fed.u8 13 ++ fed.slice type_writes types
source_op_writes (IndexColumnOp places) = fed.u8 14 ++ fed.slice fed.i64 places
source_op_writes WildcardOp = fed.u8 15
source_op_writes (ExcludeOp excluded) = fed.u8 16 ++ fed.slice excluded_writes excluded
source_op_writes (NthOp place) = fed.u8 18 ++ fed.i64 place
source_op_writes (RenameOp renaming) = renaming_writes renaming
source_op_writes SelectorOp = fed.u8 20
source_op_writes (FieldAtOp place) = fed.u8 24 ++ function_writes (FieldByIndex place)
source_op_writes RootOp = fed.u8 0
source_op_writes (SetOp rule) = fed.u8 (rule_rank rule)

abbrev pub source_writes : Source → List (List ℕ)
source_writes source = tree_writes source_op_writes source
