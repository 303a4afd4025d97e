-- Expansion: of what is written with plans' ops alone, and of lists.
use Rattle.std.proofs.Common.{◌≡◌, ◌⊎◌, inl, inr, true, false, cond, ◌&&◌, List, [], ◌∷◌, ◌++◌, map, Result, Ok, Err, refl, sym, ap, ◌∙◌, subst}
use Rattle.std.specs.List.{Contains}
use Rattle.std.proofs.lemmas.Bool.{and_parts, and_from}
use Rattle.plan_types.specs.declared.error.ErrorKind.TheVariants.{InvalidOperation}
use Rattle.std.proofs.lemmas.List.{append_assoc}
use Rattle.std.proofs.lemmas.List.Elements.{Contains-append_left, Contains-push}
use Rattle.plan_types.specs.Schemas.{Name, Columns}
use Rattle.plan_types.specs.declared.error.ErrorKind.{ErrorKind}
use Rattle.plan_dsl.specs.Trees.{Trees, node, no_more, more, children_from}
use Rattle.plan_dsl.specs.Ops.{Op, Expression}
use Rattle.plan_dsl.specs.Refusals.{then_ok, each_ok, with_kinds, joined, lists_joined}
use Rattle.plan_dsl.specs.Sources.{SourceOp, Plain, WildcardOp, ColumnsOp, DtypeColumnOp, IndexColumnOp, NthOp, ExcludeOp, SelectorOp, RootOp, SetOp, RenameOp, FieldAtOp, Source, written, all_written, is_plain, all_are_plain, unwritten, all_unwritten}
use Rattle.plan_dsl.specs.Expansion.{markers_in, all_markers_in, repeated_for, plain, all_plain, aliased, all_fields_named, all_in_place, as_expression, expanded_alone, field_named, fields_named, in_place, over_inputs, spread, spreads, expansion, expansions, only_one, predicate_expansion}
use Rattle.plan_dsl.specs.Laws.{WrittenIsExpanded, PlainIsWritten, WrittenIsPlain, ListsAreExpandedApart}

-- ---- what is written with plans' ops alone

mutual
  no_markers : (tree : Expression) → markers_in (written tree) ≡ []
  no_markers (node op children) = none_have_markers children

  none_have_markers : (trees : Trees Op) → all_markers_in (all_written trees) ≡ []
  none_have_markers no_more = refl
  none_have_markers (more child rest) =
      let first = no_markers child in
      let later = none_have_markers rest in
      λ i. first i ++ later i

mutual
  pub written_is_plain : (tree : Expression) → plain (written tree) ≡ Ok tree
  written_is_plain (node op children) = ap (λ r. then_ok r (λ inputs. Ok (node op inputs))) (all_written_plain children)

  all_written_plain : (trees : Trees Op) → all_plain (all_written trees) ≡ Ok trees
  all_written_plain no_more = refl
  all_written_plain (more child rest) =
      let one = written_is_plain child in
      let later = all_written_plain rest in
      λ i. then_ok (one i) (λ first. then_ok (later i) (λ others. Ok (more first others)))

mutual
  pub written_has_plain_ops : (tree : Expression) → is_plain (written tree) ≡ true
  written_has_plain_ops (node op children) = all_have_plain_ops children

  all_have_plain_ops : (trees : Trees Op) → all_are_plain (all_written trees) ≡ true
  all_have_plain_ops no_more = refl
  all_have_plain_ops (more child rest) = and_from _ _ (written_has_plain_ops child) (all_have_plain_ops rest)

mutual
  pub unwritten_written : (tree : Expression) → unwritten (written tree) ≡ tree
  unwritten_written (node op children) = ap (node op) (all_unwritten_written children)

  all_unwritten_written : (trees : Trees Op) → all_unwritten (all_written trees) ≡ trees
  all_unwritten_written no_more = refl
  all_unwritten_written (more child rest) = λ i. more (unwritten_written child i) (all_unwritten_written rest i)

mutual
  pub plain_is_written : (source : Source) → is_plain source ≡ true → written (unwritten source) ≡ source
  plain_is_written (node (Plain op) children) h = ap (node (Plain op)) (all_plain_are_written children h)
  plain_is_written _ h = cc

  all_plain_are_written : (sources : Trees SourceOp) → all_are_plain sources ≡ true → all_written (all_unwritten sources) ≡ sources
  all_plain_are_written no_more h = refl
  all_plain_are_written (more child rest) h =
      let parts = and_parts (is_plain child) (all_are_plain rest) h in
      λ i. more (plain_is_written child parts.0 i) (all_plain_are_written rest parts.1 i)

-- so it comes to its expression, and all else to none
pub plain_found : (source : Source) → is_plain source ≡ true → plain source ≡ Ok (unwritten source)
plain_found source h = ap plain (sym (plain_is_written source h)) ∙ written_is_plain (unwritten source)

all_refused : (first : Result Expression ErrorKind) (rest : Result (Trees Op) ErrorKind) → (first ≡ Err InvalidOperation) ⊎ ((tree : Expression) × (first ≡ Ok tree) × (rest ≡ Err InvalidOperation)) → then_ok first (λ tree. then_ok rest (λ others. Ok (more tree others))) ≡ Err InvalidOperation
all_refused first rest (inl refused) = ap (λ r. then_ok r (λ tree. then_ok rest (λ others. Ok (more tree others)))) refused
all_refused first rest (inr (tree, found, refused)) = (λ i. then_ok (found i) (λ tree. then_ok (refused i) (λ others. Ok (more tree others))))

mutual
  pub others_are_refused : (source : Source) → is_plain source ≡ false → plain source ≡ Err InvalidOperation
  others_are_refused (node (Plain op) children) h = ap (λ r. then_ok r (λ inputs. Ok (node op inputs))) (all_others_refused children h)
  others_are_refused (node WildcardOp children) h = refl
  others_are_refused (node (ColumnsOp names) children) h = refl
  others_are_refused (node (DtypeColumnOp types) children) h = refl
  others_are_refused (node (IndexColumnOp places) children) h = refl
  others_are_refused (node (NthOp place) children) h = refl
  others_are_refused (node (ExcludeOp excluded) children) h = refl
  others_are_refused (node SelectorOp children) h = refl
  others_are_refused (node RootOp children) h = refl
  others_are_refused (node (SetOp rule) children) h = refl
  others_are_refused (node (RenameOp renaming) children) h = refl
  others_are_refused (node (FieldAtOp place) children) h = refl

  all_others_refused : (sources : Trees SourceOp) → all_are_plain sources ≡ false → all_plain sources ≡ Err InvalidOperation
  all_others_refused no_more h = absurd cc
  all_others_refused (more child rest) h =
      elim (is_plain child) as (λ b. is_plain child ≡ b → (b && all_are_plain rest) ≡ false → all_plain (more child rest) ≡ Err InvalidOperation) [ true ↦ λ e later. all_refused (plain child) (all_plain rest) (inr (unwritten child, plain_found child e, all_others_refused rest later)) | false ↦ λ e later. all_refused (plain child) (all_plain rest) (inl (others_are_refused child e)) ] refl h

pub what_is_plain : PlainIsWritten
what_is_plain source = record { written_so = λ h. plain_is_written source h; found = plain_found source; refused = others_are_refused source }

pub what_is_written : WrittenIsPlain
what_is_written tree = (written_has_plain_ops tree, unwritten_written tree)

-- its fields have names
field_stays : (schema : Columns) (op : Op) (children : Trees SourceOp) → field_named schema (Plain op) children ≡ Ok (node (Plain op) children)
field_stays schema op children = refl

mutual
  written_named : (schema : Columns) (tree : Expression) → fields_named schema (written tree) ≡ Ok (written tree)
  written_named schema (node op children) = ap (λ r. then_ok r (field_named schema (Plain op))) (all_written_named schema children)

  all_written_named : (schema : Columns) (trees : Trees Op) → all_fields_named schema (all_written trees) ≡ Ok (all_written trees)
  all_written_named schema no_more = refl
  all_written_named schema (more child rest) =
      let one = written_named schema child in
      let later = all_written_named schema rest in
      λ i. then_ok (one i) (λ first. then_ok (later i) (λ others. Ok (more first others)))

written_aliased : (tree : Expression) → aliased (written tree) ≡ Ok tree
written_aliased (node op children) = written_is_plain (node op children)

written_alone : (keys : List Name) (schema : Columns) (tree : Expression) → expanded_alone keys schema (written tree) ≡ Ok (tree ∷ [])
written_alone keys schema tree =
    ap (λ markers. then_ok (repeated_for keys schema (written tree) markers) (each_ok (as_expression schema))) (no_markers tree)
    ∙ ap (λ r. then_ok (then_ok r aliased) (λ found. Ok (found ∷ []))) (written_named schema tree)
    ∙ ap (λ r. then_ok r (λ found. Ok (found ∷ []))) (written_aliased tree)

-- and its inputs are in place
listed : Trees Op → List Expression
listed no_more = []
listed (more child rest) = child ∷ listed rest

written_listed : (trees : Trees Op) → children_from (map written (listed trees)) ≡ all_written trees
unfolding listed
written_listed no_more = refl
written_listed (more child rest) = ap (more (written child)) (written_listed rest)

written_spread : (keys : List Name) (schema : Columns) (trees : Trees Op) → spread keys schema (all_written trees) ≡ Ok (listed trees)
unfolding listed
written_spread keys schema no_more = refl
written_spread keys schema (more child rest) =
    let one = written_alone keys schema child in
    let later = written_spread keys schema rest in
    λ i. then_ok (one i) (λ first. then_ok (later i) (λ others. Ok (first ++ others)))

written_over : (keys : List Name) (schema : Columns) (op : Op) (trees : Trees Op) → over_inputs keys schema (Plain op) (all_written trees) ≡ Ok (node (Plain op) (all_written trees))
written_over keys schema op trees =
    elim (spreads (Plain op)) as (λ b. cond b (then_ok (spread keys schema (all_written trees)) (λ inputs. Ok (node (Plain op) (children_from (map written inputs))))) (Ok (node (Plain op) (all_written trees))) ≡ Ok (node (Plain op) (all_written trees))) [
      | true ↦ ap (λ r. then_ok r (λ inputs. Ok (node (Plain op) (children_from (map written inputs))))) (written_spread keys schema trees) ∙ ap (λ children. Ok (node (Plain op) children)) (written_listed trees)
      | false ↦ refl
    ]

mutual
  written_in_place : (keys : List Name) (schema : Columns) (tree : Expression) → in_place keys schema (written tree) ≡ Ok (written tree)
  written_in_place keys schema (node op children) = ap (λ r. then_ok r (over_inputs keys schema (Plain op))) (all_written_in_place keys schema children) ∙ written_over keys schema op children

  all_written_in_place : (keys : List Name) (schema : Columns) (trees : Trees Op) → all_in_place keys schema (all_written trees) ≡ Ok (all_written trees)
  all_written_in_place keys schema no_more = refl
  all_written_in_place keys schema (more child rest) =
      let one = written_in_place keys schema child in
      let later = all_written_in_place keys schema rest in
      λ i. then_ok (one i) (λ first. then_ok (later i) (λ others. Ok (more first others)))

pub written_is_expanded : WrittenIsExpanded
written_is_expanded keys schema tree = ap (λ r. then_ok r (expanded_alone keys schema)) (written_in_place keys schema tree) ∙ written_alone keys schema tree

pub all_written_expanded : (keys : List Name) (schema : Columns) (trees : List Expression) → expansions keys schema (map written trees) ≡ Ok trees
all_written_expanded keys schema [] = refl
all_written_expanded keys schema (tree ∷ trees) =
    let first = written_is_expanded keys schema tree in
    let later = all_written_expanded keys schema trees in
    λ i. joined (with_kinds (first i)) (later i)

pub predicate_written : (schema : Columns) (tree : Expression) → predicate_expansion schema (written tree) ≡ Ok tree
predicate_written schema tree = ap (λ r. then_ok r only_one) (written_is_expanded [] schema tree)

-- ---- lists

nothing_joined : {A : Type 0} (r : Result (List A) (List ErrorKind)) → r ≡ joined (Ok []) r
nothing_joined (Ok items) = refl
nothing_joined (Err kinds) = refl

joined_apart : {A : Type 0} (x y z : Result (List A) (List ErrorKind)) → joined x (joined y z) ≡ joined (joined x y) z
joined_apart (Ok xs) (Ok ys) (Ok zs) = ap Ok (sym (append_assoc xs ys zs))
joined_apart (Err xs) (Err ys) (Err zs) = ap Err (sym (append_assoc xs ys zs))
joined_apart (Ok xs) (Ok ys) (Err zs) = refl
joined_apart (Ok xs) (Err ys) (Ok zs) = refl
joined_apart (Ok xs) (Err ys) (Err zs) = refl
joined_apart (Err xs) (Ok ys) (Ok zs) = refl
joined_apart (Err xs) (Ok ys) (Err zs) = refl
joined_apart (Err xs) (Err ys) (Ok zs) = refl

pub expanded_apart : ListsAreExpandedApart
expanded_apart keys schema [] others = nothing_joined (expansions keys schema others)
expanded_apart keys schema (source ∷ sources) others =
    ap (joined (with_kinds (expansion keys schema source))) (expanded_apart keys schema sources others)
    ∙ joined_apart (with_kinds (expansion keys schema source)) (expansions keys schema sources) (expansions keys schema others)

-- ---- kinds

-- a refusal of lists is one by some kind
first_told : (kind : ErrorKind) (kinds others : List ErrorKind) → (kind ∷ kinds) ≡ others → (told : ErrorKind) × Contains others told
first_told kind kinds others h = (kind, subst (λ l. Contains l kind) h (Contains-append_left (kind ∷ []) kinds kind (Contains-push [] kind)))

-- where the first is refused by a kind, or the rest by some, so are both
joined_told : {A : Type 0} (first : Result (List A) ErrorKind) (rest : Result (List A) (List ErrorKind)) (kinds : List ErrorKind) → ((others : List ErrorKind) → rest ≡ Err others → (told : ErrorKind) × Contains others told) → joined (with_kinds first) rest ≡ Err kinds → (told : ErrorKind) × Contains kinds told
joined_told (Err kind) (Err others) kinds later h = first_told kind others kinds cc
joined_told (Err kind) (Ok items) kinds later h = first_told kind [] kinds cc
joined_told (Ok found) (Err others) kinds later h = later kinds h
joined_told (Ok found) (Ok items) kinds later h = absurd cc

-- so lists of which one is refused are refused by some kind
pub lists_told : {A B : Type 0} (definition : A → Result (List B) ErrorKind) (items : List A) (kinds : List ErrorKind) → lists_joined definition items ≡ Err kinds → (told : ErrorKind) × Contains kinds told
lists_told definition [] kinds h = absurd cc
lists_told definition (item ∷ items) kinds h = joined_told (definition item) (lists_joined definition items) kinds (lists_told definition items) h

pub unexpanded_told : (keys : List Name) (schema : Columns) (sources : List Source) (kinds : List ErrorKind) → expansions keys schema sources ≡ Err kinds → (told : ErrorKind) × Contains kinds told
unexpanded_told keys schema sources kinds h = lists_told (expansion keys schema) sources kinds h

pub with_kinds_told : {A : Type 0} (r : Result A ErrorKind) (kinds : List ErrorKind) → with_kinds r ≡ Err kinds → (told : ErrorKind) × Contains kinds told
with_kinds_told (Ok found) kinds h = absurd cc
with_kinds_told (Err kind) kinds h = first_told kind [] kinds cc
