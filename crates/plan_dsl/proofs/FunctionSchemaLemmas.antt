-- Schemas of what functions make: names that are looked at one by one, sets of names, and columns at places.
use Rattle.std.proofs.Common.{◌≡◌, ℕ, ◌<◌, ◌+◌, ◌≤◌, List, [], ◌∷◌, ◌++◌, drop, map, get_or, slice_get, length, ◌==◌, Bool, true, false, cond, ◌&&◌, ◌||◌, not, is_some, Bor, Option, Some, None, Result, Ok, Err, IfOk, IfErr, inl, inr, refl, sym, ap, ◌∙◌, subst, append-nil, append_assoc, arith}
use Rattle.std.specs.List.{Contains, list_all, list_any}
use Rattle.std.proofs.lemmas.Bool.{or_right}
use Rattle.std.proofs.lemmas.List.{drop_all, map-append}
use Rattle.std.proofs.lemmas.List.Elements.{Contains-get_or}
use Rattle.std.proofs.lemmas.List.Folds.{list_any-append}
use Rattle.std.proofs.lemmas.Option.{slice_get_within, slice_get-get_or, get_or_from_slice_get}
use Rattle.std.proofs.lemmas.Slice.Eq.{bytes_eq-Decides}
use Rattle.indexmap.specs.IndexSet.{insert_key}
use Rattle.plan_types.specs.Types.{Ty, field_of, fields_from, fields_in, fields_of}
use Rattle.plan_types.specs.Schemas.{Name, Columns, columns, same_name, type_at, is_among, names_of, repeats}
use Rattle.plan_types.specs.Errors.{at_top, IsMemoryOr}
use Rattle.plan_types.specs.SchemaCalls.{types_of}
use Rattle.plan_types.specs.declared.error.ErrorKind.{ErrorKind}
use Rattle.plan_types.specs.declared.error.ErrorKind.TheVariants.{ColumnNotFound, Duplicate, InvalidOperation, SchemaMismatch}
use Rattle.plan_types.specs.declared.error.PlanError.{PlanError}
use Rattle.plan_types.specs.declared.schema.Schema.{Schema}
use Rattle.plan_types.specs.declared.dtype.Fields.{Fields as StructFields, out-Fields}
use Rattle.plan_types.specs.declared.field.Field.{Field}
use Rattle.plan_types.proofs.FieldLemmas.{listed_fields}
use Rattle.plan_types.proofs.ListLemmas.{item_left, map-map}
use Rattle.plan_types.proofs.SchemaLemmas.{is_among-type_at, repeated_test, schema_has_distinct_names, test_from_distinct}
use Rattle.plan_dsl.specs.declared.signature.OwnType.TheVariants.{Item}
use Rattle.plan_dsl.specs.Drops.{have_names}
use Rattle.plan_dsl.specs.FunctionSchemas.{HasWorkSchema, IsOneOf}
use Rattle.plan_dsl.specs.PlanRules.{work_kinds, work_schema}
use Rattle.plan_dsl.specs.Plans.{Work}
use Rattle.plan_dsl.specs.Refusals.{kind_where}
use Rattle.plan_dsl.specs.Signatures.{is_list, own_type}
use Rattle.plan_dsl.specs.TableFunctions.{RowIndexFunction}
use Rattle.plan_dsl.specs.TableRules.{columns_under, distinct_kinds, explode_kinds, exploded_columns, field_columns, function_kinds, indexed_columns, is_struct, opened_column, unnest_kinds, unnested_columns, where_standing}

-- ---- names that must stand

names_left : (schema : Columns) (names rest : List Name) (name : Name) (found : Bool) → names ≡ name ∷ rest → is_some (type_at schema name) ≡ found → have_names schema names ≡ (found && have_names schema rest)
names_left schema names rest name found is there = ap (have_names schema) is ∙ ap (λ b. b && have_names schema rest) (is_among-type_at schema name ∙ there)

-- one by one: those that are left decide, where one is there, and none where it isn't
pub names_more : (schema : Columns) (names rest : List Name) (name : Name) (all : Bool) → names ≡ name ∷ rest → is_some (type_at schema name) ≡ true → have_names schema names ≡ all → have_names schema rest ≡ all
names_more schema names rest name all is there so_far = sym (names_left schema names rest name true is there) ∙ so_far

pub names_end : (schema : Columns) (names rest : List Name) (name : Name) (all : Bool) → names ≡ name ∷ rest → is_some (type_at schema name) ≡ false → have_names schema names ≡ all → false ≡ all
names_end schema names rest name all is absent so_far = sym (names_left schema names rest name false is absent) ∙ so_far

-- ---- sets of names

-- whether one of the keys shows the name
abbrev pub has_name : List (Bor Name) → Name → Bool
has_name keys name = list_any (λ key. same_name name key.now) keys

or_false : (b : Bool) → (b || false) ≡ b
or_false true = refl
or_false false = refl

or_grouped : (a b c : Bool) → ((a || b) || c) ≡ (a || (b || c))
or_grouped true b c = refl
or_grouped false b c = refl

-- a name that is there counts once
once_there : (keys : List (Bor Name)) (own name : Name) → has_name keys own ≡ true → has_name keys name ≡ (has_name keys name || same_name name own)
once_there keys own name there =
    elim (same_name name own) as (λ b. same_name name own ≡ b → has_name keys name ≡ (has_name keys name || b)) [ true ↦ λ e. ap (has_name keys) ((bytes_eq-Decides name own).0 e) ∙ there ∙ sym (or_right (has_name keys name) true refl) | false ↦ λ e. sym (or_false (has_name keys name)) ] refl

-- a set has the names that it had, and the one that is put in
put_in_set : (keys : List (Bor Name)) (key : Bor Name) (name : Name) → has_name (insert_key (λ x y. same_name x.now y.now) keys key) name ≡ (has_name keys name || same_name name key.now)
put_in_set keys key name =
    elim (has_name keys key.now) as (λ b. has_name keys key.now ≡ b → has_name (cond b keys (keys ++ key ∷ [])) name ≡ (has_name keys name || same_name name key.now)) [ true ↦ λ e. once_there keys key.now name e | false ↦ λ e. list_any-append (λ (k : Bor Name). same_name name k.now) keys (key ∷ []) ∙ ap (λ b. has_name keys name || b) (or_false (same_name name key.now)) ] refl

-- one more name is put into the set
pub set_more : (keys new : List (Bor Name)) (key : Bor Name) (names : List Name) (i : ℕ) (own : Name) → i < length names → own ≡ get_or names i own → key.now ≡ own → new ≡ insert_key (λ x y. same_name x.now y.now) keys key → ((name : Name) → (has_name keys name || is_among name (drop i names)) ≡ is_among name names) → (name : Name) → (has_name new name || is_among name (drop (i + 1) names)) ≡ is_among name names
set_more keys new key names i own within at shows put so_far name =
    let rest = is_among name (drop (i + 1) names) in
    let made = ap (λ l. has_name l name) put ∙ put_in_set keys key name ∙ ap (λ n. has_name keys name || same_name name n) shows in
    ap (λ b. b || rest) made ∙ or_grouped (has_name keys name) (same_name name own) rest ∙ ap (λ l. has_name keys name || is_among name l) (sym (item_left names i own own within at)) ∙ so_far name

-- all names are in the set
pub set_end : (keys : List (Bor Name)) (names : List Name) (i : ℕ) → length names ≤ i → ((name : Name) → (has_name keys name || is_among name (drop i names)) ≡ is_among name names) → (name : Name) → has_name keys name ≡ is_among name names
set_end keys names i past so_far name =
    sym (or_false (has_name keys name)) ∙ ap (λ l. has_name keys name || is_among name l) (sym (drop_all i names past)) ∙ so_far name

-- ---- columns that are put behind each other

-- at a number below theirs there is a column
pub column_there : (others : Columns) (i : ℕ) → i < length others → slice_get others i ≡ None → ⊥
column_there [] i within none = omega arith
column_there (c ∷ others) i within none = let found = slice_get-get_or (c ∷ others) i c within in cc

-- what is made of one column more, by the column's number
pub columns_put : (make : Columns → Columns) (put done new whole all : Columns) (i : ℕ) (column : Name × Ty) → slice_get whole i ≡ Some column → make (column ∷ drop (i + 1) whole) ≡ put ++ make (drop (i + 1) whole) → new ≡ done ++ put → done ++ make (drop i whole) ≡ all → new ++ make (drop (i + 1) whole) ≡ all
columns_put make put done new whole all i column at makes grown so_far =
    let rest = make (drop (i + 1) whole) in
    let left = item_left whole i column column (slice_get_within whole i column at) (sym (get_or_from_slice_get whole i column column at)) in
    ap (λ l. l ++ rest) grown ∙ append_assoc done put rest ∙ ap (λ l. done ++ l) (sym makes ∙ ap make (sym left)) ∙ so_far

pub exploded_more : (names : List Name) (has : Bool) (done new whole : Columns) (i : ℕ) (column : Name × Ty) (type : Ty) → slice_get whole i ≡ Some column → has ≡ is_among column.0 names → type ≡ cond has (own_type Item column.1) column.1 → new ≡ done ++ (column.0, type) ∷ [] → done ++ exploded_columns names (drop i whole) ≡ exploded_columns names whole → new ++ exploded_columns names (drop (i + 1) whole) ≡ exploded_columns names whole
exploded_more names has done new whole i column type at told is grown so_far =
    let same = ap (λ b. cond b (own_type Item column.1) column.1) (sym told) ∙ sym is in
    columns_put (exploded_columns names) ((column.0, type) ∷ []) done new whole (exploded_columns names whole) i column at (ap (λ t. (column.0, t) ∷ exploded_columns names (drop (i + 1) whole)) same) grown so_far

pub unnested_more : (names : List Name) (has : Bool) (done new whole : Columns) (i : ℕ) (column : Name × Ty) → slice_get whole i ≡ Some column → has ≡ is_among column.0 names → new ≡ done ++ cond has (opened_column column) (column ∷ []) → done ++ unnested_columns names (drop i whole) ≡ unnested_columns names whole → new ++ unnested_columns names (drop (i + 1) whole) ≡ unnested_columns names whole
unnested_more names has done new whole i column at told grown so_far =
    let put = cond has (opened_column column) (column ∷ []) in
    columns_put (unnested_columns names) put done new whole (unnested_columns names whole) i column at (ap (λ b. cond b (opened_column column) (column ∷ []) ++ unnested_columns names (drop (i + 1) whole)) (sym told)) grown so_far

-- all columns are put
pub all_put : (done whole all : Columns) (i : ℕ) → length whole ≤ i → done ++ drop i whole ≡ all → done ≡ all
all_put done whole all i past so_far = sym (append-nil done) ∙ ap (λ l. done ++ l) (sym (drop_all i whole past)) ∙ so_far

-- fields as columns are these columns
fields_as_columns : (columns : Columns) → field_columns (fields_from columns) ≡ columns
fields_as_columns [] = refl
fields_as_columns (column ∷ columns) = ap (λ l. column ∷ l) (fields_as_columns columns)

-- all fields of a struct are put behind the others
pub fields_put : (old new : Columns) (own : StructFields) (items : List Field) (i : ℕ) → items ≡ (out-Fields own).items.items → length items ≤ i → new ++ map field_of (drop i items) ≡ old ++ map field_of items → new ≡ old ++ field_columns (fields_of own)
fields_put old new own items i shown past so_far =
    let fields = fields_as_columns (map field_of items) in
    let own_fields = ap (λ l. field_columns (fields_in l)) shown ∙ ap field_columns (sym (listed_fields own)) in
    sym (append-nil new) ∙ ap (λ l. new ++ map field_of l) (sym (drop_all i items past)) ∙ so_far ∙ ap (λ l. old ++ l) (sym fields ∙ own_fields)

-- a column whose name is there already is refused, and then a name stands twice
pub refused_twice : (own rest whole : Columns) (column : Name × Ty) (error : PlanError) → own ++ column ∷ rest ≡ whole → IsMemoryOr Duplicate (is_some (type_at own column.0) ≡ true) error → IsMemoryOr Duplicate (repeats (names_of whole) ≡ true) error
refused_twice own rest whole column error so_far (inl memory) = inl memory
refused_twice own rest whole column error so_far (inr told) =
    inr (told.0, ap (λ l. repeats (names_of l)) (sym so_far) ∙ ap repeats (map-append (λ (c : Name × Ty). c.0) own (column ∷ rest)) ∙ repeated_test own column.0 (names_of rest) told.1)

-- ---- what is answered

module _ (work : Work) (schema : Columns) where
  -- a kind that is broken refuses it
  pub refused_made : (kind : ErrorKind) (rest : List ErrorKind) (error : PlanError) → work_kinds work schema [] ≡ kind ∷ rest → error ≡ at_top kind → HasWorkSchema work schema (Err error)
  refused_made kind rest error kinds told =
      let broken = subst (λ l. Contains l kind) (sym kinds) (Contains-get_or (kind ∷ rest) 0 kind (omega arith)) in
      record { unbroken = tt; ok = tt; err = subst (IsOneOf (work_kinds work schema [])) (sym told) (inr (refl, broken)) }

  -- columns whose names must be distinct, where nothing else is broken
  pub distinct_made : (whole made : Columns) (result : Result Schema PlanError) → made ≡ whole → work_kinds work schema [] ≡ distinct_kinds (names_of whole) → work_schema work schema [] ≡ whole → IfOk result (λ own. columns own ≡ made) → IfErr result (IsMemoryOr Duplicate (repeats (names_of made) ≡ true)) → HasWorkSchema work schema result
  distinct_made whole made (Ok own) is kinds makes ok refused =
      let same = ok ∙ is in
      let apart = ap (λ l. repeats (names_of l)) (sym same) ∙ test_from_distinct (columns own) (schema_has_distinct_names own) in
      record { unbroken = kinds ∙ ap (λ b. kind_where b Duplicate) apart; ok = same ∙ sym makes; err = tt }
  distinct_made whole made (Err error) is kinds makes ok (inl memory) = record { unbroken = tt; ok = tt; err = inl memory }
  distinct_made whole made (Err error) is kinds makes ok (inr told) =
      let twice = ap (λ l. repeats (names_of l)) (sym is) ∙ told.1 in
      refused_made Duplicate [] error (kinds ∙ ap (λ b. kind_where b Duplicate) twice) told.0

-- where names stand, what else is asked of them is
pub where_there : (schema : Columns) (names : List Name) (kinds : List ErrorKind) → have_names schema names ≡ true → where_standing schema names kinds ≡ kinds
where_there schema names kinds there = ap (λ b. cond b kinds (ColumnNotFound ∷ [])) there

-- ---- a row index

pub indexed_kinds : (schema : Schema) (name : Name) (offset : Option ℕ) → function_kinds (RowIndexFunction name offset) (columns schema) ≡ distinct_kinds (names_of (indexed_columns name (columns schema)))
indexed_kinds schema name offset =
    let apart = test_from_distinct (columns schema) (schema_has_distinct_names schema) in
    ap (λ b. kind_where b Duplicate) (sym (or_false (is_among name (names_of (columns schema)))) ∙ ap (λ b. is_among name (names_of (columns schema)) || b) (sym apart))

-- ---- an explode

-- what is asked of names of which there are some
exploded_asks : (schema : Columns) (names : List Name) → (length names == 0) ≡ false → have_names schema names ≡ true → list_all is_list (types_of (columns_under schema names)) ≡ true → explode_kinds schema names ≡ []
exploded_asks schema [] some there lists = absurd cc
exploded_asks schema (name ∷ names) some there lists = where_there schema (name ∷ names) _ there ∙ ap (λ b. kind_where (not b) InvalidOperation) lists

-- then nothing is broken, and the names are the schema's
pub exploded_kinds : (schema : Schema) (names : List Name) → (length names == 0) ≡ false → have_names (columns schema) names ≡ true → list_all is_list (types_of (columns_under (columns schema) names)) ≡ true → explode_kinds (columns schema) names ≡ distinct_kinds (names_of (exploded_columns names (columns schema)))
exploded_kinds schema names some there lists =
    let whole = columns schema in
    let same = ap repeats (map-map (λ (c : Name × Ty). c.0) (λ (c : Name × Ty). (c.0, cond (is_among c.0 names) (own_type Item c.1) c.1)) whole) in
    let apart = same ∙ test_from_distinct whole (schema_has_distinct_names schema) in
    exploded_asks whole names some there lists ∙ ap (λ b. kind_where b Duplicate) (sym apart)

-- ---- an unnest

pub unnested_kinds : (schema : Columns) (names : List Name) → have_names schema names ≡ true → list_all is_struct (types_of (columns_under schema names)) ≡ true → unnest_kinds schema names ≡ distinct_kinds (names_of (unnested_columns names schema))
unnested_kinds schema names there structs =
    where_there schema names _ there ∙ ap (λ b. kind_where (not b) SchemaMismatch ++ distinct_kinds (names_of (unnested_columns names schema))) structs
