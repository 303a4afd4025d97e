-- Texts that are appended to, piece by piece.
use Rattle.std.proofs.Common.{◌≡◌, ℕ, ◌+◌, ◌<◌, ◌≤◌, List, [], ◌∷◌, ◌++◌, length, take, Some, None, Result, Ok, Err, OnOk, slice_get, map, codes, zero, suc, slice_index_or, refl, sym, ap, ◌∙◌, arith, append_assoc}
use Rattle.std.specs.List.{join_by, flat_map}
use Rattle.std.specs.Str.{chars, IsUtf8}
use Rattle.std.proofs.lemmas.List.{flat_map_more, take_more, append-nil, length-take-le}
use Rattle.std.proofs.lemmas.Option.{slice_get_within, slice_get-get_or, get_or_from_slice_get}
use Rattle.std.proofs.lemmas.Str.{encodes-chars}
use Rattle.json.specs.Print.{escape}
use Rattle.serde_json.specs.Data.{string}
use Rattle.serde_json.specs.Written.{compact_text}
use Rattle.plan_types.specs.Schemas.{Columns}
use Rattle.plan_types.specs.Types.{Ty, StructType, ty, field_of, fields_from}
use Rattle.plan_types.specs.declared.dtype.DataType.{DataType, Struct}
use Rattle.plan_types.specs.declared.dtype.Fields.{Fields as StructFields, out-Fields}
use Rattle.plan_types.specs.declared.field.Field.{Field}
use Rattle.plan_types.proofs.FieldLemmas.{struct_type}
use Rattle.plan_report.specs.Texts.{name_text, in_parentheses, field_text, field_texts, separator, schema_text, type_text, parts_text, variant_text}

-- the text of a name, from its bytes
pub name_text-chars : (bytes : List ℕ) → IsUtf8 bytes → compact_text (string bytes) ≡ name_text (chars bytes)
name_text-chars bytes of_text = ap (λ b. compact_text (string b)) (sym (encodes-chars bytes of_text))

-- one more item of a list
item_more : {X : Type 0} (xs : List X) (i : ℕ) (x : X) → slice_get xs i ≡ Some x → take (i + 1) xs ≡ take i xs ++ x ∷ []
item_more xs i x at =
    take_more xs i x (slice_get_within xs i x at) ∙ ap (λ y. take i xs ++ y ∷ []) (get_or_from_slice_get xs i x x at)

-- an item within a list is there
pub no_item : {X : Type 0} (xs : List X) (i : ℕ) → i < length xs → slice_get xs i ≡ None → ⊥
no_item [] i within none = omega arith
no_item (x ∷ xs) i within none = let found = slice_get-get_or (x ∷ xs) i x within in cc

module _ {X : Type 0} (f : X → List ℕ) (before : List ℕ) where
  none_before : (xs : List X) (x : X) → length xs ≤ 0 → (before ++ join_by f (codes ", ") xs) ++ f x ≡ before ++ join_by f (codes ", ") (xs ++ x ∷ [])
  none_before [] x none = ap (λ t. t ++ f x) (append-nil before) ∙ ap (λ t. before ++ t) (sym (append-nil (f x)))
  none_before (y ∷ ys) x none = absurd (omega arith)

  some_before : (xs : List X) (x : X) → 0 < length xs → ((before ++ join_by f (codes ", ") xs) ++ codes ", ") ++ f x ≡ before ++ join_by f (codes ", ") (xs ++ x ∷ [])
  some_before [] x some = absurd (omega arith)
  some_before (y ∷ ys) x some =
      append_assoc (before ++ join_by f (codes ", ") (y ∷ ys)) (codes ", ") (f x)
      ∙ append_assoc before (join_by f (codes ", ") (y ∷ ys)) (codes ", " ++ f x)
      ∙ ap (λ t. before ++ t) (flat_map_more (λ z. codes ", " ++ f z) (f y) ys x)

  -- one more item is appended
  pub joined_more : (xs : List X) (i : ℕ) (x : X) (old new : List ℕ) → slice_get xs i ≡ Some x → old ≡ before ++ join_by f (codes ", ") (take i xs) → new ≡ old ++ (separator i ++ f x) → new ≡ before ++ join_by f (codes ", ") (take (i + 1) xs)
  joined_more xs i x old new at so_far put =
      let within = slice_get_within xs i x at in
      let long : length (take i xs) ≡ i = length-take-le i xs (omega arith) in
      put ∙ sym (append_assoc old (separator i) (f x)) ∙ joined i (take i xs) long so_far ∙ ap (λ l. before ++ join_by f (codes ", ") l) (sym (item_more xs i x at))
    where
      joined : (n : ℕ) (some : List X) → length some ≡ n → old ≡ before ++ join_by f (codes ", ") some → (old ++ separator n) ++ f x ≡ before ++ join_by f (codes ", ") (some ++ x ∷ [])
      joined zero some long all = ap (λ t. t ++ f x) (append-nil old ∙ all) ∙ none_before some x (omega (arith, long))
      joined (suc n) some long all = ap (λ t. (t ++ codes ", ") ++ f x) all ∙ some_before some x (omega (arith, long))

-- the item at a place, of what is made of each item
pub item_at : {X Y : Type 0} (f : X → Y) (xs : List X) (i : ℕ) (x : X) → i < length xs → x ≡ slice_index_or xs i x → slice_get (map f xs) i ≡ Some (f x)
item_at f [] i x within is = absurd (omega arith)
item_at f (y ∷ ys) zero x within is = ap (λ z. Some (f z)) (sym is)
item_at f (y ∷ ys) (suc i) x within is = item_at f ys i x (omega arith) is

-- ---- fields

later_fields : (columns : Columns) → flat_map (λ text. codes ", " ++ text) (field_texts (fields_from columns)) ≡ flat_map (λ column. codes ", " ++ field_text column) columns
later_fields [] = refl
later_fields (first ∷ rest) = ap (λ t. (codes ", " ++ field_text first) ++ t) (later_fields rest)

-- fields are written as those of a schema
fields_joined : (columns : Columns) → join_by (λ text. text) (codes ", ") (field_texts (fields_from columns)) ≡ join_by field_text (codes ", ") columns
fields_joined [] = refl
fields_joined (first ∷ rest) = ap (λ t. field_text first ++ t) (later_fields rest)

parts_as_schema : (columns : Columns) → parts_text (StructType (fields_from columns)) ≡ schema_text columns
parts_as_schema columns = ap in_parentheses (fields_joined columns)

pub fields_as_schema : (columns : Columns) → type_text (StructType (fields_from columns)) ≡ codes "Struct" ++ schema_text columns
fields_as_schema columns = ap (λ t. codes "Struct" ++ t) (parts_as_schema columns)

pub struct_text : (dtype : DataType) (fields : StructFields) (items : List Field) → dtype ≡ Struct fields → items ≡ (out-Fields fields).items.items → parts_text (ty dtype) ≡ schema_text (map field_of items)
struct_text dtype fields items is shown =
    ap parts_text (struct_type dtype fields items is shown) ∙ parts_as_schema (map field_of items)

-- the fields of a type of structs are appended
pub struct_pushed : {X E : Type 0} (result : Result X E) (dtype : DataType) (fields : StructFields) (items : List Field) (before after : List ℕ) → dtype ≡ Struct fields → items ≡ (out-Fields fields).items.items → OnOk result (after ≡ before ++ schema_text (map field_of items)) → OnOk result (after ≡ before ++ parts_text (ty dtype))
struct_pushed (Err e) dtype fields items before after is shown put = tt
struct_pushed (Ok x) dtype fields items before after is shown put =
    put ∙ ap (λ t. before ++ t) (sym (struct_text dtype fields items is shown))

regrouped : (a b c d e f : List ℕ) → (a ++ (b ++ (c ++ (d ++ e)))) ++ f ≡ a ++ (b ++ ((c ++ d) ++ (e ++ f)))
regrouped a b c d e f = simp append_assoc

field_appended : (old named new before name : List ℕ) (type : Ty) → IsUtf8 name → named ≡ old ++ (before ++ (compact_text (string name) ++ (codes " " ++ variant_text type))) → new ≡ named ++ parts_text type → new ≡ old ++ (before ++ field_text (chars name, type))
field_appended old named new before name type of_text front put =
    put
    ∙ ap (λ t. t ++ parts_text type) front
    ∙ regrouped old before (compact_text (string name)) (codes " ") (variant_text type) (parts_text type)
    ∙ ap (λ n. old ++ (before ++ (n ++ codes " " ++ type_text type))) (name_text-chars name of_text)

-- a field is appended: all up to the parts of its type, and then these
pub field_pushed : {X E : Type 0} (result : Result X E) (old named new before name : List ℕ) (type : Ty) → IsUtf8 name → named ≡ old ++ (before ++ (compact_text (string name) ++ (codes " " ++ variant_text type))) → OnOk result (new ≡ named ++ parts_text type) → OnOk result (new ≡ old ++ (before ++ field_text (chars name, type)))
field_pushed (Err e) old named new before name type of_text front put = tt
field_pushed (Ok x) old named new before name type of_text front put = field_appended old named new before name type of_text front put

quoted : (old before name type : List ℕ) → ((old ++ (before ++ codes "\"")) ++ name) ++ (codes "\" " ++ type) ≡ old ++ (before ++ ((codes "\"" ++ (name ++ codes "\"")) ++ (codes " " ++ type)))
quoted old before name type = simp append_assoc

-- a field up to the end of a plain name, and what it lacks where its type has no parts
pub field_closed : (old opened new before name : List ℕ) (type : Ty) → IsUtf8 name → escape name ≡ name → parts_text type ≡ [] → opened ≡ old ++ (before ++ codes "\"") → new ≡ opened ++ name → new ++ (codes "\" " ++ variant_text type) ≡ old ++ (before ++ field_text (chars name, type))
field_closed old opened new before name type of_text plain bare front put =
    let closed = new ++ (codes "\" " ++ variant_text type) in
    let whole : closed ≡ old ++ (before ++ (compact_text (string name) ++ (codes " " ++ variant_text type))) =
    ap (λ t. t ++ (codes "\" " ++ variant_text type)) (put ∙ ap (λ t. t ++ name) front)
    ∙ quoted old before name (variant_text type)
    ∙ ap (λ e. old ++ (before ++ ((codes "\"" ++ (e ++ codes "\"")) ++ (codes " " ++ variant_text type)))) (sym plain) in
    field_appended old closed closed before name type of_text whole (sym (append-nil closed) ∙ ap (λ t. closed ++ t) (sym bare))
