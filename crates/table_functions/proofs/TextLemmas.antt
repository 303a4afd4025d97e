-- Texts of values and columns that are appended piece by piece.
use Rattle.std.proofs.Common.{◌≡◌, ℕ, ◌+◌, ◌<◌, List, [], ◌∷◌, ◌++◌, length, map, take, codes, Result, Ok, Err, OnOk, encode_utf8_all, is_ok, if◌then◌else◌, slice_index_or, sym, ap, ◌∙◌, append_assoc}
use Rattle.std.specs.Str.{chars, IsUtf8}
use Rattle.std.proofs.lemmas.List.{append-nil, map-append, take_more}
use Rattle.std.proofs.lemmas.Str.{encodes-chars}
use Rattle.plan_types.specs.FrameFaults.{shown, vals_of}
use Rattle.plan_types.specs.Types.{ty}
use Rattle.plan_types.specs.Values.{Val}
use Rattle.plan_types.specs.ValueViews.{val_of, values_from, values_in}
use Rattle.plan_types.specs.declared.column.Column.{Column}
use Rattle.plan_types.specs.declared.value.Parts.{Parts}
use Rattle.plan_types.specs.declared.value.Value.{Value, List as ListOf, Struct as StructOf}
use Rattle.plan_types.specs.declared.value.Value.TheVariants.{Text}
use Rattle.plan_types.proofs.PartLemmas.{list_of, struct_of}
use Rattle.plan_report.specs.Texts.{type_text}
use Rattle.table_functions.specs.Texts.{column_text, value_text, values_text}

-- two pieces, one behind the other
two : (before middle after first second : List ℕ) → middle ≡ before ++ first → after ≡ middle ++ second → after ≡ before ++ (first ++ second)
two before middle after first second one other = other ∙ ap (λ t. t ++ second) one ∙ append_assoc before first second

-- a text stands as it is
pub text_pushed : {X E : Type 0} (result : Result X E) (value : Value) (own bytes before after : List ℕ) → value ≡ Text own → chars bytes ≡ own → IsUtf8 bytes → after ≡ (if is_ok result then before ++ bytes else before) → OnOk result (after ≡ before ++ value_text (val_of value))
text_pushed (Err e) value own bytes before after is shown of_text put = tt
text_pushed (Ok x) value own bytes before after is shown of_text put =
    put ∙ ap (λ t. before ++ t) (sym (ap (λ v. value_text (val_of v)) is ∙ ap encode_utf8_all (sym shown) ∙ encodes-chars bytes of_text))

-- values between brackets
bracketed : {X E : Type 0} (result : Result X E) (before opened all after opening own closing : List ℕ) → opened ≡ before ++ opening → all ≡ opened ++ own → after ≡ (if is_ok result then all ++ closing else all) → OnOk result (after ≡ before ++ (opening ++ (own ++ closing)))
bracketed (Err e) before opened all after opening own closing began put ended = tt
bracketed (Ok x) before opened all after opening own closing began put ended =
    two before opened after opening (own ++ closing) began (two opened all after own closing put ended)

pub list_pushed : {X E : Type 0} (result : Result X E) (value : Value) (parts : Parts) (items : List Value) (before opened all after : List ℕ) → value ≡ ListOf parts → items ≡ parts.items.items → opened ≡ before ++ codes "[" → all ≡ opened ++ values_text (values_in items) → after ≡ (if is_ok result then all ++ codes " ]" else all) → OnOk result (after ≡ before ++ value_text (val_of value))
list_pushed result value parts items before opened all after is shown began put ended =
    rw (ap value_text (list_of value parts items is shown)) (bracketed result before opened all after (codes "[") (values_text (values_in items)) (codes " ]") began put ended)

pub struct_pushed : {X E : Type 0} (result : Result X E) (value : Value) (parts : Parts) (items : List Value) (before opened all after : List ℕ) → value ≡ StructOf parts → items ≡ parts.items.items → opened ≡ before ++ codes "{" → all ≡ opened ++ values_text (values_in items) → after ≡ (if is_ok result then all ++ codes " }" else all) → OnOk result (after ≡ before ++ value_text (val_of value))
struct_pushed result value parts items before opened all after is shown began put ended =
    rw (ap value_text (struct_of value parts items is shown)) (bracketed result before opened all after (codes "{") (values_text (values_in items)) (codes " }") began put ended)

-- one more value, behind a space
texts_more : (values : List Val) (value : Val) → values_text (values_from (values ++ value ∷ [])) ≡ values_text (values_from values) ++ (codes " " ++ value_text value)
texts_more [] value = append-nil (codes " " ++ value_text value)
texts_more (v ∷ values) value =
    ap (λ t. (codes " " ++ value_text v) ++ t) (texts_more values value) ∙ sym (append_assoc (codes " " ++ value_text v) (values_text (values_from values)) (codes " " ++ value_text value))

pub value_more : (values : List Value) (index : ℕ) (value : Value) (before so_far spaced after : List ℕ) → index < length values → value ≡ slice_index_or values index value → so_far ≡ before ++ values_text (values_in (take index values)) → spaced ≡ so_far ++ codes " " → after ≡ spaced ++ value_text (val_of value) → after ≡ before ++ values_text (values_in (take (index + 1) values))
value_more values index value before so_far spaced after within at old space put =
    let whole = take_more values index value within ∙ ap (λ v. take index values ++ v ∷ []) (sym at) in
    let texts = ap (λ l. values_text (values_in l)) whole ∙ ap (λ l. values_text (values_from l)) (map-append val_of (take index values) (value ∷ [])) ∙ texts_more (map val_of (take index values)) (val_of value) in
    two before so_far after (values_text (values_in (take index values))) (codes " " ++ value_text (val_of value)) old (two so_far spaced after (codes " ") (value_text (val_of value)) space put)
    ∙ ap (λ t. before ++ t) (sym texts)

-- the line of a column
pub column_pushed : {X E : Type 0} (result : Result X E) (column : Column) (values : List Value) (name type before a b c d e after : List ℕ) → chars name ≡ column.name → IsUtf8 name → type ≡ type_text (ty column.dtype) → map val_of values ≡ vals_of column.values → a ≡ before ++ codes "  " → b ≡ a ++ name → c ≡ b ++ codes " " → d ≡ c ++ type → e ≡ d ++ values_text (values_in values) → after ≡ (if is_ok result then e ++ codes "\n" else e) → OnOk result (after ≡ before ++ column_text (shown column))
column_pushed (Err error) column values name type before a b c d e after named of_text typed held one two_is three four five six = tt
column_pushed (Ok x) column values name type before a b c d e after named of_text typed held one two_is three four five six =
    let own = encode_utf8_all column.name in
    let name_is = sym (ap encode_utf8_all (sym named) ∙ encodes-chars name of_text) in
    let values_are = ap (λ v. values_text (values_from v)) held in
    let second = two before a b (codes "  ") own one (two_is ∙ ap (λ t. a ++ t) name_is) in
    let third = two before b c _ (codes " ") second three in
    let fourth = two before c d _ (type_text (ty column.dtype)) third (four ∙ ap (λ t. c ++ t) typed) in
    let fifth = two before d e _ (values_text (values_from (vals_of column.values))) fourth (five ∙ ap (λ t. d ++ t) values_are) in
    two before e after _ (codes "\n") fifth six
