-- The values of a list or a struct, as a row and as a list.
use Rattle.std.proofs.Common.{◌≡◌, ◌+◌, ◌<◌, max, refl, sym, ap, ◌∙◌, arith}
use Rattle.std.proofs.Common.{List as Many}
use mathlib.Core.Former.{Count}
use denote.Param.Weighed.{most}
use Rattle.plan_types.specs.Values.{ListValue, StructValue, with_value}
use Rattle.plan_types.specs.ValueViews.{val_of, row_values, values_in, parts_of}
use Rattle.plan_types.specs.declared.value.Value.{Value, List, List', Struct, Struct', Row_of-Value, end_of-Value, more_of-Value, items-the_row-Value, items_hidden-the_row-Value-0}
use Rattle.plan_types.specs.declared.value.Value.TheViews.{size-Value, size-Parts, size_is-Parts, sized-List, sized-Struct}
use Rattle.plan_types.specs.declared.value.Parts.{Parts}

row_list : (n : _) (row : Row_of-Value n) → row_values row ≡ values_in (items-the_row-Value n row)
row_list n end_of-Value = refl
row_list n (more_of-Value first rest) = ap (with_value (val_of first)) (row_list _ rest)

abbrev row_of : Value → (n : Count) × Row_of-Value n
row_of (List' _ row) = (_, row)
row_of (Struct' _ row) = (_, row)
row_of _ = (_, end_of-Value)

pub list_values : (parts : Parts) → val_of (List parts) ≡ ListValue (parts_of parts)
list_values parts =
    let row = row_of (List parts) in
    ap ListValue (row_list row.0 row.1 ∙ ap values_in (items_hidden-the_row-Value-0 parts.items))

pub struct_values : (parts : Parts) → val_of (Struct parts) ≡ StructValue (parts_of parts)
struct_values parts =
    let row = row_of (Struct parts) in
    ap StructValue (row_list row.0 row.1 ∙ ap values_in (items_hidden-the_row-Value-0 parts.items))

-- the values of a list or a struct, by the items that a slice shows
pub list_of : (value : Value) (parts : Parts) (items : Many Value) → value ≡ List parts → items ≡ parts.items.items → val_of value ≡ ListValue (values_in items)
list_of value parts items is shown = ap val_of is ∙ list_values parts ∙ ap (λ l. ListValue (values_in l)) (sym shown)

pub struct_of : (value : Value) (parts : Parts) (items : Many Value) → value ≡ Struct parts → items ≡ parts.items.items → val_of value ≡ StructValue (values_in items)
struct_of value parts items is shown = ap val_of is ∙ struct_values parts ∙ ap (λ l. StructValue (values_in l)) (sym shown)

-- none of the items is as deep as the value
pub list_deeper : (value : Value) (parts : Parts) (items : Many Value) → value ≡ List parts → items ≡ parts.items.items → most size-Value items < size-Value value
list_deeper value parts items is shown =
    let outer : size-Value (List parts) ≡ max (size-Parts parts) 0 + 1 = sized-List parts in
    let inner : size-Parts parts ≡ max (most size-Value parts.items.items) 0 + 1 = size_is-Parts parts in
    omega (arith, ap size-Value is, ap (most size-Value) shown, outer, inner)

pub struct_deeper : (value : Value) (parts : Parts) (items : Many Value) → value ≡ Struct parts → items ≡ parts.items.items → most size-Value items < size-Value value
struct_deeper value parts items is shown =
    let outer : size-Value (Struct parts) ≡ max (size-Parts parts) 0 + 1 = sized-Struct parts in
    let inner : size-Parts parts ≡ max (most size-Value parts.items.items) 0 + 1 = size_is-Parts parts in
    omega (arith, ap size-Value is, ap (most size-Value) shown, outer, inner)
