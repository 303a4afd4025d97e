-- Looking into a value that a text reads to.
use Rattle.std.specs.Prelude.{ℕ, zero, suc, ℤ, List, [], ◌∷◌, ◌==◌, ◌&&◌, Bool, not, Option, Some, None, is_some, option_map, option_and_then, if◌then◌else◌}
use Rattle.std.specs.Option.{option_map_or}
use Rattle.serde_json.specs.Data.{Data, array, object, Items, no_items, item, no_members, member}
use Rattle.serde_json.specs.Events.{members_len}
use Rattle.serde_json.specs.Find.{as_integer, as_number, get_member}

-- two values, if both are there
abbrev pub both : {A B : Type 0} → Option A → Option B → Option (A × B)
both (Some x) (Some y) = Some (x, y)
both _ _ = None

-- a whole number: one that is held as an i64 or as a u64
abbrev pub whole_number : Data → Option ℤ
whole_number d = option_and_then as_integer (as_number d)

-- whether it is a number that is held as neither
abbrev pub is_float : Data → Bool
is_float d = is_some (as_number d) && not (is_some (whole_number d))

-- the key and the value of an object of one key
abbrev pub only_member : Data → Option (List ℕ × Data)
only_member (object (member key value no_members)) = Some (key, value)
only_member _ = None

-- the values of an object of these two keys alone
abbrev pub two_members : List ℕ → List ℕ → Data → Option (Data × Data)
two_members first second (object members) =
    if members_len members == 2 then both (get_member first members) (get_member second members) else None
two_members first second _ = None

-- the items of a list of two
abbrev pub two_items : Data → Option (Data × Data)
two_items (array (item first (item second no_items))) = Some (first, second)
two_items _ = None

-- the items of a list of three
abbrev pub three_items : Data → Option (Data × (Data × Data))
three_items (array (item first (item second (item third no_items)))) = Some (first, (second, third))
three_items _ = None

-- what each item reads to, if each does
abbrev pub all_of : {A : Type 0} → (Data → Option A) → Items → Option (List A)
all_of read no_items = Some []
all_of read (item d ds) = option_map (λ p. p.0 ∷ p.1) (both (read d) (all_of read ds))

-- what those items read to that read to something
abbrev pub some_of : {A : Type 0} → (Data → Option A) → Items → List A
some_of read no_items = []
some_of read (item d ds) = option_map_or (λ x. x ∷ some_of read ds) (read d) (some_of read ds)

-- the items before that of the number
abbrev pub first_items : ℕ → Items → Items
first_items n no_items = no_items
first_items zero (item d ds) = no_items
first_items (suc n) (item d ds) = item d (first_items n ds)
