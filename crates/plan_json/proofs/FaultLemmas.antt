-- An error of a part is an error of the value that has the part.
use Rattle.plan_json.proofs.Names.{Bool, List, None, Option, Some, [], ap, cond, get_or, is_some, length, option_and_then, option_map, sym, ℕ, ◌++◌, ◌<◌, ◌∙◌, ◌∷◌, ◌≡◌, BadFloat, BadName, BadShape, FaultKind, Form, Part, Step, a_text, fault_at, keyed_part, name_fault, own_fault, part, part_if, part_of, shape_fault, unless, only_member, items_view, view, Data, text_of, as_array, at, option_map_or, IsBadAtPointer, IsBelow, IsErrorOf, IsOwn, step_text, Value, JsonError, bytes_eq-Decides, Float, NoMemory, NotJson, Shape, Name, Name', none-some}
use Rattle.plan_json.proofs.ItemLemmas.{item_at}
use Rattle.plan_json.proofs.LookingLemmas.{array-from_as_array}

further : (form inner : Form) (d value : Data) (step : Step) (kind : FaultKind) (path longer : List ℕ) → part_of form step d ≡ Some (part inner value) → IsBadAtPointer inner value kind path → longer ≡ step_text step ++ path → IsBadAtPointer form d kind longer
further form inner d value step kind path longer here (steps, is, bad) told =
    (step ∷ steps, told ∙ ap (λ text. step_text step ++ text) is, ap (option_and_then (λ b. fault_at b.form b.value steps)) here ∙ bad)

-- an error of a part, told with the step to it
pub error_below : (form inner : Form) (d value : Data) (step : Step) (below above : JsonError) → part_of form step d ≡ Some (part inner value) → IsErrorOf inner value below → IsBelow step below above → IsErrorOf form d above
error_below form inner d value step NotJson above here bad told = absurd bad
error_below form inner d value step (Shape path) (Shape longer) here bad told = further form inner d value step BadShape _ _ here bad told
error_below form inner d value step (Float path) (Float longer) here bad told = further form inner d value step BadFloat _ _ here bad told
error_below form inner d value step (Name' path) (Name' longer) here bad told = further form inner d value step BadName _ _ here bad told
error_below form inner d value step below NoMemory here bad told = tt
error_below form inner d value step below above here bad told = absurd told

-- an error of the value itself
pub IsErrorOf-own : (form : Form) (d : Data) (kind : FaultKind) (error : JsonError) → IsOwn kind error → own_fault form d ≡ Some kind → IsErrorOf form d error
IsErrorOf-own form d BadShape (Shape path) told broken = ([], told, broken)
IsErrorOf-own form d BadFloat (Float path) told broken = ([], told, broken)
IsErrorOf-own form d BadName (Name' path) told broken = ([], told, broken)
IsErrorOf-own form d kind error told broken = absurd told

-- an error of a value that is to be of a form is one of another form that asks more of the value alone
pub stricter_error : (form other : Form) (d : Data) → ((kind : FaultKind) → own_fault form d ≡ Some kind → own_fault other d ≡ Some kind) → ((step : Step) → part_of form step d ≡ part_of other step d) → (error : JsonError) → IsErrorOf form d error → IsErrorOf other d error
stricter_error form other d own parts NotJson bad = bad
stricter_error form other d own parts NoMemory bad = bad
stricter_error form other d own parts _ ([], is, h) = ([], is, own _ h)
stricter_error form other d own parts _ (step ∷ steps, is, h) = (step ∷ steps, is, ap (option_and_then (λ b. fault_at b.form b.value steps)) (sym (parts step)) ∙ h)

-- an error of a value that must be a text is one of a value that must be such a name
pub name_error : (form : Form) (test : Name → Bool) (d : Data) (error : JsonError) → own_fault form d ≡ name_fault test d → ((step : Step) → part_of form step d ≡ None) → IsErrorOf a_text d error → IsErrorOf form d error
name_error form test d error own none bad =
    let named : Option Name → Option FaultKind = λ o. option_map_or (λ name. unless BadName (test name)) o (Some (shape_fault d)) in
    stricter_error a_text form d
    (λ kind h. own ∙ elim (text_of d) as (λ o. unless (shape_fault d) (is_some o) ≡ Some kind → named o ≡ Some kind) [ None ↦ λ h. h | Some x ↦ λ h. absurd (none-some kind h) ] h)
    (λ step. sym (none step)) error bad

pub name_fault-tested : {b : Bool} (test : Name → Bool) (d : Data) (name : Name) → text_of d ≡ Some name → test name ≡ b → name_fault test d ≡ unless BadName b
name_fault-tested test d name is tested = ap (λ o. option_map_or (λ name. unless BadName (test name)) o (Some (shape_fault d))) is ∙ ap (unless BadName) tested

-- ---- parts of a value, from what the value was found to hold

pub part_in : {A : Type 0} (parts : A → Option Part) (found : Option A) (x : A) (below : Part) → Some x ≡ found → parts x ≡ Some below → option_and_then parts found ≡ Some below
part_in parts found x below is here = ap (option_and_then parts) (sym is) ∙ here

-- an item of a list, each of which is to be of the form
pub item_in : (form : Form) (d : Data) (vs : List Value) (i : ℕ) (v : Value) → Some (items_view vs) ≡ as_array d → i < length vs → v ≡ get_or vs i v → option_map (part form) (at i d) ≡ Some (part form (view v))
item_in form d vs i v is within here =
    ap (λ x. option_map (part form) (at i x)) (array-from_as_array d _ is) ∙ ap (option_map (part form)) (item_at vs i v within here)

-- the value of a key that names a form
pub key_in : (form_of : List ℕ → Option Form) (d : Data) (word row : List ℕ) (value : Data) (form : Form) → Some (word, value) ≡ only_member d → row ≡ word → form_of word ≡ Some form → option_and_then (part_if row) (keyed_part form_of d) ≡ Some (part form value)
key_in form_of d word row value form is same named =
    ap (λ o. option_and_then (part_if row) (option_and_then (λ (m : List ℕ × Data). option_map (λ f. (m.0, part f m.1)) (form_of m.0)) o)) (sym is)
    ∙ ap (λ o. option_and_then (part_if row) (option_map (λ f. (word, part f value)) o)) named
    ∙ ap (λ b. cond b (Some (part form value)) None) ((bytes_eq-Decides row word).1 same)
