-- What readers answer, by the answer.
use Rattle.plan_json.proofs.Names.{Err, Ok, Option, Some, ◌≡◌, Data, Form, IsErrorOf, JsonError}
use Rattle.plan_json.specs.Readers.{IsReading}

pub read : {A B : Type 0} {meaning : Data → Option B} {form : Form} {d : Data} {seen : A → B} {x : A} → meaning d ≡ Some (seen x) → IsReading meaning form d (Ok x) seen
read means = record { ok = means; err = tt }

pub told : {A B : Type 0} {meaning : Data → Option B} {form : Form} {d : Data} {seen : A → B} {error : JsonError} → IsErrorOf form d error → IsReading meaning form d (Err error) seen
told fault = record { ok = tt; err = fault }
