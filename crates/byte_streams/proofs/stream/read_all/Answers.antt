use Rattle.std.proofs.Common.{◌≡◌, ℕ, ◌+◌, ◌≤◌, Bool, true, List, ◌++◌, length, take, if◌then◌else◌, is_ok, rules, arith, length-append, length-take, ◌∙◌, ap}
use Rattle.std.proofs.lemmas.List.{take-append-le}
use Rattle.std.proofs.KnownBytes.{Consumes-trans}
use Rattle.byte_streams.proofs.stream.read_all.Goals as goal

-- with the front of the buffer behind them, the bytes are longer by the count that was read
length-grown : (bytes into : List ℕ) (count : ℕ) → count ≡ length (take count into)
    → length (bytes ++ take count into) ≡ length bytes + count
length-grown bytes into count h = omega (arith, length-append {A = ℕ}, h)

-- the bytes grew by the front of the buffer, which the read filled
grown : (new bytes into rest : List ℕ) (ok : Bool) (count : ℕ) → count ≤ length into
    → new ≡ (if ok then bytes ++ take count (into ++ rest) else bytes) → ok ≡ true → new ≡ bytes ++ take count into
grown new bytes into rest ok count fits is some =
    is ∙ rw some (ap (λ l. bytes ++ l) (take-append-le count into rest fits))

pub returns-then-len-count-gt-INPUT_LIMIT-clause-taken :
    goal.returns-then-len-count-gt-INPUT_LIMIT-clause-taken
returns-then-len-count-gt-INPUT_LIMIT-clause-taken g c =
    let bound = c.in-Ok.ensures.bound in
    let long = length-grown c.reading.bytes.items c.read.new.into c.in-Ok.count bound.1 in
    let taken = Consumes-trans _ _ _ _ _ c.reading.invariant.taken c.in-Ok.ensures.bytes.0 in
    (_, (taken, omega (arith, long, bound.0, length-take {A = ℕ})))

pub returns-then-is_err-clause-taken : goal.returns-then-is_err-clause-taken
returns-then-is_err-clause-taken g c =
    let long = length-grown c.reading.bytes.items c.read.new.into c.in-Ok.count c.in-Ok.ensures.bound.1 in
    let taken = Consumes-trans _ _ _ _ _ c.reading.invariant.taken c.in-Ok.ensures.bytes.0 in
    (_, (taken, omega (arith, long)))

pub reading-preserved : goal.reading-preserved
reading-preserved g c =
    let long = length-grown c.reading.bytes.items c.read.new.into c.in-Ok.count c.in-Ok.ensures.bound.1 in
    let yes : is_ok c.extend_from_slice.result ≡ true = search rules in
    let is = grown _ _ _ _ _ _ c.in-Ok.ensures.bound.0 c.extend_from_slice.ensures.items yes in
    record {
      taken = rw is (Consumes-trans _ _ _ _ _ c.reading.invariant.taken c.in-Ok.ensures.bytes.0);
      enough = rw is (omega (arith, long));
      within = rw is (omega (arith, long));
      later = omega (arith, c.in-Ok.ensures.cause.later);
    }
