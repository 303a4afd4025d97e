use Rattle.std.proofs.Common.{◌≡◌, ◌<◌, ◌≤◌, [], ◌∷◌, ◌++◌, ◌+◌, get_or, length, map, set, take, refl, sym, subst, arith}
use Rattle.std.specs.List.{AllByRecursion}
use Rattle.std.proofs.lemmas.List.{append-nil, length-map, take_all, take_more_set}
use Rattle.std.proofs.lemmas.Option.{get_or_from_slice_get}
use Rattle.plan_types.specs.Types.{ty}
use Rattle.plan_arena.specs.Items.{numbers}
use Rattle.plan_arena.proofs.ItemLemmas.{grows_then}
use Rattle.plan_arena.proofs.NumberLemmas.{all_there}
use Rattle.plan_infer.specs.declared.type_table.Inferred.{Inferred}
use Rattle.plan_infer.specs.KeptTypes.{IsKept}
use Rattle.plan_infer.proofs.TableLemmas.{extends_itself, keeps_one, still_keeps, still_kept}
use Rattle.plan_coerce.specs.Coercion.{AreChanged, IsReadyAt}
use Rattle.plan_coerce.specs.Reaching.{AreMadeOnce, Near}
use Rattle.plan_coerce.proofs.CoercionLemmas.{adds_nothing, adds_then, all_changed, changed_more, kept_more, ready_here, ready_length, ready_within}
use Rattle.plan_coerce.proofs.OnceLemmas.{more_once, none_once, taken_next, taken_whole}
use Rattle.plan_coerce.proofs.StackLemmas.{node_there, one_less, pushed_one}
use Rattle.plan_coerce.proofs.type_coercion.operands_to.Goals as goal

pub operand_to-requires-clause-kept : goal.operand_to-requires-clause-kept
operand_to-requires-clause-kept c = still_kept c.args.types.now c.loop-index.types c.loop-index.invariant.adds.extends c.args.node.0 c.requires.kept

pub operand_to-requires-clause-ready : goal.operand_to-requires-clause-ready
operand_to-requires-clause-ready c = λ own keeps.
    let first = c.requires.kept.own in
    let base = c.requires.kept.keeps in
    let mid = c.loop-index.types in
    let same = keeps_one mid c.args.node.0 first own (c.loop-index.invariant.adds.extends.entries c.args.node.0 first base) keeps in
    let within : c.loop-index.index < length c.loop-index.operands = omega (arith, c.loop-index-test.true, c.loop-index.auto.operands) in
    let at = node_there c.loop-index.operands c.args.operands.now c.loop-index.index (record { 0 = 0 }) within c.loop-index.invariant.left in
    let input = (get_or c.loop-index.operands c.loop-index.index (record { 0 = 0 })).0 in
    subst (λ (x : Inferred). IsReadyAt mid input x.operands c.loop-index.index) same (ready_here c.args.types.now mid (numbers c.args.operands.now) first.operands c.loop-index.index input (c.requires.ready first base) at c.loop-index.invariant.adds.extends)

pub loop-index-init : goal.loop-index-init
loop-index-init c =
    record {
      grows = record { added = []; longer = sym (append-nil c.args.arena.now) };
      adds = adds_nothing _ c.args.arena.now c.args.types.now;
      once = none_once c.args.arena.now;
      kept = tt;
      changed = λ own keeps. record { operands = []; inputs_are = refl; changed_are = refl; targets_are = refl; each = tt };
      left = refl;
    }

pub loop-index-preserved : goal.loop-index-preserved
loop-index-preserved c =
    let before = c.loop-index.invariant in
    let one = c.in_ok-made.ensures in
    let made = c.in_ok-made.made in
    let i = c.loop-index.index in
    let nodes = c.loop-index.operands in
    let n = (get_or nodes i (record { 0 = 0 })).0 in
    let ns = numbers c.args.operands.now in
    let old = c.args.arena.now in
    let mid = c.loop-index.arena in
    let new = c.operand_to.new.arena in
    let within : i < length nodes = omega (arith, c.loop-index-test.true, c.loop-index.auto.operands) in
    let at = node_there nodes c.args.operands.now i (record { 0 = 0 }) within before.left in
    let longer = take_more_set nodes i made within in
    let after = take (i + 1) (set nodes i made) in
    record {
      grows = grows_then old mid new before.grows one.grows;
      adds = adds_then (λ start roots. AllByRecursion (Near start roots) ns) (λ start roots. Near start roots n) old mid new c.args.types.now c.loop-index.types c.operand_to.new.types before.grows before.adds one.adds (λ start roots le near. all_there (Near start roots) ns near i n at);
      once = subst (λ ins. AreMadeOnce old new ins (numbers after)) (sym (taken_next ns i n at)) (subst (AreMadeOnce old new (take i ns ++ n ∷ [])) (sym (pushed_one (take i nodes) after made longer)) (more_once old mid new (take i ns) (numbers (take i nodes)) n made.0 before.grows one.grows before.once one.once));
      kept = kept_more c.loop-index.types c.operand_to.new.types (take i nodes) after made one.adds.extends before.kept one.kept longer;
      changed = λ own keeps.
          let ready = c.requires.ready own keeps in
          let here = ready_here c.args.types.now c.args.types.now ns own.operands i n ready at (extends_itself c.args.types.now) in
          let t = here.target in
          let is = sym (get_or_from_slice_get own.operands i t t here.there) in
          let also = ready_within c.args.types.now ns own.operands i ready (omega (arith, c.loop-index-test.true, c.loop-index.auto.operands, length-map c.args.operands.now (λ n. n.0))) in
          let dtype = here.ready.dtype in
          changed_more old mid new c.args.types.now c.loop-index.types ns (take i nodes) after own.operands i n made t t (before.changed own keeps) at also is refl longer before.grows one.grows dtype here.ready.keeps (one.changed own t dtype (before.adds.extends.entries c.args.node.0 own keeps) here.there (still_keeps c.args.types.now c.loop-index.types before.adds.extends n dtype here.ready.keeps));
      left = one_less nodes c.args.operands.now i (record { 0 = 0 }) within before.left made;
    }

pub returns-clause-changed : goal.returns-clause-changed
returns-clause-changed c = λ own keeps.
    let old = c.args.arena.now in
    let nodes = c.loop-index.operands in
    let ns = numbers c.args.operands.now in
    let done : length nodes ≤ c.loop-index.index = omega (arith, c.loop-index-test.false, c.loop-index.auto.operands) in
    let whole = take_all c.loop-index.index nodes done in
    let end : c.loop-index.index ≡ length ns = omega (arith, c.loop-index-test.false, c.loop-index.auto.index-end, c.loop-index.auto.operands, length-map c.args.operands.now (λ n. n.0)) in
    subst (λ made. AreChanged old c.loop-index.arena c.args.types.now ns (numbers made) (map ty own.operands)) whole (all_changed old c.loop-index.arena c.args.types.now ns (take c.loop-index.index nodes) own.operands c.loop-index.index end (ready_length c.args.types.now ns own.operands (c.requires.ready own keeps)) (c.loop-index.invariant.changed own keeps))

pub returns-clause-kept : goal.returns-clause-kept
returns-clause-kept c =
    let done : length c.loop-index.operands ≤ c.loop-index.index = omega (arith, c.loop-index-test.false, c.loop-index.auto.operands) in
    subst (λ made. AllByRecursion (IsKept c.loop-index.types) (numbers made)) (take_all c.loop-index.index c.loop-index.operands done) c.loop-index.invariant.kept

pub returns-clause-once : goal.returns-clause-once
returns-clause-once c =
    let old = c.args.arena.now in
    let ns = numbers c.args.operands.now in
    let done : length c.loop-index.operands ≤ c.loop-index.index = omega (arith, c.loop-index-test.false, c.loop-index.auto.operands) in
    let end : c.loop-index.index ≡ length ns = omega (arith, c.loop-index-test.false, c.loop-index.auto.index-end, c.loop-index.auto.operands, length-map c.args.operands.now (λ n. n.0)) in
    subst (λ made. AreMadeOnce old c.loop-index.arena ns (numbers made)) (take_all c.loop-index.index c.loop-index.operands done) (subst (λ ins. AreMadeOnce old c.loop-index.arena ins (numbers (take c.loop-index.index c.loop-index.operands))) (taken_whole ns c.loop-index.index end) c.loop-index.invariant.once)
