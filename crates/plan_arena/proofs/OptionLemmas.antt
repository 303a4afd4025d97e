-- Options of items, as items are added behind others.
use Rattle.std.proofs.Common.{◌≡◌, List, [], ◌∷◌, ◌++◌, reverse, sym, ap, ◌∙◌, append_assoc}
use Rattle.std.proofs.lemmas.Grind.{flat_map-append, reverse_onto}
use Rattle.std.proofs.lemmas.List.{append-nil}
use Rattle.plan_dsl.specs.Plans.{PlanOption}
use Rattle.plan_arena.specs.declared.ir.IR.{IR}
use Rattle.plan_arena.specs.Options.{option_of, options_of}

-- the options of a new item come behind the others
pub options_added : (plans new : List IR) (item : IR) → new ≡ plans ++ item ∷ [] → options_of new ≡ options_of plans ++ option_of item
options_added plans new item grown =
    ap options_of grown ∙ flat_map-append option_of plans (item ∷ []) ∙ ap (λ l. options_of plans ++ l) (append-nil (option_of item))

-- an item without one adds none
pub options_stay : (plans new : List IR) (item : IR) → new ≡ plans ++ item ∷ [] → option_of item ≡ [] → options_of new ≡ options_of plans
options_stay plans new item grown none =
    options_added plans new item grown ∙ ap (λ l. options_of plans ++ l) none ∙ append-nil (options_of plans)

-- the option of a node comes behind those of the nodes below
pub options_over : (option : PlanOption) (below old mid new : List PlanOption) → mid ≡ old ++ reverse below → new ≡ mid ++ option ∷ [] → new ≡ old ++ reverse (option ∷ below)
options_over option below old mid new under here =
    here ∙ ap (λ l. l ++ option ∷ []) under ∙ append_assoc old (reverse below) (option ∷ []) ∙ ap (λ l. old ++ l) (sym (reverse_onto below option []))
