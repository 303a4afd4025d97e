-- What the kernel of each kind gives that goes by a signature: values of its own type.
use Rattle.std.proofs.Common.{pos, length, Bool, true, false, List, [], ◌∷◌, refl}
use Rattle.std.proofs.lemmas.Bool.{and_from}
use Rattle.plan_types.proofs.ValueLemmas.{wrapped_in_range}
use Rattle.plan_types.specs.Outcomes.{Meets}
use Rattle.plan_types.specs.declared.error.ErrorKind.TheVariants.{ComputeError}
use Rattle.plan_dsl.specs.declared.signature.Ask.TheVariants.{Any, Sortable}
use Rattle.plan_dsl.specs.declared.signature.OwnType.TheVariants.{First}
use Rattle.plan_dsl.specs.declared.signature.Many.TheVariants.{AsFirst}
use Rattle.plan_dsl.specs.declared.signature.Sharing.TheVariants.{Alone}
use Rattle.plan_dsl.specs.declared.signature.Signature.{Signature}
use Rattle.plan_dsl.specs.declared.sort_options.SortOptions.{SortOptions}
use Rattle.plan_dsl.specs.Ops.{LenOp, SliceOp, ExplodeOp, GatherOp, FilterOp, SortOp, SortByOp}
use Rattle.plan_dsl.specs.Kernels.{sort_by_values}
use Rattle.plan_dsl.specs.Laws.{AreOf}
use Rattle.plan_dsl.specs.Signatures.{asks, has_flags}
use Rattle.plan_dsl.proofs.ColumnLemmas.{slice_values_fit}
use Rattle.plan_dsl.proofs.PickLemmas.{explode_values_fit, gather_values_fit, filter_values_fit}
use Rattle.plan_dsl.proofs.SortLemmas.{sort_by_values_fit, sort_values_fit}
use Rattle.plan_dsl.proofs.SignatureLemmas.{KernelGives, any_columns, where_signed}

pub len_gives : KernelGives LenOp
len_gives registry frame rows shared [] = record { fitting = and_from _ true (wrapped_in_range false 32 (pos (length rows))) refl; single = λ one. refl }
len_gives registry frame rows shared _ = tt

pub slice_gives : KernelGives SliceOp
slice_gives registry frame rows shared (input ∷ offset ∷ count ∷ []) = λ values i starts o sizes c. slice_values_fit input.type values starts sizes i.of.fitting (o.one refl) (c.one refl)
slice_gives registry frame rows shared _ = tt

pub explode_gives : KernelGives ExplodeOp
explode_gives registry frame rows shared (input ∷ []) = λ values i. record { fitting = explode_values_fit values input.type i.of.fitting; single = λ one. cc }
explode_gives registry frame rows shared _ = tt

pub gather_gives : (returns_scalar : Bool) → KernelGives (GatherOp returns_scalar)
gather_gives true registry frame rows shared (input ∷ index ∷ []) = λ values i indices at. gather_values_fit input.type values indices false i.of.fitting (λ one. at.one refl)
gather_gives false registry frame rows shared (input ∷ index ∷ []) = λ values i indices at. gather_values_fit input.type values indices true i.of.fitting (λ one. cc)
gather_gives _ registry frame rows shared _ = tt

pub filter_gives : KernelGives FilterOp
filter_gives registry frame rows shared (input ∷ by ∷ []) = λ values i truths b. filter_values_fit input.type values truths i.of.fitting
filter_gives registry frame rows shared _ = tt

pub sort_gives : (options : SortOptions) → KernelGives (SortOp options)
sort_gives options registry frame rows shared (input ∷ []) = λ values i. sort_values_fit options input values i.of
sort_gives options registry frame rows shared _ = tt

pub sort_by_gives : (descending nulls_last : List Bool) → KernelGives (SortByOp descending nulls_last)
sort_by_gives descending nulls_last registry frame rows shared [] = tt
sort_by_gives descending nulls_last registry frame rows shared (input ∷ keys) =
    let asked : Signature = record { first = asks Any; second = asks Sortable; rest = asks Sortable; own = First; many = AsFirst; sharing = Alone } in
    where_signed (has_flags descending nulls_last (length keys)) asked ComputeError _ (λ values i. any_columns shared asked 1 keys (λ columns. Meets (AreOf input) (sort_by_values descending nulls_last values columns)) (λ columns. sort_by_values_fit descending nulls_last input values columns i.of))
