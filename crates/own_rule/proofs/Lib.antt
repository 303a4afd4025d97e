mod AndLemmas
mod CastLemmas
mod ChangedOpLemmas
mod RelaxedLemmas
