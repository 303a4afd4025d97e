mod FilterLemmas
mod RootLemmas
