pub mod DenotationLemmas
pub mod InputLemmas
pub mod ItemLemmas
pub mod LabelLemmas
mod NamedLemmas
pub mod NumberLemmas
pub mod OperandNameLemmas
pub mod OptionLemmas
pub mod PlanSchemaLemmas
pub mod RecordedSchemaLemmas
pub mod RunLemmas
pub mod UncheckedLemmas
pub mod WindowLemmas
