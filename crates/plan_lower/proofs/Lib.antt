pub mod AddedLemmas
pub mod BuiltLemmas
mod DistinctLemmas
pub mod DropLemmas
pub mod ExamplePlanLemmas
pub mod ExpressionFieldLemmas
pub mod FilterLemmas
mod FunctionLemmas
pub mod GroupLemmas
mod HorizontalLemmas
pub mod NodeLemmas
pub mod PlanLemmas
pub mod ProjectionLemmas
pub mod RecordedLemmas
mod RecordingLemmas
mod SortLemmas
mod SpelledLemmas
mod StepLemmas
mod TopNumberLemmas
mod WorkLemmas
