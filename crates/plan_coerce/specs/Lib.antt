-- What the contracts of this crate cite.
pub mod CoercedLaws
pub mod Coercion
pub mod CoercionRule
pub mod KindLaws
pub mod Kinds
pub mod Optimizer
pub mod Reaching
pub mod RuleLaws
pub mod Rules
pub mod Samples
pub mod ToldCasts
pub mod Turns
