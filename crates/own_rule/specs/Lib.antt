pub mod HarmlessCasts
pub mod OpChanges
pub mod OpChangeLaws
pub mod PlainAnds
