pub mod Computed
pub mod Idle
pub mod Mistakes
pub mod Refusals
pub mod Lots
pub mod Exported
