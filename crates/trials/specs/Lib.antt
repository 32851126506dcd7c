pub mod Trials
pub mod Idle
pub mod Mistakes
pub mod Refusals
pub mod Lots
pub mod Exported
