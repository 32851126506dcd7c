-- The laws of `specs/Events.antt`: runs of one x, the sweep from event to event, and that each test of an event is passed where no two segments meet wrongly.
pub mod Runs
pub mod Sweeping
pub mod ClearEvent
