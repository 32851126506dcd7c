pub mod Held
pub mod TextRuns
pub mod AcceptedText
pub mod Cases
