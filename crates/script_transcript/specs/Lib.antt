pub mod TranscriptLine
pub mod Written
