pub mod LineFacts
pub mod MarkFacts
