pub mod Types
pub mod Statistics
