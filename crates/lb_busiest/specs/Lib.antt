pub mod Ranking
pub mod Sources
