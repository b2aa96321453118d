pub mod Growing
pub mod Fields
pub mod Good
pub mod Drawn
pub mod Values
pub mod HeaderLines
pub mod RowLines
pub mod Accepted
