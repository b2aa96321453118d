pub mod Summary
pub mod Text
pub mod Counting
pub mod Laws
