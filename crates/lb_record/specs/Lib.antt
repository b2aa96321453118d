pub mod Words
pub mod Fields
pub mod Header
pub mod Entries
pub mod History
pub mod Laws
pub mod Rows
