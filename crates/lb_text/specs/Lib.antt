pub mod Prefixes
pub mod Numbers
pub mod Scan
pub mod Lists
pub mod Pieces
pub mod Runs
pub mod Lines
pub mod Laws
