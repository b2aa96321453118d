pub mod Lists
pub mod Places
pub mod Chains
pub mod Inside
