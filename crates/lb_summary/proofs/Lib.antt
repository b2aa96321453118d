pub mod Leaving
pub mod Counted
pub mod Going
pub mod Texts
pub mod Places
pub mod Once
pub mod Alone
pub mod Within
