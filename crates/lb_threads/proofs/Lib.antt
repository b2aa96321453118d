pub mod Going
pub mod Numbers
pub mod Premises
pub mod Starting
