pub mod Domains
pub mod Parted
pub mod Steps
pub mod Errors
pub mod Topologies
pub mod Laws
