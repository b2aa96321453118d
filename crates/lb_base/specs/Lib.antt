pub mod Mask
pub mod Sets
pub mod Weight
pub mod Figures
pub mod Greatest
pub mod Room
