mod Splits
mod Chained
mod Held
mod Rising
mod Named
