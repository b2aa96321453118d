mod Decays
mod Bounds
mod Signals
