mod Sights
mod Opening
