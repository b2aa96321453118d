mod Attempting
mod Settling
mod Closing
