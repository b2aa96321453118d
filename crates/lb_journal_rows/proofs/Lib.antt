mod Premises
mod Missing
mod Kept
mod Closed
mod ClosedStop
mod ClosedLook
