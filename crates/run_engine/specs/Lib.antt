pub mod Reads
pub mod Shown
pub mod Faults
pub mod Feeding
pub mod Does
pub mod Sends
pub mod Ahead
