pub mod Finding
pub mod Sees
pub mod Stuck
pub mod Writing
