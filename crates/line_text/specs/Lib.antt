pub mod Sees
pub mod Values
