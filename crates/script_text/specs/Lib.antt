pub mod Sees
pub mod Trains
