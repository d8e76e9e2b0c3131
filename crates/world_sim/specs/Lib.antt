pub mod Places
pub mod Trains
pub mod World
