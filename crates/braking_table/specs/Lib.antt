pub mod Brake
pub mod Made
