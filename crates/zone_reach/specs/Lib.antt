pub mod Walk
pub mod Held
pub mod Closed
pub mod Reach
