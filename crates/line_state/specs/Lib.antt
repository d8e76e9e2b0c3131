pub mod Frames
pub mod Losses
pub mod State
