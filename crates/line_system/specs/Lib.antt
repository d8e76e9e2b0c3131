pub mod History
pub mod Kept
pub mod System
pub mod Shows
