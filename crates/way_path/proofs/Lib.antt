pub mod Rest_is
pub mod As_points
pub mod Dropped_is_way
