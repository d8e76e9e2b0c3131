pub mod Held_some
pub mod After_follows
pub mod Placed_is
pub mod Stepped_follows
pub mod Holds_set
pub mod Kept_put
pub mod Shortened_same
pub mod Passed_same
