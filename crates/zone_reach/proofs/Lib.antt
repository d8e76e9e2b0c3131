pub mod First_place_is
pub mod First_held_is
pub mod First_closed_is
pub mod Train_away
pub mod Stop_is
pub mod Longer_is
pub mod Reach_is
pub mod Near_more
