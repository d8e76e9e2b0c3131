pub mod Pace_most
pub mod Stands_on
pub mod Moves_on
pub mod Unfit
pub mod Stays_kept
pub mod Changed_is
pub mod Event_stays
pub mod Answers_is
