pub mod Found_is
pub mod Narrowed_stands
pub mod Marked
pub mod Cut_train
pub mod Checked_fits
pub mod Granted_is
pub mod Told
