mod Told
mod Done
mod Midway_more
mod All_safe
pub mod Under
