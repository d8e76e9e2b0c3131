pub mod Read_there
mod All_posted
pub mod Zone_next
mod Parts_moved
