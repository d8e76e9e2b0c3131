pub mod Greatest
mod Kept
mod Told
mod Worked
