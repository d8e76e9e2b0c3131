pub mod By_test
pub mod Placed
