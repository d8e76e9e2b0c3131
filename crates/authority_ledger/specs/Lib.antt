pub mod Ledger
pub mod Numbers
pub mod Keeps
