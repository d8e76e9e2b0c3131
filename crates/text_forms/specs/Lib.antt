pub mod Forms
pub mod Language
pub mod Reading
pub mod Rows
pub mod Tables
