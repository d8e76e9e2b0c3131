pub mod Parts_first
pub mod Says_at
