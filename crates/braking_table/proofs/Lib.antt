pub mod Stop_rises
