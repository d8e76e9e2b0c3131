pub mod Item_table
pub mod Item_said
pub mod Item_taken
