pub mod Moves_put
pub mod Counts_found
pub mod Event_made
pub mod Event_table
pub mod Lent_moves
pub mod Event_said
