pub mod Notes
pub mod Table
pub mod Uses
pub mod Building
pub mod Next
pub mod Order
