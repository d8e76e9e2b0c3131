pub use Rattle.zone_reach.specs.Reach
pub use Rattle.zone_reach.specs.Held
pub mod Zone
