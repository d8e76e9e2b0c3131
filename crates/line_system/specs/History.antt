-- What contracts see of a system.
use Rattle.std.specs.Prelude.{List}
use Rattle.definitions.specs.declared.item.Item.{Item}
use Rattle.definitions.specs.declared.event.Event.{Event}

pub record History : Type 0 where
  pub line : List Item
  pub events : List Event  -- the newest first
