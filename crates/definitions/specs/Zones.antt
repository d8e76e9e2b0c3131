-- The zones of a line.
use Rattle.std.specs.Prelude.{ℕ, [], ◌∷◌}
use Rattle.definitions.specs.declared.item.Item.{Item}
use Rattle.definitions.specs.declared.item.Item.TheVariants.{Zone}
use Rattle.definitions.specs.Track.{Line}

abbrev pub zone_or : Item → ℕ → ℕ
zone_or (Zone z) other = z
zone_or _ other = other

-- the first zone of a line; 0 where there is none
unfoldable pub zone_id : Line → ℕ
zone_id [] = 0
zone_id (i ∷ line) = zone_or i (zone_id line)
