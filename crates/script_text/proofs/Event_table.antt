-- The table of events can be read byte by byte, and its values have room.
use Rattle.std.proofs.Common.{◌≡◌, true, refl}
use Rattle.text_forms.specs.Tables.{is_table, apart, unlike_all, alike, all_clear, is_clear, clear, has_room}
use Rattle.definitions.specs.EventText.{event_forms}

pub event_table : is_table event_forms ≡ true
unfolding event_forms is_table apart unlike_all alike all_clear is_clear clear
event_table = refl

pub event_room : has_room event_forms ≡ true
unfolding event_forms
event_room = refl
