-- The table of items can be read byte by byte, its values have room, and its texts are short.
use Rattle.std.proofs.Common.{◌≡◌, true, refl}
use Rattle.text_forms.specs.Tables.{is_table, apart, unlike_all, alike, all_clear, is_clear, clear, has_room, all_short}
use Rattle.definitions.specs.ItemText.{item_forms}

pub item_table : is_table item_forms ≡ true
unfolding item_forms is_table apart unlike_all alike all_clear is_clear clear
item_table = refl

pub item_room : has_room item_forms ≡ true
unfolding item_forms
item_room = refl

pub item_short : all_short item_forms ≡ true
unfolding item_forms
item_short = refl
