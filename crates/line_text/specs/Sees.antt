-- What the reader answers is what reading gives.
use Rattle.std.specs.Prelude.{◌≡◌, ℕ, Result, Ok, Err}
use Rattle.form_codec.specs.declared.fault.TextFault.{TextFault}
use Rattle.definitions.specs.declared.line_item.LineItem.{LineItem}

abbrev pub Sees : Result LineItem TextFault → Result LineItem ℕ → Type 0
Sees (Ok x) read = read ≡ Ok x
Sees (Err fault) read = read ≡ Err fault.column
