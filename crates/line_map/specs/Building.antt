-- What an added item and a finished line say of the items.
use Rattle.std.specs.Prelude.{◌≡◌, ◌<◌, List, [], ◌∷◌, ◌++◌, Result, Ok, Err, ⊤, true}
use Rattle.definitions.specs.declared.item.Item.{Item}
use Rattle.definitions.specs.Track.{Line}
use Rattle.definitions.specs.Rules.{rule_of, finish_rule, is_line}
use Rattle.line_map.specs.declared.builder.LineFault.{LineFault}
use Rattle.line_map.specs.declared.builder.LineFault.TheVariants.{Memory, Rule}

-- an item is added where it breaks no rule, and refused by the least that it breaks; one for which there is no memory
-- breaks none
abbrev pub Adds : List Item → Item → Result ⊤ LineFault → List Item → Type 0
Adds old item (Ok _) new = (rule_of old item ≡ 0) × (new ≡ old ++ item ∷ [])
Adds old item (Err (Rule r)) new = (r ≡ rule_of old item) × (0 < r) × (new ≡ old)
Adds old item (Err Memory) new = (rule_of old item ≡ 0) × (new ≡ old)

-- a line is finished where its items break no rule, and is valid then; it is refused by the least that they break; that takes no memory
abbrev pub Finishes : List Item → Result Line LineFault → Type 0
Finishes old (Ok line) = (finish_rule old ≡ 0) × (line ≡ old) × (is_line line ≡ true)
Finishes old (Err (Rule r)) = (r ≡ finish_rule old) × (0 < r)
Finishes old (Err Memory) = ⊥
