-- What the code that makes events is given and answers.
use Rattle.std.specs.Prelude.{◌≡◌, ℕ, ℤ, ◌≤◌, ◌<◌, false, true, List, [], ◌∷◌, ◌++◌, length, drop, Option, Some, None, Result, Ok, Err}
use Rattle.form_codec.specs.declared.fault.TextFault.{TextFault}
use Rattle.definitions.specs.declared.event.Event.{Event}
use Rattle.definitions.specs.declared.document.EventLine.{EventLine}
use Rattle.definitions.specs.declared.document.EventLine.TheVariants as tells
use Rattle.definitions.specs.EventFields.{is_offset, offset_of}

abbrev pub SeesOffset : ℕ → Option ℤ → Type 0
SeesOffset v (Some off) = (is_offset v ≡ true) × (off ≡ offset_of v)
SeesOffset v None = is_offset v ≡ false

-- the event was put in its place, or the same field is refused
abbrev pub Makes : {U : Type 0} → Result U ℕ → EventLine → Result Event ℕ → Type 0
Makes (Ok u) new (Ok e) = new ≡ tells.Event e
Makes (Ok u) new (Err k) = ⊥
Makes (Err j) new (Ok e) = ⊥
Makes (Err j) new (Err k) = j ≡ k

-- what is told stands after what was there, or the same field is refused; 0 is no field
abbrev pub Puts : {A : Type 0} → List A → List A → ℕ → Result (List A) ℕ → Type 0
Puts old new code (Ok more) = (code ≡ 0) × (new ≡ old ++ more)
Puts old new code (Err k) = (code ≡ k) × (0 < k)

-- the same with a number
abbrev pub PutsAsked : {A : Type 0} → List A → List A → ℕ → ℕ → Result (List A × ℕ) ℕ → Type 0
PutsAsked old new to code (Ok x) = (code ≡ 0) × (new ≡ old ++ x.0) × (to ≡ x.1)
PutsAsked old new to code (Err k) = (code ≡ k) × (0 < k)

-- each is a byte
unfoldable pub AllBytes : List ℕ → Type 0
AllBytes [] = Unit {0}
AllBytes (v ∷ vs) = (v < 256) × AllBytes vs

-- the values of the forms with lists have room
abbrev pub HasRoom : ℕ → List ℕ → Type 0
HasRoom i vs = (i ≡ 3 → length vs ≤ 4096) × (i ≡ 8 → length vs ≤ 51) × (i ≡ 20 → (length vs ≤ 130) × AllBytes (drop 2 vs))

-- the event or the column was returned
abbrev pub SeesEvent : Result Event TextFault → Result Event ℕ → Type 0
SeesEvent (Ok x) read = read ≡ Ok x
SeesEvent (Err fault) read = read ≡ Err fault.column
