-- What a reader of the code returned is what reading gives.
use Rattle.std.specs.Prelude.{◌≡◌, ℕ, List, ◌++◌, Result, Ok, Err, ◌+◌, ◌*◌, length}
use Rattle.std.specs.Borrow.{Bor}
use Rattle.form_codec.specs.declared.fault.TextFault.{TextFault}

abbrev pub Sees : {X Y : Type 0} → (X → Y) → Result X ℕ → Result Y ℕ → Type 0
Sees view (Ok x) read = read ≡ Ok (view x)
Sees view (Err left) read = read ≡ Err left

-- what was read stands after what was there
abbrev pub PutRest : List ℕ → List ℕ → Result (Bor (List ℕ)) ℕ → Result (List ℕ × List ℕ) ℕ → Type 0
PutRest old new (Ok rest) (Ok x) = (new ≡ old ++ x.0) × (rest.now ≡ x.1)
PutRest old new (Ok rest) (Err left) = ⊥
PutRest old new (Err left) (Ok x) = ⊥
PutRest old new (Err left) (Err l) = left ≡ l

-- the same where nothing follows
abbrev pub PutAll : {A : Type 0} → List ℕ → List ℕ → Result A ℕ → Result (List ℕ) ℕ → Type 0
PutAll old new (Ok u) (Ok xs) = new ≡ old ++ xs
PutAll old new (Ok u) (Err left) = ⊥
PutAll old new (Err left) (Ok x) = ⊥
PutAll old new (Err left) (Err l) = left ≡ l

-- the place of the form was returned, and the values stand alone
abbrev pub PutForm : List ℕ → Result ℕ ℕ → Result (ℕ × List ℕ) ℕ → Type 0
PutForm new (Ok i) (Ok x) = (i ≡ x.0) × (new ≡ x.1)
PutForm new (Ok i) (Err left) = ⊥
PutForm new (Err left) (Ok x) = ⊥
PutForm new (Err left) (Err l) = left ≡ l

-- the same, where the answer is one number
abbrev pub PutCode : List ℕ → List ℕ → ℕ → Result (List ℕ × List ℕ) ℕ → Type 0
PutCode old new code (Ok x) = (new ≡ old ++ x.0) × (code ≡ 2 * length x.1)
PutCode old new code (Err left) = code ≡ 2 * left + 1

-- the place of the form or the column was returned, and the values stand alone
abbrev pub SeesForm : List ℕ → Result ℕ TextFault → Result (ℕ × List ℕ) ℕ → Type 0
SeesForm new (Ok i) read = read ≡ Ok (i, new)
SeesForm new (Err fault) read = read ≡ Err fault.column
