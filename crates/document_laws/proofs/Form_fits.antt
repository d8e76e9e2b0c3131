-- What the form of a text tells of its values: the kind of a train, how many steps an ask has, and that noise has a byte.
use Rattle.std.proofs.Common.{◌≡◌, ℕ, zero, suc, ◌+◌, ◌-◌, ◌*◌, ◌<◌, ◌≤◌, List, [], ◌∷◌, ◌++◌, refl, sym, ◌∙◌, ap, subst, arith, append-nil, length-append}
use Rattle.std.proofs.lemmas.Bool.{eqb-true}
use Rattle.std.specs.Prelude.{length, max, nat_eq, nat_lt, codes, Option, Some, None, Result, Ok, Err}
use Rattle.list_laws.proofs.By_test.{by_test}
use Rattle.text_forms.specs.declared.part.Part.{Part}
use Rattle.text_forms.specs.declared.part.Part.TheVariants.{Number, Sign, Word, FirstByte, Byte}
use Rattle.text_forms.specs.declared.part.Words.TheVariants as sets
use Rattle.text_forms.specs.Language.{most_bytes}
use Rattle.text_forms.specs.Forms.{words_of, Form, plain, repeated, words}
use Rattle.text_forms.specs.Reading.{Read, ◌>>=◌, word_at, after_word, common, word_or, parts_at, part_at, groups_at, fields_at, fields_in, line_at, telling, form_from, form_at}
use Rattle.definitions.specs.EventText.{event_forms}

pub same_ok : {A : Type 0} (x y : A) (r : Result A ℕ) → r ≡ Ok x → r ≡ Ok y → x ≡ y
same_ok x y r g h = cc

-- the kind of a train is one of two
abbrev pub KindFits : List ℕ → Type 0
KindFits (t ∷ len ∷ err ∷ v ∷ kind ∷ []) = kind < 2
KindFits vs = Unit {0}

bind_ok : {A B : Type 0} (r : Result A ℕ) (f : A → Result B ℕ) (y : B) → (r >>= f) ≡ Ok y → (x : A) × ((r ≡ Ok x) × (f x ≡ Ok y))
bind_ok (Ok x) f y h = (x, (refl, h))
bind_ok (Err e) f y h = absurd cc

word_next : (k n : ℕ) (rest : List ℕ) (later : Read ℕ) (r : Option (List ℕ)) (x : ℕ × List ℕ) → (later ≡ Ok x → x.0 < suc k + n) → word_or k r later ≡ Ok x → x.0 < k + suc n
word_next k n rest later (Some after) x i e = let same : k ≡ x.0 = ap (λ (y : ℕ × List ℕ). y.0) (same_ok (k, after) x _ refl e) in omega (arith, same)
word_next k n rest later None x i e = let j = i e in omega (arith, j)

word_few : (k longest : ℕ) (ws : List (List ℕ)) (bytes : List ℕ) (x : ℕ × List ℕ) → word_at k longest ws bytes ≡ Ok x → x.0 < k + length ws
unfolding word_at
word_few k longest [] bytes x h = absurd cc
word_few k longest (w ∷ ws) bytes x h = word_next k (length ws) bytes _ (after_word w bytes) x (word_few (suc k) (max longest (common w bytes)) ws bytes x) h

-- the value of a word is its place
abbrev PartValue : Part → ℕ → Type 0
PartValue (Word ws) v = v < length (words_of ws)
PartValue p v = Unit {0}

abbrev PartValues : List Part → List ℕ → Type 0
PartValues [] vs = vs ≡ []
PartValues (p ∷ ps) [] = ⊥
PartValues (p ∷ ps) (v ∷ vs) = PartValue p v × PartValues ps vs

part_value : (p : Part) (bytes : List ℕ) (x : ℕ × List ℕ) → part_at p bytes ≡ Ok x → PartValue p x.0
unfolding part_at
part_value (Word ws) bytes x h = let i = word_few 0 0 (words_of ws) bytes x h in omega (arith, i)
part_value _ bytes x h = tt

abbrev joined : ℕ → List ℕ × List ℕ → Read (List ℕ)
joined v xs = Ok (v ∷ xs.0, xs.1)

abbrev rest_at : List Part → ℕ × List ℕ → Read (List ℕ)
rest_at ps x = parts_at ps x.1 >>= joined x.0

part_values : (ps : List Part) (bytes : List ℕ) (y : List ℕ × List ℕ) → parts_at ps bytes ≡ Ok y → PartValues ps y.0
unfolding parts_at
part_values [] bytes y h = ap (λ (z : List ℕ × List ℕ). z.0) (sym (same_ok ([], bytes) y _ refl h))
part_values (p ∷ ps) bytes y h =
    let a = bind_ok (part_at p bytes) (rest_at ps) y h in
    let b = bind_ok (parts_at ps a.0.1) (joined a.0.0) y a.1.1 in
    rw (← same_ok (a.0.0 ∷ b.0.0, b.0.1) y _ refl b.1.1) (part_value p bytes a.0 a.1.0, part_values ps a.0.1 b.0 b.1.0)

abbrev train_parts : List Part
train_parts = Number ∷ Number ∷ Number ∷ Number ∷ Word sets.Kind ∷ []

values_count : (ps : List Part) (vs : List ℕ) → PartValues ps vs → length vs ≡ length ps
values_count [] vs h = rw h refl
values_count (p ∷ ps) [] h = absurd h
values_count (p ∷ ps) (v ∷ vs) h = let i = values_count ps vs h.1 in omega (arith, i)

-- The values of a form: those of its parts, and those of the groups behind them.

pub record Parted (f : Form) (vs : List ℕ) : Type 0 where
  pub front : List ℕ
  pub groups : List ℕ
  pub behind : List ℕ  -- the bytes of the groups
  pub is : vs ≡ front ++ groups
  pub values : PartValues f.parts front
  pub grouped : groups_at f.group f.least f.most behind ≡ Ok groups

abbrev group_after : List Part → ℕ → ℕ → List ℕ × List ℕ → Result (List ℕ) ℕ
group_after group least most x = groups_at group least most x.1 >>= λ xs. Ok (x.0 ++ xs)

parted : (f : Form) (bytes vs : List ℕ) → fields_at f bytes ≡ Ok vs → Parted f vs
unfolding fields_at
parted f bytes vs h =
    let a = bind_ok (parts_at f.parts bytes) (group_after f.group f.least f.most) vs h in
    let b = bind_ok (groups_at f.group f.least f.most a.0.1) (λ xs. Ok (a.0.0 ++ xs)) vs a.1.1 in
    record {
      front = a.0.0;
      groups = b.0;
      behind = a.0.1;
      is = sym (same_ok (a.0.0 ++ b.0) vs _ refl b.1.1);
      values = part_values f.parts bytes a.0 a.1.0;
      grouped = b.1.0;
    }

-- A train.

kind_fits : (vs : List ℕ) → PartValues train_parts vs → KindFits vs
kind_fits (t ∷ len ∷ err ∷ v ∷ kind ∷ []) h = h.1.1.1.1.0
kind_fits (t ∷ len ∷ err ∷ v ∷ kind ∷ _ ∷ _) h = tt
kind_fits [] h = absurd h
kind_fits (t ∷ []) h = absurd h.1
kind_fits (t ∷ len ∷ []) h = absurd h.1.1
kind_fits (t ∷ len ∷ err ∷ []) h = absurd h.1.1.1
kind_fits (t ∷ len ∷ err ∷ v ∷ []) h = absurd h.1.1.1.1

no_group : (ys xs : List ℕ) → groups_at [] 0 0 ys ≡ Ok xs → xs ≡ []
unfolding groups_at
no_group [] xs h = sym (same_ok [] xs _ refl h)
no_group (b ∷ ys) xs h = absurd cc

train_kind : (bytes vs : List ℕ) → fields_in event_forms 0 bytes ≡ Ok vs → KindFits vs
unfolding fields_in event_forms
train_kind bytes vs h =
    let p = parted (plain (codes "train") train_parts) bytes vs h in
    rw (p.is, no_group p.behind p.groups p.grouped, append-nil p.front) (kind_fits p.front p.values)

-- An ask: two values for each group of a step.

two_each : (group : List Part) → length group ≡ 2 → (least most : ℕ) (bytes xs : List ℕ) → groups_at group least most bytes ≡ Ok xs → (2 * least ≤ length xs) × (length xs ≤ 2 * most)
unfolding groups_at
two_each group two least most [] xs h = by_test (nat_eq least 0)
    (λ y.
    let none : xs ≡ [] = let c : groups_at group least most [] ≡ Ok [] = rw y refl in sym (same_ok [] xs _ c h) in
    rw (none, eqb-true least 0 y) (omega arith, omega arith))
    (λ n. absurd (let c : groups_at group least most [] ≡ Err 0 = rw n refl in let d : Err 0 ≡ Ok xs = sym c ∙ h in cc))
two_each group two least zero (b ∷ bytes) xs h = absurd cc
two_each group two least (suc most) (b ∷ bytes) xs h =
    let x = bind_ok (parts_at group (b ∷ bytes)) (group_after group (least - 1) most) xs h in
    let y = bind_ok (groups_at group (least - 1) most x.0.1) (λ ys. Ok (x.0.0 ++ ys)) xs x.1.1 in
    let i = two_each group two (least - 1) most x.0.1 y.0 y.1.0 in
    let n = values_count group x.0.0 (part_values group (b ∷ bytes) x.0 x.1.0) in
    let all = length-append x.0.0 y.0 in
    let lo = i.0 in
    let hi = i.1 in
    rw (← same_ok (x.0.0 ++ y.0) xs _ refl y.1.1) (omega (arith, n, two, all, lo), omega (arith, n, two, all, hi))

ask_counts : (bytes vs : List ℕ) → fields_in event_forms 8 bytes ≡ Ok vs → (5 ≤ length vs) × (length vs ≤ 51)
unfolding fields_in event_forms
ask_counts bytes vs h =
    let p = parted (repeated (codes "ask") (Number ∷ Number ∷ Number ∷ []) (Sign ∷ Number ∷ []) 1 24) bytes vs h in
    let n = values_count (Number ∷ Number ∷ Number ∷ []) p.front p.values in
    let g = two_each (Sign ∷ Number ∷ []) refl 1 24 p.behind p.groups p.grouped in
    let all = length-append p.front p.groups in
    let lo = g.0 in
    let hi = g.1 in
    rw p.is (omega (arith, n, all, lo), omega (arith, n, all, hi))

-- Noise: its first byte is a part.

noise_counts : (bytes vs : List ℕ) → fields_in event_forms 20 bytes ≡ Ok vs → 3 ≤ length vs
unfolding fields_in event_forms
noise_counts bytes vs h =
    let p = parted (repeated (codes "noise") (Number ∷ Number ∷ FirstByte ∷ []) (Byte ∷ []) 0 127) bytes vs h in
    let n = values_count (Number ∷ Number ∷ FirstByte ∷ []) p.front p.values in
    let all = length-append p.front p.groups in
    rw p.is (omega (arith, n, all))

-- what the form at this place tells of its values
pub record FormFits (i : ℕ) (vs : List ℕ) : Type 0 where
  pub kind : i ≡ 0 → KindFits vs
  pub asks : i ≡ 8 → (5 ≤ length vs) × (length vs ≤ 51)
  pub noise : i ≡ 20 → 3 ≤ length vs

fields_fit : (i : ℕ) (bytes vs : List ℕ) → fields_in event_forms i bytes ≡ Ok vs → FormFits i vs
fields_fit i bytes vs h = record {
  kind = λ e. train_kind bytes vs (at 0 e);
  asks = λ e. ask_counts bytes vs (at 8 e);
  noise = λ e. noise_counts bytes vs (at 20 e);
}
  where
    at : (n : ℕ) → i ≡ n → fields_in event_forms n bytes ≡ Ok vs
    at n e = ap (λ m. fields_in event_forms m bytes) (sym e) ∙ h

abbrev fields_after : List Form → ℕ × List ℕ → Result (ℕ × List ℕ) ℕ
fields_after fs x = fields_in fs x.0 x.1 >>= λ vs. Ok (x.0, vs)

line_fits : (bytes : List ℕ) (x : ℕ × List ℕ) → line_at event_forms bytes ≡ Ok x → FormFits x.0 x.1
unfolding line_at
line_fits bytes x h =
    let a = bind_ok (word_at 0 0 (words event_forms) bytes) (fields_after event_forms) x h in
    let b = bind_ok (fields_in event_forms a.0.0 a.0.1) (λ vs. Ok (a.0.0, vs)) x a.1.1 in
    subst (λ (y : ℕ × List ℕ). FormFits y.0 y.1) (same_ok (a.0.0, b.0) x _ refl b.1.1) (fields_fit a.0.0 a.0.1 b.0 b.1.0)

from_ok : (size : ℕ) (r : Result (ℕ × List ℕ) ℕ) (x : ℕ × List ℕ) → form_from size r ≡ Ok x → r ≡ Ok x
from_ok size (Ok y) x h = by_test (nat_lt most_bytes size)
    (λ long. absurd (let c : form_from size (Ok y) ≡ Err (most_bytes + 1) = rw long refl in cc))
    (λ short. let c : form_from size (Ok y) ≡ Ok y = rw short refl in sym c ∙ h)
from_ok size (Err left) x h = absurd cc

pub form_fits : (text : List ℕ) (x : ℕ × List ℕ) → form_at event_forms text ≡ Ok x → FormFits x.0 x.1
unfolding form_at
form_fits text x h = line_fits (telling text) x (from_ok (length (telling text)) (line_at event_forms (telling text)) x h)
