-- Text lines, from their front.
use Rattle.std.proofs.Common.{◌≡◌, ℕ, List, [], ◌∷◌, ◌++◌, false, refl}
use Rattle.std.specs.Prelude.{nat_eq}
use Rattle.std.proofs.lemmas.Bool.{or_parts}
use Rattle.list_laws.proofs.By_test.{by_test}
use Rattle.definitions.specs.Lines.{text_lines, onto_first, text_of}
use Rattle.byte_feed.specs.Feed.{ends_lf}

pub no_lf_here : (b : ℕ) (bytes : List ℕ) → ends_lf (b ∷ bytes) ≡ false → (nat_eq b 10 ≡ false) × (ends_lf bytes ≡ false)
unfolding ends_lf
no_lf_here b bytes h = or_parts (nat_eq b 10) (ends_lf bytes) h

pub no_lf_more : (part : List ℕ) (b : ℕ) → ends_lf part ≡ false → nat_eq b 10 ≡ false → ends_lf (part ++ b ∷ []) ≡ false
unfolding ends_lf
no_lf_more [] b h e = rw e refl
no_lf_more (x ∷ part) b h e =
    let k = no_lf_here x part h in
    rw k.0 (no_lf_more part b k.1 e)

pub line_whole : (part rest : List ℕ) → ends_lf part ≡ false → text_lines (part ++ 10 ∷ rest) ≡ (part ++ 10 ∷ []) ∷ text_lines rest
unfolding text_lines
line_whole [] rest h = refl
line_whole (b ∷ part) rest h =
    let k = no_lf_here b part h in
    rw (k.0, line_whole part rest k.1) refl

pub line_last : (b : ℕ) (part : List ℕ) → ends_lf (b ∷ part) ≡ false → text_lines (b ∷ part) ≡ (b ∷ part) ∷ []
unfolding text_lines
line_last b [] h = rw ((no_lf_here b [] h).0) refl
line_last b (c ∷ part) h =
    let k = no_lf_here b (c ∷ part) h in
    rw (k.0, line_last c part k.1) refl

pub text_whole : (part : List ℕ) → ends_lf part ≡ false → text_of (part ++ 10 ∷ []) ≡ part
unfolding text_of
text_whole [] h = refl
text_whole (b ∷ part) h =
    let k = no_lf_here b part h in
    rw (k.0, text_whole part k.1) refl

pub text_last : (part : List ℕ) → ends_lf part ≡ false → text_of part ≡ part
unfolding text_of
text_last [] h = refl
text_last (b ∷ part) h =
    let k = no_lf_here b part h in
    rw (k.0, text_last part k.1) refl

-- the first line begins with a front that has no LF, and the byte after it
pub record Begins (bytes front : List ℕ) : Type 0 where
  pub more : List ℕ
  pub lines : List (List ℕ)
  pub is : text_lines bytes ≡ (front ++ more) ∷ lines

onto : (b : ℕ) (lines : List (List ℕ)) → (more : List ℕ) × (others : List (List ℕ)) × (onto_first b lines ≡ (b ∷ more) ∷ others)
onto b [] = ([], [], refl)
onto b (line ∷ lines) = (line, lines, refl)

pub line_begins : (part : List ℕ) (b : ℕ) (rest : List ℕ) → ends_lf part ≡ false → Begins (part ++ b ∷ rest) (part ++ b ∷ [])
unfolding text_lines
line_begins [] b rest h = by_test (nat_eq b 10)
    (λ e. record { more = []; lines = text_lines rest; is = rw e refl })
    (λ e. let k = onto b (text_lines rest) in record { more = k.0; lines = k.1; is = rw e k.2 })
line_begins (x ∷ part) b rest h =
    let k = no_lf_here x part h in
    let i = line_begins part b rest k.1 in
    record { more = i.more; lines = i.lines; is = rw (k.0, i.is) refl }
