-- A piece, and what follows.
use Rattle.std.proofs.Common.{◌≡◌, ℕ, ◌+◌, List, [], ◌∷◌, ◌++◌, length, Bool, true, false, refl, sym, ◌∙◌, ap, append_assoc, arith}
use Rattle.std.specs.Prelude.{nat_eq, nat_lt}
use Rattle.list_laws.proofs.By_test.{by_test}
use Rattle.definitions.specs.declared.document.Ending.TheVariants as ends
use Rattle.definitions.specs.Trace.{Over, Reading, Given, is_over, input_limit, text_read, behind}
use Rattle.byte_feed.specs.Feed.{Feed, line_fed, fed, fed_gives, feds, feds_text, total}
use Rattle.byte_feed.proofs.Trace_fed.{fed_over, fed_stays, fed_long, fed_lf, fed_more, too_long}

pub feds_append : (xs : List ℕ) (f : Feed) (ys : List ℕ) → feds f (xs ++ ys) ≡ feds (feds f xs) ys
unfolding feds
feds_append [] f ys = refl
feds_append (b ∷ xs) f ys = feds_append xs (fed f b).next ys

pub feds_text_append : (xs : List ℕ) (f : Feed) (ys : List ℕ) → feds_text f (xs ++ ys) ≡ feds_text f xs ++ feds_text (feds f xs) ys
unfolding feds feds_text
feds_text_append [] f ys = refl
feds_text_append (b ∷ xs) f ys = ap (λ t. (fed f b).text ++ t) (feds_text_append xs (fed f b).next ys) ∙ sym (append_assoc (fed f b).text (feds_text (fed f b).next xs) (feds_text (feds (fed f b).next xs) ys))

pub behind_behind : (s t : List ℕ) (g : Given) → behind (s ++ t) g ≡ behind s (behind t g)
behind_behind s t g = ap (λ (x : List ℕ). record { text = x; ending = g.ending }) (append_assoc s t g.text)

pub gives_append : (xs : List ℕ) (f : Feed) (ys : List ℕ) → fed_gives f (xs ++ ys) ≡ behind (feds_text f xs) (fed_gives (feds f xs) ys)
unfolding feds feds_text fed_gives
gives_append [] f ys = refl
gives_append (b ∷ xs) f ys =
    ap (behind (fed f b).text) (gives_append xs (fed f b).next ys)
    ∙ sym (behind_behind (fed f b).text (feds_text (fed f b).next xs) (fed_gives (feds (fed f b).next xs) ys))

pub gives_over : (f : Feed) (rest : List ℕ) → is_over f.reading.stage ≡ true → fed_gives f rest ≡ fed_gives f []
gives_over f rest h = fed_over f rest h ∙ sym (fed_over f [] h)

pub over_goes : (xs : List ℕ) (f : Feed) → is_over f.reading.stage ≡ true → feds f xs ≡ f
unfolding feds
over_goes [] f h = refl
over_goes (b ∷ xs) f h = rw (fed_stays f b h) (over_goes xs f h)

-- a text line that was read counts its bytes
read_counts : (r : Reading) (size : ℕ) (text : List ℕ) → is_over r.stage ≡ false → nat_lt input_limit (r.bytes + size) ≡ false → (text_read r size text).next.bytes ≡ r.bytes + size
unfolding text_read
read_counts r size text h e = rw (h, e) refl

fed_counts : (f : Feed) (b : ℕ) → is_over (fed f b).next.reading.stage ≡ false → total (fed f b).next ≡ total f + 1
fed_counts f b h = by_test (is_over f.reading.stage)
    (λ over. absurd (clash (is_over f.reading.stage) over (ap (λ x. is_over x.next.reading.stage) (sym (fed_stays f b over)) ∙ h)))
    (λ on. by_test (nat_lt input_limit (f.reading.bytes + (f.size + 1)))
    (λ long.
    let e : fed f b ≡ line_fed (record { next = record f.reading { stage = Over ends.Input }; text = [] }) = fed_long f b on long ∙ ap line_fed (too_long f.reading (f.size + 1) f.kept on long) in
    absurd (clash true refl (ap (λ x. is_over x.next.reading.stage) (sym e) ∙ h)))
    (λ within. by_test (nat_eq b 10)
    (λ lf. ap (λ x. total x.next) (fed_lf f b on within lf) ∙ (plus_zero (text_read f.reading (f.size + 1) f.kept).next.bytes ∙ (read_counts f.reading (f.size + 1) f.kept on within ∙ omega arith)))
    (λ other. ap (λ x. total x.next) (fed_more f b on within other) ∙ omega arith)))
  where
    clash : (b : Bool) → b ≡ true → b ≡ false → ⊥
    clash true y n = cc
    clash false y n = cc

    plus_zero : (n : ℕ) → n + 0 ≡ n
    plus_zero n = omega arith

pub feds_count : (xs : List ℕ) (f : Feed) → is_over (feds f xs).reading.stage ≡ false → total (feds f xs) ≡ total f + length xs
unfolding feds
feds_count [] f h = omega arith
feds_count (b ∷ xs) f h = by_test (is_over (fed f b).next.reading.stage)
    (λ over. absurd (clash (is_over (fed f b).next.reading.stage) over (ap (λ y. is_over y.reading.stage) (sym (over_goes xs (fed f b).next over)) ∙ h)))
    (λ on. omega (arith, feds_count xs (fed f b).next h, fed_counts f b on))
  where
    clash : (b : Bool) → b ≡ true → b ≡ false → ⊥
    clash true y n = cc
    clash false y n = cc
