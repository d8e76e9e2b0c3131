-- Bytes in runs.
use Rattle.std.proofs.Common.{◌≡◌, ℕ, ◌+◌, ◌-◌, ◌<◌, ◌≤◌, zero, suc, List, [], ◌∷◌, ◌++◌, length, take, drop, get_or, true, false, refl, sym, ◌∙◌, ap, append_assoc, append-nil, length-append, arith}
use Rattle.std.proofs.lemmas.List.{take_all, take_more, take-append-drop, length-take-le, length-drop}
use Rattle.std.proofs.lemmas.Bool.{ltb-true, ltb-false, lt-ltb, le-ltb}
use Rattle.std.specs.Prelude.{nat_eq, nat_lt}
use Rattle.list_laws.proofs.By_test.{by_test}
use Rattle.definitions.specs.declared.document.Ending.TheVariants as ends
use Rattle.definitions.specs.Trace.{Over, is_over, input_limit, text_read}
use Rattle.byte_feed.specs.Feed.{Feed, Fed, Leads, opened, line_fed, kept_on, kept_run, run_on, fed, closed, feds, feds_text, total, ends_lf}
use Rattle.byte_feed.proofs.Line_whole.{no_lf_here}
use Rattle.byte_feed.proofs.Trace_fed.{fed_stays, fed_long, fed_lf, fed_more, closed_some, too_long}
use Rattle.byte_feed.proofs.Feds_append.{feds_append, feds_text_append}

kept_run_none : (kept : List ℕ) → kept_run kept [] ≡ kept
kept_run_none kept = ap (λ xs. kept ++ xs) (take_all (4097 - length kept) [] (omega arith)) ∙ append-nil kept

-- what has begun, as the last text line
pub closed_run : (f : Feed) → nat_eq f.size 0 ≡ false → text_read f.reading f.size (kept_run f.kept []) ≡ closed f
closed_run f h = ap (text_read f.reading f.size) (kept_run_none f.kept) ∙ sym (closed_some f h)

kept_run_more : (kept : List ℕ) (b : ℕ) (run : List ℕ) → kept_run (kept_on kept b) run ≡ kept_run kept (b ∷ run)
kept_run_more kept b run = by_test (nat_lt (length kept) 4097)
    (λ short.
    let few : length kept < 4097 = ltb-true (length kept) 4097 short in
    let n : ℕ = 4097 - (length kept + 1) in
    let left : 4097 - length (kept ++ b ∷ []) ≡ n = omega (arith, length-append kept (b ∷ [])) in
    let room : 4097 - length kept ≡ suc n = omega arith in
    rw short (ap (λ m. (kept ++ b ∷ []) ++ take m run) left ∙ (append_assoc kept (b ∷ []) (take n run) ∙ ap (λ m. kept ++ take m (b ∷ run)) (sym room))))
    (λ full.
    let many : 4097 ≤ length kept = ltb-false (length kept) 4097 full in
    let none : 4097 - length kept ≡ 0 = omega arith in
    rw (full, none) refl)

-- one piece after another
pub leads_then : (f : Feed) (xs ys : List ℕ) (g : Feed) (x : Fed) → Leads f xs (record { next = g; text = [] }) → Leads g ys x → Leads f (xs ++ ys) x
leads_then f xs ys g x h k = record {
  next = feds_append xs f ys ∙ (ap (λ y. feds y ys) h.next ∙ k.next);
  text = feds_text_append xs f ys ∙ (ap (λ t. t ++ feds_text (feds f xs) ys) h.text ∙ (ap (λ y. feds_text y ys) h.next ∙ k.text));
}

leads_none : (f : Feed) → Leads f [] (record { next = f; text = [] })
unfolding feds feds_text
leads_none f = record { next = refl; text = refl }

leads_first : (f : Feed) (b : ℕ) (xs : List ℕ) (x y : Fed) → fed f b ≡ x → Leads x.next xs y → x.text ++ y.text ≡ y.text → Leads f (b ∷ xs) y
unfolding feds feds_text
leads_first f b xs x y e h none = record {
  next = ap (λ z. feds z.next xs) e ∙ h.next;
  text = ap (λ z. z.text ++ feds_text z.next xs) e ∙ (ap (λ t. x.text ++ t) h.text ∙ none);
}

leads_one : (f : Feed) (b : ℕ) (x : Fed) → fed f b ≡ x → Leads f (b ∷ []) x
unfolding feds feds_text
leads_one f b x e = record { next = ap (λ z. z.next) e; text = ap (λ z. z.text ++ []) e ∙ append-nil x.text }

-- after the answer no byte tells anything
pub leads_over : (xs : List ℕ) (f : Feed) → is_over f.reading.stage ≡ true → Leads f xs (record { next = f; text = [] })
leads_over [] f h = leads_none f
leads_over (b ∷ xs) f h = leads_first f b xs (record { next = f; text = [] }) (record { next = f; text = [] }) (fed_stays f b h) (leads_over xs f h) refl

-- a run without an LF, within the limit, is kept
pub leads_run : (xs : List ℕ) (f : Feed) → is_over f.reading.stage ≡ false → total f + length xs ≤ input_limit → ends_lf xs ≡ false → Leads f xs (record { next = run_on f xs; text = [] })
leads_run [] f on within none =
    let kept : f.kept ≡ kept_run f.kept [] = sym (kept_run_none f.kept) in
    let size : f.size ≡ f.size + 0 = omega arith in
    let same : f ≡ run_on f [] = ap (λ (ks : List ℕ). record f { kept = ks }) kept ∙ ap (λ (n : ℕ). record f { kept = kept_run f.kept []; size = n }) size in
    rw (← same) (leads_none f)
leads_run (b ∷ xs) f on within none =
    let k = no_lf_here b xs none in
    let next : Feed = record f { kept = kept_on f.kept b; size = f.size + 1 } in
    let first : fed f b ≡ record { next = next; text = [] } = fed_more f b on (le-ltb input_limit (f.reading.bytes + (f.size + 1)) (omega arith)) k.0 in
    let kept : kept_run next.kept xs ≡ kept_run f.kept (b ∷ xs) = kept_run_more f.kept b xs in
    let size : next.size + length xs ≡ f.size + length (b ∷ xs) = omega arith in
    let same : run_on next xs ≡ run_on f (b ∷ xs) = ap (λ (ks : List ℕ). record f { kept = ks; size = next.size + length xs }) kept ∙ ap (λ (n : ℕ). record f { kept = kept_run f.kept (b ∷ xs); size = n }) size in
    rw (← same) (leads_first f b xs (record { next = next; text = [] }) (record { next = run_on next xs; text = [] }) first (leads_run xs next on (omega arith) k.1) refl)

-- a run and its LF are one text line
pub leads_line : (xs : List ℕ) (f : Feed) (at : ℕ) → is_over f.reading.stage ≡ false → at < length xs → total f + (at + 1) ≤ input_limit → ends_lf (take at xs) ≡ false → get_or xs at 0 ≡ 10 → Leads f (take (at + 1) xs) (line_fed (text_read f.reading (f.size + (at + 1)) (kept_run f.kept (take at xs))))
leads_line xs f at on here within none lf =
    let run = take at xs in
    let long : length run ≡ at = length-take-le at xs (omega arith) in
    let split : take (at + 1) xs ≡ run ++ 10 ∷ [] = take_more xs at 0 here ∙ ap (λ b. run ++ b ∷ []) lf in
    let g : Feed = run_on f run in
    let size : g.size + 1 ≡ f.size + (at + 1) = omega arith in
    let last : fed g 10 ≡ line_fed (text_read f.reading (f.size + (at + 1)) g.kept) =
    fed_lf g 10 on (le-ltb input_limit (g.reading.bytes + (g.size + 1)) (omega arith)) refl ∙ ap (λ n. line_fed (text_read f.reading n g.kept)) size in
    rw split (leads_then f run (10 ∷ []) g _ (leads_run run f on (omega arith) none) (leads_one g 10 _ last))

-- a text line that goes on past the limit ends the document, whatever it is
pub leads_past : (xs : List ℕ) (f : Feed) (left size : ℕ) (text : List ℕ) → is_over f.reading.stage ≡ false → total f + left ≡ input_limit → left < length xs → ends_lf (take left xs) ≡ false → input_limit < f.reading.bytes + size → Leads f xs (line_fed (text_read f.reading size text))
leads_past xs f left size text on room long none past =
    let run = take left xs in
    let here : length run ≡ left = length-take-le left xs (omega arith) in
    let g : Feed = run_on f run in
    let r = f.reading in
    let over : Feed = opened (record r { stage = Over ends.Input }) in
    let is : text_read r size text ≡ record { next = over.reading; text = [] } = too_long r size text on (lt-ltb input_limit (r.bytes + size) past) in
    let beyond : nat_lt input_limit (r.bytes + (g.size + 1)) ≡ true = lt-ltb input_limit (r.bytes + (g.size + 1)) (omega arith) in
    let first : (b : ℕ) → fed g b ≡ record { next = over; text = [] } = λ b. fed_long g b on beyond ∙ ap line_fed (too_long r (g.size + 1) g.kept on beyond) in
    let rest : Leads g (drop left xs) (record { next = over; text = [] }) = ends_there g (drop left xs) over first refl (omega (arith, length-drop left xs)) in
    rw (is, ← take-append-drop left xs) (leads_then f run (drop left xs) g _ (leads_run run f on (omega arith) none) rest)
  where
    ends_there : (g : Feed) (ys : List ℕ) (over : Feed) → ((b : ℕ) → fed g b ≡ record { next = over; text = [] }) → is_over over.reading.stage ≡ true → 1 ≤ length ys → Leads g ys (record { next = over; text = [] })
    ends_there g [] over first h some = absurd (omega arith)
    ends_there g (b ∷ ys) over first h some = leads_first g b ys (record { next = over; text = [] }) (record { next = over; text = [] }) (first b) (leads_over ys over h) refl

-- where no byte below a place is an LF
pub no_lf_below : (xs : List ℕ) (n : ℕ) → ((k : ℕ) → k < n → nat_eq (get_or xs k 0) 10 ≡ true → ⊥) → ends_lf (take n xs) ≡ false
unfolding ends_lf
no_lf_below xs zero none = refl
no_lf_below [] (suc n) none = refl
no_lf_below (x ∷ xs) (suc n) none = by_test (nat_eq x 10)
    (λ y. absurd (none 0 (omega arith) y))
    (λ no. rw no (no_lf_below xs n (λ k l. none (suc k) (omega arith))))
