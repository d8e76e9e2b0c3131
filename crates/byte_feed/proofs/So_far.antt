-- What was written so far is what the whole text lines so far give.
use Rattle.std.proofs.Common.{◌≡◌, ℕ, ◌+◌, List, [], ◌∷◌, ◌++◌, length, true, false, refl, sym, ◌∙◌, ap, append_assoc, length-append, append-nil, arith}
use Rattle.std.proofs.Math.Bool.{or-true}
use Rattle.std.proofs.lemmas.Bool.{ltb-true, lt-ltb, eqb-true}
use Rattle.std.specs.Prelude.{nat_eq, nat_lt}
use Rattle.list_laws.proofs.By_test.{by_test}
use Rattle.definitions.specs.declared.document.Ending.TheVariants as ends
use Rattle.definitions.specs.declared.document.Command.{Command}
use Rattle.definitions.specs.Lines.{text_lines, text_of}
use Rattle.definitions.specs.Trace.{Over, Reading, Step, is_over, start, input_limit, text_read, line_read}
use Rattle.byte_feed.specs.Feed.{Feed, opened, line_fed, kept_on, fed, feds_text, ends_lf, whole_lines, lines_text}
use Rattle.byte_feed.proofs.Line_whole.{no_lf_more, line_whole, line_last, line_begins}
use Rattle.byte_feed.proofs.Kept_more.{kept_more}
use Rattle.byte_feed.proofs.Trace_fed.{Keeps, over_stays, too_long, ends_line, no_lf_none, length_snoc, fed_stays, fed_long, fed_lf, fed_more}

lf_there : (part : List ℕ) → ends_lf (part ++ 10 ∷ []) ≡ true
unfolding ends_lf
lf_there [] = refl
lf_there (x ∷ part) = rw (lf_there part) (or-true (nat_eq x 10))

over_text : (lines : List (List ℕ)) (r : Reading) → is_over r.stage ≡ true → lines_text r lines ≡ []
unfolding lines_text
over_text [] r h = refl
over_text (line ∷ lines) r h = rw (over_stays r (length line) (text_of line) h) (over_text lines r h)

over_feds : (xs : List ℕ) (f : Feed) → is_over f.reading.stage ≡ true → feds_text f xs ≡ []
unfolding feds_text
over_feds [] f h = refl
over_feds (b ∷ xs) f h = rw (fed_stays f b h) (over_feds xs f h)

feds_step : (f : Feed) (b : ℕ) (rest : List ℕ) → feds_text f (b ∷ rest) ≡ (fed f b).text ++ feds_text (fed f b).next rest
unfolding feds_text
feds_step f b rest = refl

abbrev came : Step → List (List ℕ) → List ℕ
came x lines = x.text ++ lines_text x.next lines

whole_step : (r : Reading) (line : List ℕ) (lines : List (List ℕ)) → ends_lf line ≡ true → lines_text r (whole_lines (line ∷ lines)) ≡ came (line_read r line) (whole_lines lines)
unfolding whole_lines lines_text
whole_step r line lines h = rw h refl

part_step : (r : Reading) (line : List ℕ) (lines : List (List ℕ)) → ends_lf line ≡ false → lines_text r (whole_lines (line ∷ lines)) ≡ []
unfolding whole_lines lines_text
part_step r line lines h = rw h refl

none_yet : (f : Feed) (part : List ℕ) → Keeps f part → feds_text f [] ≡ lines_text f.reading (whole_lines (text_lines part))
unfolding feds_text lines_text whole_lines text_lines
none_yet f [] k = refl
none_yet f (b ∷ part) k = rw (line_last b part k.no_lf, k.no_lf) refl

past : (r : Reading) (line : List ℕ) (lines : List (List ℕ)) → is_over r.stage ≡ false → nat_lt input_limit (r.bytes + length line) ≡ true → lines_text r (whole_lines (line ∷ lines)) ≡ []
past r line lines on long = by_test (ends_lf line)
    (λ y. whole_step r line lines y ∙ (ap (λ x. came x (whole_lines lines)) (too_long r (length line) (text_of line) on long) ∙ over_text (whole_lines lines) (record r { stage = Over ends.Input }) refl))
    (λ n. part_step r line lines n)

pub writes : (rest : List ℕ) (f : Feed) (part : List ℕ) → Keeps f part → feds_text f rest ≡ lines_text f.reading (whole_lines (text_lines (part ++ rest)))
writes [] f part k = none_yet f part k ∙ ap (λ xs. lines_text f.reading (whole_lines (text_lines xs))) (sym (append-nil part))
writes (b ∷ rest) f part k = by_test (is_over f.reading.stage)
    (λ over. over_feds (b ∷ rest) f over ∙ sym (over_text (whole_lines (text_lines (part ++ b ∷ rest))) f.reading over))
    (λ on. by_test (nat_lt input_limit (f.reading.bytes + (f.size + 1)))
    (λ long.
    let i = line_begins part b rest k.no_lf in
    let line = (part ++ b ∷ []) ++ i.more in
    let beyond : nat_lt input_limit (f.reading.bytes + length line) ≡ true = lt-ltb input_limit (f.reading.bytes + length line) (omega (arith, ltb-true input_limit (f.reading.bytes + (f.size + 1)) long, k.size, length_snoc part b, length-append (part ++ b ∷ []) i.more)) in
    feds_step f b rest
    ∙ (ap (λ x. x.text ++ feds_text x.next rest) (fed_long f b on long ∙ ap line_fed (too_long f.reading (f.size + 1) f.kept on long))
    ∙ (over_feds rest (opened (record f.reading { stage = Over ends.Input })) refl
    ∙ sym (ap (λ ls. lines_text f.reading (whole_lines ls)) i.is ∙ past f.reading line i.lines on beyond))))
    (λ within. by_test (nat_eq b 10)
    (λ lf.
    let e : b ≡ 10 = eqb-true b 10 lf in
    let x = text_read f.reading (f.size + 1) f.kept in
    let first : feds_text f (b ∷ rest) ≡ came x (whole_lines (text_lines rest)) =
    feds_step f b rest
    ∙ (ap (λ y. y.text ++ feds_text y.next rest) (fed_lf f b on within lf)
    ∙ ap (λ t. x.text ++ t) (writes rest (opened x.next) [] (record { kept = refl; size = refl; no_lf = no_lf_none }))) in
    let lines : text_lines (part ++ b ∷ rest) ≡ (part ++ 10 ∷ []) ∷ text_lines rest =
    ap (λ c. text_lines (part ++ c ∷ rest)) e ∙ line_whole part rest k.no_lf in
    first ∙ (ap (λ y. came y (whole_lines (text_lines rest))) (ends_line f part k)
    ∙ (sym (whole_step f.reading (part ++ 10 ∷ []) (text_lines rest) (lf_there part)) ∙ ap (λ ls. lines_text f.reading (whole_lines ls)) (sym lines))))
    (λ other.
    let next : Feed = record f { kept = kept_on f.kept b; size = f.size + 1 } in
    let more : Keeps next (part ++ b ∷ []) = record {
      kept = ap (λ xs. kept_on xs b) k.kept ∙ kept_more part b;
      size = ap (λ n. n + 1) k.size ∙ sym (length_snoc part b);
      no_lf = no_lf_more part b k.no_lf other;
    } in
    feds_step f b rest
    ∙ (ap (λ y. y.text ++ feds_text y.next rest) (fed_more f b on within other)
    ∙ (writes rest next (part ++ b ∷ []) more ∙ ap (λ xs. lines_text f.reading (whole_lines (text_lines xs))) (append_assoc part (b ∷ []) rest))))))

-- so far, of a document from its start
pub so_far : (c : Command) (got : List ℕ) → feds_text (opened (start c)) got ≡ lines_text (start c) (whole_lines (text_lines got))
so_far c got = writes got (opened (start c)) [] (record { kept = refl; size = refl; no_lf = no_lf_none })
