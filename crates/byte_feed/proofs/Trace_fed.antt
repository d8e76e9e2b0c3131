-- Byte by byte is line by line.
use Rattle.std.proofs.Common.{◌≡◌, ℕ, ◌+◌, List, [], ◌∷◌, ◌++◌, length, take, true, false, refl, sym, ◌∙◌, ap, append_assoc, length-append, append-nil, arith}
use Rattle.std.proofs.lemmas.Bool.Decides.{nat_tests}
use Rattle.std.proofs.lemmas.Bool.{ltb-true, lt-ltb, eqb-true}
use Rattle.std.specs.Prelude.{nat_eq, nat_lt}
use Rattle.list_laws.proofs.By_test.{by_test}
use Rattle.definitions.specs.declared.document.Command.{Command}
use Rattle.definitions.specs.Lines.{text_lines, text_of}
use Rattle.definitions.specs.declared.document.Ending.TheVariants as ends
use Rattle.definitions.specs.Trace.{Over, Reading, Step, Given, is_over, start, input_limit, text_read, line_read, stage_ends, behind, ended, given, trace}
use Rattle.byte_feed.specs.Feed.{Feed, opened, line_fed, kept_on, fed, closed, fed_gives, ends_lf}
use Rattle.byte_feed.proofs.Line_whole.{no_lf_more, line_whole, line_last, text_whole, text_last, line_begins}
use Rattle.byte_feed.proofs.Kept_more.{text_read_front, kept_more}

pub over_stays : (r : Reading) (size : ℕ) (text : List ℕ) → is_over r.stage ≡ true → text_read r size text ≡ record { next = r; text = [] }
unfolding text_read
over_stays r size text h = rw h refl

pub given_over : (r : Reading) (lines : List (List ℕ)) → is_over r.stage ≡ true → given r lines ≡ ended (stage_ends r.number r.stage)
unfolding given
given_over r [] h = refl
given_over r (line ∷ lines) h = rw (over_stays r (length line) (text_of line) h) (given_over r lines h)

pub fed_stays : (f : Feed) (b : ℕ) → is_over f.reading.stage ≡ true → fed f b ≡ record { next = f; text = [] }
unfolding fed
fed_stays f b h = rw h refl

pub closed_none : (f : Feed) → f.size ≡ 0 → closed f ≡ record { next = f.reading; text = [] }
unfolding closed
closed_none f h = rw h refl

pub closed_some : (f : Feed) → nat_eq f.size 0 ≡ false → closed f ≡ text_read f.reading f.size f.kept
unfolding closed
closed_some f h = rw h refl

closed_over : (f : Feed) → is_over f.reading.stage ≡ true → closed f ≡ record { next = f.reading; text = [] }
unfolding closed
closed_over f h = by_test (nat_eq f.size 0)
    (λ e. rw e refl)
    (λ e. rw e (over_stays f.reading f.size f.kept h))

pub fed_over : (f : Feed) (rest : List ℕ) → is_over f.reading.stage ≡ true → fed_gives f rest ≡ ended (stage_ends f.reading.number f.reading.stage)
unfolding fed_gives
fed_over f [] h = rw (closed_over f h) refl
fed_over f (b ∷ rest) h = rw (fed_stays f b h) (fed_over f rest h)

-- what is kept of the text line that has begun
pub record Keeps (f : Feed) (part : List ℕ) : Type 0 where
  pub kept : f.kept ≡ take 4097 part
  pub size : f.size ≡ length part
  pub no_lf : ends_lf part ≡ false

read_kept : (f : Feed) (part : List ℕ) (size : ℕ) → Keeps f part → text_read f.reading size f.kept ≡ text_read f.reading size part
read_kept f part size k = ap (text_read f.reading size) k.kept ∙ text_read_front f.reading size part

pub length_snoc : (part : List ℕ) (b : ℕ) → length (part ++ b ∷ []) ≡ length part + 1
length_snoc part b = length-append part (b ∷ [])

-- a text line that ends here
pub ends_line : (f : Feed) (part : List ℕ) → Keeps f part → text_read f.reading (f.size + 1) f.kept ≡ line_read f.reading (part ++ 10 ∷ [])
ends_line f part k =
    read_kept f part (f.size + 1) k
    ∙ (ap (λ n. text_read f.reading n part) (ap (λ n. n + 1) k.size ∙ sym (length_snoc part 10))
    ∙ ap (text_read f.reading (length (part ++ 10 ∷ []))) (sym (text_whole part k.no_lf)))

-- a text line that holds a byte past the limit
pub too_long : (r : Reading) (size : ℕ) (text : List ℕ) → is_over r.stage ≡ false → nat_lt input_limit (r.bytes + size) ≡ true → text_read r size text ≡ record { next = record r { stage = Over ends.Input }; text = [] }
unfolding text_read
too_long r size text h e = rw (h, e) refl

given_step : (r : Reading) (line : List ℕ) (lines : List (List ℕ)) → given r (line ∷ lines) ≡ behind (line_read r line).text (given (line_read r line).next lines)
unfolding given
given_step r line lines = refl

fed_step : (f : Feed) (b : ℕ) (rest : List ℕ) → fed_gives f (b ∷ rest) ≡ behind (fed f b).text (fed_gives (fed f b).next rest)
unfolding fed_gives
fed_step f b rest = refl

pub fed_long : (f : Feed) (b : ℕ) → is_over f.reading.stage ≡ false → nat_lt input_limit (f.reading.bytes + (f.size + 1)) ≡ true → fed f b ≡ line_fed (text_read f.reading (f.size + 1) f.kept)
unfolding fed
fed_long f b h e = rw (h, e) refl

pub fed_lf : (f : Feed) (b : ℕ) → is_over f.reading.stage ≡ false → nat_lt input_limit (f.reading.bytes + (f.size + 1)) ≡ false → nat_eq b 10 ≡ true → fed f b ≡ line_fed (text_read f.reading (f.size + 1) f.kept)
unfolding fed
fed_lf f b h e is = rw (h, e, is) refl

pub fed_more : (f : Feed) (b : ℕ) → is_over f.reading.stage ≡ false → nat_lt input_limit (f.reading.bytes + (f.size + 1)) ≡ false → nat_eq b 10 ≡ false → fed f b ≡ record { next = record f { kept = kept_on f.kept b; size = f.size + 1 }; text = [] }
unfolding fed
fed_more f b h e is = rw (h, e, is) refl

-- a step, and what the text lines give after it
abbrev went : Step → List (List ℕ) → Given
went x lines = behind x.text (given x.next lines)

went_over : (r : Reading) (lines : List (List ℕ)) → went (record { next = record r { stage = Over ends.Input }; text = [] }) lines ≡ ended ends.Input
unfolding stage_ends
went_over r lines = given_over (record r { stage = Over ends.Input }) lines refl

pub no_lf_none : ends_lf [] ≡ false
unfolding ends_lf
no_lf_none = refl

over_gives : (r : Reading) (rest : List ℕ) → fed_gives (opened (record r { stage = Over ends.Input })) rest ≡ ended ends.Input
unfolding stage_ends
over_gives r rest = fed_over (opened (record r { stage = Over ends.Input })) rest refl

closed_gives : (f : Feed) (part : List ℕ) → Keeps f part → fed_gives f [] ≡ given f.reading (text_lines part)
unfolding fed_gives closed given text_lines
closed_gives f [] k = rw k.size refl
closed_gives f (b ∷ part) k =
    let lines = line_last b part k.no_lf in
    let same : text_read f.reading f.size f.kept ≡ line_read f.reading (b ∷ part) = read_kept f (b ∷ part) f.size k ∙ (ap (λ n. text_read f.reading n (b ∷ part)) k.size ∙ ap (text_read f.reading (length (b ∷ part))) (sym (text_last (b ∷ part) k.no_lf))) in
    let some : nat_eq f.size 0 ≡ false = grind (arith, nat_tests, k.size) in
    rw (some, lines, same) refl

gives_long : (f : Feed) (part : List ℕ) (b : ℕ) (rest : List ℕ) → Keeps f part → is_over f.reading.stage ≡ false → nat_lt input_limit (f.reading.bytes + (f.size + 1)) ≡ true → fed_gives f (b ∷ rest) ≡ given f.reading (text_lines (part ++ b ∷ rest))
gives_long f part b rest k on long =
    let r = f.reading in
    let i = line_begins part b rest k.no_lf in
    let line = (part ++ b ∷ []) ++ i.more in
    let past : nat_lt input_limit (r.bytes + length line) ≡ true = lt-ltb input_limit (r.bytes + length line) (omega (arith, ltb-true input_limit (r.bytes + (f.size + 1)) long, k.size, length_snoc part b, length-append (part ++ b ∷ []) i.more)) in
    let left : fed_gives f (b ∷ rest) ≡ ended ends.Input =
    fed_step f b rest
    ∙ (ap (λ x. behind x.text (fed_gives x.next rest)) (fed_long f b on long ∙ ap line_fed (too_long r (f.size + 1) f.kept on long))
    ∙ over_gives r rest) in
    let right : given r (text_lines (part ++ b ∷ rest)) ≡ ended ends.Input =
    ap (given r) i.is
    ∙ (given_step r line i.lines
    ∙ (ap (λ x. went x i.lines) (too_long r (length line) (text_of line) on past) ∙ went_over r i.lines)) in
    left ∙ sym right

-- what a document gives does not depend on how it is fed
pub gives : (rest : List ℕ) (f : Feed) (part : List ℕ) → Keeps f part → fed_gives f rest ≡ given f.reading (text_lines (part ++ rest))
gives [] f part k = closed_gives f part k ∙ ap (λ xs. given f.reading (text_lines xs)) (sym (append-nil part))
gives (b ∷ rest) f part k = by_test (is_over f.reading.stage)
    (λ over. fed_over f (b ∷ rest) over ∙ sym (given_over f.reading (text_lines (part ++ b ∷ rest)) over))
    (λ on. by_test (nat_lt input_limit (f.reading.bytes + (f.size + 1)))
    (λ long. gives_long f part b rest k on long)
    (λ within. by_test (nat_eq b 10)
    (λ lf.
    let e : b ≡ 10 = eqb-true b 10 lf in
    let x = text_read f.reading (f.size + 1) f.kept in
    let first : fed_gives f (b ∷ rest) ≡ went x (text_lines rest) =
    fed_step f b rest
    ∙ (ap (λ y. behind y.text (fed_gives y.next rest)) (fed_lf f b on within lf)
    ∙ ap (behind x.text) (gives rest (opened x.next) [] (record { kept = refl; size = refl; no_lf = no_lf_none }))) in
    let lines : text_lines (part ++ b ∷ rest) ≡ (part ++ 10 ∷ []) ∷ text_lines rest =
    ap (λ c. text_lines (part ++ c ∷ rest)) e ∙ line_whole part rest k.no_lf in
    first ∙ (ap (λ y. went y (text_lines rest)) (ends_line f part k) ∙ (sym (given_step f.reading (part ++ 10 ∷ []) (text_lines rest)) ∙ ap (given f.reading) (sym lines))))
    (λ other.
    let next : Feed = record f { kept = kept_on f.kept b; size = f.size + 1 } in
    let more : Keeps next (part ++ b ∷ []) = record {
      kept = ap (λ xs. kept_on xs b) k.kept ∙ kept_more part b;
      size = ap (λ n. n + 1) k.size ∙ sym (length_snoc part b);
      no_lf = no_lf_more part b k.no_lf other;
    } in
    fed_step f b rest
    ∙ (ap (λ y. behind y.text (fed_gives y.next rest)) (fed_more f b on within other)
    ∙ (gives rest next (part ++ b ∷ []) more ∙ ap (λ xs. given f.reading (text_lines xs)) (append_assoc part (b ∷ []) rest))))))

-- a whole document
pub trace_fed : (c : Command) (bytes : List ℕ) → fed_gives (opened (start c)) bytes ≡ trace c bytes
unfolding trace
trace_fed c bytes = gives bytes (opened (start c)) [] (record { kept = refl; size = refl; no_lf = no_lf_none })
