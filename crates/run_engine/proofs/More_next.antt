-- A piece, text line by text line.
use Rattle.std.proofs.Common.{◌≡◌, ℕ, ◌+◌, ◌<◌, List, [], ◌++◌, length, take, drop, Option, Ok, Err, false, refl, sym, ◌∙◌, ap, subst, arith}
use Rattle.std.proofs.lemmas.List.{take-append-drop, take_all, nil_from_length}
use Rattle.std.proofs.Math.Seq.{take-add}
use Rattle.definitions.specs.Trace.{Reading, is_over, input_limit, text_read}
use Rattle.byte_feed.specs.Feed.{Feed, Fed, Leads, kept_run, run_on, line_fed, feds, feds_text, total}
use Rattle.byte_feed.proofs.Feds_append.{feds_append, feds_text_append}
use Rattle.run_engine.specs.declared.output.Fault.{Fault}
use Rattle.byte_feed.proofs.Leads_run.{leads_line, leads_run, leads_past}
use Rattle.run_engine.specs.declared.feed.Ahead.TheVariants.{Line, Run, Past}
use Rattle.run_engine.specs.Ahead.{LiesAhead}
use Rattle.run_engine.specs.Sends.{Sends}
use Rattle.run_engine.proofs.Other_text.{nothing, then, answers, fails, other_text}

pub none_next : (f : Feed) → f ≡ feds f []
unfolding feds
none_next f = refl

none_text : (f : Feed) → feds_text f [] ≡ []
unfolding feds_text
none_text f = refl

pub more_next : (start f next : Feed) (xs : List ℕ) (done n : ℕ) → f ≡ feds start (take done xs) → next ≡ feds f (take n (drop done xs)) → next ≡ feds start (take (done + n) xs)
more_next start f next xs done n e h =
    h ∙ (ap (λ x. feds x (take n (drop done xs))) e
    ∙ (sym (feds_append (take done xs) start (take n (drop done xs))) ∙ ap (feds start) (sym (take-add done n xs))))

-- what a front writes, and then more
text_more : (start f : Feed) (front more all : List ℕ) → f ≡ feds start front → front ++ more ≡ all → feds_text start front ++ feds_text f more ≡ feds_text start all
text_more start f front more all e h =
    ap (λ x. feds_text start front ++ feds_text x more) e ∙ (sym (feds_text_append front start more) ∙ ap (feds_text start) h)

-- the rest of a piece that was taken whole
pub led : (f : Feed) (rest : List ℕ) (x : Fed) → Leads f rest x → Leads f (take (length rest) rest) x
led f rest x h = subst (λ (xs : List ℕ). Leads f xs x) (sym (take_all (length rest) rest (omega arith))) h

-- a text line ends in the rest of a piece
pub line_ahead : (f : Feed) (rest : List ℕ) (left at : ℕ) → is_over f.reading.stage ≡ false → total f + left ≡ input_limit → LiesAhead left rest (Line at) → Leads f (take (at + 1) rest) (line_fed (text_read f.reading (f.size + (at + 1)) (kept_run f.kept (take at rest))))
line_ahead f rest left at on room h = leads_line rest f at on h.0 (omega (arith, h.1)) h.2 h.3

-- none ends, and all is within the limit
pub run_ahead : (f : Feed) (rest : List ℕ) (left : ℕ) → is_over f.reading.stage ≡ false → total f + left ≡ input_limit → LiesAhead left rest Run → Leads f (take (length rest) rest) (record { next = run_on f rest; text = [] })
run_ahead f rest left on room h = led f rest _ (leads_run rest f on (omega (arith, h.0)) h.1)

-- one goes on past the limit
pub past_ahead : (f : Feed) (rest : List ℕ) (left size : ℕ) (text : List ℕ) → is_over f.reading.stage ≡ false → total f + left ≡ input_limit → input_limit < f.reading.bytes + size → LiesAhead left rest Past → Leads f rest (line_fed (text_read f.reading size text))
past_ahead f rest left size text on room past h = leads_past rest f left size text on room h.0 h.1 past

-- the first text line and the rest of a piece
pub line_left : (f : Feed) (rest : List ℕ) (n : ℕ) (t : List ℕ) → feds_text f (take n rest) ≡ t → t ++ feds_text (feds f (take n rest)) (drop n rest) ≡ feds_text f rest
line_left f rest n t e =
    ap (λ u. u ++ feds_text (feds f (take n rest)) (drop n rest)) (sym e)
    ∙ (sym (feds_text_append (take n rest) f (drop n rest)) ∙ ap (feds_text f) (take-append-drop n rest))

-- a run that was added
pub ran : (f next : Feed) (rest : List ℕ) → next.reading ≡ f.reading → next.kept ≡ kept_run f.kept rest → next.size ≡ f.size + length rest → next ≡ run_on f rest
ran f next rest r k s =
    ap (λ (x : Reading). record next { reading = x }) r
    ∙ (ap (λ (ks : List ℕ). record next { reading = f.reading; kept = ks }) k ∙ ap (λ (n : ℕ). record { reading = f.reading; kept = kept_run f.kept rest; size = n }) s)

pub begun_none : (kept run : List ℕ) → length kept ≡ 0 → take 4097 run ≡ kept_run kept run
begun_none kept run e = rw (nil_from_length kept e) refl

module _ {K : Type 0} (written : K → Option (List ℕ)) (count : K → ℕ) where
  pub none_sends : (f : Feed) (a : K) (p : List ℕ) → Sends {X = Unit {0}} written count a a p p (feds_text f []) (Ok tt)
  none_sends f a p = nothing written count a p (feds_text f []) tt (none_text f)

  pub more_sends : (start f : Feed) (xs : List ℕ) (done n : ℕ) (a b c : K) (p q r : List ℕ) → f ≡ feds start (take done xs) → Sends {X = Unit {0}} written count a b p q (feds_text start (take done xs)) (Ok tt) → Sends {X = ℕ} written count b c q r (feds_text f (take n (drop done xs))) (Ok n) → Sends {X = Unit {0}} written count a c p r (feds_text start (take (done + n) xs)) (Ok tt)
  more_sends start f xs done n a b c p q r e was is =
      let text = text_more start f (take done xs) (take n (drop done xs)) (take (done + n) xs) e (sym (take-add done n xs)) in
      answers written count a c p r _ n tt (other_text written count a c p r _ _ (Ok n) text (then written count a b c p q r _ _ tt (Ok n) was is))

  pub more_fails : (start f : Feed) (xs : List ℕ) (done : ℕ) (a b c : K) (p q r : List ℕ) (fault : Fault) → f ≡ feds start (take done xs) → Sends {X = Unit {0}} written count a b p q (feds_text start (take done xs)) (Ok tt) → Sends {X = ℕ} written count b c q r (feds_text f (drop done xs)) (Err fault) → Sends {X = Unit {0}} written count a c p r (feds_text start xs) (Err fault)
  more_fails start f xs done a b c p q r fault e was is =
      let text = text_more start f (take done xs) (drop done xs) xs e (take-append-drop done xs) in
      fails written count ℕ (Unit {0}) a c p r _ fault (other_text written count a c p r _ _ (Err fault) text (then written count a b c p q r _ _ tt (Err fault) was is))
