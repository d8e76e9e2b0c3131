-- Where text lines lead that say the events of a script that is checked: they are written again.
use Rattle.std.proofs.Common.{◌≡◌, ℕ, ◌+◌, ◌≤◌, ◌<◌, List, [], ◌∷◌, ◌++◌, length, map, true, false, refl, sym, ◌∙◌, ap, subst, arith}
use Rattle.std.proofs.lemmas.Bool.Decides.{nat_tests}
use Rattle.std.specs.Prelude.{nat_le, count_by}
use Rattle.definitions.specs.declared.item.Item.{Item}
use Rattle.definitions.specs.declared.event.Event.{Event}
use Rattle.definitions.specs.declared.event.Event.TheVariants.{Train}
use Rattle.definitions.specs.declared.document.Command.{Command}
use Rattle.definitions.specs.declared.document.Command.TheVariants as is
use Rattle.definitions.specs.declared.document.EventLine.{EventLine}
use Rattle.definitions.specs.declared.document.EventLine.TheVariants as tells
use Rattle.definitions.specs.Lines.{text_of}
use Rattle.definitions.specs.Grammar.{event_line_of}
use Rattle.definitions.specs.Rules.{finish_rule, is_any_zone, builds}
use Rattle.definitions.specs.Track.{Line}
use Rattle.definitions.specs.World.{with_train}
use Rattle.definitions.specs.Premises.{beyond_trains}
use Rattle.definitions.specs.Trace.{Stage, Checked, Reading, After, counted, quiet, again, start, input_limit, event_limit, in_check, stage_read}
use Rattle.document_laws.specs.Whole.{saying_event, knowing, said_events, SayEvents, SayScript, known_after, kept_lines}
use Rattle.document_laws.proofs.Leads.{bytes_of, Leads, leads_nowhere, leads_more}
use Rattle.document_laws.proofs.Written.{says_nothing, passed_says, tells_nothing, passed_tells, passed_written, said_written, written_then}
use Rattle.document_laws.proofs.Items_lead.{script_leads}

-- The limit on trains.

known_more : (known : List ℕ) (e : Event) → length known ≤ length (with_train e known)
known_more known (Train t long error speed kind) = omega arith
known_more known _ = omega arith

known_longer : (events : List Event) (known : List ℕ) → length known ≤ length (known_after known events)
unfolding known_after
known_longer [] known = omega arith
known_longer (e ∷ events) known = let i = known_longer events (with_train e known) in let k = known_more known e in omega (arith, i, k)

trains_fit : (known : List ℕ) (e : Event) → length (with_train e known) ≤ 256 → beyond_trains known e ≡ false
trains_fit known (Train t long error speed kind) h = grind (arith, nat_tests)
trains_fit known _ h = refl

events_fit : (count : ℕ) → count < event_limit → nat_le event_limit count ≡ false
events_fit count h = grind (arith, nat_tests)

-- A text line of the script, by what it says.

check_reads : (c : Command) (n : ℕ) (line : Line) (known : List ℕ) (count : ℕ) (text : List ℕ) (t : EventLine) → event_line_of line known text ≡ t → stage_read c n (Checked line known count) text ≡ in_check n line known count text t
unfolding stage_read
check_reads c n line known count text t h = ap (in_check n line known count text) h

abbrev noted : Line → List ℕ → ℕ → List ℕ → Event → After
noted line known count text e = record { stage = Checked line (with_train e known) (count + 1); text = again is.Check text }

check_goes : (n : ℕ) (line : Line) (known : List ℕ) (count : ℕ) (text : List ℕ) (e : Event) → length (with_train e known) ≤ 256 → count < event_limit → in_check n line known count text (tells.Event e) ≡ noted line known count text e
check_goes n line known count text e fit room = rw (trains_fit known e fit, events_fit count room) refl

-- Events.

abbrev Checks_on : Line → List (List ℕ) → Type 0
Checks_on line lines = (r : Reading) (known : List ℕ) (count : ℕ) (events : List Event) → r.stage ≡ Checked line known count → SayEvents line known lines events → length (known_after known events) ≤ 256 → count + length events ≤ event_limit → r.bytes + bytes_of lines ≤ input_limit
    → Leads r lines (Checked line (known_after known events) (count + length events)) (kept_lines lines)

event_checks : (line : Line) (l : List ℕ) (ls : List (List ℕ)) → Checks_on line ls → (t : EventLine) (r : Reading) (known : List ℕ) (count : ℕ) (events : List Event) → event_line_of line known (text_of l) ≡ t → r.stage ≡ Checked line known count → saying_event t (said_events line (knowing known t) ls) ≡ map tells.Event events
    → length (known_after known events) ≤ 256 → count + length events ≤ event_limit → r.bytes + (length l + bytes_of ls) ≤ input_limit → Leads r (l ∷ ls) (Checked line (known_after known events) (count + length events)) (kept_lines (l ∷ ls))
unfolding known_after
event_checks line l ls ih tells.Passed r known count events says_ at said fit room within =
    subst (λ (text : List ℕ). Leads r (l ∷ ls) (Checked line (known_after known events) (count + length events)) text) (sym (passed_written is.Check l ls (passed_tells line known (text_of l) ∙ ap tells_nothing says_)))
    (leads_more r (Checked line known count) (Checked line (known_after known events) (count + length events)) l ls (quiet (Checked line known count)) (kept_lines ls) at refl (omega (arith, within))
    (check_reads r.command (r.number + 1) line known count (text_of l) tells.Passed says_)
    (ih (counted r (length l) (quiet (Checked line known count))).next known count events refl said fit room (omega (arith, within))))
event_checks line l ls ih (tells.Event e) r known count [] says_ at said fit room within = absurd cc
event_checks line l ls ih (tells.Event e) r known count (f ∷ events) says_ at said fit room within =
    let same : e ≡ f = cc in
    let more : said_events line (with_train e known) ls ≡ map tells.Event events = cc in
    let x : After = noted line known count (text_of l) f in
    let n : count + 1 + length events ≡ count + length (f ∷ events) = omega arith in
    let longer = known_longer events (with_train f known) in
    subst (λ (text : List ℕ). Leads r (l ∷ ls) (Checked line (known_after known (f ∷ events)) (count + length (f ∷ events))) text) (sym (said_written is.Check l ls (passed_tells line known (text_of l) ∙ ap tells_nothing says_)))
    (subst (λ (k : ℕ). Leads r (l ∷ ls) (Checked line (known_after (with_train f known) events) k) (again is.Check (text_of l) ++ kept_lines ls)) n
    (leads_more r (Checked line known count) (Checked line (known_after (with_train f known) events) (count + 1 + length events)) l ls x (kept_lines ls) at refl (omega (arith, within))
    (check_reads r.command (r.number + 1) line known count (text_of l) (tells.Event f) (says_ ∙ ap tells.Event same) ∙ check_goes (r.number + 1) line known count (text_of l) f (omega (arith, longer, fit)) (omega (arith, room)))
    (ih (counted r (length l) x).next (with_train f known) (count + 1) events refl (ap (λ (y : Event). said_events line (with_train y known) ls) (sym same) ∙ more) fit (omega (arith, room)) (omega (arith, within)))))
event_checks line l ls ih tells.Unbuilt r known count [] says_ at said fit room within = absurd cc
event_checks line l ls ih tells.Unbuilt r known count (f ∷ events) says_ at said fit room within = absurd cc
event_checks line l ls ih (tells.Fault column) r known count [] says_ at said fit room within = absurd cc
event_checks line l ls ih (tells.Fault column) r known count (f ∷ events) says_ at said fit room within = absurd cc

events_check : (line : Line) (lines : List (List ℕ)) → Checks_on line lines
unfolding said_events bytes_of known_after kept_lines
events_check line [] r known count [] at said fit room within =
    let n : count ≡ count + 0 = omega arith in
    subst (λ (s : Stage). Leads r [] s []) (at ∙ ap (Checked line known) n) (leads_nowhere r)
events_check line [] r known count (e ∷ events) at said fit room within = absurd cc
events_check line (l ∷ ls) r known count events at said fit room within = event_checks line l ls (events_check line ls) (event_line_of line known (text_of l)) r known count events refl at said fit room within

-- items, the word and events
pub check_leads : (lines : List (List ℕ)) (items : List Item) (events : List Event) → SayScript lines items events → builds [] items ≡ true → count_by is_any_zone items ≤ 1 → finish_rule items ≡ 0 → length (known_after [] events) ≤ 256 → length events ≤ event_limit → bytes_of lines ≤ input_limit
    → Leads (start is.Check) lines (Checked items (known_after [] events) (length events)) (kept_lines lines)
check_leads lines items events d ok one fin fit few within =
    let none : 0 + length events ≡ length events = omega arith in
    let word : kept_lines (d.word ∷ d.back) ≡ again is.Check (text_of d.word) ++ kept_lines d.back = said_written is.Check d.word d.back (passed_says (text_of d.word) ∙ ap says_nothing d.word_said) in
    let all : kept_lines lines ≡ kept_lines d.front ++ (again is.Check (text_of d.word) ++ kept_lines d.back) =
    ap kept_lines d.parts ∙ (written_then is.Check d.front (d.word ∷ d.back) ∙ ap (λ (text : List ℕ). kept_lines d.front ++ text) word) in
    subst (λ (text : List ℕ). Leads (start is.Check) lines (Checked items (known_after [] events) (length events)) text) (sym all)
    (script_leads is.Check lines items events d (Checked items (known_after [] events) (length events)) (kept_lines d.back) ok one fin within (λ r by at more.
    subst (λ (k : ℕ). Leads r d.back (Checked items (known_after [] events) k) (kept_lines d.back)) none
    (events_check items d.back r [] 0 events at d.events_said fit (omega (arith, few)) more)))
