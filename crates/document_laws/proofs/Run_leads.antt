-- Where text lines lead that say the events of a script that is run, and what they give.
use Rattle.std.proofs.Common.{◌≡◌, ℕ, ◌+◌, ◌≤◌, List, [], ◌∷◌, ◌++◌, length, map, true, false, refl, sym, ◌∙◌, ap, subst, arith}
use Rattle.std.proofs.Math.Bool.{and-false}
use Rattle.std.specs.Prelude.{nat_eq, count_by, is_none, ◌&&◌, not, None}
use Rattle.std.specs.List.{list_all}
use Rattle.definitions.specs.declared.item.Item.{Item}
use Rattle.definitions.specs.declared.event.Event.{Event}
use Rattle.definitions.specs.declared.event.Event.TheVariants.{Take, Deliver}
use Rattle.definitions.specs.declared.outcome.Outcome.{Outcome}
use Rattle.definitions.specs.declared.document.Command.TheVariants as is
use Rattle.definitions.specs.declared.document.EventLine.{EventLine}
use Rattle.definitions.specs.declared.document.EventLine.TheVariants as tells
use Rattle.definitions.specs.Lines.{text_of}
use Rattle.definitions.specs.Grammar.{event_line_of}
use Rattle.definitions.specs.Rules.{finish_rule, is_any_zone, builds}
use Rattle.definitions.specs.Track.{Line}
use Rattle.definitions.specs.World.{with_train, trains}
use Rattle.definitions.specs.Premises.{built, too_many, premise_of, admits}
use Rattle.definitions.specs.Steps.{story_of, deliveries}
use Rattle.definitions.specs.Endings.{outcomes_text}
use Rattle.definitions.specs.Trace.{Stage, Script, Reading, After, counted, quiet, start, input_limit, event_limit, Came, no_room, comes, event_comes, came, in_script, stage_read, went, stands_for}
use Rattle.event_laws.proofs.By_does.{effect_event}
use Rattle.document_laws.specs.Whole.{saying_event, knowing, said_events, SayEvents, SayScript, behind_event, behind_events, Admitted}
use Rattle.document_laws.proofs.Safe_throughout.{all_three}
use Rattle.document_laws.proofs.Has_room.{comes_went}
use Rattle.document_laws.proofs.Delivery_takes.{is_take, delivery_takes}
use Rattle.document_laws.proofs.Leads.{bytes_of, Leads, leads_nowhere, leads_more}
use Rattle.document_laws.proofs.Items_lead.{script_leads}

-- The trains that are declared after an event of a script.

trains_more : (line : Line) (e : Event) (events : List Event) → trains (story_of line (e ∷ events)) ≡ with_train e (trains (story_of line events))
unfolding story_of trains
trains_more line e events = ap (λ (x : Event). with_train x (trains (story_of line events))) (effect_event line (story_of line events) e)

trains_still : (line : Line) (more events : List Event) → list_all is_take more ≡ true → trains (story_of line (went line events more).events) ≡ trains (story_of line events)
unfolding went
trains_still line [] events h = refl
trains_still line (Take to from number ∷ more) events h = trains_still line more (Take to from number ∷ events) h ∙ trains_more line (Take to from number) events
trains_still line (_ ∷ more) events h = absurd cc

trains_behind : (line : Line) (events : List Event) (e : Event) → trains (story_of line (behind_event line events e)) ≡ with_train e (trains (story_of line events))
unfolding went
trains_behind line events (Deliver to) = trains_still line (deliveries line (story_of line events) to) events (delivery_takes line to (story_of line events))
trains_behind line events e = trains_more line e events

-- The limits.

went_longer : (line : Line) (more before : List Event) → length (went line before more).events ≡ length before + length more
unfolding went
went_longer line [] before = omega arith
went_longer line (e ∷ more) before = let i = went_longer line more (e ∷ before) in omega (arith, i)

behind_longer : (line : Line) (events before : List Event) → length before ≤ length (behind_events line before events)
unfolding behind_events
behind_longer line [] before = omega arith
behind_longer line (e ∷ events) before =
    let i = behind_longer line events (behind_event line before e) in
    let w = went_longer line (stands_for line (story_of line before) e) before in
    omega (arith, i, w)

all_come : (line : Line) (before : List Event) (e : Event) (events : List Event) → length (behind_events line before (e ∷ events)) ≤ event_limit
    → comes line before (stands_for line (story_of line before) e) ≡ record { went = went line before (stands_for line (story_of line before) e); ending = None }
unfolding behind_events
all_come line before e events few =
    let i = behind_longer line events (behind_event line before e) in
    let w = went_longer line (stands_for line (story_of line before) e) before in
    comes_went line (stands_for line (story_of line before) e) before (omega (arith, i, w, few))

-- A text line of the script, by what it says.

abbrev known_in : Line → List Event → List ℕ
known_in line before = trains (story_of line before)

script_reads : (n : ℕ) (line : Line) (before : List Event) (count : ℕ) (text : List ℕ) (t : EventLine) → event_line_of line (known_in line before) text ≡ t → stage_read is.Run n (Script line before count) text ≡ in_script n line before count t
unfolding stage_read
script_reads n line before count text t h = ap (in_script n line before count) h

-- the outcome lines of an event of a script
abbrev pub lines_of : Line → List Event → Event → List Outcome
lines_of line before e = (went line before (stands_for line (story_of line before) e)).lines

abbrev gone : Line → List Event → ℕ → Event → After
gone line before count e = record { stage = Script line (behind_event line before e) (count + 1); text = outcomes_text (lines_of line before e) }

abbrev came_all : Line → List Event → Event → Came
came_all line before e = record { went = went line before (stands_for line (story_of line before) e); ending = None }

event_goes : (n : ℕ) (line : Line) (before : List Event) (count : ℕ) (e : Event) → admits line (story_of line before) e ≡ true → comes line before (stands_for line (story_of line before) e) ≡ came_all line before e
    → in_script n line before count (tells.Event e) ≡ gone line before count e
event_goes n line before count e h all =
    let s = story_of line before in
    let k = all_three (built line s e) (too_many s e) (nat_eq (premise_of line s e) 0) h in
    let kept : (is_none (no_room before s) && not (nat_eq (premise_of line s e) 0)) ≡ false = rw k.2 (and-false (is_none (no_room before s))) in
    let is : event_comes n line before s e ≡ came_all line before e = rw (k.1, kept) all in
    ap (came line count) is

-- the outcome lines of further events of a script
unfoldable pub lines_behind : Line → List Event → List Event → List ℕ
lines_behind line before [] = []
lines_behind line before (e ∷ events) = outcomes_text (lines_of line before e) ++ lines_behind line (behind_event line before e) events

-- Events.

abbrev Leads_on : Line → List (List ℕ) → Type 0
Leads_on line lines = (r : Reading) (before : List Event) (count : ℕ) (events : List Event) → r.command ≡ is.Run → r.stage ≡ Script line before count → SayEvents line (known_in line before) lines events → Admitted line before events → length (behind_events line before events) ≤ event_limit
    → r.bytes + bytes_of lines ≤ input_limit → Leads r lines (Script line (behind_events line before events) (count + length events)) (lines_behind line before events)

event_leads : (line : Line) (l : List ℕ) (ls : List (List ℕ)) → Leads_on line ls → (t : EventLine) (r : Reading) (before : List Event) (count : ℕ) (events : List Event) → event_line_of line (known_in line before) (text_of l) ≡ t → r.command ≡ is.Run → r.stage ≡ Script line before count
    → saying_event t (said_events line (knowing (known_in line before) t) ls) ≡ map tells.Event events → Admitted line before events → length (behind_events line before events) ≤ event_limit → r.bytes + (length l + bytes_of ls) ≤ input_limit
    → Leads r (l ∷ ls) (Script line (behind_events line before events) (count + length events)) (lines_behind line before events)
unfolding Admitted lines_behind behind_events
event_leads line l ls ih tells.Passed r before count events says_ by at said ok few within =
    leads_more r (Script line before count) (Script line (behind_events line before events) (count + length events)) l ls (quiet (Script line before count)) (lines_behind line before events) at refl (omega (arith, within))
    (ap (λ c. stage_read c (r.number + 1) (Script line before count) (text_of l)) by ∙ script_reads (r.number + 1) line before count (text_of l) tells.Passed says_)
    (ih (counted r (length l) (quiet (Script line before count))).next before count events by refl said ok few (omega (arith, within)))
event_leads line l ls ih (tells.Event e) r before count [] says_ by at said ok few within = absurd cc
event_leads line l ls ih (tells.Event e) r before count (f ∷ events) says_ by at said ok few within =
    let same : e ≡ f = cc in
    let more : said_events line (with_train e (known_in line before)) ls ≡ map tells.Event events = cc in
    let known : with_train e (known_in line before) ≡ known_in line (behind_event line before f) = ap (λ (y : Event). with_train y (known_in line before)) same ∙ sym (trains_behind line before f) in
    let x : After = gone line before count f in
    let n : count + 1 + length events ≡ count + length (f ∷ events) = omega arith in
    subst (λ (k : ℕ). Leads r (l ∷ ls) (Script line (behind_events line (behind_event line before f) events) k) (outcomes_text (lines_of line before f) ++ lines_behind line (behind_event line before f) events)) n
    (leads_more r (Script line before count) (Script line (behind_events line (behind_event line before f) events) (count + 1 + length events)) l ls x (lines_behind line (behind_event line before f) events) at refl (omega (arith, within))
    (ap (λ c. stage_read c (r.number + 1) (Script line before count) (text_of l)) by
    ∙ (script_reads (r.number + 1) line before count (text_of l) (tells.Event f) (says_ ∙ ap tells.Event same) ∙ event_goes (r.number + 1) line before count f ok.0 (all_come line before f events few)))
    (ih (counted r (length l) x).next (behind_event line before f) (count + 1) events by refl (ap (λ (ks : List ℕ). said_events line ks ls) (sym known) ∙ more) ok.1 few (omega (arith, within))))
event_leads line l ls ih tells.Unbuilt r before count [] says_ by at said ok few within = absurd cc
event_leads line l ls ih tells.Unbuilt r before count (f ∷ events) says_ by at said ok few within = absurd cc
event_leads line l ls ih (tells.Fault column) r before count [] says_ by at said ok few within = absurd cc
event_leads line l ls ih (tells.Fault column) r before count (f ∷ events) says_ by at said ok few within = absurd cc

events_lead : (line : Line) (lines : List (List ℕ)) → Leads_on line lines
unfolding said_events bytes_of behind_events lines_behind
events_lead line [] r before count [] by at said ok few within =
    let n : count ≡ count + 0 = omega arith in
    subst (λ (s : Stage). Leads r [] s []) (at ∙ ap (Script line before) n) (leads_nowhere r)
events_lead line [] r before count (e ∷ events) by at said ok few within = absurd cc
events_lead line (l ∷ ls) r before count events by at said ok few within = event_leads line l ls (events_lead line ls) (event_line_of line (known_in line before) (text_of l)) r before count events refl by at said ok few within

no_trains : (line : Line) → known_in line [] ≡ []
unfolding story_of trains
no_trains line = refl

-- items, the word and events
pub run_leads : (lines : List (List ℕ)) (items : List Item) (events : List Event) → SayScript lines items events → builds [] items ≡ true → count_by is_any_zone items ≤ 1 → finish_rule items ≡ 0 → Admitted items [] events → length (behind_events items [] events) ≤ event_limit → bytes_of lines ≤ input_limit
    → Leads (start is.Run) lines (Script items (behind_events items [] events) (length events)) (lines_behind items [] events)
run_leads lines items events d ok one fin adm few within =
    script_leads is.Run lines items events d (Script items (behind_events items [] events) (length events)) (lines_behind items [] events) ok one fin within (λ r by at more.
    let none : 0 + length events ≡ length events = omega arith in
    subst (λ (k : ℕ). Leads r d.back (Script items (behind_events items [] events) k) (lines_behind items [] events)) none
    (events_lead items d.back r [] 0 events by at (ap (λ (ks : List ℕ). said_events items ks d.back) (no_trains items) ∙ d.events_said) adm few more))
