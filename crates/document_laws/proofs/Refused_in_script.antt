-- A document that is refused gives what stands before, and the ending.
use Rattle.std.proofs.Common.{◌≡◌, ℕ, ◌+◌, ◌≤◌, List, [], ◌∷◌, ◌++◌, length, true, false, refl, sym, ◌∙◌, ap, append-nil, arith, ◌<◌}
use Rattle.std.proofs.lemmas.Bool.Decides.{nat_tests}
use Rattle.std.proofs.Math.Bool.{and-false}
use Rattle.std.specs.Prelude.{nat_eq, nat_le, is_none, ◌&&◌, not, Option, Some, None}
use Rattle.list_laws.proofs.By_test.{by_test}
use Rattle.definitions.specs.declared.item.Item.{Item}
use Rattle.definitions.specs.declared.event.Event.{Event}
use Rattle.definitions.specs.declared.event.Event.TheVariants.{Deliver}
use Rattle.definitions.specs.declared.document.Command.{Command}
use Rattle.definitions.specs.declared.document.Command.TheVariants as is
use Rattle.definitions.specs.declared.document.ItemLine.{ItemLine}
use Rattle.definitions.specs.declared.document.ItemLine.TheVariants as says
use Rattle.definitions.specs.declared.document.EventLine.{EventLine}
use Rattle.definitions.specs.declared.document.EventLine.TheVariants as tells
use Rattle.definitions.specs.declared.document.Ending.{Ending}
use Rattle.definitions.specs.declared.document.Ending.TheVariants as ends
use Rattle.definitions.specs.Lines.{text_lines, text_of}
use Rattle.definitions.specs.Grammar.{item_line_of, event_line_of}
use Rattle.definitions.specs.Rules.{rule_of, finish_rule}
use Rattle.definitions.specs.Track.{Line}
use Rattle.definitions.specs.Story.{Story}
use Rattle.definitions.specs.Premises.{too_many, premise_of}
use Rattle.definitions.specs.Numbers.{least}
use Rattle.definitions.specs.Steps.{effects, story_of}
use Rattle.definitions.specs.Endings.{outcomes_text}
use Rattle.definitions.specs.Trace.{Items, Script, Checked, Over, quiet, start, input_limit, event_limit, among_items, plan_read, in_script, in_check, stage_read, stage_ends, Came, stands_for, no_room, with_lines, unless, comes, event_comes, ended_by, came, behind, ended, given, trace}
use Rattle.event_laws.proofs.Comes_kept.{comes_next}
use Rattle.byte_feed.proofs.Feds_append.{behind_behind}
use Rattle.document_laws.specs.Throughout.{led_to}
use Rattle.document_laws.specs.Whole.{behind_events, known_after, story_text, kept_lines, lines_ended}
use Rattle.document_laws.specs.Refused.{EventRefused, ScriptRefuses, CheckRefusesEvent, CheckRefuses, ItemRefused, PlanRefused, ItemsRefuse, says_last, IsRefusedInScript, IsRefusedInCheck, IsRefusedAmongItems, IsUnfinished, story_ended, items_ended}
use Rattle.document_laws.proofs.Leads.{bytes_of, bytes_same, bytes_front, ends_behind, ends_here}
use Rattle.document_laws.proofs.Written.{written, written_ended}
use Rattle.document_laws.proofs.Items_lead.{items_lead}
use Rattle.document_laws.proofs.Run_leads.{lines_behind, run_leads}
use Rattle.document_laws.proofs.Check_leads.{check_leads}
use Rattle.document_laws.proofs.Whole.{more_text, story_more}

-- A text line of a script that is run: what it leads to, and what it gives.

-- one event alone stops where there is no room for it
one_stops : (line : Line) (before : List Event) (e : Event) (ending : Ending) (x : Option Ending) → no_room before (story_of line before) ≡ x → (comes line before (e ∷ [])).ending ≡ Some ending
    → (is_none (no_room before (story_of line before)) && not (nat_eq (premise_of line (story_of line before) e) 0)) ≡ false
unfolding comes
one_stops line before e ending None at h = absurd (let c : None ≡ Some ending = sym (ap (λ (y : Came). y.ending) (comes_next line before [] e at)) ∙ h in cc)
one_stops line before e ending (Some other) at h = ap (λ (y : Option Ending). is_none y && not (nat_eq (premise_of line (story_of line before) e) 0)) at

-- what stops on its way breaks no premise for which there was room
goes_on : (line : Line) (before : List Event) (e : Event) (ending : Ending) → (comes line before (stands_for line (story_of line before) e)).ending ≡ Some ending
    → (is_none (no_room before (story_of line before)) && not (nat_eq (premise_of line (story_of line before) e) 0)) ≡ false
unfolding least
goes_on line before (Deliver to) ending h = and-false (is_none (no_room before (story_of line before)))
goes_on line before e ending h = one_stops line before e ending (no_room before (story_of line before)) refl h

stops : (n : ℕ) (line : Line) (before : List Event) (count : ℕ) (e : Event) (ending : Ending) → too_many (story_of line before) e ≡ false → (comes line before (stands_for line (story_of line before) e)).ending ≡ Some ending
    → (in_script n line before count (tells.Event e)).stage ≡ Over ending
stops n line before count e ending m h =
    let s = story_of line before in
    let is : event_comes n line before s e ≡ comes line before (stands_for line s e) = rw (m, goes_on line before e ending h) refl in
    ap (λ (x : Came). (came line count x).stage) is ∙ ap (λ (y : Option Ending). ended_by y (Script line (comes line before (stands_for line s e)).went.events (count + 1))) h

event_refused : (n : ℕ) (line : Line) (before : List Event) (count : ℕ) (e : Event) (ending : Ending) → EventRefused n line before (story_of line before) e ending → (in_script n line before count (tells.Event e)).stage ≡ Over ending
event_refused n line before count e ends.Trains h = rw h refl
event_refused n line before count e ends.Events h = stops n line before count e ends.Events h.0 h.1
event_refused n line before count e ends.Messages h = stops n line before count e ends.Messages h.0 h.1
event_refused n line before count e (ends.Premise m p) h =
    let s = story_of line before in
    let is = h.3 in
    let some = h.4 in
    let broken : nat_eq (premise_of line s e) 0 ≡ false = grind (arith, nat_tests) in
    let refuses : (is_none (no_room before s) && not (nat_eq (premise_of line s e) 0)) ≡ true = rw broken (ap (λ (x : Option Ending). is_none x && true) h.2) in
    rw (h.0, h.1, refuses, h.3) refl
event_refused n line before count e _ h = absurd h

script_refuses : (n : ℕ) (line : Line) (before : List Event) (count : ℕ) (t : EventLine) (ending : Ending) → ScriptRefuses n line before t ending → (in_script n line before count t).stage ≡ Over ending
script_refuses n line before count (tells.Event e) ending h = event_refused n line before count e ending h
script_refuses n line before count tells.Passed ending h = absurd h
script_refuses n line before count tells.Unbuilt ending h = rw h refl
script_refuses n line before count (tells.Fault column) ending h = rw h refl

-- the text of a line of the script is that of the history that it leads to, behind that so far

unless_text : (line : Line) (before : List Event) (x : Option Ending) (y : Came) → story_text (story_of line y.went.events) ≡ story_text (story_of line before) ++ outcomes_text y.went.lines
    → story_text (story_of line (unless x before y).went.events) ≡ story_text (story_of line before) ++ outcomes_text (unless x before y).went.lines
unless_text line before None y h = h
unless_text line before (Some ending) y h = sym (append-nil (story_text (story_of line before)))

comes_text : (line : Line) (more before : List Event) → story_text (story_of line (comes line before more).went.events) ≡ story_text (story_of line before) ++ outcomes_text (comes line before more).went.lines
unfolding comes story_of
comes_text line [] before = sym (append-nil (story_text (story_of line before)))
comes_text line (e ∷ more) before =
    let x = effects line (story_of line before) e in
    let y = comes line (e ∷ before) more in
    unless_text line before (no_room before (story_of line before)) (with_lines x.lines y) (more_text line before e y.went.events y.went.lines (comes_text line more (e ∷ before)))

event_text : (n : ℕ) (line : Line) (before : List Event) (s : Story) (e : Event) → story_text (story_of line (event_comes 0 line before s e).went.events) ≡ story_text (story_of line before) ++ outcomes_text (event_comes n line before s e).went.lines
event_text n line before s e = by_test (too_many s e)
    (λ m. rw m (sym (append-nil (story_text (story_of line before)))))
    (λ m. by_test (is_none (no_room before s) && not (nat_eq (premise_of line s e) 0))
    (λ p. rw (m, p) (sym (append-nil (story_text (story_of line before)))))
    (λ p. rw (m, p) (comes_text line (stands_for line s e) before)))

led_text : (n : ℕ) (line : Line) (before : List Event) (count : ℕ) (t : EventLine) → story_text (story_of line (led_to line before t)) ≡ story_text (story_of line before) ++ (in_script n line before count t).text
led_text n line before count (tells.Event e) = event_text n line before (story_of line before) e
led_text n line before count tells.Passed = sym (append-nil (story_text (story_of line before)))
led_text n line before count tells.Unbuilt = sym (append-nil (story_text (story_of line before)))
led_text n line before count (tells.Fault column) = sym (append-nil (story_text (story_of line before)))

script_reads : (n : ℕ) (line : Line) (before : List Event) (count : ℕ) (last : List ℕ) → stage_read is.Run n (Script line before count) (text_of last) ≡ in_script n line before count (says_last line before last)
unfolding stage_read
script_reads n line before count last = refl

pub refused_in_script : (bytes : List ℕ) (items : List Item) (events history : List Event) (ending : Ending) → IsRefusedInScript bytes items events history ending → trace is.Run bytes ≡ story_ended items history ending
unfolding trace story_of
refused_in_script bytes items events history ending d =
    let within : bytes_of (d.before ++ d.last ∷ d.behind) ≤ input_limit = let b = bytes_same bytes in let e = ap bytes_of d.lines in omega (arith, b, e, d.within) in
    let front : bytes_of d.before ≤ input_limit = let b = bytes_front d.before (d.last ∷ d.behind) in omega (arith, b, within) in
    let n = length d.before + 1 in
    let reached = behind_events items [] events in
    let t = says_last items reached d.last in
    let x = in_script n items reached (length events) t in
    let text : story_text (story_of items history) ≡ lines_behind items [] events ++ x.text =
    ap (λ (h : List Event). story_text (story_of items h)) d.reached ∙ (led_text n items reached (length events) t ∙ ap (λ (y : List ℕ). y ++ x.text) (story_more items events [])) in
    ap (given (start is.Run)) d.lines
    ∙ (ends_here is.Run d.before d.behind d.last (Script items reached (length events)) (lines_behind items [] events) x ending
    (run_leads d.before items events d.says_ d.builds d.one d.finished d.kept d.few front)
    refl within (script_reads n items reached (length events) d.last) (script_refuses n items reached (length events) t ending d.refused)
    ∙ (sym (behind_behind (lines_behind items [] events) x.text (ended ending)) ∙ ap (λ (y : List ℕ). behind y (ended ending)) (sym text)))

-- A text line of a script that is checked.

check_refused : (n : ℕ) (line : Line) (known : List ℕ) (count : ℕ) (text : List ℕ) (e : Event) (ending : Ending) → CheckRefusesEvent known count e ending → in_check n line known count text (tells.Event e) ≡ quiet (Over ending)
check_refused n line known count text e ends.Trains h = rw h refl
check_refused n line known count text e ends.Events h =
    let most = h.1 in
    let full : nat_le event_limit count ≡ true = grind (arith, nat_tests) in
    rw (h.0, full) refl
check_refused n line known count text e _ h = absurd h

check_refuses : (n : ℕ) (line : Line) (known : List ℕ) (count : ℕ) (text : List ℕ) (t : EventLine) (ending : Ending) → CheckRefuses n known count t ending → in_check n line known count text t ≡ quiet (Over ending)
check_refuses n line known count text (tells.Event e) ending h = check_refused n line known count text e ending h
check_refuses n line known count text tells.Passed ending h = absurd h
check_refuses n line known count text tells.Unbuilt ending h = rw h refl
check_refuses n line known count text (tells.Fault column) ending h = rw h refl

checked_refuses : (n : ℕ) (line : Line) (known : List ℕ) (count : ℕ) (text : List ℕ) (ending : Ending) → CheckRefuses n known count (event_line_of line known text) ending → stage_read is.Check n (Checked line known count) text ≡ quiet (Over ending)
unfolding stage_read
checked_refuses n line known count text ending h = check_refuses n line known count text (event_line_of line known text) ending h

pub refused_in_check : (bytes : List ℕ) (items : List Item) (events : List Event) (ending : Ending) (d : IsRefusedInCheck bytes items events ending) → trace is.Check bytes ≡ lines_ended d.before ending
unfolding trace
refused_in_check bytes items events ending d =
    let within : bytes_of (d.before ++ d.last ∷ d.behind) ≤ input_limit = let b = bytes_same bytes in let e = ap bytes_of d.lines in omega (arith, b, e, d.within) in
    let front : bytes_of d.before ≤ input_limit = let b = bytes_front d.before (d.last ∷ d.behind) in omega (arith, b, within) in
    ap (given (start is.Check)) d.lines
    ∙ ends_here is.Check d.before d.behind d.last (Checked items (known_after [] events) (length events)) (kept_lines d.before) (quiet (Over ending)) ending
    (check_leads d.before items events d.says_ d.builds d.one d.finished d.known d.few front)
    refl within (checked_refuses (length d.before + 1) items (known_after [] events) (length events) (text_of d.last) ending d.refused) refl

-- A text line among the items.

item_refused : (c : Command) (n : ℕ) (items : List Item) (text : List ℕ) (i : Item) (ending : Ending) → ItemRefused n items i ending → among_items c n items text (says.Item i) ≡ quiet (Over ending)
item_refused c n items text i (ends.Unbuilt m) h = rw (h.0, h.1) refl
item_refused c n items text i (ends.Rule m r) h =
    let is = h.2 in
    let some = h.3 in
    let broken : nat_eq (rule_of items i) 0 ≡ false = grind (arith, nat_tests) in
    rw (h.0, h.1, broken, h.2) refl
item_refused c n items text i _ h = absurd h

plan_refused : (c : Command) (n : ℕ) (ending : Ending) → PlanRefused c n ending → plan_read c n ≡ quiet (Over ending)
plan_refused is.Run n ending h = rw h refl
plan_refused is.Check n ending h = rw h refl

line_refused : (c : Command) (n : ℕ) (items : List Item) (text : List ℕ) (t : ItemLine) (ending : Ending) → ItemsRefuse c n items t ending → among_items c n items text t ≡ quiet (Over ending)
line_refused c n items text (says.Item i) ending h = item_refused c n items text i ending h
line_refused c n items text says.Unbuilt ending h = rw h refl
line_refused c n items text says.Script ending h =
    let some = h.1 in
    let broken : nat_eq (finish_rule items) 0 ≡ false = grind (arith, nat_tests) in
    rw (h.0, broken) refl
line_refused c n items text says.Plan ending h = plan_refused c n ending h
line_refused c n items text (says.Fault column) ending h = rw h refl
line_refused c n items text says.Passed ending h = absurd h

items_refuse : (c : Command) (n : ℕ) (items : List Item) (text : List ℕ) (ending : Ending) → ItemsRefuse c n items (item_line_of text) ending → stage_read c n (Items items) text ≡ quiet (Over ending)
unfolding stage_read
items_refuse c n items text ending h = line_refused c n items text (item_line_of text) ending h

pub refused_among_items : (c : Command) (bytes : List ℕ) (items : List Item) (ending : Ending) (d : IsRefusedAmongItems c bytes items ending) → trace c bytes ≡ items_ended c d.before ending
unfolding trace
refused_among_items c bytes items ending d =
    let within : bytes_of (d.before ++ d.last ∷ d.behind) ≤ input_limit = let b = bytes_same bytes in let e = ap bytes_of d.lines in omega (arith, b, e, d.within) in
    let front : bytes_of d.before ≤ input_limit = let b = bytes_front d.before (d.last ∷ d.behind) in omega (arith, b, within) in
    ap (given (start c)) d.lines
    ∙ (ends_here c d.before d.behind d.last (Items items) (written c d.before) (quiet (Over ending)) ending (items_lead c d.before (start c) [] items refl refl d.says_ d.builds d.one (omega (arith, front))) refl within
    (items_refuse c (length d.before + 1) items (text_of d.last) ending d.refused) refl
    ∙ written_ended c d.before ending)

-- Items of which the line does not finish.

unfinished_ends : (n : ℕ) (items : List Item) → 0 < finish_rule items → stage_ends n (Items items) ≡ ends.Rule (n + 1) (finish_rule items)
unfolding stage_ends
unfinished_ends n items h = let broken : nat_eq (finish_rule items) 0 ≡ false = grind (arith, nat_tests) in rw broken refl

pub unfinished : (c : Command) (bytes : List ℕ) (items : List Item) → IsUnfinished bytes items → trace c bytes ≡ items_ended c (text_lines bytes) (ends.Rule (length (text_lines bytes) + 1) (finish_rule items))
unfolding trace
unfinished c bytes items d =
    let lines = text_lines bytes in
    ends_behind c lines (Items items) (written c lines) (ends.Rule (length lines + 1) (finish_rule items)) (items_lead c lines (start c) [] items refl refl d.says_ d.builds d.one (omega (arith, bytes_same bytes, d.within))) (unfinished_ends (length lines) items d.broken)
    ∙ written_ended c lines (ends.Rule (length lines + 1) (finish_rule items))
