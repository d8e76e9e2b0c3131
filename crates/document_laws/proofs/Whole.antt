-- A document of items, with or without the word and events: a run gives its story, and a check writes it again.
use Rattle.std.proofs.Common.{◌≡◌, ℕ, List, [], ◌∷◌, ◌++◌, length, reverse, false, refl, sym, ◌∙◌, ap, append_assoc, append-nil, arith}
use Rattle.std.proofs.lemmas.List.{reverse-append}
use Rattle.std.proofs.lemmas.Grind.{flat_map-append}
use Rattle.std.specs.Prelude.{flat_map}
use Rattle.definitions.specs.declared.item.Item.{Item}
use Rattle.definitions.specs.declared.event.Event.{Event}
use Rattle.definitions.specs.declared.outcome.Outcome.{Outcome}
use Rattle.definitions.specs.declared.document.Command.{Command}
use Rattle.definitions.specs.declared.document.Command.TheVariants as is
use Rattle.definitions.specs.declared.document.Ending.TheVariants as ends
use Rattle.definitions.specs.Lines.{text_lines}
use Rattle.definitions.specs.Rules.{finish_rule}
use Rattle.definitions.specs.Track.{Line}
use Rattle.definitions.specs.Story.{Transition, Story}
use Rattle.definitions.specs.Steps.{effects, story_of}
use Rattle.definitions.specs.OutcomeText.{outcome_text}
use Rattle.definitions.specs.Endings.{outcomes_text}
use Rattle.definitions.specs.Trace.{Items, Script, Checked, start, stage_ends, went, stands_for, Given, behind, ended, trace}
use Rattle.document_laws.specs.Whole.{behind_event, behind_events, IsDocument, IsDocumentWithoutScript, IsCheckable, known_after, story_text, whole, checked, refuses}
use Rattle.document_laws.specs.Refused.{items_ended}
use Rattle.document_laws.proofs.Leads.{bytes_same, ends_behind}
use Rattle.document_laws.proofs.Written.{written, written_ended}
use Rattle.document_laws.proofs.Items_lead.{items_lead}
use Rattle.document_laws.proofs.Run_leads.{lines_of, lines_behind, run_leads}
use Rattle.document_laws.proofs.Check_leads.{check_leads}

story_snoc : (s : Story) (x : Transition) → story_text (x ∷ s) ≡ story_text s ++ outcomes_text x.lines
story_snoc s x =
    ap texts (reverse-append (x ∷ []) s)
    ∙ (flat_map-append (λ (e : Transition). outcomes_text e.lines) (reverse s) (x ∷ [])
    ∙ ap (λ t. story_text s ++ t) (append-nil (outcomes_text x.lines)))
  where
    texts : List Transition → List ℕ
    texts = flat_map (λ (e : Transition). outcomes_text e.lines)

-- the text of further events behind that of one
pub more_text : (line : Line) (before : List Event) (e : Event) (after : List Event) (rest : List Outcome) → story_text (story_of line after) ≡ story_text (story_of line (e ∷ before)) ++ outcomes_text rest
    → story_text (story_of line after) ≡ story_text (story_of line before) ++ outcomes_text ((effects line (story_of line before) e).lines ++ rest)
unfolding story_of
more_text line before e after rest h =
    let x = effects line (story_of line before) e in
    h
    ∙ (ap (λ t. t ++ outcomes_text rest) (story_snoc (story_of line before) x)
    ∙ (append_assoc (story_text (story_of line before)) (outcomes_text x.lines) (outcomes_text rest)
    ∙ ap (λ t. story_text (story_of line before) ++ t) (sym (flat_map-append outcome_text x.lines rest))))

went_text : (line : Line) (more before : List Event) → story_text (story_of line (went line before more).events) ≡ story_text (story_of line before) ++ outcomes_text (went line before more).lines
unfolding went
went_text line [] before = sym (append-nil (story_text (story_of line before)))
went_text line (e ∷ more) before = more_text line before e (went line (e ∷ before) more).events (went line (e ∷ before) more).lines (went_text line more (e ∷ before))

pub story_more : (line : Line) (events before : List Event) → story_text (story_of line (behind_events line before events)) ≡ story_text (story_of line before) ++ lines_behind line before events
unfolding behind_events lines_behind
story_more line [] before = sym (append-nil (story_text (story_of line before)))
story_more line (e ∷ events) before =
    story_more line events (behind_event line before e)
    ∙ (ap (λ t. t ++ lines_behind line (behind_event line before e) events) (went_text line (stands_for line (story_of line before) e) before)
    ∙ append_assoc (story_text (story_of line before)) (outcomes_text (lines_of line before e)) (lines_behind line (behind_event line before e) events))

script_ends : (n : ℕ) (line : Line) (before : List Event) (count : ℕ) → stage_ends n (Script line before count) ≡ ends.Done count
unfolding stage_ends
script_ends n line before count = refl

check_ends : (n : ℕ) (line : Line) (known : List ℕ) (count : ℕ) → stage_ends n (Checked line known count) ≡ ends.Done count
unfolding stage_ends
check_ends n line known count = refl

alone_ends : (n : ℕ) (before : List Item) → finish_rule before ≡ 0 → stage_ends n (Items before) ≡ ends.Done 0
unfolding stage_ends
alone_ends n before fin = rw fin refl

pub document_gives : (bytes : List ℕ) (items : List Item) (events : List Event) → IsDocument bytes items events → trace is.Run bytes ≡ whole items events
unfolding trace story_of
document_gives bytes items events d =
    let lines = text_lines bytes in
    ends_behind is.Run lines (Script items (behind_events items [] events) (length events)) (lines_behind items [] events) (ends.Done (length events))
    (run_leads lines items events d.says_ d.builds d.one d.finished d.kept d.few (omega (arith, bytes_same bytes, d.within)))
    (script_ends (length lines) items (behind_events items [] events) (length events))
    ∙ ap (λ (t : List ℕ). behind t (ended (ends.Done (length events)))) (sym (story_more items events []))

-- text lines that say items alone
alone_gives : (c : Command) (bytes : List ℕ) (items : List Item) → IsDocumentWithoutScript bytes items → trace c bytes ≡ items_ended c (text_lines bytes) (ends.Done 0)
unfolding trace
alone_gives c bytes items d =
    let lines = text_lines bytes in
    ends_behind c lines (Items items) (written c lines) (ends.Done 0) (items_lead c lines (start c) [] items refl refl d.says_ d.builds d.one (omega (arith, bytes_same bytes, d.within))) (alone_ends (length lines) items d.finished)
    ∙ written_ended c lines (ends.Done 0)

pub document_gives_nothing : (bytes : List ℕ) (items : List Item) → IsDocumentWithoutScript bytes items → trace is.Run bytes ≡ whole items []
unfolding story_of behind_events
document_gives_nothing bytes items d = alone_gives is.Run bytes items d

pub checkable_gives : (bytes : List ℕ) (items : List Item) (events : List Event) → IsCheckable bytes items events → trace is.Check bytes ≡ checked bytes events
unfolding trace
checkable_gives bytes items events d =
    let lines = text_lines bytes in
    ends_behind is.Check lines (Checked items (known_after [] events) (length events)) (written is.Check lines) (ends.Done (length events))
    (check_leads lines items events d.says_ d.builds d.one d.finished d.known d.few (omega (arith, bytes_same bytes, d.within)))
    (check_ends (length lines) items (known_after [] events) (length events))

pub checkable_gives_items : (bytes : List ℕ) (items : List Item) → IsDocumentWithoutScript bytes items → trace is.Check bytes ≡ checked bytes []
checkable_gives_items bytes items d = alone_gives is.Check bytes items d

-- no text line of a document is refused
pub never_premise : (bytes : List ℕ) (items : List Item) (events : List Event) → IsDocument bytes items events → refuses (trace is.Run bytes).ending ≡ false
never_premise bytes items events d = ap (λ (g : Given). refuses g.ending) (document_gives bytes items events d)
