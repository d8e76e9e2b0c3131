-- A small document of each kind.
use Rattle.std.proofs.Common.{◌≡◌, ℕ, List, [], ◌∷◌, refl, arith}
use Rattle.std.specs.Prelude.{codes}
use Rattle.definitions.specs.declared.item.Item.{Item}
use Rattle.definitions.specs.declared.item.Item.TheVariants.{Zone}
use Rattle.definitions.specs.declared.event.Event.{Event}
use Rattle.definitions.specs.declared.event.Event.TheVariants.{Train, Time, Take, Deliver, Noise, Round, Lost}
use Rattle.definitions.specs.declared.event.Kind.TheVariants.{Equipped}
use Rattle.definitions.specs.declared.document.Command.TheVariants.{Run, Check}
use Rattle.definitions.specs.declared.document.Ending.TheVariants as ends
use Rattle.definitions.specs.Lines.{text_lines, text_of}
use Rattle.definitions.specs.Grammar.{item_line_of, event_line_of}
use Rattle.definitions.specs.ItemText.{item_forms}
use Rattle.definitions.specs.ItemReading.{item_at}
use Rattle.definitions.specs.EventText.{event_forms}
use Rattle.definitions.specs.EventFields.{has_train, event_of, field_column}
use Rattle.text_forms.specs.Reading.{form_at, line_at, word_at, after_word, common, fields_in, fields_at, parts_at, part_at, byte_at, number_at, digits_at, groups_at, hex_at, hex_digit_at}
use Rattle.std.specs.Fmt.{digits}
use Rattle.text_forms.specs.Forms.{spelled, part_text}
use Rattle.definitions.specs.Frames.{frame_at}
use Rattle.definitions.specs.OutcomeText.{outcome_forms, plain_text, outcome_text}
use Rattle.definitions.specs.Numbers.{numbers_below, least}
use Rattle.definitions.specs.Rules.{rule_of, finish_rule, builds}
use Rattle.definitions.specs.Story.{first_told, sent, to_actor, messages, ever}
use Rattle.definitions.specs.World.{trains}
use Rattle.definitions.specs.Control.{controls, greatest_known}
use Rattle.definitions.specs.Steps.{story_of, taken_most, takes_from}
use Rattle.definitions.specs.Trace.{trace, went, comes}
use Rattle.document_laws.specs.Whole.{said_items, said_events, SayEvents, SayScript, behind_events, Admitted, IsDocument, IsDocumentWithoutScript, IsCheckable, known_after, kept_lines, story_text, whole, checked, lines_ended}
use Rattle.document_laws.specs.Refused.{IsRefusedInScript, IsRefusedInCheck, IsRefusedAmongItems, IsUnfinished, story_ended, items_ended}
use Rattle.document_laws.proofs.Whole.{document_gives, document_gives_nothing, checkable_gives}
use Rattle.document_laws.proofs.Refused_in_script.{refused_in_script, refused_in_check, refused_among_items, unfinished}

abbrev items : List Item
items = Zone 1 ∷ []

abbrev events : List Event
events = Train (record { 0 = 7 }) 60 2 20 Equipped ∷ []

abbrev alone : List ℕ
alone = codes "# one zone\nzone 1"

abbrev scripted : List ℕ
scripted = codes "zone 1\n\nscript\ntrain 7 60 2 20 eq\n"

is_alone : IsDocumentWithoutScript alone items
unfolding said_items text_lines text_of item_line_of item_forms item_at form_at line_at word_at after_word common fields_in fields_at parts_at part_at byte_at number_at digits_at groups_at rule_of finish_rule least builds
is_alone = record { says_ = refl; builds = refl; one = omega arith; finished = refl; within = omega arith }

-- the zone, the word, and events
say_script : (back : List (List ℕ)) (script : List Event) → SayEvents items [] back script → SayScript (codes "zone 1\n" ∷ codes "\n" ∷ codes "script\n" ∷ back) items script
unfolding said_items text_of item_line_of item_forms item_at form_at line_at word_at after_word common fields_in fields_at parts_at part_at byte_at number_at digits_at groups_at
say_script back script say = record {
  front = codes "zone 1\n" ∷ codes "\n" ∷ [];
  word = codes "script\n";
  back = back;
  parts = refl;
  items_said = refl;
  word_said = refl;
  events_said = say;
}

one_train : SayEvents items [] (codes "train 7 60 2 20 eq\n" ∷ []) events
unfolding said_events text_of event_line_of event_forms form_at line_at word_at after_word common fields_in fields_at parts_at part_at byte_at number_at digits_at groups_at event_of has_train
one_train = refl

is_scripted : IsDocument scripted items events
unfolding text_lines rule_of finish_rule least builds Admitted behind_events went story_of first_told trains
is_scripted = record { says_ = say_script (codes "train 7 60 2 20 eq\n" ∷ []) events one_train; builds = refl; one = omega arith; finished = refl; kept = (refl, tt); few = omega arith; within = omega arith }

alone_gives : trace Run alone ≡ whole items []
alone_gives = document_gives_nothing alone items is_alone

scripted_gives : trace Run scripted ≡ whole items events
scripted_gives = document_gives scripted items events is_scripted

-- in a check it is written again, without the blank line
is_checkable : IsCheckable scripted items events
unfolding text_lines rule_of finish_rule least builds known_after
is_checkable = record { says_ = say_script (codes "train 7 60 2 20 eq\n" ∷ []) events one_train; builds = refl; one = omega arith; finished = refl; known = omega arith; few = omega arith; within = omega arith }

checked_gives : trace Check scripted ≡ checked scripted events
checked_gives = checkable_gives scripted items events is_checkable

checked_text : kept_lines (text_lines scripted) ≡ codes "zone 1\nscript\ntrain 7 60 2 20 eq\n"
unfolding kept_lines text_lines text_of
checked_text = refl

-- a delivery of one message
abbrev further : List Event
further = Train (record { 0 = 7 }) 60 2 20 Equipped ∷ Time (record { 0 = 1 }) (record { 0 = 7 }) ∷ Deliver 1 ∷ []

abbrev delivered : List ℕ
delivered = codes "zone 1\n\nscript\ntrain 7 60 2 20 eq\ntime 1 7\ndeliver 1\n"

-- in the history it is its take
is_take : behind_events items [] further ≡ Take 1 0 1 ∷ Time (record { 0 = 1 }) (record { 0 = 7 }) ∷ Train (record { 0 = 7 }) 60 2 20 Equipped ∷ []
unfolding behind_events went story_of sent to_actor taken_most takes_from ever
is_take = refl

three_said : SayEvents items [] (codes "train 7 60 2 20 eq\n" ∷ codes "time 1 7\n" ∷ codes "deliver 1\n" ∷ []) further
unfolding said_events text_of event_line_of event_forms form_at line_at word_at after_word common fields_in fields_at parts_at part_at byte_at number_at digits_at groups_at event_of has_train
three_said = refl

is_delivered : IsDocument delivered items further
unfolding text_lines rule_of finish_rule least builds Admitted behind_events went story_of first_told trains sent to_actor taken_most takes_from ever
is_delivered = record {
  says_ = say_script (codes "train 7 60 2 20 eq\n" ∷ codes "time 1 7\n" ∷ codes "deliver 1\n" ∷ []) further three_said;
  builds = refl;
  one = omega arith;
  finished = refl;
  kept = (refl, (refl, (refl, tt)));
  few = omega arith;
  within = omega arith;
}

delivered_gives : trace Run delivered ≡ whole items further
delivered_gives = document_gives delivered items further is_delivered

-- no outcome line, and three events
no_lines : story_text (story_of items (behind_events items [] further)) ≡ []
unfolding behind_events went story_of first_told sent to_actor taken_most takes_from controls greatest_known numbers_below ever
no_lines = refl

three_events : (whole items further).ending ≡ ends.Done 3
three_events = refl

-- noise, a marker and a loss: the delivery passes over what is lost
abbrev noisy : List Event
noisy =
    Train (record { 0 = 7 }) 60 2 20 Equipped
    ∷ Time (record { 0 = 1 }) (record { 0 = 7 })
    ∷ Time (record { 0 = 1 }) (record { 0 = 7 })
    ∷ Lost 0 1 1
    ∷ Round 3
    ∷ Noise 1 0 (record { items = 2 ∷ 255 ∷ [] })
    ∷ Deliver 1
    ∷ []

abbrev noise_lines : List (List ℕ)
noise_lines = codes "train 7 60 2 20 eq\n" ∷ codes "time 1 7\n" ∷ codes "time 1 7\n" ∷ codes "lost 0 1 1\n" ∷ codes "round 3\n" ∷ codes "noise 1 0 02ff\n" ∷ codes "deliver 1\n" ∷ []

abbrev noise_heard : List ℕ
noise_heard = codes "zone 1\n\nscript\ntrain 7 60 2 20 eq\ntime 1 7\ntime 1 7\nlost 0 1 1\nround 3\nnoise 1 0 02ff\ndeliver 1\n"

takes_second : behind_events items [] noisy
    ≡ Take 1 0 2 ∷ Noise 1 0 (record { items = 2 ∷ 255 ∷ [] }) ∷ Round 3 ∷ Lost 0 1 1 ∷ Time (record { 0 = 1 }) (record { 0 = 7 }) ∷ Time (record { 0 = 1 }) (record { 0 = 7 }) ∷ Train (record { 0 = 7 }) 60 2 20 Equipped ∷ []
unfolding behind_events went story_of sent to_actor taken_most takes_from ever frame_at
takes_second = refl

noise_said : SayEvents items [] noise_lines noisy
unfolding said_events text_of event_line_of event_forms form_at line_at word_at after_word common fields_in fields_at parts_at part_at byte_at number_at digits_at groups_at hex_at hex_digit_at event_of has_train
noise_said = refl

is_noisy : IsDocument noise_heard items noisy
unfolding text_lines rule_of finish_rule least builds Admitted behind_events went story_of first_told trains sent to_actor taken_most takes_from ever frame_at
is_noisy = record {
  says_ = say_script noise_lines noisy noise_said;
  builds = refl;
  one = omega arith;
  finished = refl;
  kept = (refl, (refl, (refl, (refl, (refl, (refl, (refl, tt)))))));
  few = omega arith;
  within = omega arith;
}

noisy_gives : trace Run noise_heard ≡ whole items noisy
noisy_gives = document_gives noise_heard items noisy is_noisy

-- one outcome line: the fault of the noise
noise_told : story_text (story_of items (behind_events items [] noisy)) ≡ codes "noise 1 version\n"
unfolding behind_events went story_of first_told sent to_actor taken_most takes_from controls greatest_known numbers_below ever frame_at outcome_text outcome_forms plain_text spelled part_text digits
noise_told = refl

-- a train that comes on and holds no authority is refused; what follows is not read
abbrev broken : List ℕ
broken = codes "zone 1\n\nscript\ntrain 7 60 2 20 eq\nenter 7\nzone 1\n"

is_broken : IsRefusedInScript broken items events events (ends.Premise 5 5)
unfolding text_lines said_events text_of event_line_of event_forms form_at line_at word_at after_word common fields_in fields_at parts_at part_at byte_at number_at digits_at groups_at event_of has_train rule_of finish_rule least builds Admitted behind_events went comes messages story_of first_told trains ever
is_broken = record {
  before = codes "zone 1\n" ∷ codes "\n" ∷ codes "script\n" ∷ codes "train 7 60 2 20 eq\n" ∷ [];
  last = codes "enter 7\n";
  behind = codes "zone 1\n" ∷ [];
  lines = refl;
  says_ = say_script (codes "train 7 60 2 20 eq\n" ∷ []) events one_train;
  builds = refl;
  one = omega arith;
  finished = refl;
  kept = (refl, tt);
  few = omega arith;
  refused = (refl, refl, refl, refl, omega arith);
  reached = refl;
  within = omega arith;
}

broken_gives : trace Run broken ≡ story_ended items events (ends.Premise 5 5)
broken_gives = refused_in_script broken items events events (ends.Premise 5 5) is_broken

-- a train that is not declared is a refused field: in a run, and in a check, which has written what stands before
abbrev undeclared : List ℕ
undeclared = codes "zone 1\n\nscript\ntrain 7 60 2 20 eq\nenter 8\n"

is_undeclared : IsRefusedInScript undeclared items events events (ends.ScriptColumn 5 7)
unfolding text_lines said_events text_of event_line_of event_forms form_at line_at word_at after_word common fields_in fields_at parts_at part_at byte_at number_at digits_at groups_at event_of has_train field_column rule_of finish_rule least builds Admitted behind_events went story_of first_told trains
is_undeclared = record {
  before = codes "zone 1\n" ∷ codes "\n" ∷ codes "script\n" ∷ codes "train 7 60 2 20 eq\n" ∷ [];
  last = codes "enter 8\n";
  behind = [];
  lines = refl;
  says_ = say_script (codes "train 7 60 2 20 eq\n" ∷ []) events one_train;
  builds = refl;
  one = omega arith;
  finished = refl;
  kept = (refl, tt);
  few = omega arith;
  refused = refl;
  reached = refl;
  within = omega arith;
}

undeclared_gives : trace Run undeclared ≡ story_ended items events (ends.ScriptColumn 5 7)
undeclared_gives = refused_in_script undeclared items events events (ends.ScriptColumn 5 7) is_undeclared

check_undeclared : IsRefusedInCheck undeclared items events (ends.ScriptColumn 5 7)
unfolding text_lines said_events text_of event_line_of event_forms form_at line_at word_at after_word common fields_in fields_at parts_at part_at byte_at number_at digits_at groups_at event_of has_train field_column rule_of finish_rule least builds known_after
check_undeclared = record {
  before = codes "zone 1\n" ∷ codes "\n" ∷ codes "script\n" ∷ codes "train 7 60 2 20 eq\n" ∷ [];
  last = codes "enter 8\n";
  behind = [];
  lines = refl;
  says_ = say_script (codes "train 7 60 2 20 eq\n" ∷ []) events one_train;
  builds = refl;
  one = omega arith;
  finished = refl;
  known = omega arith;
  few = omega arith;
  refused = refl;
  within = omega arith;
}

check_undeclared_gives : trace Check undeclared ≡ lines_ended (codes "zone 1\n" ∷ codes "\n" ∷ codes "script\n" ∷ codes "train 7 60 2 20 eq\n" ∷ []) (ends.ScriptColumn 5 7)
unfolding check_undeclared
check_undeclared_gives = refused_in_check undeclared items events (ends.ScriptColumn 5 7) check_undeclared

-- a text line that is no item is refused at its column; what stands after it is not read
abbrev misspelled : List ℕ
misspelled = codes "zone 1\nscrip\nscript\n"

is_misspelled : IsRefusedAmongItems Run misspelled items (ends.LineColumn 2 2)
unfolding said_items text_lines text_of item_line_of item_forms item_at form_at line_at word_at after_word common fields_in fields_at parts_at part_at byte_at number_at digits_at groups_at rule_of least builds
is_misspelled = record {
  before = codes "zone 1\n" ∷ [];
  last = codes "scrip\n";
  behind = codes "script\n" ∷ [];
  lines = refl;
  says_ = refl;
  builds = refl;
  one = omega arith;
  refused = refl;
  within = omega arith;
}

misspelled_gives : trace Run misspelled ≡ items_ended Run (codes "zone 1\n" ∷ []) (ends.LineColumn 2 2)
misspelled_gives = refused_among_items Run misspelled items (ends.LineColumn 2 2) is_misspelled

-- the word of a plan is refused before the line is finished: a run has no place for it, and a check no meaning yet

is_planned : IsRefusedAmongItems Run (codes "plan\n") [] (ends.ScriptColumn 1 1)
unfolding said_items text_lines text_of item_line_of item_forms item_at form_at line_at word_at after_word common fields_in fields_at parts_at part_at byte_at number_at digits_at groups_at builds
is_planned = record { before = []; last = codes "plan\n"; behind = []; lines = refl; says_ = refl; builds = refl; one = omega arith; refused = refl; within = omega arith }

check_planned : IsRefusedAmongItems Check (codes "plan\n") [] (ends.Unbuilt 1)
unfolding said_items text_lines text_of item_line_of item_forms item_at form_at line_at word_at after_word common fields_in fields_at parts_at part_at byte_at number_at digits_at groups_at builds
check_planned = record { before = []; last = codes "plan\n"; behind = []; lines = refl; says_ = refl; builds = refl; one = omega arith; refused = refl; within = omega arith }

-- a document that says nothing has no zone, which is found behind its last text line

abbrev empty : List ℕ
empty = codes "# nothing\n"

is_empty : IsUnfinished empty []
unfolding said_items text_lines text_of item_line_of finish_rule least builds
is_empty = record { says_ = refl; builds = refl; one = omega arith; broken = omega arith; within = omega arith }

empty_gives : trace Check empty ≡ items_ended Check (codes "# nothing\n" ∷ []) (ends.Rule 2 (finish_rule []))
unfolding text_lines
empty_gives = unfinished Check empty [] is_empty
