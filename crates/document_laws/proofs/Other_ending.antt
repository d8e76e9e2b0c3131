-- No document meets the limit on messages.
use Rattle.std.proofs.Common.{◌≡◌, ℕ, List, [], ◌∷◌, true, false, refl, sym, ◌∙◌, ap}
use Rattle.std.specs.Prelude.{nat_eq}
use Rattle.list_laws.proofs.By_test.{by_test}
use Rattle.definitions.specs.declared.document.Command.{Command}
use Rattle.definitions.specs.declared.document.Ending.{Ending}
use Rattle.definitions.specs.declared.document.Ending.TheVariants as ends
use Rattle.definitions.specs.Lines.{text_lines}
use Rattle.definitions.specs.Rules.{finish_rule}
use Rattle.definitions.specs.Trace.{Stage, Items, Script, Checked, Over, Reading, start, line_read, stage_ends, given, trace}
use Rattle.document_laws.proofs.Has_room.{is_messages}
use Rattle.document_laws.proofs.Safe_throughout.{Good, good_line, good_start}

ends_other : (n : ℕ) (s : Stage) → Good s → is_messages (stage_ends n s) ≡ false
unfolding stage_ends
ends_other n (Items items) g = by_test (nat_eq (finish_rule items) 0) (λ y. rw y refl) (λ x. rw x refl)
ends_other n (Script line events count) g = refl
ends_other n (Checked line known count) g = refl
ends_other n (Over ending) g = g

given_other : (lines : List (List ℕ)) (r : Reading) → Good r.stage → is_messages (given r lines).ending ≡ false
unfolding given
given_other [] r g = ends_other r.number r.stage g
given_other (line ∷ lines) r g = given_other lines (line_read r line).next (good_line r line g)

other_ending : (c : Command) (bytes : List ℕ) → is_messages (trace c bytes).ending ≡ false
unfolding trace
other_ending c bytes = given_other (text_lines bytes) (start c) (good_start c)

pub never_messages : (c : Command) (bytes : List ℕ) → (trace c bytes).ending ≡ ends.Messages → ⊥
never_messages c bytes h = absurd (let k : true ≡ false = sym (ap (λ (e : Ending). is_messages e) h) ∙ other_ending c bytes in cc)
