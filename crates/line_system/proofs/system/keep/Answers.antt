use Rattle.std.proofs.Common.{◌≡◌, ℕ, ◌++◌, ◌∷◌, [], List, length, arith}
use Rattle.std.proofs.Math.Seq.{set-append_seam}
use Rattle.std.specs.Prelude.{slice_set}
use Rattle.definitions.specs.declared.event.Event.{Event}
use Rattle.definitions.specs.declared.event.Event.TheVariants.{Scan}
use Rattle.line_system.proofs.system.keep.Goals as goal

last_kept : (xs zs : List Event) (n : ℕ) (s e p : Event) → zs ≡ xs ++ s ∷ [] → n ≡ length xs → p ≡ e → slice_set zs n p ≡ xs ++ e ∷ []
last_kept xs zs n s e p a b q = rw (a, b, q) (set-append_seam xs s [] e)

pub returns-in-Some : goal.returns-in-Some
returns-in-Some c = last_kept c.args.events.now.items _ _ Scan c.args.event.now c.copy_into.new.place c.push_reserved.ensures.items (omega (arith, c.push_reserved.ensures.len)) c.copy_into.ensures
