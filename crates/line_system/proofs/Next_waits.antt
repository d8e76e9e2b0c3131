-- The first take that waits.
use Rattle.std.proofs.Common.{◌≡◌, ℕ, suc, ◌+◌, ◌-◌, ◌<◌, ◌≤◌, List, Some, None, Bool, true, false, refl, sym, ap, ◌∙◌, arith}
use Rattle.std.specs.Prelude.{slice_get}
use Rattle.definitions.specs.declared.event.Event.{Event}
use Rattle.definitions.specs.declared.event.Event.TheVariants.{Take}
use Rattle.plain_state.specs.Plain.{takes_but}

module _ (lost : ℕ → Bool) (to from number sent : ℕ) (waits : List Event) (is : waits ≡ takes_but lost to from (number + 1) (sent - number)) where
  one_more : number < sent → waits ≡ takes_but lost to from (number + 1) (suc (sent - (number + 1)))
  one_more lt = let more : sent - number ≡ suc (sent - (number + 1)) = omega arith in is ∙ ap (λ (k : ℕ). takes_but lost to from (number + 1) k) more

  -- it is the next
  pub next_waits : number < sent → lost (number + 1) ≡ false → Some (Take to from (number + 1)) ≡ slice_get waits 0
  unfolding takes_but
  next_waits lt kept = sym (ap (λ (es : List Event). slice_get es 0) (one_more lt) ∙ rw kept refl)

  -- or the next is lost
  pub later_waits : number < sent → lost (number + 1) ≡ true → waits ≡ takes_but lost to from (number + 1 + 1) (sent - (number + 1))
  unfolding takes_but
  later_waits lt gone = one_more lt ∙ rw gone refl

  -- or there is none
  pub none_waits : sent ≤ number → None ≡ slice_get waits 0
  unfolding takes_but
  none_waits le =
      let none : sent - number ≡ 0 = omega arith in
      sym (ap (λ (es : List Event). slice_get es 0) (is ∙ ap (λ (k : ℕ). takes_but lost to from (number + 1) k) none))
