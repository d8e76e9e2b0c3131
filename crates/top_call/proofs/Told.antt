-- What a call's clause tells that writes a text.
use Rattle.std.proofs.Common.{◌≡◌, ℕ, ◌≤◌, List, Option, Result, Ok, Err, ◌∙◌, subst}
use Rattle.edge_io.specs.declared.writing.WriteFault.{WriteFault}
use Rattle.edge_io.specs.Reading.{WroteIs, WroteFront}
use Rattle.edge_io.specs.Writing.{Wrote}
use Rattle.edge_io.specs.Causes.{Rose}
use Rattle.run_engine.specs.declared.output.Fault.{Fault}
use Rattle.run_engine.specs.declared.output.Fault.TheVariants as faults
use Rattle.run_engine.specs.Does.{Does}
use Rattle.top_call.specs.Running.{PumpCauses, cut_of}

module _ {K : Type 0} (written : K → Option (List ℕ)) (count : K → ℕ) where
  -- what a call's clause tells that wants no memory
  pub whole : (a b : K) (t : List ℕ) (u : Unit {0}) → Wrote written count a b t (Ok u) → WroteIs (written a) (written b) t × (count b ≡ count a)
  unfolding Wrote
  whole a b t u h = h

  pub part : (a b : K) (t : List ℕ) (e : WriteFault) → Wrote written count a b t (Err e) → WroteFront (written a) (written b) t × (count a ≤ count b) × Rose (count a) (count b)
  unfolding Wrote
  part a b t e h = h

  -- what a call's clause tells of a text that is spelled another way
  pub told_ok : {X : Type 0} (a b : K) (t s : List ℕ) (x : X) → Does written count a b t (Ok x) → t ≡ s → WroteIs (written a) (written b) s × (count b ≡ count a)
  unfolding Does
  told_ok a b t s x h e = (subst (λ (u : List ℕ). WroteIs (written a) (written b) u) e h.0, h.1)

  pub told_front : (X : Type 0) (a b : K) (t s : List ℕ) (fault : Fault) → Does {X = X} written count a b t (Err fault) → t ≡ s → WroteFront (written a) (written b) s
  unfolding Does
  told_front X a b t s faults.Write h e = subst (λ (u : List ℕ). WroteFront (written a) (written b) u) e h.0
  told_front X a b t s faults.Memory h e = subst (λ (u : List ℕ). WroteFront (written a) (written b) u) e h.0

  pub told_cause : (X : Type 0) (a b : K) (t : List ℕ) (fault : Fault) (r0 r w0 : ℕ) → Does {X = X} written count a b t (Err fault) → r ≡ r0 → count a ≡ w0 → PumpCauses (Err (cut_of fault)) r0 r w0 (count b)
  unfolding Does
  told_cause X a b t faults.Write r0 r w0 h e f = (e, subst (λ n. n ≤ count b) f h.1, subst (λ n. Rose n (count b)) f h.2)
  told_cause X a b t faults.Memory r0 r w0 h e f = (e, h.1 ∙ f)
