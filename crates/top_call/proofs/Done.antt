-- What ends as done.
use Rattle.std.proofs.Common.{◌≡◌, ℕ, ◌+◌, List, [], Option, Some, None, Bool, true, false, sym, ◌∙◌, ap}
use Rattle.list_laws.proofs.By_test.{by_test}
use Rattle.edge_io.specs.declared.status.Status.TheVariants as status
use Rattle.definitions.specs.declared.document.Ending.{Ending}
use Rattle.definitions.specs.declared.document.Ending.TheVariants as ends
use Rattle.definitions.specs.Endings.{status_of}
use Rattle.definitions.specs.Trace.{Stage, Items, Script, Checked, Over, is_over, stage_ends, Given}
use Rattle.byte_feed.specs.Feed.{Feed, fed_gives}
use Rattle.byte_feed.proofs.Trace_fed.{fed_over}
use Rattle.run_engine.specs.Shown.{done_early}

over_ends : (n : ℕ) (s : Stage) → is_over s ≡ true → done_early s ≡ false → status_of (stage_ends n s) ≡ status.Done → ⊥
unfolding stage_ends
over_ends n (Items items) h k e = cc
over_ends n (Script line events count) h k e = cc
over_ends n (Checked line known count) h k e = cc
over_ends n (Over (ends.Done m)) h k e = cc
over_ends n (Over _) h k e = cc

-- what ends as done is not over
pub done_only : (f : Feed) (e : Ending) → done_early f.reading.stage ≡ false → e ≡ (fed_gives f []).ending → status_of e ≡ status.Done → is_over f.reading.stage ≡ false
done_only f e k same h = by_test (is_over f.reading.stage)
    (λ over. absurd (over_ends f.reading.number f.reading.stage over k (sym (ap status_of (same ∙ ap (λ (g : Given). g.ending) (fed_over f [] over))) ∙ h)))
    (λ on. on)
