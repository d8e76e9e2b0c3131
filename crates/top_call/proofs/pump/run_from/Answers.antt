use Rattle.std.proofs.Common.{◌∙◌, refl, sym}
use Rattle.top_call.proofs.Told.{told_ok, told_front, told_cause}
use Rattle.top_call.proofs.Midway_more.{run_whole, run_front, run_cut, run_stopped, fault_uncut, end_uncut, cut_causes, end_causes}
use Rattle.top_call.proofs.Done.{done_only}
use Rattle.top_call.proofs.pump.run_from.Goals as goal

pub returns-in-Ok-end-clause-ran : goal.returns-in-Ok-end-clause-ran
returns-in-Ok-end-clause-ran g c =
    let did = told_ok g.K.Sink.written g.K.Sink.faults _ _ _ _ _ c.in-Ok-end.ensures.does refl in
    rw c.status.ensures (run_whole _ _ _ _ _ _ _ _ c.requires.start c.in-Ok.ensures.pumped did.0 c.in-Ok-end.ensures.ending)

pub returns-in-Ok-end-clause-causes : goal.returns-in-Ok-end-clause-causes
returns-in-Ok-end-clause-causes g c =
    let did = told_ok g.K.Sink.written g.K.Sink.faults _ _ _ _ _ c.in-Ok-end.ensures.does refl in
    rw c.status.ensures (end_causes _ _ _ _ _ c.in-Ok.ensures.causes.0 (did.1 ∙ c.in-Ok.ensures.causes.1))

pub returns-in-Err-end-clause-ran : goal.returns-in-Err-end-clause-ran
returns-in-Err-end-clause-ran g c = rw c.cut_status.ensures
    (run_front _ _ _ _ _ _ _ _ c.requires.start c.in-Ok.ensures.pumped (told_front g.K.Sink.written g.K.Sink.faults _ _ _ _ _ _ c.in-Err-end.ensures.does refl))

pub returns-in-Err-end-clause-causes : goal.returns-in-Err-end-clause-causes
returns-in-Err-end-clause-causes g c = rw (c.cut_status.ensures, c.cut_by.ensures)
    (cut_causes _ _ _ _ _ (told_cause g.K.Sink.written g.K.Sink.faults _ _ _ _ _ _ _ _ c.in-Err-end.ensures.does c.in-Ok.ensures.causes.0 c.in-Ok.ensures.causes.1))

pub returns-in-Err-clause-ran : goal.returns-in-Err-clause-ran
returns-in-Err-clause-ran g c = rw c.cut_status-in-Err.ensures
    (run_cut _ _ _ _ _ _ _ c.requires.start c.in-Err.ensures.pumped)

pub returns-in-Ok-end-clause-ended : goal.returns-in-Ok-end-clause-ended
returns-in-Ok-end-clause-ended g c h = c.in-Ok.ensures.ended (done_only _ _ c.in-Ok.ensures.within.going c.in-Ok-end.ensures.ending (sym c.status.ensures ∙ h))

pub returns-in-Ok-end-clause-read : goal.returns-in-Ok-end-clause-read
returns-in-Ok-end-clause-read g c = rw c.status.ensures (end_uncut _ _ _ _ _ _)

pub returns-in-Err-end-clause-read : goal.returns-in-Err-end-clause-read
returns-in-Err-end-clause-read g c = rw (c.cut_status.ensures, c.cut_by.ensures) (fault_uncut _ _ _ _ _ _)

pub returns-in-Err-clause-read : goal.returns-in-Err-clause-read
returns-in-Err-clause-read g c = rw c.cut_status-in-Err.ensures (run_stopped _ _ _ _ _ _ _ _ c.requires.start c.in-Err.ensures.stop)
