-- Reports are true when they are made, and stay so.
use Rattle.journey_laws.proofs.Journey_track.{first_steps, journey_goes_on}
use Rattle.way_laws.proofs.Cut_front.{cut_few}
use Rattle.event_laws.proofs.By_does.{effect_event, is_report, reports, effect_unreported}
use Rattle.journey_laws.proofs.Head_step.{enter_once}
use Rattle.std.proofs.Common.{◌≡◌, ℕ, ◌+◌, ◌-◌, [], ◌∷◌, length, Bool, true, false, ◌&&◌, refl, sym, ◌∙◌, ap, subst, arith, List, ◌<◌, ◌≤◌}
use Rattle.std.proofs.lemmas.Bool.{eqb-true, and_parts}
use Rattle.std.proofs.lemmas.Bool.Decides.{nat_tests}
use Rattle.std.proofs.lemmas.Int.{ints}
use Rattle.std.specs.Prelude.{ℤ, pos, ◌+ℤ◌}
use Rattle.std.specs.Int.Signed.{le_z}
use Rattle.list_laws.proofs.By_test.{by_test}
use Rattle.track_points.specs.declared.ids.DirSeg.{DirSeg}
use Rattle.track_points.specs.declared.ids.TrainId.{TrainId}
use Rattle.track_points.specs.declared.ids.ZoneId.{ZoneId}
use Rattle.track_points.specs.Points.{step_eq, total}
use Rattle.definitions.specs.declared.event.Event.{Event}
use Rattle.definitions.specs.declared.event.Event.TheVariants.{Report}
use Rattle.definitions.specs.declared.message.Msg.{Msg}
use Rattle.definitions.specs.declared.message.Msg.TheVariants as msg
use Rattle.definitions.specs.Track.{Line, seg_len, last_step}
use Rattle.definitions.specs.Story.{Story}
use Rattle.definitions.specs.World.{clock, was_moment, error_of, entered, head, journey, enters}
use Rattle.definitions.specs.Premises.{head_offset, off_by}
use Rattle.definitions.specs.Control.{message_time}
use Rattle.definitions.specs.Safe.{IsLineOfOneZone}
use Rattle.definitions.specs.Steps.{effects}
use Rattle.event_laws.proofs.Issued_all.{AllIn, AllIssued, all_weaker, in_all_weaker, all_both}
use Rattle.event_laws.proofs.Admitted.{Admitted}
use Rattle.event_laws.proofs.Moment_most.{moment_most}
use Rattle.event_laws.proofs.Facts_stay.{error_stays, entered_stays}
use Rattle.journey_laws.proofs.Motion.{place_at, Timed, place_stays, head_next}
use Rattle.journey_laws.proofs.Invariant.{step_begin, ReportIs, ReportTrue, Invariant}
use Rattle.journey_laws.proofs.One_route.{on_controls}
use Rattle.journey_laws.proofs.First_steps.{controlled_some, controlled_reaches}
use Rattle.journey_laws.proofs.Head_on.{place_on, head_place}

pub reports_start : (line : Line) (t : ℕ) → AllIssued (ReportTrue line t []) []
unfolding AllIssued
reports_start line t = tt

-- no report, nothing to show
no_report : (line : Line) (t : ℕ) (s : Story) (m : Msg) → is_report m ≡ false → ReportTrue line t s m
no_report line t s (msg.Report u time mark offset integrity) h = absurd cc
no_report line t s _ h = tt

module _ (line : Line) (s : Story) (e : Event) (one : IsLineOfOneZone line) (admitted : Admitted line s e) (t : ℕ) (invariant : Invariant line t s) where
  -- a mark of the journey stays one, and its step begins where it did
  marks_stay : (mark : ℕ) → entered t s ≡ true → mark < length (journey line t s)
      → (mark < length (journey line t (effects line s e ∷ s))) × (step_begin line t (effects line s e ∷ s) mark ≡ step_begin line t s mark)
  marks_stay mark on h =
      let x = effects line s e in
      let c = on_controls line t s invariant.authorized on in
      let some = controlled_some line t s invariant.authorized c invariant.motion in
      let room = controlled_reaches line t s invariant.authorized c invariant.motion in
      let le = head_grows on in
      let g = journey_goes_on line t x s some room le in
      let k = cut_few (seg_len line) (journey line t (x ∷ s)) (head t s) in
      let n = ap (λ (xs : List DirSeg). length xs) g in
      (omega (arith, h, k, n), ap (total (seg_len line)) (first_steps line t x s mark some room le (omega (arith, h))))
    where
      head_grows : entered t s ≡ true → head t s ≤ head t (effects line s e ∷ s)
      head_grows on =
          let off : enters t (effects line s e).event ≡ false = by_test (enters t e)
          (λ y. absurd (let z = enter_once t s e admitted.entering y in let c : true ≡ false = sym on ∙ z in cc))
          (λ n. ap (enters t) (effect_event line s e) ∙ n) in
          let h = head_next t (effects line s e) s off in
          omega (arith, h)

module _ (line : Line) (s : Story) (e : Event) (one : IsLineOfOneZone line) (admitted : Admitted line s e) (timed : Timed s) (t : ℕ) (invariant : Invariant line t s) where
  report_stays : (time mark : ℕ) (offset : ℤ) → was_moment time s ≡ true → ReportIs line t s time mark offset → ReportIs line t (effects line s e ∷ s) time mark offset
  report_stays time mark offset moment r =
      let x = effects line s e in
      let declared = invariant.motion.declared r.on in
      let m = marks_stay line s e one admitted t invariant mark r.on r.reached in
      let p = place_stays line t time s e admitted invariant.motion declared (moment_most time s moment) in
      let f = error_stays t x s declared in
      let least = r.least in
      let most = r.most in
      record {
        on = entered_stays t x s r.on;
        reached = m.0;
        least = rw (m.1, p, f) least;
        most = rw (m.1, p, f) most;
      }

  reports_stay : AllIssued (ReportTrue line t s) s → AllIssued (ReportTrue line t (effects line s e ∷ s)) s
  reports_stay a =
      all_weaker (λ m. (was_moment (message_time m) s ≡ true) × ReportTrue line t s m) (ReportTrue line t (effects line s e ∷ s)) stays s
      (all_both (λ m. was_moment (message_time m) s ≡ true) (ReportTrue line t s) s timed.messages a)
    where
      stays : (m : Msg) → (was_moment (message_time m) s ≡ true) × ReportTrue line t s m → ReportTrue line t (effects line s e ∷ s) m
      stays (msg.Report u time mark offset integrity) h = λ its. report_stays time mark offset h.0 (h.1 its)
      stays _ h = tt

-- an offset that is off by no more than an error, from where its step begins
off_ends : (begin place head error : ℕ) (offset : ℤ) → off_by error head offset ≡ true → begin + head ≡ place
    → (le_z (pos begin +ℤ offset) (pos (place + error)) ≡ true) × (le_z (pos place) (pos (begin + error) +ℤ offset) ≡ true)
off_ends begin place head error offset h e = (grind (arith, ints, nat_tests), grind (arith, ints, nat_tests))

-- the report of an event
report_made : (line : Line) (s : Story) (u : TrainId) (z : ZoneId) (step : DirSeg) (offset : ℤ) (whole : Bool) → IsLineOfOneZone line → Admitted line s (Report u z step offset whole)
    → Invariant line u.0 s → ReportIs line u.0 (effects line s (Report u z step offset whole) ∷ s) (clock s) (length (journey line u.0 s) - 1) offset
report_made line s u z step offset whole one a invariant =
    let t = u.0 in
    let e = Report u z step offset whole in
    let x = effects line s e in
    let k = and_parts (entered t s) (step_eq step (last_step (journey line t s)) && off_by (error_of t s) (head_offset line t s) offset) a.reporting in
    let off = and_parts (step_eq step (last_step (journey line t s))) (off_by (error_of t s) (head_offset line t s) offset) k.1 in
    let on = k.0 in
    let c = on_controls line t s invariant.authorized on in
    let declared = invariant.motion.declared on in
    let mark = length (journey line t s) - 1 in
    let some = controlled_some line t s invariant.authorized c invariant.motion in
    let m = marks_stay line s e one a t invariant mark on (omega (arith, some)) in
    let p : place_at t (clock s) (x ∷ s) ≡ head t s =
    place_stays line t (clock s) s e a invariant.motion declared (omega arith) ∙ (invariant.motion.now_place ∙ place_on line t s invariant.authorized invariant.motion c on) in
    let f = error_stays t x s declared in
    let ends = off_ends (step_begin line t s mark) (head t s) (head_offset line t s) (error_of t s) offset off.1 (head_place line t s invariant.authorized invariant.motion c) in
    let least = ends.0 in
    let most = ends.1 in
    record {
      on = entered_stays t x s on;
      reached = m.0;
      least = rw (m.1, p, f) least;
      most = rw (m.1, p, f) most;
    }

unreported : (line : Line) (s : Story) (e : Event) (t : ℕ) → reports e ≡ false → AllIn (ReportTrue line t (effects line s e ∷ s)) (effects line s e).issued
unreported line s e t h =
    in_all_weaker (λ m. is_report m ≡ false) (ReportTrue line t (effects line s e ∷ s)) (no_report line t (effects line s e ∷ s)) (effects line s e).issued (effect_unreported line s e h)

reported_now : (line : Line) (s : Story) (e : Event) → IsLineOfOneZone line → Admitted line s e → ((t : ℕ) → Invariant line t s) → (t : ℕ)
    → AllIn (ReportTrue line t (effects line s e ∷ s)) (effects line s e).issued
unfolding AllIn
reported_now line s (Report u z step offset whole) one a invariant t = (
  λ its. subst (λ (v : ℕ). ReportIs line v (effects line s (Report u z step offset whole) ∷ s) (clock s) (length (journey line u.0 s) - 1) offset) (eqb-true u.0 t its)
      (report_made line s u z step offset whole one a (invariant u.0)),
  tt,
)
reported_now line s e one a invariant t = unreported line s e t refl

pub reports_step : (line : Line) (s : Story) (e : Event) → IsLineOfOneZone line → Admitted line s e → Timed s → ((t : ℕ) → Invariant line t s) → (t : ℕ)
    → AllIssued (ReportTrue line t (effects line s e ∷ s)) (effects line s e ∷ s)
unfolding AllIssued
reports_step line s e one a timed invariant t = (reported_now line s e one a invariant t, reports_stay line s e one a timed t (invariant t) (invariant t).reports)
