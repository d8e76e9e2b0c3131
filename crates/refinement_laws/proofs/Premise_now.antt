-- An event is built, within the limit on trains and keeps its premises by the plain state exactly where it does by the story.
use Rattle.std.proofs.Common.{◌≡◌, ℕ, ◌+◌, ◌-◌, ◌≤◌, List, length, Option, Bool, true, false, ◌&&◌, ◌||◌, refl, sym, ◌∙◌, ap, arith, not, if◌then◌else◌}
use Rattle.std.proofs.lemmas.Bool.Decides.{nat_tests}
use Rattle.std.proofs.Math.Bool.{and-true}
use Rattle.std.proofs.Math.Path.{fun_ext}
use Rattle.std.specs.Prelude.{ℤ, pos, ◌-ℤ◌, nat_eq, nat_le, nat_lt}
use Rattle.std.specs.List.{list_all}
use Rattle.std.specs.Int.Signed.{le_z}
use Rattle.list_laws.proofs.By_test.{by_test}
use Rattle.track_points.specs.declared.ids.DirSeg.{DirSeg}
use Rattle.track_points.specs.declared.ids.TrainId.{TrainId}
use Rattle.track_points.specs.Points.{step_eq}
use Rattle.envelope.specs.Fronts.{farthest_move}
use Rattle.definitions.specs.declared.event.Event.{Event}
use Rattle.definitions.specs.declared.event.Event.TheVariants.{Train, Entry, Enter, Ask, Step, Report, Time, Shorten, Take, Noise}
use Rattle.definitions.specs.declared.message.Msg.{Msg}
use Rattle.definitions.specs.Track.{Line, ranged, has_zone, begins_at_portal, last_step}
use Rattle.definitions.specs.Numbers.{least}
use Rattle.definitions.specs.Premises.{is_equipped, on_line, known_train, ascending, built, too_many, off_by, head_offset, reports_rightly, can_move, moves_rightly, may_move, stops_rightly, same_portal, enters_rightly, takes_rightly, premise_of}
use Rattle.definitions.specs.Story.{Story}
use Rattle.definitions.specs.World.{error_of, entered, head, journey, limit_place}
use Rattle.definitions.specs.Safe.{IsLineOfOneZone}
use Rattle.plain_state.specs.declared.Head.{Head}
use Rattle.plain_state.specs.World.{find_train, authorized_found, error_found}
use Rattle.plain_state.specs.Plain.{Plain}
use Rattle.plain_state.specs.Admits.{is_known, plain_built, plain_too_many, reports_head, world_reports, can_move_found, world_moves, may_move_found, world_stops, world_enters, hears_noise, plain_takes, plain_premise}
use Rattle.plain_state.specs.Refinement.{head_of, Refines}
use Rattle.journey_laws.proofs.Invariant.{Invariant}
use Rattle.refinement_laws.proofs.Facts_is.{declared_is, entry_is, authorized_is, head_is, on_is, room_is, error_is, speed_is}

module _ (line : Line) (s : Story) (p : Plain) (k : Refines line s p) (invariant : (t : ℕ) → Invariant line t s) where
  known_now : (x : TrainId × ℕ) → known_train s x ≡ is_known p x
  known_now x = sym (declared_is line s p k invariant x.0.0)

  pub built_now : (e : Event) → built line s e ≡ plain_built line p e
  built_now (Train u long error speed kind) = ap (λ (b : Bool). ranged 1 65535 u.0 && (ranged 1 1000000 long && (nat_lt error long && (ranged 1 60000 speed && (not b && is_equipped kind))))) (sym (declared_is line s p k invariant u.0))
  built_now (Entry u step) = ap (λ (b : Bool). b && begins_at_portal line step) (sym (declared_is line s p k invariant u.0))
  built_now (Enter u) = sym (declared_is line s p k invariant u.0)
  built_now (Ask u z steps to) = ap (λ (b : Bool). b && (has_zone line z.0 && (ranged 1 24 (length steps.items) && (list_all (on_line line) steps.items && ranged 1 10000000 to)))) (sym (declared_is line s p k invariant u.0))
  built_now (Step ms moves) = ap (λ (f : TrainId × ℕ → Bool). ranged 1 60000 ms && (ascending 0 moves.items && list_all f moves.items)) (fun_ext known_now)
  built_now (Report u z step offset whole) = ap (λ (b : Bool). b && (has_zone line z.0 && (on_line line step && (le_z (pos 0 -ℤ pos 1000000) offset && le_z offset (pos 11000000))))) (sym (declared_is line s p k invariant u.0))
  built_now (Time z u) = ap (λ (b : Bool). has_zone line z.0 && (nat_eq u.0 0 || b)) (sym (declared_is line s p k invariant u.0))
  built_now (Shorten z u st off) = ap (λ (b : Bool). has_zone line z.0 && (b && (on_line line st && ranged 1 10000000 off))) (sym (declared_is line s p k invariant u.0))
  built_now _ = refl

  pub too_many_now : (e : Event) → too_many s e ≡ plain_too_many p e
  too_many_now (Train u long error speed kind) = ap (λ (n : ℕ). nat_le 256 n) (sym k.count)
  too_many_now _ = refl

  head_reported : (t : ℕ) (step : DirSeg) (offset : ℤ)
      → (entered t s && (step_eq step (last_step (journey line t s)) && off_by (error_of t s) (head_offset line t s) offset)) ≡ reports_head (error_of t s) step offset (head_of line t s)
  head_reported t step offset = by_test (entered t s)
      (λ y. rw y refl)
      (λ n. rw n refl)

  reports_now : (e : Event) → reports_rightly line s e ≡ world_reports p.world e
  reports_now (Report u z step offset whole) =
      head_reported u.0 step offset
      ∙ (ap (λ (n : ℕ). reports_head n step offset (head_of line u.0 s)) (sym (error_is line s p k invariant u.0))
      ∙ ap (λ (h : Option Head). reports_head (error_found (find_train u.0 p.world.trains)) step offset h) (sym (head_is line s p k invariant u.0)))
  reports_now _ = refl

  moves_now : (e : Event) → moves_rightly s e ≡ world_moves p.world e
  moves_now (Step ms moves) = ap (λ (f : TrainId × ℕ → Bool). list_all f moves.items) (fun_ext (can ms))
    where
      can : (ms : ℕ) (x : TrainId × ℕ) → can_move ms s x ≡ can_move_found ms p.world.trains x
      can ms x = ap (λ (v : ℕ). nat_le x.1 (farthest_move v ms)) (sym (speed_is line s p k invariant x.0.0))
  moves_now _ = refl

  may_now : (x : TrainId × ℕ) → may_move line s x ≡ may_move_found p.world.trains x
  may_now x =
      let on = on_is line s p k invariant x.0.0 in
      by_test (entered x.0.0 s)
      (λ y.
      let r = room_is line s p k invariant x.0.0 ((invariant x.0.0).motion.declared y) in
      rw (on, y, r) (left (head x.0.0 s) x.1 (limit_place line x.0.0 s) (((invariant x.0.0).authorized.limit y).ahead)))
      (λ n. rw (on, n) refl)
    where
      left : (a b c : ℕ) → a ≤ c → nat_le (a + b) c ≡ nat_le b (c - a)
      left a b c h = grind (arith, nat_tests)

  stops_now : (e : Event) → stops_rightly line s e ≡ world_stops p.world e
  stops_now (Step ms moves) = ap (λ (f : TrainId × ℕ → Bool). list_all f moves.items) (fun_ext may_now)
  stops_now _ = refl

  enters_now : (e : Event) → enters_rightly s e ≡ world_enters p.world e
  enters_now (Entry u step) = ap (λ (x : Option DirSeg). same_portal step x) (sym (entry_is line s p k invariant u.0))
  enters_now (Enter u) =
      ap (λ (b : Bool). b && not (entered u.0 s)) (sym (authorized_is line s p k invariant u.0))
      ∙ ap (λ (b : Bool). authorized_found (find_train u.0 p.world.trains) && not b) (sym (on_is line s p k invariant u.0))
  enters_now _ = refl

  module _ (l : IsLineOfOneZone line) where
    takes_now : (e : Event) → built line s e ≡ true → takes_rightly s e ≡ (hears_noise e && plain_takes p e)
    takes_now (Take to from number) h = ap (λ (xs : List Msg). nat_lt 0 number && nat_le number (length xs)) (sym (k.links from to h))
    takes_now (Noise to from bytes) h = sym (and-true (hears_noise (Noise to from bytes)))
    takes_now _ h = refl

    pub premise_now : (e : Event) → built line s e ≡ true → premise_of line s e ≡ plain_premise p e
    unfolding least
    premise_now e h =
        ap (λ (b : Bool). premise_by b (moves_rightly s e) (stops_rightly line s e) (enters_rightly s e) (takes_rightly s e)) (reports_now e)
        ∙ (ap (λ (b : Bool). premise_by (world_reports p.world e) b (stops_rightly line s e) (enters_rightly s e) (takes_rightly s e)) (moves_now e)
        ∙ (ap (λ (b : Bool). premise_by (world_reports p.world e) (world_moves p.world e) b (enters_rightly s e) (takes_rightly s e)) (stops_now e)
        ∙ (ap (λ (b : Bool). premise_by (world_reports p.world e) (world_moves p.world e) (world_stops p.world e) b (takes_rightly s e)) (enters_now e)
        ∙ (ap (λ (b : Bool). premise_by (world_reports p.world e) (world_moves p.world e) (world_stops p.world e) (world_enters p.world e) b) (takes_now e h)
        ∙ by_six (world_reports p.world e) (world_moves p.world e) (world_stops p.world e) (world_enters p.world e) (hears_noise e) (plain_takes p e)))))
      where
        premise_by : Bool → Bool → Bool → Bool → Bool → ℕ
        premise_by a b c d f = if not a then 1 else if not b then 2 else if not c then 4 else if not d then 5 else if not f then 6 else 0

        first_by : Bool → Bool → Bool → Bool → Bool → ℕ
        first_by a b c d n = if not a then 1 else if not b then 2 else if not c then 4 else if not d then 5 else if not n then 6 else 0

        by_six : (a b c d n f : Bool) → premise_by a b c d (n && f) ≡ (if not (nat_eq (first_by a b c d n) 0) then first_by a b c d n else if not f then 6 else 0)
        by_six false b c d n f = refl
        by_six true false c d n f = refl
        by_six true true false d n f = refl
        by_six true true true false n f = refl
        by_six true true true true false f = refl
        by_six true true true true true false = refl
        by_six true true true true true true = refl
