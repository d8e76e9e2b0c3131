-- The ends of the possible fronts as numbers, and what a message that the zone takes makes of them.
use Rattle.std.proofs.Common.{◌≡◌, ℕ, ◌+◌, ◌-◌, ◌≤◌, ◌&&◌, min, take, Bool, true, false, refl, subst, ap, arith}
use Rattle.std.specs.Prelude.{ℤ, pos, ◌+ℤ◌}
use Rattle.track_points.specs.declared.ids.TrainId.{TrainId}
use Rattle.track_points.specs.Points.{total}
use Rattle.envelope.specs.declared.fronts.Fronts.{Fronts}
use Rattle.envelope.specs.Fronts.{farthest_move}
use Rattle.envelope.proofs.Range_hull.{IsRange}
use Rattle.definitions.specs.declared.message.Msg.{Msg}
use Rattle.definitions.specs.declared.message.Msg.TheVariants as msg
use Rattle.definitions.specs.Track.{Line, seg_len}
use Rattle.definitions.specs.Numbers.{first, last}
use Rattle.definitions.specs.Story.{Story}
use Rattle.definitions.specs.Control.{known_facts, now_of, now_with}
use Rattle.definitions.specs.Longest.{longest_end, longest_route}
use Rattle.definitions.specs.Fronts.{possible_front, grown_fronts, fronts_behind, reported, rear_of, is_used, least_rear, greatest_front}
use Rattle.definitions.specs.Zones.{zone_id}
use Rattle.envelope.specs.Ends.{least_left, greatest_left, narrowed}
use Rattle.journey_laws.proofs.Invariant.{FrontsAre}
use Rattle.std.specs.Int.Signed.{le_z}
use Rattle.std.specs.Prelude.{nat_eq}
use Rattle.list_laws.proofs.By_test.{by_test}
use Rattle.definitions.specs.World.{journey}
use Rattle.definitions.specs.Account.{Account, takes_shrink}
use Rattle.definitions.specs.Fold.{account, by_answer}
use Rattle.step_laws.proofs.Report_ruled.{report_ends, report_ruled}
use Rattle.step_laws.proofs.Ruled_is.{range_first, range_last, range_grown}

-- fronts of a train, as a test, with these ends: a range, its first and its last number, and the rear at the first
pub record Numbered (line : Line) (t : ℕ) (s : Story) (test : ℕ → Bool) (lo hi : ℕ) : Type 0 where
  pub is : IsRange test lo hi
  pub ordered : lo ≤ hi
  pub within : hi ≤ longest_end line t s
  pub least : first test (longest_end line t s + 1) ≡ lo
  pub greatest : last test (longest_end line t s + 1) ≡ hi
  pub rear : rear_of line (zone_id line) t s test ≡ lo - (known_facts (zone_id line) t s).long

pub numbered : (line : Line) (t : ℕ) (s : Story) (test : ℕ → Bool) (lo hi : ℕ) → IsRange test lo hi → lo ≤ hi → hi ≤ longest_end line t s → Numbered line t s test lo hi
numbered line t s test lo hi r o h =
    let f = range_first test lo hi (longest_end line t s + 1) r o (omega (arith, h)) in
    record {
      is = r;
      ordered = o;
      within = h;
      least = f;
      greatest = range_last test lo hi (longest_end line t s + 1) r o (omega (arith, h));
      rear = ap (λ (n : ℕ). n - (known_facts (zone_id line) t s).long) f;
    }

-- so that the least rear is the least less the length, and the greatest front the greatest
pub fronts_numbers : (line : Line) (t : ℕ) (s : Story) (f : FrontsAre line t s) → Numbered line t s (possible_front line (zone_id line) t s) f.lo f.hi
fronts_numbers line t s f = numbered line t s (possible_front line (zone_id line) t s) f.lo f.hi (record { is = f.is }) f.ordered f.within

pub least_rear_is : (line : Line) (t : ℕ) (s : Story) (f : FrontsAre line t s) → least_rear line (zone_id line) t s ≡ f.lo - (known_facts (zone_id line) t s).long
least_rear_is line t s f = (fronts_numbers line t s f).rear

pub greatest_front_is : (line : Line) (t : ℕ) (s : Story) (f : FrontsAre line t s) → greatest_front line (zone_id line) t s ≡ f.hi
greatest_front_is line t s f = (fronts_numbers line t s f).greatest

-- Growth.

-- where the greatest front may be after a message
abbrev pub grown_to : Line → ℕ → Story → Msg → ℕ → ℕ
grown_to line t s m hi =
    min (hi + farthest_move (known_facts (zone_id line) t s).speed (now_with (zone_id line) s m - now_of (zone_id line) s)) (longest_end line t s)

pub fronts_grown : (line : Line) (t : ℕ) (s : Story) (m : Msg) (f : FrontsAre line t s)
    → Numbered line t s (grown_fronts line (zone_id line) t s (possible_front line (zone_id line) t s) m) f.lo (grown_to line t s m f.hi)
fronts_grown line t s m f =
    let z = zone_id line in
    let o = f.ordered in
    let w = f.within in
    numbered line t s (grown_fronts line z t s (possible_front line z t s) m) f.lo (grown_to line t s m f.hi)
    (range_grown (possible_front line z t s) f.lo f.hi
    (farthest_move (known_facts z t s).speed (now_with z s m - now_of z s)) (longest_end line t s) (record { is = f.is }) o w)
    (omega (arith, o, w)) (omega arith)

-- the message is the answer that takes the shrink
abbrev pub takes_by : ℕ → Account → Msg → Bool
takes_by t v (msg.Answer u time number taken) = nat_eq u.0 t && takes_shrink number taken v
takes_by t v _ = false

unanswered : (line : Line) (t : ℕ) (s : Story) (m : Msg) (fronts : ℕ → Bool) → takes_by t (account line t s) m ≡ false
    → by_answer (seg_len line) (journey line t s) t (longest_end line t s) (account line t s) fronts m ≡ fronts
unanswered line t s (msg.Answer u time number taken) fronts n = rw n refl
unanswered line t s _ fronts n = refl

-- a message that is no used report lets the fronts grow, and does nothing else to them
pub fronts_unused : (line : Line) (t : ℕ) (s : Story) (m : Msg) (f : FrontsAre line t s)
    → is_used line (zone_id line) t s (possible_front line (zone_id line) t s) m ≡ false → takes_by t (account line t s) m ≡ false
    → Numbered line t s (fronts_behind line (zone_id line) t s (possible_front line (zone_id line) t s) m) f.lo (grown_to line t s m f.hi)
fronts_unused line t s m f h n =
    let u = unanswered line t s m (grown_fronts line (zone_id line) t s (possible_front line (zone_id line) t s) m) n in
    rw (h, u) (fronts_grown line t s m f)

-- A used report.

-- the place that a report names
abbrev pub named_place : Line → ℕ → Story → ℕ → ℤ → ℤ
named_place line t s mark offset = pos (total (seg_len line) (take mark (longest_route line t s))) +ℤ offset

-- how far the train may have moved since a report
abbrev pub moved_since : Line → ℕ → Story → Msg → ℕ → ℕ
moved_since line t s m time = farthest_move (known_facts (zone_id line) t s).speed (now_with (zone_id line) s m - time)

-- the ends of the fronts after a used report, from those before the message
abbrev pub fronts_left : Line → ℕ → Story → Msg → ℕ → ℕ → ℕ → ℕ → ℤ → Bool → Fronts
fronts_left line t s m lo hi time mark offset integrity =
    narrowed (record { lo = lo; hi = grown_to line t s m hi; at = now_with (zone_id line) s m })
    (least_left lo (named_place line t s mark offset) (known_facts (zone_id line) t s).error integrity)
    (greatest_left (grown_to line t s m hi) (named_place line t s mark offset) (known_facts (zone_id line) t s).error (moved_since line t s m time))

pub record NarrowedTo (line : Line) (t : ℕ) (s : Story) (test : ℕ → Bool) (lo hi : ℕ) (left : Fronts) : Type 0 where
  pub numbers : Numbered line t s test left.lo left.hi
  pub least : lo ≤ left.lo
  pub most : left.hi ≤ hi

pub fronts_kept : (line : Line) (t : ℕ) (s : Story) (u : TrainId) (time mark : ℕ) (offset : ℤ) (integrity : Bool) (f : FrontsAre line t s)
    → is_used line (zone_id line) t s (possible_front line (zone_id line) t s) (msg.Report u time mark offset integrity) ≡ true
    → NarrowedTo line t s (fronts_behind line (zone_id line) t s (possible_front line (zone_id line) t s) (msg.Report u time mark offset integrity))
    f.lo (grown_to line t s (msg.Report u time mark offset integrity) f.hi)
    (fronts_left line t s (msg.Report u time mark offset integrity) f.lo f.hi time mark offset integrity)
fronts_kept line t s u time mark offset integrity f h =
    let z = zone_id line in
    let m = msg.Report u time mark offset integrity in
    let g = fronts_grown line t s m f in
    let n = report_ruled (named_place line t s mark offset) (known_facts z t s).error (moved_since line t s m time) integrity f.lo (grown_to line t s m f.hi) (longest_end line t s)
    (grown_fronts line z t s (possible_front line z t s) m) g.is g.ordered g.within in
    let e = ends_same f.lo (grown_to line t s m f.hi) (now_with z s m) (least_left f.lo (named_place line t s mark offset) (known_facts z t s).error integrity)
    (greatest_left (grown_to line t s m f.hi) (named_place line t s mark offset) (known_facts z t s).error (moved_since line t s m time)) in
    let e0 = e.0 in
    let e1 = e.1 in
    let o = n.ordered in
    let left = fronts_left line t s m f.lo f.hi time mark offset integrity in
    let a = n.least in
    let b = n.most in
    let w = g.within in
    rw h (record {
      numbers = numbered line t s (reported line z t s (grown_fronts line z t s (possible_front line z t s) m) m) left.lo left.hi
          (subst (λ (x : ℕ). IsRange (reported line z t s (grown_fronts line z t s (possible_front line z t s) m) m) x left.hi) e0
          (subst (λ (x : ℕ). IsRange (reported line z t s (grown_fronts line z t s (possible_front line z t s) m) m) (report_ends (named_place line t s mark offset) (known_facts z t s).error (moved_since line t s m time) integrity f.lo (grown_to line t s m f.hi)).lo x) e1 n.is))
          (omega (arith, o, e0, e1)) (omega (arith, b, w, e1));
      least = omega (arith, a, e0);
      most = omega (arith, b, e1);
    })
  where
    ends_same : (lo hi at : ℕ) (a b : ℤ) → ((narrowed (record { lo = lo; hi = hi; at = 0 }) a b).lo ≡ (narrowed (record { lo = lo; hi = hi; at = at }) a b).lo)
        × ((narrowed (record { lo = lo; hi = hi; at = 0 }) a b).hi ≡ (narrowed (record { lo = lo; hi = hi; at = at }) a b).hi)
    ends_same lo hi at a b = by_test (le_z a b) (λ y. rw y (refl, refl)) (λ n. rw n (refl, refl))
