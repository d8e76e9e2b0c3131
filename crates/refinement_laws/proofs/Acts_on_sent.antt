-- Every message of a link is acted on: what is sent fits, and no number or mark is near the end of its type.
use Rattle.std.proofs.Common.{◌≡◌, ℕ, ◌+◌, ◌-◌, ◌*◌, ◌<◌, ◌≤◌, List, length, take, Option, Some, None, Bool, true, false, ◌&&◌, ◌||◌, refl, sym, ◌∙◌, ap, arith, not, if◌then◌else◌}
use Rattle.std.proofs.lemmas.Bool.Decides.{nat_tests}
use Rattle.std.proofs.lemmas.Bool.{eqb-true}
use Rattle.std.proofs.lemmas.List.{length-take-le, length-append}
use Rattle.std.specs.Prelude.{nat_eq, nat_le, nat_lt, is_some, slice_get}
use Rattle.std.specs.List.{list_all}
use Rattle.list_laws.proofs.By_test.{eq_self, by_test}
use Rattle.track_points.specs.declared.ids.Dir.{Dir}
use Rattle.track_points.specs.declared.ids.Dir.TheVariants.{Up, Down}
use Rattle.track_points.specs.declared.ids.DirSeg.{DirSeg}
use Rattle.track_points.specs.declared.path.Path.{Path}
use Rattle.track_points.specs.Points.{Lengths, dir_eq, step_eq, steps_to}
use Rattle.definitions.specs.declared.message.Msg.{Msg}
use Rattle.definitions.specs.declared.message.Msg.TheVariants as msg
use Rattle.definitions.specs.declared.message.Order.{Order}
use Rattle.definitions.specs.declared.message.Order.TheVariants as orders_
use Rattle.definitions.specs.Track.{Line, seg_len, zone_of}
use Rattle.definitions.specs.Ways.{PlainWay, way_between}
use Rattle.definitions.specs.Story.{Story, sent}
use Rattle.definitions.specs.World.{Facts, facts_or, facts_of, long_of, first_entry, entered, entry_authority, auth_number, Authority}
use Rattle.definitions.specs.Control.{controls, known_facts, last_issued}
use Rattle.definitions.specs.Longest.{counted, longest_end, longest_route}
use Rattle.definitions.specs.Authority.{way}
use Rattle.definitions.specs.Steps.{entry_path, sender_of}
use Rattle.definitions.specs.Safe.{IsLineOfOneZone}
use Rattle.plain_state.specs.declared.WorldTrain.{WorldTrain}
use Rattle.plain_state.specs.declared.Controlled.{Controlled}
use Rattle.plain_state.specs.World.{auth_fits, covers_portal, train_acts_on, world_acts_on}
use Rattle.plain_state.specs.Zone.{find_controlled, fresh_number, fresh_mark, fresh_train, fresh_message, is_own, concerns, zone_acts_on}
use Rattle.definitions.specs.Zones.{zone_id}
use Rattle.plain_state.specs.Plain.{Plain}
use Rattle.plain_state.specs.Refinement.{mm_of_entry, head_of, pace_of, onboard_of, world_of, zone_train_of, ZoneRefines, Refines}
use Rattle.event_laws.proofs.Entered_same.{number_most}
use Rattle.event_laws.proofs.Issued_all.{AllIssued, issued_all}
use Rattle.way_laws.proofs.Line_builds.{portal_on_line}
use Rattle.journey_laws.proofs.One_route.{path_parts, numbered_controls, kept_cut, journey_few}
use Rattle.way_laws.proofs.Between_points.{between_mark, between_steps}
use Rattle.journey_laws.proofs.Invariant.{path_fits, IsPath, FirstIs, AuthIs, AuthTrue, RequestTrue, Invariant}
use Rattle.plain_state.proofs.Found_changed.{all_found}
use Rattle.refinement_laws.proofs.The_zone.{the_zone}
use Rattle.journey_laws.proofs.Zone_only.{zone_is}
use Rattle.refinement_laws.proofs.Way_of.{way_of}
use Rattle.refinement_laws.proofs.Accepts_now.{range_of}
use Rattle.refinement_laws.proofs.Order_true.{IsOnLine, OrderTrue}

step_self : (st : DirSeg) → step_eq st st ≡ true
step_self st = rw (eq_self st.seg.0) (same st.dir)
  where
    same : (d : Dir) → dir_eq d d ≡ true
    same Up = refl
    same Down = refl

-- The marks of authorities.
module _ (line : Line) (s : Story) (p : Plain) (one : IsLineOfOneZone line) (k : Refines line s p) (invariant : (t : ℕ) → Invariant line t s) where
  abbrev len : Lengths
  len = seg_len line

  abbrev own : ZoneRefines line (zone_id line) s (p.zones (zone_id line))
  own = the_zone line s p one k

  pub found_train : (t : ℕ) (c : controls (zone_id line) t s ≡ true)
      → find_controlled t (p.zones (zone_id line)).trains ≡ zone_train_of line (zone_id line) t s (Some (way_between (seg_len line) (longest_route line t s) (((invariant t).fronts c).lo - (known_facts (zone_id line) t s).long) (longest_end line t s)))
  found_train t c = own.found t ∙ ap (λ (w : Option PlainWay). zone_train_of line (zone_id line) t s w) ((way_of line t s one.valid (invariant t) c).is)

  -- the steps of the way, and those before it, are all of the journey up to its end
  pub way_steps : (t : ℕ) (c : controls (zone_id line) t s ≡ true) → length (steps_to (seg_len line) (longest_route line t s) (longest_end line t s)) ≤ 24 * length s
  way_steps t c =
      let w = way_of line t s one.valid (invariant t) c in
      let order = w.order in
      let ordered = w.ordered in
      let within = w.within in
      let rear = ((invariant t).fronts c).lo - (known_facts (zone_id line) t s).long in
      let steps = longest_route line t s in
      let end = longest_end line t s in
      let before : rear < end = omega (arith, order, ordered, within) in
      let b = between_mark len steps rear end before w.room in
      let e = ap (λ (xs : List DirSeg). length xs) (between_steps len steps rear end before w.room) in
      let a = length-append (take (way_between len steps rear end).mark steps) (way_between len steps rear end).path.steps.items in
      let l = length-take-le (way_between len steps rear end).mark steps (omega (arith, b)) in
      let m = own.marks t _ (found_train t c) in
      omega (arith, e, a, l, m)

  -- a path that begins on the journey has a few more
  pub marks_few : (t : ℕ) (a : Authority) → IsPath line t s a → controls (zone_id line) t s ≡ true → a.mark + length a.path.steps.items ≤ 24 * length s + 24
  marks_few t a is c =
      let n = way_steps t c in
      let whole = ap (λ (xs : List DirSeg). length xs) (kept_cut line t s (invariant t).authorized c) in
      let few = journey_few line t s (invariant t).authorized c in
      let mark = is.mark in
      let short = (path_parts line a.path is.fits).few in
      omega (arith, n, whole, few, mark, short)

  -- The world.

  fitting : (path : Path) (mark : ℕ) → path_fits line path ≡ true → mark + length path.steps.items < 4294967296 → auth_fits line mark path ≡ true
  fitting path mark h low =
      let parts = path_parts line path h in
      let small : nat_lt (mark + length path.steps.items) 4294967296 ≡ true = grind (arith, nat_tests) in
      rw (parts.chain, parts.once, range_of line path h) small

  covers : (t : ℕ) (mark : ℕ) (path : Path) → FirstIs line t s (record { mark = mark; path = path }) → (nat_eq mark 0 && covers_portal (seg_len line) (first_entry t s) (long_of t s) path) ≡ true
  covers t mark path f =
      let m : nat_eq mark 0 ≡ true = let z = f.mark in grind (arith, nat_tests) in
      let r : nat_le (long_of t s) (len f.step.seg.0) ≡ true = let z = f.room in grind (arith, nat_tests) in
      let q : covers_portal len (first_entry t s) (long_of t s) path ≡ covers_portal len (Some f.step) (long_of t s) (entry_path f.step (len f.step.seg.0)) =
      ap (λ (e : Option DirSeg). covers_portal len e (long_of t s) path) f.first ∙ ap (λ (x : Path). covers_portal len (Some f.step) (long_of t s) x) f.path in
      rw (m, q, step_self f.step, eq_self (len f.step.seg.0), r) refl

  acts_on : (t number mark : ℕ) (path : Path) → AuthIs line t s number (record { mark = mark; path = path }) → (f : Option Facts) → facts_of t s ≡ f
      → train_acts_on (seg_len line) (world_of t f (first_entry t s) (sender_of (entry_authority t s)) (head_of line t s) (pace_of t s) (onboard_of line t s)) number mark path ≡ true
  acts_on t number mark path is None e = refl
  acts_on t number mark path is (Some f) e =
      by_test (entered t s)
      (λ on. rw on refl)
      (λ off. rw off (either (is_some (mm_of_entry len (entry_authority t s))) (nat_eq number 1) (nat_eq mark 0 && covers_portal len (first_entry t s) f.long path)
      (λ y.
      let l : long_of t s ≡ f.long = ap (λ (x : Option Facts). (facts_or x).long) e in
      ap (λ (n : ℕ). nat_eq mark 0 && covers_portal len (first_entry t s) n path) (sym l) ∙ covers t mark path (is.first off (eqb-true number 1 y)))))
    where
      either : (a b d : Bool) → (b ≡ true → d ≡ true) → (a || (not b || d)) ≡ true
      either true b d h = refl
      either false false d h = refl
      either false true d h = h refl

  module _ (short : length s < 100000000) (orders : AllIssued (OrderTrue line) s) where
    pub world_acts_on_sent : (from to j : ℕ) (m : Msg) → slice_get (sent from to s) j ≡ Some m → world_acts_on line p.world.trains m ≡ true
    world_acts_on_sent from to j (msg.Auth u number mark path) is =
        let t = u.0 in
        let a : AuthIs line t s number (record { mark = mark; path = path }) = issued_all (AuthTrue line t s) from to s j (msg.Auth u number mark path) (invariant t).authorized.auths is (eq_self t) in
        let e = eq_self t in
        let most : (if nat_eq t t then number else 0) ≤ last_issued t s = number_most (auth_number t) from to s j (msg.Auth u number mark path) is in
        let n : number ≤ last_issued t s = rw e at most in
        let b = a.positive in
        let c = numbered_controls line t s (invariant t).authorized (omega (arith, n, b)) in
        let few = marks_few t (record { mark = mark; path = path }) a.path c in
        rw (fitting path mark a.path.fits (omega (arith, few, short)))
        (ap (λ (x : Option WorldTrain). train_acts_on len x number mark path) (k.trains t) ∙ acts_on t number mark path a (facts_of t s) refl)
    world_acts_on_sent from to j _ is = refl

    -- The zone.

    low : (t : ℕ) → last_issued t s < 4294967293
    low t = let a = k.few t in omega (arith, a, short)

    fresh_of : (t : ℕ) (w : Option PlainWay) (x : Controlled) → zone_train_of line (zone_id line) t s w ≡ Some x → x.way.mark < 4294967247 → fresh_train x ≡ true
    fresh_of t None x h m = absurd cc
    fresh_of t (Some w) x h m =
        let a = (invariant t).authorized.counted_most in
        let b = low t in
        let l : fresh_number (last_issued t s) ≡ true = grind (arith, nat_tests) in
        let n : fresh_number (counted line t s) ≡ true = grind (arith, nat_tests) in
        let e1 : x.ledger.last ≡ last_issued t s = ap (λ (y : Option Controlled). last_or y) (sym h) in
        let e2 : x.ledger.answered ≡ counted line t s = ap (λ (y : Option Controlled). answered_or y) (sym h) in
        let q : fresh_mark x.way.mark ≡ true = grind (arith, nat_tests) in
        rw (e1, e2, l, n) q
      where
        last_or : Option Controlled → ℕ
        last_or None = 0
        last_or (Some y) = y.ledger.last

        answered_or : Option Controlled → ℕ
        answered_or None = 0
        answered_or (Some y) = y.ledger.answered

    fresh_trains : list_all fresh_train (p.zones (zone_id line)).trains ≡ true
    fresh_trains = all_found fresh_train (p.zones (zone_id line)).trains own.distinct (λ t x found.
        fresh_of t (way line (zone_id line) t s) x (sym (own.found t) ∙ found) (let m = own.marks t x found in omega (arith, m, short)))

    fresh_taken : (from to j : ℕ) (m : Msg) → slice_get (sent from to s) j ≡ Some m → fresh_message m ≡ true
    fresh_taken from to j (msg.Answer u time number taken) is =
        let r = issued_all (RequestTrue line u.0 s) from to s j (msg.Answer u time number taken) (invariant u.0).authorized.requests is (eq_self u.0) in
        let n = r.most in
        let c = (invariant u.0).authorized.last_most in
        let b = low u.0 in
        grind (arith, nat_tests)
    fresh_taken from to j (msg.Auth u number mark path) is =
        let t = u.0 in
        let a : AuthIs line t s number (record { mark = mark; path = path }) = issued_all (AuthTrue line t s) from to s j (msg.Auth u number mark path) (invariant t).authorized.auths is (eq_self t) in
        let e = eq_self t in
        let most : (if nat_eq t t then number else 0) ≤ last_issued t s = number_most (auth_number t) from to s j (msg.Auth u number mark path) is in
        let n : number ≤ last_issued t s = rw e at most in
        let b = a.positive in
        let c = numbered_controls line t s (invariant t).authorized (omega (arith, n, b)) in
        let few = marks_few t (record { mark = mark; path = path }) a.path c in
        let l = low t in
        let x : fresh_number number ≡ true = grind (arith, nat_tests) in
        let y : fresh_mark mark ≡ true = grind (arith, nat_tests) in
        rw (x, y) refl
    fresh_taken from to j _ is = refl

    own_order : (order : Order) → IsOnLine line order → is_own line (zone_id line) order ≡ true
    own_order (orders_.Close seg) h = let zone = zone_is line seg.0 one h in rw zone (eq_self (zone_id line))
    own_order (orders_.Open seg) h = let zone = zone_is line seg.0 one h in rw zone (eq_self (zone_id line))
    own_order _ h = refl

    concerned : (from to j : ℕ) (m : Msg) → slice_get (sent from to s) j ≡ Some m → concerns line (zone_id line) m ≡ true
    concerned from to j (msg.EntryAsk u time long error speed equipped step) is =
        let r = issued_all (RequestTrue line u.0 s) from to s j (msg.EntryAsk u time long error speed equipped step) (invariant u.0).authorized.requests is (eq_self u.0) in
        let zone : zone_of line step.seg.0 ≡ zone_id line = zone_is line step.seg.0 one (portal_on_line line step one.valid r.portal) in
        rw (r.portal, zone) (eq_self (zone_id line))
    concerned from to j (msg.Order time order) is = own_order order (issued_all (OrderTrue line) from to s j (msg.Order time order) orders is)
    concerned from to j _ is = refl

    pub zone_acts_on_sent : (from to j : ℕ) (m : Msg) → slice_get (sent from to s) j ≡ Some m → zone_acts_on line (p.zones (zone_id line)) 0 m ≡ true
    zone_acts_on_sent from to j m is =
        let here : concerns line (p.zones (zone_id line)).id m ≡ true = ap (λ (z : ℕ). concerns line z m) own.id ∙ concerned from to j m is in
        rw (here, fresh_taken from to j m is, fresh_trains) refl
