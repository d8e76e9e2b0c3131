-- Events whose lists were filled in their place, and reports.
use Rattle.std.proofs.Common.{◌≡◌, ℕ, ◌-◌, ◌≤◌, ℤ, List, [], ◌∷◌, length, take, drop, Bool, true, false, nat_eq, nat_le, slice_index_or, Result, Ok, Err, refl, sym, ap, subst, ◌∙◌, arith}
use Rattle.std.proofs.lemmas.List.{take_all}
use Rattle.std.proofs.lemmas.Bool.Decides.{nat_tests}
use Rattle.std.proofs.lemmas.Int.{to_z-of_z}
use mir.Val.{SFits, to_z, of_z}
use mir.Syntax.{w32}
use Rattle.arrayvec.specs.ArrayVec.{ArrayVec}
use Rattle.track_points.specs.declared.ids.TrainId.{TrainId}
use Rattle.track_points.specs.declared.ids.ZoneId.{ZoneId}
use Rattle.track_points.specs.declared.ids.DirSeg.{DirSeg}
use Rattle.definitions.specs.Track.{Line, ranged}
use Rattle.definitions.specs.declared.event.Event.{Event}
use Rattle.definitions.specs.declared.event.Event.TheVariants as is
use Rattle.definitions.specs.declared.document.EventLine.{EventLine}
use Rattle.definitions.specs.declared.document.EventLine.TheVariants as tells
use Rattle.definitions.specs.EventFields.{tried, names_train, names_zone, names_segment, is_offset, offset_of, step_of, train_id, and_ms, and_asks, moves_of, asked_of, step_event_of, ask_of, report_of}
use Rattle.script_text.specs.Sees.{Makes, Puts, PutsAsked}

-- a field that is not refused
made_by : {U : Type 0} (u : U) (new : EventLine) (b : Bool) (k : ℕ) (r : Result Event ℕ) → b ≡ true → Makes (Ok u) new r → Makes (Ok u) new (tried b k r)
made_by u new true k r e h = h
made_by u new false k r e h = absurd (wrong e)
  where
    wrong : false ≡ true → ⊥
    wrong q = cc

moves_by : {U : Type 0} (u : U) (ms : ℕ) (moves : ArrayVec (TrainId × ℕ)) (code : ℕ) (r : Result (List (TrainId × ℕ)) ℕ) → code ≡ 0 → Puts [] moves.items code r → Makes (Ok u) (tells.Event (is.Step ms moves)) (and_ms ms r)
moves_by u ms moves code (Ok more) z h = ap (λ xs. tells.Event (is.Step ms (record { items = xs }))) h.1
moves_by u ms moves code (Err k) z h = absurd (omega (arith, z, h.0, h.1))

pub step_here : {U : Type 0} (u : U) (trains vs : List ℕ) (ms : ℕ) (old : List (TrainId × ℕ)) (moves : ArrayVec (TrainId × ℕ)) (code : ℕ) → 1 ≤ length vs → ranged 1 60000 (slice_index_or vs 0 0) ≡ true → ms ≡ slice_index_or vs 0 0 → old ≡ [] → code ≡ 0 → Puts old moves.items code (moves_of trains 256 0 2 (take (length vs - 1) (drop 1 vs))) → Makes (Ok u) (tells.Event (is.Step ms moves)) (step_event_of trains vs)
step_here u trains [] ms old moves code le n e o z h = absurd (omega arith)
step_here u trains (v ∷ vs) ms old moves code le n e o z h =
    let all : take (length (v ∷ vs) - 1) vs ≡ vs = take_all (length (v ∷ vs) - 1) vs (omega arith) in
    let put = subst (λ xs. Puts xs moves.items code (moves_of trains 256 0 2 (take (length (v ∷ vs) - 1) vs))) o h in
    let k = subst (λ xs. Puts [] moves.items code (moves_of trains 256 0 2 xs)) all put in
    subst (λ n. Makes (Ok u) (tells.Event (is.Step n moves)) (step_event_of trains (v ∷ vs))) (sym e)
    (made_by u (tells.Event (is.Step v moves)) (ranged 1 60000 v) 1 (and_ms v (moves_of trains 256 0 2 vs)) n (moves_by u v moves code (moves_of trains 256 0 2 vs) z k))

asks_by : {U : Type 0} (u : U) (t z to : ℕ) (steps : ArrayVec DirSeg) (code : ℕ) (r : Result (List DirSeg × ℕ) ℕ) → code ≡ 0 → PutsAsked [] steps.items to code r → Makes (Ok u) (tells.Event (is.Ask (train_id t) (record { 0 = z }) steps to)) (and_asks t z r)
asks_by u t z to steps code (Ok x) c h =
    ap (λ xs. tells.Event (is.Ask (train_id t) (record { 0 = z }) (record { items = xs }) to)) h.1 ∙ ap (λ n. tells.Event (is.Ask (train_id t) (record { 0 = z }) (record { items = x.0 }) n)) h.2
asks_by u t z to steps code (Err k) c h = absurd (omega (arith, c, h.0, h.1))

pub record Lent (e : Event) (t z : ℕ) (by : TrainId) (at : ZoneId) (empty old : ArrayVec DirSeg) : Type 0 where
  pub train : by.0 ≡ t
  pub zone : at.0 ≡ z
  pub steps : old ≡ empty

-- the event whose parts were lent
pub lent : (e : Event) (t z n m : ℕ) (train : TrainId) (zone : ZoneId) (empty old : ArrayVec DirSeg) → tells.Event (is.Ask (train_id t) (record { 0 = z }) empty n) ≡ tells.Event e → e ≡ is.Ask train zone old m → Lent e t z train zone empty old
lent e t z n m train zone empty old h k = record { train = cc; zone = cc; steps = cc }

pub ask_here : {U : Type 0} (u : U) (line : Line) (trains vs : List ℕ) (train : TrainId) (zone : ZoneId) (to : ℕ) (old : List DirSeg) (steps : ArrayVec DirSeg) (code : ℕ) → 2 ≤ length vs → names_train trains (slice_index_or vs 0 0) ≡ true → names_zone line (slice_index_or vs 1 0) ≡ true → train.0 ≡ slice_index_or vs 0 0 → zone.0 ≡ slice_index_or vs 1 0 → old ≡ [] → code ≡ 0 → PutsAsked old steps.items to code (asked_of line 3 (take (length vs - 2) (drop 2 vs))) → Makes (Ok u) (tells.Event (is.Ask train zone steps to)) (ask_of line trains vs)
ask_here u line trains [] train zone to old steps code le a b e f o c h = absurd (omega arith)
ask_here u line trains (t ∷ []) train zone to old steps code le a b e f o c h = absurd (omega arith)
ask_here u line trains (t ∷ z ∷ vs) train zone to old steps code le a b e f o c h =
    let all : take (length (t ∷ z ∷ vs) - 2) vs ≡ vs = take_all (length (t ∷ z ∷ vs) - 2) vs (omega arith) in
    let put = subst (λ xs. PutsAsked xs steps.items to code (asked_of line 3 (take (length (t ∷ z ∷ vs) - 2) vs))) o h in
    let k = subst (λ xs. PutsAsked [] steps.items to code (asked_of line 3 xs)) all put in
    subst (λ n. Makes (Ok u) (tells.Event (is.Ask (train_id n) zone steps to)) (ask_of line trains (t ∷ z ∷ vs))) (sym e)
    (subst (λ n. Makes (Ok u) (tells.Event (is.Ask (train_id t) (record { 0 = n }) steps to)) (ask_of line trains (t ∷ z ∷ vs))) (sym f)
    (made_by u (tells.Event (is.Ask (train_id t) (record { 0 = z }) steps to)) (names_train trains t) 1 (tried (names_zone line z) 2 (and_asks t z (asked_of line 3 vs))) a
    (made_by u (tells.Event (is.Ask (train_id t) (record { 0 = z }) steps to)) (names_zone line z) 2 (and_asks t z (asked_of line 3 vs)) b
    (asks_by u t z to steps code (asked_of line 3 vs) c k))))

-- the same of a step
pub lent_moves : (e : Event) (n m : ℕ) (empty old : ArrayVec (TrainId × ℕ)) → tells.Event (is.Step n empty) ≡ tells.Event e → e ≡ is.Step m old → old ≡ empty
lent_moves e n m empty old h k = cc

-- a report, whose offset was a number of the machine
pub report_here : {U : Type 0} (u : U) (line : Line) (trains vs : List ℕ) (step : DirSeg) (off : ℤ) → length vs ≡ 6 → names_train trains (slice_index_or vs 0 0) ≡ true → names_zone line (slice_index_or vs 1 0) ≡ true → names_segment line (slice_index_or vs 2 0) ≡ true → slice_index_or vs 5 0 ≤ 1 → step ≡ step_of (slice_index_or vs 2 0) (slice_index_or vs 3 0) → (is_offset (slice_index_or vs 4 0) ≡ true) × (off ≡ offset_of (slice_index_or vs 4 0)) → SFits w32 off → Makes (Ok u) (tells.Event (is.Report (train_id (slice_index_or vs 0 0)) (record { 0 = slice_index_or vs 1 0 }) step (to_z w32 (of_z w32 off)) (nat_eq (slice_index_or vs 5 0) 1))) (report_of line trains vs)
report_here u line trains (t ∷ z ∷ s ∷ sign ∷ off ∷ flag ∷ []) step o e a b d small st h fits =
    let event = λ (at : DirSeg) (n : ℤ). is.Report (train_id t) (record { 0 = z }) at n (nat_eq flag 1) in
    let new = tells.Event (event step (to_z w32 (of_z w32 o))) in
    let same : new ≡ tells.Event (event (step_of s sign) (offset_of off)) = ap (λ n. tells.Event (event step n)) (to_z-of_z w32 o fits ∙ h.1) ∙ ap (λ at. tells.Event (event at (offset_of off))) st in
    let read = Ok (event (step_of s sign) (offset_of off)) in
    let five = tried (nat_le flag 1) 5 read in
    made_by u new (names_train trains t) 1 (tried (names_zone line z) 2 (tried (names_segment line s) 3 (tried (is_offset off) 4 five))) a
    (made_by u new (names_zone line z) 2 (tried (names_segment line s) 3 (tried (is_offset off) 4 five)) b
    (made_by u new (names_segment line s) 3 (tried (is_offset off) 4 five) d
    (made_by u new (is_offset off) 4 five h.0
    (made_by u new (nat_le flag 1) 5 read (grind (arith, nat_tests)) same))))
report_here u line trains vs step o e a b d small st h fits = absurd (omega arith)
