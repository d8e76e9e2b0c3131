-- Events and the values that they were made from.
use Rattle.std.proofs.Common.{◌≡◌, ◌≢◌, ℕ, pos, negsuc, ◌-ℤ◌, zero, suc, ◌+◌, ◌-◌, ◌<◌, ◌≤◌, List, [], ◌∷◌, length, drop, Bool, true, false, if◌then◌else◌, nat_eq, nat_lt, nat_le, Result, Ok, Err, refl, sym, ap, subst, ◌∙◌, arith}
use Rattle.std.proofs.lemmas.Bool.Decides.{nat_tests}
use Rattle.std.proofs.Math.IntN.{+ℤ_idl}
use Rattle.track_points.specs.declared.ids.TrainId.{TrainId}
use Rattle.track_points.specs.declared.ids.DirSeg.{DirSeg}
use Rattle.text_forms.specs.declared.part.Part.TheVariants.{Number, Sign, FirstByte, Byte}
use Rattle.text_forms.specs.Forms.{Fit, PartFits, times, number_limit, Says}
use Rattle.form_codec.proofs.Spelling_one.{fit_length}
use Rattle.form_codec.proofs.Says_short.{times_length}
use Rattle.definitions.specs.Track.{Line}
use Rattle.definitions.specs.ItemText.{sign_value}
use Rattle.definitions.specs.ItemReading.{dir_of}
use Rattle.definitions.specs.declared.event.Event.{Event}
use Rattle.definitions.specs.declared.event.Event.TheVariants as is
use Rattle.definitions.specs.EventText.{event_forms, event_place, event_values, kind_value, keep_value, flag_value, offset_value, step_values, move_values}
use Rattle.definitions.specs.EventFields.{tried, kind_of, keep_of, offset_of, step_of, train_id, and_step, and_move, and_ms, and_asks, asked_of, moves_of, train_of, entry_of, enter_of, step_event_of, report_of, detect_of, scan_of, time_of, ask_of, close_of, open_of, turn_of, set_of, shorten_of, echo_of, leave_of, take_of, deliver_of, restart_of, keep_fail_of, noise_of, round_of, lost_of, event_of}
use Rattle.script_text.specs.Sees.{AllBytes, HasRoom}

-- a field that was not refused

tried_ok : {A : Type 0} (b : Bool) (k : ℕ) (r : Result A ℕ) (e : A) → tried b k r ≡ Ok e → r ≡ Ok e
tried_ok true k r e h = h
tried_ok false k r e h = absurd cc

tried_test : {A : Type 0} (b : Bool) (k : ℕ) (r : Result A ℕ) (e : A) → tried b k r ≡ Ok e → b ≡ true
tried_test true k r e h = refl
tried_test false k r e h = absurd cc

same : {A : Type 0} (x e : A) → ◌≡◌ {A = Result A ℕ} (Ok x) (Ok e) → x ≡ e
same x e h = cc

-- an event of a form's place and values
pub record Made (i : ℕ) (vs : List ℕ) (x : Event) : Type 0 where
  pub place : event_place x ≡ i
  pub values : event_values x ≡ vs

made_by : (i : ℕ) (vs : List ℕ) (y x : Event) → event_place y ≡ i → event_values y ≡ vs → ◌≡◌ {A = Result Event ℕ} (Ok y) (Ok x) → Made i vs x
made_by i vs y x p v h = subst (Made i vs) (same y x h) (record { place = p; values = v })

-- signs, words and offsets

sign_again : (v : ℕ) → v < 2 → sign_value (dir_of v) ≡ v
sign_again zero h = refl
sign_again (suc zero) h = refl
sign_again (suc (suc v)) h = absurd (omega arith)

kind_again : (v : ℕ) → v < 2 → kind_value (kind_of v) ≡ v
kind_again zero h = refl
kind_again (suc zero) h = refl
kind_again (suc (suc v)) h = absurd (omega arith)

keep_again : (v : ℕ) → v < 3 → keep_value (keep_of v) ≡ v
keep_again zero h = refl
keep_again (suc zero) h = refl
keep_again (suc (suc zero)) h = refl
keep_again (suc (suc (suc v))) h = absurd (omega arith)

flag_small : (v : ℕ) → v ≤ 1 → flag_value (nat_eq v 1) ≡ v
flag_small zero h = refl
flag_small (suc zero) h = refl
flag_small (suc (suc v)) h = absurd (omega arith)

flag_again : (v : ℕ) → nat_le v 1 ≡ true → flag_value (nat_eq v 1) ≡ v
flag_again v h = flag_small v (grind (arith, nat_tests))

negative : (d : ℕ) → pos 0 -ℤ pos (suc d) ≡ negsuc d
negative d = +ℤ_idl (negsuc d)

negative_again : (v d : ℕ) → number_limit ≤ v → v ≢ number_limit → v - number_limit ≡ d → offset_value (pos 0 -ℤ pos d) ≡ v
negative_again v zero h n e = absurd (n (omega arith))
negative_again v (suc d) h n e =
    let m : number_limit + suc d ≡ v = omega arith in
    ap offset_value (negative d) ∙ m

offset_by : (v : ℕ) (b : Bool) → nat_lt v number_limit ≡ b → v ≢ number_limit → offset_value (if b then pos v else pos 0 -ℤ pos (v - number_limit)) ≡ v
offset_by v true e n = refl
offset_by v false e n = negative_again v (v - number_limit) (grind (arith, nat_tests)) n refl

offset_again : (v : ℕ) → v ≢ number_limit → offset_value (offset_of v) ≡ v
offset_again v n = offset_by v (nat_lt v number_limit) refl n

-- forms without lists

train_made : (trains : List ℕ) (vs text : List ℕ) (x : Event) → Says event_forms 0 vs text → train_of trains vs ≡ Ok x → Made 0 vs x
unfolding Says event_forms Fit PartFits
train_made trains (t ∷ len ∷ err ∷ v ∷ kind ∷ []) text x s h =
    made_by 0 (t ∷ len ∷ err ∷ v ∷ kind ∷ []) (is.Train (train_id t) len err v (kind_of kind)) x refl
    (ap (λ m. t ∷ len ∷ err ∷ v ∷ m ∷ []) (kind_again kind s.fit.1.1.1.1.0))
    (tried_ok _ 4 _ x (tried_ok _ 3 _ x (tried_ok _ 2 _ x (tried_ok _ 1 _ x h))))
train_made trains vs text x _ h = absurd cc

entry_made : (line : Line) (trains : List ℕ) (vs text : List ℕ) (x : Event) → Says event_forms 1 vs text → entry_of line trains vs ≡ Ok x → Made 1 vs x
unfolding Says event_forms Fit PartFits
entry_made line trains (t ∷ s ∷ sign ∷ []) text x q h =
    made_by 1 (t ∷ s ∷ sign ∷ []) (is.Entry (train_id t) (step_of s sign)) x refl
    (ap (λ m. t ∷ s ∷ m ∷ []) (sign_again sign q.fit.1.1.0))
    (tried_ok _ 2 _ x (tried_ok _ 1 _ x h))
entry_made line trains vs text x _ h = absurd cc

enter_made : (trains : List ℕ) (vs : List ℕ) (x : Event) → enter_of trains vs ≡ Ok x → Made 2 vs x
enter_made trains (t ∷ []) x h = made_by 2 (t ∷ []) (is.Enter (train_id t)) x refl refl (tried_ok _ 1 _ x h)
enter_made trains vs x h = absurd cc

report_made : (line : Line) (trains : List ℕ) (vs text : List ℕ) (x : Event) → Says event_forms 4 vs text → report_of line trains vs ≡ Ok x → Made 4 vs x
unfolding Says event_forms Fit PartFits
report_made line trains (t ∷ z ∷ s ∷ sign ∷ off ∷ flag ∷ []) text x q h =
    let four = tried_ok _ 4 _ x (tried_ok _ 3 _ x (tried_ok _ 2 _ x (tried_ok _ 1 _ x h))) in
    made_by 4 (t ∷ z ∷ s ∷ sign ∷ off ∷ flag ∷ []) (is.Report (train_id t) (record { 0 = z }) (step_of s sign) (offset_of off) (nat_eq flag 1)) x refl
    (ap (λ m. t ∷ z ∷ s ∷ m ∷ offset_value (offset_of off) ∷ flag_value (nat_eq flag 1) ∷ []) (sign_again sign q.fit.1.1.1.0)
    ∙ (ap (λ m. t ∷ z ∷ s ∷ sign ∷ m ∷ flag_value (nat_eq flag 1) ∷ []) (offset_again off q.fit.1.1.1.1.0.1)
    ∙ ap (λ m. t ∷ z ∷ s ∷ sign ∷ off ∷ m ∷ []) (flag_again flag (tried_test _ 5 _ x four))))
    (tried_ok _ 5 _ x four)
report_made line trains vs text x _ h = absurd cc

detect_made : (line : Line) (vs : List ℕ) (x : Event) → detect_of line vs ≡ Ok x → Made 5 vs x
detect_made line (d ∷ shown ∷ []) x h = absurd cc
detect_made line vs x h = absurd cc

scan_made : (vs : List ℕ) (x : Event) → scan_of vs ≡ Ok x → Made 6 vs x
scan_made [] x h = made_by 6 [] is.Scan x refl refl h
scan_made (v ∷ vs) x h = absurd cc

time_made : (line : Line) (trains : List ℕ) (vs : List ℕ) (x : Event) → time_of line trains vs ≡ Ok x → Made 7 vs x
time_made line trains (z ∷ t ∷ []) x h = made_by 7 (z ∷ t ∷ []) (is.Time (record { 0 = z }) (train_id t)) x refl refl (tried_ok _ 2 _ x (tried_ok _ 1 _ x h))
time_made line trains vs x h = absurd cc

close_made : (line : Line) (vs : List ℕ) (x : Event) → close_of line vs ≡ Ok x → Made 9 vs x
close_made line (s ∷ []) x h = made_by 9 (s ∷ []) (is.Close (record { 0 = s })) x refl refl (tried_ok _ 2 _ x h)
close_made line vs x h = absurd cc

open_made : (line : Line) (vs : List ℕ) (x : Event) → open_of line vs ≡ Ok x → Made 10 vs x
open_made line (s ∷ []) x h = made_by 10 (s ∷ []) (is.Open (record { 0 = s })) x refl refl (tried_ok _ 2 _ x h)
open_made line vs x h = absurd cc

turn_made : (line : Line) (vs : List ℕ) (x : Event) → turn_of line vs ≡ Ok x → Made 11 vs x
turn_made line (b ∷ sign ∷ []) x h = absurd cc
turn_made line vs x h = absurd cc

set_made : (line : Line) (vs : List ℕ) (x : Event) → set_of line vs ≡ Ok x → Made 12 vs x
set_made line (w ∷ position ∷ []) x h = absurd cc
set_made line vs x h = absurd cc

shorten_made : (line : Line) (trains : List ℕ) (vs text : List ℕ) (x : Event) → Says event_forms 13 vs text → shorten_of line trains vs ≡ Ok x → Made 13 vs x
unfolding Says event_forms Fit PartFits
shorten_made line trains (z ∷ t ∷ s ∷ sign ∷ off ∷ []) text x q h =
    made_by 13 (z ∷ t ∷ s ∷ sign ∷ off ∷ []) (is.Shorten (record { 0 = z }) (train_id t) (step_of s sign) off) x refl
    (ap (λ m. z ∷ t ∷ s ∷ m ∷ off ∷ []) (sign_again sign q.fit.1.1.1.0))
    (tried_ok _ 5 _ x (tried_ok _ 4 _ x (tried_ok _ 3 _ x (tried_ok _ 2 _ x h))))
shorten_made line trains vs text x _ h = absurd cc

echo_made : (line : Line) (vs : List ℕ) (x : Event) → echo_of line vs ≡ Ok x → Made 14 vs x
echo_made line (w ∷ []) x h = absurd cc
echo_made line vs x h = absurd cc

leave_made : (trains : List ℕ) (vs : List ℕ) (x : Event) → leave_of trains vs ≡ Ok x → Made 15 vs x
leave_made trains (t ∷ []) x h = made_by 15 (t ∷ []) (is.Leave (train_id t)) x refl refl (tried_ok _ 1 _ x h)
leave_made trains vs x h = absurd cc

take_made : (line : Line) (vs : List ℕ) (x : Event) → take_of line vs ≡ Ok x → Made 16 vs x
take_made line (to ∷ from ∷ n ∷ []) x h = made_by 16 (to ∷ from ∷ n ∷ []) (is.Take to from n) x refl refl (tried_ok _ 3 _ x (tried_ok _ 2 _ x (tried_ok _ 1 _ x h)))
take_made line vs x h = absurd cc

deliver_made : (line : Line) (vs : List ℕ) (x : Event) → deliver_of line vs ≡ Ok x → Made 17 vs x
deliver_made line (to ∷ []) x h = made_by 17 (to ∷ []) (is.Deliver to) x refl refl (tried_ok _ 1 _ x h)
deliver_made line vs x h = absurd cc

restart_made : (line : Line) (vs : List ℕ) (x : Event) → restart_of line vs ≡ Ok x → Made 18 vs x
restart_made line (z ∷ []) x h = made_by 18 (z ∷ []) (is.Restart (record { 0 = z })) x refl refl (tried_ok _ 1 _ x h)
restart_made line vs x h = absurd cc

keep_fail_made : (line : Line) (vs text : List ℕ) (x : Event) → Says event_forms 19 vs text → keep_fail_of line vs ≡ Ok x → Made 19 vs x
unfolding Says event_forms Fit PartFits
keep_fail_made line (z ∷ fault ∷ []) text x s h =
    made_by 19 (z ∷ fault ∷ []) (is.KeepFail (record { 0 = z }) (keep_of fault)) x refl
    (ap (λ m. z ∷ m ∷ []) (keep_again fault s.fit.1.0))
    (tried_ok _ 1 _ x h)
keep_fail_made line vs text x _ h = absurd cc

noise_made : (line : Line) (vs : List ℕ) (x : Event) → noise_of line vs ≡ Ok x → Made 20 vs x
noise_made line (to ∷ from ∷ bytes) x h = made_by 20 (to ∷ from ∷ bytes) (is.Noise to from (record { items = bytes })) x refl refl (tried_ok _ 2 _ x (tried_ok _ 1 _ x h))
noise_made line vs x h = absurd cc

round_made : (vs : List ℕ) (x : Event) → round_of vs ≡ Ok x → Made 21 vs x
round_made (n ∷ []) x h = made_by 21 (n ∷ []) (is.Round n) x refl refl (tried_ok _ 1 _ x h)
round_made vs x h = absurd cc

lost_made : (line : Line) (vs : List ℕ) (x : Event) → lost_of line vs ≡ Ok x → Made 22 vs x
lost_made line (from ∷ to ∷ n ∷ []) x h = made_by 22 (from ∷ to ∷ n ∷ []) (is.Lost from to n) x refl refl (tried_ok _ 3 _ x (tried_ok _ 2 _ x (tried_ok _ 1 _ x h)))
lost_made line vs x h = absurd cc

-- the moves of a step

pub record MovesAre (m : TrainId × ℕ) (r : Result (List (TrainId × ℕ)) ℕ) (moves : List (TrainId × ℕ)) : Type 0 where
  pub later : List (TrainId × ℕ)
  pub read : r ≡ Ok later
  pub all : m ∷ later ≡ moves

move_ok : (m : TrainId × ℕ) (r : Result (List (TrainId × ℕ)) ℕ) (moves : List (TrainId × ℕ)) → and_move m r ≡ Ok moves → MovesAre m r moves
move_ok m (Ok later) moves h = record { later = later; read = refl; all = same (m ∷ later) moves h }
move_ok m (Err k) moves h = absurd cc

moves_made : (trains : List ℕ) (more last k : ℕ) (vs : List ℕ) (moves : List (TrainId × ℕ)) → moves_of trains more last k vs ≡ Ok moves → move_values moves ≡ vs
unfolding moves_of move_values
moves_made trains more last k [] moves h = ap move_values (sym (same [] moves h))
moves_made trains more last k (t ∷ []) moves h = absurd cc
moves_made trains zero last k (t ∷ mm ∷ vs) moves h = absurd cc
moves_made trains (suc more) last k (t ∷ mm ∷ vs) moves h =
    let m = move_ok (train_id t, mm) (moves_of trains more t (k + 2) vs) moves (tried_ok _ (k + 1) _ moves (tried_ok _ k _ moves h)) in
    ap move_values (sym m.all) ∙ ap (λ xs. t ∷ mm ∷ xs) (moves_made trains more t (k + 2) vs m.later m.read)

step_by : (ms : ℕ) (vs : List ℕ) (r : Result (List (TrainId × ℕ)) ℕ) (x : Event) → ((moves : List (TrainId × ℕ)) → r ≡ Ok moves → move_values moves ≡ vs) → and_ms ms r ≡ Ok x → Made 3 (ms ∷ vs) x
step_by ms vs (Ok moves) x f h = made_by 3 (ms ∷ vs) (is.Step ms (record { items = moves })) x refl (ap (λ xs. ms ∷ xs) (f moves refl)) h
step_by ms vs (Err k) x f h = absurd cc

step_made : (trains : List ℕ) (vs : List ℕ) (x : Event) → step_event_of trains vs ≡ Ok x → Made 3 vs x
step_made trains (ms ∷ vs) x h = step_by ms vs (moves_of trains 256 0 2 vs) x (λ moves e. moves_made trains 256 0 2 vs moves e) (tried_ok _ 1 _ x h)
step_made trains [] x h = absurd cc

-- the steps of an ask

SignsFit : List ℕ → Type 0
SignsFit (s ∷ sign ∷ vs) = (sign < 2) × SignsFit vs
SignsFit vs = Unit {0}

signs_fit : (k n : ℕ) (vs : List ℕ) → Fit (times k (Sign ∷ Number ∷ [])) vs → SignsFit (n ∷ vs)
unfolding Fit PartFits times SignsFit
signs_fit zero n [] f = tt
signs_fit zero n (v ∷ vs) f = absurd f
signs_fit (suc k) n [] f = absurd f
signs_fit (suc k) n (sign ∷ []) f = absurd f.1
signs_fit (suc k) n (sign ∷ m ∷ vs) f = (f.0, signs_fit k m vs f.1.1)

pub record StepsAre (st : DirSeg) (r : Result (List DirSeg × ℕ) ℕ) (x : List DirSeg × ℕ) : Type 0 where
  pub later : List DirSeg × ℕ
  pub read : r ≡ Ok later
  pub all : (st ∷ later.0, later.1) ≡ x

steps_ok : (st : DirSeg) (r : Result (List DirSeg × ℕ) ℕ) (x : List DirSeg × ℕ) → and_step st r ≡ Ok x → StepsAre st r x
steps_ok st (Ok later) x h = record { later = later; read = refl; all = same (st ∷ later.0, later.1) x h }
steps_ok st (Err k) x h = absurd cc

abbrev asked_values : List DirSeg × ℕ → List ℕ
asked_values x = step_values x.0 (x.1 ∷ [])

asked_made : (line : Line) (k : ℕ) (vs : List ℕ) (x : List DirSeg × ℕ) → SignsFit vs → asked_of line k vs ≡ Ok x → asked_values x ≡ vs
unfolding asked_of step_values SignsFit
asked_made line k [] x f h = absurd cc
asked_made line k (to ∷ []) x f h = ap asked_values (sym (same ([], to) x (tried_ok _ k _ x h)))
asked_made line k (s ∷ sign ∷ vs) x f h =
    let m = steps_ok (step_of s sign) (asked_of line (k + 1) vs) x (tried_ok _ k _ x h) in
    ap asked_values (sym m.all) ∙ (ap (λ n. s ∷ n ∷ asked_values m.later) (sign_again sign f.0) ∙ ap (λ xs. s ∷ sign ∷ xs) (asked_made line (k + 1) vs m.later f.1 m.read))

ask_by : (t z : ℕ) (vs : List ℕ) (r : Result (List DirSeg × ℕ) ℕ) (x : Event) → ((y : List DirSeg × ℕ) → r ≡ Ok y → asked_values y ≡ vs) → and_asks t z r ≡ Ok x → Made 8 (t ∷ z ∷ vs) x
ask_by t z vs (Ok y) x f h = made_by 8 (t ∷ z ∷ vs) (is.Ask (train_id t) (record { 0 = z }) (record { items = y.0 }) y.1) x refl (ap (λ xs. t ∷ z ∷ xs) (f y refl)) h
ask_by t z vs (Err k) x f h = absurd cc

ask_signs : (t z n : ℕ) (vs text : List ℕ) → Says event_forms 8 (t ∷ z ∷ n ∷ vs) text → SignsFit (n ∷ vs)
unfolding Says event_forms Fit
ask_signs t z n vs text s = signs_fit s.count n vs s.fit.1.1.1

ask_made : (line : Line) (trains : List ℕ) (vs text : List ℕ) (x : Event) → Says event_forms 8 vs text → ask_of line trains vs ≡ Ok x → Made 8 vs x
unfolding asked_of
ask_made line trains (t ∷ z ∷ []) text x s h = absurd (bare (tried_ok _ 2 _ x (tried_ok _ 1 _ x h)))
  where
    bare : ◌≡◌ {A = Result Event ℕ} (Err 3) (Ok x) → ⊥
    bare e = cc
ask_made line trains (t ∷ z ∷ n ∷ vs) text x s h =
    ask_by t z (n ∷ vs) (asked_of line 3 (n ∷ vs)) x (λ y e. asked_made line 3 (n ∷ vs) y (ask_signs t z n vs text s) e) (tried_ok _ 2 _ x (tried_ok _ 1 _ x h))
ask_made line trains vs text x _ h = absurd cc

-- by the places of the table
pub event_made : (line : Line) (trains : List ℕ) (i : ℕ) (vs text : List ℕ) (x : Event) → Says event_forms i vs text → event_of line trains i vs ≡ Ok x → Made i vs x
unfolding event_of
event_made line trains zero vs text x s h = train_made trains vs text x s h
event_made line trains (suc zero) vs text x s h = entry_made line trains vs text x s h
event_made line trains (suc (suc zero)) vs text x s h = enter_made trains vs x h
event_made line trains (suc (suc (suc zero))) vs text x s h = step_made trains vs x h
event_made line trains (suc (suc (suc (suc zero)))) vs text x s h = report_made line trains vs text x s h
event_made line trains (suc (suc (suc (suc (suc zero))))) vs text x s h = detect_made line vs x h
event_made line trains (suc (suc (suc (suc (suc (suc zero)))))) vs text x s h = scan_made vs x h
event_made line trains (suc (suc (suc (suc (suc (suc (suc zero))))))) vs text x s h = time_made line trains vs x h
event_made line trains (suc (suc (suc (suc (suc (suc (suc (suc zero)))))))) vs text x s h = ask_made line trains vs text x s h
event_made line trains (suc (suc (suc (suc (suc (suc (suc (suc (suc zero))))))))) vs text x s h = close_made line vs x h
event_made line trains (suc (suc (suc (suc (suc (suc (suc (suc (suc (suc zero)))))))))) vs text x s h = open_made line vs x h
event_made line trains (suc (suc (suc (suc (suc (suc (suc (suc (suc (suc (suc zero))))))))))) vs text x s h = turn_made line vs x h
event_made line trains (suc (suc (suc (suc (suc (suc (suc (suc (suc (suc (suc (suc zero)))))))))))) vs text x s h = set_made line vs x h
event_made line trains (suc (suc (suc (suc (suc (suc (suc (suc (suc (suc (suc (suc (suc zero))))))))))))) vs text x s h = shorten_made line trains vs text x s h
event_made line trains (suc (suc (suc (suc (suc (suc (suc (suc (suc (suc (suc (suc (suc (suc zero)))))))))))))) vs text x s h = echo_made line vs x h
event_made line trains (suc (suc (suc (suc (suc (suc (suc (suc (suc (suc (suc (suc (suc (suc (suc zero))))))))))))))) vs text x s h = leave_made trains vs x h
event_made line trains (suc (suc (suc (suc (suc (suc (suc (suc (suc (suc (suc (suc (suc (suc (suc (suc zero)))))))))))))))) vs text x s h = take_made line vs x h
event_made line trains (suc (suc (suc (suc (suc (suc (suc (suc (suc (suc (suc (suc (suc (suc (suc (suc (suc zero))))))))))))))))) vs text x s h = deliver_made line vs x h
event_made line trains (suc (suc (suc (suc (suc (suc (suc (suc (suc (suc (suc (suc (suc (suc (suc (suc (suc (suc zero)))))))))))))))))) vs text x s h = restart_made line vs x h
event_made line trains (suc (suc (suc (suc (suc (suc (suc (suc (suc (suc (suc (suc (suc (suc (suc (suc (suc (suc (suc zero))))))))))))))))))) vs text x s h = keep_fail_made line vs text x s h
event_made line trains (suc (suc (suc (suc (suc (suc (suc (suc (suc (suc (suc (suc (suc (suc (suc (suc (suc (suc (suc (suc zero)))))))))))))))))))) vs text x s h = noise_made line vs x h
event_made line trains (suc (suc (suc (suc (suc (suc (suc (suc (suc (suc (suc (suc (suc (suc (suc (suc (suc (suc (suc (suc (suc zero))))))))))))))))))))) vs text x s h = round_made vs x h
event_made line trains (suc (suc (suc (suc (suc (suc (suc (suc (suc (suc (suc (suc (suc (suc (suc (suc (suc (suc (suc (suc (suc (suc zero)))))))))))))))))))))) vs text x s h = lost_made line vs x h
event_made line trains i vs text x _ h = absurd cc

-- the lists have room

step_room : (vs text : List ℕ) → Says event_forms 3 vs text → length vs ≤ 4096
unfolding Says event_forms
step_room vs text s =
    let g = Number ∷ Number ∷ [] in
    omega (arith, fit_length (Number ∷ times s.count g) vs s.fit, times_length s.count g, s.most)

ask_room : (vs text : List ℕ) → Says event_forms 8 vs text → length vs ≤ 51
unfolding Says event_forms
ask_room vs text s =
    let g = Sign ∷ Number ∷ [] in
    omega (arith, fit_length (Number ∷ Number ∷ Number ∷ times s.count g) vs s.fit, times_length s.count g, s.most)

noise_room : (vs text : List ℕ) → Says event_forms 20 vs text → length vs ≤ 130
unfolding Says event_forms
noise_room vs text s =
    let g = Byte ∷ [] in
    omega (arith, fit_length (Number ∷ Number ∷ FirstByte ∷ times s.count g) vs s.fit, times_length s.count g, s.most)

bytes_fit : (k : ℕ) (vs : List ℕ) → Fit (times k (Byte ∷ [])) vs → AllBytes vs
unfolding Fit PartFits times AllBytes
bytes_fit zero [] f = tt
bytes_fit zero (v ∷ vs) f = absurd f
bytes_fit (suc k) [] f = absurd f
bytes_fit (suc k) (v ∷ vs) f = (f.0, bytes_fit k vs f.1)

noise_bytes : (vs text : List ℕ) → Says event_forms 20 vs text → AllBytes (drop 2 vs)
unfolding Says event_forms Fit PartFits AllBytes
noise_bytes [] text s = absurd s.fit
noise_bytes (to ∷ []) text s = absurd s.fit.1
noise_bytes (to ∷ from ∷ []) text s = absurd s.fit.1.1
noise_bytes (to ∷ from ∷ b ∷ vs) text s = (s.fit.1.1.0, bytes_fit s.count vs s.fit.1.1.1)

pub event_fits : (i : ℕ) (vs text : List ℕ) → Says event_forms i vs text → HasRoom i vs
event_fits i vs text s = (
  λ e. step_room vs text (subst (λ n. Says event_forms n vs text) e s),
  λ e. ask_room vs text (subst (λ n. Says event_forms n vs text) e s),
  λ e. let q = subst (λ n. Says event_forms n vs text) e s in (noise_room vs text q, noise_bytes vs text q),
)
