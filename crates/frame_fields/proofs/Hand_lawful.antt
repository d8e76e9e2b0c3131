-- The laws of the fields and of each kind.
use Rattle.std.proofs.Common.{◌≡◌, ℕ, zero, suc, ◌+◌, ◌-◌, ◌*◌, ◌^◌, ◌%◌, ◌<◌, ◌≤◌, Bool, true, false, cond, ltb, eqb, refl, ap, arith}
use Rattle.std.specs.Int.{w32, cast_signed, cast_unsigned}
use Rattle.std.proofs.lemmas.Int.{of_z-to_z}
use Rattle.track_points.specs.declared.ids.Dir.TheVariants.{Up, Down}
use Rattle.definitions.specs.FrameFields.{number, as_form, only, after, ◌▸◌, listed, maybe}
use Rattle.definitions.specs.FrameLayouts.{id, train_of, train, section, switch, any_train, time, ordinal, any, bool_of, bit_of, yes, position_of, position_number, position, dir_of, dir_number, seen_of, seen_number, seen_what, is_offset, offset, step_of, step_number, has_segment, step, steps, end, least_end, path_of, path, facts, fits_b, c_least, c_most, order_fields, order_of, order_parts, order, report, reading, time_told, entry_ask, ask, answer, gone, echo, order_told, auth, switch_cmd, lend_ask, lend, returned, counts, fronts, numbers, hand_rest, hand_of, hand_parts, hand, seen_told}
use Rattle.frame_fields.proofs.Then_lawful.{Lawful, wide1, wide2, wide4, wide8, number_lawful, as_lawful, only_lawful, after_lawful, then_lawful, listed_lawful, maybe_lawful}

-- ---- fields

id_lawful : Lawful id 2
unfolding id
id_lawful = number_lawful 2 1 65535 wide2 (omega arith)

train_lawful : Lawful train 2
unfolding train
train_lawful = as_lawful train_of (λ t. t.0) id 2 id_lawful (λ n h. refl)

section_lawful : Lawful section 2
unfolding section
section_lawful = as_lawful (λ n. record { 0 = n }) (λ s. s.0) id 2 id_lawful (λ n h. refl)

switch_lawful : Lawful switch 2
unfolding switch
switch_lawful = as_lawful (λ n. record { 0 = n }) (λ w. w.0) id 2 id_lawful (λ n h. refl)

any_train_lawful : Lawful any_train 2
unfolding any_train
any_train_lawful = as_lawful train_of (λ t. t.0) (number 2 0 65535) 2 (number_lawful 2 0 65535 wide2 (omega arith)) (λ n h. refl)

time_lawful : Lawful time 8
unfolding time
time_lawful = number_lawful 8 0 1099511627775 wide8 (omega arith)

ordinal_lawful : Lawful ordinal 4
unfolding ordinal
ordinal_lawful = number_lawful 4 1 4294967295 wide4 (omega arith)

any_lawful : Lawful any 4
unfolding any
any_lawful = number_lawful 4 0 4294967295 wide4 (omega arith)

end_lawful : Lawful end 4
unfolding end
end_lawful = number_lawful 4 1 10000000 wide4 (omega arith)

bit_back : (n : ℕ) → n ≤ 1 → bit_of (bool_of n) ≡ n
bit_back zero le = refl
bit_back (suc zero) le = refl
bit_back (suc (suc n)) le = absurd (omega (arith, le))

yes_lawful : Lawful yes 1
unfolding yes
yes_lawful = as_lawful bool_of bit_of (number 1 0 1) 1 (number_lawful 1 0 1 wide1 (omega arith)) (λ n h. bit_back n h.1)

position_back : (n : ℕ) → n ≤ 1 → position_number (position_of n) ≡ n
position_back zero le = refl
position_back (suc zero) le = refl
position_back (suc (suc n)) le = absurd (omega (arith, le))

position_lawful : Lawful position 1
unfolding position
position_lawful = as_lawful position_of position_number (number 1 0 1) 1 (number_lawful 1 0 1 wide1 (omega arith)) (λ n h. position_back n h.1)

dir_back : (n : ℕ) → n ≤ 1 → dir_number (dir_of n) ≡ n
dir_back zero le = refl
dir_back (suc zero) le = refl
dir_back (suc (suc n)) le = absurd (omega (arith, le))

seen_back : (n : ℕ) → 1 ≤ n → n ≤ 2 → seen_number (seen_of n) ≡ n
seen_back zero least le = absurd (omega (arith, least))
seen_back (suc zero) least le = refl
seen_back (suc (suc zero)) least le = refl
seen_back (suc (suc (suc n))) least le = absurd (omega (arith, le))

seen_what_lawful : Lawful seen_what 1
unfolding seen_what
seen_what_lawful = as_lawful seen_of seen_number (number 1 1 2) 1 (number_lawful 1 1 2 wide1 (omega arith)) (λ n h. seen_back n h.0 h.1)

offset_lawful : Lawful offset 4
unfolding offset any
offset_lawful = only_lawful is_offset (as_form (cast_signed w32) (cast_unsigned w32) any) 4 (omega arith) (as_lawful (cast_signed w32) (cast_unsigned w32) any 4 any_lawful (λ n h. of_z-to_z w32 n (omega (arith, h.1))))

dir_part : (b : Bool) (n : ℕ) → ltb n 32768 ≡ b → n ≤ 65535 → n % 32768 % 32768 + 32768 * dir_number (cond b Up Down) ≡ n
dir_part true n e le = let lt : n < 32768 = grind (arith, e) in omega (arith, lt)
dir_part false n e le = let least : 32768 ≤ n = grind (arith, e) in omega (arith, least, le)

step_back : (n : ℕ) → n ≤ 65535 → step_number (step_of n) ≡ n
step_back n le = dir_part (ltb n 32768) n refl le

step_lawful : Lawful step 2
unfolding step
step_lawful = only_lawful has_segment (as_form step_of step_number (number 2 0 65535)) 2 (omega arith) (as_lawful step_of step_number (number 2 0 65535) 2 (number_lawful 2 0 65535 wide2 (omega arith)) (λ n h. step_back n h.1))

steps_lawful : Lawful steps 49
unfolding steps
steps_lawful = as_lawful (λ xs. record { items = xs }) (λ v. v.items) (listed 1 1 24 step) 49 (listed_lawful 1 1 24 wide1 (omega arith) step 2 step_lawful) (λ xs h. refl)

path_lawful : Lawful path 57
unfolding path
path_lawful = as_lawful path_of (λ p. (p.steps, (p.from, p.to))) (after steps (λ v. after (number 4 0 9999999) (λ from. number 4 (least_end v from) 10000000))) 57
    (after_lawful steps (λ v. after (number 4 0 9999999) (λ from. number 4 (least_end v from) 10000000)) 49 8 steps_lawful (λ v h.
    after_lawful (number 4 0 9999999) (λ from. number 4 (least_end v from) 10000000) 4 4 (number_lawful 4 0 9999999 wide4 (omega arith)) (λ from g.
    number_lawful 4 (least_end v from) 10000000 wide4 (omega arith))))
    (λ x h. refl)

maybe_path_lawful : Lawful (maybe path) 58
maybe_path_lawful = maybe_lawful path 57 path_lawful

facts_lawful : Lawful facts 11
unfolding facts
facts_lawful = after_lawful (number 4 1 1000000) (λ long. number 4 0 (long - 1) ▸ number 2 1 60000 ▸ yes) 4 7 (number_lawful 4 1 1000000 wide4 (omega arith)) (λ long h.
    then_lawful (number 4 0 (long - 1)) (number 2 1 60000 ▸ yes) 4 3 (number_lawful 4 0 (long - 1) wide4 (omega (arith, h.1)))
    (then_lawful (number 2 1 60000) yes 2 1 (number_lawful 2 1 60000 wide2 (omega arith)) yes_lawful))

counts_lawful : Lawful counts 8
unfolding counts ordinal
counts_lawful = after_lawful ordinal (λ last. number 4 1 last) 4 4 ordinal_lawful (λ last h. number_lawful 4 1 last wide4 (omega (arith, h.1)))

fronts_lawful : Lawful fronts 8
unfolding fronts
fronts_lawful = after_lawful (number 4 0 240000000) (λ lo. number 4 lo 240000000) 4 4 (number_lawful 4 0 240000000 wide4 (omega arith)) (λ lo h. number_lawful 4 lo 240000000 wide4 (omega arith))

half : (b : Bool) → cond b 10000000 0 < 256 ^ 4
half true = omega arith
half false = omega arith

small_c : (what : ℕ) → c_most what < 256 ^ 4
small_c what = half (eqb what 5)

order_fields_lawful : Lawful order_fields 9
unfolding order_fields
order_fields_lawful = after_lawful (number 1 1 5) (λ what. id ▸ only (fits_b what) (number 2 0 65535) ▸ number 4 (c_least what) (c_most what)) 1 8 (number_lawful 1 1 5 wide1 (omega arith)) (λ what h.
    then_lawful id (only (fits_b what) (number 2 0 65535) ▸ number 4 (c_least what) (c_most what)) 2 6 id_lawful
    (then_lawful (only (fits_b what) (number 2 0 65535)) (number 4 (c_least what) (c_most what)) 2 4
    (only_lawful (fits_b what) (number 2 0 65535) 2 (omega arith) (number_lawful 2 0 65535 wide2 (omega arith)))
    (number_lawful 4 (c_least what) (c_most what) wide4 (small_c what))))

zero_of : (n : ℕ) → n ≤ 0 → n ≡ 0
zero_of n le = omega (arith, le)

order_back : (what a b c : ℕ) → 1 ≤ what → what ≤ 5 → b ≤ 65535 → fits_b what b ≡ true → c ≤ c_most what → order_parts (order_of (what, (a, (b, c)))) ≡ (what, (a, (b, c)))
order_back zero a b c least most small fits le = absurd (omega (arith, least))
order_back (suc zero) a b c least most small fits le = let eb : b ≡ 0 = grind (arith, fits) in rw (eb, zero_of c le) refl
order_back (suc (suc zero)) a b c least most small fits le = let eb : b ≡ 0 = grind (arith, fits) in rw (eb, zero_of c le) refl
order_back (suc (suc (suc zero))) a b c least most small fits le = let lb : b ≤ 1 = grind (arith, fits) in rw (dir_back b lb, zero_of c le) refl
order_back (suc (suc (suc (suc zero)))) a b c least most small fits le = let lb : b ≤ 1 = grind (arith, fits) in rw (position_back b lb, zero_of c le) refl
order_back (suc (suc (suc (suc (suc zero))))) a b c least most small fits le = ap (λ (k : ℕ). (5, (a, (k, c)))) (step_back b small)
order_back (suc (suc (suc (suc (suc (suc n)))))) a b c least most small fits le = absurd (omega (arith, most))

order_lawful : Lawful order 9
unfolding order order_fields
order_lawful = as_lawful order_of order_parts order_fields 9 order_fields_lawful (λ x h. order_back x.0 x.1.0 x.1.1.0 x.1.1.1 h.0.0 h.0.1 h.1.1.0.0.1 h.1.1.0.1 h.1.1.1.1)

pub report_lawful : Lawful report 19
unfolding report
report_lawful = then_lawful train (time ▸ (any ▸ (offset ▸ yes))) 2 17 train_lawful (then_lawful time (any ▸ (offset ▸ yes)) 8 9 time_lawful (then_lawful any (offset ▸ yes) 4 5 any_lawful (then_lawful offset yes 4 1 offset_lawful yes_lawful)))

pub reading_lawful : Lawful reading 11
unfolding reading
reading_lawful = then_lawful section (time ▸ yes) 2 9 section_lawful (then_lawful time yes 8 1 time_lawful yes_lawful)

pub time_told_lawful : Lawful time_told 10
unfolding time_told
time_told_lawful = then_lawful time any_train 8 2 time_lawful any_train_lawful

pub entry_ask_lawful : Lawful entry_ask 23
unfolding entry_ask
entry_ask_lawful = then_lawful train (time ▸ (facts ▸ step)) 2 21 train_lawful (then_lawful time (facts ▸ step) 8 13 time_lawful (then_lawful facts step 11 2 facts_lawful step_lawful))

pub ask_lawful : Lawful ask 63
unfolding ask
ask_lawful = then_lawful train (time ▸ (steps ▸ end)) 2 61 train_lawful (then_lawful time (steps ▸ end) 8 53 time_lawful (then_lawful steps end 49 4 steps_lawful end_lawful))

pub answer_lawful : Lawful answer 15
unfolding answer
answer_lawful = then_lawful train (time ▸ (ordinal ▸ yes)) 2 13 train_lawful (then_lawful time (ordinal ▸ yes) 8 5 time_lawful (then_lawful ordinal yes 4 1 ordinal_lawful yes_lawful))

pub gone_lawful : Lawful gone 10
unfolding gone
gone_lawful = then_lawful train time 2 8 train_lawful time_lawful

pub echo_lawful : Lawful echo 15
unfolding echo
echo_lawful = then_lawful switch (time ▸ (any ▸ position)) 2 13 switch_lawful (then_lawful time (any ▸ position) 8 5 time_lawful (then_lawful any position 4 1 any_lawful position_lawful))

pub order_told_lawful : Lawful order_told 17
unfolding order_told
order_told_lawful = then_lawful time order 8 9 time_lawful order_lawful

pub auth_lawful : Lawful auth 67
unfolding auth
auth_lawful = then_lawful train (ordinal ▸ (any ▸ path)) 2 65 train_lawful (then_lawful ordinal (any ▸ path) 4 61 ordinal_lawful (then_lawful any path 4 57 any_lawful path_lawful))

pub switch_cmd_lawful : Lawful switch_cmd 7
unfolding switch_cmd
switch_cmd_lawful = then_lawful switch (ordinal ▸ position) 2 5 switch_lawful (then_lawful ordinal position 4 1 ordinal_lawful position_lawful)

pub lend_ask_lawful : Lawful lend_ask 59
unfolding lend_ask
lend_ask_lawful = then_lawful train (ordinal ▸ (steps ▸ end)) 2 57 train_lawful (then_lawful ordinal (steps ▸ end) 4 53 ordinal_lawful (then_lawful steps end 49 4 steps_lawful end_lawful))

pub lend_lawful : Lawful lend 67
unfolding lend
lend_lawful = then_lawful train (ordinal ▸ (ordinal ▸ path)) 2 65 train_lawful (then_lawful ordinal (ordinal ▸ path) 4 61 ordinal_lawful (then_lawful ordinal path 4 57 ordinal_lawful path_lawful))

pub returned_lawful : Lawful returned 64
unfolding returned
returned_lawful = then_lawful train (ordinal ▸ (maybe path)) 2 62 train_lawful (then_lawful ordinal (maybe path) 4 58 ordinal_lawful maybe_path_lawful)

numbers_lawful : Lawful numbers 12
unfolding numbers
numbers_lawful = then_lawful any (ordinal ▸ any) 4 8 any_lawful (then_lawful ordinal any 4 4 ordinal_lawful any_lawful)

pub hand_rest_lawful : Lawful hand_rest 108
unfolding hand_rest
hand_rest_lawful = then_lawful ordinal (time ▸ (facts ▸ (counts ▸ (fronts ▸ (numbers ▸ path))))) 4 104 ordinal_lawful (then_lawful time (facts ▸ (counts ▸ (fronts ▸ (numbers ▸ path)))) 8 96 time_lawful (then_lawful facts (counts ▸ (fronts ▸ (numbers ▸ path))) 11 85 facts_lawful (then_lawful counts (fronts ▸ (numbers ▸ path)) 8 77 counts_lawful (then_lawful fronts (numbers ▸ path) 8 69 fronts_lawful (then_lawful numbers path 12 57 numbers_lawful path_lawful)))))

pub seen_told_lawful : Lawful seen_told 7
unfolding seen_told
seen_told_lawful = then_lawful train (seen_what ▸ ordinal) 2 5 train_lawful (then_lawful seen_what ordinal 1 4 seen_what_lawful ordinal_lawful)

pub hand_lawful : Lawful hand 110
unfolding hand
hand_lawful = as_lawful hand_of hand_parts (train ▸ hand_rest) 110 (then_lawful train hand_rest 2 108 train_lawful hand_rest_lawful) (λ x h. refl)
