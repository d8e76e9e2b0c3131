-- The closed segments that a zone keeps.
use Rattle.std.proofs.Common.{◌≡◌, ◌≢◌, ℕ, ◌<◌, List, ◌∷◌, length, Some, Bool, true, false, refl, sym, ◌∙◌, ap, arith, if◌then◌else◌}
use Rattle.std.proofs.lemmas.Bool.Decides.{nat_tests}
use Rattle.std.proofs.lemmas.Bool.{eqb-true}
use Rattle.std.proofs.lemmas.List.{length-replicate, length-set, get_or-replicate, get_or-set_same, get_or-set_other, get_or_past}
use Rattle.std.specs.Prelude.{nat_eq, nat_lt, set, slice_index_or}
use Rattle.list_laws.proofs.By_test.{by_test}
use Rattle.definitions.specs.declared.message.Msg.{Msg}
use Rattle.definitions.specs.declared.message.Msg.TheVariants as msg
use Rattle.definitions.specs.declared.message.Order.{Order}
use Rattle.definitions.specs.declared.message.Order.TheVariants as orders
use Rattle.definitions.specs.Closures.{closed_after, is_closed}
use Rattle.definitions.specs.Story.{Transition, Story}
use Rattle.plain_state.specs.Zone.{closed_at, with_closed, closed_acted_on}
use Rattle.plain_state.specs.Plain.{none_closed}

-- At the start no segment is closed.

pub none_long : length none_closed ≡ 32768
unfolding none_closed
none_long = length-replicate 32768 false

pub none_at : (seg : ℕ) → closed_at none_closed seg ≡ false
unfolding none_closed
none_at seg = by_test (nat_lt seg 32768)
    (λ y. get_or-replicate 32768 seg false false (grind (arith, nat_tests)))
    (λ n. get_or_past none_closed seg false (let l = none_long in grind (arith, nat_tests)))

-- An order.

with_length : (seg : ℕ) (b : Bool) (closed : List Bool) → length (with_closed seg b closed) ≡ length closed
with_length seg b closed = by_test (nat_lt seg (length closed))
    (λ y. rw y (length-set closed seg b))
    (λ n. rw n refl)

pub acted_length : (m : Msg) (closed : List Bool) → length (closed_acted_on m closed) ≡ length closed
acted_length (msg.Order time (orders.Close seg)) closed = with_length seg.0 true closed
acted_length (msg.Order time (orders.Open seg)) closed = with_length seg.0 false closed
acted_length _ closed = refl

with_at : (s seg : ℕ) (b : Bool) (closed : List Bool) → s < length closed → closed_at (with_closed s b closed) seg ≡ (if nat_eq s seg then b else closed_at closed seg)
with_at s seg b closed h =
    let in_ : nat_lt s (length closed) ≡ true = grind (arith, nat_tests) in
    by_test (nat_eq s seg)
    (λ y.
    let e : s ≡ seg = eqb-true s seg y in
    rw (in_, y) (ap (λ (k : ℕ). slice_index_or (set closed s b) k false) (sym e) ∙ get_or-set_same closed s b false h))
    (λ n.
    let o : seg ≢ s = (λ (q : seg ≡ s). grind (arith, nat_tests)) in
    rw (in_, n) (get_or-set_other closed s seg b false o))

-- the segment of an order has a place among them
abbrev pub IsPlaced : ℕ → Order → Type 0
IsPlaced n (orders.Close seg) = seg.0 < n
IsPlaced n (orders.Open seg) = seg.0 < n
IsPlaced n _ = Unit {0}

abbrev pub OrderPlaced : ℕ → Msg → Type 0
OrderPlaced n (msg.Order time order) = IsPlaced n order
OrderPlaced n _ = Unit {0}

pub acted_at : (from seg : ℕ) (m : Msg) (closed : List Bool) → OrderPlaced (length closed) m → closed_at (closed_acted_on m closed) seg ≡ closed_after seg (Some (from, m)) (closed_at closed seg)
acted_at from seg (msg.Order time (orders.Close s)) closed h = with_at s.0 seg true closed h ∙ by_test (nat_eq s.0 seg) (λ y. rw y refl) (λ n. rw n refl)
acted_at from seg (msg.Order time (orders.Open s)) closed h = with_at s.0 seg false closed h ∙ by_test (nat_eq s.0 seg) (λ y. rw y refl) (λ n. rw n refl)
acted_at from seg _ closed h = refl

-- What a transition leaves of them.

pub closed_idle : (z seg : ℕ) (x : Transition) (s : Story) → nat_eq x.actor z ≡ false → is_closed z seg (x ∷ s) ≡ is_closed z seg s
unfolding is_closed
closed_idle z seg x s h = rw h refl

pub closed_next : (z seg : ℕ) (x : Transition) (s : Story) → nat_eq x.actor z ≡ true → is_closed z seg (x ∷ s) ≡ closed_after seg x.took (is_closed z seg s)
unfolding is_closed
closed_next z seg x s h = rw h refl
