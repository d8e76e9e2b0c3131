-- Fields: how a value is spelled, which values are in range, and what reading it from the left gives.
use Rattle.std.specs.Prelude.{◌≡◌, ◌≤◌, ℕ, zero, suc, Bool, true, ◌&&◌, List, [], ◌∷◌, ◌++◌, length, drop, Option, Some, None, Result, Ok, Err, IfSome, nat_lt, nat_le, if◌then◌else◌}
use Rattle.std.specs.List.{flat_map, AllByRecursion}
use Rattle.byteorder.specs.Endian.{big_number, big_bytes}
use Rattle.definitions.specs.declared.frame.Unread.{Unread}
use Rattle.definitions.specs.declared.frame.Unread.TheVariants.{Short, Out}

infixl 10 ◌>>=◌
abbrev pub ◌>>=◌ : {A B : Type 0} → Result A Unread → (A → Result B Unread) → Result B Unread
(Ok x) >>= f = f x
(Err e) >>= f = Err e

-- A form of values: the spelling of each, which of them are in range, and what reading one gives: the value and the
-- bytes after it, or why not.
pub record Form (A : Type 0) : Type 1 where
  pub spell : A → List ℕ
  pub fits : A → Type 0
  pub read : List ℕ → Result (A × List ℕ) Unread

-- ---- a number

-- the n bytes of a number, the highest first
unfoldable pub spelled : ℕ → ℕ → List ℕ
spelled n x = big_bytes n x

-- A number of n bytes from lo to hi. Where the bytes end inside it, it is short; where it is out of its range, it is
-- at fault at its first byte.
unfoldable pub number_at : ℕ → ℕ → ℕ → List ℕ → Result (ℕ × List ℕ) Unread
number_at n lo hi bytes =
    if nat_lt (length bytes) n then Err Short
    else if nat_le lo (big_number n bytes) && nat_le (big_number n bytes) hi then Ok (big_number n bytes, drop n bytes)
    else Err (Out (length bytes))

abbrev pub number : ℕ → ℕ → ℕ → Form ℕ
number n lo hi = record { spell = spelled n; fits = λ x. (lo ≤ x) × (x ≤ hi); read = number_at n lo hi }

-- ---- forms made of others

-- The values of a form as others. A value fits where it is made of one that fits.
abbrev pub as_read : {A B : Type 0} → (A → B) → Result (A × List ℕ) Unread → Result (B × List ℕ) Unread
as_read to read = read >>= λ x. Ok (to x.0, x.1)

abbrev pub as_form : {A B : Type 0} → (A → B) → (B → A) → Form A → Form B
as_form to from f = record {
  spell = λ y. f.spell (from y);
  fits = λ y. f.fits (from y) × (to (from y) ≡ y);
  read = λ bytes. as_read to (f.read bytes);
}

-- Only the values that pass a test; another is at fault at its first byte.
abbrev pub test_read : {A : Type 0} → (A → Bool) → List ℕ → Result (A × List ℕ) Unread → Result (A × List ℕ) Unread
test_read test bytes read = read >>= λ x. if test x.0 then Ok x else Err (Out (length bytes))

abbrev pub only : {A : Type 0} → (A → Bool) → Form A → Form A
only test f = record { spell = f.spell; fits = λ x. f.fits x × (test x ≡ true); read = λ bytes. test_read test bytes (f.read bytes) }

-- A value and then another, whose form may depend on the first.
abbrev pub then_read : {A B : Type 0} → Result (A × List ℕ) Unread → (A → List ℕ → Result (B × List ℕ) Unread) → Result ((A × B) × List ℕ) Unread
then_read first second = first >>= λ x. second x.0 x.1 >>= λ y. Ok ((x.0, y.0), y.1)

abbrev pub after : {A B : Type 0} → Form A → (A → Form B) → Form (A × B)
after f g = record {
  spell = λ x. f.spell x.0 ++ (g x.0).spell x.1;
  fits = λ x. f.fits x.0 × (g x.0).fits x.1;
  read = λ bytes. then_read (f.read bytes) (λ x rest. (g x).read rest);
}

infixr 20 ◌▸◌
abbrev pub ◌▸◌ : {A B : Type 0} → Form A → Form B → Form (A × B)
f ▸ g = after f (λ _. g)

-- As many values as are told.
unfoldable pub items_at : {A : Type 0} → Form A → ℕ → List ℕ → Result (List A × List ℕ) Unread
items_at f zero bytes = Ok ([], bytes)
items_at f (suc n) bytes = f.read bytes >>= λ x. items_at f n x.1 >>= λ y. Ok (x.0 ∷ y.0, y.1)

-- values that were read before, and those that are still read
abbrev pub with_front : {A : Type 0} → List A → Result (List A × List ℕ) Unread → Result (List A × List ℕ) Unread
with_front front read = read >>= λ x. Ok (front ++ x.0, x.1)

-- A count of n bytes from lo to hi, and as many values.
abbrev pub listed : {A : Type 0} → ℕ → ℕ → ℕ → Form A → Form (List A)
listed n lo hi f = record {
  spell = λ xs. spelled n (length xs) ++ flat_map f.spell xs;
  fits = λ xs. (lo ≤ length xs) × (length xs ≤ hi) × AllByRecursion f.fits xs;
  read = λ bytes. number_at n lo hi bytes >>= λ x. items_at f x.0 x.1;
}

-- A byte 0 or 1, and behind 1 a value.
abbrev pub maybe_read : {A : Type 0} → Form A → ℕ → List ℕ → Result (Option A × List ℕ) Unread
maybe_read f zero bytes = Ok (None, bytes)
maybe_read f (suc n) bytes = as_read Some (f.read bytes)

abbrev pub maybe_spell : {A : Type 0} → Form A → Option A → List ℕ
maybe_spell f None = spelled 1 0
maybe_spell f (Some x) = spelled 1 1 ++ f.spell x

abbrev pub maybe : {A : Type 0} → Form A → Form (Option A)
maybe f = record {
  spell = maybe_spell f;
  fits = λ x. IfSome x f.fits;
  read = λ bytes. number_at 1 0 1 bytes >>= λ x. maybe_read f x.0 x.1;
}

-- ---- what code gives

-- What a reader returned, seen by view, is what reading gives.
abbrev pub Gives : {X Y : Type 0} → (X → Y) → Result X Unread → Result Y Unread → Type 0
Gives view (Ok x) read = read ≡ Ok (view x)
Gives view (Err e) read = read ≡ Err e
