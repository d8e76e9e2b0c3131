-- What reading a part does, and parts one after the other.
use Rattle.std.proofs.Common.{◌≡◌, ℕ, zero, suc, ◌+◌, ◌<◌, inl, inr, List, [], ◌∷◌, ◌++◌, length, Ok, Err, Bool, true, false, ◌||◌, not, refl, sym, ap, subst, ◌∙◌, arith, append_assoc, get_or}
use Rattle.std.specs.Prelude.{nat_eq}
use Rattle.std.specs.Char.{is_ascii_digit}
use Rattle.std.specs.Fmt.{decimal}
use Rattle.std.proofs.lemmas.Bool.Decides.{nat_tests}
use Rattle.std.proofs.lemmas.Bool.{not-true}
use Rattle.text_forms.specs.declared.part.Part.{Part}
use Rattle.text_forms.specs.declared.part.Part.TheVariants.{Number, Colon, Signed, Sign, Word, FirstByte, Byte}
use Rattle.text_forms.specs.Forms.{number_limit, words_of, signed_text, sign_text, byte_text, part_text, PartFits, spelled, Fit}
use Rattle.text_forms.specs.Reading.{Read, ◌>>=◌, number_at, signed_at, hex_at, word_at, part_at, parts_at}
use Rattle.text_forms.specs.Tables.{apart, plain_words, is_plain, ends_number, starts_plain, plain_parts, clear}
use Rattle.form_codec.specs.Stuck.{Live, Stuck}
use Rattle.form_codec.proofs.Digits.{Bare, Plain, number_again, got, first_true, second_true}
use Rattle.form_codec.proofs.Word_found.{word_again}
use Rattle.form_codec.proofs.Then_live.{Then, Reads, bind_ok, bind_err, lead_reads, number_reads, signed_reads, then_live, byte_self, SignedFits}
use Rattle.form_codec.proofs.Word_short.{words_apart, words_plain, words_some}
use Rattle.form_codec.proofs.Sign_reads.{sign_reads, hex_reads, word_reads, sign_again, hex_again, signed_again}

-- one part

number_fits : (K : List ℕ → Type 0) → Live K → Live (Then (λ v. v < number_limit) decimal K)
number_fits K l = then_live (λ v. v < number_limit) decimal K 0 (omega arith) l

any_word : (ws : List (List ℕ)) (a : apart ws ≡ true) (p : plain_words ws ≡ true) (some : 0 < length ws) (K : List ℕ → Type 0) → Reads (λ v. v < length ws) (λ v. get_or ws v []) (λ u. word_at 0 0 ws u) K
any_word [] a p some K = absurd (omega arith)
any_word (w ∷ ws) a p some K = word_reads w ws a K

abbrev Below : ℕ → ℕ → Type 0
Below n v = v < n

pub part_reads : (p : Part) (K : List ℕ → Type 0) → (ends_number p ≡ true → Plain K) → Reads (PartFits p) (part_text p) (part_at p) K
unfolding part_at PartFits part_text
part_reads Number K plain = lead_reads 32 (Below number_limit) decimal K (number_at 0) (number_fits K) (number_reads K (plain refl))
part_reads Colon K plain = lead_reads 58 (Below number_limit) decimal K (number_at 0) (number_fits K) (number_reads K (plain refl))
part_reads Signed K plain = lead_reads 32 SignedFits signed_text K signed_at (λ l. then_live SignedFits signed_text K 0 (omega arith, λ e. absurd (omega arith)) l) (signed_reads K (plain refl))
part_reads Sign K plain = sign_reads K
part_reads (Word ws) K plain = any_word (words_of ws) (words_apart ws) (words_plain ws) (words_some ws) K
part_reads FirstByte K plain = lead_reads 32 (Below 256) byte_text K hex_at (λ l. then_live (Below 256) byte_text K 0 (omega arith) l) (hex_reads K)
part_reads Byte K plain = hex_reads K

pub part_again : (p : Part) (v : ℕ) (rest : List ℕ) → PartFits p v → (ends_number p ≡ true → Bare rest) → part_at p (part_text p v ++ rest) ≡ Ok (v, rest)
unfolding part_at PartFits part_text
part_again Number v rest fits bare = rw (byte_self 32 (decimal v ++ rest)) (number_again 0 v rest (omega arith) (omega arith) fits (bare refl))
part_again Colon v rest fits bare = rw (byte_self 58 (decimal v ++ rest)) (number_again 0 v rest (omega arith) (omega arith) fits (bare refl))
part_again Signed v rest fits bare = rw (byte_self 32 (signed_text v ++ rest)) (signed_again v rest fits (bare refl))
part_again Sign v rest fits bare = sign_again v rest fits
part_again (Word ws) v rest fits bare = let z : 0 + v ≡ v = omega arith in word_again (words_of ws) 0 0 v rest (words_apart ws) fits ∙ ap (λ n. got (n, rest)) z
part_again FirstByte v rest fits bare = rw (byte_self 32 (byte_text v ++ rest)) (hex_again v rest fits)
part_again Byte v rest fits bare = hex_again v rest fits

zero_fits : (p : Part) → PartFits p 0
unfolding PartFits
zero_fits Number = omega arith
zero_fits Colon = omega arith
zero_fits Signed = (omega arith, λ e. absurd (omega arith))
zero_fits Sign = omega arith
zero_fits (Word ws) = words_some ws
zero_fits FirstByte = omega arith
zero_fits Byte = omega arith

-- a part, in a text

-- a text that goes on and does not begin with a digit
abbrev Starts : List ℕ → Type 0
Starts [] = ⊥
Starts (b ∷ u) = is_ascii_digit b ≡ false

word_starts : (ws : List (List ℕ)) (v : ℕ) (u : List ℕ) → plain_words ws ≡ true → v < length ws → Starts (get_or ws v [] ++ u)
unfolding plain_words
word_starts [] v u p h = absurd (omega arith)
word_starts ([] ∷ ws) zero u p h = absurd cc
word_starts ((b ∷ w) ∷ ws) zero u p h = not-true (is_ascii_digit b) (first_true (not (is_ascii_digit b)) (plain_words ws) p)
word_starts (w ∷ ws) (suc v) u p h = word_starts ws v u (second_true (is_plain w) (plain_words ws) p) (omega arith)

sign_starts : (v : ℕ) (u : List ℕ) → Starts (sign_text v ++ u)
sign_starts zero u = refl
sign_starts (suc v) u = let e : nat_eq (suc v) 0 ≡ false = grind (arith, nat_tests) in rw e refl

part_starts : (p : Part) (v : ℕ) (u : List ℕ) → starts_plain p ≡ true → PartFits p v → Starts (part_text p v ++ u)
unfolding PartFits part_text
part_starts Number v u s f = refl
part_starts Colon v u s f = refl
part_starts Signed v u s f = refl
part_starts Sign v u s f = sign_starts v u
part_starts (Word ws) v u s f = word_starts (words_of ws) v u (words_plain ws) f
part_starts FirstByte v u s f = refl
part_starts Byte v u s f = absurd cc

starts_bare : (u : List ℕ) → Starts u → Bare u
starts_bare [] s = absurd s
starts_bare (b ∷ u) s = s

abbrev pub After : Part → (List ℕ → Type 0) → List ℕ → Type 0
After p = Then (PartFits p) (part_text p)

after_plain : (p : Part) (K : List ℕ → Type 0) → starts_plain p ≡ true → Plain (After p K)
after_plain p K s b t h = subst Starts (sym h.3) (part_starts p h.0 h.1 s h.2)

pub nonempty : (p : Part) (v : ℕ) (u : List ℕ) → PartFits p v → part_text p v ++ u ≡ [] → ⊥
unfolding PartFits part_text
nonempty Number v u f e = absurd cc
nonempty Colon v u f e = absurd cc
nonempty Signed v u f e = absurd cc
nonempty Sign v u f e = subst Starts e (sign_starts v u)
nonempty (Word ws) v u f e = subst Starts e (word_starts (words_of ws) v u (words_plain ws) f)
nonempty FirstByte v u f e = absurd cc
nonempty Byte v u f e = absurd cc

-- parts, and then a text of the language
abbrev pub Line : List Part → (List ℕ → Type 0) → List ℕ → Type 0
Line [] K t = K t
Line (p ∷ ps) K t = After p (Line ps K) t

pub line_live : (ps : List Part) (K : List ℕ → Type 0) → Live K → Live (Line ps K)
line_live [] K l = l
line_live (p ∷ ps) K l = then_live (PartFits p) (part_text p) (Line ps K) 0 (zero_fits p) (line_live ps K l)

pub line_plain : (ps : List Part) (next : Bool) (K : List ℕ → Type 0) → (next ≡ true → Plain K) → plain_parts ps next ≡ true → Plain (Line ps K)
line_plain [] next K plain s = plain s
line_plain (p ∷ ps) next K plain s = after_plain p (Line ps K) s

pub implied : (a b : Bool) → (not a || b) ≡ true → a ≡ true → b ≡ true
implied true b h e = h
implied false b h e = absurd cc

clear_first : (p : Part) (ps : List Part) (next : Bool) (K : List ℕ → Type 0) → (next ≡ true → Plain K) → clear (p ∷ ps) next ≡ true → ends_number p ≡ true → Plain (Line ps K)
unfolding clear
clear_first p ps next K plain c e = line_plain ps next K plain (implied (ends_number p) (plain_parts ps next) (first_true (not (ends_number p) || plain_parts ps next) (clear ps next) c) e)

clear_rest : (p : Part) (ps : List Part) (next : Bool) → clear (p ∷ ps) next ≡ true → clear ps next ≡ true
unfolding clear
clear_rest p ps next c = second_true (not (ends_number p) || plain_parts ps next) (clear ps next) c

abbrev joined : ℕ → List ℕ × List ℕ → Read (List ℕ)
joined v xs = Ok (v ∷ xs.0, xs.1)

abbrev rest_at : List Part → ℕ × List ℕ → Read (List ℕ)
rest_at ps x = parts_at ps x.1 >>= joined x.0

pub record PartsOk (p : Part) (ps : List Part) (u vs rest : List ℕ) : Type 0 where
  pub value : ℕ
  pub more : List ℕ
  pub mid : List ℕ
  pub first : part_at p u ≡ Ok (value, mid)
  pub then : parts_at ps mid ≡ Ok (more, rest)
  pub split : vs ≡ value ∷ more

abbrev all_got : List ℕ × List ℕ → Read (List ℕ)
all_got x = Ok x

parts_ok : (p : Part) (ps : List Part) (u vs rest : List ℕ) → parts_at (p ∷ ps) u ≡ Ok (vs, rest) → PartsOk p ps u vs rest
unfolding parts_at
parts_ok p ps u vs rest e =
    let x = bind_ok (part_at p u) (rest_at ps) (vs, rest) e in
    let y = bind_ok (parts_at ps x.value.1) (joined x.value.0) (vs, rest) x.then in
    let z : joined x.value.0 y.value ≡ Ok (vs, rest) = y.then in
    let q : ◌≡◌ {A = List ℕ × List ℕ} (x.value.0 ∷ y.value.0, y.value.1) (vs, rest) = cc in
    record { value = x.value.0; more = y.value.0; mid = x.value.1; first = x.first; then = y.first ∙ ap (λ xs. all_got (y.value.0, xs)) (ap (λ (r : List ℕ × List ℕ). r.1) q); split = sym (ap (λ (r : List ℕ × List ℕ). r.0) q) }

pub parts_takes : (ps : List Part) (u vs rest : List ℕ) → parts_at ps u ≡ Ok (vs, rest) → Fit ps vs × (u ≡ spelled ps vs ++ rest)
unfolding parts_at Fit spelled
parts_takes [] u vs rest e =
    let p : all_got ([], u) ≡ Ok (vs, rest) = e in
    let q : ◌≡◌ {A = List ℕ × List ℕ} ([], u) (vs, rest) = cc in
    subst (λ xs. Fit [] xs × (u ≡ spelled [] xs ++ rest)) (ap (λ (r : List ℕ × List ℕ). r.0) q) (tt, ap (λ (r : List ℕ × List ℕ). r.1) q)
parts_takes (p ∷ ps) u vs rest e =
    let o = parts_ok p ps u vs rest e in
    let a = (part_reads p (λ t. ⊥) (λ h b t k. absurd k)).takes u o.value o.mid o.first in
    let m = parts_takes ps o.mid o.more rest o.then in
    subst (λ xs. Fit (p ∷ ps) xs × (u ≡ spelled (p ∷ ps) xs ++ rest)) (sym o.split)
    ((a.0, m.0), a.1 ∙ (ap (λ xs. part_text p o.value ++ xs) m.1 ∙ sym (append_assoc (part_text p o.value) (spelled ps o.more) rest)))

pub parts_on : (ps : List Part) (next : Bool) (K : List ℕ → Type 0) (u vs rest : List ℕ) (left : ℕ) → clear ps next ≡ true → (next ≡ true → Plain K) → parts_at ps u ≡ Ok (vs, rest) → Stuck K rest left → Stuck (Line ps K) u left
unfolding parts_at
parts_on [] next K u vs rest left c plain e s =
    let p : all_got ([], u) ≡ Ok (vs, rest) = e in
    let q : ◌≡◌ {A = List ℕ × List ℕ} ([], u) (vs, rest) = cc in
    subst (λ xs. Stuck K xs left) (sym (ap (λ (r : List ℕ × List ℕ). r.1) q)) s
parts_on (p ∷ ps) next K u vs rest left c plain e s =
    let o = parts_ok p ps u vs rest e in
    (part_reads p (Line ps K) (clear_first p ps next K plain c)).on u o.value o.mid left o.first
    (parts_on ps next K o.mid o.more rest left (clear_rest p ps next c) plain o.then s)

joined_never : (v left : ℕ) (x : List ℕ × List ℕ) → joined v x ≡ Err left → ⊥
joined_never v left x e = absurd cc

pub parts_no : (ps : List Part) (next : Bool) (K : List ℕ → Type 0) (u : List ℕ) (left : ℕ) → clear ps next ≡ true → (next ≡ true → Plain K) → Live K → parts_at ps u ≡ Err left → Stuck (Line ps K) u left
unfolding parts_at
parts_no [] next K u left c plain l e = absurd cc
parts_no (p ∷ ps) next K u left c plain l e =
    let reads = part_reads p (Line ps K) (clear_first p ps next K plain c) in
    elim (bind_err (part_at p u) (rest_at ps) left e) [
      | inl h ↦ reads.no u left (line_live ps K l) h
      | inr h ↦ elim (bind_err (parts_at ps h.value.1) (joined h.value.0) left h.then) [
        | inl k ↦ reads.on u h.value.0 h.value.1 left h.first (parts_no ps next K h.value.1 left (clear_rest p ps next c) plain l k)
        | inr k ↦ absurd (joined_never h.value.0 left k.value k.then)
      ]
    ]

-- what is spelled by parts begins with no digit
pub spelled_bare : (ps : List Part) (next : Bool) (vs rest : List ℕ) → plain_parts ps next ≡ true → (next ≡ true → Bare rest) → Fit ps vs → Bare (spelled ps vs ++ rest)
unfolding Fit spelled
spelled_bare [] next [] rest s bare f = bare s
spelled_bare [] next (v ∷ vs) rest s bare f = absurd f
spelled_bare (p ∷ ps) next [] rest s bare f = absurd f
spelled_bare (p ∷ ps) next (v ∷ vs) rest s bare f =
    subst Bare (sym (append_assoc (part_text p v) (spelled ps vs) rest)) (starts_bare (part_text p v ++ (spelled ps vs ++ rest)) (part_starts p v (spelled ps vs ++ rest) s f.0))

pub parts_again : (ps : List Part) (next : Bool) (vs rest : List ℕ) → clear ps next ≡ true → (next ≡ true → Bare rest) → Fit ps vs → parts_at ps (spelled ps vs ++ rest) ≡ Ok (vs, rest)
unfolding parts_at Fit spelled clear
parts_again [] next [] rest c bare f = refl
parts_again [] next (v ∷ vs) rest c bare f = absurd f
parts_again (p ∷ ps) next [] rest c bare f = absurd f
parts_again (p ∷ ps) next (v ∷ vs) rest c bare f =
    let a = part_again p v (spelled ps vs ++ rest) f.0 (λ e. spelled_bare ps next vs rest (implied (ends_number p) (plain_parts ps next) (first_true (not (ends_number p) || plain_parts ps next) (clear ps next) c) e) bare f.1) in
    let m = parts_again ps next vs rest (second_true (not (ends_number p) || plain_parts ps next) (clear ps next) c) bare f.1 in
    ap (parts_at (p ∷ ps)) (append_assoc (part_text p v) (spelled ps vs) rest) ∙ rw a (rw m refl)
