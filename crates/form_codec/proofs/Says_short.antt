-- How long the spelling of a form can be.
use Rattle.std.proofs.Common.{◌≡◌, ℕ, zero, suc, ◌+◌, ◌-◌, ◌*◌, ◌≤◌, ◌<◌, List, [], ◌∷◌, length, true, false, inl, inr, sym, ap, ◌∙◌, arith, length-append}
use Rattle.std.specs.Prelude.{nat_eq}
use Rattle.std.specs.Fmt.{decimal}
use Rattle.std.proofs.lemmas.Bool.{leb-true, cases_lt}
use Rattle.std.proofs.lemmas.Bool.Decides.{nat_tests}
use Rattle.std.proofs.lemmas.Fmt.{length-decimal-le}
use Rattle.std.proofs.lemmas.Nat.{mul-le}
use Rattle.text_forms.specs.declared.part.Part.{Part}
use Rattle.text_forms.specs.declared.part.Part.TheVariants.{Number, Colon, Signed, Sign, Word, FirstByte, Byte}
use Rattle.text_forms.specs.Forms.{number_limit, signed_text, sign_text, part_text, PartFits, spelled, Fit, times, Form, parts_of, Spells, Says}
use Rattle.text_forms.specs.Language.{most_bytes}
use Rattle.text_forms.specs.Tables.{is_short, all_short}
use Rattle.form_codec.proofs.Digits.{first_true, second_true}
use Rattle.form_codec.proofs.Then_live.{signed_low, signed_high}
use Rattle.form_codec.proofs.Word_short.{word_short}

number_short : (n : ℕ) → n < number_limit → length (decimal n) ≤ 13
number_short n small = length-decimal-le 13 n (omega arith) small (omega arith)

signed_short : (v : ℕ) → v < number_limit + number_limit → length (signed_text v) ≤ 14
signed_short v small = elim (cases_lt v number_limit) [
  | inl low ↦ let h = number_short v low in let e = ap length (signed_low v low) in omega arith
  | inr high ↦
      let back : v - number_limit + number_limit ≡ v = omega arith in
      let h = number_short (v - number_limit) (omega arith) in
      let e = ap length (ap signed_text (sym back) ∙ signed_high (v - number_limit)) in
      omega arith
]

sign_short : (v : ℕ) → length (sign_text v) ≤ 1
sign_short zero = omega arith
sign_short (suc v) = let e : nat_eq (suc v) 0 ≡ false = grind (arith, nat_tests) in rw e (omega arith)

part_short : (p : Part) (v : ℕ) → PartFits p v → length (part_text p v) ≤ 16
unfolding part_text PartFits
part_short Number v f = let h = number_short v f in omega arith
part_short Colon v f = let h = number_short v f in omega arith
part_short Signed v f = let h = signed_short v f.0 in omega arith
part_short Sign v f = let h = sign_short v in omega arith
part_short (Word ws) v f = word_short ws v
part_short FirstByte v f = omega arith
part_short Byte v f = omega arith

spelled_short : (ps : List Part) (vs : List ℕ) → Fit ps vs → length (spelled ps vs) ≤ 16 * length ps
unfolding spelled Fit
spelled_short [] vs f = omega arith
spelled_short (p ∷ ps) [] f = absurd f
spelled_short (p ∷ ps) (v ∷ vs) f =
    let h = part_short p v f.0 in
    let k = spelled_short ps vs f.1 in
    omega (arith, length-append (part_text p v) (spelled ps vs))

pub times_length : (k : ℕ) (group : List Part) → length (times k group) ≡ k * length group
unfolding times
times_length zero group = omega arith
times_length (suc k) group = omega (arith, length-append group (times k group), times_length k group)

spells_short : (f : Form) (vs text : List ℕ) → is_short f ≡ true → Spells f vs text → length text ≤ most_bytes
spells_short f vs text h s =
    let ps = parts_of f s.count in
    let a = spelled_short ps vs s.fit in
    let b = times_length s.count f.group in
    let c = mul-le s.count (length f.group) f.most (length f.group) s.most (omega arith) in
    let d = leb-true (length f.word + 16 * (length f.parts + f.most * length f.group)) most_bytes h in
    omega (arith, ap length s.spelled, length-append f.word (spelled ps vs), length-append f.parts (times s.count f.group))

-- no text of a table of short forms is too long
pub says_short : (fs : List Form) (i : ℕ) (vs text : List ℕ) → all_short fs ≡ true → Says fs i vs text → length text ≤ most_bytes
unfolding Says
says_short [] i vs text h s = absurd s
says_short (f ∷ fs) zero vs text h s = spells_short f vs text (first_true (is_short f) (all_short fs) h) s
says_short (f ∷ fs) (suc i) vs text h s = says_short fs i vs text (second_true (is_short f) (all_short fs) h) s
