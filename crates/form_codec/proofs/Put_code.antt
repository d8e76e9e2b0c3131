-- How many bytes are left, in one number.
use Rattle.std.proofs.Common.{◌≡◌, ℕ, ◌+◌, ◌-◌, ◌*◌, ◌/◌, ◌%◌, ◌≤◌, List, [], length, drop, Result, Ok, Err, refl, ap, subst, ◌∙◌, arith, length-append}
use Rattle.std.proofs.Math.Seq.{drop-append_seam}
use Rattle.std.specs.Borrow.{Bor}
use Rattle.text_forms.specs.declared.part.Part.{Part}
use Rattle.text_forms.specs.Forms.{part_text, PartFits, spelled}
use Rattle.text_forms.specs.Reading.{part_at, parts_at}
use Rattle.form_codec.specs.Sees.{PutRest, PutCode}
use Rattle.form_codec.proofs.Stuck_same.{stuck_left}
use Rattle.form_codec.proofs.Digits.{Plain}
use Rattle.form_codec.proofs.Then_live.{Then}
use Rattle.form_codec.proofs.Parts_takes.{part_reads, parts_takes}

abbrev Ended : List ℕ → Type 0
Ended t = t ≡ []

ended_plain : Plain Ended
ended_plain b t h = absurd cc

pub part_err : (p : Part) (u : List ℕ) (left : ℕ) → part_at p u ≡ Err left → left ≤ length u
part_err p u left e = stuck_left (Then (PartFits p) (part_text p) Ended) u left ((part_reads p Ended (λ h. ended_plain)).no u left ([], refl) e)

pub part_ok : (p : Part) (u : List ℕ) (v : ℕ) (rest : List ℕ) → part_at p u ≡ Ok (v, rest) → length rest ≤ length u
part_ok p u v rest e =
    let t = (part_reads p Ended (λ h. ended_plain)).takes u v rest e in
    omega (arith, ap length t.1, length-append (part_text p v) rest)

odd_even : (l : ℕ) → (2 * l + 1) % 2 ≡ 0 → ⊥
odd_even l h = omega arith

code_by : (ps : List Part) (old new u : List ℕ) (code : ℕ) (b : Bor (List ℕ)) (p : Result (List ℕ × List ℕ) ℕ) → parts_at ps u ≡ p → PutCode old new code p → code % 2 ≡ 0 → b.now ≡ drop (length u - code / 2) u → PutRest old new (Ok b) p
code_by ps old new u code b (Err l) e h z d = absurd (odd_even l (subst (λ n. n % 2 ≡ 0) h z))
code_by ps old new u code b (Ok x) e h z d =
    let t = parts_takes ps u x.0 x.1 e in
    let s = spelled ps x.0 in
    let code_is : code ≡ 2 * length x.1 = h.1 in
    let n : length u - code / 2 ≡ length s = omega (arith, ap length t.1, length-append s x.1) in
    (h.0, d ∙ (ap (λ m. drop m u) n ∙ (ap (drop (length s)) t.1 ∙ drop-append_seam s x.1)))

pub put_code : (ps : List Part) (old new u : List ℕ) (code : ℕ) (b : Bor (List ℕ)) → PutCode old new code (parts_at ps u) → code % 2 ≡ 0 → b.now ≡ drop (length u - code / 2) u → PutRest old new (Ok b) (parts_at ps u)
put_code ps old new u code b h z d = code_by ps old new u code b (parts_at ps u) refl h z d
