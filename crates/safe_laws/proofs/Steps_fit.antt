-- Steps on a valid line fit a frame.
use Rattle.std.proofs.Common.{◌≡◌, ℕ, ◌+◌, ◌*◌, ◌%◌, ◌≤◌, List, [], ◌∷◌, length, true, false, refl, arith, nat_lt}
use Rattle.std.proofs.lemmas.Bool.{and_parts}
use Rattle.std.proofs.lemmas.Bool.Decides.{nat_tests}
use Rattle.std.specs.List.{list_all, AllByRecursion}
use Rattle.arrayvec.specs.ArrayVec.{ArrayVec}
use Rattle.track_points.specs.declared.ids.Dir.{Dir}
use Rattle.track_points.specs.declared.ids.Dir.TheVariants.{Up, Down}
use Rattle.track_points.specs.declared.ids.DirSeg.{DirSeg}
use Rattle.definitions.specs.FrameLayouts.{step_number, step_of, step, steps}
use Rattle.definitions.specs.Track.{Line}
use Rattle.definitions.specs.Rules.{is_line}
use Rattle.definitions.specs.Premises.{on_line}
use Rattle.safe_laws.proofs.Segment_ranges.{segment_ranges}

abbrev at : ℕ → Dir → DirSeg
at n d = record { seg = record { 0 = n }; dir = d }

step_back : (n : ℕ) (d : Dir) → n ≤ 32767 → (step_number (at n d) ≤ 65535) × (step_of (step_number (at n d)) ≡ at n d)
step_back n Up most =
    let number : n % 32768 + 32768 * 0 ≡ n = omega (arith, most) in
    let same : n % 32768 ≡ n = omega (arith, most) in
    let low : nat_lt n 32768 ≡ true = grind (arith, nat_tests) in
    rw number (omega (arith, most), rw (same, low) refl)
step_back n Down most =
    let number : n % 32768 + 32768 * 1 ≡ n + 32768 = omega (arith, most) in
    let same : (n + 32768) % 32768 ≡ n = omega (arith, most) in
    let high : nat_lt (n + 32768) 32768 ≡ false = grind (arith, nat_tests) in
    rw number (omega (arith, most), rw (same, high) refl)

pub step_fits : (line : Line) (st : DirSeg) → is_line line ≡ true → on_line line st ≡ true → step.fits st
unfolding step
step_fits line st l h =
    let r = segment_ranges line st.seg.0 l h in
    let least = r.least in
    let back = step_back st.seg.0 st.dir r.most in
    let some : nat_lt 0 st.seg.0 ≡ true = grind (arith, nat_tests) in
    (((omega arith, back.0), back.1), some)

each_fits : (line : Line) (xs : List DirSeg) → is_line line ≡ true → list_all (on_line line) xs ≡ true → AllByRecursion step.fits xs
each_fits line [] l h = tt
each_fits line (st ∷ xs) l h =
    let k = and_parts (on_line line st) (list_all (on_line line) xs) h in
    (step_fits line st l k.0, each_fits line xs l k.1)

pub steps_fit : (line : Line) (v : ArrayVec DirSeg) → is_line line ≡ true → list_all (on_line line) v.items ≡ true → 1 ≤ length v.items → length v.items ≤ 24 → steps.fits v
unfolding steps
steps_fit line v l h some few = ((some, few, each_fits line v.items l h), refl)
