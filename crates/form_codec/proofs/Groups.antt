-- What reading groups and forms does.
use Rattle.std.proofs.Common.{◌≡◌, ℕ, zero, suc, ◌-◌, ◌≤◌, ◌⊎◌, inl, inr, List, [], ◌∷◌, ◌++◌, Result, Ok, Err, Bool, true, false, ◌&&◌, ◌||◌, refl, sym, ap, subst, ◌∙◌, arith, append_assoc, append-nil}
use Rattle.std.specs.Prelude.{nat_eq, nat_le}
use Rattle.std.proofs.lemmas.Bool.Decides.{nat_tests}
use Rattle.std.proofs.lemmas.Bool.{eqb-true, eqb-false, eq-eqb, leb-true}
use Rattle.text_forms.specs.declared.part.Part.{Part}
use Rattle.text_forms.specs.Forms.{part_text, spelled, Fit, times, Form}
use Rattle.text_forms.specs.Reading.{Read, ◌>>=◌, parts_at, groups_at, fields_at}
use Rattle.text_forms.specs.Tables.{starts_plain, plain_parts, clear, is_filled, is_clear}
use Rattle.form_codec.specs.Stuck.{Live, Stuck}
use Rattle.form_codec.proofs.Stuck_same.{stuck_same}
use Rattle.form_codec.proofs.Digits.{Bare, Plain, first_true, second_true}
use Rattle.form_codec.proofs.Then_live.{bind_ok, bind_err}
use Rattle.form_codec.proofs.Parts_takes.{Line, line_live, line_plain, nonempty, parts_takes, parts_on, parts_no, spelled_bare, parts_again}

-- a group so many times, to the end of the text
abbrev pub Groups : List Part → ℕ → ℕ → List ℕ → Type 0
Groups group least zero t = (least ≡ 0) × (t ≡ [])
Groups group least (suc most) t = ((least ≡ 0) × (t ≡ [])) ⊎ Line group (Groups group (least - 1) most) t

groups_plain : (group : List Part) (least most : ℕ) → plain_parts group true ≡ true → Plain (Groups group least most)
groups_plain group least zero s b t h = let e : b ∷ t ≡ [] = h.1 in absurd cc
groups_plain group least (suc most) s b t (inl h) = let e : b ∷ t ≡ [] = h.1 in absurd cc
groups_plain group least (suc most) s b t (inr h) = line_plain group true (Groups group (least - 1) most) (λ e. groups_plain group (least - 1) most s) s b t h

groups_live : (group : List Part) (least most : ℕ) → least ≤ most → Live (Groups group least most)
groups_live group least zero h = ([], (omega arith, refl))
groups_live group least (suc most) h =
    let l = line_live group (Groups group (least - 1) most) (groups_live group (least - 1) most (omega arith)) in
    (l.0, inr l.1)

line_nonempty : (q : Part) (qs : List Part) (K : List ℕ → Type 0) → Line (q ∷ qs) K [] → ⊥
line_nonempty q qs K h = nonempty q h.0 h.1 h.2 (sym h.3)

or_end : (A : Type 0) (M : List ℕ → Type 0) (b : ℕ) (u : List ℕ) (left : ℕ) → Stuck M (b ∷ u) left → Stuck (λ t. (A × (t ≡ [])) ⊎ M t) (b ∷ u) left
or_end A M b u left (inl s) = inl ((s.0.0, inr s.0.1), (λ t h. elim h [ inl x ↦ let e : b ∷ t ≡ [] = x.1 in absurd cc | inr x ↦ s.1 t x ]), s.2)
or_end A M b u left (inr s) = inr (stuck_same (λ t. M (b ∷ t)) (λ t. (A × (b ∷ t ≡ [])) ⊎ M (b ∷ t)) u left (λ t h. inr h) (λ t h. elim h [ inl x ↦ let e : b ∷ t ≡ [] = x.1 in absurd cc | inr x ↦ x ]) s)

abbrev pub after_these : List ℕ → List ℕ → Result (List ℕ) ℕ
after_these xs ys = Ok (xs ++ ys)

abbrev all_of : List ℕ → Result (List ℕ) ℕ
all_of xs = Ok xs

abbrev pub groups_then : List Part → ℕ → ℕ → List ℕ × List ℕ → Result (List ℕ) ℕ
groups_then group least most x = groups_at group least most x.1 >>= after_these x.0

never : (xs ys : List ℕ) (left : ℕ) → after_these xs ys ≡ Err left → ⊥
never xs ys left e = absurd cc

pub groups_step : (group : List Part) (least most b : ℕ) (u : List ℕ) → groups_at group least (suc most) (b ∷ u) ≡ (parts_at group (b ∷ u) >>= groups_then group (least - 1) most)
unfolding groups_at
groups_step group least most b u = refl

end_no : (q : Part) (qs : List Part) (least most left : ℕ) → least ≤ most → groups_at (q ∷ qs) least most [] ≡ Err left → Stuck (Groups (q ∷ qs) least most) [] left
unfolding groups_at
end_no q qs least zero left h e = let z : least ≡ 0 = omega arith in let e2 = rw (eq-eqb least 0 z) at e in absurd cc
end_no q qs least (suc most) left h e = by (nat_eq least 0) refl
  where
    by : (s : Bool) → nat_eq least 0 ≡ s → Stuck (Groups (q ∷ qs) least (suc most)) [] left
    by true k = let e2 = rw k at e in absurd cc
    by false k = let e2 = rw k at e in (
      groups_live (q ∷ qs) least (suc most) h,
      (λ x. elim x [ inl y ↦ eqb-false least 0 k y.0 | inr y ↦ line_nonempty q qs (Groups (q ∷ qs) (least - 1) most) y ]),
      cc,
    )

groups_no : (q : Part) (qs : List Part) (least most : ℕ) (u : List ℕ) (left : ℕ) → clear (q ∷ qs) (starts_plain q) ≡ true → least ≤ most → groups_at (q ∷ qs) least most u ≡ Err left → Stuck (Groups (q ∷ qs) least most) u left
unfolding groups_at
groups_no q qs least most [] left c h e = end_no q qs least most left h e
groups_no q qs least zero (b ∷ u) left c h e = inl (groups_live (q ∷ qs) least 0 h, (λ t x. let e : b ∷ t ≡ [] = x.1 in absurd cc), cc)
groups_no q qs least (suc most) (b ∷ u) left c h e =
    let g = q ∷ qs in
    let K = Groups g (least - 1) most in
    or_end (least ≡ 0) (Line g K) b u left
    (elim (bind_err (parts_at g (b ∷ u)) (groups_then g (least - 1) most) left (sym (groups_step g least most b u) ∙ e)) [
      | inl x ↦ parts_no g (starts_plain q) K (b ∷ u) left c (λ y. groups_plain g (least - 1) most y) (groups_live g (least - 1) most (omega arith)) x
      | inr x ↦ elim (bind_err (groups_at g (least - 1) most x.value.1) (after_these x.value.0) left x.then) [
        | inl y ↦ parts_on g (starts_plain q) K (b ∷ u) x.value.0 x.value.1 left c (λ z. groups_plain g (least - 1) most z) x.first (groups_no q qs (least - 1) most x.value.1 left c (omega arith) y)
        | inr y ↦ absurd (never x.value.0 y.value left y.then)
      ]
    ])

none_no : (group : List Part) (u : List ℕ) (left : ℕ) → groups_at group 0 0 u ≡ Err left → Stuck (Groups group 0 0) u left
unfolding groups_at
none_no group [] left e = absurd cc
none_no group (b ∷ u) left e = inl (([], (refl, refl)), (λ t x. let e : b ∷ t ≡ [] = x.1 in absurd cc), cc)

-- the values of parts one after the other

pub spelled_both : (ps qs : List Part) (vs ws : List ℕ) → Fit ps vs → Fit qs ws → Fit (ps ++ qs) (vs ++ ws) × (spelled (ps ++ qs) (vs ++ ws) ≡ spelled ps vs ++ spelled qs ws)
unfolding Fit spelled
spelled_both [] qs [] ws f g = (g, refl)
spelled_both [] qs (v ∷ vs) ws f g = absurd f
spelled_both (p ∷ ps) qs [] ws f g = absurd f
spelled_both (p ∷ ps) qs (v ∷ vs) ws f g =
    let m = spelled_both ps qs vs ws f.1 g in
    ((f.0, m.0), ap (λ xs. part_text p v ++ xs) m.1 ∙ sym (append_assoc (part_text p v) (spelled ps vs) (spelled qs ws)))

pub record Both (ps qs : List Part) (vs : List ℕ) : Type 0 where
  pub xs : List ℕ
  pub ys : List ℕ
  pub split : vs ≡ xs ++ ys
  pub first : Fit ps xs
  pub last : Fit qs ys

pub both_of : (ps qs : List Part) (vs : List ℕ) → Fit (ps ++ qs) vs → Both ps qs vs
unfolding Fit
both_of [] qs vs f = record { xs = []; ys = vs; split = refl; first = tt; last = f }
both_of (p ∷ ps) qs [] f = absurd f
both_of (p ∷ ps) qs (v ∷ vs) f =
    let m = both_of ps qs vs f.1 in
    record { xs = v ∷ m.xs; ys = m.ys; split = ap (λ zs. v ∷ zs) m.split; first = (f.0, m.first); last = m.last }

pub record Times (group : List Part) (least most : ℕ) (vs t : List ℕ) : Type 0 where
  pub count : ℕ
  pub least_is : least ≤ count
  pub most_is : count ≤ most
  pub fit : Fit (times count group) vs
  pub split : t ≡ spelled (times count group) vs

groups_takes : (group : List Part) (least most : ℕ) (u vs : List ℕ) → groups_at group least most u ≡ Ok vs → Times group least most vs u
unfolding groups_at times Fit spelled
groups_takes group least most [] vs e = by (nat_eq least 0) refl
  where
    by : (s : Bool) → nat_eq least 0 ≡ s → Times group least most vs []
    by true k =
        let z : least ≡ 0 = eqb-true least 0 k in
        let e2 : after_these [] [] ≡ Ok vs = rw k at e in
        let q : [] ≡ vs = cc in
        record { count = 0; least_is = omega arith; most_is = omega arith; fit = subst (Fit []) q tt; split = subst (λ xs. [] ≡ spelled [] xs) q refl }
    by false k = let e2 = rw k at e in absurd cc
groups_takes group least zero (b ∷ u) vs e = absurd cc
groups_takes group least (suc most) (b ∷ u) vs e =
    let x = bind_ok (parts_at group (b ∷ u)) (groups_then group (least - 1) most) vs (sym (groups_step group least most b u) ∙ e) in
    let y = bind_ok (groups_at group (least - 1) most x.value.1) (after_these x.value.0) vs x.then in
    let z : after_these x.value.0 y.value ≡ Ok vs = y.then in
    let q : x.value.0 ++ y.value ≡ vs = cc in
    let a = parts_takes group (b ∷ u) x.value.0 x.value.1 x.first in
    let m = groups_takes group (least - 1) most x.value.1 y.value y.first in
    let w = spelled_both group (times m.count group) x.value.0 y.value a.0 m.fit in
    record {
      count = suc m.count;
      least_is = omega (arith, m.least_is);
      most_is = omega (arith, m.most_is);
      fit = subst (Fit (group ++ times m.count group)) q w.0;
      split = a.1 ∙ (ap (λ xs. spelled group x.value.0 ++ xs) m.split ∙ (sym w.1 ∙ ap (spelled (group ++ times m.count group)) q));
    }

groups_go : (group : List Part) (least most : ℕ) (t : List ℕ) → (t ≡ [] → ⊥) → groups_at group least (suc most) t ≡ (parts_at group t >>= groups_then group (least - 1) most)
groups_go group least most [] h = absurd (h refl)
groups_go group least most (b ∷ t) h = groups_step group least most b t

times_plain : (q : Part) (qs : List Part) (k : ℕ) → starts_plain q ≡ true → plain_parts (times k (q ∷ qs)) true ≡ true
unfolding times
times_plain q qs zero s = refl
times_plain q qs (suc k) s = s

none_plain : (k : ℕ) → plain_parts (times k []) true ≡ true
unfolding times
none_plain zero = refl
none_plain (suc k) = none_plain k

spelled_some : (q : Part) (qs : List Part) (vs rest : List ℕ) → Fit (q ∷ qs) vs → spelled (q ∷ qs) vs ++ rest ≡ [] → ⊥
unfolding Fit spelled
spelled_some q qs [] rest f e = f
spelled_some q qs (v ∷ vs) rest f e = nonempty q v (spelled qs vs ++ rest) f.0 (sym (append_assoc (part_text q v) (spelled qs vs) rest) ∙ e)

groups_again : (q : Part) (qs : List Part) (least most count : ℕ) (vs : List ℕ) → clear (q ∷ qs) (starts_plain q) ≡ true → least ≤ count → count ≤ most → Fit (times count (q ∷ qs)) vs → groups_at (q ∷ qs) least most (spelled (times count (q ∷ qs)) vs) ≡ Ok vs
unfolding groups_at times Fit spelled
groups_again q qs least most zero [] c lo hi f = let z : least ≡ 0 = omega arith in rw (eq-eqb least 0 z) refl
groups_again q qs least most zero (v ∷ vs) c lo hi f = absurd f
groups_again q qs least zero (suc k) vs c lo hi f = absurd (omega arith)
groups_again q qs least (suc most) (suc k) vs c lo hi f =
    let g = q ∷ qs in
    let b = both_of g (times k g) vs f in
    let rest = spelled (times k g) b.ys in
    let w = spelled_both g (times k g) b.xs b.ys b.first b.last in
    let text : spelled (g ++ times k g) vs ≡ spelled g b.xs ++ rest = ap (spelled (g ++ times k g)) b.split ∙ w.1 in
    let bare : starts_plain q ≡ true → Bare rest = λ s. subst Bare (append-nil rest) (spelled_bare (times k g) true b.ys [] (times_plain q qs k s) (λ e. tt) b.last) in
    let a = parts_again g (starts_plain q) b.xs rest c bare b.first in
    let m = groups_again q qs (least - 1) most k b.ys c (omega arith) (omega arith) b.last in
    ap (groups_at g least (suc most)) text
    ∙ (groups_go g least most (spelled g b.xs ++ rest) (spelled_some q qs b.xs rest b.first)
    ∙ (ap (λ (x : Read (List ℕ)). x >>= groups_then g (least - 1) most) a
    ∙ (ap (λ (x : Result (List ℕ) ℕ). x >>= after_these b.xs) m
    ∙ ap all_of (sym b.split))))

-- a form, after its word
abbrev pub FormThen : Form → List ℕ → Type 0
FormThen f = Line f.parts (Groups f.group f.least f.most)

-- what a form that can be read has
pub record Clear (f : Form) : Type 0 where
  pub parts : clear f.parts (plain_parts f.group true) ≡ true
  pub group : clear f.group (plain_parts f.group true) ≡ true
  pub order : f.least ≤ f.most
  pub repeats : (nat_eq f.most 0 || is_filled f.group) ≡ true

pub clear_is : (f : Form) → is_clear f ≡ true → Clear f
unfolding is_clear
clear_is f h =
    let a = clear f.parts (plain_parts f.group true) in
    let b = clear f.group (plain_parts f.group true) in
    let c = nat_le f.least f.most in
    let d = nat_eq f.most 0 || is_filled f.group in
    let r1 = second_true a (b && (c && d)) h in
    let r2 = second_true b (c && d) r1 in
    let order = leb-true f.least f.most (first_true c d r2) in
    record { parts = first_true a (b && (c && d)) h; group = first_true b (c && d) r1; order = order; repeats = second_true c d r2 }

no_most : (most : ℕ) → (nat_eq most 0 || false) ≡ true → most ≡ 0
no_most most h = grind (arith, nat_tests, h)

any_no : (group : List Part) (least most : ℕ) (u : List ℕ) (left : ℕ) → clear group (plain_parts group true) ≡ true → least ≤ most → (nat_eq most 0 || is_filled group) ≡ true → groups_at group least most u ≡ Err left → Stuck (Groups group least most) u left
any_no [] least most u left c h r e =
    let z : most ≡ 0 = no_most most r in
    let y : least ≡ 0 = omega arith in
    subst (λ n. Stuck (Groups [] n most) u left) (sym y)
    (subst (λ n. Stuck (Groups [] 0 n) u left) (sym z) (none_no [] u left (sym (ap (λ n. groups_at [] n 0 u) y) ∙ (sym (ap (λ n. groups_at [] least n u) z) ∙ e))))
any_no (q ∷ qs) least most u left c h r e = groups_no q qs least most u left c h e

none_again : (least : ℕ) (vs : List ℕ) (count : ℕ) → least ≤ count → count ≤ 0 → Fit (times count []) vs → groups_at [] least 0 (spelled (times count []) vs) ≡ Ok vs
unfolding groups_at times Fit spelled
none_again least [] zero lo hi f = let z : least ≡ 0 = omega arith in rw (eq-eqb least 0 z) refl
none_again least (v ∷ vs) zero lo hi f = absurd f
none_again least vs (suc k) lo hi f = absurd (omega arith)

any_again : (group : List Part) (least most count : ℕ) (vs : List ℕ) → clear group (plain_parts group true) ≡ true → least ≤ count → count ≤ most → (nat_eq most 0 || is_filled group) ≡ true → Fit (times count group) vs → groups_at group least most (spelled (times count group) vs) ≡ Ok vs
any_again [] least most count vs c lo hi r f =
    let z : most ≡ 0 = no_most most r in
    ap (λ n. groups_at [] least n (spelled (times count []) vs)) z ∙ none_again least vs count lo (omega arith) f
any_again (q ∷ qs) least most count vs c lo hi r f = groups_again q qs least most count vs c lo hi f

abbrev pub form_then : Form → List ℕ × List ℕ → Result (List ℕ) ℕ
form_then f x = groups_at f.group f.least f.most x.1 >>= after_these x.0

pub fields_step : (f : Form) (u : List ℕ) → fields_at f u ≡ (parts_at f.parts u >>= form_then f)
unfolding fields_at
fields_step f u = refl

form_plain : (f : Form) → plain_parts f.group true ≡ true → Plain (Groups f.group f.least f.most)
form_plain f s = groups_plain f.group f.least f.most s

pub form_live : (f : Form) → Clear f → Live (FormThen f)
form_live f c = line_live f.parts (Groups f.group f.least f.most) (groups_live f.group f.least f.most c.order)

pub fields_no : (f : Form) (u : List ℕ) (left : ℕ) → Clear f → fields_at f u ≡ Err left → Stuck (FormThen f) u left
fields_no f u left c e =
    let K = Groups f.group f.least f.most in
    let next = plain_parts f.group true in
    elim (bind_err (parts_at f.parts u) (form_then f) left (sym (fields_step f u) ∙ e)) [
      | inl x ↦ parts_no f.parts next K u left c.parts (form_plain f) (groups_live f.group f.least f.most c.order) x
      | inr x ↦ elim (bind_err (groups_at f.group f.least f.most x.value.1) (after_these x.value.0) left x.then) [
        | inl y ↦ parts_on f.parts next K u x.value.0 x.value.1 left c.parts (form_plain f) x.first (any_no f.group f.least f.most x.value.1 left c.group c.order c.repeats y)
        | inr y ↦ absurd (never x.value.0 y.value left y.then)
      ]
    ]

-- the text after the word is a spelling
pub record Spelling (f : Form) (vs u : List ℕ) : Type 0 where
  pub count : ℕ
  pub least_is : f.least ≤ count
  pub most_is : count ≤ f.most
  pub fit : Fit (f.parts ++ times count f.group) vs
  pub split : u ≡ spelled (f.parts ++ times count f.group) vs

pub fields_takes : (f : Form) (u vs : List ℕ) → fields_at f u ≡ Ok vs → Spelling f vs u
fields_takes f u vs e =
    let x = bind_ok (parts_at f.parts u) (form_then f) vs (sym (fields_step f u) ∙ e) in
    let y = bind_ok (groups_at f.group f.least f.most x.value.1) (after_these x.value.0) vs x.then in
    let z : after_these x.value.0 y.value ≡ Ok vs = y.then in
    let q : x.value.0 ++ y.value ≡ vs = cc in
    let a = parts_takes f.parts u x.value.0 x.value.1 x.first in
    let m = groups_takes f.group f.least f.most x.value.1 y.value y.first in
    let w = spelled_both f.parts (times m.count f.group) x.value.0 y.value a.0 m.fit in
    record {
      count = m.count;
      least_is = m.least_is;
      most_is = m.most_is;
      fit = subst (Fit (f.parts ++ times m.count f.group)) q w.0;
      split = a.1 ∙ (ap (λ xs. spelled f.parts x.value.0 ++ xs) m.split ∙ (sym w.1 ∙ ap (spelled (f.parts ++ times m.count f.group)) q));
    }

rest_bare : (group : List Part) (k : ℕ) (ys : List ℕ) → plain_parts group true ≡ true → Fit (times k group) ys → Bare (spelled (times k group) ys)
rest_bare group k ys s f = subst Bare (append-nil (spelled (times k group) ys)) (spelled_bare (times k group) true ys [] (all_plain group k s) (λ e. tt) f)
  where
    all_plain : (group : List Part) (k : ℕ) → plain_parts group true ≡ true → plain_parts (times k group) true ≡ true
    all_plain (q ∷ qs) k s = times_plain q qs k s
    all_plain [] k s = none_plain k

pub fields_again : (f : Form) (u vs : List ℕ) → Clear f → Spelling f vs u → fields_at f u ≡ Ok vs
fields_again f u vs c sp =
    let g = times sp.count f.group in
    let b = both_of f.parts g vs sp.fit in
    let w = spelled_both f.parts g b.xs b.ys b.first b.last in
    let text : u ≡ spelled f.parts b.xs ++ spelled g b.ys = sp.split ∙ (ap (spelled (f.parts ++ g)) b.split ∙ w.1) in
    let a = parts_again f.parts (plain_parts f.group true) b.xs (spelled g b.ys) c.parts (λ s. rest_bare f.group sp.count b.ys s b.last) b.first in
    let m = any_again f.group f.least f.most sp.count b.ys c.group sp.least_is sp.most_is c.repeats b.last in
    ap (fields_at f) text
    ∙ (fields_step f (spelled f.parts b.xs ++ spelled g b.ys)
    ∙ (ap (λ (x : Read (List ℕ)). x >>= form_then f) a
    ∙ (ap (λ (x : Result (List ℕ) ℕ). x >>= after_these b.xs) m
    ∙ ap all_of (sym b.split))))

-- a text after the word has a spelling, and the other way round

pub record LineSpelled (ps : List Part) (K : List ℕ → Type 0) (t : List ℕ) : Type 0 where
  pub values : List ℕ
  pub rest : List ℕ
  pub fit : Fit ps values
  pub split : t ≡ spelled ps values ++ rest
  pub said : K rest

line_spelled : (ps : List Part) (K : List ℕ → Type 0) (t : List ℕ) → Line ps K t → LineSpelled ps K t
unfolding Fit spelled
line_spelled [] K t h = record { values = []; rest = t; fit = tt; split = refl; said = h }
line_spelled (p ∷ ps) K t h =
    let m = line_spelled ps K h.1 h.4 in
    record { values = h.0 ∷ m.values; rest = m.rest; fit = (h.2, m.fit); split = h.3 ∙ (ap (λ xs. part_text p h.0 ++ xs) m.split ∙ sym (append_assoc (part_text p h.0) (spelled ps m.values) m.rest)); said = m.said }

spelled_line : (ps : List Part) (K : List ℕ → Type 0) (vs u : List ℕ) → Fit ps vs → K u → Line ps K (spelled ps vs ++ u)
unfolding Fit spelled
spelled_line [] K [] u f k = k
spelled_line [] K (v ∷ vs) u f k = absurd f
spelled_line (p ∷ ps) K [] u f k = absurd f
spelled_line (p ∷ ps) K (v ∷ vs) u f k = (v, spelled ps vs ++ u, f.0, append_assoc (part_text p v) (spelled ps vs) u, spelled_line ps K vs u f.1 k)

pub record SomeTimes (group : List Part) (least most : ℕ) (t : List ℕ) : Type 0 where
  pub values : List ℕ
  pub times : Times group least most values t

no_times : (group : List Part) (least most : ℕ) (t : List ℕ) → least ≡ 0 → t ≡ [] → SomeTimes group least most t
unfolding times Fit spelled
no_times group least most t z e = record { values = []; times = record { count = 0; least_is = omega arith; most_is = omega arith; fit = tt; split = e } }

groups_spelled : (group : List Part) (least most : ℕ) (t : List ℕ) → Groups group least most t → SomeTimes group least most t
unfolding times Fit spelled
groups_spelled group least zero t h = no_times group least 0 t h.0 h.1
groups_spelled group least (suc most) t (inl h) = no_times group least (suc most) t h.0 h.1
groups_spelled group least (suc most) t (inr h) =
    let a = line_spelled group (Groups group (least - 1) most) t h in
    let m = groups_spelled group (least - 1) most a.rest a.said in
    let w = spelled_both group (times m.times.count group) a.values m.values a.fit m.times.fit in
    record {
      values = a.values ++ m.values;
      times = record {
        count = suc m.times.count;
        least_is = omega (arith, m.times.least_is);
        most_is = omega (arith, m.times.most_is);
        fit = w.0;
        split = a.split ∙ (ap (λ xs. spelled group a.values ++ xs) m.times.split ∙ sym w.1);
      };
    }

spelled_groups : (group : List Part) (least most count : ℕ) (vs : List ℕ) → least ≤ count → count ≤ most → Fit (times count group) vs → Groups group least most (spelled (times count group) vs)
unfolding times Fit spelled
spelled_groups group least zero zero [] lo hi f = (omega arith, refl)
spelled_groups group least (suc most) zero [] lo hi f = inl (omega arith, refl)
spelled_groups group least most zero (v ∷ vs) lo hi f = absurd f
spelled_groups group least zero (suc k) vs lo hi f = absurd (omega arith)
spelled_groups group least (suc most) (suc k) vs lo hi f =
    let b = both_of group (times k group) vs f in
    let w = spelled_both group (times k group) b.xs b.ys b.first b.last in
    let text : spelled (group ++ times k group) vs ≡ spelled group b.xs ++ spelled (times k group) b.ys = ap (spelled (group ++ times k group)) b.split ∙ w.1 in
    inr (subst (Line group (Groups group (least - 1) most)) (sym text)
    (spelled_line group (Groups group (least - 1) most) b.xs (spelled (times k group) b.ys) b.first (spelled_groups group (least - 1) most k b.ys (omega arith) (omega arith) b.last)))

pub record SomeSpelling (f : Form) (u : List ℕ) : Type 0 where
  pub values : List ℕ
  pub spelling : Spelling f values u

pub form_spelled : (f : Form) (u : List ℕ) → FormThen f u → SomeSpelling f u
form_spelled f u h =
    let a = line_spelled f.parts (Groups f.group f.least f.most) u h in
    let m = groups_spelled f.group f.least f.most a.rest a.said in
    let w = spelled_both f.parts (times m.times.count f.group) a.values m.values a.fit m.times.fit in
    record {
      values = a.values ++ m.values;
      spelling = record {
        count = m.times.count;
        least_is = m.times.least_is;
        most_is = m.times.most_is;
        fit = w.0;
        split = a.split ∙ (ap (λ xs. spelled f.parts a.values ++ xs) m.times.split ∙ sym w.1);
      };
    }

pub spelled_form : (f : Form) (u vs : List ℕ) → Spelling f vs u → FormThen f u
spelled_form f u vs sp =
    let g = times sp.count f.group in
    let b = both_of f.parts g vs sp.fit in
    let w = spelled_both f.parts g b.xs b.ys b.first b.last in
    let text : u ≡ spelled f.parts b.xs ++ spelled g b.ys = sp.split ∙ (ap (spelled (f.parts ++ g)) b.split ∙ w.1) in
    subst (FormThen f) (sym text) (spelled_line f.parts (Groups f.group f.least f.most) b.xs (spelled g b.ys) b.first (spelled_groups f.group f.least f.most sp.count b.ys sp.least_is sp.most_is b.last))
