-- Values that are put one after the other.
use Rattle.std.proofs.Common.{◌≡◌, ℕ, zero, suc, ◌-◌, ◌<◌, List, [], ◌∷◌, ◌++◌, length, Result, Ok, Err, sym, ap, subst, ◌∙◌, arith, append_assoc}
use Rattle.std.specs.Borrow.{Bor}
use Rattle.text_forms.specs.declared.part.Part.{Part}
use Rattle.text_forms.specs.Reading.{◌>>=◌, parts_at, groups_at, fields_at}
use Rattle.text_forms.specs.Forms.{Form}
use Rattle.form_codec.specs.Sees.{PutRest, PutAll}
use Rattle.form_codec.proofs.Groups.{after_these, groups_step, fields_step}

put_then : {A : Type 0} (xs old mid new : List ℕ) (r : Result A ℕ) (q : Result (List ℕ) ℕ) → mid ≡ old ++ xs → PutAll mid new r q → PutAll old new r (q >>= after_these xs)
put_then xs old mid new (Ok u) (Ok ys) e h = h ∙ (ap (λ zs. zs ++ ys) e ∙ append_assoc old xs ys)
put_then xs old mid new (Ok u) (Err l) e h = h
put_then xs old mid new (Err l) (Ok ys) e h = h
put_then xs old mid new (Err l) (Err m) e h = h

put_join : {A : Type 0} (g : List ℕ → Result (List ℕ) ℕ) (old mid new : List ℕ) (rest : Bor (List ℕ)) (p : Result (List ℕ × List ℕ) ℕ) (r : Result A ℕ)
    → PutRest old mid (Ok rest) p → PutAll mid new r (g rest.now) → PutAll old new r (p >>= λ x. g x.1 >>= after_these x.0)
put_join g old mid new rest (Ok x) r h k = put_then x.0 old mid new r (g x.1) h.0 (subst (λ u. PutAll mid new r (g u)) h.1 k)
put_join g old mid new rest (Err l) r h k = absurd h

pub put_groups : {A : Type 0} (group : List Part) (least most : ℕ) (bytes old mid new : List ℕ) (rest : Bor (List ℕ)) (r : Result A ℕ) (less fewer : ℕ)
    → 0 < length bytes → 0 < most → less ≡ least - 1 → fewer ≡ most - 1 → PutRest old mid (Ok rest) (parts_at group bytes) → PutAll mid new r (groups_at group less fewer rest.now) → PutAll old new r (groups_at group least most bytes)
put_groups group least most [] old mid new rest r less fewer some more e f h k = absurd (omega arith)
put_groups group least zero (b ∷ u) old mid new rest r less fewer some more e f h k = absurd (omega arith)
put_groups group least (suc most) (b ∷ u) old mid new rest r less fewer some more e f h k =
    let m : fewer ≡ most = omega arith in
    subst (PutAll old new r) (sym (groups_step group least most b u))
    (put_join (groups_at group (least - 1) most) old mid new rest (parts_at group (b ∷ u)) r h
    (subst (λ n. PutAll mid new r (groups_at group n most rest.now)) e (subst (λ n. PutAll mid new r (groups_at group less n rest.now)) m k)))

pub put_fields : {A : Type 0} (f : Form) (bytes old mid new : List ℕ) (rest : Bor (List ℕ)) (r : Result A ℕ)
    → PutRest old mid (Ok rest) (parts_at f.parts bytes) → PutAll mid new r (groups_at f.group f.least f.most rest.now) → PutAll old new r (fields_at f bytes)
put_fields f bytes old mid new rest r h k =
    subst (PutAll old new r) (sym (fields_step f bytes)) (put_join (groups_at f.group f.least f.most) old mid new rest (parts_at f.parts bytes) r h k)
