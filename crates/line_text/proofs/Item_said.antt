-- Items and their values: each is got from the other.
use Rattle.std.proofs.Common.{◌≡◌, ℕ, zero, suc, ◌<◌, ◌≤◌, List, [], ◌∷◌, ◌++◌, length, Some, refl, sym, ap, subst, ◌∙◌, arith, append-nil}
use Rattle.track_points.specs.declared.ids.Dir.{Dir}
use Rattle.track_points.specs.declared.ids.Dir.TheVariants.{Up, Down}
use Rattle.text_forms.specs.declared.part.Part.{Part}
use Rattle.text_forms.specs.declared.part.Part.TheVariants.{Number, Colon, Sign, Word}
use Rattle.text_forms.specs.declared.part.Words.TheVariants.{Direction}
use Rattle.text_forms.specs.Forms.{Fit, PartFits, times, Says, IsText}
use Rattle.form_codec.proofs.Spelling_one.{fit_length}
use Rattle.form_codec.proofs.Says_short.{times_length}
use Rattle.definitions.specs.declared.line_item.SectionRange.{SectionRange}
use Rattle.definitions.specs.declared.line_item.LineItem.{LineItem}
use Rattle.definitions.specs.declared.line_item.LineItem.TheVariants.{Zone, Segment, Joint, Switch, Portal, Buffer, Section, Block, Brake, Silent}
use Rattle.definitions.specs.ItemText.{item_forms, item_place, item_values, range_values, sign_value, SaysItem, IsItem}
use Rattle.definitions.specs.ItemReading.{dir_of, end_of, ranges_of, item_of}
use Rattle.line_text.specs.Values.{HasRoom}

-- the item of an item's values

dir_again : (d : Dir) → dir_of (sign_value d) ≡ d
dir_again Up = refl
dir_again Down = refl

ranges_again : (rs : List SectionRange) → ranges_of (range_values rs) ≡ rs
unfolding ranges_of range_values
ranges_again [] = refl
ranges_again (r ∷ rs) = ap (λ xs. r ∷ xs) (ranges_again rs)

pub item_again : (x : LineItem) → item_of (item_place x) (item_values x) ≡ Some x
item_again (Zone z) = refl
item_again (Segment s z len) = refl
item_again (Joint a b) = rw (dir_again a.dir, dir_again b.dir) refl
item_again (Switch w p n r throat) = rw (dir_again p.dir, dir_again n.dir, dir_again r.dir) refl
item_again (Portal a) = rw (dir_again a.dir) refl
item_again (Buffer a) = rw (dir_again a.dir) refl
item_again (Section d ranges) = rw (ranges_again ranges.items) refl
item_again (Block b dir segments) = rw (dir_again dir) refl
item_again (Brake t a r) = refl
item_again (Silent ms) = refl

pub item_only : (i : ℕ) (vs : List ℕ) (x : LineItem) → i ≡ item_place x → vs ≡ item_values x → item_of i vs ≡ Some x
item_only i vs x e h = ap (λ n. item_of n vs) e ∙ (ap (item_of (item_place x)) h ∙ item_again x)

-- the values of a form of the table are those of its item

none_times : (k : ℕ) → times k [] ≡ []
unfolding times
none_times zero = refl
none_times (suc k) = none_times k

plain_length : (ps : List Part) (k : ℕ) (vs : List ℕ) → Fit (ps ++ times k []) vs → length vs ≡ length ps
plain_length ps k vs f = fit_length (ps ++ times k []) vs f ∙ (ap (λ xs. length (ps ++ xs)) (none_times k) ∙ ap (λ (xs : List Part). length xs) (append-nil ps))

sign_again : (v : ℕ) → v < 2 → sign_value (dir_of v) ≡ v
sign_again zero h = refl
sign_again (suc zero) h = refl
sign_again (suc (suc v)) h = absurd (omega arith)

pub record Said (i : ℕ) (vs text : List ℕ) : Type 0 where
  pub item : LineItem
  pub read : item_of i vs ≡ Some item
  pub says : SaysItem item text

zone_said : (vs text : List ℕ) → Says item_forms 0 vs text → length vs ≡ 1 → Said 0 vs text
zone_said (z ∷ []) text s e = record { item = Zone z; read = refl; says = s }
zone_said vs text s e = absurd (omega (arith, e))

segment_said : (vs text : List ℕ) → Says item_forms 1 vs text → length vs ≡ 3 → Said 1 vs text
segment_said (a ∷ z ∷ len ∷ []) text s e = record { item = Segment a z len; read = refl; says = s }
segment_said vs text s e = absurd (omega (arith, e))

joint_said : (vs text : List ℕ) → Says item_forms 2 vs text → length vs ≡ 4 → Said 2 vs text
unfolding Says item_forms Fit PartFits
joint_said (a ∷ x ∷ b ∷ y ∷ []) text s e = record {
  item = Joint (end_of a x) (end_of b y);
  read = refl;
  says = subst (λ ws. Says item_forms 2 ws text) (sym (ap (λ m. a ∷ m ∷ b ∷ sign_value (dir_of y) ∷ []) (sign_again x s.fit.1.0) ∙ ap (λ m. a ∷ x ∷ b ∷ m ∷ []) (sign_again y s.fit.1.1.1.0))) s;
}
joint_said vs text s e = absurd (omega (arith, e))

switch_said : (vs text : List ℕ) → Says item_forms 3 vs text → length vs ≡ 8 → Said 3 vs text
unfolding Says item_forms Fit PartFits
switch_said (w ∷ p ∷ x ∷ n ∷ y ∷ r ∷ z ∷ t ∷ []) text s e = record {
  item = Switch w (end_of p x) (end_of n y) (end_of r z) t;
  read = refl;
  says = subst (λ ws. Says item_forms 3 ws text) (sym (
      ap (λ m. w ∷ p ∷ m ∷ n ∷ sign_value (dir_of y) ∷ r ∷ sign_value (dir_of z) ∷ t ∷ []) (sign_again x s.fit.1.1.0)
      ∙ (ap (λ m. w ∷ p ∷ x ∷ n ∷ m ∷ r ∷ sign_value (dir_of z) ∷ t ∷ []) (sign_again y s.fit.1.1.1.1.0)
      ∙ ap (λ m. w ∷ p ∷ x ∷ n ∷ y ∷ r ∷ m ∷ t ∷ []) (sign_again z s.fit.1.1.1.1.1.1.0))
      )) s;
}
switch_said vs text s e = absurd (omega (arith, e))

portal_said : (vs text : List ℕ) → Says item_forms 4 vs text → length vs ≡ 2 → Said 4 vs text
unfolding Says item_forms Fit PartFits
portal_said (a ∷ x ∷ []) text s e = record { item = Portal (end_of a x); read = refl; says = subst (λ m. Says item_forms 4 (a ∷ m ∷ []) text) (sym (sign_again x s.fit.1.0)) s }
portal_said vs text s e = absurd (omega (arith, e))

buffer_said : (vs text : List ℕ) → Says item_forms 5 vs text → length vs ≡ 2 → Said 5 vs text
unfolding Says item_forms Fit PartFits
buffer_said (a ∷ x ∷ []) text s e = record { item = Buffer (end_of a x); read = refl; says = subst (λ m. Says item_forms 5 (a ∷ m ∷ []) text) (sym (sign_again x s.fit.1.0)) s }
buffer_said vs text s e = absurd (omega (arith, e))

range_values_again : (k : ℕ) (vs : List ℕ) → Fit (times k (Number ∷ Colon ∷ Colon ∷ [])) vs → range_values (ranges_of vs) ≡ vs
unfolding ranges_of range_values Fit times
range_values_again zero [] f = refl
range_values_again zero (a ∷ vs) f = absurd f
range_values_again (suc k) [] f = absurd f
range_values_again (suc k) (a ∷ []) f = absurd f.1
range_values_again (suc k) (a ∷ b ∷ []) f = absurd f.1.1
range_values_again (suc k) (a ∷ b ∷ c ∷ vs) f = ap (λ xs. a ∷ b ∷ c ∷ xs) (range_values_again k vs f.1.1.1)

section_said : (vs text : List ℕ) → Says item_forms 6 vs text → Said 6 vs text
unfolding Says item_forms Fit
section_said [] text s = absurd s.fit
section_said (d ∷ vs) text s = record { item = Section d (record { items = ranges_of vs }); read = refl; says = subst (λ xs. Says item_forms 6 (d ∷ xs) text) (sym (range_values_again s.count vs s.fit.1)) s }

block_said : (vs text : List ℕ) → Says item_forms 7 vs text → Said 7 vs text
unfolding Says item_forms Fit PartFits
block_said [] text s = absurd s.fit
block_said (b ∷ []) text s = absurd s.fit.1
block_said (b ∷ x ∷ vs) text s = record { item = Block b (dir_of x) (record { items = vs }); read = refl; says = subst (λ m. Says item_forms 7 (b ∷ m ∷ vs) text) (sym (sign_again x s.fit.1.0)) s }

brake_said : (vs text : List ℕ) → Says item_forms 8 vs text → length vs ≡ 3 → Said 8 vs text
brake_said (t ∷ a ∷ r ∷ []) text s e = record { item = Brake t a r; read = refl; says = s }
brake_said vs text s e = absurd (omega (arith, e))

silent_said : (vs text : List ℕ) → Says item_forms 9 vs text → length vs ≡ 1 → Said 9 vs text
silent_said (ms ∷ []) text s e = record { item = Silent ms; read = refl; says = s }
silent_said vs text s e = absurd (omega (arith, e))

pub item_said : (i : ℕ) (vs text : List ℕ) → Says item_forms i vs text → Said i vs text
unfolding Says item_forms
item_said zero vs text s = zone_said vs text s (plain_length (Number ∷ []) s.count vs s.fit)
item_said (suc zero) vs text s = segment_said vs text s (plain_length (Number ∷ Number ∷ Number ∷ []) s.count vs s.fit)
item_said (suc (suc zero)) vs text s = joint_said vs text s (plain_length (Number ∷ Sign ∷ Number ∷ Sign ∷ []) s.count vs s.fit)
item_said (suc (suc (suc zero))) vs text s = switch_said vs text s (plain_length (Number ∷ Number ∷ Sign ∷ Number ∷ Sign ∷ Number ∷ Sign ∷ Number ∷ []) s.count vs s.fit)
item_said (suc (suc (suc (suc zero)))) vs text s = portal_said vs text s (plain_length (Number ∷ Sign ∷ []) s.count vs s.fit)
item_said (suc (suc (suc (suc (suc zero))))) vs text s = buffer_said vs text s (plain_length (Number ∷ Sign ∷ []) s.count vs s.fit)
item_said (suc (suc (suc (suc (suc (suc zero)))))) vs text s = section_said vs text s
item_said (suc (suc (suc (suc (suc (suc (suc zero))))))) vs text s = block_said vs text s
item_said (suc (suc (suc (suc (suc (suc (suc (suc zero)))))))) vs text s = brake_said vs text s (plain_length (Number ∷ Number ∷ Number ∷ []) s.count vs s.fit)
item_said (suc (suc (suc (suc (suc (suc (suc (suc (suc zero))))))))) vs text s = silent_said vs text s (plain_length (Number ∷ []) s.count vs s.fit)
item_said (suc (suc (suc (suc (suc (suc (suc (suc (suc (suc i)))))))))) vs text s = absurd s

-- lists have room

section_room : (vs text : List ℕ) → Says item_forms 6 vs text → length vs ≤ 10
unfolding Says item_forms
section_room vs text s =
    let g = Number ∷ Colon ∷ Colon ∷ [] in
    omega (arith, fit_length (Number ∷ times s.count g) vs s.fit, times_length s.count g, s.most)

block_room : (vs text : List ℕ) → Says item_forms 7 vs text → length vs ≤ 18
unfolding Says item_forms
block_room vs text s =
    let g = Number ∷ [] in
    omega (arith, fit_length (Number ∷ Word Direction ∷ times s.count g) vs s.fit, times_length s.count g, s.most)

pub item_fits : (i : ℕ) (vs text : List ℕ) → Says item_forms i vs text → HasRoom i vs
item_fits i vs text s = (λ e. section_room vs text (subst (λ n. Says item_forms n vs text) e s), λ e. block_room vs text (subst (λ n. Says item_forms n vs text) e s))

-- the items are the texts of the table

pub to_item : (text : List ℕ) → IsText item_forms text → IsItem text
to_item text x = let m = item_said x.form x.values text x.says in record { item = m.item; says = m.says }

pub from_item : (text : List ℕ) → IsItem text → IsText item_forms text
from_item text x = record { form = item_place x.item; values = item_values x.item; says = x.says }
