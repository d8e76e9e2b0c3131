-- What reading by the table of events tells of events.
use Rattle.std.proofs.Common.{◌≡◌, ℕ, ◌+◌, ◌≤◌, List, length, Result, Ok, Err, IfErr, refl, sym, ap, subst, ◌∙◌, arith}
use Rattle.std.proofs.lemmas.List.{take_all}
use Rattle.text_forms.specs.declared.row.Row.{Row}
use Rattle.text_forms.specs.Forms.{Form, Says, IsText}
use Rattle.text_forms.specs.Language.{IsRefused, most_bytes}
use Rattle.text_forms.specs.Reading.{telling, form_at}
use Rattle.text_forms.specs.Rows.{forms}
use Rattle.form_codec.specs.declared.fault.TextFault.{TextFault}
use Rattle.form_codec.proofs.Refused_one.{refused_one, refused_not}
use Rattle.form_codec.proofs.Line_takes.{says_one}
use Rattle.definitions.specs.Track.{Line}
use Rattle.definitions.specs.EventReading.{event_or, event_at}
use Rattle.definitions.specs.declared.document.EventLine.{EventLine}
use Rattle.definitions.specs.declared.document.EventLine.TheVariants as tells
use Rattle.script_text.specs.Sees.{Makes}
use Rattle.definitions.specs.declared.event.Event.{Event}
use Rattle.definitions.specs.EventText.{event_forms, event_place, event_values, SaysEvent}
use Rattle.definitions.specs.EventFields.{event_of, Stands, FieldRefused, field_column}
use Rattle.script_text.proofs.Event_table.{event_table}
use Rattle.script_text.proofs.Event_made.{event_made}

-- the event of the values of a text is the one that the text says, and no field of it is refused
pub event_said : (line : Line) (trains : List ℕ) (i : ℕ) (vs text : List ℕ) (x : Event) → event_of line trains i vs ≡ Ok x → Says event_forms i vs text → SaysEvent x text × Stands line trains x
event_said line trains i vs text x e s =
    let m = event_made line trains i vs text x s e in
    let p = sym m.place in
    let v = sym m.values in (
      subst (λ xs. Says event_forms (event_place x) xs text) v (subst (λ n. Says event_forms n vs text) p s),
      subst (λ xs. event_of line trains (event_place x) xs ≡ Ok x) v (subst (λ n. event_of line trains n vs ≡ Ok x) p e),
    )

-- two readings of one text
pub event_one : (line : Line) (trains : List ℕ) (i j : ℕ) (vs ws text : List ℕ) (r : Result Event ℕ) → Says event_forms i vs text → Says event_forms j ws text → event_of line trains j ws ≡ r → event_of line trains i vs ≡ r
event_one line trains i j vs ws text r s q e =
    let o = says_one event_forms text i j vs ws event_table s q in
    ap (λ n. event_of line trains n vs) o.0 ∙ (ap (event_of line trains j) o.1 ∙ e)

abbrev pub refusal : ℕ → Result Event TextFault
refusal k = Err (record { column = k })

pub refused_same : (text : List ℕ) (j k : ℕ) → IsRefused (IsText event_forms) text j → IsRefused (IsText event_forms) text k → refusal j ≡ refusal k
refused_same text j k h r = ap refusal (refused_one (IsText event_forms) text j k h r)

same_ok : (x y : Event) → ◌≡◌ {A = Result Event ℕ} (Ok x) (Ok y) → x ≡ y
same_ok x y e = cc

same_err : (j k : ℕ) → ◌≡◌ {A = Result Event ℕ} (Err j) (Err k) → j ≡ k
same_err j k e = cc

pub some_only : (line : Line) (trains : List ℕ) (i : ℕ) (vs text : List ℕ) (x y : Event) → event_of line trains i vs ≡ Ok x → Says event_forms i vs text → SaysEvent y text → Stands line trains y → x ≡ y
some_only line trains i vs text x y e s q h = same_ok x y (sym e ∙ event_one line trains i (event_place y) vs (event_values y) text (Ok y) s q h)

pub some_field : (line : Line) (trains : List ℕ) (i : ℕ) (vs text : List ℕ) (x : Event) (k : ℕ) → event_of line trains i vs ≡ Ok x → Says event_forms i vs text → FieldRefused line trains text k → ⊥
some_field line trains i vs text x k e s f = wrong (sym e ∙ event_one line trains i f.form vs f.values text (Err f.field) s f.says f.refused)
  where
    wrong : {j : ℕ} {y : Event} → ◌≡◌ {A = Result Event ℕ} (Ok y) (Err j) → ⊥
    wrong h = absurd cc

pub field_only : (line : Line) (trains : List ℕ) (i : ℕ) (vs text : List ℕ) (j : ℕ) (y : Event) → event_of line trains i vs ≡ Err j → Says event_forms i vs text → SaysEvent y text → Stands line trains y → ⊥
field_only line trains i vs text j y e s q h = wrong (sym e ∙ event_one line trains i (event_place y) vs (event_values y) text (Ok y) s q h)
  where
    wrong : {j : ℕ} {y : Event} → ◌≡◌ {A = Result Event ℕ} (Err j) (Ok y) → ⊥
    wrong h = absurd cc

pub field_one : (line : Line) (trains : List ℕ) (i : ℕ) (vs text : List ℕ) (j c k : ℕ) → event_of line trains i vs ≡ Err j → Says event_forms i vs text → c ≡ field_column j text → FieldRefused line trains text k → refusal c ≡ refusal k
field_one line trains i vs text j c k e s h f =
    let o = same_err j f.field (sym e ∙ event_one line trains i f.form vs f.values text (Err f.field) s f.says f.refused) in
    ap refusal (h ∙ (ap (λ n. field_column n text) o ∙ sym f.here))

-- a text of a form is not refused by the grammar
pub text_not : (i : ℕ) (vs text : List ℕ) (k : ℕ) → Says event_forms i vs text → length text ≤ most_bytes → IsRefused (IsText event_forms) text k → ⊥
text_not i vs text k s le r = refused_not (IsText event_forms) text k r (record { form = i; values = vs; says = s }) le

pub field_not : (line : Line) (trains : List ℕ) (text : List ℕ) (j k : ℕ) → IsRefused (IsText event_forms) text j → FieldRefused line trains text k → ⊥
field_not line trains text j k r f = text_not f.form f.values text j f.says f.short r

-- by the rows of the table

pub refused_at : (rows : List Row) (text : List ℕ) (r : Result ℕ TextFault) → forms rows ≡ event_forms → IfErr r (λ fault. IsRefused (IsText (forms rows)) text fault.column) → IfErr r (λ fault. IsRefused (IsText event_forms) text fault.column)
refused_at rows text r e h = subst (λ (fs : List Form). IfErr r (λ fault. IsRefused (IsText fs) text fault.column)) e h

pub rows_refuse : (rows : List Row) (text : List ℕ) (k : ℕ) → forms rows ≡ event_forms → IsRefused (IsText event_forms) text k → IsRefused (IsText (forms rows)) text k
rows_refuse rows text k e r = subst (λ (fs : List Form). IsRefused (IsText fs) text k) (sym e) r

-- the event in its place, or the column of a refused field

short_tells : (text : List ℕ) → length text ≤ most_bytes → telling text ≡ text
short_tells text h = take_all (most_bytes + 1) text (omega (arith, h))

pub makes_column : {U : Type 0} (u : U) (text : List ℕ) (field column : ℕ) (says : EventLine) (r : Result Event ℕ) → length text ≤ most_bytes → column ≡ field_column field text → Makes {U = U} (Err field) says r → Makes {U = U} (Err column) says (event_or text r)
makes_column u text field column says (Ok e) short c h = h
makes_column u text field column says (Err k) short c h = c ∙ (ap (λ n. field_column n text) h ∙ ap (field_column k) (sym (short_tells text short)))

pub made_event : {U : Type 0} (u : U) (text : List ℕ) (says : EventLine) (e : Event) (r : Result Event ℕ) → Makes (Ok u) says (event_or text r) → says ≡ tells.Event e → r ≡ Ok e
made_event u text says e (Ok x) h k = cc
made_event u text says e (Err n) h k = absurd h

-- a field is refused, and its column was answered
pub record Refuses (text : List ℕ) (column : ℕ) (r : Result Event ℕ) : Type 0 where
  pub field : ℕ
  pub refused : r ≡ Err field
  pub here : column ≡ field_column field text

pub made_refused : {U : Type 0} (u : U) (text : List ℕ) (says : EventLine) (column : ℕ) (r : Result Event ℕ) → length text ≤ most_bytes → Makes {U = U} (Err column) says (event_or text r) → Refuses text column r
made_refused u text says column (Ok x) short h = absurd h
made_refused u text says column (Err n) short h = record { field = n; refused = refl; here = h ∙ ap (field_column n) (short_tells text short) }

-- reading on lists

pub at_event : (line : Line) (trains : List ℕ) (i : ℕ) (vs text : List ℕ) (e : Event) → form_at event_forms text ≡ Ok (i, vs) → event_of line trains i vs ≡ Ok e → event_at line trains text ≡ Ok e
unfolding event_at
at_event line trains i vs text e f h = rw (f, h) refl

pub at_field : (line : Line) (trains : List ℕ) (i : ℕ) (vs text : List ℕ) (column : ℕ) → length text ≤ most_bytes → form_at event_forms text ≡ Ok (i, vs) → Refuses text column (event_of line trains i vs) → event_at line trains text ≡ Err column
unfolding event_at
at_field line trains i vs text column short f h = rw (f, h.refused, short_tells text short, h.here) refl

pub at_refused : (line : Line) (trains text : List ℕ) (column : ℕ) → form_at event_forms text ≡ Err column → event_at line trains text ≡ Err column
unfolding event_at
at_refused line trains text column f = rw f refl
