-- Where text lines lead that say items and the word, under each command.
use Rattle.std.proofs.Common.{◌≡◌, ℕ, ◌+◌, ◌≤◌, List, [], ◌∷◌, ◌++◌, length, map, true, false, refl, sym, ◌∙◌, ap, subst, append_assoc, append-nil, arith}
use Rattle.std.proofs.lemmas.Bool.{and_parts}
use Rattle.std.specs.Prelude.{nat_eq, count_by}
use Rattle.std.specs.List.{list_any}
use Rattle.list_laws.proofs.By_test.{by_test}
use Rattle.definitions.specs.declared.item.Item.{Item}
use Rattle.definitions.specs.declared.item.Item.TheVariants.{Zone, Segment, Joint, Portal, Buffer, Brake, Silent}
use Rattle.definitions.specs.declared.event.Event.{Event}
use Rattle.definitions.specs.declared.document.Command.{Command}
use Rattle.definitions.specs.declared.document.ItemLine.{ItemLine}
use Rattle.definitions.specs.declared.document.ItemLine.TheVariants as says
use Rattle.definitions.specs.Lines.{text_of}
use Rattle.definitions.specs.Grammar.{item_line_of}
use Rattle.definitions.specs.Rules.{rule_of, finish_rule, is_any_zone, builds}
use Rattle.definitions.specs.Trace.{Stage, Items, Reading, After, counted, quiet, again, begun, start, input_limit, among_items, stage_read, second_zone}
use Rattle.document_laws.specs.Throughout.{stands}
use Rattle.document_laws.specs.Whole.{saying_item, said_items, SayItems, SayScript}
use Rattle.document_laws.proofs.Safe_throughout.{zones_append}
use Rattle.document_laws.proofs.Leads.{bytes_of, bytes_front, Leads, leads_nowhere, leads_more, leads_then}
use Rattle.document_laws.proofs.Written.{says_nothing, passed_says, written, written_none, passed_written, said_written}

some_counted : (items : List Item) → count_by is_any_zone items ≡ 0 → list_any is_any_zone items ≡ false
some_counted items c = by_test (list_any is_any_zone items) (λ y. absurd (none items y c)) (λ n. n)
  where
    none : (xs : List Item) → list_any is_any_zone xs ≡ true → count_by is_any_zone xs ≡ 0 → ⊥
    none [] y e = absurd cc
    none (Zone z ∷ xs) y e = omega (arith, e, zones_append (Zone z ∷ []) xs)
    none (Segment a z len ∷ xs) y e = none xs y e
    none (Joint a b ∷ xs) y e = none xs y e
    none (Portal a ∷ xs) y e = none xs y e
    none (Buffer a ∷ xs) y e = none xs y e
    none (Brake ticks runaway rate ∷ xs) y e = none xs y e
    none (Silent ms ∷ xs) y e = none xs y e

-- an item among others of which at most one is a zone is no second zone
pub no_second : (before : List Item) (i : Item) (items : List Item) → count_by is_any_zone (before ++ i ∷ items) ≤ 1 → second_zone before i ≡ false
no_second before (Zone z) items c = some_counted before (omega (arith, c, zones_append before (Zone z ∷ items), zones_append (Zone z ∷ []) items))
no_second before (Segment s z len) items c = refl
no_second before (Joint a b) items c = refl
no_second before (Portal a) items c = refl
no_second before (Buffer a) items c = refl
no_second before (Brake ticks runaway rate) items c = refl
no_second before (Silent ms) items c = refl

-- A text line among the items, by what it says.

items_read : (c d : Command) (n : ℕ) (items : List Item) (text : List ℕ) (t : ItemLine) → d ≡ c → item_line_of text ≡ t → stage_read d n (Items items) text ≡ among_items c n items text t
unfolding stage_read
items_read c d n items text t same is = ap (λ (e : Command). among_items e n items text (item_line_of text)) same ∙ ap (among_items c n items text) is

item_goes : (c : Command) (n : ℕ) (before : List Item) (text : List ℕ) (i : Item) → second_zone before i ≡ false → nat_eq (rule_of before i) 0 ≡ true → among_items c n before text (says.Item i) ≡ record { stage = Items (before ++ i ∷ []); text = again c text }
item_goes c n before text i s h = rw (s, h) refl

script_goes : (c : Command) (n : ℕ) (items : List Item) (text : List ℕ) → finish_rule items ≡ 0 → among_items c n items text says.Script ≡ record { stage = begun c items; text = again c text }
script_goes c n items text h = rw h refl

-- Items.

abbrev Leads_alone : Command → List (List ℕ) → Type 0
Leads_alone c lines = (r : Reading) (before items : List Item) → r.command ≡ c → r.stage ≡ Items before → SayItems lines items → builds before items ≡ true → count_by is_any_zone (before ++ items) ≤ 1 → r.bytes + bytes_of lines ≤ input_limit → Leads r lines (Items (before ++ items)) (written c lines)

item_alone : (c : Command) (l : List ℕ) (ls : List (List ℕ)) → Leads_alone c ls → (t : ItemLine) → item_line_of (text_of l) ≡ t → (r : Reading) (before items : List Item) → r.command ≡ c → r.stage ≡ Items before → saying_item t (said_items ls) ≡ map says.Item items → builds before items ≡ true → count_by is_any_zone (before ++ items) ≤ 1 → r.bytes + (length l + bytes_of ls) ≤ input_limit
    → Leads r (l ∷ ls) (Items (before ++ items)) (written c (l ∷ ls))
unfolding builds
item_alone c l ls ih says.Passed is r before items by at says_ ok one within =
    subst (λ (text : List ℕ). Leads r (l ∷ ls) (Items (before ++ items)) text) (sym (passed_written c l ls (passed_says (text_of l) ∙ ap says_nothing is)))
    (leads_more r (Items before) (Items (before ++ items)) l ls (quiet (Items before)) (written c ls) at refl (omega (arith, within))
    (items_read c r.command (r.number + 1) before (text_of l) says.Passed by is)
    (ih (counted r (length l) (quiet (Items before))).next before items by refl says_ ok one (omega (arith, within))))
item_alone c l ls ih (says.Item i) is r before [] by at says_ ok one within = absurd cc
item_alone c l ls ih (says.Item i) is r before (j ∷ items) by at says_ ok one within =
    let same : i ≡ j = cc in
    let more : said_items ls ≡ map says.Item items = cc in
    let x : After = record { stage = Items (before ++ j ∷ []); text = again c (text_of l) } in
    let k = and_parts (nat_eq (rule_of before j) 0) (builds (before ++ j ∷ []) items) ok in
    let joined : (before ++ j ∷ []) ++ items ≡ before ++ j ∷ items = append_assoc before (j ∷ []) items in
    subst (λ (text : List ℕ). Leads r (l ∷ ls) (Items (before ++ j ∷ items)) text) (sym (said_written c l ls (passed_says (text_of l) ∙ ap says_nothing is)))
    (subst (λ (is_ : List Item). Leads r (l ∷ ls) (Items is_) (again c (text_of l) ++ written c ls)) joined
    (leads_more r (Items before) (Items ((before ++ j ∷ []) ++ items)) l ls x (written c ls) at refl (omega (arith, within))
    (items_read c r.command (r.number + 1) before (text_of l) (says.Item j) by (is ∙ ap says.Item same) ∙ item_goes c (r.number + 1) before (text_of l) j (no_second before j items one) k.0)
    (ih (counted r (length l) x).next (before ++ j ∷ []) items by refl more k.1 (subst (λ (is_ : List Item). count_by is_any_zone is_ ≤ 1) (sym joined) one) (omega (arith, within)))))
item_alone c l ls ih says.Unbuilt is r before [] by at says_ ok one within = absurd cc
item_alone c l ls ih says.Unbuilt is r before (j ∷ items) by at says_ ok one within = absurd cc
item_alone c l ls ih says.Script is r before [] by at says_ ok one within = absurd cc
item_alone c l ls ih says.Script is r before (j ∷ items) by at says_ ok one within = absurd cc
item_alone c l ls ih says.Plan is r before [] by at says_ ok one within = absurd cc
item_alone c l ls ih says.Plan is r before (j ∷ items) by at says_ ok one within = absurd cc
item_alone c l ls ih (says.Fault column) is r before [] by at says_ ok one within = absurd cc
item_alone c l ls ih (says.Fault column) is r before (j ∷ items) by at says_ ok one within = absurd cc

pub items_lead : (c : Command) (lines : List (List ℕ)) → Leads_alone c lines
unfolding said_items bytes_of
items_lead c [] r before [] by at says_ ok one within =
    subst (λ (text : List ℕ). Leads r [] (Items (before ++ [])) text) (sym (written_none c)) (subst (λ (s : Stage). Leads r [] s []) (at ∙ ap Items (sym (append-nil before))) (leads_nowhere r))
items_lead c [] r before (i ∷ items) by at says_ ok one within = absurd cc
items_lead c (l ∷ ls) r before items by at says_ ok one within = item_alone c l ls (items_lead c ls) (item_line_of (text_of l)) refl r before items by at says_ ok one within

-- Items, the word, and what the text lines behind it lead to.

pub script_leads : (c : Command) (lines : List (List ℕ)) (items : List Item) (events : List Event) (d : SayScript lines items events) (s : Stage) (text : List ℕ) → builds [] items ≡ true → count_by is_any_zone items ≤ 1 → finish_rule items ≡ 0 → bytes_of lines ≤ input_limit
    → ((r : Reading) → r.command ≡ c → r.stage ≡ begun c items → r.bytes + bytes_of d.back ≤ input_limit → Leads r d.back s text)
    → Leads (start c) lines s (written c d.front ++ (again c (text_of d.word) ++ text))
unfolding bytes_of
script_leads c lines items events d s text ok one fin within back =
    let all : bytes_of lines ≡ bytes_of d.front + bytes_of (d.word ∷ d.back) = ap bytes_of d.parts ∙ bytes_front d.front (d.word ∷ d.back) in
    let k = items_lead c d.front (start c) [] items refl refl d.items_said ok one (omega (arith, all, within)) in
    let r = stands (start c) d.front in
    let b = k.bytes in
    let x : After = record { stage = begun c items; text = again c (text_of d.word) } in
    subst (λ (ls : List (List ℕ)). Leads (start c) ls s (written c d.front ++ (again c (text_of d.word) ++ text))) (sym d.parts)
    (leads_then (start c) d.front (d.word ∷ d.back) (Items items) s (written c d.front) (again c (text_of d.word) ++ text) k
    (leads_more r (Items items) s d.word d.back x text k.stage refl (omega (arith, all, b, within))
    (items_read c r.command (r.number + 1) items (text_of d.word) says.Script k.command d.word_said ∙ script_goes c (r.number + 1) items (text_of d.word) fin)
    (back (counted r (length d.word) x).next k.command refl (omega (arith, all, b, within)))))
