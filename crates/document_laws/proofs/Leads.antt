-- Where text lines lead, and what they give.
use Rattle.std.proofs.Common.{◌≡◌, ℕ, ◌+◌, ◌≤◌, List, [], ◌∷◌, ◌++◌, length, false, refl, sym, ◌∙◌, ap, append_assoc, append-nil, length-append, arith}
use Rattle.std.proofs.lemmas.Bool.{le-ltb}
use Rattle.std.specs.Prelude.{nat_eq}
use Rattle.list_laws.proofs.By_test.{by_test}
use Rattle.definitions.specs.declared.document.Command.{Command}
use Rattle.definitions.specs.declared.document.Ending.{Ending}
use Rattle.definitions.specs.Lines.{text_lines, text_of, onto_first}
use Rattle.definitions.specs.Trace.{Stage, Over, Reading, After, Step, counted, start, is_over, input_limit, text_read, line_read, stage_read, stage_ends, behind, ended, given}
use Rattle.byte_feed.specs.Feed.{lines_text}
use Rattle.byte_feed.proofs.Feds_append.{behind_behind}
use Rattle.byte_feed.proofs.Trace_fed.{given_over}
use Rattle.document_laws.specs.Throughout.{stands}

-- the bytes of text lines
unfoldable pub bytes_of : List (List ℕ) → ℕ
bytes_of [] = 0
bytes_of (line ∷ lines) = length line + bytes_of lines

bytes_onto : (b : ℕ) (lines : List (List ℕ)) → bytes_of (onto_first b lines) ≡ bytes_of lines + 1
unfolding bytes_of
bytes_onto b [] = refl
bytes_onto b (line ∷ lines) = omega arith

pub bytes_same : (bytes : List ℕ) → bytes_of (text_lines bytes) ≡ length bytes
unfolding bytes_of text_lines
bytes_same [] = refl
bytes_same (b ∷ bytes) = by_test (nat_eq b 10)
    (λ y. rw y (omega (arith, bytes_same bytes)))
    (λ n. rw n (omega (arith, bytes_onto b (text_lines bytes), bytes_same bytes)))

-- a text line within the limit is read
reads : (r : Reading) (line : List ℕ) → is_over r.stage ≡ false → r.bytes + length line ≤ input_limit → line_read r line ≡ counted r (length line) (stage_read r.command (r.number + 1) r.stage (text_of line))
unfolding text_read
reads r line on within = rw (on, le-ltb input_limit (r.bytes + length line) within) refl

-- where some text lines lead, and what they give
pub record Leads (r : Reading) (lines : List (List ℕ)) (s : Stage) (text : List ℕ) : Type 0 where
  pub command : (stands r lines).command ≡ r.command
  pub number : (stands r lines).number ≡ r.number + length lines
  pub bytes : (stands r lines).bytes ≡ r.bytes + bytes_of lines
  pub stage : (stands r lines).stage ≡ s
  pub wrote : lines_text r lines ≡ text

pub leads_nowhere : (r : Reading) → Leads r [] r.stage []
unfolding stands lines_text bytes_of
leads_nowhere r = record { command = refl; number = omega arith; bytes = omega arith; stage = refl; wrote = refl }

-- one text line more, in front
pub leads_more : (r : Reading) (s s2 : Stage) (line : List ℕ) (lines : List (List ℕ)) (x : After) (text : List ℕ) → r.stage ≡ s → is_over s ≡ false → r.bytes + length line ≤ input_limit → stage_read r.command (r.number + 1) s (text_of line) ≡ x
    → Leads (counted r (length line) x).next lines s2 text → Leads r (line ∷ lines) s2 (x.text ++ text)
unfolding stands lines_text bytes_of
leads_more r s s2 line lines x text at on within is k =
    let e : line_read r line ≡ counted r (length line) x =
    reads r line (ap is_over at ∙ on) within ∙ ap (counted r (length line)) (ap (λ (y : Stage). stage_read r.command (r.number + 1) y (text_of line)) at ∙ is) in
    let n = k.number in
    let b = k.bytes in
    let next : stands (line_read r line).next lines ≡ stands (counted r (length line) x).next lines = ap (λ (y : Step). stands y.next lines) e in
    record {
      command = ap (λ (y : Reading). y.command) next ∙ k.command;
      number = ap (λ (y : Reading). y.number) next ∙ omega (arith, n);
      bytes = ap (λ (y : Reading). y.bytes) next ∙ omega (arith, b);
      stage = ap (λ (y : Reading). y.stage) next ∙ k.stage;
      wrote = ap (λ (y : Step). y.text ++ lines_text y.next lines) e ∙ ap (λ (t : List ℕ). x.text ++ t) k.wrote;
    }

-- Text lines, and more after them.

stands_front : (lines rest : List (List ℕ)) (r : Reading) → stands r (lines ++ rest) ≡ stands (stands r lines) rest
unfolding stands
stands_front [] rest r = refl
stands_front (l ∷ ls) rest r = stands_front ls rest (line_read r l).next

wrote_front : (lines rest : List (List ℕ)) (r : Reading) → lines_text r (lines ++ rest) ≡ lines_text r lines ++ lines_text (stands r lines) rest
unfolding stands lines_text
wrote_front [] rest r = refl
wrote_front (l ∷ ls) rest r =
    ap (λ (t : List ℕ). (line_read r l).text ++ t) (wrote_front ls rest (line_read r l).next)
    ∙ sym (append_assoc (line_read r l).text (lines_text (line_read r l).next ls) (lines_text (stands (line_read r l).next ls) rest))

pub bytes_front : (lines rest : List (List ℕ)) → bytes_of (lines ++ rest) ≡ bytes_of lines + bytes_of rest
unfolding bytes_of
bytes_front [] rest = omega arith
bytes_front (l ∷ ls) rest = let i = bytes_front ls rest in omega (arith, i)

pub leads_then : (r : Reading) (lines rest : List (List ℕ)) (s s2 : Stage) (text text2 : List ℕ) → Leads r lines s text → Leads (stands r lines) rest s2 text2 → Leads r (lines ++ rest) s2 (text ++ text2)
leads_then r lines rest s s2 text text2 k m =
    let next = stands_front lines rest r in
    let kn = k.number in
    let kb = k.bytes in
    let mn = m.number in
    let mb = m.bytes in
    record {
      command = ap (λ (y : Reading). y.command) next ∙ (m.command ∙ k.command);
      number = ap (λ (y : Reading). y.number) next ∙ omega (arith, kn, mn, length-append lines rest);
      bytes = ap (λ (y : Reading). y.bytes) next ∙ omega (arith, kb, mb, bytes_front lines rest);
      stage = ap (λ (y : Reading). y.stage) next ∙ m.stage;
      wrote = wrote_front lines rest r ∙ (ap (λ (t : List ℕ). t ++ lines_text (stands r lines) rest) k.wrote ∙ ap (λ (t : List ℕ). text ++ t) m.wrote);
    }

-- Text lines, and what follows them.

given_front : (lines rest : List (List ℕ)) (r : Reading) → given r (lines ++ rest) ≡ behind (lines_text r lines) (given (stands r lines) rest)
unfolding given stands lines_text
given_front [] rest r = refl
given_front (l ∷ ls) rest r =
    ap (behind (line_read r l).text) (given_front ls rest (line_read r l).next)
    ∙ sym (behind_behind (line_read r l).text (lines_text (line_read r l).next ls) (given (stands (line_read r l).next ls) rest))

given_next : (r : Reading) (line : List ℕ) (lines : List (List ℕ)) → given r (line ∷ lines) ≡ behind (line_read r line).text (given (line_read r line).next lines)
unfolding given
given_next r line lines = refl

given_none : (r : Reading) → given r [] ≡ ended (stage_ends r.number r.stage)
unfolding given
given_none r = refl

-- a document whose last text line is the last of these
pub ends_behind : (c : Command) (lines : List (List ℕ)) (s : Stage) (text : List ℕ) (ending : Ending) → Leads (start c) lines s text → stage_ends (length lines) s ≡ ending → given (start c) lines ≡ behind text (ended ending)
ends_behind c lines s text ending k is =
    let r = stands (start c) lines in
    let n : r.number ≡ length lines = let e = k.number in omega (arith, e) in
    ap (given (start c)) (sym (append-nil lines))
    ∙ (given_front lines [] (start c)
    ∙ (ap (λ (t : List ℕ). behind t (given r [])) k.wrote
    ∙ ap (behind text) (given_none r ∙ ap ended (ap (λ (m : ℕ). stage_ends m r.stage) n ∙ (ap (stage_ends (length lines)) k.stage ∙ is)))))

bytes_first : (line : List ℕ) (lines : List (List ℕ)) → length line ≤ bytes_of (line ∷ lines)
unfolding bytes_of
bytes_first line lines = omega arith

over_ends : (n : ℕ) (ending : Ending) → stage_ends n (Over ending) ≡ ending
unfolding stage_ends
over_ends n ending = refl

-- a text line that ends a document
pub ends_here : (c : Command) (before more : List (List ℕ)) (last : List ℕ) (s : Stage) (text : List ℕ) (x : After) (ending : Ending) → Leads (start c) before s text → is_over s ≡ false → bytes_of (before ++ last ∷ more) ≤ input_limit
    → stage_read c (length before + 1) s (text_of last) ≡ x → x.stage ≡ Over ending → given (start c) (before ++ last ∷ more) ≡ behind text (behind x.text (ended ending))
ends_here c before more last s text x ending k on within is over =
    let r = stands (start c) before in
    let n : r.number ≡ length before = let e = k.number in omega (arith, e) in
    let b = k.bytes in
    let all = bytes_front before (last ∷ more) in
    let one = bytes_first last more in
    let e : line_read r last ≡ counted r (length last) x =
    reads r last (ap is_over k.stage ∙ on) (omega (arith, b, all, one, within))
    ∙ ap (counted r (length last)) (ap (λ (d : Command). stage_read d (r.number + 1) r.stage (text_of last)) k.command
    ∙ (ap (λ (m : ℕ). stage_read c (m + 1) r.stage (text_of last)) n ∙ (ap (λ (y : Stage). stage_read c (length before + 1) y (text_of last)) k.stage ∙ is))) in
    given_front before (last ∷ more) (start c)
    ∙ (ap (behind (lines_text (start c) before)) (given_next r last more
    ∙ (ap (λ y. behind y.text (given y.next more)) e
    ∙ ap (behind x.text) (given_over (counted r (length last) x).next more (ap is_over over) ∙ ap ended (ap (stage_ends (r.number + 1)) over ∙ over_ends (r.number + 1) ending))))
    ∙ ap (λ (t : List ℕ). behind t (behind x.text (ended ending))) k.wrote)
