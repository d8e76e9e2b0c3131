use Rattle.std.proofs.Common.{◌≡◌, ◌≤◌, ℕ, List, [], length, get_or, refl, sym, ap, subst, ◌∙◌}
use Rattle.text_forms.specs.Forms.{words_of}
use Rattle.form_codec.proofs.Unpacked.{texts_at, no_word}
use Rattle.form_codec.proofs.Word_short.{word_short}
use Rattle.form_codec.proofs.write.word_text.Goals as goal

pub returns-clause-short : goal.returns-clause-short
returns-clause-short c =
    let e : get_or (words_of c.args.words) c.args.v [] ≡ (get_or c.spellings.result.now c.args.v no_word).now =
    ap (λ (xs : List (List ℕ)). get_or xs c.args.v []) (sym c.spellings.ensures.words) ∙ texts_at c.spellings.result.now c.args.v no_word refl in
    subst (λ (xs : List ℕ). length xs ≤ 16) e (word_short c.args.words c.args.v)
