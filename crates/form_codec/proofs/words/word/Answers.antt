use Rattle.form_codec.proofs.Unpacked.{word_within, word_some, word_none}
use Rattle.form_codec.proofs.words.word.Goals as goal

pub split_at-requires : goal.split_at-requires
split_at-requires c = word_within c.args.words.now c.args.bytes.now c.find-k.result c.find-k.ensures.value c.if-k-words.true

pub returns-then-k-words : goal.returns-then-k-words
returns-then-k-words c = word_some c.args.words.now c.args.bytes.now c.split_at.result.1.now c.find-k.result c.find-k.ensures.value c.if-k-words.true c.split_at.ensures.back

pub returns-else-k-words : goal.returns-else-k-words
returns-else-k-words c = word_none c.args.words.now c.args.bytes.now c.find-k.result c.best.result c.find-k.ensures.value c.if-k-words.false c.best.ensures.value
