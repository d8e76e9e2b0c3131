use Rattle.form_codec.proofs.tokens.+digits.Given as goal

abbrev pub decreases-digits : goal.decreases-digits
decreases-digits l = l.more
