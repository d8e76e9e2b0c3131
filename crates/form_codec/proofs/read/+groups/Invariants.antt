use Rattle.form_codec.proofs.read.+groups.Given as goal

abbrev pub decreases-groups : goal.decreases-groups
decreases-groups l = l.most
