use Rattle.std.proofs.Common.{◌+◌, ◌-◌, subst, arith, slice_index_or}
use Rattle.definitions.specs.EventFields.{moves_of}
use Rattle.script_text.specs.Sees.{Puts}
use Rattle.script_text.proofs.Moves_put.{moves_put, later_all}
use Rattle.script_text.proofs.fields.+add_moves.Goals as goal

pub returns-else-mm-gt3600000 : goal.returns-else-mm-gt3600000
returns-else-mm-gt3600000 g t c =
    let trains = g.T.DeclaredTrains.known c.args.trains.now in
    moves_put trains c.args.more c.args.last c.args.field c.args.values.now c.args.moves.now.items c.push.new.self.items c.add_moves.new.moves.items c.add_moves.result
    c.in-len2-up.len_at_least (omega arith) (cc) (omega arith) (omega arith) c.push.ensures.items
    (subst (λ vs. Puts c.push.new.self.items c.add_moves.new.moves.items c.add_moves.result (moves_of trains (c.args.more - 1) (slice_index_or c.args.values.now 0 0) (c.args.field + 2) vs)) (later_all c.args.values.now) c.add_moves.ensures)
