use Rattle.std.proofs.Common.{◌≡◌, ◌-◌, ◌≤◌, ◌++◌, length, drop}
use Rattle.definitions.specs.Story.{to_actor}
use Rattle.line_state.specs.Frames.{AllFit}
use Rattle.line_state.proofs.link.post.Given as goal

abbrev pub invariant-loop-receiver : goal.invariant-loop-receiver
invariant-loop-receiver l =
    record {
      room : length l.messages - l.receiver-index ≤ l.link.room;
      fits : AllFit (drop l.receiver-index l.messages);
      posted : l.link.messages ++ to_actor l.actor (drop l.receiver-index l.messages) ≡ l.fn.link.messages ++ to_actor l.actor l.messages;
    }
