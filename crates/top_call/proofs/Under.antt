-- What a command gave is what is to be given under it.
use Rattle.std.proofs.Common.{ℕ, List, Option, Some, None, IfSome}
use Rattle.edge_io.specs.declared.status.Status.{Status}
use Rattle.definitions.specs.declared.document.Command.{Command}
use Rattle.document_laws.specs.Throughout.{SafeThroughout}
use Rattle.top_call.specs.Running.{Ran}
use Rattle.top_call.specs.Complete.{NeverMessages}
use Rattle.top_call.specs.Commands.{answer_for, Answered}
use Rattle.top_call.proofs.All_safe.{all_safe, no_messages}

pub answered : (c : Command) (s : Status) (left : Option (List ℕ)) (before now : Option (List ℕ)) → Ran c s left before now → Answered s (answer_for (Some c) left) before now
answered c s None before now h = tt
answered c s (Some bytes) before now h = h

pub safe : (left : Option (List ℕ)) → IfSome left SafeThroughout
safe None = tt
safe (Some bytes) = all_safe bytes

pub few : (left : Option (List ℕ)) → IfSome left NeverMessages
few None = tt
few (Some bytes) = no_messages bytes
