-- A document that keeps to the rules is done, one that is refused ends there, and every history is safe.
use Rattle.std.proofs.Common.{◌≡◌, ℕ, ◌+◌, List, [], length, Option, Some, None, refl, ◌∙◌, subst}
use Rattle.edge_io.specs.declared.status.Status.{Status}
use Rattle.edge_io.specs.declared.status.Status.TheVariants as status
use Rattle.definitions.specs.declared.document.Ending.TheVariants as ends
use Rattle.definitions.specs.declared.document.Command.{Command}
use Rattle.definitions.specs.declared.document.Command.TheVariants as is
use Rattle.definitions.specs.Lines.{text_lines}
use Rattle.definitions.specs.Rules.{finish_rule}
use Rattle.definitions.specs.Trace.{Given, trace}
use Rattle.definitions.specs.Endings.{status_of}
use Rattle.document_laws.specs.Throughout.{SafeThroughout}
use Rattle.document_laws.specs.Whole.{whole, checked, lines_ended}
use Rattle.document_laws.specs.Refused.{story_ended, items_ended}
use Rattle.document_laws.proofs.Safe_throughout.{safe_throughout}
use Rattle.document_laws.proofs.Whole.{document_gives, document_gives_nothing, checkable_gives, checkable_gives_items}
use Rattle.document_laws.proofs.Other_ending.{never_messages}
use Rattle.document_laws.proofs.Refused_in_script.{refused_in_script, refused_in_check, refused_among_items, unfinished}
use Rattle.safe_laws.proofs.Safe_story.{safe_story, granted_story}
use Rattle.step_laws.proofs.Invariant_story.{invariant_story}
use Rattle.top_call.specs.Running.{Gave, Ran, Causes}
use Rattle.top_call.specs.Complete.{Completed, NoFault, Complete, CompleteCheck, Settled, RefusesDocument, RefusesChecked, NeverMessages}

-- the trace with its status, where no fault was counted
settled : (s : Status) (g : Given) (before now : Option (List ℕ)) (r0 r w0 w : ℕ) → Gave s g before now → Causes s r0 r w0 w → NoFault r0 r w0 w → Settled s g before now
settled status.Read g before now r0 r w0 w h c n = absurd (n.read c.1)
settled status.Write g before now r0 r w0 w h c n = absurd (n.wrote c.2)
settled status.Memory g before now r0 r w0 w h c n = tt
settled _ g before now r0 r w0 w h c n = h

-- what a command gave, which is known
given : (s : Status) (c : Command) (bytes : List ℕ) (before now : Option (List ℕ)) (r0 r w0 w : ℕ) → Gave s (trace c bytes) before now → Causes s r0 r w0 w → NoFault r0 r w0 w → (g : Given) → trace c bytes ≡ g → Settled s g before now
given s c bytes before now r0 r w0 w h k n g e = settled s g before now r0 r w0 w (subst (λ (x : Given). Gave s x before now) e h) k n

done : (s : Status) (g : Given) (before now : Option (List ℕ)) → Settled s g before now → status_of g.ending ≡ status.Done → Completed s g before now
done status.Memory g before now h e = tt
done _ g before now h e = (h.0 ∙ e, h.1)

pub complete : (s : Status) (left : Option (List ℕ)) (before now : Option (List ℕ)) (r0 r w0 w : ℕ) → Ran is.Run s left before now → Causes s r0 r w0 w → Complete s left before now r0 r w0 w
complete s None before now r0 r w0 w h c = tt
complete s (Some bytes) before now r0 r w0 w h c = λ n. record {
  script = λ items events d. done s (whole items events) before now (given s is.Run bytes before now r0 r w0 w h c n (whole items events) (document_gives bytes items events d)) refl;
  line = λ items d. done s (whole items []) before now (given s is.Run bytes before now r0 r w0 w h c n (whole items []) (document_gives_nothing bytes items d)) refl;
}

pub complete_check : (s : Status) (left : Option (List ℕ)) (before now : Option (List ℕ)) (r0 r w0 w : ℕ) → Ran is.Check s left before now → Causes s r0 r w0 w → CompleteCheck s left before now r0 r w0 w
complete_check s None before now r0 r w0 w h c = tt
complete_check s (Some bytes) before now r0 r w0 w h c = λ n. record {
  script = λ items events d. done s (checked bytes events) before now (given s is.Check bytes before now r0 r w0 w h c n (checked bytes events) (checkable_gives bytes items events d)) refl;
  line = λ items d. done s (checked bytes []) before now (given s is.Check bytes before now r0 r w0 w h c n (checked bytes []) (checkable_gives_items bytes items d)) refl;
}

pub refuses : (s : Status) (left : Option (List ℕ)) (before now : Option (List ℕ)) (r0 r w0 w : ℕ) → Ran is.Run s left before now → Causes s r0 r w0 w → RefusesDocument s left before now r0 r w0 w
refuses s None before now r0 r w0 w h c = tt
refuses s (Some bytes) before now r0 r w0 w h c = λ n. record {
  in_script = λ items events history ending d. given s is.Run bytes before now r0 r w0 w h c n (story_ended items history ending) (refused_in_script bytes items events history ending d);
  among_items = λ items ending d. given s is.Run bytes before now r0 r w0 w h c n (items_ended is.Run d.before ending) (refused_among_items is.Run bytes items ending d);
  unfinished = λ items d.
      given s is.Run bytes before now r0 r w0 w h c n (items_ended is.Run (text_lines bytes) (ends.Rule (length (text_lines bytes) + 1) (finish_rule items))) (unfinished is.Run bytes items d);
}

pub refuses_check : (s : Status) (left : Option (List ℕ)) (before now : Option (List ℕ)) (r0 r w0 w : ℕ) → Ran is.Check s left before now → Causes s r0 r w0 w → RefusesChecked s left before now r0 r w0 w
refuses_check s None before now r0 r w0 w h c = tt
refuses_check s (Some bytes) before now r0 r w0 w h c = λ n. record {
  in_script = λ items events ending d. given s is.Check bytes before now r0 r w0 w h c n (lines_ended d.before ending) (refused_in_check bytes items events ending d);
  among_items = λ items ending d. given s is.Check bytes before now r0 r w0 w h c n (items_ended is.Check d.before ending) (refused_among_items is.Check bytes items ending d);
  unfinished = λ items d.
      given s is.Check bytes before now r0 r w0 w h c n (items_ended is.Check (text_lines bytes) (ends.Rule (length (text_lines bytes) + 1) (finish_rule items))) (unfinished is.Check bytes items d);
}

-- the history that any bytes are is safe after each of its events, and each event added what it granted
pub all_safe : (bytes : List ℕ) → SafeThroughout bytes
all_safe bytes = safe_throughout (λ line events l k n. record { safe = safe_story line events l k n (λ t ts h. invariant_story line t ts l h); granted = granted_story line events l k (λ t ts h. invariant_story line t ts l h) }) bytes

pub no_messages : (bytes : List ℕ) → NeverMessages bytes
no_messages bytes c h = never_messages c bytes h
