-- What the plain state needs of a story of admitted events besides the invariant.
use Rattle.std.proofs.Common.{◌≡◌, ◌∷◌, List, [], true, subst, sym, arith}
use Rattle.definitions.specs.declared.event.Event.{Event}
use Rattle.definitions.specs.declared.message.Msg.{Msg}
use Rattle.definitions.specs.declared.message.Msg.TheVariants as msg
use Rattle.definitions.specs.declared.message.Order.{Order}
use Rattle.definitions.specs.declared.message.Order.TheVariants as orders_
use Rattle.definitions.specs.Track.{Line}
use Rattle.definitions.specs.Rules.{is_line}
use Rattle.definitions.specs.Premises.{built}
use Rattle.definitions.specs.Story.{Story}
use Rattle.definitions.specs.Steps.{effects, story_of}
use Rattle.definitions.specs.Safe.{Kept}
use Rattle.event_laws.proofs.Issued_all.{AllIssued}
use Rattle.event_laws.proofs.Admitted.{admitted}
use Rattle.event_laws.proofs.By_does.{effect_event}
use Rattle.safe_laws.proofs.Segment_ranges.{segment_ranges}
use Rattle.refinement_laws.proofs.Pace_now.{AllPaced, pace_start, pace_step}
use Rattle.refinement_laws.proofs.Closed_now.{IsPlaced, OrderPlaced}
use Rattle.refinement_laws.proofs.Order_true.{IsOnLine, OrderTrue, orders_start, orders_step}

-- the pace of each train tells its speed, and each order is on a segment of the line
pub record KeptStory (line : Line) (s : Story) : Type 0 where
  pub paced : AllPaced s
  pub orders : AllIssued (OrderTrue line) s

pub kept_story : (line : Line) (es : List Event) → Kept line es → KeptStory line (story_of line es)
unfolding story_of Kept
kept_story line [] k = record { paced = pace_start; orders = orders_start line }
kept_story line (e ∷ es) k =
    let s : Story = story_of line es in
    let before : KeptStory line s = kept_story line es k.1 in
    let form = (admitted line s e k.0).form in
    let same : built line s (effects line s e).event ≡ true = subst (λ (x : Event). built line s x ≡ true) (sym (effect_event line s e)) form in
    record {
      paced = λ t. pace_step line t s (effects line s e) same (before.paced t);
      orders = orders_step line s e form before.orders;
    }

-- a segment of the line has a place among those that a zone keeps

order_placed : (line : Line) (order : Order) → is_line line ≡ true → IsOnLine line order → IsPlaced 32768 order
order_placed line (orders_.Close seg) valid h = let most = (segment_ranges line seg.0 valid h).most in omega (arith, most)
order_placed line (orders_.Open seg) valid h = let most = (segment_ranges line seg.0 valid h).most in omega (arith, most)
order_placed line _ valid h = tt

pub placed_of : (line : Line) (m : Msg) → is_line line ≡ true → OrderTrue line m → OrderPlaced 32768 m
placed_of line (msg.Order time order) valid h = order_placed line order valid h
placed_of line _ valid h = tt
