use Rattle.std.proofs.Common.{◌≡◌, ℕ, ◌+◌, ◌-◌, ◌<◌, ◌≤◌, ◌∙◌, arith, sym, subst}
use Rattle.definitions.specs.declared.message.Msg.{Msg}
use Rattle.definitions.specs.Frames.{Fits}
use Rattle.line_state.proofs.All_posted.{one_posted, one_passed, all_posted}
use Rattle.line_state.proofs.Read_there.{fit_from}
use Rattle.line_state.proofs.link.post.Goals as goal
use Rattle.line_state.proofs.link.post.Goals.{then-receiver-actor, else-receiver-actor}

room_after : (n m i all : ℕ) → i < all → m ≡ n - 1 → all - i ≤ n → all - (i + 1) ≤ m
room_after n m i all lt less room = omega arith

room_stays : (n i all : ℕ) → all - i ≤ n → all - (i + 1) ≤ n
room_stays n i all room = omega arith

some_room : (n i all : ℕ) → i < all → all - i ≤ n → 0 < n
some_room n i all lt room = omega arith

pub push-requires-clause-room : goal.push-requires-clause-room
push-requires-clause-room c = some_room _ _ _ c.loop-receiver-test.true c.loop-receiver.invariant.room

pub push-requires-clause-fits : goal.push-requires-clause-fits
push-requires-clause-fits c =
    let x = c.loop-receiver-item in
    subst (λ (y : ℕ × Msg). Fits y.1) (sym x.is) (fit_from c.args.messages.now c.loop-receiver.receiver-index x.result c.loop-receiver-test.true c.loop-receiver.invariant.fits).0

pub loop-receiver-preserved : goal.loop-receiver-preserved
loop-receiver-preserved c =
    let l = c.loop-receiver in
    let x = c.loop-receiver-item in
    let fits = (fit_from c.args.messages.now l.receiver-index x.result c.loop-receiver-test.true l.invariant.fits).1 in
    elim c.if-receiver-actor.branch [
      | then-receiver-actor w ↦ rw w.link-is (record {
        room = room_after _ _ _ _ c.loop-receiver-test.true w.push.ensures.room l.invariant.room;
        fits = fits;
        posted = rw w.push.ensures.messages
            (one_posted c.args.actor c.args.messages.now l.receiver-index x.result c.loop-receiver-test.true x.is l.link.messages w.if-receiver-actor.true ∙ l.invariant.posted);
      })
      | else-receiver-actor w ↦ rw w.link-is (record {
        room = room_stays _ _ _ l.invariant.room;
        fits = fits;
        posted = one_passed c.args.actor c.args.messages.now l.receiver-index x.result c.loop-receiver-test.true x.is l.link.messages w.if-receiver-actor.false ∙ l.invariant.posted;
      })
    ]

pub returns : goal.returns
returns c = sym (all_posted c.loop-receiver.link.messages c.args.actor c.args.messages.now c.loop-receiver.receiver-index c.loop-receiver-test.false) ∙ c.loop-receiver.invariant.posted
