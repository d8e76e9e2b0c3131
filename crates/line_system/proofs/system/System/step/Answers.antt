use Rattle.std.proofs.Common.{◌≡◌, ◌<◌, length, ap, ◌∙◌, List, reverse, arith, None}
use Rattle.std.proofs.lemmas.List.{length-reverse}
use Rattle.definitions.specs.declared.event.Event.{Event}
use Rattle.definitions.specs.Steps.{Effect, story_of}
use Rattle.definitions.specs.Track.{Line}
use Rattle.definitions.specs.Trace.{no_room}
use Rattle.event_laws.proofs.Comes_kept.{room_left}
use Rattle.line_system.specs.History.{History}
use Rattle.line_state.specs.State.{parts, tally}
use Rattle.line_system.proofs.Go_kept.{Goes, goes_same, kept_same, go_kept, go_lines, go_premise, go_fits, go_form, go_range, go_frames, go_count, go_issued}
use Rattle.line_system.proofs.system.System.step.Goals as goal

few_events : (h : History) (line : Line) (xs : List Event) → record { line = line; events = reverse xs } ≡ h → no_room h.events (story_of h.line h.events) ≡ None → length xs < 200000
few_events h line xs view room =
    let n = length-reverse xs in
    let same = ap (λ (g : History). length g.events) view in
    let few = room_left h.line h.events room in
    omega arith

pub step-requires : goal.step-requires
step-requires c =
    let m = c.make_room.ensures in
    let g : Goes c.args.self.now c.self.inside.line c.make_room.new.events.items (parts c.make_room.new.state) (tally c.make_room.new.state) c.make_room.new.state.zone c.args.event.now =
    goes_same c.args.self.now _ _ _ _ _ _ _ _ _ c.args.event.now c.self.view_is c.self.invariant (few_events c.args.self.now _ _ c.self.view_is c.requires.room)
    m.events m.parts m.tally m.zone c.requires.built c.requires.within c.requires.kept in
    record {
      empty = c.clear.ensures;
      on_line = g.keeps.on_line;
      world_on = g.keeps.world_on;
      fits = go_fits _ _ _ _ _ _ _ g;
      built = go_form _ _ _ _ _ _ _ g;
      kept = go_premise _ _ _ _ _ _ _ g;
      range = go_range _ _ _ _ _ _ _ g;
      frames = go_frames _ _ _ _ _ _ _ g;
      room = c.in_ok-make_room.ensures.messages;
      count = go_count _ _ _ _ _ _ _ g;
    }

pub invariant_of-self : goal.invariant_of-self
invariant_of-self c = let m = c.make_room.ensures in kept_same _ _ _ _ _ _ _ _ _ m.events m.parts m.tally m.zone c.self.invariant

pub invariant_of-self-2 : goal.invariant_of-self-2
invariant_of-self-2 c =
    let m = c.make_room.ensures in
    let g : Goes c.args.self.now c.self.inside.line c.make_room.new.events.items (parts c.make_room.new.state) (tally c.make_room.new.state) c.make_room.new.state.zone c.args.event.now =
    goes_same c.args.self.now _ _ _ _ _ _ _ _ _ c.args.event.now c.self.view_is c.self.invariant (few_events c.args.self.now _ _ c.self.view_is c.requires.room)
    m.events m.parts m.tally m.zone c.requires.built c.requires.within c.requires.kept in
    go_kept _ _ _ _ _ _ _ g _ _ _ _ _ c.keep.ensures c.step.ensures.next c.step.ensures.gives c.step.ensures.tally c.step.ensures.on_line c.step.ensures.world_on

pub returns-clause-lines : goal.returns-clause-lines
returns-clause-lines c =
    let m = c.make_room.ensures in
    let g : Goes c.args.self.now c.self.inside.line c.make_room.new.events.items (parts c.make_room.new.state) (tally c.make_room.new.state) c.make_room.new.state.zone c.args.event.now =
    goes_same c.args.self.now _ _ _ _ _ _ _ _ _ c.args.event.now c.self.view_is c.self.invariant (few_events c.args.self.now _ _ c.self.view_is c.requires.room)
    m.events m.parts m.tally m.zone c.requires.built c.requires.within c.requires.kept in
    ap (λ (x : Effect). x.lines) c.step.ensures.gives ∙ go_lines _ _ _ _ _ _ _ g

pub returns-clause-issued : goal.returns-clause-issued
returns-clause-issued c =
    let m = c.make_room.ensures in
    let g : Goes c.args.self.now c.self.inside.line c.make_room.new.events.items (parts c.make_room.new.state) (tally c.make_room.new.state) c.make_room.new.state.zone c.args.event.now =
    goes_same c.args.self.now _ _ _ _ _ _ _ _ _ c.args.event.now c.self.view_is c.self.invariant (few_events c.args.self.now _ _ c.self.view_is c.requires.room)
    m.events m.parts m.tally m.zone c.requires.built c.requires.within c.requires.kept in
    ap (λ (x : Effect). x.issued) c.step.ensures.gives ∙ go_issued _ _ _ _ _ _ _ g
