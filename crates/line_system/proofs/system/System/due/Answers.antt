use Rattle.line_state.specs.State.{parts, tally}
use Rattle.line_system.proofs.Go_kept.{due_is, due_link, due_few}
use Rattle.line_system.proofs.system.System.due.Goals as goal

pub returns-clause-takes : goal.returns-clause-takes
returns-clause-takes c =
    due_is c.args.self.now c.self.inside.line c.self.inside.events.items (parts c.self.inside.state) (tally c.self.inside.state) c.self.inside.state.zone c.self.view_is c.self.invariant
    c.args.to c.due.result.0 c.due.result.1 c.due.result.2 c.requires c.due.ensures

pub returns-clause-link : goal.returns-clause-link
returns-clause-link c =
    due_link c.args.self.now c.self.inside.line c.self.inside.events.items (parts c.self.inside.state) (tally c.self.inside.state) c.self.inside.state.zone c.self.view_is c.self.invariant
    c.args.to c.due.result.0 c.due.result.1 c.due.result.2 c.requires c.due.ensures

pub returns-clause-few : goal.returns-clause-few
returns-clause-few c =
    due_few c.args.self.now c.self.inside.line c.self.inside.events.items (parts c.self.inside.state) (tally c.self.inside.state) c.self.inside.state.zone c.self.view_is c.self.invariant
    c.args.to c.due.result.0 c.due.result.1 c.due.result.2 c.due.ensures
