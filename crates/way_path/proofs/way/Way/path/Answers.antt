use Rattle.way_path.proofs.way.Way.path.Goals as goal

pub returns-clause-way : goal.returns-clause-way
returns-clause-way c = rw (← c.self.view_is) c.self.invariant
