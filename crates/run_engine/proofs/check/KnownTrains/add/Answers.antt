use Rattle.std.proofs.Common.{◌≤◌, sym, subst, ℕ}
use Rattle.run_engine.proofs.Known_more.{known_more, one_longer}
use Rattle.run_engine.proofs.check.KnownTrains.add.Goals as goal

pub invariant_of-self : goal.invariant_of-self
invariant_of-self c =
    let put = c.push_reserved.ensures in
    let known = c.self.invariant in
    (known_more _ _ _ _ _ _ known.0 c.put.ensures put.items, one_longer _ _ _ _ put.items c.self.view_is c.requires, subst (λ (n : ℕ). 256 ≤ n) (sym put.capacity) known.2)
