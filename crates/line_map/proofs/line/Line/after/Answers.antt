use Rattle.std.proofs.Common.{◌≡◌, sym, subst}
use Rattle.definitions.specs.Track.{exit_of, next_step}
use Rattle.line_map.specs.declared.line.After.{After}
use Rattle.line_map.specs.Next.{after_of, AfterIs}
use Rattle.line_map.proofs.Next_after.{next_after}
use Rattle.line_map.proofs.Follows_is.{after_is, use_fits}
use Rattle.line_map.proofs.line.Line.after.Goals as goal

pub leads_to-requires : goal.leads_to-requires
leads_to-requires c = rw (c.use_of.ensures) (use_fits c.self.inside.index c.self.invariant.valid c.exit_end.result)

pub returns : goal.returns
returns c =
    let is : c.leads_to.result ≡ after_of c.self.inside.index c.args.at =
    rw (c.leads_to.ensures, c.use_of.ensures, c.exit_end.ensures) (sym (after_is c.self.inside.index (exit_of c.args.at))) in
    rw (← c.self.view_is)
    (record {
      is = is;
      next = subst (λ (x : After). AfterIs (next_step c.self.inside.index c.args.at) x) (sym is)
          (next_after c.self.inside.index c.args.at c.self.invariant.valid);
    })
