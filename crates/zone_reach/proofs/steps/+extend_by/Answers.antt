use Rattle.std.proofs.Common.{arith, get_or}
use Rattle.definitions.specs.Track.{last_step}
use Rattle.track_points.specs.declared.ids.Dir.TheVariants.{Up}
use Rattle.track_points.specs.declared.ids.DirSeg.{DirSeg}
use Rattle.way_path.proofs.Rest_is.{rest_is}
use Rattle.zone_reach.proofs.Longer_is.{stays_full, stays_bare, joined_step, once_step, extends_ok, goes_on}
use Rattle.zone_reach.proofs.steps.+extend_by.Goals as goal

abbrev no_step : DirSeg
no_step = record { seg = record { 0 = 0 }; dir = Up }

pub returns-then-len-eq24-clause-way : goal.returns-then-len-eq24-clause-way
returns-then-len-eq24-clause-way t c =
    let e = rw c.path.ensures.path at c.len.ensures.value in
    stays_full c.args.way.now c.args.more.now (let h = c.if-len-eq24.true in omega arith)

pub returns-in_default-clause-way : goal.returns-in_default-clause-way
returns-in_default-clause-way t c =
    let e = rw c.path.ensures.path at c.len.ensures.value in
    stays_bare c.args.way.now c.args.more.now (let h = c.len.ensures.fits in omega arith) c.in_default.len_below

pub unreachable-requires : goal.unreachable-requires
unreachable-requires t c =
    let e = rw c.path.ensures.path at c.len.ensures.value in
    let s = rest_is c.args.more.now no_step c.in-len1-up.len_at_least in
    let f = c.len.ensures.fits in let n = c.if-len-eq24.false in
    let j = joined_step c.args.line.now (last_step c.args.way.now.path.steps.items) (get_or c.args.more.now 0 no_step) c.args.more.now _ s c.requires.joined in
    let o = once_step c.args.way.now.path.steps.items c.args.more.now _ (get_or c.args.more.now 0 no_step) s c.requires.once in
    c.in_default-extend.not-Ok tt (extends_ok c.args.line.now c.args.way.now c.extend.new.self (get_or c.args.more.now 0 no_step) c.extend.result c.extend.ensures.extends (omega arith) j.0 o.0).0

pub extend_by-requires : goal.extend_by-requires
extend_by-requires t c =
    let e = rw c.path.ensures.path at c.len.ensures.value in
    let s = rest_is c.args.more.now no_step c.in-len1-up.len_at_least in
    let f = c.len.ensures.fits in let n = c.if-len-eq24.false in
    let j = joined_step c.args.line.now (last_step c.args.way.now.path.steps.items) (get_or c.args.more.now 0 no_step) c.args.more.now _ s c.requires.joined in
    let o = once_step c.args.way.now.path.steps.items c.args.more.now _ (get_or c.args.more.now 0 no_step) s c.requires.once in
    let m = (extends_ok c.args.line.now c.args.way.now c.extend.new.self (get_or c.args.more.now 0 no_step) c.extend.result c.extend.ensures.extends (omega arith) j.0 o.0).1 in
    let g = goes_on c.args.line.now c.args.way.now c.extend.new.self (get_or c.args.more.now 0 no_step) c.args.more.now _ s m c.requires.marks c.requires.joined c.requires.once in
    (omega arith, (c.extend.ensures.on_line, (g.0, (g.1, g.2))))
