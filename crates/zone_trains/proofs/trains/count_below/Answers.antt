use Rattle.std.proofs.Common.{arith, rules, ltb, ltb-true}
use Rattle.std.proofs.lemmas.Bool.Decides.{nat_tests}
use Rattle.std.proofs.lemmas.List.Sorted.{IsPartitionPoint-from_clause, IsPartitionedBy-ltb}
use Rattle.plain_state.specs.declared.Controlled.{Controlled}
use Rattle.zone_trains.proofs.trains.count_below.Goals as goal

pub returns-clause-below : goal.returns-clause-below
returns-clause-below c =
    let parted = IsPartitionedBy-ltb (λ (x : Controlled). x.id.0) _ c.args.train.0 c.requires in
    let point = IsPartitionPoint-from_clause (λ (x : Controlled). ltb x.id.0 c.args.train.0) _ _ c.partition_point.ensures.partitioned parted (λ a r q k. search rules) in
    λ k d h. ltb-true _ _ (point.0 k d (omega arith) h)

pub returns-clause-rest : goal.returns-clause-rest
returns-clause-rest c =
    let parted = IsPartitionedBy-ltb (λ (x : Controlled). x.id.0) _ c.args.train.0 c.requires in
    let point = IsPartitionPoint-from_clause (λ (x : Controlled). ltb x.id.0 c.args.train.0) _ _ c.partition_point.ensures.partitioned parted (λ a r q k. search rules) in
    λ k d h l. let n = point.1 k d h l in grind (arith, nat_tests)
