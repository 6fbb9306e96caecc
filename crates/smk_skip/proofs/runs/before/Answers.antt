use Rattle.std.proofs.{Common.{ltb, rules}, lemmas.List.Sorted.IsPartitionPoint-from_clause}
use Rattle.smk_skip.proofs.Stretches.{parted_at, cut_from}
use Rattle.smk_skip.proofs.runs.before.Goals as goal

pub returns-clause-cut : goal.returns-clause-cut
returns-clause-cut c =
    let xs = c.args.places.now in
    cut_from xs c.args.t c.partition_point.result (IsPartitionPoint-from_clause (λ k. ltb k c.args.t) xs c.partition_point.result c.partition_point.ensures.partitioned (parted_at xs c.args.t c.requires) (λ a r q k. search rules))
