use Rattle.std.proofs.Common.{◌≡◌, ℤ, List, subst, IfOk}
use Rattle.smk_body.proofs.Aggregating.{ints_low, sums_are}
use Rattle.smk_body.proofs.make.aggregates.sums.Goals as goal

pub small_sums-requires-clause-within : goal.small_sums-requires-clause-within
small_sums-requires-clause-within c = ints_low c.args.rel.now.kinds c.args.rel.now.rows c.args.c c.in-Small.numbers.now c.in-Small.ensures c.requires.column c.requires.int c.len-rows.ensures.keeps.fit

pub wide_sums-requires-clause-within : goal.wide_sums-requires-clause-within
wide_sums-requires-clause-within c = ints_low c.args.rel.now.kinds c.args.rel.now.rows c.args.c c.in-Wide.numbers.now c.in-Wide.ensures c.requires.column c.requires.int c.len-rows.ensures.keeps.fit

pub returns-in-Small-clause-sums : goal.returns-in-Small-clause-sums
returns-in-Small-clause-sums c = subst (λ (z : List ℤ). IfOk c.small_sums.result (λ v. v.items ≡ z)) (sums_are c.args.rel.now.rows c.args.c c.in-Small.numbers.now c.args.of.now c.args.count c.in-Small.ensures c.requires.long) c.small_sums.ensures.sums

pub returns-in-Wide-clause-sums : goal.returns-in-Wide-clause-sums
returns-in-Wide-clause-sums c = subst (λ (z : List ℤ). IfOk c.wide_sums.result (λ v. v.items ≡ z)) (sums_are c.args.rel.now.rows c.args.c c.in-Wide.numbers.now c.args.of.now c.args.count c.in-Wide.ensures c.requires.long) c.wide_sums.ensures.sums
