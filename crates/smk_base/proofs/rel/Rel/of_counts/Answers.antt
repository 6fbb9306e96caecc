use Rattle.std.proofs.Common.{◌≡◌, subst, IfOk}
use Rattle.smk_base.specs.Rels.{Relation}
use Rattle.smk_base.proofs.Relating.{one-counts}
use Rattle.smk_base.proofs.rel.Rel.of_counts.Goals as goal

pub returns : goal.returns
returns c =
    let made = rw c.own.ensures at c.of_column.ensures in
    subst (λ (rel : Relation). IfOk c.of_column.result (λ made. made ≡ rel)) (one-counts c.args.level c.args.counts.now c.in_ok-column.column c.in_ok-column.ensures.kind c.in_ok-column.ensures.cells) made
