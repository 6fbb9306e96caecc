use Rattle.std.proofs.Common.{sym, subst}
use Rattle.std.specs.List.{AllZip}
use Rattle.smk_base.specs.Rels.{Relation, IsWider}
use Rattle.smk_chain.proofs.growing.rows_of_both.Goals as goal
use Rattle.smk_table.proofs.Shown.{wider_same}

pub followed_by-requires-clause-wider : goal.followed_by-requires-clause-wider
followed_by-requires-clause-wider c =
    let old = c.args.old.now in
    subst (λ (r : Relation). AllZip IsWider r.kinds c.args.new.now.kinds) (sym c.in_ok-rows.ensures) (subst (AllZip IsWider old.kinds) (sym c.requires.kinds) (wider_same old.kinds))
