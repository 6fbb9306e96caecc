use Rattle.std.proofs.Common.{◌<◌, ℕ, List, All, length, refl, sym, subst}
use Rattle.smk_base.specs.Picks.{IsAscending}
use Rattle.smk_session.proofs.Rids.{rids_ascend, rids_low}
use Rattle.smk_session.proofs.answer.backward.rows_of.Goals as goal

pub fetch_rids-requires-clause-ascending : goal.fetch_rids-requires-clause-ascending
fetch_rids-requires-clause-ascending g c =
    subst (λ (l : List ℕ). IsAscending l) (sym c.as_slice.ensures) (rids_ascend (length c.args.pair.now.rows.now.rows) c.in_ok-rids.rids c.in_ok-rids.ensures.set)

pub fetch_rids-requires-clause-inside : goal.fetch_rids-requires-clause-inside
fetch_rids-requires-clause-inside g c =
    let n = length c.args.pair.now.rows.now.rows in
    subst (λ (l : List ℕ). All (λ rid. rid < n) l) (sym c.as_slice.ensures) (rids_low n n c.in_ok-rids.rids c.in_ok-rids.ensures.set refl)
