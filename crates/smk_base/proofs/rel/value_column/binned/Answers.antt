use Rattle.std.proofs.Common.{◌≡◌, rules, to_z, of_z, w64}
use Rattle.smk_base.proofs.Kept.{map-bins}
use Rattle.smk_base.proofs.rel.value_column.binned.Goals as goal

pub returns-in_ok-small_bins-in-Small-clause-cells : goal.returns-in_ok-small_bins-in-Small-clause-cells
returns-in_ok-small_bins-in-Small-clause-cells c =
    let same : to_z w64 (of_z w64 c.args.width) ≡ c.args.width = search rules in
    rw (c.in-Small.is, c.in_ok-small_bins-in-Small.ensures, c.as_slice.ensures.value) (simp same (map-bins c.args.width _))

pub returns-in_ok-wide_bins-in-Wide-clause-cells : goal.returns-in_ok-wide_bins-in-Wide-clause-cells
returns-in_ok-wide_bins-in-Wide-clause-cells c =
    let same : to_z w64 (of_z w64 c.args.width) ≡ c.args.width = search rules in
    rw (c.in-Wide.is, c.in_ok-wide_bins-in-Wide.ensures, c.as_slice-in-Wide.ensures.value) (simp same (map-bins c.args.width _))
