use Rattle.std.proofs.Common.{[], pos}
use Rattle.smk_base.specs.declared.value.Value.TheVariants as values
use Rattle.smk_base.proofs.Kept.{map-gather}
use Rattle.smk_base.proofs.rel.value_column.gathered.Goals as goal

pub returns-in_ok-items_at-in-Small-clause-cells : goal.returns-in_ok-items_at-in-Small-clause-cells
returns-in_ok-items_at-in-Small-clause-cells c =
    let within = rw c.in-Small.is at c.requires.within in
    rw (c.in-Small.is, c.in_ok-items_at-in-Small.ensures (pos 0), c.as_slice.ensures.value) (map-gather values.Int _ (pos 0) c.args.places.now within)

pub returns-in_ok-items_at-in-Wide-clause-cells : goal.returns-in_ok-items_at-in-Wide-clause-cells
returns-in_ok-items_at-in-Wide-clause-cells c =
    let within = rw c.in-Wide.is at c.requires.within in
    rw (c.in-Wide.is, c.in_ok-items_at-in-Wide.ensures (pos 0), c.as_slice-in-Wide.ensures.value) (map-gather values.Int _ (pos 0) c.args.places.now within)

pub returns-in_ok-gather-in-Texts-clause-cells : goal.returns-in_ok-gather-in-Texts-clause-cells
returns-in_ok-gather-in-Texts-clause-cells c =
    let within = rw c.in-Texts.is at c.requires.within in
    rw (c.in-Texts.is, c.in_ok-gather-in-Texts.ensures) (map-gather values.Text _ [] c.args.places.now within)
