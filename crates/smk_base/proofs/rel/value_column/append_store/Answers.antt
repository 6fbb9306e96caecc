use Rattle.smk_base.proofs.Kept.{all-small}
use Rattle.smk_base.proofs.rel.value_column.append_store.Goals as goal

pub append_level_0-requires : goal.append_level_0-requires
append_level_0-requires c =
    let wider = rw (c.in-Small-Wide.is-0, c.in-Small-Wide.is-1) at c.requires.wider in
    let fit = rw c.in-Small-Wide.is-1 at c.requires.fit in
    rw c.as_slice-in-Small-Wide.ensures.value (all-small _ _ wider fit)
