use Rattle.std.proofs.Common.{◌≡◌, IfOk, List, ap, subst}
use Rattle.smk_base.specs.Places.{upto}
use Rattle.smk_model.specs.{Values.Row, Plain.firsts}
use Rattle.smk_defer.proofs.Keyed.{whole_rows}
use Rattle.smk_defer.proofs.keys.row_keys.Goals as goal

pub returns : goal.returns
returns c =
    let rel = c.args.rel.now in
    subst (λ (rows : List Row). IfOk c.first_keys.result (λ made. made ≡ firsts rows)) (whole_rows rel.kinds rel.rows _ c.width.ensures.keeps.fit (ap upto c.width.ensures.count)) c.first_keys.ensures
