use Rattle.std.proofs.Common.{List, [], ℕ, ap, arith, get_or, length, sym}
use Rattle.smk_base.specs.Rels.{Relation}
use Rattle.smk_compose.proofs.Lists.{few_rids}
use Rattle.smk_model.specs.Session.{rows_of_table}
use Rattle.smk_session.specs.Opened.{state_over}
use Rattle.smk_session.proofs.{OpenedViews.table_is, Rids.{rids_ascend, rids_low}}
use Rattle.smk_session.proofs.brush.count_of.Goals as goal

pub overflow_cast-result : goal.overflow_cast-result
overflow_cast-result c =
    let held = c.args.held.now in
    let brush = c.args.brush.now in
    let table = get_or held.tables.now brush.table c.index-held-brush.result in
    let same = ap (λ (r : Relation). length r.rows) (table_is held.catalog.now held.tables.now [] brush.table table c.requires.held.opened.kinds c.requires.fits.table (ap (λ (r : Relation). get_or held.tables.now brush.table r) c.index-held-brush.is)) in
    let n = length (rows_of_table (state_over held.tables.now []) brush.table) in
    let few = few_rids brush.rids (length table.rows) (rids_ascend n brush.rids c.requires.fits.rids) (rids_low n (length table.rows) brush.rids c.requires.fits.rids (sym same)) c.len-rows.ensures.keeps.few_rows in
    omega (arith, few, ap (λ (l : List ℕ). length l) c.as_slice.ensures)
