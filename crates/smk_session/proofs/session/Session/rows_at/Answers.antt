use Rattle.std.proofs.{Common.{◌≡◌, ◌∙◌, ◌<◌, ℕ, List, ap, arith, length, subst}, lemmas.Result.IfOk-weaker}
use Rattle.smk_base.specs.{CatalogImage.catalog_image, Rels.Relation}
use Rattle.smk_model.specs.{Lineage.sub, Replies.rows_at_rids}
use Rattle.smk_session.specs.Sessions.{SessionImage, state_of}
use Rattle.smk_session.proofs.OpenedViews.{table_is}
use Rattle.smk_session.proofs.session.Session.rows_at.Goals as goal

abbrev rel_at : Relation → List ℕ → Relation
rel_at table rids = record { kinds = table.kinds; rows = sub table.rows rids }

pub returns-clause-rows : goal.returns-clause-rows
returns-clause-rows g c =
    let s = c.self.inside in
    let table = c.index.result.now in
    let low : c.args.table < length s.book.tables = omega (arith, c.requires.table, ap (λ (i : SessionImage). length i.catalog.tables) c.self.view_is) in
    let is = table_is s.book s.tables.items s.brushes c.args.table table c.self.invariant.opened.kinds low c.index.ensures in
    IfOk-weaker c.fetch_rids.result (λ rel. rel ≡ rel_at table c.args.rids.now) (λ rel. rel ≡ rows_at_rids (catalog_image c.args.self.now.catalog) (state_of c.args.self.now) c.args.table c.args.rids.now)
    (λ rel made. subst (λ (i : SessionImage). rel ≡ rows_at_rids (catalog_image i.catalog) (state_of i) c.args.table c.args.rids.now) c.self.view_is (made ∙ ap (λ (r : Relation). rel_at r c.args.rids.now) is)) c.fetch_rids.ensures.rows
