use Rattle.std.proofs.{Common.{◌≡◌, ◌∙◌, ◌<◌, List, ap, arith, length}, lemmas.List.with_items_is}
use Rattle.std.specs.Vec.{with_items}
use Rattle.smk_base.specs.{CatalogImage.catalog_image, Rels.Relation}
use Rattle.smk_session.specs.Parts.{parts_image}
use Rattle.smk_session.proofs.OpenedViews.{views_long}
use Rattle.smk_grow.specs.{Grown.{longer_tables, rows_of}, Renewed.moved_views}
use Rattle.smk_grow.proofs.{Grown.{at_is, long_with}, Lengthened.lengthened_parts}
use Rattle.smk_grow.proofs.growing.lengthen_parts.Goals as goal

pub move_views-requires : goal.move_views-requires
move_views-requires c =
    let session = parts_image c.args.parts.now in
    ap length c.as_mut_slice-2.ensures.value ∙ views_long session.catalog session.tables session.views c.requires.keeps.opened

pub returns-clause-longer : goal.returns-clause-longer
returns-clause-longer c =
    let session = parts_image c.args.parts.now in
    let tables = c.args.parts.now.tables in
    let views = c.args.parts.now.views in
    let t = c.args.table in
    let more = c.args.more.rows in
    let longer : c.lengthen.new.tables ≡ longer_tables session.tables t more = c.in_ok-lengthen.ensures.longer ∙ ap (λ (T : List Relation). longer_tables T t more) c.as_mut_slice.ensures.value in
    let there = with_items_is tables c.lengthen.new.tables (omega (arith, ap length longer, long_with session.tables t more, tables.ok.0)) ∙ longer in
    let now = (with_items tables c.lengthen.new.tables).items in
    let low : t < length now = omega (arith, c.requires.table, ap length there, long_with session.tables t more) in
    let size : c.len-size.result ≡ length (rows_of now t) = c.len-size.ensures.count ∙ ap (λ (r : Relation). length r.rows) (at_is now t c.index-2.result.now low c.index-2.ensures) in
    let moved = with_items_is views c.move_views.new.views (omega (arith, c.move_views.auto.views, ap length c.as_mut_slice-2.ensures.value, views.ok.0)) ∙ c.move_views.ensures ∙ ap (moved_views (catalog_image session.catalog) t c.len-size.result) c.as_mut_slice-2.ensures.value in
    record {
      keeps = c.requires.keeps;
      same = lengthened_parts session t c.len-size.result more now (with_items views c.move_views.new.views).items c.requires.keeps c.requires.table there size moved;
      long = c.len-len.ensures.count ∙ ap (λ (r : Relation). length r.rows) (at_is session.tables t c.index.result.now c.requires.table c.index.ensures);
      low = c.requires.table;
    }
