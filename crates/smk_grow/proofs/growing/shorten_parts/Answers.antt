use Rattle.std.proofs.{Common.{◌∙◌, List, ap, arith, length}, lemmas.List.with_items_is}
use Rattle.std.specs.Vec.{with_items}
use Rattle.smk_base.specs.{CatalogImage.catalog_image, Rels.Relation}
use Rattle.smk_session.specs.{Parts.parts_image, Opened.workbook_image, Sessions.workbook_of}
use Rattle.smk_grow.specs.{Grown.first_tables, Renewed.{kept_view, moved_views}}
use Rattle.smk_grow.proofs.{Kept.long_views, Lengthened.shortened_parts}
use Rattle.smk_grow.proofs.growing.shorten_parts.Goals as goal

pub move_views-requires : goal.move_views-requires
move_views-requires c =
    let session = parts_image c.args.parts.now in
    let before = workbook_image session.catalog (first_tables session.tables c.args.table c.args.len) in
    ap length c.as_mut_slice-2.ensures.value ∙ long_views session.catalog (kept_view c.args.table before (workbook_of session)) session.views c.requires.views_are

pub returns : goal.returns
returns c =
    let session = parts_image c.args.parts.now in
    let tables = c.args.parts.now.tables in
    let views = c.args.parts.now.views in
    let t = c.args.table in
    let shorter = c.shorten.ensures ∙ ap (λ (T : List Relation). first_tables T t c.args.len) c.as_mut_slice.ensures.value in
    let there = with_items_is tables c.shorten.new.tables (omega (arith, c.shorten.auto.tables, ap length c.as_mut_slice.ensures.value, tables.ok.0)) ∙ shorter in
    let moved = with_items_is views c.move_views.new.views (omega (arith, c.move_views.auto.views, ap length c.as_mut_slice-2.ensures.value, views.ok.0)) ∙ c.move_views.ensures ∙ ap (moved_views (catalog_image session.catalog) t c.args.len) c.as_mut_slice-2.ensures.value in
    shortened_parts session t c.args.len (with_items tables c.shorten.new.tables).items (with_items views c.move_views.new.views).items c.requires there moved
