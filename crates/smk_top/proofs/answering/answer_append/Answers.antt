use Rattle.std.proofs.Common.{◌∙◌, ap}
use Rattle.smk_base.specs.{CatalogImage.{catalog_image, table_place}, declared.book.catalog.Catalog.Catalog}
use Rattle.smk_inputs.proofs.LinesBring.{named_begins, first_taken, taken_is, never_none}
use Rattle.smk_top.proofs.answering.answer_append.Goals as goal

pub append_rows-requires-clause-kinds : goal.append_rows-requires-clause-kinds
append_rows-requires-clause-kinds g c κs within t at =
    let begins = named_begins (catalog_image c.args.session.catalog) c.args.table.now t c.args.added.now.items at c.requires in
    (taken_is _ c.pop_front.result c.in-Some.more c.in-Some.is (first_taken _ c.args.added.now.items c.pop_front.new.self.items c.pop_front.result begins c.pop_front.ensures.items c.pop_front.ensures.rest)).0

pub unreachable-requires : goal.unreachable-requires
unreachable-requires g c =
    never_none (catalog_image c.args.session.catalog) c.args.table.now c.table_place.result c.args.added.now.items c.pop_front.new.self.items c.pop_front.result (c.table_place.ensures.place ∙ ap (λ (k : Catalog). table_place (catalog_image k) c.args.table.now) c.catalog.ensures.book) c.if-is_none.ensures c.requires
    c.pop_front.ensures.items c.pop_front.ensures.rest c.in-None.is
