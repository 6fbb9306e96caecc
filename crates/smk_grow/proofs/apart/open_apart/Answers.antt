use Rattle.std.proofs.{Common.{◌≡◌, ◌∙◌, ◌<◌, List, ap, length, arith, sym}, lemmas.List.with_items_is}
use Rattle.smk_base.specs.Rels.{Relation}
use Rattle.smk_model.specs.Selection.{each_kinds}
use Rattle.smk_compose.specs.Fetched.{table_of}
use Rattle.smk_session.specs.Parts.{parts_image}
use Rattle.smk_grow.proofs.{Grown.{at_table, kinds_set, long_set, rows_set, set_back}, Images.with_tables}
use Rattle.smk_grow.proofs.apart.open_apart.Goals as goal

pub each_apart-views-requires-clause-renewal : goal.each_apart-views-requires-clause-renewal
each_apart-views-requires-clause-renewal g c κs within =
    let tables = c.as_mut_slice-tables.result.now in
    let t = c.args.table in
    let there = c.swap.new.x in
    let of : tables ≡ c.args.parts.now.tables.items = c.as_mut_slice-tables.ensures.value in
    let is : there ≡ c.args.more.now = c.swap.ensures.x_after in
    let low : t < length tables = omega (arith, c.requires.table, ap length of) in
    let rows = rows_set tables t there low in
    record {
      kinds = kinds_set tables t there (ap (λ (r : Relation). r.kinds) is ∙ c.requires.more ∙ ap (λ (T : List Relation). (table_of T t).kinds) (sym of)) ∙ ap each_kinds of ∙ c.requires.keeps.opened.kinds;
      table = omega (arith, low, long_set tables t there);
      within = omega arith;
      few = omega (arith, ap length rows, ap (λ (r : Relation). length r.rows) is, c.len-rows.ensures.keeps.few_rows);
    }

pub returns-clause-parts : goal.returns-clause-parts
returns-clause-parts g c =
    let tables = c.as_mut_slice-tables.result.now in
    let all = c.args.parts.now.tables in
    let t = c.args.table in
    let own = c.index-tables-table.result in
    let of : tables ≡ all.items = c.as_mut_slice-tables.ensures.value in
    let low : t < length tables = omega (arith, c.requires.table, ap length of) in
    let back = set_back tables t c.swap.new.x c.swap-2.new.x (c.swap-2.ensures.x_after ∙ c.swap.ensures.y_after ∙ at_table tables t own low) ∙ of in
    ap (with_tables (parts_image c.args.parts.now)) (with_items_is all _ (omega (arith, ap length back, all.ok.0)) ∙ back)
