use Rattle.std.specs.Prelude.{length, map, codes, ◌∷◌, slice_index_or, Some}
use Rattle.std.proofs.Common.{ap, sym, ◌∙◌, subst, arith}
use Rattle.smk_base.specs.Places.{upto}
use Rattle.smk_base.proofs.Places.{length_upto}
use Rattle.smk_model.specs.{Lineage.sub, ReplyTexts.names_of_table, Session.rows_of_table, Texts.rows_text, Typing.info_at}
use Rattle.smk_session.specs.{Behind.RidsFit, Sessions.state_of}
use Rattle.smk_own.specs.Image.{part_image}
use Rattle.smk_own.proofs.Parts.{if_ok, all_fit, part_fits, placed_said, all_part}
use Rattle.smk_own.proofs.selecting.all_text.Goals as goal

pub printed_text-requires-clause-rids : goal.printed_text-requires-clause-rids
printed_text-requires-clause-rids g c =
    let n = length (rows_of_table (state_of c.args.session.now) c.args.table) in
    let printed = all_part (part_image c.args.part) n c.table_len-all.result c.span-from.result c.as_slice.result.now c.table_len-all.ensures c.span-from.ensures.is c.span-from.ensures.within (c.as_slice.ensures.value ∙ c.in_ok-printed.ensures) in
    subst (RidsFit n) (sym printed) (part_fits (part_image c.args.part) n (upto n) (all_fit n))

pub returns-clause-text : goal.returns-clause-text
returns-clause-text g c =
    let n = length (rows_of_table (state_of c.args.session.now) c.args.table) in
    let words = map (λ w. w.now) c.args.words.now in
    let names = names_of_table (Some (info_at c.args.session.now.catalog.tables c.args.table)) in
    let printed = all_part (part_image c.args.part) n c.table_len-all.result c.span-from.result c.as_slice.result.now c.table_len-all.ensures c.span-from.ensures.is c.span-from.ensures.within (c.as_slice.ensures.value ∙ c.in_ok-printed.ensures) in
    if_ok c.printed_text.result c.printed_text.ensures.text (λ text says.
    placed_said (part_image c.args.part) words names (state_of c.args.session.now) c.args.table (upto n) c.as_slice.result.now text.items printed
    (says ∙ ap (λ k. rows_text words k (codes "rid" ∷ names) (λ i. slice_index_or c.as_slice.result.now i 0) (sub (rows_of_table (state_of c.args.session.now) c.args.table) c.as_slice.result.now)) (c.table_len-all.ensures ∙ sym (length_upto n))))

pub returns-clause-looks : goal.returns-clause-looks
returns-clause-looks g c =
    let n = length (rows_of_table (state_of c.args.session.now) c.args.table) in
    let printed = ap length (all_part (part_image c.args.part) n c.table_len-all.result c.span-from.result c.as_slice.result.now c.table_len-all.ensures c.span-from.ensures.is c.span-from.ensures.within (c.as_slice.ensures.value ∙ c.in_ok-printed.ensures)) in
    omega (arith, printed, c.printed_text.ensures.looks)
