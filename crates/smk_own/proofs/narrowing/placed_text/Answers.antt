use Rattle.std.specs.Prelude.{length, map, Some}
use Rattle.std.proofs.Common.{ap, sym, subst, arith}
use Rattle.smk_model.specs.{ReplyTexts.names_of_table, Session.rows_of_table, Typing.info_at}
use Rattle.smk_session.specs.{Behind.RidsFit, Sessions.state_of}
use Rattle.smk_own.specs.Image.{part_image}
use Rattle.smk_own.proofs.Parts.{if_ok, few_fit, part_fits, placed_said}
use Rattle.smk_own.proofs.narrowing.placed_text.Goals as goal

pub part_of-printed-requires : goal.part_of-printed-requires
part_of-printed-requires g c =
    let few = few_fit (length (rows_of_table (state_of c.args.session.now) c.args.table)) c.args.rids.now c.requires.rids in
    omega (arith, few, c.table_len-rows.ensures, c.table_len-rows.type_inv)

pub overflow_cast-rids : goal.overflow_cast-rids
overflow_cast-rids g c =
    let few = few_fit (length (rows_of_table (state_of c.args.session.now) c.args.table)) c.args.rids.now c.requires.rids in
    omega (arith, few, c.table_len-rows.ensures, c.table_len-rows.type_inv)

pub printed_text-requires-clause-rids : goal.printed_text-requires-clause-rids
printed_text-requires-clause-rids g c =
    let n = length (rows_of_table (state_of c.args.session.now) c.args.table) in
    subst (RidsFit n) (sym c.part_of-printed.ensures) (part_fits (part_image c.args.part) n c.args.rids.now c.requires.rids)

pub returns-clause-text : goal.returns-clause-text
returns-clause-text g c = if_ok c.printed_text.result c.printed_text.ensures.text (λ text says.
    placed_said (part_image c.args.part) (map (λ w. w.now) c.args.words.now) (names_of_table (Some (info_at c.args.session.now.catalog.tables c.args.table))) (state_of c.args.session.now) c.args.table c.args.rids.now
    c.part_of-printed.result.now text.items c.part_of-printed.ensures says)

pub returns-clause-looks : goal.returns-clause-looks
returns-clause-looks g c =
    let printed = ap length c.part_of-printed.ensures in
    omega (arith, printed, c.printed_text.ensures.looks)
