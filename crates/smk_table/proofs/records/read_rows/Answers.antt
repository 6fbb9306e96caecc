use Rattle.std.proofs.{Common.{◌≡◌, ◌∙◌, ◌+◌, ◌++◌, ◌∷◌, [], Ok, length, sym, ap, arith}, lemmas.List.length_push}
use Rattle.csv.specs.Records.{fields_of}
use Rattle.smk_model.specs.{Names.◌>>=◌, Tables.{record_row, all_or_first, numbered}}
use Rattle.smk_table.specs.CsvReader.{records_left}
use Rattle.smk_table.proofs.TableRows.{made_from, all_or_first-step, behind}
use Rattle.smk_table.proofs.records.read_rows.Goals as goal

pub loop-nth-preserved : goal.loop-nth-preserved
loop-nth-preserved c =
    let inv = c.loop-nth.invariant in
    let rows = c.loop-nth.rel.rows in
    let row_of = record_row c.args.cols.now c.args.places.now c.args.width in
    let record_fields = fields_of c.next_record.new.row in
    let given = made_from (row_of c.loop-nth.nth record_fields) (λ row. Ok (rows ++ row ∷ [])) c.push_record.new.rel.rows c.in_ok-push_record.ensures.pushed in
    let pushed : rows ++ given.0 ∷ [] ≡ c.push_record.new.rel.rows = cc (given.2) in
    let found = rw c.if-not-branch.false at c.in_ok-next_record.ensures.found in
    let long = ap length (sym pushed) ∙ length_push rows given.0 in
    let room = c.in_ok-push_record.ensures.room in
    record {
      between = found.0;
      kinds = c.in_ok-push_record.ensures.kinds ∙ inv.kinds;
      begun = c.in_ok-push_record.ensures.begun;
      count = omega (arith, long, inv.count);
      few = omega (arith, long, inv.count, inv.few, room);
      whole = inv.whole
          ∙ ap (λ left. ◌>>=◌ (all_or_first (numbered row_of c.loop-nth.nth left)) (behind rows)) found.1
          ∙ all_or_first-step row_of c.loop-nth.nth _ _ rows given.0 given.1
          ∙ ap (λ rows. ◌>>=◌ (all_or_first (numbered row_of (c.loop-nth.nth + 1) (records_left c.next_record.new.reader))) (behind rows)) pushed;
    }
