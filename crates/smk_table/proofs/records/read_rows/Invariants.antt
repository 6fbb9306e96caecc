use Rattle.std.proofs.Common.{◌≡◌, ◌≤◌, ◌+◌, ◌++◌, [], length, Ok}
use Rattle.smk_model.specs.{Names.◌>>=◌, Tables.{all_or_first, numbered, record_row, declared_kinds}}
use Rattle.smk_base.specs.declared.rel.TheConstants.{ROW_LIMIT}
use Rattle.smk_table.specs.CsvReader.{IsBetween, records_left}
use Rattle.smk_table.proofs.records.read_rows.Given as goal

abbrev pub invariant-loop-nth : goal.invariant-loop-nth
invariant-loop-nth l = record {
  between : IsBetween l.reader;
  kinds : l.rel.kinds ≡ declared_kinds l.cols;
  begun : l.rel.begun ≡ [];
  count : length l.rel.rows + 1 ≡ l.nth;
  few : length l.rel.rows ≤ ROW_LIMIT;
  whole : all_or_first (numbered (record_row l.cols l.places l.width) 1 (records_left l.fn.reader))
      ≡ ◌>>=◌ (all_or_first (numbered (record_row l.cols l.places l.width) l.nth (records_left l.reader))) (λ rest. Ok (l.rel.rows ++ rest));
}
