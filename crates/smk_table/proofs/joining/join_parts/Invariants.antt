use Rattle.std.proofs.Common.{◌≡◌, ◌≤◌, List, length, drop, All}
use Rattle.std.specs.Prelude.{vec_len, vec_capacity}
use Rattle.smk_base.specs.{declared.rel.TheConstants.ROW_LIMIT, Rels.IsRelation}
use Rattle.smk_model.specs.Tables.{declared_kinds}
use Rattle.smk_table.specs.{Pieces.{Part, parts_behind, GivesAll}, Joined.end_to_end}
use Rattle.smk_table.proofs.Joins.{all_behind}
use Rattle.smk_table.proofs.joining.join_parts.Given as goal

abbrev pub invariant-loop-part : goal.invariant-loop-part
invariant-loop-part g l = record {
  kinds : All (λ rel. rel.kinds ≡ declared_kinds l.cols) l.all.items;
  relations : All IsRelation l.all.items;
  count : length (end_to_end l.all.items).rows ≡ l.count;
  few : l.count ≤ ROW_LIMIT;
  behind : (read : List Part) → GivesAll l.cols read l.fn.parts.items → parts_behind 0 read ≡ all_behind (end_to_end l.all.items).rows (drop (length l.yielded) read);
  len : vec_len l.all ≡ length l.yielded;
  room : vec_len l.fn.parts ≤ vec_capacity l.all;
}
