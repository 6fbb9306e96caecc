use Rattle.std.proofs.Common.{◌≡◌, ◌<◌, length, ◌++◌, All, flat_map, IsFalse}
use Rattle.csv.specs.Reading.{records, default_config}
use Rattle.smk_base.specs.Marks.{begins_with_mark}
use Rattle.smk_table.proofs.cutting.pieces.Given as goal

abbrev pub invariant-loop : goal.invariant-loop
invariant-loop l = record {
  read : records default_config l.initial.rest ≡ flat_map (λ part. records default_config part.now) l.parts.items ++ records default_config l.rest;
  unmarked : All (λ part. IsFalse (begins_with_mark part.now)) l.parts.items;
  few : length l.parts.items < l.counter;
  first : IsFalse (begins_with_mark l.rest);
}
