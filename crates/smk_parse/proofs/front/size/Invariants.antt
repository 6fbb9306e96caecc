use Rattle.std.proofs.Common.{◌≡◌, ◌≤◌, drop, min}
use Rattle.smk_parse.specs.Vocabulary.{digits_value}
use Rattle.smk_parse.proofs.front.size.Given as goal

abbrev pub invariant-loop-digit : goal.invariant-loop-digit
invariant-loop-digit l = record {
  small : l.value ≤ 9223372036854775809;
  is : min (digits_value l.value (drop l.digit-index l.digits)) 9223372036854775809 ≡ min (digits_value 0 l.digits) 9223372036854775809;
}
