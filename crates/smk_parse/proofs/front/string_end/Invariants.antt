use Rattle.std.proofs.Common.{◌≡◌, ◌≤◌, length}
use Rattle.std.specs.Prelude.{drop, false, None, IfSome}
use Rattle.smk_parse.specs.Vocabulary.{string_len}
use Rattle.smk_parse.proofs.front.string_end.Given as goal

abbrev pub invariant-loop-i : goal.invariant-loop-i
invariant-loop-i l = record {
  within : IfSome l.kept (λ n. n ≤ length l.bytes);
  is : string_len l.kept l.closed l.i (drop l.i l.bytes) ≡ string_len None false 0 l.bytes;
}
