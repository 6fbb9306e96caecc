use Rattle.std.proofs.Common.{◌≡◌, ◌-◌, ◌≤◌, length, drop}
use Rattle.smk_parse.specs.Vocabulary.{tokens_from}
use Rattle.smk_parse.proofs.reader.Reader.behind.Given as goal

abbrev pub invariant-loop-len : goal.invariant-loop-len
invariant-loop-len l = record {
  within : l.place ≤ length l.text;
  left : tokens_from 0 l.place (drop l.place l.text) ≡ tokens_from 0 l.from (drop l.from l.text);
}

abbrev pub decreases-loop-len : goal.decreases-loop-len
decreases-loop-len l = length l.text - l.place
