use Rattle.std.proofs.Common.{◌≡◌, ◌++◌, false, drop}
use Rattle.smk_parse.specs.Vocabulary.{head_of, inner, undoubled}
use Rattle.smk_parse.proofs.tokens.string_in_hand.Given as goal

abbrev pub invariant-loop-b : goal.invariant-loop-b
invariant-loop-b l = l.value ++ undoubled l.second (drop l.b-index (inner (head_of l.reader.rest).text)) ≡ undoubled false (inner (head_of l.reader.rest).text)
