use Rattle.std.proofs.Common.{◌≡◌, drop}
use Rattle.std.specs.List.{list_all}
use Rattle.smk_model.specs.Tokens.{is_word_byte}
use Rattle.smk_report.proofs.names.goes_on.Given as goal

abbrev pub invariant-loop-b : goal.invariant-loop-b
invariant-loop-b l = list_all is_word_byte l.bytes ≡ list_all is_word_byte (drop l.b-index l.bytes)
