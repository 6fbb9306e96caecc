use Rattle.std.proofs.Common.{◌≡◌, take}
use Rattle.std.specs.List.{list_all}
use Rattle.smk_table.specs.Cuts.{is_unquoted}
use Rattle.smk_table.proofs.cutting.is_unquoted_text.Given as goal

abbrev pub invariant-loop-b : goal.invariant-loop-b
invariant-loop-b l = l.unquoted ≡ list_all is_unquoted (take l.b-index l.text)
