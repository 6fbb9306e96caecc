use Rattle.std.proofs.Common.{◌≡◌, drop, nat_eq}
use Rattle.std.specs.{List.list_any, Cmp.Lexicographic.pointwise}
use Rattle.smk_report.proofs.names.is_among.Given as goal

abbrev pub invariant-loop-entry : goal.invariant-loop-entry
invariant-loop-entry l = list_any (λ entry. pointwise nat_eq l.bytes entry.0.now) l.table ≡ list_any (λ entry. pointwise nat_eq l.bytes entry.0.now) (drop l.entry-index l.table)
