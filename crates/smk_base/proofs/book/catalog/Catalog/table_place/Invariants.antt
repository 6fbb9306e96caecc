use Rattle.std.proofs.Common.{◌≡◌, ◌+◌, Bool, drop}
use Rattle.std.specs.List.{position_or_len}
use Rattle.smk_base.specs.{Dicts.text_eq, declared.book.catalog.TableInfo.TableInfo}
use Rattle.smk_base.proofs.book.catalog.Catalog.table_place.Given as goal

abbrev pub invariant-loop-t : goal.invariant-loop-t
invariant-loop-t l =
    let named : TableInfo → Bool = λ table. text_eq table.name l.name in
    position_or_len named l.tables ≡ l.t + position_or_len named (drop l.t l.tables)
