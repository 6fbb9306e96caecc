use Rattle.std.proofs.Common.{◌≡◌, ◌+◌, Bool, drop}
use Rattle.std.specs.List.{position_or_len}
use Rattle.smk_base.specs.{Dicts.text_eq, declared.book.catalog.ViewInfo.ViewInfo}
use Rattle.smk_base.proofs.book.catalog.Catalog.view_place.Given as goal

abbrev pub invariant-loop-v : goal.invariant-loop-v
invariant-loop-v l =
    let named : ViewInfo → Bool = λ view. text_eq view.name l.name in
    position_or_len named l.views ≡ l.v + position_or_len named (drop l.v l.views)
