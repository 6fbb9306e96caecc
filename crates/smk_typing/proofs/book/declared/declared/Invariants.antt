use Rattle.std.proofs.Common.{◌≡◌, [], length}
use Rattle.smk_model.specs.Typing.{decl_after}
use Rattle.smk_typing.specs.Turns.{Remains}
use Rattle.smk_typing.proofs.book.declared.declared.Given as goal

abbrev pub invariant-loop-decl : goal.invariant-loop-decl
invariant-loop-decl l = Remains decl_after [] l.decls l.cols l.decl-index × (length l.cols ≡ l.decl-index)
