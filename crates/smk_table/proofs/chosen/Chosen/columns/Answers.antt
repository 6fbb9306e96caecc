use Rattle.std.proofs.{Common.{◌∙◌, List, ℕ, Some, sym, ap}, lemmas.Result.IfOk-weaker}
use Rattle.smk_table.proofs.Choices.{columns_chosen}
use Rattle.smk_table.proofs.chosen.Chosen.columns.Goals as goal

pub returns-in-Some : goal.returns-in-Some
returns-in-Some c =
    IfOk-weaker c.gather.result _ _
    (λ made is. columns_chosen c.self.inside.rel c.args.self.now c.in_ok-whole.whole made c.self.inside.rids c.as_slice.result.now c.args.cols.now
    c.self.view_is (c.in-Some.is ∙ ap (λ (rids : List ℕ). Some rids) (sym c.as_slice.ensures)) c.self.invariant c.in_ok-whole.ensures is)
    c.gather.ensures
