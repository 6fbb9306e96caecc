use Rattle.std.proofs.{Common.{◌≡◌, get_or, rules}, lemmas.Result.IfOk-weaker}
use Rattle.smk_base.specs.Relations.{column_in}
use Rattle.smk_base.proofs.{Kept.IsColumnOf-same, Made.AreMade-each}
use Rattle.smk_base.proofs.rel.each_column.pick_each.Goals as goal

pub returns : goal.returns
returns c = AreMade-each c.made_each.result (λ made. made.items) _ _ _ _ c.made_each.ensures.long (IfOk-weaker c.made_each.result _ _ (λ made f k d h. (let post = f k d h in
    let kind : (get_or made.items k d).kind ≡ (column_in c.args.columns.now (get_or c.args.cols.now k 0)).kind = search rules in
    let cells : (get_or made.items k d).cells ≡ (column_in c.args.columns.now (get_or c.args.cols.now k 0)).cells = search rules in
    (kind, cells, IsColumnOf-same c.args.count (column_in c.args.columns.now (get_or c.args.cols.now k 0)) (get_or made.items k d) kind cells (c.requires.each (get_or c.args.cols.now k 0) _ (c.requires.within k 0 h))))) c.made_each.ensures.each)
