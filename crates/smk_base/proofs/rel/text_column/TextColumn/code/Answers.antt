use Rattle.std.proofs.{Common.◌∙◌, lemmas.List.length-map}
use Rattle.smk_base.proofs.Recoding.{code-is}
use Rattle.smk_base.proofs.rel.text_column.TextColumn.code.Goals as goal

pub returns-clause-code : goal.returns-clause-code
returns-clause-code c =
    let row = rw (← c.self.view_is, length-map) at c.requires in
    rw (← c.self.view_is) (c.index.ensures ∙ code-is _ _ c.args.i _ c.self.invariant row)
