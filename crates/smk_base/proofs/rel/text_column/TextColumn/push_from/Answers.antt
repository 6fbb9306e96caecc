use Rattle.smk_base.proofs.Recoding.{AreRecoded-add, text_firsts_push}
use Rattle.smk_base.proofs.rel.text_column.TextColumn.push_from.Goals as goal

pub returns-in_ok-recoded-clause-recoded : goal.returns-in_ok-recoded-clause-recoded
returns-in_ok-recoded-clause-recoded c =
    rw (c.in_ok-recoded.ensures.code, c.in_ok-recoded.ensures.pushed, c.from_vec-text.ensures, c.in_ok-from_slice.ensures.items, c.text.ensures, text_firsts_push)
    (AreRecoded-add _ _ _ c.args.code c.requires.code c.requires.recoded)
