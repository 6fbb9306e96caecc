use Rattle.std.proofs.Common.{◌∙◌, ap, sym}
use Rattle.smk_base.specs.TextColumns.{text_firsts}
use Rattle.smk_base.proofs.Relating.{texts-values}
use Rattle.smk_base.proofs.rel.Rel.dict.Goals as goal

pub returns : goal.returns
returns c = c.dict.ensures ∙ ap text_firsts (sym (texts-values _ _ _ c.texts.ensures))
