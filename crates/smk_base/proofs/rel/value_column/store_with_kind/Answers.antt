use Rattle.std.proofs.Common.{◌∙◌, All, ap, map, subst, sym}
use Rattle.smk_base.specs.{Images.ColumnImage, Rels.Fits, Stores.cells_in, declared.rel.value_column.Store.Store, declared.value.Kind.Kind}
use Rattle.smk_base.specs.declared.value.Value.TheVariants as values
use Rattle.smk_base.proofs.Kept.{no_texts}
use Rattle.smk_base.proofs.rel.value_column.store_with_kind.Goals as goal

pub returns-in-Int-clause-cells : goal.returns-in-Int-clause-cells
returns-in-Int-clause-cells c =
    let texts = c.in-Texts.field-0.texts in
    let fits = subst (λ (k : Kind). All (Fits k) (map values.Text texts)) c.in-Int.is (subst (λ (s : Store). All (Fits c.args.kind) (cells_in s)) c.in-Texts.is c.requires.fits) in
    ap (λ (z : ColumnImage). z.cells) c.result.view_is ∙ c.new.ensures.cells ∙ sym (ap cells_in c.in-Texts.is ∙ no_texts c.in-Int.level texts fits)
