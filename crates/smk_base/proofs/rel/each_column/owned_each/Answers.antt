use Rattle.std.proofs.{Common.{rules, refl, subst, sym}, lemmas.Iterator.Adapters.{YieldsList-from_vec, serves_from_places}}
use Rattle.smk_base.specs.Columns.{IsColumnOf}
use Rattle.smk_base.proofs.rel.each_column.owned_each.Goals as goal

pub collect-requires-clause-can : goal.collect-requires-clause-can
collect-requires-clause-can c = (
  tt,
  serves_from_places (YieldsList-from_vec c.args.columns.items (search rules) (search rules)) (λ x q r. refl) (λ x k low at.
      (let is : IsColumnOf c.args.count x = subst (IsColumnOf c.args.count) (sym at) (c.requires k x low) in rw is.long is)),
)
