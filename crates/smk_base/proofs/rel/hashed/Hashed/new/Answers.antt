use Rattle.std.proofs.Common.{rules}
use Rattle.smk_base.specs.Dicts.{text_eq}
use Rattle.smk_base.proofs.Texts.{distinct-map}
use Rattle.smk_base.proofs.rel.hashed.Hashed.new.Goals as goal

pub invariant_of-result : goal.invariant_of-result
invariant_of-result c = record {
  different = distinct-map text_eq (λ v. v.items) _ c.with_hasher.ensures.unique;
  few = search rules;
}
