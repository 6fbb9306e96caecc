use Rattle.std.proofs.Common.{ap, ◌∙◌}
use Rattle.smk_base.specs.CatalogImage.{catalog_image}
use Rattle.smk_session.specs.Sessions.{state_of}
use Rattle.smk_own.specs.Image.{part_image}
use Rattle.smk_own.proofs.Parts.{back_told, refused_fits}
use Rattle.smk_own.proofs.narrowing.narrowed.Goals as goal

pub refusal_text-requires : goal.refusal_text-requires
refusal_text-requires g c =
    refused_fits (catalog_image c.args.session.now.catalog) (catalog_image c.catalog.result.now) (state_of c.args.session.now) c.args.line.now c.in-Back.view c.in-Back.marks c.in-Back.table c.in-Back.then c.in-Err-Refused.refusal _
    c.catalog.ensures.checked (ap catalog_image c.catalog.ensures.book) c.in-Err-Refused.refusal-is c.in-Back.is (c.in-Err-Refused.ensures.found c.in-Err-Refused.refusal c.in-Err-Refused.field-0-is)

pub returns-in_ok-back_text-in-Ok-clause-told : goal.returns-in_ok-back_text-in-Ok-clause-told
returns-in_ok-back_text-in-Ok-clause-told g c =
    back_told (catalog_image c.args.session.now.catalog) (state_of c.args.session.now) (part_image c.args.part) c.args.now c.args.line.now c.in-Back.view c.in-Back.marks c.in-Back.table c.in-Back.then c.in-Ok.found c.answered.result
    c.in-Back.is c.in-Ok.ensures.found (ap (λ text. text.items) c.answered.ensures.text ∙ c.in_ok-back_text-in-Ok.ensures.text) c.answered.ensures.refused
