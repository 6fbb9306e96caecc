use Rattle.std.proofs.Common.{◌∙◌, ap, sym}
use Rattle.smk_base.specs.declared.book.catalog.Back.{Back}
use Rattle.smk_model.specs.Workload.{is_back}
use Rattle.smk_session.specs.Extras.{asks_groups}
use Rattle.smk_session.proofs.Declared.{place_found}
use Rattle.smk_session.proofs.answer.backward.cubes_place.Goals as goal

pub returns-then-is_back : goal.returns-then-is_back
returns-then-is_back c =
    let so_far = c.loop-declared.invariant in
    so_far.counted
    ∙ sym (place_found (λ (one : Back). asks_groups one.extra) (is_back c.args.v c.args.t) c.args.declarations.now c.loop-declared.declared-index c.declared-item.result c.loop-declared-test.true c.declared-item.is (so_far.none ∙ so_far.counted) (ap asks_groups c.in-Grouped.is)
    (sym c.is_back.ensures ∙ c.if-is_back.true))
