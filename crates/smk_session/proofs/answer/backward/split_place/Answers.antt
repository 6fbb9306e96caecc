use Rattle.std.proofs.{Common.{◌∙◌, ap, sym}, lemmas.Bool.{eq-eqb, and_from}}
use Rattle.smk_base.specs.declared.book.catalog.Back.{Back}
use Rattle.smk_model.specs.{Replies.{is_by, is_split}, Workload.is_back}
use Rattle.smk_session.specs.Extras.{asks_split}
use Rattle.smk_session.proofs.Declared.{place_found}
use Rattle.smk_session.proofs.answer.backward.split_place.Goals as goal

pub returns-then-col-c : goal.returns-then-col-c
returns-then-col-c c =
    let declared = c.declared-item.result in
    let so_far = c.loop-declared.invariant in
    so_far.counted
    ∙ sym (place_found (λ (one : Back). asks_split one.extra) (is_split c.args.v c.args.t c.args.c) c.args.declarations.now c.loop-declared.declared-index declared c.loop-declared-test.true c.declared-item.is (so_far.none ∙ so_far.counted) (ap asks_split c.in-By.is)
    (and_from (is_back c.args.v c.args.t declared) (is_by c.args.c declared.extra) (sym c.is_back.ensures ∙ c.if-is_back.true) (ap (is_by c.args.c) c.in-By.is ∙ eq-eqb c.in-By.col c.args.c c.if-col-c.true)))
