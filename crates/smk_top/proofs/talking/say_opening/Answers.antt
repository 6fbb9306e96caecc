use Rattle.std.proofs.{Common.{◌∙◌, ◌<◌, [], ◌∷◌, ap, sym, length, arith}, lemmas.List.length-map}
use Rattle.smk_base.specs.{CatalogImage.{catalog_image, view_image}, declared.book.catalog.Catalog.Catalog, declared.book.catalog.ViewInfo.ViewInfo}
use Rattle.smk_model.specs.{Session.no_view, ViewTexts.{text_of_view, view_texts}}
use Rattle.smk_session.specs.Sessions.{workbook_of}
use Rattle.smk_outside.proofs.Telling.{Rose-after, Says-trans, SaysFront-after}
use Rattle.smk_top.proofs.Openings.{all_said, next_said, next_broken}
use Rattle.smk_top.proofs.talking.say_opening.Goals as goal

pub loop-number-preserved : goal.loop-number-preserved
loop-number-preserved g c =
    let session = c.args.session.now in
    let inv = c.loop-number.invariant in
    let low : c.loop-number.number < length (catalog_image session.catalog).views =
    omega (arith, c.loop-number-test.true, ap (length {A = ViewInfo}) (c.as_slice-2.ensures ∙ ap (λ (b : Catalog). b.views) c.catalog.ensures.book), length-map session.catalog.views view_image) in
    record {
      said = next_said (text_of_view (workbook_of session)) (catalog_image session.catalog).views no_view c.loop-number.number _ (g.T.Talk.told c.args.talk.now) (g.T.Talk.told c.loop-number.talk) (g.T.Talk.told c.say.new.self) low
          (c.as_slice-in-loop-number.ensures.value ∙ c.in_ok-text-2.ensures) inv.said c.in-Ok.ensures.ok;
      later = omega (arith, inv.later, c.in-Ok.ensures.later);
    }

pub returns-in-Err-clause-gives : goal.returns-in-Err-clause-gives
returns-in-Err-clause-gives g c =
    let session = c.args.session.now in
    let inv = c.loop-number.invariant in
    let low : c.loop-number.number < length (catalog_image session.catalog).views =
    omega (arith, c.loop-number-test.true, ap (length {A = ViewInfo}) (c.as_slice-2.ensures ∙ ap (λ (b : Catalog). b.views) c.catalog.ensures.book), length-map session.catalog.views view_image) in
    rw c.if-manner.false (
      next_broken (text_of_view (workbook_of session)) (catalog_image session.catalog).views no_view c.loop-number.number _ (g.T.Talk.told c.args.talk.now) (g.T.Talk.told c.loop-number.talk) (g.T.Talk.told c.say.new.self) low
          (c.as_slice-in-loop-number.ensures.value ∙ c.in_ok-text-2.ensures) ((10 ∷ []) ∷ []) inv.said c.in-Err.ensures.front,
      Rose-after _ _ _ inv.later c.in-Err.ensures.cause,
    )

pub returns-in-Ok-say-clause-gives : goal.returns-in-Ok-say-clause-gives
returns-in-Ok-say-clause-gives g c =
    let session = c.args.session.now in
    let texts = view_texts (workbook_of session) in
    let count = ap (length {A = ViewInfo}) (c.as_slice-2.ensures ∙ ap (λ (b : Catalog). b.views) c.catalog.ensures.book) ∙ sym (length-map session.catalog.views view_image) ∙ sym (length-map (catalog_image session.catalog).views (text_of_view (workbook_of session))) in
    let all = all_said texts _ c.loop-number.number (g.T.Talk.told c.args.talk.now) (g.T.Talk.told c.loop-number.talk) count c.loop-number-test.false c.loop-number.invariant.said in
    rw c.if-manner.false (Says-trans (g.T.Talk.told c.args.talk.now) (g.T.Talk.told c.loop-number.talk) (g.T.Talk.told c.say-2.new.self) texts ((10 ∷ []) ∷ []) all c.in-Ok-say.ensures.ok)

pub returns-in-Err-say-clause-gives : goal.returns-in-Err-say-clause-gives
returns-in-Err-say-clause-gives g c =
    let session = c.args.session.now in
    let texts = view_texts (workbook_of session) in
    let count = ap (length {A = ViewInfo}) (c.as_slice-2.ensures ∙ ap (λ (b : Catalog). b.views) c.catalog.ensures.book) ∙ sym (length-map session.catalog.views view_image) ∙ sym (length-map (catalog_image session.catalog).views (text_of_view (workbook_of session))) in
    let all = all_said texts _ c.loop-number.number (g.T.Talk.told c.args.talk.now) (g.T.Talk.told c.loop-number.talk) count c.loop-number-test.false c.loop-number.invariant.said in
    rw c.if-manner.false (
      SaysFront-after (g.T.Talk.told c.args.talk.now) (g.T.Talk.told c.loop-number.talk) (g.T.Talk.told c.say-2.new.self) texts ((10 ∷ []) ∷ []) all c.in-Err-say.ensures.front,
      Rose-after _ _ _ c.loop-number.invariant.later c.in-Err-say.ensures.cause,
    )
