use Rattle.std.proofs.Common.{◌≡◌, ◌∙◌, Result, Ok, Err, ap, subst, sym}
use Rattle.std.specs.Prelude.{IfOk}
use Rattle.smk_base.specs.{CatalogImage.catalog_image, TreeImage.ask_image}
use Rattle.smk_model.specs.Catalogs.{IsCatalog}
use Rattle.smk_model.proofs.AsksFit.{asked_backs_fit, asks_fit}
use Rattle.smk_session.specs.Sessions.{SessionImage, state_of}
use Rattle.smk_ask.proofs.asking.ask.Goals as goal

-- what holds of a value holds of the same one
of_same : {A E : Type 0} (P : A → Type 0) (result : Result A E) (a : A) → IfOk result (λ x. x ≡ a) → P a → IfOk result P
of_same P (Ok x) a same held = subst P (sym same) held
of_same P (Err e) a same held = tt

pub told_over-requires-clause-fits : goal.told_over-requires-clause-fits
told_over-requires-clause-fits g c κs within =
    let same : c.back_reply.new.session ≡ c.args.session.now = c.in_ok-reply.ensures.same in
    let checked = subst (λ (session : SessionImage). IsCatalog (catalog_image session.catalog)) same c.catalog.ensures.checked in
    let book : c.catalog.result.now ≡ c.args.session.now.catalog = c.catalog.ensures.book ∙ ap (λ (session : SessionImage). session.catalog) same in
    rw (book, c.in_ok-reply.ensures.reply) (asked_backs_fit (catalog_image c.args.session.now.catalog) (state_of c.args.session.now) (ask_image c.args.line.now) checked).fits

pub returns-clause-fits : goal.returns-clause-fits
returns-clause-fits g c =
    let same : c.back_reply.new.session ≡ c.args.session.now = c.in_ok-reply.ensures.same in
    let checked = subst (λ (session : SessionImage). IsCatalog (catalog_image session.catalog)) same c.catalog.ensures.checked in
    let book : c.catalog.result.now ≡ c.args.session.now.catalog = c.catalog.ensures.book ∙ ap (λ (session : SessionImage). session.catalog) same in
    of_same _ c.told_over.result _ c.told_over.ensures (rw (book, c.in_ok-reply.ensures.reply) (asks_fit (catalog_image c.args.session.now.catalog) (state_of c.args.session.now) (ask_image c.args.line.now) checked))
