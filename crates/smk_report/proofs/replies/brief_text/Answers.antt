use Rattle.std.proofs.{Common.{◌≡◌, ◌∙◌, ◌++◌, ℕ, Vec, Global, arith, sym}, lemmas.Grind.common_steps, lemmas.Result.IfOk-weaker}
use Rattle.std.specs.List.{flat_map}
use Rattle.smk_base.specs.{CatalogImage.catalog_image, declared.reply.Reply.Reply}
use Rattle.smk_model.specs.{OwnTexts.{brief_text, brushed_rids, unlisted}, ReplyTexts.linked_rows_text}
use Rattle.smk_report.proofs.Briefs.{brief_same}
use Rattle.smk_report.proofs.replies.brief_text.Goals as goal

pub returns-in_ok-front-in-Brush-line : goal.returns-in_ok-front-in-Brush-line
returns-in_ok-front-in-Brush-line c =
    let catalog = catalog_image c.args.cat.now in
    IfOk-weaker c.with_contents.result (λ (text : Vec ℕ Global). text.items ≡ c.in_ok-front-in-Brush-line.front.items ++ flat_map (linked_rows_text catalog) c.as_slice.result.now)
    (λ (text : Vec ℕ Global). (told : Reply) → unlisted told ≡ unlisted c.args.reply.now → brushed_rids told ≡ c.args.count → text.items ≡ brief_text catalog c.args.line.now told)
    (λ text is told same count. is ∙ grind (arith, common_steps) ∙ sym (brief_same catalog c.args.line.now c.args.count told c.args.reply.now same count)) c.with_contents.ensures

pub returns-in_ok-front-in-ClearOne : goal.returns-in_ok-front-in-ClearOne
returns-in_ok-front-in-ClearOne c =
    let catalog = catalog_image c.args.cat.now in
    IfOk-weaker c.with_contents-in-ClearOne.result (λ (text : Vec ℕ Global). text.items ≡ c.in_ok-front-in-ClearOne.front.items ++ flat_map (linked_rows_text catalog) c.as_slice-in-ClearOne.result.now)
    (λ (text : Vec ℕ Global). (told : Reply) → unlisted told ≡ unlisted c.args.reply.now → brushed_rids told ≡ c.args.count → text.items ≡ brief_text catalog c.args.line.now told)
    (λ text is told same count. is ∙ grind (arith, common_steps) ∙ sym (brief_same catalog c.args.line.now c.args.count told c.args.reply.now same count)) c.with_contents-in-ClearOne.ensures
