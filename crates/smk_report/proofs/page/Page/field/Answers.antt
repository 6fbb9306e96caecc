use Rattle.std.proofs.{Common.{◌≡◌, true}, lemmas.Result.on_ok_weaker}
use Rattle.std.specs.Prelude.{is_ok}
use Rattle.smk_report.proofs.PageTexts.{field_more, ok_gives}
use Rattle.smk_report.proofs.page.Page.field.Goals as goal

pub returns : goal.returns
returns c = on_ok_weaker c.told.result (λ (well : is_ok c.write_field.result ≡ true) text fields says.
    let e = c.write_field.ensures in
    field_more c.args.self.now _ text fields c.args.bytes.now says (ok_gives _ well e.same) (ok_gives _ well e.text) (ok_gives _ well e.count) (ok_gives _ well e.wrote) (ok_gives _ well e.stays)) c.told.ensures
