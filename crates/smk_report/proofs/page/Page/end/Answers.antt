use Rattle.std.proofs.{Common.{◌≡◌, true}, lemmas.Result.on_ok_weaker}
use Rattle.std.specs.Prelude.{is_ok}
use Rattle.smk_report.proofs.PageTexts.{ok_gives, record_more}
use Rattle.smk_report.proofs.page.Page.end.Goals as goal

pub returns : goal.returns
returns c = on_ok_weaker c.told.result (λ (well : is_ok c.end_record.result ≡ true) text fields says.
    let e = c.end_record.ensures in
    record_more c.args.self.now _ text fields says (ok_gives _ well e.same) (ok_gives _ well e.bytes) (ok_gives _ well e.fields) (ok_gives _ well e.wrote)) c.told.ensures
