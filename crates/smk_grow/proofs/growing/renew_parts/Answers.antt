use Rattle.std.proofs.Common.{◌≤◌, ◌+◌, List, length, subst}
use Rattle.std.specs.List.{sum_by}
use Rattle.smk_base.specs.{Places.upto, Rels.Relation}
use Rattle.smk_model.specs.{Appends.scanning, Opening.{first_some, view_fault}}
use Rattle.smk_session.specs.{Parts.parts_image, Opened.{IsStartFault, workbook_image}, Sessions.workbook_of}
use Rattle.smk_grow.specs.Renewed.{looks_again, looks_of_declared}
use Rattle.smk_grow.proofs.Told.{after_refusal, told_committed}
use Rattle.smk_grow.proofs.growing.renew_parts.Goals as goal

pub returns-in-Err-clause-after : goal.returns-in-Err-clause-after
returns-in-Err-clause-after g c =
    let session = parts_image c.args.parts.now in
    let book = workbook_of session in
    let found = first_some (view_fault book) (scanning book.catalog c.args.append.now.table) in
    let fault = subst (λ (T : List Relation). IsStartFault c.in-Err.fault (first_some (view_fault (workbook_image session.catalog T)) (scanning book.catalog c.args.append.now.table))) c.as_slice.ensures.value c.in-Err.ensures.fault in
    after_refusal c.refused.result found c.args.append.now.table c.args.append.now.len session (parts_image c.shorten_parts.new.parts) (c.refused.ensures.found found fault) c.shorten_parts.ensures

pub returns-in-Err-clause-looks : goal.returns-in-Err-clause-looks
returns-in-Err-clause-looks g c =
    let session = parts_image c.args.parts.now in
    let book = workbook_of session in
    subst (λ (T : List Relation). c.renew_told.new.steps ≤ c.args.steps.now + sum_by (looks_again c.args.append.now.table (workbook_image session.catalog T)) (upto (length book.catalog.views)) + sum_by (looks_of_declared c.args.append.now.table (workbook_image session.catalog T)) book.catalog.backs)
    c.as_slice.ensures.value c.renew_told.ensures.looks

pub returns-in-Ok-clause-text : goal.returns-in-Ok-clause-text
returns-in-Ok-clause-text g c =
    let session = parts_image c.args.parts.now in
    told_committed _ session (parts_image c.commit-views.new.parts) c.as_slice.result.now c.args.append.now.table c.args.append.now.rows c.in-Ok.fresh.scanning c.commit-views.result c.in-Ok.text.items c.as_slice.ensures.value c.in-Ok.ensures.text c.in-Ok.ensures.fresh.scanning c.commit-views.ensures.scanning c.commit-views.ensures.parts
