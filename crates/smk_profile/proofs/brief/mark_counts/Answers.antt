use Rattle.std.proofs.{Common.{◌≡◌, ◌∙◌, ◌<◌, List, ℕ, ap, arith, length, slice_index_or, subst, sym, take_all}, lemmas.Grind.common_steps, lemmas.List.length-map}
use Rattle.smk_base.specs.{CatalogImage.catalog_image, Rels.Relation, declared.reply.Reply.TheVariants.Back}
use Rattle.smk_model.specs.{Profiles.{mark_line, shown_by}, Replies.reply, Typing.info_at}
use Rattle.smk_session.specs.Sessions.{state_of}
use Rattle.smk_profile.specs.{Briefs.size_of, Marked.IsAnsweredByRows}
use Rattle.smk_profile.proofs.{Counts.{sizes, sizes_more}, Marked.{answered, wanted, wanted_number}}
use Rattle.smk_profile.proofs.brief.mark_counts.Goals as goal

pub mark_count-requires : goal.mark_count-requires
mark_count-requires c =
    let session = c.args.session.now in
    let catalog = catalog_image session.catalog in
    let name : (slice_index_or c.as_slice.result.now c.table_shown-table.result c.index-as_slice-table.result).name ≡ (info_at catalog.tables (shown_by catalog c.args.v).table).name = grind (arith, common_steps) in
    let number = c.len-mark-end.ensures.count ∙ ap (λ (r : Relation). length r.rows) c.first.ensures.rows in
    let low : c.loop-mark.mark < length (wanted catalog (state_of session) c.args.v) = omega (arith, c.loop-mark-test.true, number, wanted_number catalog (state_of session) c.args.view.now c.args.v c.requires.placed c.requires.shows) in
    subst (λ (n : List ℕ). IsAnsweredByRows catalog (state_of session) (mark_line c.args.view.now n c.loop-mark.mark)) (sym name) (answered catalog (state_of session) c.args.view.now c.args.v c.loop-mark.mark c.requires.placed c.requires.shows low)

pub loop-mark-preserved : goal.loop-mark-preserved
loop-mark-preserved c =
    let session = c.args.session.now in
    let catalog = catalog_image session.catalog in
    let name : (slice_index_or c.as_slice.result.now c.table_shown-table.result c.index-as_slice-table.result).name ≡ (info_at catalog.tables (shown_by catalog c.args.v).table).name = grind (arith, common_steps) in
    let number = c.len-mark-end.ensures.count ∙ ap (λ (r : Relation). length r.rows) c.first.ensures.rows in
    let low : c.loop-mark.mark < length (wanted catalog (state_of session) c.args.v) = omega (arith, c.loop-mark-test.true, number, wanted_number catalog (state_of session) c.args.view.now c.args.v c.requires.placed c.requires.shows) in
    c.in_ok-push.ensures.pushed ∙ sizes_more catalog (state_of session) c.args.view.now c.args.v c.loop-mark.mark _ c.loop-mark.counts c.requires.placed c.requires.shows low c.loop-mark.invariant
    (λ rids rows told. c.in_ok-mark_count.ensures rids rows (subst (λ (n : List ℕ). (reply catalog (state_of session) (mark_line c.args.view.now n c.loop-mark.mark)).0 ≡ Back rids rows) (sym name) told))

pub returns : goal.returns
returns c =
    let session = c.args.session.now in
    let catalog = catalog_image session.catalog in
    let all = sizes catalog (state_of session) c.args.v in
    let number = c.len-mark-end.ensures.count ∙ ap (λ (r : Relation). length r.rows) c.first.ensures.rows in
    let long = length-map (wanted catalog (state_of session) c.args.v) size_of in
    c.loop-mark.invariant ∙ take_all c.loop-mark.mark all (omega (arith, c.loop-mark-test.false, number, long, wanted_number catalog (state_of session) c.args.view.now c.args.v c.requires.placed c.requires.shows))
