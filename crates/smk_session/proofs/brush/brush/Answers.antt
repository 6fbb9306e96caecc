use Rattle.std.proofs.{Common.{◌≡◌, ◌≤◌, ◌+◌, ◌∙◌, List, All, Ok, ap, map, refl, subst, sym}, lemmas.Result.err_from_is_err_and}
use Rattle.smk_base.specs.declared.brush.BrushOn.{BrushOn}
use Rattle.smk_base.specs.declared.reply.Reply.TheVariants as replies
use Rattle.smk_model.specs.{Looks.looks_of_linked, Replies.{all_linked, brush_of}, Session.linked}
use Rattle.smk_session.specs.{Answers.{Turns, book_of, content_at, state_at, state_lent}, Sessions.BrushFits, declared.brush.refresh.Refresh.Refresh}
use Rattle.smk_session.proofs.{Brushed.{refreshes, brush_told, brush_turned, brush_looks, brush_change}, Told.{brush_listed, told_turned, told_views}, Shown.with_fits}
use Rattle.smk_session.proofs.brush.brush.Goals as goal

pub follow-requires-clause-refresh : goal.follow-requires-clause-refresh
follow-requires-clause-refresh g c κs within =
    refreshes _ c.requires
    (subst (λ (l : List BrushOn). All (BrushFits c.args.held.now.catalog.now c.args.held.now.tables.now) l) (sym (c.as_slice.ensures ∙ c.in_ok-brushes.ensures))
    (with_fits (BrushFits c.args.held.now.catalog.now c.args.held.now.tables.now) c.in_ok-brush.brush c.args.held.now.brushes.now c.in_ok-brush.ensures.fits c.requires.in_force.brushes_fit))
    c.in_ok-brush.ensures.fits.table

pub returns-clause-told : goal.returns-clause-told
returns-clause-told g c =
    let held = c.args.held.now in
    let brush = c.in_ok-brush.brush in
    let refresh : Refresh = record { held = c.args.held; brushes = c.as_slice.result; table = brush.table; marked = c.args.listed } in
    let told = told_views refresh brush.view c.in_ok-followed.followed.linked c.in_ok-followed.ensures.linked in
    record {
      whole = replies.Brush brush.rids told.0;
      asked_for = brush_told (book_of held) (state_lent held) c.args.view.now c.args.marks.now c.args.table.now brush c.in_ok-brushes.brushes brush.rids told.0 c.in_ok-brush.ensures.gives c.in_ok-brushes.ensures refl
          (subst (λ (l : List BrushOn). all_linked (book_of held) (state_at held l) brush.view brush.table ≡ Ok told.0) c.as_slice.ensures told.1);
      told = record {
        reply = ap (replies.Brush c.in_ok-rids.rids) told.2 ∙ brush_listed c.args.listed brush.rids told.0 c.in_ok-rids.rids c.in_ok-rids.ensures;
        count = c.count_of-count.ensures;
      };
    }

pub returns-clause-changes : goal.returns-clause-changes
returns-clause-changes g c =
    brush_change c.args.held.now c.in_ok-brush.brush c.in_ok-brushes.brushes c.in_ok-followed.followed.contents c.in_ok-rids.rids c.in_ok-followed.followed.linked c.requires c.in_ok-brush.ensures.fits c.in_ok-brushes.ensures
    (subst (λ (l : List BrushOn). c.in_ok-followed.followed.contents ≡ map (content_at (book_of c.args.held.now) (state_at c.args.held.now l)) (linked (book_of c.args.held.now) c.in_ok-brush.brush.view c.in_ok-brush.brush.table)) c.as_slice.ensures c.in_ok-followed.ensures.contents)

pub returns-clause-looks : goal.returns-clause-looks
returns-clause-looks g c =
    brush_looks (book_of c.args.held.now) (state_lent c.args.held.now) (brush_of (book_of c.args.held.now) (state_lent c.args.held.now) c.args.view.now c.args.marks.now c.args.table.now) c.in_ok-brush.brush c.in_ok-brushes.brushes c.args.steps.now c.follow.new.steps c.in_ok-brush.ensures.gives c.in_ok-brushes.ensures
    (subst (λ (l : List BrushOn). c.follow.new.steps ≤ c.args.steps.now + looks_of_linked (book_of c.args.held.now) (state_at c.args.held.now l) c.in_ok-brush.brush.view c.in_ok-brush.brush.table) c.as_slice.ensures c.follow.ensures.looks)

pub returns-in_err-followed-clause-turned : goal.returns-in_err-followed-clause-turned
returns-in_err-followed-clause-turned g c =
    let p = err_from_is_err_and c.from_residual-in_err-followed.result c.from_residual-in_err-followed.ensures.1 in
    let refresh : Refresh = record { held = c.args.held; brushes = c.as_slice.result; table = c.in_ok-brush.brush.table; marked = c.args.listed } in
    rw (p.1, p.2)
    (brush_turned (book_of c.args.held.now) (state_lent c.args.held.now) c.args.view.now c.args.marks.now c.args.table.now c.in_ok-brush.brush c.in_ok-brushes.brushes c.in_err-followed.field-0.0 c.in_ok-brush.ensures.gives c.in_ok-brushes.ensures
    (subst (λ (l : List BrushOn). Turns c.in_err-followed.field-0.0 (all_linked (book_of c.args.held.now) (state_at c.args.held.now l) c.in_ok-brush.brush.view c.in_ok-brush.brush.table)) c.as_slice.ensures
    (told_turned refresh c.in_ok-brush.brush.view c.in_err-followed.field-0.0 c.in_err-followed.ensures.linked)))

pub returns-in_err-followed-clause-looks : goal.returns-in_err-followed-clause-looks
returns-in_err-followed-clause-looks g c =
    brush_looks (book_of c.args.held.now) (state_lent c.args.held.now) (brush_of (book_of c.args.held.now) (state_lent c.args.held.now) c.args.view.now c.args.marks.now c.args.table.now) c.in_ok-brush.brush c.in_ok-brushes.brushes c.args.steps.now c.follow.new.steps c.in_ok-brush.ensures.gives c.in_ok-brushes.ensures
    (subst (λ (l : List BrushOn). c.follow.new.steps ≤ c.args.steps.now + looks_of_linked (book_of c.args.held.now) (state_at c.args.held.now l) c.in_ok-brush.brush.view c.in_ok-brush.brush.table) c.as_slice.ensures c.follow.ensures.looks)
