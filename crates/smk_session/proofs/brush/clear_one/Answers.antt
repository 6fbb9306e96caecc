use Rattle.std.proofs.{Common.{◌≡◌, ◌≤◌, ◌+◌, ◌∙◌, List, All, Ok, ap, map, refl, subst, sym}, lemmas.Result.err_from_is_err_and}
use Rattle.smk_base.specs.declared.brush.BrushOn.{BrushOn}
use Rattle.smk_base.specs.declared.reply.Reply.TheVariants as replies
use Rattle.smk_model.specs.{Looks.looks_of_linked, Replies.{all_linked, linked_pair}, Session.linked}
use Rattle.smk_session.specs.{Answers.{Turns, book_of, content_at, state_at, state_lent}, Sessions.BrushFits, declared.brush.refresh.Refresh.Refresh}
use Rattle.smk_session.proofs.{Brushed.{refreshes, clear_told, clear_turned, clear_looks, clear_change}, Told.{clear_listed, told_turned, told_views}, Shown.kept_fit}
use Rattle.smk_session.proofs.brush.clear_one.Goals as goal

pub follow-requires-clause-refresh : goal.follow-requires-clause-refresh
follow-requires-clause-refresh g c κs within =
    refreshes _ c.requires
    (subst (λ (l : List BrushOn). All (BrushFits c.args.held.now.catalog.now c.args.held.now.tables.now) l) (sym (c.as_slice.ensures ∙ c.in_ok-brushes.ensures))
    (kept_fit (BrushFits c.args.held.now.catalog.now c.args.held.now.tables.now) _ c.args.held.now.brushes.now c.requires.in_force.brushes_fit))
    c.in_ok-v.ensures.table

pub returns-clause-told : goal.returns-clause-told
returns-clause-told g c =
    let held = c.args.held.now in
    let refresh : Refresh = record { held = c.args.held; brushes = c.as_slice.result; table = c.in_ok-v.t; marked = c.args.listed } in
    let told = told_views refresh c.in_ok-v.v c.in_ok-followed.followed.linked c.in_ok-followed.ensures.linked in
    record {
      whole = replies.ClearedOne told.0;
      asked_for = clear_told (book_of held) (state_lent held) c.args.view.now c.args.table.now c.in_ok-v.v c.in_ok-v.t c.in_ok-brushes.brushes told.0 c.in_ok-v.ensures.gives c.in_ok-brushes.ensures
          (subst (λ (l : List BrushOn). all_linked (book_of held) (state_at held l) c.in_ok-v.v c.in_ok-v.t ≡ Ok told.0) c.as_slice.ensures told.1);
      told = record { reply = ap replies.ClearedOne told.2 ∙ clear_listed c.args.listed told.0; count = refl };
    }

pub returns-clause-changes : goal.returns-clause-changes
returns-clause-changes g c =
    clear_change c.args.held.now c.in_ok-v.v c.in_ok-v.t c.in_ok-brushes.brushes c.in_ok-followed.followed.contents c.in_ok-followed.followed.linked c.requires c.in_ok-brushes.ensures
    (subst (λ (l : List BrushOn). c.in_ok-followed.followed.contents ≡ map (content_at (book_of c.args.held.now) (state_at c.args.held.now l)) (linked (book_of c.args.held.now) c.in_ok-v.v c.in_ok-v.t)) c.as_slice.ensures c.in_ok-followed.ensures.contents)

pub returns-clause-looks : goal.returns-clause-looks
returns-clause-looks g c =
    clear_looks (book_of c.args.held.now) (state_lent c.args.held.now) (linked_pair (book_of c.args.held.now) c.args.view.now c.args.table.now) c.in_ok-v.v c.in_ok-v.t c.in_ok-brushes.brushes c.args.steps.now c.follow.new.steps c.in_ok-v.ensures.gives c.in_ok-brushes.ensures
    (subst (λ (l : List BrushOn). c.follow.new.steps ≤ c.args.steps.now + looks_of_linked (book_of c.args.held.now) (state_at c.args.held.now l) c.in_ok-v.v c.in_ok-v.t) c.as_slice.ensures c.follow.ensures.looks)

pub returns-in_err-followed-clause-turned : goal.returns-in_err-followed-clause-turned
returns-in_err-followed-clause-turned g c =
    let p = err_from_is_err_and c.from_residual-in_err-followed.result c.from_residual-in_err-followed.ensures.1 in
    let refresh : Refresh = record { held = c.args.held; brushes = c.as_slice.result; table = c.in_ok-v.t; marked = c.args.listed } in
    rw (p.1, p.2)
    (clear_turned (book_of c.args.held.now) (state_lent c.args.held.now) c.args.view.now c.args.table.now c.in_ok-v.v c.in_ok-v.t c.in_ok-brushes.brushes c.in_err-followed.field-0.0 c.in_ok-v.ensures.gives c.in_ok-brushes.ensures
    (subst (λ (l : List BrushOn). Turns c.in_err-followed.field-0.0 (all_linked (book_of c.args.held.now) (state_at c.args.held.now l) c.in_ok-v.v c.in_ok-v.t)) c.as_slice.ensures
    (told_turned refresh c.in_ok-v.v c.in_err-followed.field-0.0 c.in_err-followed.ensures.linked)))

pub returns-in_err-followed-clause-looks : goal.returns-in_err-followed-clause-looks
returns-in_err-followed-clause-looks g c =
    clear_looks (book_of c.args.held.now) (state_lent c.args.held.now) (linked_pair (book_of c.args.held.now) c.args.view.now c.args.table.now) c.in_ok-v.v c.in_ok-v.t c.in_ok-brushes.brushes c.args.steps.now c.follow.new.steps c.in_ok-v.ensures.gives c.in_ok-brushes.ensures
    (subst (λ (l : List BrushOn). c.follow.new.steps ≤ c.args.steps.now + looks_of_linked (book_of c.args.held.now) (state_at c.args.held.now l) c.in_ok-v.v c.in_ok-v.t) c.as_slice.ensures c.follow.ensures.looks)
