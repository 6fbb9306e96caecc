use Rattle.std.proofs.Common.{Err, refl}
use Rattle.smk_model.specs.{Replies.content_of, Selection.first_full, Session.{leaves_now, view_at}}
use Rattle.smk_session.specs.Refreshed.{book_at, marks_told, state_next}
use Rattle.smk_session.proofs.Refreshing.{source_made}
use Rattle.smk_session.proofs.brush.following.follow_one.Goals as goal

pub returns-in-Err : goal.returns-in-Err
returns-in-Err g c =
    let r = c.args.refresh.now in
    let w = c.args.fetched.view in
    c.at_node.ensures (first_full (view_at (book_at r) w).plan (leaves_now (book_at r) (state_next r) w)) (source_made r w c.args.fetched.source (Err c.in-Err.fault) c.requires.source c.in-Err.ensures)
    (record { view = w; marks = marks_told r w; rel = content_of (book_at r) (state_next r) w }) refl
