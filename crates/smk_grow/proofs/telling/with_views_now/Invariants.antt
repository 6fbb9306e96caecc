use Rattle.std.proofs.Common.{◌≡◌, ◌++◌, take}
use Rattle.std.specs.List.{flat_map}
use Rattle.smk_model.specs.{Session.view_at, ViewTexts.text_of_view}
use Rattle.smk_session.specs.Making.{book_in}
use Rattle.smk_grow.proofs.telling.with_views_now.Given as goal

abbrev pub invariant-loop-v : goal.invariant-loop-v
invariant-loop-v g l = l.text.items ≡ l.initial.text.items ++ flat_map (λ v. text_of_view (book_in l.views) (view_at (book_in l.views).catalog v)) (take l.v-index l.scanning)
