use Rattle.std.proofs.{Common.{◌≡◌, ◌∙◌, ap, map, ◌++◌}, lemmas.Result.{IfOk-at_ok, IfOk-weaker}}
use Rattle.smk_base.specs.Rels.{Relation, kind_in}
use Rattle.smk_body.specs.Parts.{columns_of}
use Rattle.smk_body.proofs.{Parting.{rows_behind, same_wider}, Besides.relation}
use Rattle.smk_body.proofs.make.gather.+rows.Goals as goal

pub followed_by-requires-clause-wider : goal.followed_by-requires-clause-wider
followed_by-requires-clause-wider g t c =
    let rel = c.args.rel.now in
    let cols = c.args.cols.now in
    let low = c.split_at.result.0.now in
    let high = c.split_at.result.1.now in
    let left = IfOk-at_ok (λ (r : Relation). r ≡ columns_of rel low cols) c.in_ok-left.ensures.first c.join-lefts.ensures.first in
    let right = IfOk-at_ok (λ (r : Relation). r ≡ columns_of rel high cols) c.in_ok-left.ensures.second c.join-lefts.ensures.second in
    rw (ap (λ (r : Relation). r.kinds) left, ap (λ (r : Relation). r.kinds) right) (same_wider (map (kind_in rel.kinds) cols))

pub returns : goal.returns
returns g t c =
    let rel = c.args.rel.now in
    let cols = c.args.cols.now in
    let low = c.split_at.result.0.now in
    let high = c.split_at.result.1.now in
    let left = IfOk-at_ok (λ (r : Relation). r ≡ columns_of rel low cols) c.in_ok-left.ensures.first c.join-lefts.ensures.first in
    let right = IfOk-at_ok (λ (r : Relation). r ≡ columns_of rel high cols) c.in_ok-left.ensures.second c.join-lefts.ensures.second in
    IfOk-weaker c.followed_by.result (λ (r : Relation). r ≡ relation c.in_ok-left.left.kinds (c.in_ok-left.left.rows ++ c.in_ok-left.right.rows)) (λ (r : Relation). r ≡ columns_of rel c.args.places.now cols)
    (λ r e. e ∙ rows_behind rel c.args.places.now cols low high c.in_ok-left.left c.in_ok-left.right c.split_at.ensures.by_index.0 left right) c.followed_by.ensures
