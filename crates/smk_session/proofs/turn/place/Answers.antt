use Rattle.std.proofs.{Common.{◌≡◌, ◌∙◌, ◌++◌, ◌∷◌, [], List, length, ap, sym}, lemmas.List.length-set}
use Rattle.smk_base.specs.Rels.{Relation}
use Rattle.std.specs.Prelude.{Option}
use Rattle.smk_session.specs.{Answers.placed, declared.turn.Content.Content}
use Rattle.smk_session.proofs.InForce.{placed_last, still_known}
use Rattle.smk_session.proofs.turn.place.Goals as goal

pub loop-content-preserved : goal.loop-content-preserved
loop-content-preserved c =
    let before = c.loop-content.contents in
    let left = c.pop.new.self.items in
    let content = c.in-Some.content in
    let all : c.loop-content.rest.items ≡ left ++ content ∷ [] = c.in-Some.ensures.items in
    record {
      left =
          ap (placed left) c.put.ensures
          ∙ sym (placed_last left content before)
          ∙ ap (λ (l : List Content). placed l before) (sym all)
          ∙ c.loop-content.invariant.left;
      known = still_known (length before) (length c.put.new.contents) c.loop-content.rest.items left content all
          (sym (length-set before content.view content.rel) ∙ ap (length {A = Option Relation}) (sym c.put.ensures)) c.loop-content.invariant.known;
    }
