use Rattle.std.proofs.lemmas.List.{length-map}
use Rattle.smk_base.proofs.Recoding.{AreCodes-push}
use Rattle.smk_base.proofs.rel.text_column.TextColumn.push_code.Goals as goal

pub invariant_of-self-2 : goal.invariant_of-self-2
invariant_of-self-2 c =
    let room = rw (← c.self.view_is, length-map) at c.requires.room in
    let code = rw (← c.self.view_is, ← c.self.invariant.firsts) at c.requires.code in
    rw c.in_ok-push.ensures.items (AreCodes-push _ _ c.args.code c.self.invariant room code)
