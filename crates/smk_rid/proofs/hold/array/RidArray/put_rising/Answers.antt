use Rattle.std.proofs.{Common.{◌≡◌, ◌∙◌, [], ℕ, List, get_or, sym, ap}, Math.ListN.replicate}
use Rattle.smk_base.specs.Places.{has}
use Rattle.smk_rid.specs.Forms.{lists_in}
use Rattle.smk_rid.proofs.{Codes.put_none, Joins.has-flat_map}
use Rattle.smk_rid.proofs.hold.array.RidArray.put_rising.Goals as goal

pub returns-in-Empty-clause-same : goal.returns-in-Empty-clause-same
returns-in-Empty-clause-same c = λ r.
    let n = c.in-Empty.field-0 in
    let places = c.args.places.now in
    let lists : c.args.self.now ≡ replicate n [] = sym c.self.view_is ∙ ap lists_in c.in-Empty.is in
    rw (c.requires.none, lists) (sym (ap (λ (z : List ℕ). has z r) (put_none n places)) ∙ has-flat_map (λ p. get_or (replicate n (let e : List ℕ = [] in e)) p []) places r)
