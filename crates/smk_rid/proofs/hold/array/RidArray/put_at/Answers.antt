use Rattle.std.proofs.{Common.{◌≡◌, ◌∙◌, [], sym, ap}, Math.ListN.replicate, lemmas.List.append-nil}
use Rattle.smk_rid.specs.Forms.{lists_in}
use Rattle.smk_rid.proofs.Codes.{put_none}
use Rattle.smk_rid.proofs.hold.array.RidArray.put_at.Goals as goal

pub returns-in-Empty : goal.returns-in-Empty
returns-in-Empty c =
    let lists : c.args.self.now ≡ replicate c.in-Empty.field-0 [] = sym c.self.view_is ∙ ap lists_in c.in-Empty.is in
    rw (lists, put_none c.in-Empty.field-0 c.args.places.now) (sym (append-nil c.args.rids.now.items))
