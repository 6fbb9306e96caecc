use Rattle.std.proofs.Common.{◌≡◌, map, take}
use Rattle.smk_model.specs.{Plain.image, Kinds.kind_of_item}
use Rattle.smk_body.proofs.make.project.images.Given as goal

abbrev pub invariant-loop-item : goal.invariant-loop-item
invariant-loop-item l = l.made ≡ record { kinds = map (kind_of_item l.rel.kinds) (take l.item-index l.items); rows = map (image (take l.item-index l.items)) l.rel.rows }
