use Rattle.std.proofs.Common.{◌≡◌, map}
use Rattle.smk_base.specs.Places.{upto}
use Rattle.smk_model.specs.Selection.{each_rows}
use Rattle.smk_chain.specs.Parts.{joint_map_at}
use Rattle.smk_chain.proofs.maps.maps_of_both.Given as goal

abbrev pub invariant-loop-i : goal.invariant-loop-i
invariant-loop-i l = l.made ≡ map (joint_map_at l.both.groups.now l.traced.scanned l.rows (each_rows l.traced.tables.now) l.traced.need.now l.both.old.now l.both.new.now) (upto l.i)
