-- The forms in which a rid array holds its lists.
use Rattle.std.specs.Prelude.{ℕ, List, [], map}
use Rattle.std.proofs.Math.ListN.{replicate}
use Rattle.smk_rid.specs.{Packing.one_of, declared.hold.array.Form.Form, declared.hold.array.Form.TheVariants.{Empty, Bytes, Halves, Words}}

-- the lists, in whichever form
abbrev pub lists_in : Form → List (List ℕ)
lists_in (Empty len) = replicate len []
lists_in (Bytes lists) = lists
lists_in (Halves lists) = lists
lists_in (Words rids) = map one_of rids.items
