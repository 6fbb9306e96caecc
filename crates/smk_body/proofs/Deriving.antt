-- The rows of a step, from what it found.
use Rattle.std.proofs.Common.{◌≡◌, true, List, [], length, sym}
use Rattle.smk_base.specs.{Places.upto, Plans.{Formula, Selection, Binary}, Rels.{beside_rows, rows_at}}
use Rattle.smk_keys.specs.Classes.{classes_of}
use Rattle.smk_model.specs.{Lineage.{lefts_of, matching, meeting, rights_of}, Plain.{firsts, is_join, joins, step1, step2}, Values.{Row, meets}}
use Rattle.smk_model.proofs.{Bulk.bulk, Classes.first_keys}
use Rattle.smk_base.proofs.Places.{at_places, map_upto}

-- those of a selection
pub rows_met : (formula : Formula) (L : List Row) → step1 (Selection formula) L ≡ rows_at L (meeting formula L)
rows_met formula L = sym (at_places (meets formula) L [])

-- those of a distinct
pub rows_first : (L : List Row) → firsts L ≡ rows_at L (classes_of L).firsts
rows_first L = sym (first_keys L)

-- those of a join
pub rows_joined : (op : Binary) (L R : List Row) → is_join op ≡ true → step2 op L R ≡ beside_rows (rows_at L (lefts_of (matching (joins op) L R))) (rows_at R (rights_of (matching (joins op) L R)))
rows_joined op L R is = bulk.join op L R is

-- all rows in order are where they are
pub rows_all : (L : List Row) → rows_at L (upto (length L)) ≡ L
rows_all L = map_upto L []
