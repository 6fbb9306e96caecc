-- What a step finds keeps the bounds of its way, and the lineage of the step is a fact of that.
use Rattle.std.proofs.{Common.{◌≡◌, ◌∙◌, ◌<◌, ◌≤◌, ℕ, true, List, ◌++◌, length, take, drop, ap, arith, subst, sym}, lemmas.List.{length-append, length-drop, length-take-le}, lemmas.List.Elements.{All-take, All-drop}}
use Rattle.smk_base.specs.{Plans.{Formula, Unary, Selection, Binary}, declared.book.plan.Dir.Dir, declared.rel.TheConstants.ROW_LIMIT}
use Rattle.smk_keys.specs.Classes.{ClassesImage, classes_of}
use Rattle.smk_model.specs.{Lineage.{matching, meeting, row_at}, Plain.{is_join, joins, step2}, Values.{Row, meets}, Classes.classes, Ways.{Way, Targets, back_of, fwd_of, reaches, way, left_way, right_way}}
use Rattle.smk_model.proofs.{CuiWidom.length_selected, Ways.lineage_of_ways, Sizes.adds_no_rows}
use Rattle.smk_base.proofs.Places.{places_below}
use Rattle.smk_body.proofs.{Classing.{are_numbered, length_firsts}, Pairing.{length_joined, length_lefts}, Siding.{both_sides, by_way, one_side, two_sides}}
use Rattle.smk_body.specs.{Bounds.AreBelow, Halves.{AreNumbered, PlacePairs, halves_of}, Locals.{local1, local2, side_of}, declared.keep.local.Want.Want}

pub lineage1 : (op : Unary) (L : List Row) (w : Way) (want : Dir) → w ≡ way op L → one_side (side_of want (back_of w) (fwd_of w)) ≡ local1 op L want
lineage1 op L w want e = ap one_side (by_way want e (lineage_of_ways.one op L))

pub lineage2 : (op : Binary) (L R : List Row) (v w : Way) (want : Want) → v ≡ left_way op L R → w ≡ right_way op L R → two_sides (side_of want.left (back_of v) (fwd_of v)) (side_of want.right (back_of w) (fwd_of w)) ≡ local2 op L R want
lineage2 op L R v w want e f = both_sides (by_way want.left e (lineage_of_ways.left op L R)) (by_way want.right f (lineage_of_ways.right op L R))

-- the way in which rows reach their groups
pub reached : (keys : List Row) (made : ClassesImage) → made ≡ classes_of keys → Targets made.of (length made.firsts) ≡ reaches keys
reached keys made e = ap (λ (m : ClassesImage). Targets m.of (length m.firsts)) e ∙ ap (Targets (classes keys)) (length_firsts keys)

-- the places that meet a formula
pub places_stand : (formula : Formula) (L : List Row) (items : List ℕ) → items ≡ meeting formula L → length L ≤ ROW_LIMIT → AreBelow (length L) items
places_stand formula L items e short = record {
  few = omega (arith, ap length e, length_selected (meets formula) L, adds_no_rows (Selection formula) L, short);
  below = rw e (places_below (λ i. meets formula (row_at L i)) (length L));
}

-- the groups of the rows of both sides, on the left and on the right
pub lefts_stand : (L R : List Row) (made : ClassesImage) (n : ℕ) → made ≡ classes_of (L ++ R) → n ≡ length L → length L ≤ ROW_LIMIT → AreBelow (length made.firsts) (take n made.of)
lefts_stand L R made n e m short =
    let so : AreNumbered (length (L ++ R)) made = subst (AreNumbered (length (L ++ R))) (sym e) (are_numbered (L ++ R)) in record {
      few = omega (arith, length-take-le n made.of (omega (arith, so.long, length-append L R, m)), m, short);
      below = All-take (λ r. r < length made.firsts) n made.of so.below;
    }

pub rights_stand : (L R : List Row) (made : ClassesImage) (n : ℕ) → made ≡ classes_of (L ++ R) → n ≡ length L → length R ≤ ROW_LIMIT → AreBelow (length made.firsts) (drop n made.of)
rights_stand L R made n e m short =
    let so : AreNumbered (length (L ++ R)) made = subst (AreNumbered (length (L ++ R))) (sym e) (are_numbered (L ++ R)) in record {
      few = omega (arith, length-drop n made.of, so.long, length-append L R, m, short);
      below = All-drop (λ r. r < length made.firsts) n made.of so.below;
    }

-- how many rows a join has
pub many_joined : (op : Binary) (L R : List Row) → is_join op ≡ true → ROW_LIMIT < length (matching (joins op) L R) → ROW_LIMIT < length (step2 op L R)
many_joined op L R is many = omega (arith, length_joined op L R is, many)

pub few_joined : (op : Binary) (L R : List Row) (made : PlacePairs) → is_join op ≡ true → made ≡ halves_of (matching (joins op) L R) → length made.lefts ≤ ROW_LIMIT → length (step2 op L R) ≤ ROW_LIMIT
few_joined op L R made is e few = omega (arith, length_joined op L R is, ap (λ (p : PlacePairs). length p.lefts) e, length_lefts (matching (joins op) L R), few)
