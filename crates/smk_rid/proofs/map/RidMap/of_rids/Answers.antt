use Rattle.std.proofs.Common.{arith, ◌≡◌, ◌∙◌, ◌∷◌, ℕ, [], List, map, ap}
use Rattle.smk_base.specs.Places.{Lists}
use Rattle.smk_rid.proofs.Arrays.{ones_are, pairs_ones, IsMap-ones, single-ones}
use Rattle.smk_rid.proofs.map.RidMap.of_rids.Goals as goal

pub of_array-requires-clause-map : goal.of_array-requires-clause-map
of_array-requires-clause-map c =
    let rids = c.args.rids.items in
    let lists : c.of.result ≡ map (λ r. r ∷ []) rids = c.of.ensures ∙ ones_are rids c.args.bound c.ranges.bound.fits c.requires.below in
    rw lists (IsMap-ones rids c.args.bound c.requires.few c.requires.below)

pub of_array-requires-clause-single : goal.of_array-requires-clause-single
of_array-requires-clause-single c =
    let rids = c.args.rids.items in
    let lists : c.of.result ≡ map (λ r. r ∷ []) rids = c.of.ensures ∙ ones_are rids c.args.bound c.ranges.bound.fits c.requires.below in
    rw lists (single-ones rids)

pub of_array-requires-clause-pairs : goal.of_array-requires-clause-pairs
of_array-requires-clause-pairs c =
    let rids = c.args.rids.items in
    let lists : c.of.result ≡ map (λ r. r ∷ []) rids = c.of.ensures ∙ ones_are rids c.args.bound c.ranges.bound.fits c.requires.below in
    rw lists (omega (arith, pairs_ones rids))

pub returns : goal.returns
returns c =
    let rids = c.args.rids.items in
    let lists : c.of.result ≡ map (λ r. r ∷ []) rids = c.of.ensures ∙ ones_are rids c.args.bound c.ranges.bound.fits c.requires.below in
    c.of_array.ensures ∙ ap (λ (l : List (List ℕ)). let m : Lists = record { lists = l; bound = c.args.bound } in m) lists
