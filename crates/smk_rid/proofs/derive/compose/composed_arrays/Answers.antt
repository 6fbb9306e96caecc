use Rattle.std.proofs.{Common.{arith, ◌≡◌, ◌∙◌, ◌<◌, ◌≤◌, ◌+◌, ◌∷◌, ◌++◌, [], ℕ, length, take, map, get_or, ap, sym, inl, inr}, lemmas.Bool.{cases_eq, eq-eqb, ne_eqb}, lemmas.List.{length_push, take_all, map_more}, lemmas.List.Sums.sum_by_more}
use Rattle.std.specs.List.{flat_map}
use Rattle.smk_base.specs.Places.{Lists, members_at, list_at, pairs_of}
use Rattle.smk_rid.specs.Packing.{one_of}
use Rattle.smk_rid.proofs.{Sets.is_below, Arrays.single-ones_of, Joins.IsMap-composed, Through.{members_single, ones_push, pairs_push}}
use Rattle.smk_rid.proofs.derive.compose.composed_arrays.Goals as goal

pub number_through-rid-requires : goal.number_through-rid-requires
number_through-rid-requires c =
    let xs = c.args.first.now in
    let low : c.loop-i.i < length xs = omega arith in
    rw c.number.ensures (is_below (length c.args.second.now) (get_or xs c.loop-i.i []) (c.requires.map.sets c.loop-i.i [] low))

pub loop-i-preserved : goal.loop-i-preserved
loop-i-preserved c =
    let xs = c.args.first.now in
    let i = c.loop-i.i in
    let rids = c.loop-i.rids.items in
    let rid = c.number_through-rid.result in
    let m : Lists = record { lists = c.args.second.now; bound = c.args.bound } in
    let low : i < length xs = omega arith in
    let place : one_of c.number.result ≡ get_or xs i [] = c.number.ensures in
    let below = is_below (length m.lists) (get_or xs i []) (c.requires.map.sets i [] low) in
    let is : one_of rid ≡ members_at m (get_or xs i []) = c.number_through-rid.ensures.list ∙ ap (flat_map (list_at m)) place ∙ members_single m (get_or xs i []) c.requires.sets below (c.requires.single i [] low) in
    let fewer : length (one_of rid) ≤ length (get_or xs i []) = rw place at c.number_through-rid.ensures.fewer in
    let pushed : c.push_reserved.new.self.items ≡ rids ++ rid ∷ [] = c.push_reserved.ensures.items in
    let counted : c.from-pairs.result ≡ length (one_of rid) = elim (cases_eq rid 4294967295) [
      | inl none ↦ rw (eq-eqb rid 4294967295 none) (rw (eq-eqb rid 4294967295 none) at c.from-pairs.ensures)
      | inr some ↦ rw (ne_eqb rid 4294967295 some) (rw (ne_eqb rid 4294967295 some) at c.from-pairs.ensures)
    ] in
    let more : pairs_of (map one_of c.push_reserved.new.self.items) ≡ pairs_of (map one_of rids) + length (one_of rid) = ap (λ z. pairs_of (map one_of z)) pushed ∙ ap pairs_of (ones_push rids rid) ∙ pairs_push (map one_of rids) (one_of rid) in
    record {
      lists = ap (map one_of) pushed ∙ ones_push rids rid ∙ rw (c.loop-i.invariant.lists, is) (sym (map_more (members_at m) xs i [] low));
      pairs = omega (arith, more, counted, c.loop-i.invariant.pairs);
      few = omega (arith, counted, fewer, c.loop-i.invariant.few, sum_by_more (length {A = ℕ}) xs i [] low);
      len = rw pushed (omega (arith, length_push rids rid, c.loop-i.invariant.len));
      room = rw c.push_reserved.ensures.capacity c.loop-i.invariant.room;
    }

pub of_array-requires-clause-map : goal.of_array-requires-clause-map
of_array-requires-clause-map c =
    let a : Lists = record { lists = c.args.first.now; bound = length c.args.second.now } in
    let b : Lists = record { lists = c.args.second.now; bound = c.args.bound } in
    let whole : take c.loop-i.i a.lists ≡ a.lists = take_all c.loop-i.i a.lists (omega arith) in
    let lists : c.of.result ≡ map (members_at b) a.lists = c.of.ensures ∙ c.loop-i.invariant.lists ∙ ap (map (members_at b)) whole in
    let few : pairs_of (map (members_at b) a.lists) ≤ 16777216 = rw (sym lists, c.of.ensures, sym c.loop-i.invariant.pairs) (omega (arith, c.loop-i.invariant.few, ap pairs_of whole, c.requires.map.few)) in
    rw lists (IsMap-composed a b c.requires.map.short few)

pub of_array-requires-clause-single : goal.of_array-requires-clause-single
of_array-requires-clause-single c = rw c.of.ensures (single-ones_of c.loop-i.rids.items)
