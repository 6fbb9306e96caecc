use Rattle.std.proofs.{Common.{◌≡◌, ◌∙◌, take, map, ap}, lemmas.List.take_all}
use Rattle.std.specs.Option.{option_to_list}
use Rattle.smk_rid.proofs.Arrays.{IsMap-array_lists, single-options}
use Rattle.smk_rid.proofs.map.RidMap.from_array.Goals as goal

pub of_array-requires-clause-map : goal.of_array-requires-clause-map
of_array-requires-clause-map c =
    let whole : take c.loop-rid.rid-index c.args.of.now ≡ c.args.of.now = take_all c.loop-rid.rid-index c.args.of.now c.loop-rid-test.false in
    let lists : c.of.result ≡ map option_to_list c.args.of.now = c.of.ensures ∙ c.loop-rid.invariant.lists ∙ ap (map option_to_list) whole in
    rw lists (IsMap-array_lists c.args.of.now c.args.bound c.requires.few c.requires.below)

pub of_array-requires-clause-single : goal.of_array-requires-clause-single
of_array-requires-clause-single c =
    let whole : take c.loop-rid.rid-index c.args.of.now ≡ c.args.of.now = take_all c.loop-rid.rid-index c.args.of.now c.loop-rid-test.false in
    let lists : c.of.result ≡ map option_to_list c.args.of.now = c.of.ensures ∙ c.loop-rid.invariant.lists ∙ ap (map option_to_list) whole in
    rw lists (single-options c.args.of.now)
