use Rattle.std.proofs.Common.{◌≡◌, take, drop}
use Rattle.std.specs.List.{filter_map}
use Rattle.smk_session.specs.Making.{book_in, cubes_wanted, split_wanted}
use Rattle.smk_grow.specs.Renewed.{cubes_again, split_again}
use Rattle.smk_grow.proofs.extras.spread.Given as goal

abbrev pub invariant-loop-declared : goal.invariant-loop-declared
invariant-loop-declared l = record {
  splits : l.extras.splits.items ≡ filter_map (split_again l.opening.grown (book_in l.opening)) (take l.declared-index l.declared-items);
  cubes : l.extras.cubes.items ≡ filter_map (cubes_again l.opening.grown (book_in l.opening)) (take l.declared-index l.declared-items);
  splits_left : l.splits.items ≡ filter_map (split_wanted (book_in l.opening) l.opening.grown) (drop l.declared-index l.declared-items);
  cubes_left : l.cubes.items ≡ filter_map (cubes_wanted (book_in l.opening) l.opening.grown) (drop l.declared-index l.declared-items);
}
