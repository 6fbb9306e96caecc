use Rattle.std.proofs.Common.{◌≡◌, ◌++◌, length, take}
use Rattle.std.specs.List.{filter_map}
use Rattle.smk_session.specs.{Extras.{split_in, cubes_in}, Making.{book_in, declared_in}}
use Rattle.smk_session.proofs.start.making.put_each.Given as goal

abbrev pub invariant-loop-one : goal.invariant-loop-one
invariant-loop-one g l = record {
  splits : l.extras.splits.items ≡ l.initial.extras.splits.items ++ filter_map (split_in (book_in l.opened)) (take (length l.yielded) (declared_in l.fn.all.items));
  cubes : l.extras.cubes.items ≡ l.initial.extras.cubes.items ++ filter_map (cubes_in (book_in l.opened)) (take (length l.yielded) (declared_in l.fn.all.items));
}
