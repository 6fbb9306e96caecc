use Rattle.std.proofs.Common.{◌≡◌, ◌≤◌, ◌+◌, ◌++◌, All, take}
use Rattle.std.specs.List.{filter_map, sum_by}
use Rattle.smk_session.specs.{Extras.{split_in, cubes_in}, Making.{IsAsked, book_in, cubes_wanted, declared_in, looks_wanted, split_wanted}}
use Rattle.smk_session.proofs.start.making.make_extras.Given as goal

abbrev pub invariant-loop-declared : goal.invariant-loop-declared
invariant-loop-declared g l = record {
  splits : l.extras.splits.items ++ filter_map (split_in (book_in l.opened)) (declared_in l.waiting.items) ≡ filter_map (split_wanted (book_in l.opened) l.opened.grown) (take l.declared-index l.declared-items);
  cubes : l.extras.cubes.items ++ filter_map (cubes_in (book_in l.opened)) (declared_in l.waiting.items) ≡ filter_map (cubes_wanted (book_in l.opened) l.opened.grown) (take l.declared-index l.declared-items);
  asked : All (IsAsked l.opened.book.now l.opened.tables.now) l.waiting.items;
  looks : l.steps ≤ l.initial.steps + sum_by (looks_wanted (book_in l.opened) l.opened.grown) (take l.declared-index l.declared-items);
}
