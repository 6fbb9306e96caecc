use Rattle.std.proofs.Common.{◌≡◌, ◌≤◌, length, take}
use Rattle.std.specs.List.{filter, position_or_len}
use Rattle.smk_base.specs.declared.book.catalog.Back.{Back}
use Rattle.smk_model.specs.Workload.{is_back}
use Rattle.smk_session.specs.Extras.{asks_groups}
use Rattle.smk_session.proofs.answer.backward.cubes_place.Given as goal

abbrev pub invariant-loop-declared : goal.invariant-loop-declared
invariant-loop-declared l = record {
  counted : l.place ≡ length (filter (λ (declared : Back). asks_groups declared.extra) (take l.declared-index l.declarations));
  none : position_or_len (is_back l.v l.t) (filter (λ (declared : Back). asks_groups declared.extra) (take l.declared-index l.declarations)) ≡ l.place;
  few : l.place ≤ l.declared-index;
}
