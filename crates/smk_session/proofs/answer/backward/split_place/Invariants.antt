use Rattle.std.proofs.Common.{◌≡◌, ◌≤◌, length, take}
use Rattle.std.specs.List.{filter, position_or_len}
use Rattle.smk_base.specs.declared.book.catalog.Back.{Back}
use Rattle.smk_model.specs.Replies.{is_split}
use Rattle.smk_session.specs.Extras.{asks_split}
use Rattle.smk_session.proofs.answer.backward.split_place.Given as goal

abbrev pub invariant-loop-declared : goal.invariant-loop-declared
invariant-loop-declared l = record {
  counted : l.place ≡ length (filter (λ (declared : Back). asks_split declared.extra) (take l.declared-index l.declarations));
  none : position_or_len (is_split l.v l.t l.c) (filter (λ (declared : Back). asks_split declared.extra) (take l.declared-index l.declarations)) ≡ l.place;
  few : l.place ≤ l.declared-index;
}
