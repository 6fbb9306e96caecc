use Rattle.std.proofs.Common.{◌≡◌, ◌≤◌, ◌+◌, ◌++◌, length, map, take, get_or}
use Rattle.std.specs.Prelude.{vec_len, vec_capacity}
use Rattle.smk_base.proofs.rel.text_column.TextColumn.append.Given as goal

abbrev pub invariant-loop-code : goal.invariant-loop-code
invariant-loop-code l = record {
  dict : l.self-inside.dict.texts ≡ l.initial.self-inside.dict.texts;
  put : l.self-inside.codes.items ≡ l.initial.self-inside.codes.items ++ map (λ code. get_or l.recoded.items code 0) (take l.code-index l.code-items);
  len : vec_len l.self-inside.codes ≡ vec_len l.initial.self-inside.codes + l.code-index;
  room : vec_len l.initial.self-inside.codes + length l.code-items ≤ vec_capacity l.self-inside.codes;
}
