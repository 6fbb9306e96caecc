-- The lineage that is kept of a view.
use Rattle.std.specs.{Prelude.{ℕ, Bool, List, nat_eq, ok_or}, List.find, Option.option_and_then}
use Rattle.smk_base.specs.{Places.Lists, declared.reply.Refusal.TheVariants.Undeclared}
use Rattle.smk_model.specs.Replies.{Asked}
use Rattle.smk_compose.specs.declared.kept_maps.KeptMap.{KeptMap}

-- what is kept of a table
abbrev pub is_of_table : ℕ → KeptMap → Bool
is_of_table table kept = nat_eq kept.table table

-- its backward and its forward lists, which are kept exactly if the query is declared
abbrev pub kept_back : List KeptMap → ℕ → Asked Lists
kept_back kept table = ok_or (option_and_then (λ k. k.back) (find (is_of_table table) kept)) Undeclared

abbrev pub kept_fwd : List KeptMap → ℕ → Asked Lists
kept_fwd kept table = ok_or (option_and_then (λ k. k.fwd) (find (is_of_table table) kept)) Undeclared
