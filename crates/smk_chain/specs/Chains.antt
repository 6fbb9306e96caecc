-- The last step of a growing chain.
use Rattle.std.specs.Prelude.{◌≡◌, true, Option, Some, None}
use Rattle.smk_base.specs.Plans.{Expr, Apply, Grouping}
use Rattle.smk_chain.specs.declared.chains.LastGrouping.{LastGrouping}
use Rattle.smk_model.specs.Growth.{is_chain, is_growing}

-- a plan ends in this grouping; without one, it is a chain if it is a growing one
abbrev pub EndsIn : Expr → Option LastGrouping → Type 0
EndsIn plan (Some last) = (input : Expr) × (plan ≡ Apply (Grouping last.keys.now last.aggs.now) input)
EndsIn plan None = is_growing plan ≡ true → is_chain plan ≡ true
