-- The maps that a plan keeps of the tables that are needed.
use Rattle.std.specs.Prelude.{ℕ, ◌<◌, ◌&&◌, List, All}
use Rattle.smk_base.specs.{Places.has, Plans.Expr, declared.book.need.Needed.Needed}
use Rattle.smk_model.specs.{Values.Row, Plain.leaves, Composed.{backs, forwards}}
use Rattle.smk_body.specs.Locals.{wanted}
use Rattle.smk_compose.specs.declared.kept_maps.KeptMap.{KeptMap}

-- each table that is needed is one of n tables
abbrev pub NeedFits : ℕ → List Needed → Type 0
NeedFits n need = All (λ needed. needed.table < n) need

-- the backward and forward lists of a plan to a needed table, in the needed directions
abbrev pub kept_at : Expr → List (List Row) → Needed → KeptMap
kept_at plan tables need = record { table = need.table; back = wanted need.dir.back (backs plan tables need.table); fwd = wanted need.dir.fwd (forwards plan tables need.table) }

-- these lists, but none if the plan doesn't scan the table
abbrev pub held_at : Expr → List (List Row) → Needed → KeptMap
held_at plan tables need = record {
  table = need.table;
  back = wanted (need.dir.back && has (leaves plan) need.table) (backs plan tables need.table);
  fwd = wanted (need.dir.fwd && has (leaves plan) need.table) (forwards plan tables need.table);
}
