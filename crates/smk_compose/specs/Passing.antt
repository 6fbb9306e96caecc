-- The forms in which the maps of a table pass through a plan.
use Rattle.std.specs.Prelude.{◌≤◌}
use Rattle.smk_base.specs.{Places.own_lists, declared.rel.TheConstants.ROW_LIMIT}
use Rattle.smk_body.specs.Locals.{wanted}
use Rattle.smk_compose.specs.{declared.kept_maps.KeptMap.KeptMap, declared.passing.Form.Form, declared.passing.Form.TheVariants.{Own, Lists}}

-- the maps, in whichever form
abbrev pub maps_in : Form → KeptMap
maps_in (Own table len dir) = record { table = table; back = wanted dir.back (own_lists len); fwd = wanted dir.fwd (own_lists len) }
maps_in (Lists maps) = maps

-- no more rows than a table may have
abbrev pub IsShort : Form → Type 0
IsShort (Own table len dir) = len ≤ ROW_LIMIT
IsShort (Lists maps) = Unit {0}
