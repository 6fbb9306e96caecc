-- A column that owns its values or shares them with its copies.
use Rattle.std.specs.Prelude.{None, false}
use Rattle.smk_base.specs.{declared.rel.rel_column.Hold.Hold, declared.rel.rel_column.Hold.TheVariants.{Own, Shared}, Images.ColumnImage}

-- the column as contracts see it; a shared one has no room to grow
abbrev pub held : Hold → ColumnImage
held (Own column) = column
held (Shared column) = record { kind = column.value.kind; cells = column.value.cells; room = 0; next = None; own = false }
