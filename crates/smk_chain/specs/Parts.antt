-- The maps of old rows and those of new ones, put together.
use Rattle.std.specs.Prelude.{◌≡◌, ℕ, ◌+◌, ◌<◌, ◌≤◌, cond, true, false, nat_eq, List, length, map, slice_index_or, Option, Some, None, All}
use Rattle.smk_base.specs.{Places.{Lists, upto, pairs_of, inverted, empty_lists, followed}, declared.book.need.Needed.Needed, declared.rel.TheConstants.ROW_LIMIT}
use Rattle.smk_keys.specs.Classes.{ClassesImage}
use Rattle.smk_model.specs.{Values.Row, Composed.table_at, Locals.singles, NodeFaults.pair_limit}
use Rattle.smk_body.specs.Locals.{wanted}
use Rattle.smk_compose.specs.{declared.kept_maps.KeptMap.KeptMap, KeptMaps.NeedFits, Through.{chained, Chains, is_heavy, map_at, no_need}}

-- the lists of both, one after the other, if there are two
abbrev pub followed_maps : Option Lists → Option Lists → Option Lists
followed_maps (Some a) (Some b) = Some (followed a b)
followed_maps _ _ = None

-- for each group of both the place of its key among the keys
abbrev pub class_lists : ClassesImage → Lists
class_lists classes = singles classes.of (length classes.firsts)

-- lists as they are; those of groups by the classes of these
abbrev pub by_classes : Option ClassesImage → Needed → Option Lists → Option Lists → KeptMap
by_classes None need back fwd = record { table = need.table; back = back; fwd = fwd }
by_classes (Some classes) need back fwd = record {
  table = need.table;
  back = chained (wanted need.dir.back (inverted (class_lists classes))) back;
  fwd = chained fwd (wanted need.dir.fwd (class_lists classes));
}

-- the map of a table that is scanned, from those of both
abbrev pub both_maps : Option ClassesImage → Needed → KeptMap → KeptMap → KeptMap
both_maps groups need old new = by_classes groups need (followed_maps old.back new.back) (followed_maps old.fwd new.fwd)

-- the map of a table of so many rows that isn't scanned: empty lists in the needed directions
abbrev pub void_map : ℕ → ℕ → Needed → KeptMap
void_map rows size need = record { table = need.table; back = wanted need.dir.back (empty_lists rows size); fwd = wanted need.dir.fwd (empty_lists size rows) }

-- the map of a needed table
abbrev pub joint_map : Option ClassesImage → ℕ → ℕ → List (List Row) → Needed → KeptMap → KeptMap → KeptMap
joint_map groups scanned rows tables need old new = cond (nat_eq need.table scanned) (both_maps groups need old new) (void_map rows (length (table_at tables need.table)) need)

-- the maps of all needed tables
abbrev pub joint_map_at : Option ClassesImage → ℕ → ℕ → List (List Row) → List Needed → List KeptMap → List KeptMap → ℕ → KeptMap
joint_map_at groups scanned rows tables need old new i = joint_map groups scanned rows tables (slice_index_or need i no_need) (map_at old i) (map_at new i)

abbrev pub joint_maps : Option ClassesImage → ℕ → ℕ → List (List Row) → List Needed → List KeptMap → List KeptMap → List KeptMap
joint_maps groups scanned rows tables need old new = map (joint_map_at groups scanned rows tables need old new) (upto (length need))

-- both together are within the limits of a map
pub record AreSmall (a b : Lists) : Type 0 where
  pub lists : length a.lists + length b.lists < 4294967296
  pub bound : a.bound + b.bound < 4294967296
  pub few : pairs_of a.lists + pairs_of b.lists ≤ pair_limit

-- what `followed_maps` requires
abbrev pub Follows : Option Lists → Option Lists → Type 0
Follows (Some a) (Some b) = AreSmall a b
Follows _ _ = Unit {0}

-- the classes of groups fit the maps of these
pub record IsRegrouped (classes : ClassesImage) (need : Needed) (backs fwds : Option Lists) : Type 0 where
  pub few : length classes.of ≤ ROW_LIMIT
  pub short : length classes.firsts ≤ ROW_LIMIT
  pub below : All (λ p. p < length classes.firsts) classes.of
  pub back : Chains (wanted need.dir.back (inverted (class_lists classes))) backs
  pub fwd : Chains fwds (wanted need.dir.fwd (class_lists classes))
  pub few_back : is_heavy (chained (wanted need.dir.back (inverted (class_lists classes))) backs) ≡ false
  pub few_fwd : is_heavy (chained fwds (wanted need.dir.fwd (class_lists classes))) ≡ false

abbrev pub AreRegrouped : Option ClassesImage → Needed → Option Lists → Option Lists → Type 0
AreRegrouped None need back fwd = Unit {0}
AreRegrouped (Some classes) need back fwd = IsRegrouped classes need back fwd

-- what `both_maps` requires
pub record MapsFit (groups : Option ClassesImage) (need : Needed) (old new : KeptMap) : Type 0 where
  pub back : Follows old.back new.back
  pub fwd : Follows old.fwd new.fwd
  pub regrouped : AreRegrouped groups need (followed_maps old.back new.back) (followed_maps old.fwd new.fwd)

-- the needed tables are among so many; each has a map of the old rows and one of the new rows, and those of the scanned table fit
pub record AreMaps (groups : Option ClassesImage) (scanned count : ℕ) (need : List Needed) (old new : List KeptMap) : Type 0 where
  pub known : NeedFits count need
  pub old_long : length old ≡ length need
  pub new_long : length new ≡ length need
  pub fit : (i : ℕ) → i < length need → nat_eq (slice_index_or need i no_need).table scanned ≡ true → MapsFit groups (slice_index_or need i no_need) (map_at old i) (map_at new i)
