-- What a step makes of the maps of its inputs.
use Rattle.std.specs.{Prelude.{◌≡◌, ℕ, Bool, true, false, cond, ◌&&◌, ◌||◌, nat_eq, nat_lt, List, [], ◌∷◌, drop, length, slice_index_or, Option, Some, None, is_some, option_map}, List.{find, list_any}}
use Rattle.smk_base.specs.{Places.{Lists, pairs_of, own_lists, empty_lists, composed, merged}, Plans.{Unary, Binary}, declared.book.plan.Dir.Dir, declared.book.need.Needed.Needed}
use Rattle.smk_model.specs.{Values.Row, Selection.is_full, Locals.{back1, fwd1, back_left, fwd_left, back_right, fwd_right}, NodeFaults.{NodeFault, FullRows, FullPairs, pair_limit}}
use Rattle.smk_body.specs.{Locals.wanted, declared.keep.local.Side.Side, declared.keep.local.Local.Local}
use Rattle.smk_compose.specs.{declared.kept_maps.KeptMap.KeptMap, declared.chain.Composed.Composed, declared.fault.RunFault.RunFault, declared.fault.RunFault.TheVariants.{Rows, Pairs, NoMemory}}
use Rattle.smk_compose.specs.declared.chain.Composed.TheVariants as chains

abbrev pub no_map : KeptMap
no_map = record { table = 0; back = None; fwd = None }

abbrev pub map_at : List KeptMap → ℕ → KeptMap
map_at maps i = slice_index_or maps i no_map

abbrev pub no_need : Needed
no_need = record { table = 0; dir = record { back = false; fwd = false } }

-- two maps composed, if there are two
abbrev pub chained : Option Lists → Option Lists → Option Lists
chained (Some a) (Some b) = Some (composed a b)
chained _ _ = None

-- the maps of two sides merged, or the one that there is
abbrev pub merged_if_both : Option Lists → Option Lists → Option Lists
merged_if_both (Some a) (Some b) = Some (merged a b)
merged_if_both (Some a) None = Some a
merged_if_both None b = b

-- the composition of two maps, by how it was made
abbrev pub chain_of : Composed → Option Lists → Option Lists → Option Lists
chain_of chains.Nothing first second = None
chain_of chains.First first second = first
chain_of chains.Second first second = second
chain_of (chains.Made m) first second = Some m

-- what `chained` and `merged_if_both` require of their maps
abbrev pub Chains : Option Lists → Option Lists → Type 0
Chains (Some a) (Some b) = a.bound ≡ length b.lists
Chains _ _ = Unit {0}

abbrev pub CanMerge : Option Lists → Option Lists → Type 0
CanMerge (Some a) (Some b) = (length a.lists ≡ length b.lists) × (a.bound ≡ b.bound)
CanMerge _ _ = Unit {0}

-- whether a map has more pairs than the limit
abbrev pub is_heavy : Option Lists → Bool
is_heavy (Some m) = nat_lt pair_limit (pairs_of m.lists)
is_heavy None = false

abbrev pub has_heavy : KeptMap → Bool
has_heavy k = is_heavy k.back || is_heavy k.fwd

-- the map of one table through a step, by the step's lists on one side
abbrev pub through : Side → KeptMap → KeptMap
through side k = record { table = k.table; back = chained side.back k.back; fwd = chained k.fwd side.fwd }

-- the maps of one table, from both inputs
abbrev pub merged_maps : KeptMap → KeptMap → KeptMap
merged_maps l r = record { table = l.table; back = merged_if_both l.back r.back; fwd = merged_if_both l.fwd r.fwd }

-- the map of one table through a step with two inputs
abbrev pub together : Side → Side → KeptMap → KeptMap → KeptMap
together ls rs l r = merged_maps (through ls l) (through rs r)

abbrev pub together_all : Side → Side → List KeptMap → List KeptMap → List KeptMap
together_all ls rs (l ∷ lefts) (r ∷ rights) = together ls rs l r ∷ together_all ls rs lefts rights
together_all ls rs _ _ = []

-- both lists of a step, on one side
abbrev pub side1 : Unary → List Row → Side
side1 op L = record { back = Some (back1 op L); fwd = Some (fwd1 op L) }

abbrev pub side_left : Binary → List Row → List Row → Side
side_left op L R = record { back = Some (back_left op L R); fwd = Some (fwd_left op L R) }

abbrev pub side_right : Binary → List Row → List Row → Side
side_right op L R = record { back = Some (back_right op L R); fwd = Some (fwd_right op L R) }

-- the right side of the lineage of a step with two inputs
abbrev pub side_or_none : Option Side → Side
side_or_none (Some side) = side
side_or_none None = record { back = None; fwd = None }

abbrev pub right_of : Local → Side
right_of local = side_or_none local.right

-- what `through` requires
pub record Passes (side : Side) (k : KeptMap) : Type 0 where
  pub back : Chains side.back k.back
  pub fwd : Chains k.fwd side.fwd

-- what `merged_maps` and `together` require
pub record Matches (l r : KeptMap) : Type 0 where
  pub back : CanMerge l.back r.back
  pub fwd : CanMerge l.fwd r.fwd

pub record Meets (ls rs : Side) (l r : KeptMap) : Type 0 where
  pub left : Passes ls l
  pub right : Passes rs r
  pub matches : Matches (through ls l) (through rs r)

-- the directions in which there is a map
abbrev pub has_back : KeptMap → Bool
has_back k = is_some k.back

abbrev pub has_fwd : KeptMap → Bool
has_fwd k = is_some k.fwd

abbrev pub want_of : List KeptMap → Dir
want_of maps = record { back = list_any has_back maps; fwd = list_any has_fwd maps }

-- the lists of a step that later maps need are as they were
pub record Serves (old new : Side) (later : List KeptMap) : Type 0 where
  pub back : list_any has_back later ≡ true → new.back ≡ old.back
  pub fwd : list_any has_fwd later ≡ true → new.fwd ≡ old.fwd

-- from the i-th on, the maps are still those of an input, and the lists of the step that they need are there
pub record IsAhead (first : Side) (below : List KeptMap) (side : Side) (maps : List KeptMap) (i : ℕ) : Type 0 where
  pub long : length maps ≡ length below
  pub rest : drop i maps ≡ drop i below
  pub serves : Serves first side (drop i below)

-- the first map that has too many pairs, at a node
abbrev pub pairs_fault : ℕ → List KeptMap → Option NodeFault
pairs_fault node maps = option_map (λ k. FullPairs node k.table) (find has_heavy maps)

-- the fault of a node with these rows and maps
abbrev pub node_fault : ℕ → List Row → List KeptMap → Option NodeFault
node_fault node rows maps = cond (is_full rows) (Some (FullRows node)) (pairs_fault node maps)

-- whether a fault is the first one
abbrev pub IsFirst : RunFault → Option NodeFault → Type 0
IsFirst (Rows node) first = first ≡ Some (FullRows node)
IsFirst (Pairs node table) first = first ≡ Some (FullPairs node table)
IsFirst NoMemory first = Unit {0}

-- the maps of a scan of so many rows
abbrev pub scan_at : ℕ → ℕ → Needed → KeptMap
scan_at scanned len need = record {
  table = need.table;
  back = wanted (nat_eq need.table scanned && need.dir.back) (own_lists len);
  fwd = wanted (nat_eq need.table scanned && need.dir.fwd) (own_lists len);
}

-- a map that is needed and isn't there is empty
abbrev pub or_empty : Bool → Option Lists → ℕ → ℕ → Option Lists
or_empty true None n bound = Some (empty_lists n bound)
or_empty true (Some m) n bound = Some m
or_empty false m n bound = m

abbrev pub filled : Dir → ℕ → ℕ → KeptMap → KeptMap
filled dir rows size k = record { table = k.table; back = or_empty dir.back k.back rows size; fwd = or_empty dir.fwd k.fwd size rows }
