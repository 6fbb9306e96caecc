-- Which columns are named, and the same over fewer columns.
use Rattle.std.specs.Prelude.{ℕ, ◌+◌, Bool, false, ◌||◌, nat_eq, List, map, option_map, position, unwrap_or}
use Rattle.smk_base.specs.{Aggregates.{moved_to, read_by}, declared.book.plan.Item.Item, declared.book.plan.Item.TheVariants.{Col, Bin}, declared.book.plan.Agg.Agg}

-- whether an output column is made of a column
abbrev pub is_of : ℕ → Item → Bool
is_of c (Col d) = nat_eq c d
is_of c (Bin d w) = nat_eq c d

-- whether an aggregate reads a column
abbrev pub reads : ℕ → Agg → Bool
reads c agg = unwrap_or (option_map (nat_eq c) (read_by agg)) false

-- the place of a column among others, or 0 if it isn't there
unfoldable pub place_of : List ℕ → ℕ → ℕ
place_of cols c = unwrap_or (position (nat_eq c) cols) 0

-- an output column over these columns alone
abbrev pub item_among : List ℕ → Item → Item
item_among cols (Col c) = Col (place_of cols c)
item_among cols (Bin c w) = Bin (place_of cols c) w

-- an aggregate that reads no column is itself over any
abbrev pub agg_among : List ℕ → Agg → Agg
agg_among cols agg = moved_to (place_of cols (unwrap_or (read_by agg) 0)) agg

-- a pair of columns that are to be equal, over these columns of both sides alone
abbrev pub pair_among : List ℕ → List ℕ → ℕ × ℕ → ℕ × ℕ
pair_among lefts rights pair = (place_of lefts pair.0, place_of rights pair.1)

-- columns after w others
abbrev pub behind : ℕ → List ℕ → List ℕ
behind w cols = map (λ c. w + c) cols

-- whether a pair names a column of a join's rows, of which the left ones have w columns
abbrev pub is_paired : ℕ → ℕ → ℕ × ℕ → Bool
is_paired w c pair = nat_eq c pair.0 || nat_eq c (w + pair.1)
