-- Laws of the two directions of lineage: of one step and of a plan, each direction is the other inverted, with as many members.
use Rattle.std.specs.{Prelude.{◌≡◌, ℕ, ◌<◌, List, length}, List.All}
use Rattle.smk_base.specs.{Places.{Lists, IsPlaces, pairs_of, inverted}, Plans.{Unary, Binary, Expr}}
use Rattle.smk_model.specs.{Values.Row, Plain.whole, Locals.{back_lists, fwd_lists, back1, fwd1, back_left, fwd_left, back_right, fwd_right}, Annotated.pairs, Composed.{table_at, backs, forwards}}

-- each direction is the other inverted
pub record Inverses : Type 0 where
  -- forward lists are the backward ones inverted, whatever these are; the other way round where the backward ones are sets of places
  pub forward : (from : ℕ → List ℕ) (outputs inputs : ℕ) → fwd_lists from outputs inputs ≡ inverted (back_lists from outputs inputs)
  pub backward : (from : ℕ → List ℕ) (outputs inputs : ℕ) → ((o : ℕ) → o < outputs → IsPlaces inputs (from o)) → back_lists from outputs inputs ≡ inverted (fwd_lists from outputs inputs)
  -- of each step, on each side
  pub forward_one : (op : Unary) (L : List Row) → fwd1 op L ≡ inverted (back1 op L)
  pub forward_left : (op : Binary) (L R : List Row) → fwd_left op L R ≡ inverted (back_left op L R)
  pub forward_right : (op : Binary) (L R : List Row) → fwd_right op L R ≡ inverted (back_right op L R)
  pub backward_one : (op : Unary) (L : List Row) → back1 op L ≡ inverted (fwd1 op L)
  pub backward_left : (op : Binary) (L R : List Row) → back_left op L R ≡ inverted (fwd_left op L R)
  pub backward_right : (op : Binary) (L R : List Row) → back_right op L R ≡ inverted (fwd_right op L R)

-- inverting keeps the number of members
pub record PairsForward : Type 0 where
  pub inverting : (a : Lists) → All (IsPlaces a.bound) a.lists → pairs_of (inverted a).lists ≡ pairs_of a.lists
  -- the pairs of a plan's forward lists are those of its backward lists, and its own
  pub both_ways : (plan : Expr) (tables : List (List Row)) (table : ℕ) → pairs_of (forwards plan tables table).lists ≡ pairs_of (backs plan tables table).lists
  pub pairs_are : (plan : Expr) (tables : List (List Row)) (table : ℕ) → pairs_of (forwards plan tables table).lists ≡ pairs plan (whole plan tables) table (length (table_at tables table))
