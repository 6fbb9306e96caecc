-- What callers see of a body in pieces.
use Rattle.std.specs.Prelude.{ℕ}

-- the body within, and how many pieces the work is cut into
pub record PiecesImage (B : Type 0) : Type 0 where
  pub inner : B
  pub workers : ℕ
