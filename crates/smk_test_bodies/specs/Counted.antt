-- What callers see of a body that counts.

-- the body within; no clause can name the count of a cell
pub record CountedImage (B : Type 0) : Type 0 where
  pub inner : B
