-- Numbers that come in order are their own classes.
use Rattle.std.proofs.Common.{◌≡◌, ℕ, List, length, nat_eq, refl}
use Rattle.std.specs.Cmp.{unsigned_Decides}
use Rattle.smk_keys.specs.{Classes.{ClassesImage, classing_of}, Orders.IsInOrder}
use Rattle.smk_keys.proofs.Classing.{classing-classes}

-- all numbers in order are their own classes
pub in_order-is : (of firsts : List ℕ) (made : ClassesImage) → made.of ≡ of → made.firsts ≡ firsts → IsInOrder of firsts (length of) → made ≡ classing_of nat_eq of
in_order-is of firsts made e f so = classing-classes nat_eq unsigned_Decides 0 of of firsts (record {
  long = refl;
  within = so.below;
  same = λ i j p q h. h;
  alike = λ i j p q h. h;
  place = so.place;
  at = so.at;
  first = so.first;
}) made e f
