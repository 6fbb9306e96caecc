-- The lists of a plan's leaves, and those of its inputs.
use Rattle.std.proofs.{Common.{◌≡◌, ℕ, ◌+◌, ◌<◌, List, [], ◌++◌, length, refl, ap, sym, ◌∙◌, arith, get_or, take, drop}, lemmas.List.{length-append, get_or_append_left, get_or-append-add, get_or-take, get_or-drop}}
use Rattle.smk_base.specs.Plans.{Binary, Expr, Leaf, Apply, Combine}
use Rattle.smk_model.specs.{Values.Row, Plain.{step1, step2, leaves, width, eval_from, eval}, ComposedLaws.LeavesSplit}

-- two lists give a plan's leaves the same lists, from the k-th and from the m-th on
abbrev pub IsSame : Expr → List (List Row) → ℕ → List (List Row) → ℕ → Type 0
IsSame plan E k F m = (j : ℕ) → j < width plan → get_or E (k + j) [] ≡ get_or F (m + j) []

pub eval_same : (plan : Expr) (E : List (List Row)) (k : ℕ) (F : List (List Row)) (m : ℕ) → IsSame plan E k F m → eval_from plan E k ≡ eval_from plan F m
eval_same (Leaf table) E k F m same =
    let first : k + 0 ≡ k = omega arith in
    let second : m + 0 ≡ m = omega arith in
    ap (λ i. get_or E i []) (sym first) ∙ same 0 (omega arith) ∙ ap (λ i. get_or F i []) second
eval_same (Apply op input) E k F m same = ap (step1 op) (eval_same input E k F m same)
eval_same (Combine op a b) E k F m same =
    let left : IsSame a E k F m = λ j l. same j (omega (arith, l, length-append (leaves a) (leaves b))) in
    let right : IsSame b E (k + width a) F (m + width a) = λ j l.
    let first : (k + width a) + j ≡ k + (width a + j) = omega arith in
    let second : (m + width a) + j ≡ m + (width a + j) = omega arith in
    ap (λ i. get_or E i []) first ∙ same (width a + j) (omega (arith, l, length-append (leaves a) (leaves b))) ∙ ap (λ i. get_or F i []) (sym second) in
    rw (eval_same a E k F m left, eval_same b E (k + width a) F (m + width a) right) refl

split_at : (op : Binary) (a b : Expr) (E X Y : List (List Row)) → IsSame a E 0 X 0 → IsSame b E (0 + width a) Y 0 → eval (Combine op a b) E ≡ step2 op (eval a X) (eval b Y)
split_at op a b E X Y left right = rw (eval_same a E 0 X 0 left, eval_same b E (0 + width a) Y 0 right) refl

pub leaves_split : LeavesSplit
leaves_split = record {
  append = λ op a b E F long. split_at op a b (E ++ F) E F
      (λ j l. let e : 0 + j ≡ j = omega arith in rw e (get_or_append_left E F [] j (omega (arith, l, long))))
      (λ j l.
      let e : (0 + width a) + j ≡ length E + j = omega (arith, long) in
      let f : 0 + j ≡ j = omega arith in
      ap (λ i. get_or (E ++ F) i []) e ∙ get_or-append-add E F j [] ∙ ap (λ i. get_or F i []) (sym f));
  cut = λ op a b E. split_at op a b E (take (width a) E) (drop (width a) E)
      (λ j l. let e : 0 + j ≡ j = omega arith in rw e (sym (get_or-take (width a) E j [] l)))
      (λ j l.
      let e : (0 + width a) + j ≡ width a + j = omega arith in
      let f : 0 + j ≡ j = omega arith in
      ap (λ i. get_or E i []) e ∙ sym (get_or-drop (width a) E j []) ∙ ap (λ i. get_or (drop (width a) E) i []) (sym f));
}
