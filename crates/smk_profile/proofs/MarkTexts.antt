-- The texts of the marks, one after the other.
use Rattle.std.proofs.{Common.{◌≡◌, ◌∙◌, ℕ, zero, suc, ◌+◌, ◌<◌, List, [], ◌∷◌, ◌++◌, length, refl, ap, sym, arith, get_or, add-one, append-nil}, lemmas.List.Concat.flat_map-append}
use Rattle.std.specs.List.{flat_map}
use Rattle.smk_base.specs.declared.reply.Group.{Group}
use Rattle.smk_model.specs.{Lineage.upto, ProfileTexts.{mark_text, mark_texts_to, no_group}}

any_default : (xs : List Group) (i : ℕ) (a b : Group) → i < length xs → get_or xs i a ≡ get_or xs i b
any_default [] i a b low = absurd (omega (arith, low))
any_default (x ∷ xs) zero a b low = refl
any_default (x ∷ xs) (suc i) a b low = any_default xs i a b (omega (arith, low))

-- one more
pub marks_more : (groups : List Group) (mark : ℕ) (group : Group) → mark < length groups → group ≡ get_or groups mark group
    → mark_texts_to groups (mark + 1) ≡ mark_texts_to groups mark ++ mark_text mark group
marks_more groups mark group low is =
    let each : ℕ → List ℕ = λ i. mark_text i (get_or groups i no_group) in
    let here : get_or groups mark no_group ≡ group = any_default groups mark no_group group low ∙ sym is in
    let whole : flat_map each (upto (suc mark)) ≡ flat_map each (upto mark) ++ each mark = flat_map-append each (upto mark) (mark ∷ []) ∙ ap (λ x. flat_map each (upto mark) ++ x) (append-nil (each mark)) in
    rw add-one (whole ∙ ap (λ (g : Group). flat_map each (upto mark) ++ mark_text mark g) here)
