-- Parts of lists of bytes that are written one after the other.
use Rattle.std.proofs.{Common.{◌≡◌, ◌-◌, ℕ, List, ◌++◌, Option, Some, None, length, take, drop, sym, ap, ◌∙◌, append_assoc, take-append-drop}, lemmas.List.take_rest}
use Rattle.std.specs.Io.KnownBytes as known
use Rattle.smk_outside.specs.Outside.{AppendsPart}

-- first bytes are some of the bytes
pub appends_front : (before after bytes front : List ℕ) (n : ℕ) → front ≡ take n bytes → after ≡ before ++ front → AppendsPart (Some before) (Some after) bytes
appends_front before after bytes front n is e = (front, (drop n bytes, sym (take-append-drop n bytes) ∙ ap (λ l. l ++ drop n bytes) (sym is)), e)

-- n more of the rest are done
pub moves_front : (all done rest : List ℕ) (n : ℕ) → all ≡ done ++ rest → all ≡ (done ++ take n rest) ++ take (length rest - n) (drop n rest)
moves_front all done rest n e =
    e ∙ ap (λ l. done ++ l) (sym (take-append-drop n rest)) ∙ sym (append_assoc done (take n rest) (drop n rest)) ∙ ap (λ l. (done ++ take n rest) ++ l) (sym (take_rest rest n))

pub Appends-trans : (a b c : Option (List ℕ)) (xs ys : List ℕ) → known.Appends a b xs → known.Appends b c ys → known.Appends a c (xs ++ ys)
Appends-trans None b c xs ys first second = tt
Appends-trans (Some a) None c xs ys first second = absurd first
Appends-trans (Some a) (Some b) None xs ys first second = absurd second
Appends-trans (Some a) (Some b) (Some c) xs ys first second = second ∙ ap (λ l. l ++ ys) first ∙ append_assoc a xs ys
