-- What is said first, text by text.
use Rattle.std.proofs.{Common.{◌≡◌, ◌≤◌, ◌<◌, ◌+◌, ℕ, List, [], ◌∷◌, ◌++◌, map, take, drop, get_or, length, sym, ap, ◌∙◌, subst, append_assoc}, lemmas.List.{get_or-map, length-map, take_all, take_more, take-append-drop}}
use Rattle.smk_outside.specs.{Saying.{Says, SaysFront}, Told.Told}
use Rattle.smk_outside.proofs.Telling.{Says-trans, SaysFront-after, SaysFront-more}

-- all texts are said
pub all_said : (texts : List (List ℕ)) (n i : ℕ) (before after : Told) → n ≡ length texts → n ≤ i → Says before after (take i texts) → Says before after texts
all_said texts n i before after all over said = subst (Says before after) (take_all i texts (subst (λ k. k ≤ i) all over)) said

module _ {A : Type 0} (f : A → List ℕ) (xs : List A) (none : A) (i : ℕ) (text : List ℕ) (before between after : Told) (less : i < length xs) (is : text ≡ f (get_or xs i none)) where
  with_next : take i (map f xs) ++ text ∷ [] ≡ take (i + 1) (map f xs)
  with_next = ap (λ t. take i (map f xs) ++ t ∷ []) (is ∙ sym (get_or-map f xs i none [] less)) ∙ sym (take_more (map f xs) i [] (subst (λ n. i < n) (sym (length-map xs f)) less))

  -- the next text is said
  pub next_said : Says before between (take i (map f xs)) → Says between after (text ∷ []) → Says before after (take (i + 1) (map f xs))
  next_said said next = subst (Says before after) with_next (Says-trans before between after (take i (map f xs)) (text ∷ []) said next)

  -- or it breaks off, and with it all that is to be said
  pub next_broken : (rest : List (List ℕ)) → Says before between (take i (map f xs)) → SaysFront between after (text ∷ []) → SaysFront before after (map f xs ++ rest)
  next_broken rest said front =
      let begun = subst (SaysFront before after) with_next (SaysFront-after before between after (take i (map f xs)) (text ∷ []) said front) in
      subst (SaysFront before after) (sym (append_assoc (take (i + 1) (map f xs)) (drop (i + 1) (map f xs)) rest) ∙ ap (λ l. l ++ rest) (take-append-drop (i + 1) (map f xs)))
      (SaysFront-more before after (take (i + 1) (map f xs)) (drop (i + 1) (map f xs) ++ rest) begun)
