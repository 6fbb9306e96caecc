-- Lists of numbers, each written behind a space.
use Rattle.std.proofs.{Common.{◌≡◌, ◌∙◌, ◌≤◌, ◌+◌, ◌-◌, ◌++◌, ◌∷◌, [], ℕ, List, take, drop, length, codes, decimal, refl, ap, ap₂, sym, arith, append_assoc, take-add}, lemmas.List.{take_all, take_rest}, lemmas.List.Concat.flat_map-append}
use Rattle.std.specs.List.{flat_map}
use Rattle.smk_model.specs.Texts.{line}

abbrev pub spaced : List ℕ → List ℕ
spaced = flat_map (λ n. codes " " ++ decimal n)

-- parts with a space before each
pub words_spaced : {X : Type 0} (f : X → List ℕ) (xs : List X) → flat_map (λ (p : List ℕ). p) (flat_map (λ x. codes " " ∷ f x ∷ []) xs) ≡ flat_map (λ x. codes " " ++ f x) xs
words_spaced f [] = refl
words_spaced f (x ∷ xs) = ap (λ l. 32 ∷ (f x ++ l)) (words_spaced f xs)

-- those up to a place further on, put behind those up to a place
pub behind : (text room ns : List ℕ) (before : List ℕ) (from len done next : ℕ) → done ≤ next → length room ≡ len → text ≡ before ++ spaced (take done ns) → drop from room ≡ spaced (take (next - done) (drop done ns))
    → text ++ take (len - from) (drop from room) ≡ before ++ spaced (take next ns)
behind text room ns before from len done next h long are bytes =
    let on : done + (next - done) ≡ next = omega (arith, h) in
    ap (λ l. text ++ l) (ap (λ n. take (n - from) (drop from room)) (sym long) ∙ take_rest room from ∙ bytes)
    ∙ ap (λ l. l ++ spaced (take (next - done) (drop done ns))) are
    ∙ append_assoc before (spaced (take done ns)) (spaced (take (next - done) (drop done ns)))
    ∙ ap (λ l. before ++ l) (sym (ap (λ k. spaced (take k ns)) (sym on) ∙ ap spaced (take-add done (next - done) ns) ∙ flat_map-append (λ n. codes " " ++ decimal n) (take done ns) (take (next - done) (drop done ns))))

-- and a line of all of them
pub line_is : (text before after word ns : List ℕ) (done : ℕ) → length ns ≤ done → text ≡ (before ++ word) ++ spaced (take done ns) → after ≡ text ++ 10 ∷ []
    → after ≡ before ++ ((word ++ flat_map (λ (p : List ℕ). p) (flat_map (λ n. codes " " ∷ decimal n ∷ []) ns)) ++ 10 ∷ [])
line_is text before after word ns done all are is =
    is ∙ ap (λ l. l ++ 10 ∷ []) (are ∙ ap (λ l. (before ++ word) ++ spaced l) (take_all done ns all) ∙ ap (λ l. (before ++ word) ++ l) (sym (words_spaced decimal ns)) ∙ append_assoc before word _) ∙ append_assoc before _ (10 ∷ [])

-- a line that ends in words with a space before each
pub line_ends : {X : Type 0} (f : X → List ℕ) (xs : List X) (words : List (List ℕ)) (before text last after : List ℕ) → text ≡ before ++ flat_map (λ (p : List ℕ). p) words → last ≡ text ++ flat_map (λ x. codes " " ++ f x) xs → after ≡ last ++ 10 ∷ []
    → after ≡ before ++ line (words ++ flat_map (λ x. codes " " ∷ f x ∷ []) xs)
line_ends f xs words before text last after one two three =
    three ∙ ap (λ l. l ++ 10 ∷ []) (two ∙ ap₂ (λ l m. l ++ m) one (sym (words_spaced f xs)) ∙ append_assoc before (flat_map (λ (p : List ℕ). p) words) _ ∙ ap (λ l. before ++ l) (sym (flat_map-append (λ (p : List ℕ). p) words (flat_map (λ x. codes " " ∷ f x ∷ []) xs))))
    ∙ append_assoc before _ (10 ∷ [])
