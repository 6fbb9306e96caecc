-- Lists as the loops over a line's parts and a row's columns go on.
use Rattle.std.proofs.{Common.{◌≡◌, ◌∙◌, ◌<◌, ◌≤◌, ◌+◌, ◌++◌, ◌∷◌, [], ℕ, zero, suc, List, length, map, take, get_or, refl, sym, ap, ap₂, subst, Bor, arith, append-nil, add-one, decimal}, Math.Path.fun_ext, lemmas.List.{take_more, take_all, map-append, flat_map_more, get_or-take, length-take-le}, lemmas.List.Elements.All-get_or, lemmas.List.Concat.flat_map-append}
use Rattle.std.specs.List.{flat_map, AllZip}
use Rattle.smk_base.specs.{declared.value.Value.Value, declared.value.Kind.Kind, Rels.{Relation, IsRelation, RowFits, Fits, row_in, value_in}}
use Rattle.smk_base.specs.declared.value.Value.TheVariants as values
use Rattle.smk_model.specs.{Values.Row, Lineage.upto, Texts.{value_text, record_line, row_lines, row_lines_to}}
use Rattle.smk_report.specs.{Pages.Adds, declared.page.Page.Page}
use Rattle.smk_report.proofs.PageTexts.{adds_then}

-- one more part
pub joined_more : (parts : List (Bor (List ℕ))) (i : ℕ) (part : Bor (List ℕ)) → i < length parts → part ≡ get_or parts i part
    → flat_map (λ (p : List ℕ). p) (map (λ (p : Bor (List ℕ)). p.now) (take (i + 1) parts)) ≡ flat_map (λ (p : List ℕ). p) (map (λ (p : Bor (List ℕ)). p.now) (take i parts)) ++ part.now
joined_more parts i part h is =
    let now : Bor (List ℕ) → List ℕ = λ p. p.now in
    let self : List ℕ → List ℕ = λ p. p in
    rw (take_more parts i part h) (rw (← is) (rw (map-append now (take i parts) (part ∷ [])) (rw (flat_map-append self (map now (take i parts)) (part.now ∷ [])) (ap (λ x. flat_map self (map now (take i parts)) ++ x) (append-nil part.now)))))

-- a row has a value for each kind
zipped : (kinds : List Kind) (row : List Value) → AllZip Fits kinds row → length row ≡ length kinds
zipped [] [] h = refl
zipped (k ∷ ks) (v ∷ vs) h = rw (zipped ks vs h.1) refl
zipped _ _ h = absurd h

pub row_width : (rel : Relation) (i : ℕ) → IsRelation rel → i < length rel.rows → length (row_in rel.rows i) ≡ length rel.kinds
row_width rel i keeps h = zipped rel.kinds (row_in rel.rows i) (All-get_or (RowFits rel.kinds) rel.rows i [] h keeps.fit)

-- one more value
pub values_more : (row : List Value) (c : ℕ) → c < length row → map value_text (take (c + 1) row) ≡ map value_text (take c row) ++ value_text (value_in row c) ∷ []
values_more row c h = rw (take_more row c (values.Int (Rattle.std.specs.Prelude.pos 0)) h) (map-append value_text (take c row) (value_in row c ∷ []))

pub values_all : (row : List Value) (n : ℕ) → length row ≡ n → map value_text (take n row) ≡ map value_text row
values_all row n h = ap (map value_text) (take_all n row (omega arith))

-- one more item, and what is made of it
pub mapped_more : {X Y : Type 0} (f : X → Y) (xs : List X) (i : ℕ) (x : X) → i < length xs → x ≡ get_or xs i x → map f (take (i + 1) xs) ≡ map f (take i xs) ++ f x ∷ []
mapped_more f xs i x h is = rw (take_more xs i x h) (rw (← is) (map-append f (take i xs) (x ∷ [])))

-- one more row
pub lines_more : (number : ℕ → ℕ) (rows : List Row) (i : ℕ)
    → row_lines_to number rows (i + 1) ≡ row_lines_to number rows i ++ record_line (decimal (number i) ∷ map value_text (row_in rows i))
lines_more number rows i =
    let f : ℕ → List ℕ = λ i. record_line (decimal (number i) ∷ map value_text (row_in rows i)) in
    rw add-one (sym (flat_map_more f [] (upto i) i))

-- a text, and what is made of one more number behind what is made of those below
pub text_more : (before text after : List ℕ) (f : ℕ → List ℕ) (n : ℕ) (bytes : List ℕ) → text ≡ before ++ flat_map f (upto n) → after ≡ text ++ bytes → bytes ≡ f n → after ≡ before ++ flat_map f (upto (n + 1))
text_more before text after f n bytes is more one = more ∙ ap₂ (λ (x y : List ℕ). x ++ y) is one ∙ flat_map_more f before (upto n) n ∙ ap (λ (ns : List ℕ). before ++ flat_map f ns) (rw add-one refl)

-- what is made of one more item, put behind what is made of those before it
pub adds_pushed : {X : Type 0} (old mid new : Page) (f : X → List ℕ) (xs ys : List X) (x : X) → ys ≡ xs ++ x ∷ [] → Adds old mid (flat_map f xs) → Adds mid new (f x) → Adds old new (flat_map f ys)
adds_pushed old mid new f xs ys x e before last = subst (λ (bytes : List ℕ). Adds old new bytes) (flat_map_more f [] xs x ∙ ap (flat_map f) (sym e)) (adds_then old mid new (flat_map f xs) (f x) before last)

-- one more record behind those of i rows
pub lines_added : (old mid new : Page) (number : ℕ → ℕ) (rows : List Row) (i n : ℕ) (row : Row) → number i ≡ n → row_in rows i ≡ row
    → Adds old mid (row_lines_to number rows i) → Adds mid new (record_line (decimal n ∷ map value_text row))
    → Adds old new (row_lines_to number rows (i + 1))
lines_added old mid new number rows i n row is at before last =
    adds_pushed old mid new (λ (i : ℕ). record_line (decimal (number i) ∷ map value_text (row_in rows i))) (upto i) (upto (i + 1)) i (rw add-one refl) before (rw (is, at) last)

-- the records of rows that stand at the front
first_lines : (number : ℕ → ℕ) (rows : List Row) (n m : ℕ) → m ≤ n → row_lines_to number (take n rows) m ≡ row_lines_to number rows m
first_lines number rows n zero h = refl
first_lines number rows n (suc m) h =
    let one : suc m ≡ m + 1 = omega arith in
    let same : row_in (take n rows) m ≡ row_in rows m = get_or-take n rows m [] (omega (arith, h)) in
    ap (row_lines_to number (take n rows)) one ∙ lines_more number (take n rows) m
    ∙ ap₂ (λ (xs : List ℕ) (row : Row). xs ++ record_line (decimal (number m) ∷ map value_text row)) (first_lines number rows n m (omega (arith, h))) same
    ∙ sym (lines_more number rows m) ∙ ap (row_lines_to number rows) (sym one)

-- the records of a part are those of so many rows
pub part_lines : (number : ℕ → ℕ) (rows : List Row) (n : ℕ) → n ≤ length rows → row_lines number (take n rows) ≡ row_lines_to number rows n
part_lines number rows n h = ap (row_lines_to number (take n rows)) (length-take-le n rows h) ∙ first_lines number rows n n (omega arith)

-- the records of all rows are those of so many from the first place on
pub whole_lines : (number : ℕ → ℕ) (rows : List Row) (n : ℕ) → n ≡ length rows → row_lines_to (λ (k : ℕ). number (0 + k)) rows n ≡ row_lines number rows
whole_lines number rows n all =
    let from : (λ (k : ℕ). number (0 + k)) ≡ number = fun_ext (λ k. let zero_first : 0 + k ≡ k = omega arith in ap number zero_first) in
    ap (λ (f : ℕ → ℕ). row_lines_to f rows n) from ∙ ap (row_lines_to number rows) all
