-- The book with each dependency replaced.
use Rattle.std.specs.Prelude.{All, count_by, cond, Ok, Err}
use Rattle.std.proofs.{Common.{◌≡◌, suc, Bool, List, [], ◌∷◌, ◌++◌, ap, ◌∙◌, refl, arith, sym}, lemmas.List.Sums.{sum_by-cons, sum_by-append}, lemmas.List.Elements.{All-nil, All-cons, All-append}}
use Rattle.smk_base.specs.{Trees.{StmtImage, TableNode, ViewNode, BackNode, FwdNode, LinkNode, DependsNode}, declared.book.tree.Extra.TheVariants.Plain, CatalogImage.CatalogImage}
use Rattle.smk_model.specs.{Expanded.{violations_tree, in_its_place, expanded, IsNoDependency, HasNoDependency}, ExpandedLaws.ExpandedStands, Limits.{KeepsLimits, KeepsStmt, is_table, is_view}, Names.{Typed, in_turn, ◌>>=◌}, Typing.{stmt_after, view_after, back_after, nothing_declared}}
use Rattle.smk_model.proofs.{Rules.then_same, Shown.dependencies_shown}

-- the first of a list that holds throughout, and the rest
first_holds : {X : Type 0} (P : X → Type 0) (x : X) (xs : List X) → All P (x ∷ xs) → P x
first_holds P x xs h = h 0 x (omega arith)

rest_holds : {X : Type 0} (P : X → Type 0) (x : X) (xs : List X) → All P (x ∷ xs) → All P xs
rest_holds P x xs h = λ k d p. h (suc k) d (omega (arith, p))

one_holds : {X : Type 0} (P : X → Type 0) (x : X) → P x → All P (x ∷ [])
one_holds P x h = All-cons P x [] h (All-nil P)

-- what stands in the place of a statement keeps its limits
placed_keeps : (s : StmtImage) → KeepsStmt s → All KeepsStmt (in_its_place s)
placed_keeps (TableNode name file decls) h = one_holds KeepsStmt (TableNode name file decls) h
placed_keeps (ViewNode name tree) h = one_holds KeepsStmt (ViewNode name tree) h
placed_keeps (BackNode at view table extra) h = one_holds KeepsStmt (BackNode at view table extra) h
placed_keeps (FwdNode at table view) h = one_holds KeepsStmt (FwdNode at table view) h
placed_keeps (LinkNode view table to) h = one_holds KeepsStmt (LinkNode view table to) h
placed_keeps (DependsNode at name table keys col) h = All-cons KeepsStmt (ViewNode name (violations_tree at table keys col)) (BackNode at name table Plain ∷ []) (record { lists = ((tt, tt), tt); few = omega arith }) (one_holds KeepsStmt (BackNode at name table Plain) tt)

expanded_keeps : (book : List StmtImage) → All KeepsStmt book → All KeepsStmt (expanded book)
expanded_keeps [] h = All-nil KeepsStmt
expanded_keeps (s ∷ ss) h = All-append KeepsStmt (in_its_place s) (expanded ss) (placed_keeps s (first_holds KeepsStmt s ss h)) (expanded_keeps ss (rest_holds KeepsStmt s ss h))

-- it has as many tables, and as many views as are counted
placed_tables : (s : StmtImage) → count_by is_table (in_its_place s) ≡ cond (is_table s) 1 0
placed_tables (TableNode name file decls) = refl
placed_tables _ = refl

placed_views : (s : StmtImage) → count_by is_view (in_its_place s) ≡ cond (is_view s) 1 0
placed_views (TableNode name file decls) = refl
placed_views _ = refl

expanded_count : (p : StmtImage → Bool) → ((s : StmtImage) → count_by p (in_its_place s) ≡ cond (p s) 1 0) → (book : List StmtImage) → count_by p (expanded book) ≡ count_by p book
expanded_count p h [] = refl
expanded_count p h (s ∷ ss) =
    let one = h s in
    let more = expanded_count p h ss in
    let both = sum_by-append (λ x. cond (p x) 1 0) (in_its_place s) (expanded ss) in
    let first = sum_by-cons (λ x. cond (p x) 1 0) s ss in
    omega (arith, one, more, both, first)

limits : (book : List StmtImage) → KeepsLimits book → KeepsLimits (expanded book)
limits book h = record {
  few_tables = let e = expanded_count is_table placed_tables book in let f = h.few_tables in omega (arith, e, f);
  few_views = let e = expanded_count is_view placed_views book in let f = h.few_views in omega (arith, e, f);
  each = expanded_keeps book h.each;
}

placed_none : (s : StmtImage) → HasNoDependency (in_its_place s)
placed_none (TableNode name file decls) = one_holds IsNoDependency (TableNode name file decls) tt
placed_none (ViewNode name tree) = one_holds IsNoDependency (ViewNode name tree) tt
placed_none (BackNode at view table extra) = one_holds IsNoDependency (BackNode at view table extra) tt
placed_none (FwdNode at table view) = one_holds IsNoDependency (FwdNode at table view) tt
placed_none (LinkNode view table to) = one_holds IsNoDependency (LinkNode view table to) tt
placed_none (DependsNode at name table keys col) = All-cons IsNoDependency (ViewNode name (violations_tree at table keys col)) (BackNode at name table Plain ∷ []) tt (one_holds IsNoDependency (BackNode at name table Plain) tt)

none : (book : List StmtImage) → HasNoDependency (expanded book)
none [] = All-nil IsNoDependency
none (s ∷ ss) = All-append IsNoDependency (in_its_place s) (expanded ss) (placed_none s) (none ss)

placed_same : (s : StmtImage) → IsNoDependency s → in_its_place s ≡ s ∷ []
placed_same (DependsNode at name table keys col) h = absurd h
placed_same _ h = refl

same : (book : List StmtImage) → HasNoDependency book → expanded book ≡ book
same [] h = refl
same (s ∷ ss) h = ap (λ l. l ++ expanded ss) (placed_same s (first_holds IsNoDependency s ss h)) ∙ ap (λ l. s ∷ l) (same ss (rest_holds IsNoDependency s ss h))

-- the members of one list and then those of another, in turn
in_turn-append : {A X : Type 0} (rule : A → X → Typed A) (made : A) (xs ys : List X) → in_turn rule made (xs ++ ys) ≡ (in_turn rule made xs >>= λ more. in_turn rule more ys)
in_turn-append rule made [] ys = refl
in_turn-append {A} rule made (x ∷ xs) ys = by (rule made x) (λ more. in_turn-append rule more xs ys)
  where
    by : (first : Typed A) → ((more : A) → in_turn rule more (xs ++ ys) ≡ (in_turn rule more xs >>= λ last. in_turn rule last ys)) → (first >>= λ more. in_turn rule more (xs ++ ys)) ≡ ((first >>= λ more. in_turn rule more xs) >>= λ last. in_turn rule last ys)
    by (Ok more) h = h more
    by (Err fault) h = refl

then_done : {A : Type 0} (first : Typed A) → (first >>= λ a. Ok a) ≡ first
then_done (Ok a) = refl
then_done (Err fault) = refl

placed_typed : (catalog : CatalogImage) (s : StmtImage) → in_turn stmt_after catalog (in_its_place s) ≡ stmt_after catalog s
placed_typed catalog (DependsNode at name table keys col) = then_same (view_after catalog name (violations_tree at table keys col)) (λ more. then_done (back_after more at name table Plain))
placed_typed catalog _ = then_done _

typed_from : (catalog : CatalogImage) (book : List StmtImage) → in_turn stmt_after catalog (expanded book) ≡ in_turn stmt_after catalog book
typed_from catalog [] = refl
typed_from catalog (s ∷ ss) =
    in_turn-append stmt_after catalog (in_its_place s) (expanded ss)
    ∙ ap (λ r. r >>= λ more. in_turn stmt_after more (expanded ss)) (placed_typed catalog s)
    ∙ then_same (stmt_after catalog s) (λ more. typed_from more ss)

pub expanded_stands : ExpandedStands
expanded_stands = record { limits = limits; none = none; same = same; typed = typed_from nothing_declared; shown = λ book catalog e. dependencies_shown book catalog (sym (typed_from nothing_declared book) ∙ e) }
