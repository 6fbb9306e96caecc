-- A book statement by statement.
use Rattle.std.proofs.{Common.{◌≡◌, ◌∙◌, ◌+◌, ◌<◌, ◌≤◌, ℕ, suc, Bool, List, ◌∷◌, map, drop, length, get_or, Ok, refl, sym, ap, subst, arith}, lemmas.List.{drop_more, at_drop_all}, lemmas.List.Sums.sum_by-cons}
use Rattle.std.specs.Prelude.{count_by}
use Rattle.smk_base.specs.{CatalogImage.CatalogImage, TreeImage.stmt_image, Trees.StmtImage, declared.book.tree.Stmt.Stmt}
use Rattle.smk_model.specs.{Expanded.IsNoDependency, Limits.{KeepsStmt, is_table, is_view}, Names.in_turn, Typing.{types, stmt_after}}
use Rattle.smk_typing.specs.Rest.{IsBefore, one_if}
use Rattle.smk_typing.proofs.CatalogsFit.{stmt_kept}

counted : (p : StmtImage → Bool) (s : StmtImage) (more : List StmtImage) → count_by p (s ∷ more) ≡ one_if (p s) + count_by p more
counted p s more = sum_by-cons (λ x. one_if (p x)) s more

-- after one more statement
pub at_next : (book : List StmtImage) (old new : CatalogImage) (s : StmtImage) (more : List StmtImage) → IsBefore book old (s ∷ more) → stmt_after old s ≡ Ok new → IsBefore book new more
at_next book old new s more before after =
    let kept = stmt_kept old new s before.typed (before.each 0 s (omega arith)) (before.replaced 0 s (omega arith)) after in
    record {
      typed = kept.0;
      types_rest = before.types_rest ∙ rw after refl;
      few_tables = omega (arith, before.few_tables, kept.1, counted is_table s more);
      few_views = omega (arith, before.few_views, kept.2, counted is_view s more);
      each = λ k d p. before.each (suc k) d (omega arith);
      replaced = λ k d p. before.replaced (suc k) d (omega arith);
    }

-- the next statement keeps its limits
pub next_kept : (book : List StmtImage) (catalog : CatalogImage) (s : StmtImage) (more : List StmtImage) → IsBefore book catalog (s ∷ more) → KeepsStmt s
next_kept book catalog s more before = before.each 0 s (omega arith)

-- and is no dependency
pub next_replaced : (book : List StmtImage) (catalog : CatalogImage) (s : StmtImage) (more : List StmtImage) → IsBefore book catalog (s ∷ more) → IsNoDependency s
next_replaced book catalog s more before = before.replaced 0 s (omega arith)

-- the rest begins with the statement at this place
pub rest_at : (book : List StmtImage) (catalog : CatalogImage) (stmts : List Stmt) (i : ℕ) (s : Stmt) → i < length stmts → s ≡ get_or stmts i s → IsBefore book catalog (map stmt_image (drop i stmts)) → IsBefore book catalog (stmt_image s ∷ map stmt_image (drop (i + 1) stmts))
rest_at book catalog stmts i s below here before =
    let e : drop i stmts ≡ s ∷ drop (i + 1) stmts = drop_more stmts i s below ∙ ap (λ x. x ∷ drop (i + 1) stmts) (sym here) in
    subst (λ (rest : List Stmt). IsBefore book catalog (map stmt_image rest)) e before

-- after the last statement
pub at_last : (book : List StmtImage) (catalog : CatalogImage) (stmts : List Stmt) (i : ℕ) → length stmts ≤ i → IsBefore book catalog (map stmt_image (drop i stmts)) → types book ≡ Ok catalog
at_last book catalog stmts i all before = before.types_rest ∙ at_drop_all (λ (rest : List Stmt). in_turn stmt_after catalog (map stmt_image rest)) stmts i all
