-- Statements that are put behind others.
use Rattle.std.specs.List.{flat_map}
use Rattle.std.proofs.{Common.{◌≡◌, ◌∙◌, List, [], ◌∷◌, ◌++◌, map, ap, sym, append_assoc, append-nil}, lemmas.List.map_push, lemmas.List.Concat.flat_map-append}
use Rattle.smk_base.specs.{Trees.StmtImage, TreeImage.stmt_image, declared.book.tree.Stmt.Stmt}

-- two statements, one after the other
pub two_put : (a b c : List Stmt) (x y : Stmt) (p q : StmtImage) → b ≡ a ++ x ∷ [] → c ≡ b ++ y ∷ [] → stmt_image x ≡ p → stmt_image y ≡ q → map stmt_image c ≡ map stmt_image a ++ p ∷ q ∷ []
two_put a b c x y p q e f g h =
    ap (map stmt_image) f ∙ map_push stmt_image b y
    ∙ ap (λ l. map stmt_image l ++ stmt_image y ∷ []) e
    ∙ ap (λ l. l ++ stmt_image y ∷ []) (map_push stmt_image a x)
    ∙ append_assoc (map stmt_image a) (stmt_image x ∷ []) (stmt_image y ∷ [])
    ∙ ap (λ r. map stmt_image a ++ r ∷ stmt_image y ∷ []) g
    ∙ ap (λ r. map stmt_image a ++ p ∷ r ∷ []) h

-- what one more statement adds to what each statement gives
pub one_more : {X : Type 0} (f : StmtImage → List X) (stmts : List Stmt) (s : Stmt) → flat_map f (map stmt_image stmts) ++ f (stmt_image s) ≡ flat_map f (map stmt_image (stmts ++ s ∷ []))
one_more f stmts s =
    ap (λ l. flat_map f (map stmt_image stmts) ++ l) (sym (append-nil (f (stmt_image s))))
    ∙ sym (flat_map-append f (map stmt_image stmts) (stmt_image s ∷ []))
    ∙ ap (flat_map f) (sym (map_push stmt_image stmts s))
