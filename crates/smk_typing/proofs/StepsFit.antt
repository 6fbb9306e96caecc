-- A step that stands fits the kinds of the columns that come to it.
use Rattle.std.proofs.{Common.{◌≡◌, ◌<◌, ℕ, false, not, List, [], length, Option, Some, None, Ok, position, refl, sym, subst, arith}, lemmas.List.{length-map, get_or-map}}
use Rattle.std.specs.Prelude.{ok_or, option_map}
use Rattle.smk_base.specs.{declared.value.Kind.Kind, declared.book.tree.Word.Word, declared.book.tree.Term.Term, declared.book.plan.Operand.Operand, declared.book.catalog.Column.Column, declared.book.type_fault.TypeFault.TheVariants.{UnknownColumn, KindMismatch}, Plans.{Formula, Comparison}, Trees.{PredImage, CompareNode, AndNode, OrNode, NotNode}, Rels.kind_in}
use Rattle.smk_base.specs.declared.value.Kind.TheVariants as kinds
use Rattle.smk_base.specs.declared.book.tree.Term.TheVariants as terms
use Rattle.smk_base.specs.declared.book.plan.Operand.TheVariants as operands
use Rattle.smk_model.specs.{Names.{column_named, column_at, has_name, column_kinds, same_sort}, Kinds.{AreAlike, kind_of, FormulaFits, OperandFits}, TypedSteps.{typed_term, typed_pred, term_place}}
use Rattle.smk_typing.proofs.{Results.{made_of, unless_ok, ok_keeps}, Lookups.place_within}

pub kinds_long : (columns : List Column) → length (column_kinds columns) ≡ length columns
kinds_long columns = length-map columns (λ column. column.kind)

at_place : (columns : List Column) (word : Word) (place : Option ℕ) (found : ℕ × Kind) → position (has_name word.name) columns ≡ place
    → ok_or (option_map (λ c. (c, (column_at columns c).kind)) place) (UnknownColumn word.at) ≡ Ok found
    → (found.0 < length (column_kinds columns)) × (kind_in (column_kinds columns) found.0 ≡ found.1)
at_place columns word None found p e = absurd (cc e)
at_place columns word (Some c) found p e =
    let below : c < length columns = place_within (has_name word.name) columns c p in
    let here : kind_in (column_kinds columns) c ≡ (column_at columns c).kind = get_or-map (λ column. column.kind) columns c (record { name = []; kind = kinds.Text }) kinds.Text below in
    ok_keeps (λ (it : ℕ × Kind). (it.0 < length (column_kinds columns)) × (kind_in (column_kinds columns) it.0 ≡ it.1)) _ found e (omega (arith, below, kinds_long columns), here)

-- a column that a word names is there, with its kind
pub named_is : (columns : List Column) (word : Word) (found : ℕ × Kind) → column_named columns word ≡ Ok found → (found.0 < length (column_kinds columns)) × (kind_in (column_kinds columns) found.0 ≡ found.1)
named_is columns word found e = at_place columns word (position (has_name word.name) columns) found refl e

pub alike : (a b : Kind) → not (same_sort a b) ≡ false → AreAlike a b
alike (kinds.Int a) kinds.Text e = absurd (cc e)
alike kinds.Text (kinds.Int b) e = absurd (cc e)
alike _ _ e = tt

term_fits : (columns : List Column) (term : Term) (left : Kind) (found : Operand × Kind) → typed_term columns term ≡ Ok found → AreAlike left found.1 → OperandFits (column_kinds columns) left found.0
term_fits columns (terms.Col word) left found e fits =
    let made = made_of (column_named columns word) _ found e in
    let is = named_is columns word made.0 made.1 in
    let same : (let it : Operand × Kind = (operands.Col made.0.0, made.0.1) in it) ≡ found = cc made.2 in
    let fits_here : AreAlike left made.0.1 = subst (λ (it : Operand × Kind). AreAlike left it.1) (sym same) fits in
    subst (λ (it : Operand × Kind). OperandFits (column_kinds columns) left it.0) same (is.0, subst (λ (k : Kind). AreAlike left k) (sym is.1) fits_here)
term_fits columns (terms.Lit literal) left found e fits =
    let same : (let it : Operand × Kind = (operands.Lit literal.value, kind_of literal.value) in it) ≡ found = cc e in
    subst (λ (it : Operand × Kind). OperandFits (column_kinds columns) left it.0) same (subst (λ (it : Operand × Kind). AreAlike left it.1) (sym same) fits)

-- a predicate that stands fits
pub pred_fits : (columns : List Column) (tree : PredImage) (formula : Formula) → typed_pred columns tree ≡ Ok formula → FormulaFits (column_kinds columns) formula
pred_fits columns (CompareNode word op term) formula e =
    let left = made_of (column_named columns word) _ formula e in
    let right = made_of (typed_term columns term) _ formula left.2 in
    let whole = unless_ok (not (same_sort left.0.1 right.0.1)) (KindMismatch (term_place term)) (Ok (Comparison left.0.0 op right.0.0)) formula right.2 in
    let is = named_is columns word left.0 left.1 in
    let like : AreAlike (kind_in (column_kinds columns) left.0.0) right.0.1 = subst (λ (k : Kind). AreAlike k right.0.1) (sym is.1) (alike left.0.1 right.0.1 whole.0) in
    ok_keeps (FormulaFits (column_kinds columns)) _ formula whole.1 (is.0, term_fits columns term (kind_in (column_kinds columns) left.0.0) right.0 right.1 like)
pred_fits columns (AndNode a b) formula e =
    let left = made_of (typed_pred columns a) _ formula e in
    let right = made_of (typed_pred columns b) _ formula left.2 in
    ok_keeps (FormulaFits (column_kinds columns)) _ formula right.2 (pred_fits columns a left.0 left.1, pred_fits columns b right.0 right.1)
pred_fits columns (OrNode a b) formula e =
    let left = made_of (typed_pred columns a) _ formula e in
    let right = made_of (typed_pred columns b) _ formula left.2 in
    ok_keeps (FormulaFits (column_kinds columns)) _ formula right.2 (pred_fits columns a left.0 left.1, pred_fits columns b right.0 right.1)
pred_fits columns (NotNode a) formula e =
    let inner = made_of (typed_pred columns a) _ formula e in
    ok_keeps (FormulaFits (column_kinds columns)) _ formula inner.2 (pred_fits columns a inner.0 inner.1)
