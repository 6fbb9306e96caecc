-- A column of bins of what a chain makes of rows.
use Rattle.std.proofs.{Common.{◌≡◌, ℕ, ◌<◌, ℤ, pos, List, [], ◌∷◌, length, map, ap, sym, ◌∙◌, get_or, arith}, lemmas.List.{get_or-map, length-map}}
use Rattle.smk_base.specs.{Plans.{Expr, Apply, Projection}, Rels.{Relation, bin_of, kind_in, value_in}, declared.book.plan.Item.Item, declared.book.plan.Item.TheVariants.{Bin, Col}, declared.value.Kind.Kind, declared.value.Value.Value}
use Rattle.smk_base.specs.declared.value.Kind.TheVariants as kinds
use Rattle.smk_base.specs.declared.value.Value.TheVariants as values
use Rattle.smk_model.specs.{Kinds.kind_of_item, Plain.item_at, Selection.plan_kinds, Values.{Row, value_at}}
use Rattle.smk_model.proofs.Parts.{map_agree}
use Rattle.smk_base.proofs.Places.{map_map}
use Rattle.smk_body.proofs.Besides.{relation, related}
use Rattle.smk_marks.specs.{Marks.made, Views.chain_values}

-- the kind and the values of a column of a projection that is a bin

binned_column : (chain : Expr) (items : List Item) (rows below column : Relation) (c col : ℕ) (w : ℤ) → c < length items → get_or items c (Col 0) ≡ Bin col w → below ≡ chain_values chain rows col
    → column ≡ relation (kind_in below.kinds 0 ∷ []) (map (λ row. bin_of w (value_in row 0) ∷ []) below.rows) → column ≡ chain_values (Apply (Projection items) chain) rows c
binned_column chain items rows below column c col w low at b m =
    let ks = plan_kinds chain (rows.kinds ∷ []) in
    m ∙ ap (λ (r : Relation). relation (kind_in r.kinds 0 ∷ []) (map (λ row. bin_of w (value_in row 0) ∷ []) r.rows)) b
    ∙ related
    (ap (λ (k : Kind). k ∷ []) (sym (get_or-map (kind_of_item ks) items c (Col 0) kinds.Text low ∙ ap (kind_of_item ks) at)))
    (map_map (λ (row : Row). bin_of w (value_in row 0) ∷ []) (λ (row : Row). value_at (made chain row) col ∷ []) rows.rows
    ∙ map_agree (λ (row : Row). bin_of w (value_at (made chain row) col) ∷ []) (λ (row : Row). value_at (made (Apply (Projection items) chain) row) c ∷ [])
    (λ row. ap (λ (v : Value). v ∷ []) (sym (get_or-map (item_at (made chain row)) items c (Col 0) (values.Int (pos 0)) low ∙ ap (item_at (made chain row)) at))) rows.rows)

pub binned : (whole chain : Expr) (items : List Item) (rows below column : Relation) (c col : ℕ) (w : ℤ) → whole ≡ Apply (Projection items) chain → c < length (plan_kinds whole (rows.kinds ∷ [])) → get_or items c (Col 0) ≡ Bin col w
    → below ≡ chain_values chain rows col → column ≡ relation (kind_in below.kinds 0 ∷ []) (map (λ row. bin_of w (value_in row 0) ∷ []) below.rows) → column ≡ chain_values whole rows c
binned whole chain items rows below column c col w is low at b m =
    let ks = plan_kinds chain (rows.kinds ∷ []) in
    let inside : c < length items = omega (arith, low, ap (λ (p : Expr). length (plan_kinds p (rows.kinds ∷ []))) is, length-map items (kind_of_item ks)) in
    binned_column chain items rows below column c col w inside at b m ∙ ap (λ (p : Expr). chain_values p rows c) (sym is)
