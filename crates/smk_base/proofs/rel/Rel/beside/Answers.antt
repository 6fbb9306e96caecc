use Rattle.std.proofs.{Common.{◌≡◌, ◌≤◌, ◌+◌, ◌∙◌, sym, subst, arith, length}, lemmas.List.length-map}
use Rattle.smk_base.specs.Relations.{AreColumns}
use Rattle.smk_base.proofs.{Rows.length-rows_of, Relating.{relation-beside-same, AreColumns-beside}}
use Rattle.smk_base.proofs.rel.Rel.beside.Goals as goal

pub invariant_of-result : goal.invariant_of-result
invariant_of-result c =
    let rows = rw (← c.self.view_is, ← c.right.view_is) at c.requires.long in
    let wide = rw (← c.self.view_is, ← c.right.view_is) at c.requires.few in
    let long : c.self.inside.count ≡ c.right.inside.count = sym (length-rows_of _ c.self.inside.columns.items) ∙ rows ∙ length-rows_of _ c.right.inside.columns.items in
    let few : length c.self.inside.columns.items + length c.right.inside.columns.items ≤ 16 = omega (arith, wide, length-map c.self.inside.columns.items (λ column. column.kind), length-map c.right.inside.columns.items (λ column. column.kind)) in
    let right = subst (λ n. AreColumns n c.right.inside.columns.items) (sym long) c.right.invariant in
    rw (c.in_ok-append.ensures.items, c.in_ok-reserve_exact.ensures.items) (AreColumns-beside _ _ _ c.self.invariant right few)

pub returns : goal.returns
returns c =
    let rows = rw (← c.self.view_is, ← c.right.view_is) at c.requires.long in
    let long : c.self.inside.count ≡ c.right.inside.count = sym (length-rows_of _ c.self.inside.columns.items) ∙ rows ∙ length-rows_of _ c.right.inside.columns.items in
    rw (c.in_ok-append.ensures.items, c.in_ok-reserve_exact.ensures.items, ← c.self.view_is, ← c.right.view_is) (relation-beside-same _ _ _ _ long)
