use Rattle.std.proofs.Common.{◌≡◌, ◌∙◌, ℕ, ℤ, pos, Bool, List, false, map, filter, get_or, ap, subst, rules, to_z, of_z}
use Rattle.std.specs.{Int.w128, Ordering.int_cmp}
use Rattle.smk_base.specs.{Cells.value_of_cell, Plans.Comparison, Rels.{column_texts, kind_in}, TextColumns.text_firsts, declared.book.plan.Operand.TheVariants.Lit, declared.value.Value.Value}
use Rattle.smk_base.specs.declared.value.Kind.TheVariants as kinds
use Rattle.smk_base.specs.declared.value.Value.TheVariants as values
use Rattle.smk_model.specs.{Values.{holds, meets, value_cmp}, Lineage.row_at}
use Rattle.smk_body.proofs.Comparing.{codes_kept, ints_kept, kind_is}
use Rattle.smk_body.proofs.find.passing.keep_standing.Goals as goal

pub returns-in-Small : goal.returns-in-Small
returns-in-Small c =
    let rows = c.args.rel.now.rows in
    let n = c.in-Int.n in
    let ints = c.in-Small.items.now in
    let old = c.args.places.now.items in
    let same : to_z w128 (of_z w128 n) ≡ n = search rules in
    let kept : c.keep_ints.new.places.items ≡ filter (λ i. holds c.args.op (int_cmp (get_or ints i (pos 0)) n)) old = subst (λ (z : ℤ). c.keep_ints.new.places.items ≡ filter (λ i. holds c.args.op (int_cmp (get_or ints i (pos 0)) z)) old) same c.keep_ints.ensures in
    let is : values.Int n ≡ value_of_cell c.args.value = search rules in
    kept ∙ ints_kept rows c.args.c c.args.op n ints old c.in-Small.ensures c.requires.within ∙ ap (λ (v : Value). filter (λ i. meets (Comparison c.args.c c.args.op (Lit v)) (row_at rows i)) old) is

pub returns-then-len : goal.returns-then-len
returns-then-len c =
    let rel = c.args.rel.now in
    let v = value_of_cell c.args.value in
    let texts = text_firsts (column_texts c.args.c rel.rows) in
    let codes = c.codes.result.now in
    let old = c.args.places.now.items in
    let told = λ (text : List ℕ). holds c.args.op (value_cmp (values.Text text) v) in
    let standing : c.as_slice.result.now ≡ map told texts = c.as_slice.ensures.value ∙ c.in_ok-standing-in-Text.ensures ∙ ap (map told) c.dict-then-len.ensures in
    let is : kind_in rel.kinds c.args.c ≡ kinds.Text = kind_is (kind_in rel.kinds c.args.c) (rw c.in-Text.is at c.requires.fits.1) in
    c.keep_codes.ensures ∙ ap (λ (s : List Bool). filter (λ i. get_or s (get_or codes i 0) false) old) standing
    ∙ codes_kept rel.kinds rel.rows c.args.c c.args.op v texts codes c.len-rows.ensures.keeps.fit c.requires.fits.0 is c.codes.ensures.within c.codes.ensures.texts old c.requires.within
