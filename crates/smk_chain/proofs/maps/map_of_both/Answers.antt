use Rattle.std.proofs.{Common.{arith, ◌≡◌, ◌∙◌, ◌<◌, ℕ, List, false, nat_eq, [], length, get_or, ap, sym, refl, subst, inl, inr, IfOk}, lemmas.Bool.{cases_Bool, eq-eqb, eqb-true}, lemmas.List.{get_or-map, get_or_default}}
use Rattle.smk_base.specs.Rels.{Relation}
use Rattle.smk_model.specs.{Selection.each_rows, Composed.table_at}
use Rattle.smk_compose.specs.{declared.kept_maps.KeptMap.KeptMap, Through.{map_at, no_map, no_need}}
use Rattle.smk_chain.specs.Parts.{both_maps, joint_map_at}
use Rattle.smk_chain.proofs.maps.map_of_both.Goals as goal

-- the maps at the place of a needed table
at_both : (old new : List KeptMap) (i n : ℕ) (x y : KeptMap) → i < n → length old ≡ n → length new ≡ n → (get_or old i x ≡ map_at old i) × (get_or new i y ≡ map_at new i)
at_both old new i n x y low o w = (get_or_default old i x no_map (omega (arith, low, o)), get_or_default new i y no_map (omega (arith, low, w)))

pub scanned_map-requires : goal.scanned_map-requires
scanned_map-requires c =
    let traced = c.args.traced.now in
    let both = c.args.both.now in
    let i = c.args.i in
    let at = at_both both.old.now both.new.now i (length traced.need.now) c.index-both-i.result c.index-both-i-then-need-traced.result c.requires.there c.requires.maps.old_long c.requires.maps.new_long in
    rw (at.0, at.1) (c.requires.maps.fit i c.requires.there (eq-eqb (get_or traced.need.now i no_need).table traced.scanned c.if-need-traced.true))

pub returns-in_ok-map : goal.returns-in_ok-map
returns-in_ok-map c =
    let traced = c.args.traced.now in
    let both = c.args.both.now in
    let i = c.args.i in
    let n = get_or traced.need.now i no_need in
    let at = at_both both.old.now both.new.now i (length traced.need.now) c.index-both-i.result c.index-both-i-then-need-traced.result c.requires.there c.requires.maps.old_long c.requires.maps.new_long in
    let is : both_maps both.groups.now n (get_or both.old.now i c.index-both-i.result) (get_or both.new.now i c.index-both-i-then-need-traced.result) ≡ joint_map_at both.groups.now traced.scanned c.args.rows (each_rows traced.tables.now) traced.need.now both.old.now both.new.now i =
    rw (at.0, at.1, eq-eqb n.table traced.scanned c.if-need-traced.true) refl in
    subst (λ (k : KeptMap). IfOk c.narrowed.result (λ made. made ≡ k)) (c.in_ok-map.ensures ∙ is) c.narrowed.ensures

pub returns-else-need-traced : goal.returns-else-need-traced
returns-else-need-traced c =
    let traced = c.args.traced.now in
    let tables = traced.tables.now in
    let n = get_or traced.need.now c.args.i no_need in
    let known : n.table < length tables = c.requires.maps.known c.args.i no_need c.requires.there in
    let size : c.len-size.result ≡ length (table_at (each_rows tables) n.table) =
    c.len-size.ensures.count ∙ ap length (sym (get_or-map (λ (r : Relation). r.rows) tables n.table c.index-traced-need.result [] known)) in
    let there : nat_eq n.table traced.scanned ≡ false = elim (cases_Bool (nat_eq n.table traced.scanned)) [ inl hit ↦ absurd (c.if-need-traced.false (eqb-true n.table traced.scanned hit)) | inr miss ↦ miss ] in
    c.empty_map.ensures ∙ rw (size, there) refl
