use Rattle.std.proofs.{Common.{◌≡◌, ◌∙◌, ◌<◌, List, ℕ, All, length, map, get_or, ap, sym, subst}, lemmas.List.length-map}
use Rattle.smk_base.specs.Rels.{Relation, row_in}
use Rattle.smk_keys.specs.{Classes.{ClassesImage, classes_of}, Joined.numbers_from}
use Rattle.smk_model.specs.Plain.{key_of}
use Rattle.smk_body.specs.Renumbered.{StandFor}
use Rattle.smk_body.proofs.Renumbering.{classes_long, first_classes, firsts_within, stand_classes, stand_numbers}
use Rattle.smk_body.proofs.find.by_key.all_classes.Goals as goal

pub joined-requires-clause-within : goal.joined-requires-clause-within
joined-requires-clause-within g c =
    let keys = map (key_of c.args.keys.now) c.args.rel.now.rows in
    let places = c.in_ok-places.places.items in
    let numbers = numbers_from 0 c.args.parts.now in
    let made : c.in_ok-classes.classes ≡ classes_of (map (row_in keys) places) = first_classes keys places _ c.in_ok-picked.picked c.in_ok-first_keys.first_keys c.in_ok-classes.classes (ap (λ (r : Relation). r.rows) c.in_ok-picked.ensures) c.as_slice.ensures.value (ap (λ (r : Relation). r.rows) c.in_ok-first_keys.ensures) c.in_ok-classes.ensures in
    subst (λ n. All (λ number. number < n) numbers) (sym (classes_long keys places c.in_ok-classes.classes made)) (stand_numbers keys (length c.args.rel.now.rows) places numbers c.in_ok-places.ensures.numbers)

pub joined-requires-clause-firsts : goal.joined-requires-clause-firsts
joined-requires-clause-firsts g c =
    let keys = map (key_of c.args.keys.now) c.args.rel.now.rows in
    let places = c.in_ok-places.places.items in
    let made : c.in_ok-classes.classes ≡ classes_of (map (row_in keys) places) = first_classes keys places _ c.in_ok-picked.picked c.in_ok-first_keys.first_keys c.in_ok-classes.classes (ap (λ (r : Relation). r.rows) c.in_ok-picked.ensures) c.as_slice.ensures.value (ap (λ (r : Relation). r.rows) c.in_ok-first_keys.ensures) c.in_ok-classes.ensures in
    rw c.as_slice-2.ensures.value (firsts_within keys places c.in_ok-classes.classes made)

pub returns : goal.returns
returns g c =
    let rows = c.args.rel.now.rows in
    let keys = map (key_of c.args.keys.now) rows in
    let places = c.in_ok-places.places.items in
    let numbers = numbers_from 0 c.args.parts.now in
    let made : c.in_ok-classes.classes ≡ classes_of (map (row_in keys) places) = first_classes keys places _ c.in_ok-picked.picked c.in_ok-first_keys.first_keys c.in_ok-classes.classes (ap (λ (r : Relation). r.rows) c.in_ok-picked.ensures) c.as_slice.ensures.value (ap (λ (r : Relation). r.rows) c.in_ok-first_keys.ensures) c.in_ok-classes.ensures in
    let so : StandFor keys (length keys) places numbers = subst (λ n. StandFor keys n places numbers) (sym (length-map rows (key_of c.args.keys.now))) c.in_ok-places.ensures.numbers in
    stand_classes keys places numbers so c.in_ok-all.all
    (ap (λ (m : ClassesImage). m.of) c.in_ok-all.ensures ∙ ap (λ (m : ClassesImage). map (λ k. get_or m.of k 0) numbers) made)
    (ap (λ (m : ClassesImage). m.firsts) c.in_ok-all.ensures ∙ ap (λ (at : List ℕ). map (λ k. get_or at k 0) c.in_ok-classes.classes.firsts) c.as_slice-2.ensures.value ∙ ap (λ (m : ClassesImage). map (λ k. get_or places k 0) m.firsts) made)
