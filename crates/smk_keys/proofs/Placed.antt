-- What callers take from the classes of keys.
use Rattle.std.proofs.{Common.{◌≡◌, ℕ, ◌<◌, pos, List, [], ◌∷◌, length, map, get_or, nat_eq, refl, ap, sym, ◌∙◌}, lemmas.List.{get_or-map, length-map}}
use Rattle.std.specs.Cmp.{unsigned_Decides}
use Rattle.smk_base.specs.{declared.value.Value.Value, declared.value.Value.TheVariants.Int, Rels.row_in}
use Rattle.smk_keys.specs.{Classes.{first_items, classing_of, classes_of}, Keys.key_eq}
use Rattle.smk_keys.proofs.{Firsts.{AreClasses, AreClasses-alike, first_items-classes}, Classing.{AreClasses-classing, classing-classes}, Rowed.key_same}

-- equal keys have one class and no others, counted in the order in which they come, and each class has the place where it comes first
pub AreClasses-keys : (keys : List (List Value)) → AreClasses [] keys (classes_of keys).of (classes_of keys).firsts
AreClasses-keys keys = AreClasses-classing key_eq key_same [] keys

-- the keys at the first places are the keys at their first occurrences
pub keys-firsts : (keys : List (List Value)) → map (row_in keys) (classes_of keys).firsts ≡ first_items key_eq keys
keys-firsts keys = first_items-classes key_eq key_same [] keys (classes_of keys).of (classes_of keys).firsts (AreClasses-keys keys)

-- numbers have the classes of the keys that are each one of them alone
pub classes-numbers_alone : (numbers : List ℕ) → classing_of nat_eq numbers ≡ classes_of (map (λ number. Int (pos number) ∷ []) numbers)
classes-numbers_alone numbers =
    let alone = λ (number : ℕ). Int (pos number) ∷ [] in
    let keys = map alone numbers in
    let these = classing_of nat_eq numbers in
    let at : (i : ℕ) → i < length numbers → row_in keys i ≡ alone (get_or numbers i 0) = (λ i h. get_or-map alone numbers i 0 [] h) in
    classing-classes key_eq key_same [] keys these.of these.firsts
    (AreClasses-alike 0 [] numbers keys these.of these.firsts (length-map numbers alone)
    (λ i j p q e. at i p ∙ ap alone e ∙ sym (at j q))
    (λ i j p q e. (let same : alone (get_or numbers i 0) ≡ alone (get_or numbers j 0) = sym (at i p) ∙ e ∙ at j q in cc))
    (AreClasses-classing nat_eq unsigned_Decides 0 numbers))
    these refl refl
