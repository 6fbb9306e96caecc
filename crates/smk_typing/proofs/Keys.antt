-- Declarations by their keys.
use Rattle.std.proofs.Common.{◌≡◌, ◌∙◌, ℕ, Bool, ◌&&◌, nat_eq, false, Ok, List, [], ◌∷◌, ◌++◌, map, refl, sym, ap}
use Rattle.std.specs.List.{list_any}
use Rattle.smk_base.specs.{declared.book.catalog.ViewInfo.ViewInfo, declared.book.catalog.Back.Back, declared.book.catalog.BackExtra.BackExtra, declared.book.catalog.BackExtra.TheVariants.{Plain, By, Grouped}, declared.book.catalog.Fwd.Fwd, declared.book.catalog.LinkInfo.LinkInfo, declared.book.tree.Word.Word, declared.book.type_fault.TypeFault.TheVariants.RepeatedDeclaration, CatalogImage.view_image}
use Rattle.smk_model.specs.{Names.unless, Typing.{Link, same_form, same_back, same_fwd, same_link, all_links, linked_to, view_by_word, to_after}}
use Rattle.smk_typing.specs.{declared.draft.form.Form.Form, contracts.draft.form.FormPartialEq.TheImpl.ghosts, Drafts.over, Keys.{form_of, back_key, fwd_key, link_key}}

-- tables and views

-- the names of views are those of their images
pub view_names : (views : List ViewInfo) → map (λ view. view.name) (map view_image views) ≡ map (λ view. view.name) views
view_names [] = refl
view_names (view ∷ views) = ap (λ names. view.name ∷ names) (view_names views)

-- declared queries

-- a test of the keys that says of each key what another says of its declaration
any_key : {X Y : Type 0} (p : Y → Bool) (q : X → Bool) (f : X → Y) → ((x : X) → p (f x) ≡ q x) → (xs : List X) → list_any p (map f xs) ≡ list_any q xs
any_key p q f same [] = refl
any_key p q f same (x ∷ xs) = rw (same x, any_key p q f same xs) refl

form_same : (a b : BackExtra) → ghosts.eq (form_of a) (form_of b) ≡ same_form a b
form_same Plain Plain = refl
form_same Plain (By b) = refl
form_same Plain (Grouped e f g h) = refl
form_same (By a) Plain = refl
form_same (By a) (By b) = refl
form_same (By a) (Grouped e f g h) = refl
form_same (Grouped a b c d) Plain = refl
form_same (Grouped a b c d) (By e) = refl
form_same (Grouped a b c d) (Grouped e f g h) = refl

pub any_back : (back : Back) (form : Form) (backs : List Back) → form ≡ form_of back.extra → list_any (λ key. nat_eq back.view key.0 && nat_eq back.table key.1 && ghosts.eq form key.2) (map back_key backs) ≡ list_any (same_back back) backs
any_back back form backs e = rw e (any_key _ (same_back back) back_key (λ each. ap (λ same. nat_eq back.view each.view && nat_eq back.table each.table && same) (form_same back.extra each.extra)) backs)

pub any_fwd : (fwd : Fwd) (fwds : List Fwd) → list_any (λ key. nat_eq fwd.table key.0 && nat_eq fwd.view key.1) (map fwd_key fwds) ≡ list_any (same_fwd fwd) fwds
any_fwd fwd fwds = any_key _ (same_fwd fwd) fwd_key (λ each. refl) fwds

any_link : (view table to : ℕ) (all : List Link) → list_any (λ key. nat_eq view key.0 && nat_eq table key.1 && nat_eq to key.2) (map link_key all) ≡ list_any (same_link (record { view = view; table = table; to = to })) all
any_link view table to all = any_key _ (same_link (record { view = view; table = table; to = to })) link_key (λ each. refl) all

-- links

-- what one more linked view gives, where it is declared and isn't the first view, by the keys of the links
pub to_after_is : (views : List ViewInfo) (links : List LinkInfo) (keys : List (ℕ × ℕ × ℕ)) (view table : ℕ) (to : List ℕ) (word : Word) (w : ℕ) (repeated : Bool) → view_by_word (map view_image views) word ≡ Ok w → nat_eq w view ≡ false
    → keys ≡ map link_key (all_links links ++ linked_to view table to) → list_any (λ key. nat_eq view key.0 && nat_eq table key.1 && nat_eq w key.2) keys ≡ repeated
    → to_after (over views links) view table to word ≡ unless repeated (RepeatedDeclaration word.at) (Ok (to ++ w ∷ []))
to_after_is views links keys view table to word w repeated found other linked test =
    rw (found, other, sym (any_link view table w (all_links links ++ linked_to view table to)) ∙ rw linked at test) refl
