-- Values with fresh ones in their places.
use Rattle.std.proofs.{Common.{◌≡◌, ℕ, ◌<◌, Bool, true, false, nat_eq, List, [], ◌∷◌, ◌++◌, length, map, set, refl, ap, sym, ◌∙◌, arith, Option, Some, None, option_map, is_some}, lemmas.Bool.{false≢true, or_parts}, lemmas.List.length-set}
use Rattle.std.specs.List.{cons_option, filter_map}
use Rattle.smk_base.specs.{Places.{Lists, upto}, Rels.Relation, declared.book.catalog.Back.Back, declared.book.catalog.BackExtra.BackExtra, CatalogImage.CatalogImage}
use Rattle.smk_base.specs.declared.book.catalog.BackExtra.TheVariants as extras
use Rattle.smk_model.specs.{Appends.{depends_on, scans}, Catalogs.table_kinds, Typing.info_at, Session.{Workbook, view_at}, Values.Row}
use Rattle.smk_model.proofs.Unscanned.{unscanned_stays}
use Rattle.smk_push.specs.Cubes.{cubes_of}
use Rattle.smk_skip.specs.Splits.{SplitImage}
use Rattle.smk_session.specs.{Extras.{backs_of, table_of, split_in, cubes_in, split_for, cubes_for}, Opened.opened, Making.newer}
use Rattle.smk_grow.specs.Renewed.{replaced, put_at, fresh_view, kept_view, fresh_split, fresh_cubes, if_depends}
use Rattle.smk_grow.proofs.{Grown.rel_of, Renewed.{SameBut, book_over, newer_is}}

-- the last fresh value is put first

pub replaced_last : {X : Type 0} (fresh : List (Option X)) (last : Option X) (olds : List X) → length fresh < length olds → replaced (fresh ++ last ∷ []) olds ≡ replaced fresh (put_at olds (length fresh) last)
replaced_last [] last [] low = absurd (omega arith)
replaced_last [] (Some x) (old ∷ olds) low = refl
replaced_last [] None (old ∷ olds) low = refl
replaced_last (one ∷ more) last [] low = absurd (omega arith)
replaced_last (one ∷ more) (Some x) (old ∷ olds) low = ap (λ l. newer one old ∷ l) (replaced_last more (Some x) olds (omega arith))
replaced_last (one ∷ more) None (old ∷ olds) low = ap (λ l. newer one old ∷ l) (replaced_last more None olds (omega arith))

long_set : {X : Type 0} (olds : List X) (i : ℕ) (x : X) → length (set olds i x) ≡ length olds
long_set olds i x = simp length-set

pub long_put : {X : Type 0} (olds : List X) (i : ℕ) (one : Option X) → length (put_at olds i one) ≡ length olds
long_put olds i None = refl
long_put olds i (Some x) = long_set olds i x

replaced_map : {I X : Type 0} (fresh : I → Option X) (old new : I → X) → ((i : I) → newer (fresh i) (old i) ≡ new i) → (is : List I) → replaced (map fresh is) (map old is) ≡ map new is
replaced_map fresh old new each [] = refl
replaced_map fresh old new each (i ∷ is) = rw (each i, replaced_map fresh old new each is) refl

pub replaced_views : (t : ℕ) (before book : Workbook) (n : ℕ) → replaced (map (fresh_view t book) (upto n)) (map (kept_view t before book) (upto n)) ≡ map (opened book) (upto n)
replaced_views t before book n = replaced_map (fresh_view t book) (kept_view t before book) (opened book) (newer_is t before book) (upto n)

-- what declarations ask for

replaced_one : {Y : Type 0} (depends : Bool) (old new : Option Y) (fs : List (Option Y)) (os ns : List Y) → is_some old ≡ is_some new → (depends ≡ false → old ≡ new) → replaced fs os ≡ ns
    → replaced (cons_option (option_map (if_depends depends) new) fs) (cons_option old os) ≡ cons_option new ns
replaced_one depends None None fs os ns shape same rest = rest
replaced_one depends (Some a) None fs os ns shape same rest = absurd (false≢true (sym shape))
replaced_one depends None (Some b) fs os ns shape same rest = absurd (false≢true shape)
replaced_one true (Some a) (Some b) fs os ns shape same rest = ap (λ l. b ∷ l) rest
replaced_one false (Some a) (Some b) fs os ns shape same rest =
    let is : Some a ≡ Some b = same refl in
    let here : a ≡ b = cc in
    rw (here, rest) refl

long_one : {Y : Type 0} (depends : Bool) (old new : Option Y) (fs : List (Option Y)) (os : List Y) → is_some old ≡ is_some new → length fs ≡ length os
    → length (cons_option (option_map (if_depends depends) new) fs) ≡ length (cons_option old os)
long_one depends None None fs os shape rest = rest
long_one depends (Some a) None fs os shape rest = absurd (false≢true (sym shape))
long_one depends None (Some b) fs os shape rest = absurd (false≢true shape)
long_one depends (Some a) (Some b) fs os shape rest = omega (arith, rest)

abbrev pub SameShape : {Y : Type 0} → (Back → Option Y) → (Back → Option Y) → Type 0
SameShape old new = (declared : Back) → is_some (old declared) ≡ is_some (new declared)

abbrev fresh_in : {Y : Type 0} → (Back → Bool) → (Back → Option Y) → Back → Option (Option Y)
fresh_in depends new declared = option_map (if_depends (depends declared)) (new declared)

replaced_kept : {Y : Type 0} (depends : Back → Bool) (old new : Back → Option Y) → SameShape old new → ((declared : Back) → depends declared ≡ false → old declared ≡ new declared) → (backs : List Back)
    → replaced (filter_map (fresh_in depends new) backs) (filter_map old backs) ≡ filter_map new backs
replaced_kept depends old new shape same [] = refl
replaced_kept depends old new shape same (declared ∷ more) =
    replaced_one (depends declared) (old declared) (new declared) (filter_map (fresh_in depends new) more) (filter_map old more) (filter_map new more) (shape declared) (same declared) (replaced_kept depends old new shape same more)

long_kept : {Y : Type 0} (depends : Back → Bool) (old new : Back → Option Y) → SameShape old new → (backs : List Back) → length (filter_map (fresh_in depends new) backs) ≡ length (filter_map old backs)
long_kept depends old new shape [] = refl
long_kept depends old new shape (declared ∷ more) =
    long_one (depends declared) (old declared) (new declared) (filter_map (fresh_in depends new) more) (filter_map old more) (shape declared) (long_kept depends old new shape more)

shape_of_split : (O N : Workbook) (v t : ℕ) (extra : BackExtra) → is_some (split_for O v t extra) ≡ is_some (split_for N v t extra)
shape_of_split O N v t extras.Plain = refl
shape_of_split O N v t _ = refl

split_shape : (O N : Workbook) → SameShape (split_in O) (split_in N)
split_shape O N declared = shape_of_split O N declared.view declared.table declared.extra

shape_of_cubes : (O N : Workbook) (v t : ℕ) (extra : BackExtra) → is_some (cubes_for O v t extra) ≡ is_some (cubes_for N v t extra)
shape_of_cubes O N v t extras.Plain = refl
shape_of_cubes O N v t _ = refl

cubes_shape : (O N : Workbook) → SameShape (cubes_in O) (cubes_in N)
cubes_shape O N declared = shape_of_cubes O N declared.view declared.table declared.extra

-- over a longer table: a declaration that doesn't depend on it asks for the same

same_backs : (catalog : CatalogImage) (t v u : ℕ) (A B : List (List Row)) → SameBut t A B → scans catalog t v ≡ false → nat_eq u t ≡ false → backs_of (book_over catalog A) v u ≡ backs_of (book_over catalog B) v u
same_backs catalog t v u A B same none ne =
    let plan = (view_at catalog v).plan in
    unscanned_stays.backs plan A B u (unscanned_stays.other plan t A B none same) (ap (length {A = Row}) (same u ne))

same_table : (catalog : CatalogImage) (t u : ℕ) (A B : List (List Row)) → SameBut t A B → nat_eq u t ≡ false → table_of (book_over catalog A) u ≡ table_of (book_over catalog B) u
same_table catalog t u A B same ne = ap (λ (rows : List Row). rel_of (table_kinds (info_at catalog.tables u)) rows) (same u ne)

abbrev split_of : Lists → Relation → ℕ → SplitImage
split_of map table column = record { map = map; rows = table.rows; col = column }

same_split : (catalog : CatalogImage) (t v u : ℕ) (extra : BackExtra) (A B : List (List Row)) → SameBut t A B → scans catalog t v ≡ false → nat_eq u t ≡ false
    → split_for (book_over catalog A) v u extra ≡ split_for (book_over catalog B) v u extra
same_split catalog t v u (extras.By column) A B same none ne =
    ap (λ (map : Lists). Some (split_of map (table_of (book_over catalog A) u) column)) (same_backs catalog t v u A B same none ne)
    ∙ ap (λ (r : Relation). Some (split_of (backs_of (book_over catalog B) v u) r column)) (same_table catalog t u A B same ne)
same_split catalog t v u _ A B same none ne = refl

same_cubes : (catalog : CatalogImage) (t v u : ℕ) (extra : BackExtra) (A B : List (List Row)) → SameBut t A B → scans catalog t v ≡ false → nat_eq u t ≡ false
    → cubes_for (book_over catalog A) v u extra ≡ cubes_for (book_over catalog B) v u extra
same_cubes catalog t v u (extras.Grouped keys aggs names kinds) A B same none ne =
    ap (λ (map : Lists). Some (cubes_of map (table_of (book_over catalog A) u) keys aggs)) (same_backs catalog t v u A B same none ne)
    ∙ ap (λ (r : Relation). Some (cubes_of (backs_of (book_over catalog B) v u) r keys aggs)) (same_table catalog t u A B same ne)
same_cubes catalog t v u _ A B same none ne = refl

pub replaced_splits : (catalog : CatalogImage) (t : ℕ) (A B : List (List Row)) (backs : List Back) → SameBut t A B
    → replaced (filter_map (fresh_split t (book_over catalog B)) backs) (filter_map (split_in (book_over catalog A)) backs) ≡ filter_map (split_in (book_over catalog B)) backs
replaced_splits catalog t A B backs same =
    replaced_kept (depends_on catalog t) (split_in (book_over catalog A)) (split_in (book_over catalog B)) (split_shape (book_over catalog A) (book_over catalog B))
    (λ d out. let h = or_parts (scans catalog t d.view) (nat_eq d.table t) out in same_split catalog t d.view d.table d.extra A B same h.0 h.1) backs

pub replaced_cubes : (catalog : CatalogImage) (t : ℕ) (A B : List (List Row)) (backs : List Back) → SameBut t A B
    → replaced (filter_map (fresh_cubes t (book_over catalog B)) backs) (filter_map (cubes_in (book_over catalog A)) backs) ≡ filter_map (cubes_in (book_over catalog B)) backs
replaced_cubes catalog t A B backs same =
    replaced_kept (depends_on catalog t) (cubes_in (book_over catalog A)) (cubes_in (book_over catalog B)) (cubes_shape (book_over catalog A) (book_over catalog B))
    (λ d out. let h = or_parts (scans catalog t d.view) (nat_eq d.table t) out in same_cubes catalog t d.view d.table d.extra A B same h.0 h.1) backs

pub long_splits : (catalog : CatalogImage) (t : ℕ) (A B : List (List Row)) (backs : List Back)
    → length (filter_map (fresh_split t (book_over catalog B)) backs) ≡ length (filter_map (split_in (book_over catalog A)) backs)
long_splits catalog t A B backs = long_kept (depends_on catalog t) (split_in (book_over catalog A)) (split_in (book_over catalog B)) (split_shape (book_over catalog A) (book_over catalog B)) backs

pub long_cubes : (catalog : CatalogImage) (t : ℕ) (A B : List (List Row)) (backs : List Back)
    → length (filter_map (fresh_cubes t (book_over catalog B)) backs) ≡ length (filter_map (cubes_in (book_over catalog A)) backs)
long_cubes catalog t A B backs = long_kept (depends_on catalog t) (cubes_in (book_over catalog A)) (cubes_in (book_over catalog B)) (cubes_shape (book_over catalog A) (book_over catalog B)) backs
