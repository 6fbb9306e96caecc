-- How many rows each mark of the view of a dependency came from.
use Rattle.std.specs.Prelude.{Some}
use Rattle.std.proofs.{Common.{◌≡◌, ◌∙◌, ℕ, ◌+◌, ◌<◌, List, [], ◌∷◌, ◌++◌, length, map, take, get_or, ap, ap₂, sym, arith, decimal, codes}, lemmas.List.{length-map, get_or-map, take_more}}
use Rattle.smk_base.specs.{CatalogImage.{CatalogImage, view_place}, Rels.Relation, declared.reply.Reply.Reply, declared.reply.Reply.TheVariants.Back}
use Rattle.smk_model.specs.{Lineage.row_at, Profiles.{ShowsDependency, shown_by}, Replies.reply, Session.{State, rows_of_table}, Texts.line}
use Rattle.smk_profile.specs.Briefs.{size_of}
use Rattle.smk_profile.proofs.Marked.{group_at, line_of, reply_is, wanted, wanted_at}

-- the number of a mark, and the numbers up to it
abbrev pub sizes : CatalogImage → State → ℕ → List ℕ
sizes catalog state v = map size_of (wanted catalog state v)

size_at : (catalog : CatalogImage) (state : State) (v mark : ℕ) → mark < length (wanted catalog state v) → get_or (sizes catalog state v) mark 0 ≡ length (group_at catalog state v mark).rids
size_at catalog state v mark low =
    let group = group_at catalog state v mark in
    get_or-map size_of (wanted catalog state v) mark group 0 low ∙ ap size_of (wanted_at catalog state v mark low) ∙ length-map group.rids (row_at (rows_of_table state (shown_by catalog v).table))

pub sizes_more : (catalog : CatalogImage) (state : State) (view : List ℕ) (v mark count : ℕ) (counts : List ℕ) → view_place catalog view ≡ Some v → ShowsDependency catalog v → mark < length (wanted catalog state v)
    → counts ≡ take mark (sizes catalog state v) → ((rids : List ℕ) (rows : Relation) → (reply catalog state (line_of catalog view v mark)).0 ≡ Back rids rows → count ≡ length rids)
    → counts ++ count ∷ [] ≡ take (mark + 1) (sizes catalog state v)
sizes_more catalog state view v mark count counts placed shows low are is =
    let group = group_at catalog state v mark in
    let told = is group.rids group.rows (ap (λ (p : Reply × State). p.0) (reply_is catalog state view v mark placed shows low)) in
    let there : mark < length (sizes catalog state v) = omega (arith, low, length-map (wanted catalog state v) size_of) in
    ap₂ (λ (xs : List ℕ) (n : ℕ). xs ++ n ∷ []) are (told ∙ sym (size_at catalog state v mark low)) ∙ sym (take_more (sizes catalog state v) mark 0 there)

-- the line of a mark in the text of these numbers
abbrev pub mark_line : ℕ → ℕ → List ℕ
mark_line mark count = line (codes "mark " ∷ decimal mark ∷ codes " " ∷ decimal count ∷ [])
