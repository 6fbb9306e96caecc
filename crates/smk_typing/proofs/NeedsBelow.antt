-- The needs among the first tables of a book.
use Rattle.std.proofs.{Common.{◌≡◌, ◌<◌, ℕ, List, map, sym, subst, All}, lemmas.List.Elements.{All-map, All-filter}}
use Rattle.std.specs.List.{filter}
use Rattle.smk_base.specs.{Places.upto, Needs.is_needed, declared.book.need.Needed.Needed, CatalogImage.CatalogImage}
use Rattle.smk_model.specs.Workload.{needed_at}
use Rattle.smk_base.proofs.Places.{upto_below}

-- each of them names one of these tables
pub needs_below : (catalog : CatalogImage) (v t : ℕ) (need : List Needed) → need ≡ filter is_needed (map (needed_at catalog v) (upto t)) → All (λ n. n.table < t) need
needs_below catalog v t need e =
    let small : All (λ (n : Needed). n.table < t) (map (needed_at catalog v) (upto t)) = All-map (λ (n : Needed). n.table < t) (needed_at catalog v) (upto t) (upto_below t) in
    subst (λ (l : List Needed). All (λ n. n.table < t) l) (sym e) (All-filter is_needed (λ n. n.table < t) (map (needed_at catalog v) (upto t)) small)
