-- One more piece of a text.
use Rattle.std.proofs.{Common.{◌≡◌, ◌∙◌, ◌++◌, ◌∷◌, [], suc, List, ℕ, Bor, append_assoc, append-nil, sym, ap, flat_map, take, drop, false, refl, zero}, lemmas.Grind.flat_map-append}
use Rattle.csv.specs.Reading.{records, default_config}
use Rattle.smk_base.specs.Marks.{begins_with_mark}
use Rattle.smk_table.specs.Cuts.{AreLines, read_of}
use Rattle.smk_table.proofs.Lines.{cuts_lines}

pub piece_read : (parts made : List (Bor (List ℕ))) (piece : Bor (List ℕ)) (text rest more : List ℕ) (n : ℕ)
    → records default_config text ≡ flat_map read_of parts ++ records default_config rest
    → piece.now ≡ take n rest → more ≡ drop n rest → AreLines (take n rest) → made ≡ parts ++ piece ∷ []
    → records default_config text ≡ flat_map read_of made ++ records default_config more
piece_read parts made piece text rest more n h e f lines g =
    h ∙ ap (λ r. flat_map read_of parts ++ r) (cuts_lines rest n lines)
    ∙ rw (g, flat_map-append read_of parts (piece ∷ []), e, f, append-nil (records default_config (take n rest))) (sym (append_assoc (flat_map read_of parts) (records default_config (take n rest)) (records default_config (drop n rest))))

pub unmarked_take : (n : ℕ) (rest : List ℕ) → begins_with_mark rest ≡ false → begins_with_mark (take n rest) ≡ false
unmarked_take zero rest h = refl
unmarked_take (suc n) [] h = refl
unmarked_take (suc zero) (a ∷ rest) h = refl
unmarked_take (suc (suc n)) (a ∷ []) h = refl
unmarked_take (suc (suc zero)) (a ∷ b ∷ rest) h = refl
unmarked_take (suc (suc (suc n))) (a ∷ b ∷ []) h = refl
unmarked_take (suc (suc (suc n))) (a ∷ b ∷ c ∷ rest) h = h
