-- What is cut off the end of a line is one thing where it is heard and in a script, and so are the lines.
use Rattle.std.proofs.{Common.{◌≡◌, ◌&&◌, ◌-◌, ℕ, List, [], ◌∷◌, ◌++◌, length, take, get_or, nat_lt, Bool, true, false, cond, eqb, eqb-true, eq-eqb, refl, sym, ap, ◌∙◌, arith}, Math.Seq.take-length}
use borrow.Author.Tests.{lt-ltb}
use Rattle.std.specs.Io.BufRead.{strip_last}
use Rattle.smk_model.specs.Lines.{without_cr, lines_after as script_after, lines}
use Rattle.smk_outside.specs.StreamTalk.{lines_after}
use Rattle.smk_parse.proofs.Texts.{cr_kept, no_cr_kept}
use Rattle.smk_top.specs.TalkLaws.{LinesAreOne}

same_end : (bytes : List ℕ) → strip_last 13 bytes ≡ without_cr bytes
same_end [] = refl
same_end (b ∷ bs) = by (nat_lt 0 (length (b ∷ bs))) (eqb (get_or (b ∷ bs) (length (b ∷ bs) - 1) 0) 13) (lt-ltb _ _ (omega arith)) refl
  where
    by : (some cr : Bool) → some ≡ true → eqb (get_or (b ∷ bs) (length (b ∷ bs) - 1) 0) 13 ≡ cr → cond (some && cr) (take (length (b ∷ bs) - 1) (b ∷ bs)) (b ∷ bs) ≡ without_cr (b ∷ bs)
    by true true h e = cr_kept (b ∷ bs) (omega arith) (eqb-true _ _ e)
    by true false h e = sym (take-length (b ∷ bs)) ∙ no_cr_kept (b ∷ bs) (omega arith) (λ same. let hit = eq-eqb _ _ same in cc)
    by false cr h e = absurd (let wrong = h in cc)

same_after : (passed bytes : List ℕ) → lines_after passed bytes ≡ script_after passed bytes
same_after [] [] = refl
same_after (p ∷ ps) [] = ap (λ l. l ∷ []) (same_end (p ∷ ps))
same_after passed (b ∷ bs) = by (eqb b 10) (same_after [] bs) (same_after (passed ++ b ∷ []) bs)
  where
    by : (e : Bool) → lines_after [] bs ≡ lines bs → lines_after (passed ++ b ∷ []) bs ≡ script_after (passed ++ b ∷ []) bs
        → cond e (strip_last 13 passed ∷ lines_after [] bs) (lines_after (passed ++ b ∷ []) bs) ≡ cond e (without_cr passed ∷ lines bs) (script_after (passed ++ b ∷ []) bs)
    by true rest more = let first = same_end passed in cc
    by false rest more = more

pub lines_are_one : LinesAreOne
lines_are_one bytes = same_after [] bytes
