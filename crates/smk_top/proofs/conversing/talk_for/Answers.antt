use Rattle.std.proofs.Common.{map, Bor, ℕ, List, refl, sym}
use Rattle.smk_outside.specs.Outside.{Rose}
use Rattle.smk_top.proofs.TalkEndings.{unusable_words}
use Rattle.smk_top.proofs.conversing.talk_for.Goals as goal

pub returns-in-None-clause-works : goal.returns-in-None-clause-works
returns-in-None-clause-works g c =
    let none = rw c.in-None.is at c.in_ok-found.ensures in
    unusable_words (map (λ (w : Bor (List ℕ)). w.now) c.args.words.now) (g.F.Files.held c.args.files.now) (g.F.Files.faults c.args.files.now) (g.F.Files.faults c.args.files.now) (Rose (g.T.Talk.faults c.args.talk.now) (g.T.Talk.faults c.args.talk.now)) (g.T.Talk.told c.args.talk.now) (g.T.Talk.told c.args.talk.now) _ _ (sym none) refl refl
