use Rattle.std.proofs.Common.{◌≡◌, ℕ, List, Option, None, IsTrue, true, false, nat_eq, sym, ap, ◌∙◌, subst}
use Rattle.std.specs.{List.find, Option.{option_map, is_some}}
use Rattle.smk_outside.specs.MemTalk.{StoredTalk, fails_to_say}
use Rattle.smk_outside.proofs.talk.mem_talk.MemTalkTalk.say.Goals as goal

-- where no failure is found for a call, none is planned
not_planned : (call : ℕ) (found planned : List (ℕ × ℕ)) → found ≡ planned
    → None ≡ option_map (λ (fail : ℕ × ℕ). fail.1) (find (λ (fail : ℕ × ℕ). nat_eq fail.0 call) found)
    → IsTrue (is_some (option_map (λ (fail : ℕ × ℕ). fail.1) (find (λ (fail : ℕ × ℕ). nat_eq fail.0 call) planned))) → false ≡ true
not_planned call found planned same none some =
    let P : Option ℕ → Type 0 = λ o. IsTrue (is_some o) in
    subst P (sym (none ∙ ap (λ fails. option_map (λ (fail : ℕ × ℕ). fail.1) (find (λ (fail : ℕ × ℕ). nat_eq fail.0 call) fails)) same)) some

pub returns-in-Ok-clause-planned : goal.returns-in-Ok-clause-planned
returns-in-Ok-clause-planned c = λ some. not_planned c.self.inside.says _ _ c.deref.ensures.value c.in-None.ensures (let P : StoredTalk → Type 0 = λ s. IsTrue (fails_to_say s) in subst P (sym c.self.view_is) some)
