-- What is left to do of a list whose members are taken in turn.
use Rattle.std.specs.Prelude.{◌≡◌, ℕ, List, drop}
use Rattle.smk_model.specs.Names.{Typed, in_turn}

-- the first n members have made this
pub record Remains {A X : Type 0} (rule : A → X → Typed A) (start : A) (members : List X) (made : A) (n : ℕ) : Type 0 where
  pub rest : in_turn rule start members ≡ in_turn rule made (drop n members)
