use Rattle.std.proofs.{Common.arith, lemmas.Grind.common_steps}
use Rattle.smk_compose.proofs.Owns.{composed_own, own_composed}
use Rattle.smk_compose.proofs.chain.chain_maps.Goals as goal

pub returns-then-is_identity-2-clause-made : goal.returns-then-is_identity-2-clause-made
returns-then-is_identity-2-clause-made c = grind (arith, common_steps, composed_own, own_composed)

pub returns-then-is_identity-2-clause-few : goal.returns-then-is_identity-2-clause-few
returns-then-is_identity-2-clause-few c = grind (arith, common_steps, composed_own, own_composed)

pub returns-then-is_identity-clause-made : goal.returns-then-is_identity-clause-made
returns-then-is_identity-clause-made c = grind (arith, common_steps, composed_own, own_composed)

pub returns-then-is_identity-clause-few : goal.returns-then-is_identity-clause-few
returns-then-is_identity-clause-few c = grind (arith, common_steps, composed_own, own_composed)
