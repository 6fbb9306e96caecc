use Rattle.std.proofs.{Common.{◌≡◌, ℕ, ◌<◌, ◌+◌, ◌∙◌, ◌++◌, ◌∷◌, [], length, ap, sym, arith}, lemmas.List.length_push, lemmas.Grind.common_steps}
use Rattle.smk_grow.specs.Renewed.{put_at, replaced}
use Rattle.smk_grow.proofs.Replaced.{long_put, replaced_last}
use Rattle.smk_grow.proofs.replacing.replace.Goals as goal

pub loop-one-preserved : goal.loop-one-preserved
loop-one-preserved g c =
    let before = c.loop-one.olds in
    let left = c.pop.new.self.items in
    let one = c.in-Some.one in
    let all : c.loop-one.rest.items ≡ left ++ one ∷ [] = c.in-Some.ensures.items in
    let long : length c.loop-one.rest.items ≡ length left + 1 = ap length all ∙ length_push left one in
    let few : length left < length before = omega (arith, c.loop-one.invariant.few, long) in
    let here : c.len-place.result ≡ length left = grind (arith, common_steps) in
    record {
      left =
          ap (replaced left) (c.put.ensures ∙ ap (λ (n : ℕ). put_at before n one) here)
          ∙ sym (replaced_last left one before few)
          ∙ ap (λ l. replaced l before) (sym all)
          ∙ c.loop-one.invariant.left;
      few = omega (arith, few, ap length c.put.ensures, long_put before c.len-place.result one);
    }
