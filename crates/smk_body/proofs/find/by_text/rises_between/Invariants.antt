use Rattle.std.proofs.Common.{◌≡◌, ℕ, ◌<◌, ◌≤◌, ◌+◌, ◌-◌, length, get_or}
use Rattle.smk_body.specs.Rises.{AreRises}
use Rattle.smk_body.proofs.find.by_text.rises_between.Given as goal

-- the rises up to this place, and one more than the greatest code so far
abbrev pub invariant-loop-place : goal.invariant-loop-place
invariant-loop-place l =
    AreRises l.codes l.from l.place l.rises.items
    × (length l.rises.items ≡ 0 → l.place ≡ l.from)
    × (length l.rises.items ≡ 0 → l.next ≡ 0)
    × ((i : ℕ) → l.from ≤ i → i < l.place → get_or l.codes i 0 < l.next)
    × (0 < length l.rises.items → l.next ≡ get_or l.codes (get_or l.rises.items (length l.rises.items - 1) 0) 0 + 1)
