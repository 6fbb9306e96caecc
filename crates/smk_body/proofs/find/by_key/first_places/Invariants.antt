use Rattle.std.proofs.Common.{◌≡◌, length, map, take}
use Rattle.smk_model.specs.Plain.{key_of}
use Rattle.smk_jobs.specs.Cuts.{cut_at}
use Rattle.smk_keys.specs.Joined.{key_total, numbers_from}
use Rattle.smk_body.specs.Renumbered.{StandFor}
use Rattle.smk_body.proofs.find.by_key.first_places.Given as goal

-- the parts so far are numbered up to where the next one begins
abbrev pub invariant-loop-p : goal.invariant-loop-p
invariant-loop-p l =
    (length l.places.items ≡ key_total (take l.p l.parts))
    × StandFor (map (key_of l.keys) l.rel.rows) (cut_at l.workers (length l.rel.rows) l.p) l.places.items (numbers_from 0 (take l.p l.parts))
