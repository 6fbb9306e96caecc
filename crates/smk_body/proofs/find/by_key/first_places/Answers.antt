use Rattle.std.proofs.{Common.{◌≡◌, ap, length, map, subst, arith, take}, lemmas.List.take_all}
use Rattle.smk_model.specs.Plain.{key_of}
use Rattle.smk_keys.specs.Joined.{numbers_from}
use Rattle.smk_body.specs.Renumbered.{StandFor}
use Rattle.smk_jobs.proofs.Cutting.{cut_end}
use Rattle.smk_body.proofs.Renumbering.{next_keys, next_numbers, places_fit}
use Rattle.smk_body.proofs.find.by_key.first_places.Goals as goal

pub push_moved-requires : goal.push_moved-requires
push_moved-requires c =
    rw (c.firsts.ensures, c.cut_place-from.ensures, c.len-rows.ensures.count)
    (places_fit c.args.keys.now c.args.rel.now.rows c.args.workers c.loop-p.p c.args.parts.now c.index-parts-p.result c.loop-p-test.true c.requires.parts c.index-parts-p.is 4294967296 (omega (arith, c.len-rows.ensures.keeps.few_rows)))

pub loop-p-preserved : goal.loop-p-preserved
loop-p-preserved c =
    rw (c.in_ok-push_moved.ensures, c.firsts.ensures, c.cut_place-from.ensures, c.len-rows.ensures.count) (
      next_keys c.args.keys.now c.args.rel.now.rows c.args.workers c.loop-p.p c.args.parts.now c.index-parts-p.result c.loop-p-test.true c.requires.parts c.index-parts-p.is c.loop-p.places.items c.loop-p.invariant.0,
      next_numbers c.args.keys.now c.args.rel.now.rows c.args.workers c.loop-p.p c.args.parts.now c.index-parts-p.result c.loop-p-test.true c.requires.parts c.index-parts-p.is c.loop-p.places.items c.loop-p.invariant.0 c.loop-p.invariant.1,
    )

pub returns-clause-numbers : goal.returns-clause-numbers
returns-clause-numbers c =
    let rows = c.args.rel.now.rows in
    let keys = map (key_of c.args.keys.now) rows in
    let places = c.loop-p.places.items in
    let all : c.loop-p.p ≡ c.args.workers = omega (arith, c.loop-p.auto.p-end, c.loop-p-test.false) in
    let whole : take c.loop-p.p c.args.parts.now ≡ c.args.parts.now = take_all c.loop-p.p c.args.parts.now (omega (arith, all, c.requires.parts.0)) in
    subst (StandFor keys (length rows) places) (ap (numbers_from 0) whole)
    (subst (λ n. StandFor keys n places (numbers_from 0 (take c.loop-p.p c.args.parts.now))) (cut_end c.args.workers (length rows) c.loop-p.p c.requires.some all) c.loop-p.invariant.1)
