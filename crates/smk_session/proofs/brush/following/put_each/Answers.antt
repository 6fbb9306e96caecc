use Rattle.std.proofs.{Common.{◌∙◌, ◌++◌, ◌∷◌, [], Ok, map, sym, ap, arith}, Crossing.crosses, lemmas.Iterator.Adapters.YieldsList-from_vec, lemmas.Iterator.Consumers.YieldsList-end, lemmas.List.map-id, lemmas.Result.err_from_is_err_and}
use mir.Syntax.{Sym}
use denote.Builtin.{u32}
use denote.Exit.{no}
use denote.RattleType.{RattleType}
use denote.Ref.{NamedLft}
use denote.Param.Send.{AllSync, IsSend, IsSync, arg_sync, param_sync, recorded_sync, sendable, shr_sync, struct_sync}
use denote.Struct.Declared.{shape}
use denote.Struct.Tuple.{TupleAt, type_at}
use Rattle.smk_base.proofs.book.plan.Plan.TheLaws.TheKnot
use Rattle.smk_base.proofs.book.plan.Pred.TheLaws.TheKnot as TheKnot'
use Rattle.smk_base.specs.contracts.book.catalog.Catalog as catalog
use Rattle.smk_base.specs.contracts.rel.dict.Dict as dict
use Rattle.smk_base.specs.contracts.rel.Rel as rel
use Rattle.smk_base.specs.declared.reply.Linked.{Linked}
use Rattle.smk_rid.specs.contracts.map.RidMap as map_of
use Rattle.smk_skip.specs.contracts.split.Split as split
use Rattle.smk_table.specs.contracts.chosen.Chosen as chosen
use Rattle.smk_table.specs.contracts.table.Table as table
use Rattle.smk_jobs.specs.contracts.crew.Work as work
use Rattle.smk_compose.specs.contracts.kept_maps.Run as run
use Rattle.smk_marks.specs.contracts.reached.Reached as reached
use Rattle.smk_push.specs.contracts.cubes.Cubes as cubes
use Rattle.smk_session.specs.contracts.lent.Lent as lent
use Rattle.smk_session.specs.contracts.brush.refresh.Refresh as refresh
use Rattle.smk_session.specs.contracts.start.workers.Workers as workers
use Rattle.smk_session.specs.declared.turn.Content.{Content}
use Rattle.smk_session.proofs.Refreshing.{all_more, refused_among}
use Rattle.smk_session.proofs.brush.following.put_each.Goals as goal

-- what a view is made from may go to a thread, and what a session holds be read there: their parts first, since the search for the whole would go through each of them again and again

map_sync : IsSync map_of.the_row
map_sync = search (sendable, crosses) depth 60

dict_sync : IsSync dict.the_row
dict_sync = search (sendable, crosses) depth 60 fits 40000

dict_send : IsSend dict.the_row
dict_send = search (sendable, crosses) depth 60 fits 40000

rel_sync : IsSync rel.the_row
rel_sync = search (dict_sync, dict_send, sendable, crosses) depth 60 fits 40000

rel_send : IsSend rel.the_row
rel_send = search (dict_sync, dict_send, sendable, crosses) depth 60 fits 40000

chosen_send : IsSend chosen.the_row
chosen_send = search (rel_send, sendable, crosses) depth 60

reached_send : IsSend reached.the_row
reached_send = search (chosen_send, sendable, crosses) depth 60

split_sync : IsSync split.the_row
split_sync = search (map_sync, sendable, crosses) depth 60 fits 40000

cubes_sync : IsSync cubes.the_row
cubes_sync = search (rel_sync, sendable, crosses) depth 60 fits 40000

run_sync : IsSync run.the_row
run_sync = search (map_sync, rel_sync, sendable, crosses) depth 60 fits 40000

table_sync : IsSync table.the_row
table_sync = search (rel_sync, sendable, crosses) depth 60 fits 40000

catalog_sync : IsSync catalog.the_row
catalog_sync = search (TheKnot.crosses, TheKnot'.crosses, sendable, crosses) depth 60 fits 40000

lent_sync : (κ : NamedLft) → IsSync (lent.the_row κ)
lent_sync κ = search (rel_sync, run_sync, table_sync, split_sync, cubes_sync, catalog_sync, crosses, sendable) depth 60 fits 40000

refresh_sync : (κ : NamedLft) → IsSync (refresh.the_row κ)
refresh_sync κ = search (lent_sync, crosses, sendable) depth 60 fits 40000

-- what does the work, and what the closure captures

workers_sync : (κ : NamedLft) (G : RattleType) → IsSync G → IsSync (workers.the_row κ G)
workers_sync κ G g = search sendable depth 60

work_sync : (κ : NamedLft) (R C : RattleType) → IsSync R → IsSync C → IsSync (work.the_row κ R C)
work_sync κ R C r c = search (sendable, crosses) depth 60

u32_sync : IsSync u32
u32_sync = search sendable depth 20

-- three values that a closure captures
captured_sync : (ν : Sym) (A B C : RattleType) → IsSync A → IsSync B → IsSync C → IsSync (TupleAt ν (A ∷ B ∷ C ∷ []))
captured_sync ν A B C a b c =
    let type = type_at ν (A ∷ B ∷ C ∷ []) in
    let all : AllSync (A ∷ B ∷ C ∷ []) = (a, (b, (c, tt))) in
    recorded_sync _ _ _ type.to_one (struct_sync (shape type) all)

pub each_or_first-requires-send-J : goal.each_or_first-requires-send-J
each_or_first-requires-send-J g c κs within = search (map_sync, rel_sync, rel_send, reached_send, crosses, TheKnot.crosses, TheKnot'.crosses, sendable) depth 60 fits 40000

pub each_or_first-requires-sync-F : goal.each_or_first-requires-sync-F
each_or_first-requires-sync-F g c κs within =
    let crew = workers_sync _ _ c.type_bounds.sync-G in
    param_sync 4 _ (arg_sync _ no _ (captured_sync _ _ _ _ (shr_sync _ _ _ (work_sync _ _ _ c.type_bounds.sync-R crew)) (shr_sync _ _ _ u32_sync) (shr_sync _ _ _ (refresh_sync _))))

pub returns-in_err-made-clause-turned : goal.returns-in_err-made-clause-turned
returns-in_err-made-clause-turned g c =
    let old = c.args.followed.now in
    let p = err_from_is_err_and c.from_residual.result c.from_residual.ensures.1 in
    rw (p.1, p.2) (λ done rest are. refused_among c.args.refresh.now done rest old.linked old.contents c.args.all.items c.in_err-made.field-0.0 are c.in_err-made.ensures.first)

pub returns-clause-followed : goal.returns-clause-followed
returns-clause-followed g c = λ done are.
    let old = c.args.followed.now in
    let made = c.in_ok-made.made in
    let given_items = c.into_iter-shown-iterator.ensures.into_iter_gives in
    let end = YieldsList-end (YieldsList-from_vec {s = c.into_iter-shown-iterator.result} made.items given_items.0 (omega (arith, given_items.1, made.ok))) c.loop-shown.yielded c.loop-shown.shown-iterator c.loop-shown.yielded_by c.next.result c.next.new.self c.in-None.is c.next.ensures.steps in
    let whole = sym (map-id c.loop-shown.yielded) ∙ end.0 in
    let more = all_more c.args.refresh.now done old.linked old.contents c.args.all.items made.items are c.in_ok-made.ensures.all in
    record {
      linked = more.linked ∙ ap Ok (sym (c.loop-shown.invariant.linked ∙ ap (λ l. old.linked ++ map (λ (one : Linked × Content). one.0) l) whole));
      contents = c.loop-shown.invariant.contents ∙ ap (λ l. old.contents ++ map (λ (one : Linked × Content). one.1) l) whole ∙ more.contents;
    }
