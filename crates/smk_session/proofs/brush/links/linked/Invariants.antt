use Rattle.std.proofs.Common.{◌≡◌, take}
use Rattle.std.specs.List.{filter, flat_map}
use Rattle.smk_base.specs.declared.book.catalog.LinkInfo.{LinkInfo}
use Rattle.smk_model.specs.Workload.{is_link}
use Rattle.smk_session.proofs.brush.links.linked.Given as goal

abbrev pub invariant-loop-link : goal.invariant-loop-link
invariant-loop-link l = l.views.items ≡ flat_map (λ (link : LinkInfo). link.to) (filter (is_link l.v l.t) (take l.link-index l.links))
