use Rattle.std.proofs.Common.{◌≡◌, ap, ◌∙◌}
use Rattle.index_derive.specs.declared.entries.Place.TheVariants.{Before, On}
use Rattle.cursor_nav.specs.Places.{entry_before, on_or}
use Rattle.index_intersect.proofs.Walking.{ahead, begins}
use Rattle.index_intersect.proofs.range_walk.RangeWalk.new.Goals as goal

pub returns : goal.returns
returns g c =
    let range = c.args.range.now in
    let es = g.W.View.entries c.args.view.now range.table.0 range.index.0 in
    let there : On c.copy.result c.copy-2.result ≡ On range.from.key range.from.bookmark = λ i. On (c.copy.ensures i) (c.copy-2.ensures i) in
    ap (λ place. ahead place range.upper es) (c.retreat.ensures.place ∙ ap (λ place. on_or (entry_before place es) Before) there)
    ∙ begins (range.from.key, range.from.bookmark) range.upper es (g.met.W.View.sorted c.args.view.now range.table.0 range.index.0)
