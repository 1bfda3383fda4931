use Rattle.std.proofs.Common.{sym, ◌∙◌, true≢false}
use Rattle.index_intersect.proofs.Walking.{ends, stands, steps}
use Rattle.index_intersect.proofs.range_walk.RangeWalk.advance.Goals as goal

pub is_within-requires : goal.is_within-requires
is_within-requires g c = stands _ _ c.advance.ensures.place (sym c.advance.ensures.found ∙ c.if-advance.true)

pub returns-then-advance-clause-ahead : goal.returns-then-advance-clause-ahead
returns-then-advance-clause-ahead g c =
    let range = c.args.self.now.range.now in
    steps c.args.self.now.place c.advance.new.place range.upper _ (g.met.W.View.sorted c.args.view.now range.table.0 range.index.0) c.advance.ensures.place (sym c.advance.ensures.found ∙ c.if-advance.true)
    c.is_within.result c.is_within.ensures

pub returns-then-advance-clause-on : goal.returns-then-advance-clause-on
returns-then-advance-clause-on g c = λ h. stands _ _ c.advance.ensures.place (sym c.advance.ensures.found ∙ c.if-advance.true)

pub returns-else-advance-clause-ahead : goal.returns-else-advance-clause-ahead
returns-else-advance-clause-ahead g c =
    let range = c.args.self.now.range.now in
    rw c.if-advance.false
    (ends c.args.self.now.place range.upper (g.W.View.entries c.args.view.now range.table.0 range.index.0) (g.met.W.View.sorted c.args.view.now range.table.0 range.index.0) (sym c.advance.ensures.found ∙ c.if-advance.false))

pub returns-else-advance-clause-on : goal.returns-else-advance-clause-on
returns-else-advance-clause-on g c = λ h. absurd (true≢false (sym h ∙ c.if-advance.false))
