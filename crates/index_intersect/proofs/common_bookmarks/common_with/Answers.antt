use Rattle.std.proofs.Common.{◌∙◌, refl, arith}
use Rattle.index_intersect.specs.Walks.{has, will_read}
use Rattle.index_intersect.proofs.Turns.{none_left, one_less}
use Rattle.index_intersect.proofs.common_bookmarks.common_with.Goals as goal

pub loop-other-init : goal.loop-other-init
loop-other-init g c = λ b. refl

pub loop-other-preserved : goal.loop-other-preserved
loop-other-preserved g c = λ b.
    one_less (will_read (g.W.View.entries c.args.view.now) b) c.loop-other.others.items c.pop.new.self.items c.in-Some.other (has c.loop-other.common b) _
    c.in-Some.ensures.items (c.in_ok-common.ensures b)
    ∙ c.loop-other.invariant b

pub returns : goal.returns
returns g c = λ b.
    none_left (will_read (g.W.View.entries c.args.view.now) b) c.loop-other.others.items (has c.loop-other.common b) (omega (arith, c.in_default.ensures.cases, c.loop-other.others.ok.0))
    ∙ c.loop-other.invariant b
