-- Each comparison leaves a part where the key may stand.
use Rattle.std.proofs.Common.{arith, ap, sym, subst, ◌∙◌}
use Rattle.std.specs.Ordering.{nat_cmp}
use Rattle.std.specs.Cmp.Lexicographic.{slice_cmp}
use Rattle.page_image.specs.Page.{PageContents, HasRisingKeys, node_at}
use Rattle.page_image.proofs.Keys.{IsBelow-from_greater, same_key, below_upto, above_from}
use Rattle.page_image.proofs.page.Page.find.Goals as goal

pub loop-low-preserved-in-Less : goal.loop-low-preserved-in-Less
loop-low-preserved-in-Less c =
    let rising : HasRisingKeys c.args.self.now.nodes = subst (λ (p : PageContents). HasRisingKeys p.nodes) c.self.view_is c.self.invariant.page.rising in
    let here = ap (λ k. slice_cmp nat_cmp k c.args.key.now) (sym c.key.ensures) ∙ sym c.compare.ensures ∙ c.in-Less.is in
    record {
      order = omega (arith, c.loop-low.invariant.upto);
      within = c.loop-low.invariant.within;
      from = omega arith;
      upto = λ some. omega (arith, some, c.min.ensures);
      reach = c.wider-reach.ensures;
      below = below_upto c.args.self.now.nodes _ c.args.key.now rising (omega (arith, c.loop-low.invariant.within, c.loop-low.invariant.upto)) here;
      above = c.loop-low.invariant.above;
    }

pub loop-low-preserved : goal.loop-low-preserved
loop-low-preserved c =
    let rising : HasRisingKeys c.args.self.now.nodes = subst (λ (p : PageContents). HasRisingKeys p.nodes) c.self.view_is c.self.invariant.page.rising in
    let here = IsBelow-from_greater (node_at c.args.self.now.nodes c.loop-low.probe).key c.args.key.now (ap (λ k. slice_cmp nat_cmp k c.args.key.now) (sym c.key.ensures) ∙ sym c.compare.ensures ∙ c.in-Greater.is) in
    record {
      order = c.loop-low.invariant.from;
      within = omega (arith, c.loop-low.invariant.within, c.loop-low.invariant.upto);
      from = omega (arith, c.min-in-Greater.ensures);
      upto = λ some. omega (arith, some, c.min-in-Greater.ensures);
      reach = c.wider-reach.ensures;
      below = c.loop-low.invariant.below;
      above = above_from c.args.self.now.nodes _ c.args.key.now rising here;
    }

pub returns-in-Equal : goal.returns-in-Equal
returns-in-Equal c =
    (omega (arith, c.loop-low.invariant.within, c.loop-low.invariant.upto), same_key (node_at c.args.self.now.nodes c.loop-low.probe).key c.args.key.now (ap (λ k. slice_cmp nat_cmp k c.args.key.now) (sym c.key.ensures) ∙ sym c.compare.ensures ∙ c.in-Equal.is))
