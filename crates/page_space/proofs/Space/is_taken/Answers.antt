-- The marks say which pages are taken.
use Rattle.std.proofs.Common.{◌≡◌, ◌<◌, false, length, get_or, sym, subst, ◌∙◌, arith}
use Rattle.std.proofs.lemmas.List.{get_or_default}
use borrow.Author.Tests.{ltb-true}
use Rattle.page_space.specs.Frames.{Frames, IsTaken}
use Rattle.page_space.proofs.FrameLemmas.{marked, is_taken-marked}
use Rattle.page_space.proofs.Space.is_taken.Goals as goal

pub returns-then-page-len : goal.returns-then-page-len
returns-then-page-len c =
    let within : c.args.page < length c.self.inside.taken.items = omega (arith, c.if-page-len.true, c.len.ensures, c.self.inside.taken.ok.0) in
    let mark : c.index.result.now ≡ get_or c.self.inside.taken.items c.args.page false = c.index.ensures ∙ get_or_default c.self.inside.taken.items c.args.page c.index.result.now false within in (
      λ t. subst (λ (f : Frames). IsTaken f c.args.page) c.self.view_is (is_taken-marked c.self.inside.pages.items c.self.inside.taken.items c.args.page (omega (arith, c.self.invariant.same)) (sym mark ∙ t)),
      λ some. mark ∙ (marked c.self.inside.pages.items c.self.inside.taken.items c.args.page (subst (λ (f : Frames). IsTaken f c.args.page) (sym c.self.view_is) some)).2,
    )

pub returns-else-page-len : goal.returns-else-page-len
returns-else-page-len c = (
  λ t. absurd (omega (arith, ltb-true c.args.page c.len.result t, c.if-page-len.false)),
  λ some. absurd (omega (arith, c.if-page-len.false, c.len.ensures, c.self.inside.taken.ok.0, (marked c.self.inside.pages.items c.self.inside.taken.items c.args.page (subst (λ (f : Frames). IsTaken f c.args.page) (sym c.self.view_is) some)).1)),
)
