-- One more page, which is taken.
use Rattle.std.proofs.Common.{◌≡◌, Bool, true, Some, List, [], ◌∷◌, ◌++◌, length, sym, ap, subst, ◌∙◌, arith}
use Rattle.std.specs.Prelude.{IsSome, All}
use Rattle.std.specs.Vec.{vec_capacity}
use Rattle.page_image.specs.Page.{PageContents}
use Rattle.page_space.specs.Frames.{Frames}
use Rattle.page_space.specs.Held.{PageBox, frames_of}
use Rattle.page_space.proofs.FrameLemmas.{none_free, frames_of-push, keeps-push, length-frames_of}
use Rattle.page_space.proofs.Space.grow.Goals as goal

-- the pages and marks at the end
pages : (c : goal.In_ok-push-2) → c.push.new.self.items ≡ c.self.inside.pages.items ++ c.in_ok-block.block ∷ []
pages c = c.in_ok-push.ensures.items

marks : (c : goal.In_ok-push-2) → c.push-2.new.self.items ≡ c.self.inside.taken.items ++ true ∷ []
marks c = c.in_ok-push-2.ensures.items ∙ ap (λ (l : List Bool). l ++ true ∷ []) c.in_ok-reserve-2.ensures.items

pub invariant_of-self-2 : goal.invariant_of-self-2
invariant_of-self-2 c =
    let kept = keeps-push c.self.inside.pages.items c.self.inside.taken.items c.self.inside.free.items (vec_capacity c.self.inside.free) (vec_capacity c.reserve.new.self) c.in_ok-block.block c.self.invariant (none_free c.self.inside.pages.items c.self.inside.taken.items c.self.invariant.same (subst (λ (f : Frames). All IsSome f) (sym c.self.view_is) c.requires))
    (omega (arith, c.if-count-ge-MAX_PAGES.false, c.len-count.ensures, c.self.inside.pages.ok.0)) (omega (arith, c.in_ok-reserve.ensures.ok, c.len-count.ensures, c.self.inside.pages.ok.0)) in
    rw (pages c, marks c, c.in_ok-reserve.ensures.items) kept

pub returns-clause-ok : goal.returns-clause-ok
returns-clause-ok c =
    let count : c.len-count.result ≡ length c.args.self.now = c.len-count.ensures ∙ c.self.inside.pages.ok.0 ∙ sym (length-frames_of c.self.inside.pages.items c.self.inside.taken.items c.self.invariant.same) ∙ ap (λ (f : Frames). length f) c.self.view_is in
    record {
      reused = λ h. absurd (omega (arith, count));
      grown = λ h. (
        count,
        c.requires,
        ap (λ (l : List PageBox). frames_of l c.push-2.new.self.items) (pages c) ∙ ap (λ (l : List Bool). frames_of (c.self.inside.pages.items ++ c.in_ok-block.block ∷ []) l) (marks c)
            ∙ frames_of-push c.self.inside.pages.items c.self.inside.taken.items c.in_ok-block.block c.self.invariant.same ∙ ap (λ (f : Frames). f ++ Some c.in_ok-block.block.value ∷ []) c.self.view_is ∙ ap (λ (x : PageContents). c.args.self.now ++ Some x ∷ []) (c.in_ok-block.ensures.ok ∙ c.empty.ensures.value),
      );
    }
