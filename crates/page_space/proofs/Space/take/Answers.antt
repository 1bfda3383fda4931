-- A free page is marked as taken, or there is one page more.
use Rattle.std.proofs.Common.{Some, length, set, sym, ap, subst, ◌∙◌, arith}
use Rattle.std.specs.Prelude.{IsSome, All}
use Rattle.std.specs.Box.{with_value}
use Rattle.std.specs.Vec.{vec_capacity}
use Rattle.page_image.specs.Page.{PageContents}
use Rattle.page_space.specs.Frames.{Frames, page_at}
use Rattle.common_lemmas.proofs.Results.{OnErr-from}
use Rattle.page_space.proofs.FrameLemmas.{free_was_empty, frames_of-take, keeps-take, last_is_free, length-frames_of, page_at-free}
use Rattle.page_space.proofs.Space.take.Goals as goal

pub invariant_of-self : goal.invariant_of-self
invariant_of-self c = keeps-take c.self.inside.pages.items c.self.inside.taken.items c.self.inside.free.items c.pop.new.self.items (vec_capacity c.self.inside.free) (vec_capacity c.pop.new.self) c.in-Some.page (with_value c.index_mut.result.now c.empty.result) c.self.invariant c.in-Some.ensures.items (omega (arith, c.in-Some.ensures.capacity))

pub grow-requires : goal.grow-requires
grow-requires c = free_was_empty c.self.inside.pages.items c.self.inside.taken.items c.self.inside.free.items (vec_capacity c.self.inside.free) c.self.invariant (sym c.self.inside.free.ok.0 ∙ c.in-None.ensures.cases.0)

pub returns-in-Some-clause-ok : goal.returns-in-Some-clause-ok
returns-in-Some-clause-ok c =
    let last = last_is_free c.self.inside.pages.items c.self.inside.taken.items c.self.inside.free.items c.pop.new.self.items (vec_capacity c.self.inside.free) c.in-Some.page c.self.invariant c.in-Some.ensures.items in
    record {
      reused = λ h. (
        ap (λ (f : Frames). page_at f c.in-Some.page) (sym c.self.view_is) ∙ page_at-free c.self.inside.pages.items c.self.inside.taken.items c.in-Some.page last.0,
        frames_of-take c.self.inside.pages.items c.self.inside.taken.items c.in-Some.page (with_value c.index_mut.result.now c.empty.result) last.1 last.2 ∙ ap (λ (f : Frames). set f c.in-Some.page (Some c.empty.result)) c.self.view_is ∙ ap (λ (x : PageContents). set c.args.self.now c.in-Some.page (Some x)) c.empty.ensures.value,
      );
      grown = λ h. absurd (omega (arith, last.1, length-frames_of c.self.inside.pages.items c.self.inside.taken.items c.self.invariant.same, ap (λ (f : Frames). length f) c.self.view_is));
    }

pub returns-in-None-clause-none_free : goal.returns-in-None-clause-none_free
returns-in-None-clause-none_free c = OnErr-from c.grow.result _ (subst (λ (f : Frames). All IsSome f) c.self.view_is (free_was_empty c.self.inside.pages.items c.self.inside.taken.items c.self.inside.free.items (vec_capacity c.self.inside.free) c.self.invariant (sym c.self.inside.free.ok.0 ∙ c.in-None.ensures.cases.0)))
