-- A write of a page shows in its frame.
use Rattle.std.proofs.Common.{Some, set, refl, sym, ap, subst, ◌∙◌, arith}
use Rattle.std.specs.Box.{with_value}
use Rattle.page_space.specs.Frames.{Frames, IsTaken, page_at}
use Rattle.page_space.specs.Held.{PageBox}
use Rattle.page_space.proofs.FrameLemmas.{marked, page_at-marked, frames_of-write}
use Rattle.page_space.proofs.Space.page_mut.Goals as goal

pub index_mut-requires : goal.index_mut-requires
index_mut-requires c = omega (arith, (marked c.self.inside.pages.items c.self.inside.taken.items c.args.page (subst (λ (f : Frames). IsTaken f c.args.page) (sym c.self.view_is) c.requires)).0, c.self.inside.pages.ok.0)

pub returns : goal.returns
returns c =
    let mark = (marked c.self.inside.pages.items c.self.inside.taken.items c.args.page (subst (λ (f : Frames). IsTaken f c.args.page) (sym c.self.view_is) c.requires)) in (
      (refl, λ w. frames_of-write c.self.inside.pages.items c.self.inside.taken.items c.args.page (with_value c.index_mut.result.now w) mark.0 mark.2 ∙ ap (λ (f : Frames). set f c.args.page (Some w)) c.self.view_is),
      record {
        writes_back = tt;
        value = ap (λ (f : Frames). page_at f c.args.page) (sym c.self.view_is) ∙ page_at-marked c.self.inside.pages.items c.self.inside.taken.items c.args.page c.index_mut.result.now mark.0 mark.2 ∙ ap Some (ap (λ (b : PageBox). b.value) (sym c.index_mut.ensures.value) ∙ sym c.deref_mut.ensures.value);
      },
    )
