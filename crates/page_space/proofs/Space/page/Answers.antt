-- A page that is marked as taken is the one that is shown.
use Rattle.std.proofs.Common.{Some, sym, ap, subst, ◌∙◌, arith}
use Rattle.page_space.specs.Frames.{Frames, IsTaken, page_at}
use Rattle.page_space.specs.Held.{PageBox}
use Rattle.page_space.proofs.FrameLemmas.{marked, page_at-marked}
use Rattle.page_space.proofs.Space.page.Goals as goal

pub index-requires : goal.index-requires
index-requires c = omega (arith, (marked c.self.inside.pages.items c.self.inside.taken.items c.args.page (subst (λ (f : Frames). IsTaken f c.args.page) (sym c.self.view_is) c.requires)).0, c.self.inside.pages.ok.0)

pub returns : goal.returns
returns c =
    let mark = (marked c.self.inside.pages.items c.self.inside.taken.items c.args.page (subst (λ (f : Frames). IsTaken f c.args.page) (sym c.self.view_is) c.requires)) in
    ap (λ (f : Frames). page_at f c.args.page) (sym c.self.view_is) ∙ page_at-marked c.self.inside.pages.items c.self.inside.taken.items c.args.page c.index.result.now mark.0 mark.2 ∙ ap Some (ap (λ (b : PageBox). b.value) (sym c.index.ensures) ∙ sym c.deref.ensures)
