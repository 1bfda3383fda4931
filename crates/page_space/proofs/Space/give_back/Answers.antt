-- The page is free, and the free list has it.
use Rattle.std.proofs.Common.{◌≡◌, ℕ, Bool, false, None, List, [], ◌∷◌, ◌++◌, set, sym, ap, subst, ◌∙◌, arith}
use Rattle.std.specs.Prelude.{if◌then◌else◌}
use Rattle.std.specs.Vec.{vec_capacity}
use Rattle.page_space.specs.Frames.{Frames, IsTaken}
use Rattle.page_space.specs.Held.{Keeps}
use Rattle.page_space.proofs.FrameLemmas.{marked, frames_of-give, free_has_room, keeps-give}
use Rattle.page_space.proofs.Space.give_back.Goals as goal

pub index_mut-requires : goal.index_mut-requires
index_mut-requires c = omega (arith, (marked c.self.inside.pages.items c.self.inside.taken.items c.args.page (subst (λ (f : Frames). IsTaken f c.args.page) (sym c.self.view_is) c.requires)).1, c.self.inside.taken.ok.0)

pub invariant_of-self : goal.invariant_of-self
invariant_of-self c =
    let mark = (marked c.self.inside.pages.items c.self.inside.taken.items c.args.page (subst (λ (f : Frames). IsTaken f c.args.page) (sym c.self.view_is) c.requires)) in
    let pushed : c.push.new.self.items ≡ c.self.inside.free.items ++ c.args.page ∷ [] = c.push.ensures.items ∙ ap (λ (b : Bool). if b then c.self.inside.free.items ++ c.args.page ∷ [] else c.self.inside.free.items) (c.push.ensures.succeeds (omega (arith, c.self.inside.free.ok.0, free_has_room c.self.inside.pages.items c.self.inside.taken.items c.self.inside.free.items (vec_capacity c.self.inside.free) c.args.page c.self.invariant mark.2 mark.1))) in
    subst (λ (free : List ℕ). Keeps c.self.inside.pages.items (set c.self.inside.taken.items c.args.page false) free (vec_capacity c.push.new.self)) (sym pushed)
    (keeps-give c.self.inside.pages.items c.self.inside.taken.items c.self.inside.free.items (vec_capacity c.self.inside.free) (vec_capacity c.push.new.self) c.args.page c.self.invariant mark.1 mark.2 c.push.ensures.capacity)

pub returns : goal.returns
returns c =
    let mark = (marked c.self.inside.pages.items c.self.inside.taken.items c.args.page (subst (λ (f : Frames). IsTaken f c.args.page) (sym c.self.view_is) c.requires)) in
    frames_of-give c.self.inside.pages.items c.self.inside.taken.items c.args.page mark.0 mark.1 ∙ ap (λ (f : Frames). set f c.args.page None) c.self.view_is
