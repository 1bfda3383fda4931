-- Each page is in its block, and the free list is made of the marks.
use Rattle.std.proofs.Common.{◌≡◌, ◌≤◌, Bool, List, [], ◌∷◌, ◌++◌, length, sym, ap, subst, ◌∙◌, arith, rules, map-id}
use Rattle.std.specs.Prelude.{is_some}
use Rattle.std.specs.Vec.{vec_capacity}
use Rattle.std.proofs.lemmas.Iterator.Consumers.{YieldsList-end}
use Rattle.std.proofs.lemmas.Iterator.Adapters.{YieldsList-from_vec}
use Rattle.page_space.specs.Frames.{Frames}
use Rattle.page_space.specs.Free.{HasFree}
use Rattle.page_space.specs.Held.{PageBox}
use Rattle.page_space.proofs.FrameLemmas.{Boxed, boxed_next, keeps-boxed, length-frames_of}
use Rattle.page_space.proofs.Space.holding.Goals as goal
use Rattle.page_space.proofs.Space.holding.Goals.{In-None}

pub loop-page-preserved : goal.loop-page-preserved
loop-page-preserved c =
    let marks : c.push.new.self.items ≡ c.loop-page.taken.items ++ is_some c.in-Some.page ∷ [] = c.in_ok-push.ensures.items ∙ ap (λ (b : Bool). c.loop-page.taken.items ++ b ∷ []) c.is_some.ensures in
    subst (Boxed (c.loop-page.yielded ++ c.in-Some.page ∷ []) c.push-in-loop-page.new.self.items) (sym marks)
    (subst (λ (l : List PageBox). Boxed (c.loop-page.yielded ++ c.in-Some.page ∷ []) l (c.loop-page.taken.items ++ is_some c.in-Some.page ∷ [])) (sym c.in_ok-push-2.ensures.items)
    (boxed_next c.loop-page.yielded c.in-Some.page c.loop-page.blocks.items c.loop-page.taken.items c.in_ok-block.block c.loop-page.invariant c.in_ok-block.ensures))

-- all pages are in their blocks
whole : (c : goal.In-None) → Boxed c.args.pages.items c.loop-page.blocks.items c.loop-page.taken.items
whole c =
    let end = YieldsList-end (YieldsList-from_vec {s = c.into_iter-page-iterator.result} c.args.pages.items (search rules) (search rules))
    c.loop-page.yielded c.loop-page.page-iterator c.loop-page.yielded_by c.next.result c.next.new.self c.in-None.is c.next.ensures.steps in
    let same : c.loop-page.yielded ≡ c.args.pages.items = sym (map-id c.loop-page.yielded) ∙ end.0 in
    subst (λ (f : Frames). Boxed f c.loop-page.blocks.items c.loop-page.taken.items) same c.loop-page.invariant

marks_of : (c : goal.In-None) → length c.loop-page.taken.items ≡ length c.args.pages.items
marks_of c =
    let all = whole c in
    omega (arith, all.same, length-frames_of c.loop-page.blocks.items c.loop-page.taken.items all.same, ap (λ (f : Frames). length f) all.frames)

pub free_pages-requires : goal.free_pages-requires
free_pages-requires c = omega (arith, marks_of (goal.at.free_pages-requires c).In-None, c.requires, ap (λ (l : List Bool). length l) c.deref.ensures.value)

pub invariant_of-result : goal.invariant_of-result
invariant_of-result c =
    let free = subst (λ (l : List Bool). HasFree l c.in_ok-free.free.items × (length l ≤ vec_capacity c.in_ok-free.free)) c.deref.ensures.value c.in_ok-free.ensures in
    keeps-boxed c.args.pages.items c.loop-page.blocks.items c.loop-page.taken.items c.in_ok-free.free.items (vec_capacity c.in_ok-free.free) (whole (goal.at.invariant_of-result c).In-None) c.requires free.0 free.1

pub returns : goal.returns
returns c = (whole (goal.at.returns c).In-None).frames
