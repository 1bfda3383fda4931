-- The children are walked one after another, each in its place.
use Rattle.std.proofs.Common.{◌≡◌, ℕ, suc, ◌-◌, ◌<◌, inl, inr, true, false, None, Some, List, length, sym, ap, subst, ◌∙◌, arith, add-one}
use Rattle.std.specs.Prelude.{drop, if◌then◌else◌}
use Rattle.std.specs.Option.{option_map}
use Rattle.byteorder.specs.Endian.{little_number}
use Rattle.page_image.specs.Page.{IsPage, PageContents, node_at}
use Rattle.btree_inplace.specs.Shape.{child_of, entries, page_in, pages}
use Rattle.std.proofs.lemmas.Bool.{cases_lt}
use Rattle.tree_check.specs.Marks.{ArePages, with_marks}
use Rattle.tree_check.specs.Walks.{ends_of, fault_below, is_inner_page, lies_between, page_fault}
use Rattle.tree_check.specs.declared.fault.WalkFault.TheVariants as faults
use Rattle.tree_check.proofs.Walking.{Going, child_has_four, goes_among, going_next, going_outside, going_wrong, gone, page_is, without_fault}
use Rattle.tree_check.proofs.walk.+walk_below.Goals as goal

pub read_u32-below-requires : goal.read_u32-below-requires
read_u32-below-requires t c =
    let frames = c.args.space.now in
    let page = c.args.page in
    let fine : page_fault (is_inner_page frames page) frames c.args.marks.now page ≡ None = ap (λ b. page_fault b frames c.args.marks.now page) (sym c.is_inner_page-is_fit.ensures) ∙ sym c.page_fault.ensures ∙ c.in_default.is in
    omega (arith, ap (λ (bytes : List ℕ). length bytes) c.data.ensures, child_has_four frames page c.loop-i.i c.page-inner.result.now (without_fault (is_inner_page frames page) frames c.args.marks.now page fine).0 c.page-inner.ensures (omega (arith, c.loop-i-test.true, c.len-i-end.ensures.value)))

pub returns-then-not-lies_between-clause-err : goal.returns-then-not-lies_between-clause-err
returns-then-not-lies_between-clause-err t c =
    let frames = c.args.space.now in
    let page = c.args.page in
    let fine : page_fault (is_inner_page frames page) frames c.args.marks.now page ≡ None = ap (λ b. page_fault b frames c.args.marks.now page) (sym c.is_inner_page-is_fit.ensures) ∙ sym c.page_fault.ensures ∙ c.in_default.is in
    let d = c.args.depth - 1 in
    let i = c.loop-i.i in
    let here : c.args.depth ≡ suc d = omega (arith, c.if-depth-eq0.false) in
    let is : page_in frames page ≡ c.page-inner.result.now = page_is frames page c.page-inner.result.now c.page-inner.ensures in
    let next : c.read_u32-below.result ≡ child_of (node_at (page_in frames page).nodes i) = c.read_u32-below.ensures ∙ ap (little_number 4) c.data.ensures ∙ ap (λ (q : PageContents). child_of (node_at q.nodes i)) (sym is) in
    let within : i < length (page_in frames page).nodes = omega (arith, c.loop-i-test.true, c.len-i-end.ensures.value, ap (λ (q : PageContents). length q.nodes) is) in
    let so : Going d frames c.args.marks.now page c.loop-i.marks (option_map (λ ends. (ends.0.now, ends.1.now)) c.loop-i.ends) i = record { marked = c.loop-i.invariant.marked; between = c.loop-i.invariant.ends; rest = c.loop-i.invariant.rest } in
    let found : List ℕ × List ℕ = (c.in-Ok-Some.found.0.now, c.in-Ok-Some.found.1.now) in
    let outside : lies_between (node_at (page_in frames page).nodes i) (drop (suc i) (page_in frames page).nodes) found ≡ false =
    ap (λ (q : PageContents). lies_between (node_at q.nodes i) (drop (suc i) q.nodes) found) is ∙ ap (λ k. lies_between (node_at c.page-inner.result.now.nodes i) (drop k c.page-inner.result.now.nodes) found) (sym (add-one i)) ∙ sym c.lies_between.ensures ∙ c.if-not-lies_between.true in
    ap (λ (n : ℕ). fault_below n frames c.args.marks.now page) here
    ∙ goes_among d frames c.args.marks.now page fine
    ∙ going_outside d frames c.args.marks.now c.loop-i.marks page i (faults.Broken page) (option_map (λ ends. (ends.0.now, ends.1.now)) c.loop-i.ends) (Some found) so within
    (ap (fault_below d frames c.loop-i.marks) (sym next) ∙ c.in-Ok-Some.ensures.ok.0)
    (ap (option_map (λ ends. (ends.0.now, ends.1.now))) (sym c.in-Ok-Some.field-0-is) ∙ c.in-Ok-Some.ensures.ok.2 ∙ ap (λ q. ends_of (entries d frames q)) next)
    (ap (λ b. if b then None else Some (faults.Broken page)) outside)

pub returns-in-Ok-None-clause-err : goal.returns-in-Ok-None-clause-err
returns-in-Ok-None-clause-err t c =
    let frames = c.args.space.now in
    let page = c.args.page in
    let fine : page_fault (is_inner_page frames page) frames c.args.marks.now page ≡ None = ap (λ b. page_fault b frames c.args.marks.now page) (sym c.is_inner_page-is_fit.ensures) ∙ sym c.page_fault.ensures ∙ c.in_default.is in
    let d = c.args.depth - 1 in
    let i = c.loop-i.i in
    let here : c.args.depth ≡ suc d = omega (arith, c.if-depth-eq0.false) in
    let is : page_in frames page ≡ c.page-inner.result.now = page_is frames page c.page-inner.result.now c.page-inner.ensures in
    let next : c.read_u32-below.result ≡ child_of (node_at (page_in frames page).nodes i) = c.read_u32-below.ensures ∙ ap (little_number 4) c.data.ensures ∙ ap (λ (q : PageContents). child_of (node_at q.nodes i)) (sym is) in
    let within : i < length (page_in frames page).nodes = omega (arith, c.loop-i-test.true, c.len-i-end.ensures.value, ap (λ (q : PageContents). length q.nodes) is) in
    let so : Going d frames c.args.marks.now page c.loop-i.marks (option_map (λ ends. (ends.0.now, ends.1.now)) c.loop-i.ends) i = record { marked = c.loop-i.invariant.marked; between = c.loop-i.invariant.ends; rest = c.loop-i.invariant.rest } in
    ap (λ (n : ℕ). fault_below n frames c.args.marks.now page) here
    ∙ goes_among d frames c.args.marks.now page fine
    ∙ going_outside d frames c.args.marks.now c.loop-i.marks page i (faults.Broken c.read_u32-below.result) (option_map (λ ends. (ends.0.now, ends.1.now)) c.loop-i.ends) None so within
    (ap (fault_below d frames c.loop-i.marks) (sym next) ∙ c.in-Ok-None.ensures.ok.0)
    (ap (option_map (λ ends. (ends.0.now, ends.1.now))) (sym c.in-Ok-None.field-0-is) ∙ c.in-Ok-None.ensures.ok.2 ∙ ap (λ q. ends_of (entries d frames q)) next)
    (ap (λ q. Some (faults.Broken q)) (sym next))

pub returns-in-Err-clause-err : goal.returns-in-Err-clause-err
returns-in-Err-clause-err t c =
    let frames = c.args.space.now in
    let page = c.args.page in
    let fine : page_fault (is_inner_page frames page) frames c.args.marks.now page ≡ None = ap (λ b. page_fault b frames c.args.marks.now page) (sym c.is_inner_page-is_fit.ensures) ∙ sym c.page_fault.ensures ∙ c.in_default.is in
    let d = c.args.depth - 1 in
    let i = c.loop-i.i in
    let here : c.args.depth ≡ suc d = omega (arith, c.if-depth-eq0.false) in
    let is : page_in frames page ≡ c.page-inner.result.now = page_is frames page c.page-inner.result.now c.page-inner.ensures in
    let next : c.read_u32-below.result ≡ child_of (node_at (page_in frames page).nodes i) = c.read_u32-below.ensures ∙ ap (little_number 4) c.data.ensures ∙ ap (λ (q : PageContents). child_of (node_at q.nodes i)) (sym is) in
    let within : i < length (page_in frames page).nodes = omega (arith, c.loop-i-test.true, c.len-i-end.ensures.value, ap (λ (q : PageContents). length q.nodes) is) in
    let so : Going d frames c.args.marks.now page c.loop-i.marks (option_map (λ ends. (ends.0.now, ends.1.now)) c.loop-i.ends) i = record { marked = c.loop-i.invariant.marked; between = c.loop-i.invariant.ends; rest = c.loop-i.invariant.rest } in
    ap (λ (n : ℕ). fault_below n frames c.args.marks.now page) here
    ∙ goes_among d frames c.args.marks.now page fine
    ∙ going_wrong d frames c.args.marks.now c.loop-i.marks page i c.in-Err.fault (option_map (λ ends. (ends.0.now, ends.1.now)) c.loop-i.ends) so within
    (ap (fault_below d frames c.loop-i.marks) (sym next) ∙ c.in-Err.ensures.err)

pub loop-i-preserved : goal.loop-i-preserved
loop-i-preserved t c =
    let frames = c.args.space.now in
    let page = c.args.page in
    let fine : page_fault (is_inner_page frames page) frames c.args.marks.now page ≡ None = ap (λ b. page_fault b frames c.args.marks.now page) (sym c.is_inner_page-is_fit.ensures) ∙ sym c.page_fault.ensures ∙ c.in_default.is in
    let d = c.args.depth - 1 in
    let i = c.loop-i.i in
    let here : c.args.depth ≡ suc d = omega (arith, c.if-depth-eq0.false) in
    let is : page_in frames page ≡ c.page-inner.result.now = page_is frames page c.page-inner.result.now c.page-inner.ensures in
    let next : c.read_u32-below.result ≡ child_of (node_at (page_in frames page).nodes i) = c.read_u32-below.ensures ∙ ap (little_number 4) c.data.ensures ∙ ap (λ (q : PageContents). child_of (node_at q.nodes i)) (sym is) in
    let within : i < length (page_in frames page).nodes = omega (arith, c.loop-i-test.true, c.len-i-end.ensures.value, ap (λ (q : PageContents). length q.nodes) is) in
    let so : Going d frames c.args.marks.now page c.loop-i.marks (option_map (λ ends. (ends.0.now, ends.1.now)) c.loop-i.ends) i = record { marked = c.loop-i.invariant.marked; between = c.loop-i.invariant.ends; rest = c.loop-i.invariant.rest } in
    let found : List ℕ × List ℕ = (c.in-Ok-Some.found.0.now, c.in-Ok-Some.found.1.now) in
    let between : lies_between (node_at (page_in frames page).nodes i) (drop (suc i) (page_in frames page).nodes) found ≡ true =
    ap (λ (q : PageContents). lies_between (node_at q.nodes i) (drop (suc i) q.nodes) found) is ∙ ap (λ k. lies_between (node_at c.page-inner.result.now.nodes i) (drop k c.page-inner.result.now.nodes) found) (sym (add-one i)) ∙ sym c.lies_between.ensures ∙ c.if-not-lies_between.false in
    let later = going_next d frames c.args.marks.now c.loop-i.marks c.walk_below.new.marks page i (option_map (λ ends. (ends.0.now, ends.1.now)) c.loop-i.ends) (Some found) so within
    (ap (fault_below d frames c.loop-i.marks) (sym next) ∙ c.in-Ok-Some.ensures.ok.0)
    (c.in-Ok-Some.ensures.ok.1 ∙ ap (λ q. with_marks (pages d frames q) c.loop-i.marks) next)
    (ap (option_map (λ ends. (ends.0.now, ends.1.now))) (sym c.in-Ok-Some.field-0-is) ∙ c.in-Ok-Some.ensures.ok.2 ∙ ap (λ q. ends_of (entries d frames q)) next)
    (ap (λ b. if b then None else Some (faults.Broken page)) between) in
    let last = subst (Going d frames c.args.marks.now page c.walk_below.new.marks _) (sym (add-one i)) later in
    let are : ArePages d frames (child_of (node_at (page_in frames page).nodes i)) = subst (ArePages d frames) next c.in-Ok-Some.ensures.page in
    record {
      marked = last.marked;
      ends = c.joined-ends.ensures ∙ last.between;
      rest = last.rest;
      pages = λ k h. elim (cases_lt k i) [
        | inl lt ↦ c.loop-i.invariant.pages k lt
        | inr ge ↦
            let at : i ≡ k = omega (arith, h, ge) in
            subst (λ j. ArePages d frames (child_of (node_at (page_in frames page).nodes j))) at are
      ];
    }

pub returns-clause-ok : goal.returns-clause-ok
returns-clause-ok t c =
    let frames = c.args.space.now in
    let page = c.args.page in
    let fine : page_fault (is_inner_page frames page) frames c.args.marks.now page ≡ None = ap (λ b. page_fault b frames c.args.marks.now page) (sym c.is_inner_page-is_fit.ensures) ∙ sym c.page_fault.ensures ∙ c.in_default.is in
    let d = c.args.depth - 1 in
    let i = c.loop-i.i in
    let here : c.args.depth ≡ suc d = omega (arith, c.if-depth-eq0.false) in
    let is : page_in frames page ≡ c.page-inner.result.now = page_is frames page c.page-inner.result.now c.page-inner.ensures in
    let so : Going d frames c.args.marks.now page c.loop-i.marks (option_map (λ ends. (ends.0.now, ends.1.now)) c.loop-i.ends) i = record { marked = c.loop-i.invariant.marked; between = c.loop-i.invariant.ends; rest = c.loop-i.invariant.rest } in
    let done = gone d frames c.args.marks.now c.loop-i.marks page i (option_map (λ ends. (ends.0.now, ends.1.now)) c.loop-i.ends) so (omega (arith, c.loop-i-test.false, c.len-i-end.ensures.value, ap (λ (q : PageContents). length q.nodes) is)) in (
      ap (λ (n : ℕ). fault_below n frames c.args.marks.now page) here ∙ goes_among d frames c.args.marks.now page fine ∙ done.whole,
      done.marked ∙ ap (λ (n : ℕ). with_marks (pages n frames page) c.args.marks.now) (sym here),
      done.between ∙ ap (λ (n : ℕ). ends_of (entries n frames page)) (sym here),
    )

pub returns-clause-page : goal.returns-clause-page
returns-clause-page t c =
    let frames = c.args.space.now in
    let page = c.args.page in
    let d = c.args.depth - 1 in
    let here : c.args.depth ≡ suc d = omega (arith, c.if-depth-eq0.false) in
    let is : page_in frames page ≡ c.page-inner.result.now = page_is frames page c.page-inner.result.now c.page-inner.ensures in
    subst (λ n. ArePages n frames page) (sym here) (
      subst IsPage (sym is) c.len-i-end.ensures.page,
      λ k h. c.loop-i.invariant.pages k (omega (arith, h, c.loop-i-test.false, c.len-i-end.ensures.value, ap (λ (q : PageContents). length q.nodes) is)),
    )
