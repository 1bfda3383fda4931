-- The bytes of a page pass each test.
use Rattle.std.proofs.Common.{◌≡◌, inl, inr, Ok, is_ok, nat_eq, sym, subst, ap, ◌∙◌, arith}
use Rattle.std.specs.Cmp.Lexicographic.{pointwise}
use Rattle.std.proofs.lemmas.Slice.Eq.{bytes_eq-Decides}
use Rattle.page_image.specs.Page.{IsPage, page_bytes}
use Rattle.page_image.proofs.Spelled.{with_checksum}
use Rattle.page_image.proofs.Kept.{all_taken, count_read, pointwise-same, kind_read, never, number_read, same_head}
use Rattle.page_image.proofs.page.Page.check.Goals as goal

pub returns-then-kind-ne-INNER-clause-only : goal.returns-then-kind-ne-INNER-clause-only
returns-then-kind-ne-INNER-clause-only c p page spelled = elim page.kind [
  | inl one ↦ absurd (c.if-kind-ne-LEAF.true (kind_read p c.args.bytes spelled ∙ one))
  | inr two ↦ absurd (c.if-kind-ne-INNER.true (kind_read p c.args.bytes spelled ∙ two))
]

pub loop-init : goal.loop-init
loop-init c p page spelled = c.empty-page.ensures.value ∙ same_head p _ _ (c.read_u32.ensures ∙ number_read p c.args.bytes page spelled) (kind_read p c.args.bytes spelled)

pub returns-in_err-take_over-clause-only : goal.returns-in_err-take_over-clause-only
returns-in_err-take_over-clause-only c p page spelled =
    let next = c.take_over.ensures p c.loop.counter page spelled (c.loop.invariant p page spelled) (omega (arith, c.loop-test.true, c.number_at-end.ensures.value, count_read p c.args.bytes page spelled)) in
    absurd (never (sym (ap (λ r. is_ok r) c.in_err-take_over.was) ∙ next.0))

pub loop-preserved : goal.loop-preserved
loop-preserved c p page spelled = (c.take_over.ensures p c.loop.counter page spelled (c.loop.invariant p page spelled) (omega (arith, c.loop-test.true, c.number_at-end.ensures.value, count_read p c.args.bytes page spelled))).1

pub returns-then-eq-clause-only : goal.returns-then-eq-clause-only
returns-then-eq-clause-only c p page spelled = ap Ok (all_taken c.loop.page p c.loop.counter (c.loop.invariant p page spelled) (omega (arith, c.number_at-end.ensures.value, count_read p c.args.bytes page spelled)))

pub returns-then-eq-clause-found : goal.returns-then-eq-clause-found
returns-then-eq-clause-found c =
    let spelled : c.sealed.result ≡ page_bytes c.loop.page = with_checksum _ c.page.inside.bytes c.sealed.result c.page.invariant.spelled c.sealed.ensures ∙ ap page_bytes c.page.view_is in
    (subst IsPage c.page.view_is c.page.invariant.page, sym ((bytes_eq-Decides c.sealed.result c.args.bytes).0 (sym c.eq.ensures ∙ c.if-eq.true)) ∙ spelled)

pub returns-else-eq-clause-only : goal.returns-else-eq-clause-only
returns-else-eq-clause-only c p page spelled =
    let whole = all_taken c.loop.page p c.loop.counter (c.loop.invariant p page spelled) (omega (arith, c.number_at-end.ensures.value, count_read p c.args.bytes page spelled)) in
    let same : c.sealed.result ≡ c.args.bytes = with_checksum _ c.page.inside.bytes c.sealed.result c.page.invariant.spelled c.sealed.ensures ∙ ap page_bytes (c.page.view_is ∙ whole) ∙ sym spelled in
    absurd (never (sym c.if-eq.false ∙ c.eq.ensures ∙ ap (λ x. pointwise nat_eq x c.args.bytes) same ∙ pointwise-same c.args.bytes))
