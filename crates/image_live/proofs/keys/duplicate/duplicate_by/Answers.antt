use Rattle.std.proofs.Common.{List, sym, subst, ◌∙◌}
use Rattle.image_contents.specs.ReadVariants.{contents_of}
use Rattle.image_live.specs.KeySpans.{Span, spans_of}
use Rattle.image_live.specs.SpanOrder.{AreInOrder}
use Rattle.image_live.proofs.KeysFound.{begins_within, none_found, not_asked, some_found}
use Rattle.image_live.proofs.keys.duplicate.duplicate_by.Goals as goal

pub returns-then-not-is_unique : goal.returns-then-not-is_unique
returns-then-not-is_unique c kept = not_asked c.args.sessions.now c.args.variants.now kept c.args.rule.now (sym c.is_unique.ensures ∙ c.if-not-is_unique.true)

pub spans_in_order-requires-clause-readable : goal.spans_in_order-requires-clause-readable
spans_in_order-requires-clause-readable c = c.requires.readable

pub spans_in_order-requires-clause-legal : goal.spans_in_order-requires-clause-legal
spans_in_order-requires-clause-legal c = c.requires.legal

pub first_shared-requires : goal.first_shared-requires
first_shared-requires c =
    let v = c.args.variants.now in
    begins_within c.args.sessions.now v c.requires.changes c.args.rule.now (c.nodes_of_a_tree_rise.ensures.tree v.space.now v.opened.now.nodes c.requires.readable.nodes_tree) c.requires.legal.0 c.as_slice.result.now
    (subst (λ (l : List Span). AreInOrder (spans_of c.args.rule.now (contents_of v) v.versions.now) l) (sym c.as_slice.ensures.value) c.in-Ok.ensures)

pub returns-in-Ok-new : goal.returns-in-Ok-new
returns-in-Ok-new c kept =
    let v = c.args.variants.now in
    some_found c.args.sessions.now v kept c.args.rule.now c.in-Ok-new.found c.args.index c.in-Some.key.now (c.nodes_of_a_tree_rise.ensures.tree v.space.now v.opened.now.nodes c.requires.readable.nodes_tree) c.requires.legal.0 (sym c.is_unique.ensures ∙ c.if-not-is_unique.false)
    c.requires.rule c.in-Ok-new.ensures.0 c.in-Ok-new.ensures.1 c.as_slice.result.now
    (subst (λ (l : List Span). AreInOrder (spans_of c.args.rule.now (contents_of v) v.versions.now) l) (sym c.as_slice.ensures.value) c.in-Ok.ensures) c.in-Some.ensures

pub returns : goal.returns
returns c kept =
    let v = c.args.variants.now in
    none_found c.args.sessions.now v kept c.args.rule.now (c.nodes_of_a_tree_rise.ensures.tree v.space.now v.opened.now.nodes c.requires.readable.nodes_tree) c.requires.legal.0 (sym c.is_unique.ensures ∙ c.if-not-is_unique.false) c.as_slice.result.now
    (subst (λ (l : List Span). AreInOrder (spans_of c.args.rule.now (contents_of v) v.versions.now) l) (sym c.as_slice.ensures.value) c.in-Ok.ensures) c.in-None.ensures
