use Rattle.std.proofs.Common.{length, ap, sym, ◌∙◌}
use Rattle.image_opening.specs.ReadNodes.{are_whole}
use Rattle.image_opening.proofs.Whole.{no_head, not_whole, whole, whole_rises}
use Rattle.image_opening.proofs.told.told_catalog.Goals as goal

pub returns-in-None-clause-told : goal.returns-in-None-clause-told
returns-in-None-clause-told c = no_head c.args.items.now c.requires.fit (sym c.greatest_told.ensures ∙ c.in-None.is)

pub returns-then-not-are_whole-clause-told : goal.returns-then-not-are_whole-clause-told
returns-then-not-are_whole-clause-told c =
    not_whole c.in-Some.greatest c.args.items.now c.in_ok-tables.tables.items c.requires.fit (sym c.greatest_told.ensures ∙ c.in-Some.is) c.in_ok-tables.ensures
    (ap (are_whole c.in-Some.greatest (length c.args.items.now)) (sym c.as_slice.ensures.value) ∙ sym (c.are_whole.ensures c.in-Some.greatest) ∙ c.if-not-are_whole.true)

pub returns-clause-told : goal.returns-clause-told
returns-clause-told c =
    whole c.in-Some.greatest c.args.items.now c.in_ok-tables.tables.items c.requires.rising c.requires.fit (sym c.greatest_told.ensures ∙ c.in-Some.is) c.in_ok-tables.ensures
    (ap (are_whole c.in-Some.greatest (length c.args.items.now)) (sym c.as_slice.ensures.value) ∙ sym (c.are_whole.ensures c.in-Some.greatest) ∙ c.if-not-are_whole.false)

pub returns-clause-rising : goal.returns-clause-rising
returns-clause-rising c =
    whole_rises c.in-Some.greatest (length c.args.items.now) c.in_ok-tables.tables.items
    (ap (are_whole c.in-Some.greatest (length c.args.items.now)) (sym c.as_slice.ensures.value) ∙ sym (c.are_whole.ensures c.in-Some.greatest) ∙ c.if-not-are_whole.false)
