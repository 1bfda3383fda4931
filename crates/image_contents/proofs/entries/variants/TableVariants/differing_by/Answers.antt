use Rattle.std.proofs.Common.{Some, ap, ◌∙◌}
use Rattle.btree_inplace.specs.Trees.{nodes_of}
use Rattle.image_contents.specs.ReadVariants.{contents_of}
use Rattle.image_contents.proofs.OpenedIndexes.{differing_is, told_is}
use Rattle.image_findings.specs.EntryFindings.{found_entry, in_order, stored_entries, wanted_entries}
use Rattle.image_contents.proofs.entries.variants.TableVariants.differing_by.Goals as goal

pub derived_entries-requires-clause-readable : goal.derived_entries-requires-clause-readable
derived_entries-requires-clause-readable c = c.requires.readable

pub derived_entries-requires-clause-legal : goal.derived_entries-requires-clause-legal
derived_entries-requires-clause-legal c = c.requires.legal

pub stored_entries-requires : goal.stored_entries-requires
stored_entries-requires c = c.requires.tree

pub returns-in-Ok-new : goal.returns-in-Ok-new
returns-in-Ok-new c =
    let variants = c.args.self.now in
    let found = found_entry (contents_of variants) c.args.rule.now in
    ap Some (told_is variants.table.now c.args.rule.now c.in-Ok-new.told c.in-Some.found c.args.index.now.index c.requires.rule c.in-Ok-new.ensures.0 c.in-Ok-new.ensures.1 c.in-Ok-new.ensures.2)
    ∙ differing_is found c.as_slice-2.result.now c.as_slice-3.result.now (stored_entries (nodes_of variants.space.now c.args.index.now.tree)) (wanted_entries variants.versions.now (contents_of variants) c.args.rule.now) _ (c.in-Some.ensures found)
    (c.as_slice-2.ensures.value ∙ c.in-Ok-stored_entries.ensures) (c.as_slice-3.ensures.value ∙ c.in-Ok-derived_in_order.ensures ∙ ap in_order (c.as_slice.ensures.value ∙ c.in-Ok.ensures))

pub returns : goal.returns
returns c =
    let variants = c.args.self.now in
    let found = found_entry (contents_of variants) c.args.rule.now in
    differing_is found c.as_slice-2.result.now c.as_slice-3.result.now (stored_entries (nodes_of variants.space.now c.args.index.now.tree)) (wanted_entries variants.versions.now (contents_of variants) c.args.rule.now) _ (c.in-None.ensures found)
    (c.as_slice-2.ensures.value ∙ c.in-Ok-stored_entries.ensures) (c.as_slice-3.ensures.value ∙ c.in-Ok-derived_in_order.ensures ∙ ap in_order (c.as_slice.ensures.value ∙ c.in-Ok.ensures))
