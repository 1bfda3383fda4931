use Rattle.std.proofs.Common.{Option, option_map, sym, ap, subst, ◌≡◌}
use Rattle.std.specs.Prelude.{IfOk}
use Rattle.btree_inplace.specs.Trees.{nodes_of}
use Rattle.database_state.specs.Table.{schema_of}
use Rattle.image_contents.specs.FoundEntries.{finding_by, finding_in}
use Rattle.image_contents.specs.ReadVariants.{contents_of}
use Rattle.image_contents.proofs.OpenedIndexes.{legal_found}
use Rattle.index_derive.specs.declared.rules.IndexRule.{IndexRule}
use Rattle.image_contents.proofs.entries.variants.TableVariants.differing_in.Goals as goal

pub differing_by-requires-clause-readable : goal.differing_by-requires-clause-readable
differing_by-requires-clause-readable c = c.requires.readable

pub differing_by-requires-clause-legal : goal.differing_by-requires-clause-legal
differing_by-requires-clause-legal c = legal_found (schema_of c.args.self.now.table.now) c.args.index.now.index.0 c.in-Some.rule.now c.requires.readable.rules (sym c.in-Some.ensures)

pub differing_by-requires-clause-tree : goal.differing_by-requires-clause-tree
differing_by-requires-clause-tree c = c.requires.tree

pub differing_by-requires-clause-rule : goal.differing_by-requires-clause-rule
differing_by-requires-clause-rule c = sym c.in-Some.ensures

pub returns-in-Some : goal.returns-in-Some
returns-in-Some c =
    let variants = c.args.self.now in
    let nodes = nodes_of variants.space.now c.args.index.now.tree in
    subst (λ (rule : Option IndexRule). IfOk c.differing_by.result (λ found. option_map (finding_in variants.table.now) found ≡ finding_by variants.versions.now (contents_of variants) rule nodes)) c.in-Some.ensures c.differing_by.ensures

pub returns-in-None : goal.returns-in-None
returns-in-None c =
    let variants = c.args.self.now in
    ap (λ (rule : Option IndexRule). finding_by variants.versions.now (contents_of variants) rule (nodes_of variants.space.now c.args.index.now.tree)) c.in-None.ensures
