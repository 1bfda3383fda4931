use Rattle.std.proofs.Common.{List, None, Some, sym, ap, subst, ◌∙◌}
use Rattle.std.specs.Option.{option_map}
use Rattle.btree_inplace.specs.Trees.{nodes_of}
use Rattle.database_state.specs.Table.{Table, schema_of}
use Rattle.long_value.specs.Shown.{shown_values}
use Rattle.page_image.specs.Page.{Node}
use Rattle.image_contents.specs.FirstParts.{HaveFirstParts}
use Rattle.image_contents.specs.LegalRules.{HasLegalRules}
use Rattle.image_contents.specs.RowsRead.{HaveWholeRows}
use Rattle.image_contents.proofs.Least.{least_is}
use Rattle.image_contents.proofs.OpenedRows.{found_is, lacking_is, rising}
use Rattle.image_contents.proofs.rows.pass.unsound_row.Goals as goal

pub missing-missing-requires : goal.missing-missing-requires
missing-missing-requires c = c.requires.1.nodes_tree

pub unsound_node-requires-clause-readable : goal.unsound_node-requires-clause-readable
unsound_node-requires-clause-readable c = record {
  tree = c.requires.1.values_tree;
  parts = subst HaveFirstParts (sym c.requires.1.values_are) c.requires.3.parts;
  rules = subst (λ (table : Table). HasLegalRules (schema_of table)) (sym c.requires.2) c.requires.3.rules;
}

pub unsound_node-requires-clause-tree : goal.unsound_node-requires-clause-tree
unsound_node-requires-clause-tree c = c.requires.1.nodes_tree

pub unsound_node-requires-clause-whole : goal.unsound_node-requires-clause-whole
unsound_node-requires-clause-whole c =
    subst (λ (nodes : List Node). HaveWholeRows (shown_values (nodes_of c.args.space.now c.args.opened.now.long_values)) nodes) (sym c.requires.1.nodes_are)
    (subst (λ (nodes : List Node). HaveWholeRows (shown_values nodes) c.requires.0.nodes) (sym c.requires.1.values_are) c.requires.3.whole)

pub returns-in-Ok-Some : goal.returns-in-Ok-Some
returns-in-Ok-Some c t has same =
    let frames = c.args.space.now in
    let opened = c.args.opened.now in
    ap Some c.lesser.ensures
    ∙ least_is c.args.number c.args.versions.now t (Some c.in-Ok-Some.key.now) (option_map (λ key. key.now) c.missing-missing.result) (rising frames opened t has (c.nodes_of_a_tree_rise.ensures.tree frames opened.nodes has.nodes_tree))
    (ap (option_map (λ key. key.now)) (sym c.in-Ok-Some.field-0-is) ∙ c.in-Ok-Some.ensures ∙ found_is c.args.number c.args.versions.now frames opened c.args.table.now t has same)
    (lacking_is c.args.versions.now frames opened c.args.table.now t c.id.result.0 (option_map (λ key. key.now) c.missing-missing.result) has same c.id.ensures c.missing-missing.ensures)

pub returns-in-Ok-None : goal.returns-in-Ok-None
returns-in-Ok-None c t has same =
    let frames = c.args.space.now in
    let opened = c.args.opened.now in
    least_is c.args.number c.args.versions.now t None (option_map (λ key. key.now) c.missing-missing.result) (rising frames opened t has (c.nodes_of_a_tree_rise.ensures.tree frames opened.nodes has.nodes_tree))
    (ap (option_map (λ key. key.now)) (sym c.in-Ok-None.field-0-is) ∙ c.in-Ok-None.ensures ∙ found_is c.args.number c.args.versions.now frames opened c.args.table.now t has same)
    (lacking_is c.args.versions.now frames opened c.args.table.now t c.id.result.0 (option_map (λ key. key.now) c.missing-missing.result) has same c.id.ensures c.missing-missing.ensures)
