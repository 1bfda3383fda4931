use Rattle.std.proofs.Common.{List, ℕ, ◌∙◌, ap}
use Rattle.std.specs.Prelude.{codes}
use Rattle.image_findings.specs.CatalogFindings.{CatalogTold}
use Rattle.image_findings.specs.Findings.{roots_told}
use Rattle.tool_dump.specs.SpaceTexts.{nodes_line}
use Rattle.tool_dump.proofs.Telling.{all_trees_told, asks_of_tables, first_whole, sound_trees}
use Rattle.tool_dump.proofs.pages.append_told.Goals as goal

pub append_tree-requires : goal.append_tree-requires
append_tree-requires c = first_whole c.args.space.now c.args.root (roots_told c.args.told.now) c.args.marks.now (sound_trees c.args.space.now c.args.root c.args.told.now c.args.marks.now c.requires.sound c.requires.told c.requires.marks)

pub append_tables-requires : goal.append_tables-requires
append_tables-requires c =
    asks_of_tables c.args.space.now c.args.root c.args.told.now c.as_slice.result.now c.args.text.now.items c.append_tree.new.text.items (nodes_line c.args.space.now (codes "catalog") (codes "nodes") c.args.root) c.args.marks.now c.append_tree.new.marks
    (c.as_slice.ensures.value ∙ ap (λ (t : CatalogTold). t.tables) c.told.view_is) (sound_trees c.args.space.now c.args.root c.args.told.now c.args.marks.now c.requires.sound c.requires.told c.requires.marks) c.in_ok-append_tree.ensures

pub returns : goal.returns
returns c =
    all_trees_told c.append_tables.result c.args.space.now c.args.root c.args.told.now c.as_slice.result.now c.args.text.now.items c.append_tree.new.text.items c.append_tables.new.text.items c.args.marks.now c.append_tree.new.marks c.append_tables.new.marks
    (c.as_slice.ensures.value ∙ ap (λ (t : CatalogTold). t.tables) c.told.view_is) c.requires.told c.in_ok-append_tree.ensures c.append_tables.ensures
