use Rattle.std.proofs.Common.{List, ℕ, [], ◌∷◌, ◌++◌, length}
use Rattle.std.specs.Prelude.{codes}
use Rattle.image_findings.specs.TreeFindings.{nodes_below, pages_below}
use Rattle.std.proofs.Common.{◌∙◌, ap}
use Rattle.tool_dump.specs.SpaceTexts.{counts_text}
use Rattle.tool_dump.proofs.Telling.{index_told, index_whole, on_ok, primary_told, told_behind}
use Rattle.tool_dump.proofs.pages.append_index.Goals as goal

pub returns-then-index : goal.returns-then-index
returns-then-index c = primary_told c.args.space.now c.args.table.now c.args.index.now c.args.text.now.items c.args.marks.now c.if-index.true

pub append_nodes-requires : goal.append_nodes-requires
append_nodes-requires c = index_whole c.args.space.now c.args.index.now c.args.marks.now c.if-index.false c.requires

pub returns : goal.returns
returns c =
    let frames = c.args.space.now in
    let index = c.args.index.now in
    let table : List ℕ = c.args.table.now in
    let text : List ℕ = c.args.text.now.items in
    let counts : List ℕ = counts_text (codes "nodes") (length (nodes_below frames index.0)) (length (pages_below frames index.0)) in
    let named = c.in_ok-append_index_name.ensures ∙ ap (λ (name : List ℕ). text ++ (codes "tree " ++ (table ++ codes " " ++ name))) c.as_bytes.ensures in
    on_ok c.append_nodes.result
    (λ told. index_told frames table index text c.append_nodes.new.text.items c.args.marks.now c.append_nodes.new.marks c.if-index.false
    (told_behind frames (index.0 ∷ []) (codes "tree " ++ (table ++ codes " " ++ index.1.name)) counts text c.append_index_name.new.text.items c.append_nodes.new.text.items c.args.marks.now c.append_nodes.new.marks named told)) c.append_nodes.ensures
