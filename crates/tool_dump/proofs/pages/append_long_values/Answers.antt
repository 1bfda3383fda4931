use Rattle.std.proofs.Common.{List, ℕ, [], ◌∷◌, ◌++◌, length}
use Rattle.std.specs.Prelude.{codes}
use Rattle.image_findings.specs.TreeFindings.{nodes_below, pages_below}
use Rattle.tool_dump.specs.SpaceTexts.{counts_text, value_count}
use Rattle.tool_dump.proofs.Telling.{on_ok, told_behind}
use Rattle.tool_dump.proofs.pages.append_long_values.Goals as goal

pub append_values-requires : goal.append_values-requires
append_values-requires c = c.requires

pub returns : goal.returns
returns c =
    let frames = c.args.space.now in
    let counts : List ℕ = counts_text (codes "long") (value_count (nodes_below frames c.args.root)) (length (pages_below frames c.args.root)) in
    on_ok c.append_values.result
    (told_behind frames (c.args.root ∷ []) (codes "tree " ++ c.args.table.now) counts c.args.text.now.items c.append_name.new.text.items c.append_values.new.text.items c.args.marks.now c.append_values.new.marks c.in_ok-append_name.ensures) c.append_values.ensures
