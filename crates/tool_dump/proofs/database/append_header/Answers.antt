use Rattle.std.proofs.Common.{List, ℕ, ◌++◌, ◌∙◌, ap}
use Rattle.std.specs.Prelude.{Bool, ◌||◌, codes}
use Rattle.tool_dump.specs.DumpTexts.{number_line, state_line}
use Rattle.tool_dump.proofs.Joining.{ended, joined}
use Rattle.tool_dump.proofs.database.append_header.Goals as goal

pub returns : goal.returns
returns c =
    let header = c.args.header.now in
    let text : List ℕ = c.args.text.now.items in
    let state : List ℕ = state_line (header.has_session || header.has_entry) in
    let format : List ℕ = number_line (codes "format") header.format in
    let number : List ℕ = number_line (codes "number") header.number in
    let tables : List ℕ = number_line (codes "tables") header.tables in
    let first = c.in_ok-append_state.ensures ∙ ap (λ (b : Bool). text ++ state_line b) c.is_dirty.ensures in
    let second = joined text c.append_state.new.text.items c.append_line.new.text.items state format first c.in_ok-append_line.ensures in
    let third = joined text c.append_line.new.text.items c.append_line-2.new.text.items (state ++ format) number second c.in_ok-append_line-2.ensures in
    ended c.append_line-3.result text c.append_line-2.new.text.items c.append_line-3.new.text.items (state ++ format ++ number) tables third c.append_line-3.ensures
