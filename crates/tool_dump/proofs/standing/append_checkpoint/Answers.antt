use Rattle.std.proofs.Common.{List, ℕ, ◌++◌}
use Rattle.std.specs.Prelude.{codes}
use Rattle.tool_dump.specs.DumpTexts.{number_line}
use Rattle.tool_dump.proofs.Joining.{ended, joined}
use Rattle.tool_dump.proofs.standing.append_checkpoint.Goals as goal

pub returns : goal.returns
returns c =
    let text : List ℕ = c.args.text.now.items in
    let number : List ℕ = number_line (codes "checkpoint") c.args.number in
    let generation : List ℕ = number_line (codes "generation") c.args.start.generation in
    let offset : List ℕ = number_line (codes "offset") c.args.start.offset in
    let position : List ℕ = number_line (codes "position") c.args.start.position in
    let pages : List ℕ = number_line (codes "pages") c.args.pages in
    let second = joined text c.append_line.new.text.items c.append_line-2.new.text.items number generation c.in_ok-append_line.ensures c.in_ok-append_line-2.ensures in
    let third = joined text c.append_line-2.new.text.items c.append_line-3.new.text.items (number ++ generation) offset second c.in_ok-append_line-3.ensures in
    let fourth = joined text c.append_line-3.new.text.items c.append_line-4.new.text.items (number ++ generation ++ offset) position third c.in_ok-append_line-4.ensures in
    ended c.append_line-5.result text c.append_line-4.new.text.items c.append_line-5.new.text.items (number ++ generation ++ offset ++ position) pages fourth c.append_line-5.ensures
