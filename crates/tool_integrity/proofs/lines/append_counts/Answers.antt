use Rattle.std.proofs.Common.{ℕ, List, ◌++◌}
use Rattle.std.specs.Prelude.{codes}
use Rattle.std.specs.Fmt.{decimal}
use Rattle.tool_integrity.proofs.Joining.{ended}
use Rattle.tool_integrity.proofs.lines.append_counts.Goals as goal

pub returns : goal.returns
returns c =
    let text : List ℕ = c.args.text.now.items in
    let first : List ℕ = codes " have " in
    let second : List ℕ = decimal c.args.have in
    let third : List ℕ = codes " want " in
    let fourth : List ℕ = decimal c.args.want in
    ended c.append_number-2.result text c.append.new.text.items c.append_number-2.new.text.items first (second ++ (third ++ fourth)) c.in_ok-append.ensures
    (ended c.append_number-2.result c.append.new.text.items c.append_number.new.text.items c.append_number-2.new.text.items second (third ++ fourth) c.in_ok-append_number.ensures
    (ended c.append_number-2.result c.append_number.new.text.items c.append-2.new.text.items c.append_number-2.new.text.items third fourth c.in_ok-append-2.ensures
    c.append_number-2.ensures))
