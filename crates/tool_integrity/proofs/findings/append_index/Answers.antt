use Rattle.std.proofs.Common.{ℕ, List, ◌++◌}
use Rattle.std.specs.Prelude.{codes}
use Rattle.tool_integrity.proofs.Joining.{ended}
use Rattle.tool_integrity.proofs.findings.append_index.Goals as goal

pub returns : goal.returns
returns c =
    let text : List ℕ = c.args.text.now.items in
    let first : List ℕ = c.args.table.now in
    let second : List ℕ = codes " " in
    let third : List ℕ = c.args.index.now in
    let fourth : List ℕ = codes " " in
    ended c.append-2.result text c.append_name.new.text.items c.append-2.new.text.items first (second ++ (third ++ fourth)) c.in_ok-append_name.ensures
    (ended c.append-2.result c.append_name.new.text.items c.append.new.text.items c.append-2.new.text.items second (third ++ fourth) c.in_ok-append.ensures
    (ended c.append-2.result c.append.new.text.items c.append_name-2.new.text.items c.append-2.new.text.items third fourth c.in_ok-append_name-2.ensures
    c.append-2.ensures))
