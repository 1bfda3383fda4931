use Rattle.std.proofs.Common.{ℕ, List, ◌++◌}
use Rattle.std.specs.Prelude.{codes}
use Rattle.image_findings.specs.FindingTexts.{key_digits}
use Rattle.tool_integrity.proofs.Joining.{ended}
use Rattle.tool_integrity.proofs.findings.append_row.Goals as goal

pub returns : goal.returns
returns c =
    let text : List ℕ = c.args.text.now.items in
    let first : List ℕ = codes "integrity row " in
    let second : List ℕ = c.args.table.now in
    let third : List ℕ = codes " " in
    let fourth : List ℕ = key_digits c.args.bookmark.now in
    ended c.append_key.result text c.append.new.text.items c.append_key.new.text.items first (second ++ (third ++ fourth)) c.in_ok-append.ensures
    (ended c.append_key.result c.append.new.text.items c.append_name.new.text.items c.append_key.new.text.items second (third ++ fourth) c.in_ok-append_name.ensures
    (ended c.append_key.result c.append_name.new.text.items c.append-2.new.text.items c.append_key.new.text.items third fourth c.in_ok-append-2.ensures
    c.append_key.ensures))
