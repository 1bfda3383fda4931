use Rattle.std.proofs.Common.{ℕ, List}
use Rattle.std.specs.Prelude.{codes}
use Rattle.std.specs.Fmt.{decimal}
use Rattle.tool_integrity.proofs.Joining.{ended}
use Rattle.tool_integrity.proofs.findings.append_page.Goals as goal

pub returns : goal.returns
returns c =
    let text : List ℕ = c.args.text.now.items in
    let first : List ℕ = codes "integrity pages " in
    let second : List ℕ = decimal c.args.page in
    ended c.append_number.result text c.append.new.text.items c.append_number.new.text.items first second c.in_ok-append.ensures
    c.append_number.ensures
