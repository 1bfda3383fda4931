use Rattle.std.proofs.Common.{ℕ, List, [], ◌∷◌, ◌++◌}
use Rattle.std.specs.Prelude.{codes}
use Rattle.std.specs.Fmt.{decimal}
use Rattle.tool_integrity.proofs.Joining.{ended}
use Rattle.tool_integrity.proofs.findings.append_clean.Goals as goal

pub returns : goal.returns
returns c =
    let text : List ℕ = c.args.text.now.items in
    let first : List ℕ = codes "integrity clean number " in
    let second : List ℕ = decimal c.args.number in
    let third : List ℕ = codes " tables " in
    let fourth : List ℕ = decimal c.args.tables in
    let fifth : List ℕ = 10 ∷ [] in
    ended c.append-3.result text c.append.new.text.items c.append-3.new.text.items first (second ++ (third ++ (fourth ++ fifth))) c.in_ok-append.ensures
    (ended c.append-3.result c.append.new.text.items c.append_number.new.text.items c.append-3.new.text.items second (third ++ (fourth ++ fifth)) c.in_ok-append_number.ensures
    (ended c.append-3.result c.append_number.new.text.items c.append-2.new.text.items c.append-3.new.text.items third (fourth ++ fifth) c.in_ok-append-2.ensures
    (ended c.append-3.result c.append-2.new.text.items c.append_number-2.new.text.items c.append-3.new.text.items fourth fifth c.in_ok-append_number-2.ensures
    c.append-3.ensures)))
