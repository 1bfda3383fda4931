use Rattle.std.proofs.Common.{ℕ, List, ◌++◌}
use Rattle.std.specs.Prelude.{codes}
use Rattle.std.specs.Fmt.{decimal}
use Rattle.image_findings.specs.FindingTexts.{have_want_text}
use Rattle.tool_integrity.proofs.Joining.{ended}
use Rattle.tool_integrity.proofs.findings.append_value.Goals as goal

pub returns : goal.returns
returns c =
    let text : List ℕ = c.args.text.now.items in
    let first : List ℕ = codes "integrity long " in
    let second : List ℕ = decimal c.args.value.now.entry in
    let third : List ℕ = codes " " in
    let fourth : List ℕ = decimal c.args.value.now.place in
    let fifth : List ℕ = have_want_text c.args.value.now.have c.args.value.now.wanted in
    ended c.append_counts.result text c.append.new.text.items c.append_counts.new.text.items first (second ++ (third ++ (fourth ++ fifth))) c.in_ok-append.ensures
    (ended c.append_counts.result c.append.new.text.items c.append_number.new.text.items c.append_counts.new.text.items second (third ++ (fourth ++ fifth)) c.in_ok-append_number.ensures
    (ended c.append_counts.result c.append_number.new.text.items c.append-2.new.text.items c.append_counts.new.text.items third (fourth ++ fifth) c.in_ok-append-2.ensures
    (ended c.append_counts.result c.append-2.new.text.items c.append_number-2.new.text.items c.append_counts.new.text.items fourth fifth c.in_ok-append_number-2.ensures
    c.append_counts.ensures)))
