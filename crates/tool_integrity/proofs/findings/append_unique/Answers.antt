use Rattle.std.proofs.Common.{◌≡◌, ℕ, List, ◌++◌, OnOk, subst}
use Rattle.std.specs.Prelude.{codes}
use Rattle.image_findings.specs.FindingTexts.{key_digits}
use Rattle.tool_integrity.specs.IntegrityLines.{index_text}
use Rattle.tool_integrity.proofs.Joining.{behind_index, ended}
use Rattle.tool_integrity.proofs.findings.append_unique.Goals as goal

pub returns : goal.returns
returns c =
    let text : List ℕ = c.args.text.now.items in
    let end : List ℕ = c.append_key.new.text.items in
    let first : List ℕ = codes "integrity unique " in
    let second : List ℕ = index_text c.args.table.now c.args.index.now in
    let third : List ℕ = key_digits c.args.key.now in
    subst (λ (t : List ℕ). OnOk c.append_key.result (end ≡ text ++ (first ++ t))) (behind_index c.args.table.now c.args.index.now third)
    (ended c.append_key.result text c.append.new.text.items end first (second ++ third) c.in_ok-append.ensures
    (ended c.append_key.result c.append.new.text.items c.append_index.new.text.items end second third c.in_ok-append_index.ensures
    c.append_key.ensures))
