use Rattle.std.proofs.Common.{◌≡◌, ◌++◌, ℕ, List, OnOk, subst}
use Rattle.image_findings.specs.FindingTexts.{key_digits}
use Rattle.tool_integrity.proofs.lines.append_key.Goals as goal

pub returns : goal.returns
returns c =
    subst (λ (bytes : List ℕ). OnOk c.append_digits.result (c.append_digits.new.text.items ≡ c.args.text.now.items ++ key_digits bytes)) c.as_bytes.ensures c.append_digits.ensures
