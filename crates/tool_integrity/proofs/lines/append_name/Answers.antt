use Rattle.std.proofs.Common.{◌≡◌, ◌++◌, ℕ, List, OnOk, subst}
use Rattle.tool_integrity.proofs.lines.append_name.Goals as goal

pub returns : goal.returns
returns c = subst (λ (bytes : List ℕ). OnOk c.append.result (c.append.new.text.items ≡ c.args.text.now.items ++ bytes)) c.as_bytes.ensures c.append.ensures
