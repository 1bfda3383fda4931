use Rattle.std.proofs.Common.{sym, ◌∙◌, arith}
use Rattle.std.specs.Cmp.{unsigned_Decides}
use Rattle.script_text.proofs.EqualFronts.{AreBytes, same_eight}
use Rattle.script_text.proofs.leading.have_same_eight.Goals as goal

pub returns : goal.returns
returns c = λ t.
    let own : AreBytes c.args.text.now = λ k. omega (arith, c.type_inv.text k) in
    let other : AreBytes c.args.word.now = λ k. omega (arith, c.type_inv.word k) in
    let same = (unsigned_Decides c.from_le_bytes-own.result c.from_le_bytes-other.result).0 t in
    same_eight c.args.at c.args.text.now c.args.word.now own other (sym c.from_le_bytes-own.ensures ∙ same ∙ c.from_le_bytes-other.ensures)
