use Rattle.std.proofs.Common.{sym, ◌∙◌, arith}
use Rattle.std.specs.Cmp.{unsigned_Decides}
use Rattle.jet_base.proofs.ByteWords.{AreBytes, same_front, word_of_front}
use Rattle.jet_base.proofs.small_bytes.have_same_front.Goals as goal

pub returns : goal.returns
returns c =
    let own : AreBytes c.args.bytes.now = λ k. omega (arith, c.type_inv.bytes k) in
    let other : AreBytes c.args.other.now = λ k. omega (arith, c.type_inv.other k) in
    let tests = unsigned_Decides c.word_at.result c.word_at-2.result in (
      λ t. same_front c.args.bytes.now c.args.other.now own other c.requires.own c.requires.other (sym c.word_at.ensures ∙ tests.0 t ∙ c.word_at-2.ensures),
      λ e. tests.1 (c.word_at.ensures ∙ word_of_front c.args.bytes.now c.args.other.now e ∙ sym c.word_at-2.ensures),
    )
