-- The three writes are the length, the piece and the zeros.
use Rattle.std.proofs.Common.{◌++◌, ap, ◌∙◌, arith}
use Rattle.version_bucket.proofs.LayoutLemmas.{stored-written}
use Rattle.version_bucket.proofs.held.Held.append.Goals as goal

pub returns-clause-bytes : goal.returns-clause-bytes
returns-clause-bytes c =
    stored-written c.args.self.now.memory.bytes c.write.new.self.bytes c.write-2.new.self.bytes c.write-3.new.self.bytes c.args.piece.now c.next_multiple_of.result
    (c.write.ensures ∙ ap (λ l. c.args.self.now.memory.bytes ++ l) c.to_le_bytes.ensures) c.write-2.ensures c.write-3.ensures (omega (arith, c.next_multiple_of.ensures))
