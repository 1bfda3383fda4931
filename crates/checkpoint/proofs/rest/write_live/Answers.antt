use Rattle.std.proofs.Common.{◌≡◌, ℕ, ◌+◌, ◌++◌, List, length, take, ◌∙◌, subst, arith, append_assoc, length-append}
use Rattle.std.proofs.lemmas.Result.{on_ok_weaker}
use Rattle.byteorder.specs.Endian.{little_bytes}
use Rattle.jet_volume.specs.Image.{file_bytes}
use Rattle.checkpoint.proofs.Pieces.{pieces_follow}
use Rattle.checkpoint.proofs.rest.write_live.Goals as goal

pub returns-clause-each : goal.returns-clause-each
returns-clause-each g c =
    pieces_follow g.V.Volume.moment g.V.Volume.left_at c.args.volume.now c.write_piece.new.volume c.write_piece-2.new.volume c.args.file c.write_piece.ensures.each c.write_piece-2.ensures.each

pub returns-clause-written : goal.returns-clause-written
returns-clause-written g c =
    let size = little_bytes 4 (length c.args.live.now) in
    on_ok_weaker c.write_piece-2.result
    (λ last tells front long is.
    let first : take (c.args.at + 4) (file_bytes c.args.file (g.V.Volume.seen c.write_piece.new.volume)) ≡ front ++ size =
    subst (λ (l : List ℕ). take (c.args.at + length l) (file_bytes c.args.file (g.V.Volume.seen c.write_piece.new.volume)) ≡ front ++ l) c.write_u32.ensures (c.in_ok-write_piece.ensures.written tells front long is) in
    last tells (front ++ size) (omega (arith, length-append front size, long)) first ∙ append_assoc front size c.args.live.now)
    c.write_piece-2.ensures.written
