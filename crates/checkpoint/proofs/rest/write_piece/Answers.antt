use Rattle.checkpoint.proofs.Pieces.{nothing_follows, piece_follows}
use Rattle.checkpoint.proofs.rest.write_piece.Goals as goal

pub returns-then-is_empty-clause-each : goal.returns-then-is_empty-clause-each
returns-then-is_empty-clause-each g c = nothing_follows g.V.Volume.moment g.V.Volume.left_at c.args.volume.now c.args.file

pub returns-clause-each : goal.returns-clause-each
returns-clause-each g c =
    piece_follows g.V.Volume.moment g.V.Volume.left_at c.args.volume.now c.write_at.new.self c.args.file c.args.at _ c.requires.behind c.write_at.ensures.time c.write_at.ensures.crash
