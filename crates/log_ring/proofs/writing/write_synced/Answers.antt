use Rattle.std.proofs.Common.{◌≡◌, ℕ, List, length, ◌∙◌, ap}
use Rattle.jet_volume.specs.Image.{Image}
use Rattle.jet_volume.specs.Crash.{Torn, written}
use Rattle.std.proofs.lemmas.Result.{on_ok_weaker}
use Rattle.jet_volume.specs.TornLaws.{unwritten_torn}
use Rattle.log_ring.proofs.Steps.{log_written, log_looked}
use Rattle.log_ring.proofs.writing.write_synced.Goals as goal

pub returns-in-Err-clause-any_moment : goal.returns-in-Err-clause-any_moment
returns-in-Err-clause-any_moment g c =
    log_written g.V.Volume.seen g.V.Volume.moment g.V.Volume.left_at c.args.volume.now c.write_at.new.self c.args.at (length c.args.piece.now) (unwritten_torn c.args.at (length c.args.piece.now)) c.write_at.ensures.time c.write_at.ensures.crash

pub returns-in-Ok-clause-any_moment : goal.returns-in-Ok-clause-any_moment
returns-in-Ok-clause-any_moment g c =
    log_looked g.V.Volume.seen g.V.Volume.moment g.V.Volume.left_at c.args.volume.now c.write_at.new.self c.sync.new.self (Torn c.args.at (length c.args.piece.now))
    (log_written g.V.Volume.seen g.V.Volume.moment g.V.Volume.left_at c.args.volume.now c.write_at.new.self c.args.at (length c.args.piece.now) (unwritten_torn c.args.at (length c.args.piece.now)) c.write_at.ensures.time c.write_at.ensures.crash)
    c.sync.ensures.time c.sync.ensures.crash

pub returns-in-Ok-clause-ok : goal.returns-in-Ok-clause-ok
returns-in-Ok-clause-ok g c tells log is =
    let here : (g.V.Volume.seen c.write_at.new.self).log ≡ written c.args.at c.args.piece.now log =
    ap (λ (i : Image). i.log) (c.in-Ok.ensures.written tells) ∙ ap (λ (l : List ℕ). written c.args.at c.args.piece.now l) is.read in
    on_ok_weaker c.sync.result (λ durable. record {
      read = ap (λ (i : Image). i.log) c.sync.ensures.seen ∙ here;
      left = λ image left. durable image left ∙ here;
    }) c.sync.ensures.durable
