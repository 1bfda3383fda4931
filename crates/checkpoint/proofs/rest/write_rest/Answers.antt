use Rattle.std.proofs.Common.{◌≡◌, ℕ, ◌+◌, ◌++◌, List, length, take, ◌∙◌, ap, arith, append_assoc, length-append}
use Rattle.byteorder.specs.Endian.{little_bytes}
use Rattle.jet_volume.specs.Image.{file_bytes}
use Rattle.checkpoint.proofs.Pieces.{OnOk_from, pieces_follow}
use Rattle.checkpoint.specs.Steps.{KeepsFirst}
use Rattle.checkpoint.proofs.Follows.{follows_quiet}
use Rattle.checkpoint.proofs.rest.write_rest.Goals as goal

pub returns-in_err-write_piece-2-clause-each : goal.returns-in_err-write_piece-2-clause-each
returns-in_err-write_piece-2-clause-each g c =
    pieces_follow g.V.Volume.moment g.V.Volume.left_at c.args.volume.now c.write_piece.new.volume c.write_piece-2.new.volume c.args.file c.write_piece.ensures.each c.write_piece-2.ensures.each

pub returns-in_err-write_live-clause-each : goal.returns-in_err-write_live-clause-each
returns-in_err-write_live-clause-each g c =
    pieces_follow g.V.Volume.moment g.V.Volume.left_at c.args.volume.now c.write_piece-2.new.volume c.write_live.new.volume c.args.file
    (pieces_follow g.V.Volume.moment g.V.Volume.left_at c.args.volume.now c.write_piece.new.volume c.write_piece-2.new.volume c.args.file c.write_piece.ensures.each c.write_piece-2.ensures.each)
    c.write_live.ensures.each

pub returns-clause-each : goal.returns-clause-each
returns-clause-each g c =
    follows_quiet g.V.Volume.moment g.V.Volume.left_at c.args.volume.now c.write_live.new.volume c.sync.new.self (KeepsFirst c.args.file)
    (pieces_follow g.V.Volume.moment g.V.Volume.left_at c.args.volume.now c.write_piece-2.new.volume c.write_live.new.volume c.args.file
    (pieces_follow g.V.Volume.moment g.V.Volume.left_at c.args.volume.now c.write_piece.new.volume c.write_piece-2.new.volume c.args.file c.write_piece.ensures.each c.write_piece-2.ensures.each)
    c.write_live.ensures.each)
    c.sync.ensures.time c.sync.ensures.crash

pub returns-clause-written : goal.returns-clause-written
returns-clause-written g c =
    let size = little_bytes 4 (length c.args.live.now) in
    let head = c.args.head.now in
    let slots = c.args.slots.now in
    let live = c.args.live.now in
    let T : g.row.V.Denot → List ℕ = λ v. file_bytes c.args.file (g.V.Volume.seen v) in
    OnOk_from c.sync.result
    (λ tells gate long is.
    let fits : 54 ≡ 1 + length head = omega (arith, c.requires.head) in
    let a1 : take 54 (T c.write_piece.new.volume) ≡ gate ++ head = ap (λ k. take k (T c.write_piece.new.volume)) fits ∙ c.in_ok-write_piece.ensures.written tells gate long is in
    let a2 : take (54 + length slots) (T c.write_piece-2.new.volume) ≡ (gate ++ head) ++ slots =
    c.in_ok-write_piece-2.ensures.written tells (gate ++ head) (omega (arith, length-append gate head, long, c.requires.head)) a1 in
    let a3 : take (54 + length slots + 4 + length live) (T c.write_live.new.volume) ≡ ((gate ++ head) ++ slots) ++ (size ++ live) =
    c.in_ok-write_live.ensures.written tells ((gate ++ head) ++ slots) (omega (arith, length-append (gate ++ head) slots, length-append gate head, long, c.requires.head)) a2 in
    let total : 58 + length slots + length live ≡ 54 + length slots + 4 + length live = omega arith in
    ap (λ i. take (58 + length slots + length live) (file_bytes c.args.file i)) c.sync.ensures.seen
    ∙ ap (λ k. take k (T c.write_live.new.volume)) total ∙ a3 ∙ append_assoc (gate ++ head) slots (size ++ live) ∙ append_assoc gate head (slots ++ (size ++ live)))
