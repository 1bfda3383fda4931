use Rattle.std.proofs.Common.{◌≡◌, ℕ, ◌-◌, ◌≤◌, min, List, length, get_or, ap, subst, arith, take}
use Rattle.jet_volume.specs.Image.{file_bytes}
use Rattle.checkpoint.specs.Steps.{ClosesGate}
use Rattle.checkpoint.proofs.Follows.{follows_quiet}
use Rattle.checkpoint.proofs.Gates.{close_follows, gate_read}
use Rattle.checkpoint.proofs.gate.close_gate.Goals as goal
use Rattle.checkpoint.proofs.gate.close_gate.Goals.{else-count-eq1-via-then-count-eq1+else-gate-ne-OPEN, else-count-eq1-via-else-count-eq1}

pub returns-in_err-write_at-clause-each : goal.returns-in_err-write_at-clause-each
returns-in_err-write_at-clause-each g c tells =
    let bytes = file_bytes c.args.file (g.V.Volume.seen c.args.volume.now) in
    let same : file_bytes c.args.file (g.V.Volume.seen c.sync.new.self) ≡ bytes = ap (λ i. file_bytes c.args.file i) c.sync.ensures.seen in
    let count : c.in_ok-count.count ≡ min 1 (length bytes - 0) = subst (λ (l : List ℕ). c.in_ok-count.count ≡ min 1 (length l - 0)) same (c.in_ok-count.ensures.count tells) in
    let read : take c.in_ok-count.count c.read.new.into ≡ take c.in_ok-count.count bytes = subst (λ (l : List ℕ). take c.in_ok-count.count c.read.new.into ≡ take c.in_ok-count.count l) same (c.in_ok-count.ensures.bytes tells) in
    let was : 1 ≤ length bytes → get_or bytes 0 0 ≡ 1 = λ some. elim c.else-count-eq1.branch [
      | else-count-eq1-via-then-count-eq1+else-gate-ne-OPEN w ↦ gate_read c.in_ok-count.count c.read.new.into bytes w.if-count-eq1.true read w.if-gate-ne-OPEN.false
      | else-count-eq1-via-else-count-eq1 w ↦ absurd (omega (arith, count, w.if-count-eq1.false, some))
    ] in
    close_follows g.V.Volume.moment g.V.Volume.left_at c.args.volume.now c.sync.new.self c.read.new.self c.write_at.new.self c.args.file bytes was
    c.sync.ensures.time c.sync.ensures.crash c.in_ok-sync.ensures.durable c.read.ensures.time c.read.ensures.crash c.write_at.ensures.time c.write_at.ensures.crash

pub returns-clause-each : goal.returns-clause-each
returns-clause-each g c tells =
    let bytes = file_bytes c.args.file (g.V.Volume.seen c.args.volume.now) in
    let same : file_bytes c.args.file (g.V.Volume.seen c.sync.new.self) ≡ bytes = ap (λ i. file_bytes c.args.file i) c.sync.ensures.seen in
    let count : c.in_ok-count.count ≡ min 1 (length bytes - 0) = subst (λ (l : List ℕ). c.in_ok-count.count ≡ min 1 (length l - 0)) same (c.in_ok-count.ensures.count tells) in
    let read : take c.in_ok-count.count c.read.new.into ≡ take c.in_ok-count.count bytes = subst (λ (l : List ℕ). take c.in_ok-count.count c.read.new.into ≡ take c.in_ok-count.count l) same (c.in_ok-count.ensures.bytes tells) in
    let was : 1 ≤ length bytes → get_or bytes 0 0 ≡ 1 = λ some. elim c.else-count-eq1.branch [
      | else-count-eq1-via-then-count-eq1+else-gate-ne-OPEN w ↦ gate_read c.in_ok-count.count c.read.new.into bytes w.if-count-eq1.true read w.if-gate-ne-OPEN.false
      | else-count-eq1-via-else-count-eq1 w ↦ absurd (omega (arith, count, w.if-count-eq1.false, some))
    ] in
    follows_quiet g.V.Volume.moment g.V.Volume.left_at c.args.volume.now c.write_at.new.self c.sync-2.new.self (ClosesGate c.args.file)
    (close_follows g.V.Volume.moment g.V.Volume.left_at c.args.volume.now c.sync.new.self c.read.new.self c.write_at.new.self c.args.file bytes was
    c.sync.ensures.time c.sync.ensures.crash c.in_ok-sync.ensures.durable c.read.ensures.time c.read.ensures.crash c.write_at.ensures.time c.write_at.ensures.crash)
    c.sync-2.ensures.time c.sync-2.ensures.crash
