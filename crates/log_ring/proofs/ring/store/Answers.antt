use Rattle.std.proofs.Common.{◌≡◌, inl, inr, ℕ, ◌+◌, List, [], ◌∷◌, length, take, drop, ◌∙◌, ap, subst}
use Rattle.std.proofs.lemmas.Result.{on_ok_weaker}
use Rattle.jet_volume.specs.Crash.{Torn, written}
use Rattle.jet_volume.specs.declared.files.LogStart.{LogStart}
use Rattle.log_ring.specs.Blocks.{address, behind_gate}
use Rattle.log_ring.specs.Gates.{staged}
use Rattle.log_ring.specs.Appends.{StoringLeaves}
use Rattle.log_ring.specs.Writes.{LogIs}
use Rattle.log_ring.proofs.Spelled.{length-behind_gate}
use Rattle.log_ring.proofs.Steps.{log_weaker, log_goes_on}
use Rattle.log_ring.proofs.ring.store.Goals as goal

stage_is : (gate : ℕ) (piece log : List ℕ) (place : LogStart) (payload : List ℕ) → gate ≡ address place → piece ≡ behind_gate place payload → written (gate + 1) piece log ≡ staged place payload log
stage_is gate piece log place payload at is = ap (λ (k : ℕ). written (k + 1) piece log) at ∙ ap (λ (l : List ℕ). written (address place + 1) l log) is

torn_is : (gate : ℕ) (piece log to : List ℕ) (place : LogStart) (payload : List ℕ) → gate ≡ address place → piece ≡ behind_gate place payload → Torn (gate + 1) (length piece) log to
    → Torn (address place + 1) (21 + length payload) log to
torn_is gate piece log to place payload at is torn =
    subst (λ n. Torn (address place + 1) n log to) (ap length is ∙ length-behind_gate place payload) (subst (λ k. Torn (k + 1) (length piece) log to) at torn)

pub returns-in-Ok-clause-ok : goal.returns-in-Ok-clause-ok
returns-in-Ok-clause-ok g c tells log is =
    let stage = staged c.args.place c.args.payload.now log in
    let piece = drop 1 (take (22 + length c.args.payload.now) c.lay_block.new.buffer) in
    let first : LogIs g.V.Volume.seen g.V.Volume.moment g.V.Volume.left_at c.write_behind.new.volume stage =
    subst (LogIs g.V.Volume.seen g.V.Volume.moment g.V.Volume.left_at c.write_behind.new.volume)
    (stage_is c.address_of-gate.result piece log c.args.place c.args.payload.now c.address_of-gate.ensures.place
    (ap (drop 1) c.lay_block.ensures))
    (c.in-Ok.ensures.ok tells log is) in
    on_ok_weaker c.open_gate.result
    (subst (λ (at : ℕ). LogIs g.V.Volume.seen g.V.Volume.moment g.V.Volume.left_at c.open_gate.new.volume (written at (1 ∷ []) stage)) c.address_of-gate.ensures.place)
    (c.open_gate.ensures.ok tells stage first)

pub returns-in-Err-clause-any_moment : goal.returns-in-Err-clause-any_moment
returns-in-Err-clause-any_moment g c tells log is =
    let piece = drop 1 (take (22 + length c.args.payload.now) c.lay_block.new.buffer) in
    log_weaker g.V.Volume.seen g.V.Volume.moment g.V.Volume.left_at c.args.volume.now c.write_behind.new.volume (Torn (c.address_of-gate.result + 1) (length piece))
    (λ from to. StoringLeaves c.args.place c.args.payload.now log to) c.write_behind.ensures.any_moment
    (λ image to left torn. inl (torn_is c.address_of-gate.result piece log to c.args.place c.args.payload.now c.address_of-gate.ensures.place
    (ap (drop 1) c.lay_block.ensures)
    (subst (λ (l : List ℕ). Torn (c.address_of-gate.result + 1) (length piece) l to) (is.left image left) torn)))

pub returns-in-Ok-clause-any_moment : goal.returns-in-Ok-clause-any_moment
returns-in-Ok-clause-any_moment g c tells log is =
    let stage = staged c.args.place c.args.payload.now log in
    let piece = drop 1 (take (22 + length c.args.payload.now) c.lay_block.new.buffer) in
    let spelled = ap (drop 1) c.lay_block.ensures in
    let first : LogIs g.V.Volume.seen g.V.Volume.moment g.V.Volume.left_at c.write_behind.new.volume stage =
    subst (LogIs g.V.Volume.seen g.V.Volume.moment g.V.Volume.left_at c.write_behind.new.volume)
    (stage_is c.address_of-gate.result piece log c.args.place c.args.payload.now c.address_of-gate.ensures.place spelled)
    (c.in-Ok.ensures.ok tells log is) in
    log_goes_on g.V.Volume.seen g.V.Volume.moment g.V.Volume.left_at c.args.volume.now c.write_behind.new.volume c.open_gate.new.volume
    (StoringLeaves c.args.place c.args.payload.now log) (Torn c.address_of-gate.result 1) stage
    (log_weaker g.V.Volume.seen g.V.Volume.moment g.V.Volume.left_at c.args.volume.now c.write_behind.new.volume (Torn (c.address_of-gate.result + 1) (length piece))
    (λ from to. StoringLeaves c.args.place c.args.payload.now log to) c.write_behind.ensures.any_moment
    (λ image to left torn. inl (torn_is c.address_of-gate.result piece log to c.args.place c.args.payload.now c.address_of-gate.ensures.place spelled
    (subst (λ (l : List ℕ). Torn (c.address_of-gate.result + 1) (length piece) l to) (is.left image left) torn))))
    first.left c.open_gate.ensures.any_moment
    (λ to torn. inr (subst (λ at. Torn at 1 stage to) c.address_of-gate.ensures.place torn))
