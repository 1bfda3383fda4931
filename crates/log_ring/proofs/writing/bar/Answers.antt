use Rattle.std.proofs.Common.{◌≡◌, ◌⊎◌, inl, inr, ℕ, List, [], ◌∷◌, true, false, take, drop, sym, ◌∙◌, ap, subst}
use Rattle.jet_volume.specs.Crash.{Torn, written}
use Rattle.log_ring.specs.Blocks.{slot_start}
use Rattle.log_ring.specs.Gates.{bars, is_barred, barred}
use Rattle.log_ring.specs.Writes.{LogIs}
use Rattle.std.proofs.lemmas.Result.{on_ok_weaker}
use Rattle.log_ring.proofs.GateLemmas.{barred_already, barred_anew}
use Rattle.log_ring.proofs.Steps.{log_started, log_looked, log_goes_on, log_is_looked, looked_bytes}
use Rattle.log_ring.proofs.writing.bar.Goals as goal

-- what a crash may leave of the log
abbrev During : ℕ → List ℕ → List ℕ → Type 0
During generation log to = (to ≡ log) ⊎ ((is_barred generation log ≡ false) × Torn (slot_start generation) 1 log to)

pub returns-in-Err-clause-any_moment : goal.returns-in-Err-clause-any_moment
returns-in-Err-clause-any_moment g c tells log is =
    log_looked g.V.Volume.seen g.V.Volume.moment g.V.Volume.left_at c.args.volume.now c.args.volume.now c.read.new.self (λ from to. During c.args.generation log to)
    (log_started g.V.Volume.seen g.V.Volume.moment g.V.Volume.left_at c.args.volume.now (λ from to. During c.args.generation log to) (λ image left. inl (is.left image left)))
    c.read.ensures.time c.read.ensures.crash

pub returns-then-is_barred_by-clause-any_moment : goal.returns-then-is_barred_by-clause-any_moment
returns-then-is_barred_by-clause-any_moment g c tells log is =
    log_looked g.V.Volume.seen g.V.Volume.moment g.V.Volume.left_at c.args.volume.now c.args.volume.now c.read.new.self (λ from to. During c.args.generation log to)
    (log_started g.V.Volume.seen g.V.Volume.moment g.V.Volume.left_at c.args.volume.now (λ from to. During c.args.generation log to) (λ image left. inl (is.left image left)))
    c.read.ensures.time c.read.ensures.crash

pub returns-then-is_barred_by-clause-ok : goal.returns-then-is_barred_by-clause-ok
returns-then-is_barred_by-clause-ok g c tells log is =
    let front = looked_bytes c.in-Ok.count 9 c.slot_start_of-at.result c.read.new.into log (g.V.Volume.seen c.args.volume.now).log is.read (c.in-Ok.ensures.count tells) (c.in-Ok.ensures.bytes tells) in
    let test : is_barred c.args.generation log ≡ true =
    sym (sym c.if-is_barred_by.true ∙ c.is_barred_by.ensures ∙ ap (bars c.args.generation) front ∙ ap (λ (at : ℕ). bars c.args.generation (take 9 (drop at log))) c.slot_start_of-at.ensures.place) in
    subst (LogIs g.V.Volume.seen g.V.Volume.moment g.V.Volume.left_at c.read.new.self) (sym (barred_already c.args.generation log test))
    (log_is_looked g.V.Volume.seen g.V.Volume.moment g.V.Volume.left_at c.args.volume.now c.read.new.self log is c.read.ensures.seen c.read.ensures.crash)

pub returns-else-is_barred_by-clause-ok : goal.returns-else-is_barred_by-clause-ok
returns-else-is_barred_by-clause-ok g c tells log is =
    let front = looked_bytes c.in-Ok.count 9 c.slot_start_of-at.result c.read.new.into log (g.V.Volume.seen c.args.volume.now).log is.read (c.in-Ok.ensures.count tells) (c.in-Ok.ensures.bytes tells) in
    let test : is_barred c.args.generation log ≡ false =
    sym (sym c.if-is_barred_by.false ∙ c.is_barred_by.ensures ∙ ap (bars c.args.generation) front ∙ ap (λ (at : ℕ). bars c.args.generation (take 9 (drop at log))) c.slot_start_of-at.ensures.place) in
    let log_is : written c.slot_start_of-at.result (0 ∷ []) log ≡ barred c.args.generation log =
    ap (λ (at : ℕ). written at (0 ∷ []) log) c.slot_start_of-at.ensures.place ∙ sym (barred_anew c.args.generation log test) in
    on_ok_weaker c.close_gate.result (subst (LogIs g.V.Volume.seen g.V.Volume.moment g.V.Volume.left_at c.close_gate.new.volume) log_is)
    (c.close_gate.ensures.ok tells log (log_is_looked g.V.Volume.seen g.V.Volume.moment g.V.Volume.left_at c.args.volume.now c.read.new.self log is c.read.ensures.seen c.read.ensures.crash))

pub returns-else-is_barred_by-clause-any_moment : goal.returns-else-is_barred_by-clause-any_moment
returns-else-is_barred_by-clause-any_moment g c tells log is =
    let front = looked_bytes c.in-Ok.count 9 c.slot_start_of-at.result c.read.new.into log (g.V.Volume.seen c.args.volume.now).log is.read (c.in-Ok.ensures.count tells) (c.in-Ok.ensures.bytes tells) in
    let test : is_barred c.args.generation log ≡ false =
    sym (sym c.if-is_barred_by.false ∙ c.is_barred_by.ensures ∙ ap (bars c.args.generation) front ∙ ap (λ (at : ℕ). bars c.args.generation (take 9 (drop at log))) c.slot_start_of-at.ensures.place) in
    let looked = log_is_looked g.V.Volume.seen g.V.Volume.moment g.V.Volume.left_at c.args.volume.now c.read.new.self log is c.read.ensures.seen c.read.ensures.crash in
    log_goes_on g.V.Volume.seen g.V.Volume.moment g.V.Volume.left_at c.args.volume.now c.read.new.self c.close_gate.new.volume (During c.args.generation log) (Torn c.slot_start_of-at.result 1) log
    (log_looked g.V.Volume.seen g.V.Volume.moment g.V.Volume.left_at c.args.volume.now c.args.volume.now c.read.new.self (λ from to. During c.args.generation log to)
    (log_started g.V.Volume.seen g.V.Volume.moment g.V.Volume.left_at c.args.volume.now (λ from to. During c.args.generation log to) (λ image left. inl (is.left image left)))
    c.read.ensures.time c.read.ensures.crash)
    looked.left c.close_gate.ensures.any_moment
    (λ to torn. inr (test, subst (λ at. Torn at 1 log to) c.slot_start_of-at.ensures.place torn))
