use Rattle.std.proofs.Common.{◌≡◌, ◌⊎◌, inl, inr, ℕ, List, Bool, true, false, take, drop, sym, ◌∙◌, ap, subst}
use Rattle.jet_volume.specs.Crash.{Torn}
use Rattle.log_ring.specs.Gates.{needs_zero}
use Rattle.log_ring.specs.Writes.{LogIs}
use Rattle.std.proofs.lemmas.Result.{on_ok_weaker}
use Rattle.log_ring.proofs.GateLemmas.{closed_already, closed_anew}
use Rattle.log_ring.proofs.Steps.{log_started, log_looked, log_goes_on, log_is_looked, looked_bytes}
use Rattle.log_ring.proofs.writing.clear_gate.Goals as goal

-- what a crash may leave of the log
abbrev During : Bool → ℕ → List ℕ → List ℕ → Type 0
During counts at log to = (to ≡ log) ⊎ ((needs_zero counts (take 1 (drop at log)) ≡ true) × Torn at 1 log to)

pub returns-in-Err-clause-any_moment : goal.returns-in-Err-clause-any_moment
returns-in-Err-clause-any_moment g c tells log is =
    log_looked g.V.Volume.seen g.V.Volume.moment g.V.Volume.left_at c.args.volume.now c.args.volume.now c.read.new.self (λ from to. During c.args.missing_counts c.args.at log to)
    (log_started g.V.Volume.seen g.V.Volume.moment g.V.Volume.left_at c.args.volume.now (λ from to. During c.args.missing_counts c.args.at log to) (λ image left. inl (is.left image left)))
    c.read.ensures.time c.read.ensures.crash

pub returns-else-needs_zero_by-clause-any_moment : goal.returns-else-needs_zero_by-clause-any_moment
returns-else-needs_zero_by-clause-any_moment g c tells log is =
    log_looked g.V.Volume.seen g.V.Volume.moment g.V.Volume.left_at c.args.volume.now c.args.volume.now c.read.new.self (λ from to. During c.args.missing_counts c.args.at log to)
    (log_started g.V.Volume.seen g.V.Volume.moment g.V.Volume.left_at c.args.volume.now (λ from to. During c.args.missing_counts c.args.at log to) (λ image left. inl (is.left image left)))
    c.read.ensures.time c.read.ensures.crash

pub returns-else-needs_zero_by-clause-ok : goal.returns-else-needs_zero_by-clause-ok
returns-else-needs_zero_by-clause-ok g c tells log is =
    let front = looked_bytes c.in-Ok.count 1 c.args.at c.read.new.into log (g.V.Volume.seen c.args.volume.now).log is.read (c.in-Ok.ensures.count tells) (c.in-Ok.ensures.bytes tells) in
    let test : needs_zero c.args.missing_counts (take 1 (drop c.args.at log)) ≡ false =
    sym (sym c.if-needs_zero_by.false ∙ c.needs_zero_by.ensures ∙ ap (needs_zero c.args.missing_counts) front) in
    subst (LogIs g.V.Volume.seen g.V.Volume.moment g.V.Volume.left_at c.read.new.self) (sym (closed_already c.args.missing_counts c.args.at log test))
    (log_is_looked g.V.Volume.seen g.V.Volume.moment g.V.Volume.left_at c.args.volume.now c.read.new.self log is c.read.ensures.seen c.read.ensures.crash)

pub returns-then-needs_zero_by-clause-ok : goal.returns-then-needs_zero_by-clause-ok
returns-then-needs_zero_by-clause-ok g c tells log is =
    let front = looked_bytes c.in-Ok.count 1 c.args.at c.read.new.into log (g.V.Volume.seen c.args.volume.now).log is.read (c.in-Ok.ensures.count tells) (c.in-Ok.ensures.bytes tells) in
    let test : needs_zero c.args.missing_counts (take 1 (drop c.args.at log)) ≡ true =
    sym (sym c.if-needs_zero_by.true ∙ c.needs_zero_by.ensures ∙ ap (needs_zero c.args.missing_counts) front) in
    on_ok_weaker c.close_gate.result (subst (LogIs g.V.Volume.seen g.V.Volume.moment g.V.Volume.left_at c.close_gate.new.volume) (sym (closed_anew c.args.missing_counts c.args.at log test)))
    (c.close_gate.ensures.ok tells log (log_is_looked g.V.Volume.seen g.V.Volume.moment g.V.Volume.left_at c.args.volume.now c.read.new.self log is c.read.ensures.seen c.read.ensures.crash))

pub returns-then-needs_zero_by-clause-any_moment : goal.returns-then-needs_zero_by-clause-any_moment
returns-then-needs_zero_by-clause-any_moment g c tells log is =
    let front = looked_bytes c.in-Ok.count 1 c.args.at c.read.new.into log (g.V.Volume.seen c.args.volume.now).log is.read (c.in-Ok.ensures.count tells) (c.in-Ok.ensures.bytes tells) in
    let test : needs_zero c.args.missing_counts (take 1 (drop c.args.at log)) ≡ true =
    sym (sym c.if-needs_zero_by.true ∙ c.needs_zero_by.ensures ∙ ap (needs_zero c.args.missing_counts) front) in
    let looked = log_is_looked g.V.Volume.seen g.V.Volume.moment g.V.Volume.left_at c.args.volume.now c.read.new.self log is c.read.ensures.seen c.read.ensures.crash in
    log_goes_on g.V.Volume.seen g.V.Volume.moment g.V.Volume.left_at c.args.volume.now c.read.new.self c.close_gate.new.volume (During c.args.missing_counts c.args.at log) (Torn c.args.at 1) log
    (log_looked g.V.Volume.seen g.V.Volume.moment g.V.Volume.left_at c.args.volume.now c.args.volume.now c.read.new.self (λ from to. During c.args.missing_counts c.args.at log to)
    (log_started g.V.Volume.seen g.V.Volume.moment g.V.Volume.left_at c.args.volume.now (λ from to. During c.args.missing_counts c.args.at log to) (λ image left. inl (is.left image left)))
    c.read.ensures.time c.read.ensures.crash)
    looked.left c.close_gate.ensures.any_moment
    (λ to torn. inr (test, torn))
