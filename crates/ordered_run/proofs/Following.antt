-- The sessions of a run, line by line.
use Rattle.std.proofs.Common.{◌≡◌, ◌≢◌, ℕ, Bool, true, cond, List, Option, Some, unwrap_or, inl, inr, sym, ap, subst, ◌∙◌, arith}
use Rattle.std.specs.Ordering.{nat_cmp, eq_by_cmp}
use Rattle.std.specs.FinMap.Entries.{find-put}
use Rattle.std.proofs.lemmas.Cmp.{nat_cmp_total}
use Rattle.std.proofs.lemmas.Bool.{ne_eqb}
use Rattle.std.proofs.lemmas.Bool.Decides.{eqb_tells, nat_tests}
use Rattle.std.proofs.Math.Dec.{eqb}
use Rattle.column_set.specs.RecordValues.{lookup_by_number}
use Rattle.session_local.specs.Local.{no_session}
use Rattle.session_local.specs.Outcome.{Outcome}
use Rattle.session_local.specs.Run.{RunState, SessionRun, Line, session_run, after_outcome, last_after}
use Rattle.ordered_run.specs.declared.sessions.RunSession.{RunSession}
use Rattle.ordered_run.specs.Sessions.{session_at, OthersStay, in_run, AreSessionsOf}

eq_by_cmp-eqb : (x y : ℕ) → eq_by_cmp nat_cmp x y ≡ eqb x y
eq_by_cmp-eqb x y = grind (arith, nat_tests)

eq_by_cmp-same : (x : ℕ) → eq_by_cmp nat_cmp x x ≡ true
eq_by_cmp-same x = grind (arith, nat_tests)

-- what a run has of a session, by what is found of it
abbrev seen : Option SessionRun → SessionRun
seen found = unwrap_or found (record { local = no_session; last = 0 })

session_run-after : (run : RunState) (line : Line) (outcome : Outcome) → session_run (after_outcome run line outcome) line.0 ≡ record { local = outcome.local; last = last_after run line outcome }
session_run-after run line outcome =
    let made : SessionRun = record { local = outcome.local; last = last_after run line outcome } in
    ap seen (find-put nat_cmp nat_cmp_total line.0 line.0 made run.sessions
    ∙ ap (λ (b : Bool). cond b (Some made) (lookup_by_number line.0 run.sessions)) (eq_by_cmp-same line.0))

session_run-other : (run : RunState) (line : Line) (outcome : Outcome) (other : ℕ) → other ≢ line.0 → session_run (after_outcome run line outcome) other ≡ session_run run other
session_run-other run line outcome other apart =
    let made : SessionRun = record { local = outcome.local; last = last_after run line outcome } in
    ap seen (find-put nat_cmp nat_cmp_total other line.0 made run.sessions
    ∙ ap (λ (b : Bool). cond b (Some made) (lookup_by_number other run.sessions)) (eq_by_cmp-eqb other line.0 ∙ ne_eqb other line.0 apart))

pub sessions-follow : (before after : List RunSession) (run : RunState) (line : Line) (outcome : Outcome) → AreSessionsOf before run → OthersStay line.0 before after
    → in_run (session_at after line.0) ≡ record { local = outcome.local; last = last_after run line outcome } → AreSessionsOf after (after_outcome run line outcome)
sessions-follow before after run line outcome are stay made label =
    elim (eqb_tells label line.0) [
      | inl same ↦
          subst (λ (l : ℕ). session_run (after_outcome run line outcome) l ≡ in_run (session_at after l)) (sym same.1) (session_run-after run line outcome ∙ sym made)
      | inr other ↦ session_run-other run line outcome label other.1 ∙ are label ∙ ap in_run (sym (stay label other.1))
    ]
