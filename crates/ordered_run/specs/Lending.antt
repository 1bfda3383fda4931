-- What the sessions are once one that was lent was written.
use Rattle.std.specs.Prelude.{ℕ, List}
use Rattle.std.specs.Borrow.{Lends, MutBor, Fml}
use Rattle.session_local.specs.SessionSide.{SessionSide}
use Rattle.session_local.specs.contracts.local.Local as local
use Rattle.ordered_run.specs.declared.sessions.RunSession.{RunSession}
use Rattle.ordered_run.specs.contracts.sessions.RunSessions.{the_row}
use Rattle.ordered_run.specs.Sessions.{with_local}

-- They end with the last value behind r as the own side of the session.
abbrev pub LendsLocal : MutBor (List RunSession) → ℕ → MutBor SessionSide → Fml
LendsLocal s label r = Lends the_row local.the_row s r (with_local s.now label)
