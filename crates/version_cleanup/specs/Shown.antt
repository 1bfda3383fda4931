-- What the fields of `Sessions` show, and what they keep.
use Rattle.std.specs.Prelude.{◌≤◌, List, length, IsTrue}
use Rattle.version_cleanup.specs.LiveSessions.{LiveState, are_rising}
use Rattle.version_cleanup.specs.declared.sessions.Sessions.TheInside.{Inside}

abbrev pub shown : Inside → List LiveState
shown a = a.lives.items

pub record AreLive (sessions : List LiveState) : Type 0 where
  pub rising : IsTrue (are_rising sessions)
  pub few : length sessions ≤ 64

abbrev pub IsKept : Inside → Type 0
IsKept a = AreLive a.lives.items
