-- A session's own side, as contracts see it.
use Rattle.std.specs.Prelude.{ℕ, Bool, true, ◌==◌, not, ◌&&◌, List, [], ◌∷◌}
use Rattle.std.specs.List.{list_any}
use Rattle.session_local.specs.declared.open_temp.OpenTemp.{OpenTemp}
use Rattle.session_local.specs.Local.{LocalState, OpenCursor}

-- the label of the session, its own state, and the bytes of its reply buffer: none before the session begins
pub record SessionSide : Type 0 where
  pub session : ℕ
  pub state : LocalState
  pub reply : List ℕ

-- what a session holds from its begin to its end
pub record HeldState : Type 0 where
  pub cursors : List OpenCursor
  pub temps : List OpenTemp
  pub reply : List ℕ

abbrev pub label_of : OpenCursor → ℕ
label_of c = c.label

-- no label stands twice
abbrev pub are_distinct : List ℕ → Bool
are_distinct [] = true
are_distinct (label ∷ labels) = not (list_any (λ other. other == label) labels) && are_distinct labels
