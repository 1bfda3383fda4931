-- States that differ in undone changes, and what these tell of an answer: they take room in the version store, and nothing else.
use Rattle.std.specs.Prelude.{◌≡◌, ℕ, Bool, true, false, not, ◌&&◌, List, [], ◌∷◌, filter, sum_by}
use Rattle.jet_base.specs.declared.replies.Jet.{Jet}
use Rattle.jet_base.specs.declared.replies.Jet.TheVariants as jet
use Rattle.database_state.specs.Equivalence.{AreEquivalent}
use Rattle.database_state.specs.State.{DatabaseState, PastChange, is_undone}
use Rattle.database_state.specs.VersionStore.{cost_of, from_oldest_needed}
use Rattle.laws_versions.specs.History.{HasHistory}
use Rattle.session_local.specs.Outcome.{Outcome}
use Rattle.session_local.specs.Run.{Line, LineOutcome, RunState, outcome_of, run_after}

-- ---- room in the version store

-- What undone changes take of the version store's span: the costs of those from the oldest needed change on.
abbrev pub undone_span : DatabaseState → ℕ
undone_span state = sum_by (λ item. cost_of item.change item.before) (filter (λ item. is_undone item.status) (from_oldest_needed state.sessions state.past))

abbrev pub tells_no_room : Jet → Bool
tells_no_room jet.VersionStoreOutOfMemory = true
tells_no_room _ = false

-- whether a call is refused since the version store has no room for its change
abbrev pub is_out_of_room : Outcome → Bool
is_out_of_room outcome = tells_no_room outcome.answered.jet

-- whether the version store has room for the changes of all lines of a run
abbrev pub have_room : ℕ → RunState → List (Line × LineOutcome) → Bool
have_room limit run [] = true
have_room limit run (pair ∷ pairs) = not (is_out_of_room (outcome_of limit run pair.0)) && have_room limit (run_after limit run pair.0 pair.1) pairs

-- ---- states without some of their undone changes

-- A past without the changes that are marked, from the oldest one on. Those behind the marks stay.
abbrev pub without_marked : List Bool → List PastChange → List PastChange
without_marked [] past = past
without_marked (mark ∷ marks) [] = []
without_marked (true ∷ marks) (item ∷ past) = without_marked marks past
without_marked (false ∷ marks) (item ∷ past) = item ∷ without_marked marks past

-- each marked change is there, and is undone
abbrev pub AreUndone : List Bool → List PastChange → Type 0
AreUndone [] past = Unit {0}
AreUndone (mark ∷ marks) [] = ⊥
AreUndone (true ∷ marks) (item ∷ past) = (is_undone item.status ≡ true) × AreUndone marks past
AreUndone (false ∷ marks) (item ∷ past) = AreUndone marks past

abbrev pub lighter : List Bool → DatabaseState → DatabaseState
lighter marks state = record state { past = without_marked marks state.past }

-- Two states differ in undone changes where the other one is equivalent to the one without some that are undone. These are
-- the oldest ones that the one has, so that the same are meant after each entry.
pub record DiffersInUndone (one other : DatabaseState) : Type 0 where
  pub marks : List Bool
  pub undone : AreUndone marks one.past
  pub history : HasHistory (lighter marks one)
  pub equivalent : AreEquivalent (lighter marks one) other
