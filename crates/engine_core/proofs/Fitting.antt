-- What lawful entries of sessions say of the engine's sessions.
use Rattle.std.proofs.Common.{◌≡◌, ℕ, ◌<◌, ◌≤◌, true, false, not, length, sym, subst, ◌∙◌}
use Rattle.std.specs.Prelude.{nat_le, nat_lt}
use Rattle.std.proofs.lemmas.Bool.{leb-true, ltb-true, not-true}
use Rattle.common_lemmas.proofs.Booleans.{and_left, and_right}
use Rattle.index_derive.specs.declared.log.EntryKind.{EntryKind}
use Rattle.index_derive.specs.declared.log.EntryKind.TheVariants as entry
use Rattle.database_state.specs.State.{DatabaseState, levels}
use Rattle.database_state.specs.Lawful.{has_number, is_lawful, is_lawful_kind, is_live as is_live_in}
use Rattle.database_state.specs.Step.{entry_by}
use Rattle.version_cleanup.specs.LiveSessions.{is_live, levels_in}
use Rattle.laws_engine.specs.EngineState.{EngineState}
use Rattle.laws_engine.specs.HoldsState.{HoldsState}
use Rattle.engine_core.specs.Steps.{MayCome}

-- what is lawful at all, by its kind
pub lawful_by_kind : (state : DatabaseState) (session : ℕ) (kind : EntryKind) → is_lawful state (entry_by session kind) ≡ true → is_lawful_kind state session kind ≡ true
unfolding is_lawful
lawful_by_kind state session kind h = and_right (has_number state.number kind) (is_lawful_kind state session kind) h

abbrev pub TellsLive : Type 0
TellsLive = (engine : EngineState) (state : DatabaseState) → HoldsState engine state → (session : ℕ) → is_live session engine.sessions ≡ is_live_in state session

abbrev pub TellsCount : Type 0
TellsCount = (engine : EngineState) (state : DatabaseState) → HoldsState engine state → length engine.sessions ≡ length state.sessions

abbrev pub TellsLevels : Type 0
TellsLevels = (engine : EngineState) (state : DatabaseState) → HoldsState engine state → (session : ℕ) → levels_in session engine.sessions ≡ levels state session

pub label_new : TellsLive → (engine : EngineState) (session : ℕ) → MayCome engine (entry_by session entry.Enter) → is_live session engine.sessions ≡ false
label_new told engine session may =
    told engine may.state may.holds session
    ∙ not-true (is_live_in may.state session) (and_left (not (is_live_in may.state session)) (nat_lt (length may.state.sessions) 64) (lawful_by_kind may.state session entry.Enter may.lawful))

pub sessions_few : TellsCount → (engine : EngineState) (session : ℕ) → MayCome engine (entry_by session entry.Enter) → length engine.sessions < 64
sessions_few told engine session may =
    subst (λ (n : ℕ). n < 64) (sym (told engine may.state may.holds))
    (ltb-true (length may.state.sessions) 64 (and_right (not (is_live_in may.state session)) (nat_lt (length may.state.sessions) 64) (lawful_by_kind may.state session entry.Enter may.lawful)))

pub levels_few : TellsLevels → (engine : EngineState) (session : ℕ) → MayCome engine (entry_by session entry.Save) → levels_in session engine.sessions ≤ 6
levels_few told engine session may =
    subst (λ (n : ℕ). n ≤ 6) (sym (told engine may.state may.holds session))
    (leb-true (levels may.state session) 6 (and_right (nat_le 1 (levels may.state session)) (nat_le (levels may.state session) 6) (lawful_by_kind may.state session entry.Save may.lawful)))

pub levels_inner : TellsLevels → (engine : EngineState) (session : ℕ) → MayCome engine (entry_by session entry.Release) → 2 ≤ levels_in session engine.sessions
levels_inner told engine session may =
    subst (λ (n : ℕ). 2 ≤ n) (sym (told engine may.state may.holds session)) (leb-true 2 (levels may.state session) (lawful_by_kind may.state session entry.Release may.lawful))
