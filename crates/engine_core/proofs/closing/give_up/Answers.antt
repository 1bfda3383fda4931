use Rattle.std.proofs.Common.{◌≡◌, ℕ, ◌≤◌, true, sym, subst}
use Rattle.std.specs.List.{AllByRecursion}
use Rattle.laws_versions.specs.History.{EachTwo}
use Rattle.laws_engine.specs.HeldRecords.{is_open_of}
use Rattle.laws_engine.specs.EngineState.{EngineState}
use Rattle.engine_core.proofs.closing.give_up.Goals as goal

pub undo_session-requires-clause-rise : goal.undo_session-requires-clause-rise
undo_session-requires-clause-rise c =
    subst (λ (e : EngineState). EachTwo (λ earlier later. is_open_of c.args.session.0 earlier ≡ true → is_open_of c.args.session.0 later ≡ true → earlier.level ≤ later.level) e.store.held) (sym c.engine.view_is)
    (c.open_changes_stand_by_rising_levels.ensures.rise (record c.args.engine.now { number = c.requires.1.number }) c.requires.1.held c.requires.1.holds c.args.session.0)

pub undo_session-requires-clause-levels : goal.undo_session-requires-clause-levels
undo_session-requires-clause-levels c =
    subst (λ (e : EngineState). AllByRecursion (λ held. is_open_of c.args.session.0 held ≡ true → (1 ≤ held.level) × (held.level ≤ 7)) e.store.held) (sym c.engine.view_is)
    (c.open_changes_stand_by_rising_levels.ensures.levels (record c.args.engine.now { number = c.requires.1.number }) c.requires.1.held c.requires.1.holds c.args.session.0 7
    (subst (λ (n : ℕ). n ≤ 7) c.levels.ensures.levels c.levels.ensures.few))
