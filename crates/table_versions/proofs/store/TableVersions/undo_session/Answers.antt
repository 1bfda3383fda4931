use Rattle.std.proofs.Common.{◌≡◌, ℕ, sym, ap, ◌∙◌, arith}
use Rattle.laws_engine.specs.HeldRecords.{is_open_at}
use Rattle.laws_engine.specs.VersionedTables.{VersionedTables, with_changes_undone}
use Rattle.stored_variants.specs.StoredVersions.{StoredVersions}
use Rattle.table_versions.proofs.UndoneSession.{all_undone_above, is_open_above, level_undone, none_undone_above}
use Rattle.table_versions.proofs.store.TableVersions.undo_session.Goals as goal

pub loop-level-init : goal.loop-level-init
loop-level-init c = sym (ap (λ (s : VersionedTables). record c.args.self.now { store = s }) (none_undone_above c.args.session.0 c.args.self.now.store c.requires.levels))

pub loop-level-preserved : goal.loop-level-preserved
loop-level-preserved c =
    c.undo_level.ensures
    ∙ ap (λ (v : StoredVersions). record v { store = with_changes_undone (is_open_at c.args.session.0 c.loop-level.level) v.store }) c.loop-level.invariant
    ∙ ap (λ (s : VersionedTables). record c.args.self.now { store = s }) (level_undone c.args.session.0 c.loop-level.level c.args.self.now.store c.requires.rise c.loop-level-test.true)

pub returns : goal.returns
returns c =
    let none_left : c.loop-level.level ≡ 0 = omega (arith, c.loop-level-test.false) in
    c.loop-level.invariant
    ∙ ap (λ (n : ℕ). record c.args.self.now { store = with_changes_undone (is_open_above c.args.session.0 n) c.args.self.now.store }) none_left
    ∙ ap (λ (s : VersionedTables). record c.args.self.now { store = s }) (all_undone_above c.args.session.0 c.args.self.now.store c.requires.levels)
