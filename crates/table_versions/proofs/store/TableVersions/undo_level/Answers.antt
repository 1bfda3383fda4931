use Rattle.std.proofs.Common.{◌<◌, Bool, true, sym, ap, subst, ◌∙◌}
use Rattle.std.specs.List.{list_any}
use Rattle.laws_engine.specs.HeldRecords.{is_open_at}
use Rattle.laws_engine.specs.VersionedTables.{VersionedTables, with_changes_undone}
use Rattle.stored_variants.specs.StoredVersions.{StoredVersions}
use Rattle.table_versions.proofs.UndoneLevel.{fewer_steps, none_left_then, steps_left}
use Rattle.table_versions.proofs.store.TableVersions.undo_level.Goals as goal

pub loop-more-init : goal.loop-more-init
loop-more-init c = record {
  rest =
      ap (λ (v : StoredVersions). record v { store = with_changes_undone (is_open_at c.args.session.0 c.args.level) v.store }) c.undo_newest-more.ensures.store
      ∙ ap (λ (s : VersionedTables). record c.args.self.now { store = s }) (c.changes_undone_one_by_one_are_undone_at_once.ensures.first (is_open_at c.args.session.0 c.args.level) c.args.self.now.store (c.changes_undone_one_by_one_are_undone_at_once.ensures.level c.args.session.0 c.args.level));
  more = λ e. ap (λ (v : StoredVersions). list_any (is_open_at c.args.session.0 c.args.level) v.store.held) c.undo_newest-more.ensures.store ∙ none_left_then (is_open_at c.args.session.0 c.args.level) c.args.self.now.store (sym c.undo_newest-more.ensures.found ∙ e);
}

pub loop-more-smaller : goal.loop-more-smaller
loop-more-smaller c =
    subst (λ (more : Bool). steps_left c.undo_newest-more-in-loop-more.result (is_open_at c.args.session.0 c.args.level) c.undo_newest-more-in-loop-more.new.self.store < steps_left more (is_open_at c.args.session.0 c.args.level) c.loop-more.self.store) (sym c.loop-more-test.true)
    (subst (λ (v : StoredVersions). steps_left c.undo_newest-more-in-loop-more.result (is_open_at c.args.session.0 c.args.level) v.store < steps_left true (is_open_at c.args.session.0 c.args.level) c.loop-more.self.store) (sym c.undo_newest-more-in-loop-more.ensures.store)
    (fewer_steps (is_open_at c.args.session.0 c.args.level) (c.changes_undone_one_by_one_are_undone_at_once.ensures.level c.args.session.0 c.args.level) c.undo_newest-more-in-loop-more.result c.loop-more.self.store c.undo_newest-more-in-loop-more.ensures.found))

pub loop-more-preserved : goal.loop-more-preserved
loop-more-preserved c = record {
  rest =
      ap (λ (v : StoredVersions). record v { store = with_changes_undone (is_open_at c.args.session.0 c.args.level) v.store }) c.undo_newest-more-in-loop-more.ensures.store
      ∙ ap (λ (s : VersionedTables). record c.loop-more.self { store = s }) (c.changes_undone_one_by_one_are_undone_at_once.ensures.first (is_open_at c.args.session.0 c.args.level) c.loop-more.self.store (c.changes_undone_one_by_one_are_undone_at_once.ensures.level c.args.session.0 c.args.level))
      ∙ c.loop-more.invariant.rest;
  more = λ e. ap (λ (v : StoredVersions). list_any (is_open_at c.args.session.0 c.args.level) v.store.held) c.undo_newest-more-in-loop-more.ensures.store ∙ none_left_then (is_open_at c.args.session.0 c.args.level) c.loop-more.self.store (sym c.undo_newest-more-in-loop-more.ensures.found ∙ e);
}

pub returns : goal.returns
returns c =
    sym (ap (λ (s : VersionedTables). record c.loop-more.self { store = s }) (c.changes_undone_one_by_one_are_undone_at_once.ensures.none_left (is_open_at c.args.session.0 c.args.level) c.loop-more.self.store (c.loop-more.invariant.more c.loop-more-test.false)))
    ∙ c.loop-more.invariant.rest
