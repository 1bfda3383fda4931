use Rattle.std.proofs.Common.{◌≡◌, ℕ, List, Option, Some, None, option_map, sym, ap, subst, ◌∙◌}
use Rattle.std.specs.List.{list_any}
use Rattle.version_store.specs.declared.calls.Undone.{Undone}
use Rattle.version_store.specs.HeldChanges.{HeldChange, is_open_at, last_place, undone_at}
use Rattle.laws_engine.specs.HeldRecords.{is_open_at as is_open_record}
use Rattle.stored_variants.specs.StoredVersions.{StoredVersions}
use Rattle.variant_trees.specs.UndoneChanges.{IsBack, WasOpen}
use Rattle.stored_variants.specs.VersionsKept.{AreKept}
use Rattle.table_versions.proofs.LastUndone.{any_last, same_level}
use Rattle.table_versions.proofs.LevelsShown.{last_shown, newest_there, none_shown, nothing_undone, open_there, same_table}
use Rattle.table_versions.proofs.StepInStore.{entries_stay, still_shown}
use Rattle.table_versions.proofs.store.TableVersions.undo_newest.Goals as goal
use Rattle.table_trees.specs.StoredTables.{table_long_values}
use Rattle.stored_variants.specs.CountedValues.{AreCounted}

pub put_back-requires : goal.put_back-requires
put_back-requires c =
    let last : last_place (is_open_at c.args.session.0 c.args.level) c.self.inside.versions ≡ Some c.in-Some.undone.place = sym c.undo_level.ensures.place ∙ ap (option_map (λ (u : Undone). u.place)) c.in-Some.is in
    let there = newest_there (is_open_at c.args.session.0 c.args.level) c.self.inside.versions c.in-Some.undone.place last in
    let after : c.undo_level.new.self ≡ undone_at (Some c.in-Some.undone.place) c.self.inside.versions = c.undo_level.ensures.changes ∙ ap (λ (o : Option ℕ). undone_at o c.self.inside.versions) last in
    let was : WasOpen c.self.inside.catalog.tables c.self.inside.trees.tables c.undo_level.new.self c.in-Some.undone.place c.in-Some.undone.table.0 c.self.inside.versions there.0 = record {
      at = there.1;
      is_uncommitted = open_there c.args.session.0 c.args.level there.0 there.2;
      after = after;
      named = same_table c.self.inside.versions (last_place (is_open_at c.args.session.0 c.args.level) c.self.inside.versions) c.in-Some.undone.place there.0 c.in-Some.undone.table.0 last there.1 (sym (ap (option_map (λ (u : Undone). u.table.0)) c.in-Some.is) ∙ c.undo_level.ensures.table);
      kept = c.self.invariant.kept;
      counts = c.self.invariant.counts;
    } in
    (c.self.inside.versions, (there.0, was))

pub invariant_of-self : goal.invariant_of-self
invariant_of-self c =
    let last : last_place (is_open_at c.args.session.0 c.args.level) c.self.inside.versions ≡ Some c.in-Some.undone.place = sym c.undo_level.ensures.place ∙ ap (option_map (λ (u : Undone). u.place)) c.in-Some.is in
    let there = newest_there (is_open_at c.args.session.0 c.args.level) c.self.inside.versions c.in-Some.undone.place last in
    let after : c.undo_level.new.self ≡ undone_at (Some c.in-Some.undone.place) c.self.inside.versions = c.undo_level.ensures.changes ∙ ap (λ (o : Option ℕ). undone_at o c.self.inside.versions) last in
    let was : WasOpen c.self.inside.catalog.tables c.self.inside.trees.tables c.undo_level.new.self c.in-Some.undone.place c.in-Some.undone.table.0 c.self.inside.versions there.0 = record {
      at = there.1;
      is_uncommitted = open_there c.args.session.0 c.args.level there.0 there.2;
      after = after;
      named = same_table c.self.inside.versions (last_place (is_open_at c.args.session.0 c.args.level) c.self.inside.versions) c.in-Some.undone.place there.0 c.in-Some.undone.table.0 last there.1 (sym (ap (option_map (λ (u : Undone). u.table.0)) c.in-Some.is) ∙ c.undo_level.ensures.table);
      kept = c.self.invariant.kept;
      counts = c.self.invariant.counts;
    } in
    let back : IsBack c.self.inside.catalog.tables c.self.inside.trees.tables c.put_back.new.trees.tables c.undo_level.new.self there.0 = c.put_back.ensures.back c.self.inside.versions there.0 was in
    record {
      kept = back.kept;
      shows = still_shown c.self.inside.catalog c.self.inside.trees.catalog c.put_back.new.trees.catalog c.put_back.ensures.catalog c.self.invariant.shows;
      counts = back.counts;
      entries = entries_stay c.self.inside.newest_put c.self.inside.trees.tables c.put_back.new.trees.tables back.values c.self.invariant.entries;
    }

pub invariant_of-self-in-None : goal.invariant_of-self-in-None
invariant_of-self-in-None c =
    let last : last_place (is_open_at c.args.session.0 c.args.level) c.self.inside.versions ≡ None = sym c.undo_level.ensures.place ∙ ap (option_map (λ (u : Undone). u.place)) c.in-None.is in
    let same : c.undo_level.new.self ≡ c.self.inside.versions = c.undo_level.ensures.changes ∙ ap (λ (o : Option ℕ). undone_at o c.self.inside.versions) last ∙ nothing_undone c.self.inside.versions in
    record {
      kept = subst (λ (held : List HeldChange). AreKept c.self.inside.catalog.tables c.self.inside.trees.tables held) (sym same) c.self.invariant.kept;
      shows = c.self.invariant.shows;
      counts = subst (AreCounted c.self.inside.trees.tables) (sym same) c.self.invariant.counts;
      entries = c.self.invariant.entries;
    }

pub returns-in-Some-clause-store : goal.returns-in-Some-clause-store
returns-in-Some-clause-store c =
    let last : last_place (is_open_at c.args.session.0 c.args.level) c.self.inside.versions ≡ Some c.in-Some.undone.place = sym c.undo_level.ensures.place ∙ ap (option_map (λ (u : Undone). u.place)) c.in-Some.is in
    let there = newest_there (is_open_at c.args.session.0 c.args.level) c.self.inside.versions c.in-Some.undone.place last in
    let after : c.undo_level.new.self ≡ undone_at (Some c.in-Some.undone.place) c.self.inside.versions = c.undo_level.ensures.changes ∙ ap (λ (o : Option ℕ). undone_at o c.self.inside.versions) last in
    let was : WasOpen c.self.inside.catalog.tables c.self.inside.trees.tables c.undo_level.new.self c.in-Some.undone.place c.in-Some.undone.table.0 c.self.inside.versions there.0 = record {
      at = there.1;
      is_uncommitted = open_there c.args.session.0 c.args.level there.0 there.2;
      after = after;
      named = same_table c.self.inside.versions (last_place (is_open_at c.args.session.0 c.args.level) c.self.inside.versions) c.in-Some.undone.place there.0 c.in-Some.undone.table.0 last there.1 (sym (ap (option_map (λ (u : Undone). u.table.0)) c.in-Some.is) ∙ c.undo_level.ensures.table);
      kept = c.self.invariant.kept;
      counts = c.self.invariant.counts;
    } in
    last_shown c.args.session.0 c.args.level c.self.inside.newest_put c.self.inside.catalog c.self.inside.trees.tables c.put_back.new.trees.tables c.self.inside.versions c.undo_level.new.self c.in-Some.undone.place there.0 c.args.self.now c.self.view_is last there.1 after (c.put_back.ensures.back c.self.inside.versions there.0 was)

pub returns-in-Some-clause-found : goal.returns-in-Some-clause-found
returns-in-Some-clause-found c =
    let last : last_place (is_open_at c.args.session.0 c.args.level) c.self.inside.versions ≡ Some c.in-Some.undone.place = sym c.undo_level.ensures.place ∙ ap (option_map (λ (u : Undone). u.place)) c.in-Some.is in
    sym (any_last (table_long_values c.self.inside.trees.tables) (is_open_record c.args.session.0 c.args.level) (is_open_at c.args.session.0 c.args.level) (same_level (table_long_values c.self.inside.trees.tables) c.args.session.0 c.args.level) c.self.inside.versions (Some c.in-Some.undone.place) last)
    ∙ ap (λ (v : StoredVersions). list_any (is_open_record c.args.session.0 c.args.level) v.store.held) c.self.view_is

pub returns-in-None-clause-store : goal.returns-in-None-clause-store
returns-in-None-clause-store c =
    let last : last_place (is_open_at c.args.session.0 c.args.level) c.self.inside.versions ≡ None = sym c.undo_level.ensures.place ∙ ap (option_map (λ (u : Undone). u.place)) c.in-None.is in
    none_shown c.args.session.0 c.args.level c.self.inside.newest_put c.self.inside.catalog c.self.inside.trees.tables c.self.inside.versions c.undo_level.new.self c.args.self.now c.self.view_is last c.undo_level.ensures.changes

pub returns-in-None-clause-found : goal.returns-in-None-clause-found
returns-in-None-clause-found c =
    let last : last_place (is_open_at c.args.session.0 c.args.level) c.self.inside.versions ≡ None = sym c.undo_level.ensures.place ∙ ap (option_map (λ (u : Undone). u.place)) c.in-None.is in
    sym (any_last (table_long_values c.self.inside.trees.tables) (is_open_record c.args.session.0 c.args.level) (is_open_at c.args.session.0 c.args.level) (same_level (table_long_values c.self.inside.trees.tables) c.args.session.0 c.args.level) c.self.inside.versions None last)
    ∙ ap (λ (v : StoredVersions). list_any (is_open_record c.args.session.0 c.args.level) v.store.held) c.self.view_is
