use Rattle.std.proofs.Common.{refl, sym, ap, ◌∙◌}
use Rattle.std.specs.List.{list_any}
use Rattle.version_store.specs.HeldChanges.{is_record}
use Rattle.laws_engine.specs.HeldRecords.{is_change_at}
use Rattle.stored_variants.specs.StoredVersions.{StoredVersions}
use Rattle.table_trees.specs.StoredTables.{table_long_values}
use Rattle.table_versions.proofs.LastUndone.{any_last}
use Rattle.table_versions.proofs.UntouchedRecords.{some_there}
use Rattle.table_versions.proofs.store.TableVersions.has_changes.Goals as goal

pub returns : goal.returns
returns c =
    c.is_some.ensures ∙ some_there c.newest_change.result
    ∙ sym (any_last (table_long_values c.self.inside.trees.tables) (is_change_at c.args.table.0 c.args.bookmark.now) (is_record c.args.table.0 c.args.bookmark.now) (λ h. refl) c.self.inside.versions c.newest_change.result (sym c.newest_change.ensures.place))
    ∙ ap (λ (v : StoredVersions). list_any (is_change_at c.args.table.0 c.args.bookmark.now) v.store.held) c.self.view_is
