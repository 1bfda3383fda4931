use Rattle.std.proofs.Common.{sym, ap, ◌∙◌}
use Rattle.stored_variants.specs.StoredVersions.{StoredVersions, next_to_forget}
use Rattle.table_versions.proofs.OldestChange.{forgotten, kept_first, none_held}
use Rattle.table_versions.proofs.store.TableVersions.next_to_forget.Goals as goal
use Rattle.table_trees.specs.StoredTables.{table_long_values}

pub returns-then-is_empty : goal.returns-then-is_empty
returns-then-is_empty c =
    none_held (table_long_values c.self.inside.trees.tables) c.args.oldest c.self.inside.versions (sym c.is_empty.ensures ∙ c.if-is_empty.true)
    ∙ ap (λ (v : StoredVersions). next_to_forget c.args.oldest v.store.held) c.self.view_is

pub returns-then-is_kept_at : goal.returns-then-is_kept_at
returns-then-is_kept_at c =
    kept_first (table_long_values c.self.inside.trees.tables) c.args.oldest c.self.inside.versions c.is_kept_at.result c.is_kept_at.ensures c.if-is_kept_at.true
    ∙ ap (λ (v : StoredVersions). next_to_forget c.args.oldest v.store.held) c.self.view_is

pub returns-else-is_kept_at : goal.returns-else-is_kept_at
returns-else-is_kept_at c =
    forgotten (table_long_values c.self.inside.trees.tables) c.args.oldest c.self.inside.versions c.is_kept_at.result c.number_at.result c.is_kept_at.ensures c.if-is_kept_at.false c.number_at.ensures
    ∙ ap (λ (v : StoredVersions). next_to_forget c.args.oldest v.store.held) c.self.view_is
