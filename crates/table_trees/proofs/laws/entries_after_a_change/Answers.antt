use Rattle.std.proofs.Common.{◌≡◌, List, refl, sym, ap, ◌∙◌, true≢false}
use Rattle.std.specs.List.{list_any}
use Rattle.table_trees.specs.StoredTables.{StoredIndex, changed_where, has_index, index_entries, is_index, part_of, put_entries, table_indexes}
use Rattle.table_trees.proofs.AfterChanges.{any-changed, either_indexes, not_other, own-changed, own_indexes, part-changed, table_of_index}
use Rattle.table_trees.proofs.laws.entries_after_a_change.Goals as goal

pub returns-clause-named : goal.returns-clause-named
returns-clause-named c tables table index entries h =
    ap (part_of (is_index index) (λ x. x.1)) (own_indexes tables table (changed_where (is_index index) (put_entries entries) (table_indexes tables table)) (table_of_index tables table index h))
    ∙ own-changed (is_index index) (put_entries entries) (λ x. x.1) entries (table_indexes tables table) (λ x. refl) (λ x. refl) h

pub returns-clause-others : goal.returns-clause-others
returns-clause-others c tables table index other entries n =
    either_indexes (λ (l : List StoredIndex). part_of (is_index other) (λ x. x.1) l ≡ index_entries tables table other) tables table (changed_where (is_index index) (put_entries entries) (table_indexes tables table))
    (part-changed (is_index index) (is_index other) (put_entries entries) (λ x. x.1) (table_indexes tables table) (λ x. refl) (λ x t u. absurd (true≢false (sym t ∙ not_other x.0 index other n u))))
    (λ e. ap (part_of (is_index other) (λ x. x.1)) (sym e))

pub returns-clause-there : goal.returns-clause-there
returns-clause-there c tables table index other entries =
    either_indexes (λ (l : List StoredIndex). list_any (is_index other) l ≡ has_index tables table other) tables table (changed_where (is_index index) (put_entries entries) (table_indexes tables table))
    (any-changed (is_index index) (is_index other) (put_entries entries) (table_indexes tables table) (λ x. refl))
    (λ e. ap (list_any (is_index other)) (sym e))
