use Rattle.std.proofs.Common.{◌≡◌, List, [], ◌∷◌, ◌++◌, refl, sym, ap, ◌∙◌}
use Rattle.std.specs.List.{list_any}
use Rattle.table_trees.specs.StoredTables.{StoredIndex, index_entries, is_index, part_of, table_indexes}
use Rattle.table_trees.proofs.AfterChanges.{any-pushed, either_indexes, own_indexes, part-pushed}
use Rattle.table_trees.proofs.laws.indexes_beside_a_new_one.Goals as goal

pub returns-clause-entries : goal.returns-clause-entries
returns-clause-entries c tables table index other =
    either_indexes (λ (l : List StoredIndex). part_of (is_index other) (λ x. x.1) l ≡ index_entries tables table other) tables table (table_indexes tables table ++ (index, []) ∷ [])
    (part-pushed (is_index other) (λ x. x.1) (index, []) (table_indexes tables table) refl)
    (λ e. ap (part_of (is_index other) (λ x. x.1)) (sym e))

pub returns-clause-there : goal.returns-clause-there
returns-clause-there c tables table index other h =
    ap (list_any (is_index other)) (own_indexes tables table (table_indexes tables table ++ (index, []) ∷ []) h)
    ∙ any-pushed (is_index other) (index, []) (table_indexes tables table)
