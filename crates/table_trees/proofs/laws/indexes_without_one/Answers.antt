use Rattle.std.proofs.Common.{◌≡◌, ◌==◌, ◌&&◌, not, List, [], refl, sym, ap}
use Rattle.std.specs.List.{list_any}
use Rattle.table_trees.specs.StoredTables.{StoredIndex, has_index, index_entries, is_index, part_of, table_indexes, without_where}
use Rattle.table_trees.proofs.AfterChanges.{any-without, either_indexes, named_as, not_other, other-without, own-without}
use Rattle.table_trees.proofs.laws.indexes_without_one.Goals as goal

pub returns-clause-gone : goal.returns-clause-gone
returns-clause-gone c tables table index =
    either_indexes (λ (l : List StoredIndex). part_of (is_index index) (λ x. x.1) l ≡ []) tables table (without_where (is_index index) (table_indexes tables table))
    (own-without (is_index index) (λ x. x.1) (table_indexes tables table))
    (λ e. refl)

pub returns-clause-others : goal.returns-clause-others
returns-clause-others c tables table index other n =
    either_indexes (λ (l : List StoredIndex). part_of (is_index other) (λ x. x.1) l ≡ index_entries tables table other) tables table (without_where (is_index index) (table_indexes tables table))
    (other-without (is_index index) (is_index other) (λ x. x.1) (table_indexes tables table) (λ x t. not_other x.0 index other n t))
    (λ e. ap (part_of (is_index other) (λ x. x.1)) (sym e))

pub returns-clause-there : goal.returns-clause-there
returns-clause-there c tables table index other =
    either_indexes (λ (l : List StoredIndex). list_any (is_index other) l ≡ (has_index tables table other && not (other == index))) tables table (without_where (is_index index) (table_indexes tables table))
    (any-without (is_index index) (is_index other) (other == index) (table_indexes tables table) (λ x t. named_as x.0 index other t))
    (λ e. ap (λ (l : List StoredIndex). list_any (is_index other) l && not (other == index)) (sym e))
