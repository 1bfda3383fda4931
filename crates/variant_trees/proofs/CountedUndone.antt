-- Counts of long values as changes are undone, forgotten and made.
use Rattle.std.proofs.Common.{◌≡◌, ℕ, zero, suc, ◌+◌, Bool, true, false, cond, List, [], ◌∷◌, Option, Some, None, filter, map, option_map, refl, sym, ap, ◌∙◌}
use Rattle.std.specs.Prelude.{◌==◌, slice_get, sum_by}
use Rattle.std.proofs.lemmas.List.Sums.{sum_by-cons}
use Rattle.column_set.specs.RowReading.{row_in}
use Rattle.database_state.specs.State.{is_undone, undone}
use Rattle.long_rows.specs.ReferenceCounts.{references_before}
use Rattle.version_store.specs.HeldChanges.{HeldChange, undone_at, with_status}
use Rattle.stored_variants.specs.CountedValues.{row_before, rows_before}
use Rattle.common_lemmas.proofs.Options.{same_some}

none_change : {A : Type 0} (x : HeldChange) → None ≡ Some x → A
none_change x e = cc

-- a change that holds no row refers to no value
pub no_references : (id : List ℕ) (h : HeldChange) → h.before ≡ None → references_before id (row_before h) ≡ 0
no_references id h none = ap (λ (o : Option (List ℕ)). references_before id (record { bookmark = h.bookmark; row = option_map row_in o; is_undone = is_undone h.status })) none ∙ by (is_undone h.status)
  where
    by : (b : Bool) → references_before id (record { bookmark = h.bookmark; row = None; is_undone = b }) ≡ 0
    by true = refl
    by false = refl

-- so it counts the same once it is undone
pub none_counts : (id : List ℕ) (table place : ℕ) (h : HeldChange) (held : List HeldChange) → slice_get held place ≡ Some h → h.before ≡ None
    → sum_by (references_before id) (rows_before table (undone_at (Some place) held)) ≡ sum_by (references_before id) (rows_before table held)
none_counts id table place h [] at none = none_change h at
none_counts id table zero h (x ∷ held) at none = by (x.table == table)
  where
    rest : List HeldChange
    rest = filter (λ (y : HeldChange). y.table == table) held

    no_row : x.before ≡ None
    no_row = ap (λ (y : HeldChange). y.before) (same_some x h at) ∙ none

    by : (b : Bool) → sum_by (references_before id) (map row_before (cond b (with_status undone x ∷ rest) rest)) ≡ sum_by (references_before id) (map row_before (cond b (x ∷ rest) rest))
    by true =
        sum_by-cons (references_before id) (row_before (with_status undone x)) (map row_before rest)
        ∙ ap (λ n. n + sum_by (references_before id) (map row_before rest)) (sym (no_references id x no_row))
        ∙ sym (sum_by-cons (references_before id) (row_before x) (map row_before rest))
    by false = refl
none_counts id table (suc place) h (x ∷ held) at none = by (x.table == table) (none_counts id table place h held at none)
  where
    left : List HeldChange
    left = filter (λ (y : HeldChange). y.table == table) held

    now : List HeldChange
    now = filter (λ (y : HeldChange). y.table == table) (undone_at (Some place) held)

    by : (b : Bool) → sum_by (references_before id) (rows_before table (undone_at (Some place) held)) ≡ sum_by (references_before id) (rows_before table held)
        → sum_by (references_before id) (map row_before (cond b (x ∷ now) now)) ≡ sum_by (references_before id) (map row_before (cond b (x ∷ left) left))
    by true rest =
        sum_by-cons (references_before id) (row_before x) (map row_before now)
        ∙ ap (λ n. references_before id (row_before x) + n) rest
        ∙ sym (sum_by-cons (references_before id) (row_before x) (map row_before left))
    by false rest = rest
