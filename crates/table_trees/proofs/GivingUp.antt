-- Values that are given up one after the other.
use Rattle.std.proofs.Common.{◌≡◌, ◌≢◌, ℕ, ◌<◌, ◌≤◌, Bool, true, false, if◌then◌else◌, Option, Some, None, option_map, List, [], ◌∷◌, ◌++◌, refl, sym, ap, subst, ◌∙◌, arith, true≢false}
use Rattle.std.specs.Prelude.{IsSome, bytes_eq}
use Rattle.std.specs.List.{flat_map, list_any}
use Rattle.common_lemmas.proofs.Booleans.{by_test}
use Rattle.column_set.specs.declared.rows.RowValue.{RowValue}
use Rattle.column_set.specs.declared.rows.RowValue.TheVariants.{Here, Apart}
use Rattle.column_set.specs.Rows.{value_bytes}
use Rattle.long_value.specs.Values.{LongValue, Values, value_of, without_reference}
use Rattle.long_rows.specs.RowReferences.{identifier, named_by, not_among, times_among}
use Rattle.long_rows.specs.ReferenceCounts.{with_all_released}
use Rattle.long_rows.proofs.Taken.{ValueLaws}
use Rattle.long_rows.proofs.Totals.{among-no}
use Rattle.long_rows.proofs.Named.{added as named_new, more_named, own_named, there as named_before}
use Rattle.column_set.specs.OtherValues.{MayStand, StandIn}
use Rattle.long_value.specs.Stores.{id_bytes}
use Rattle.long_value.specs.declared.values.LongId.{LongId}
use Rattle.table_trees.specs.StoredTables.{StoredTable, has_table, table_long_values, with_long_values}
use Rattle.table_trees.specs.FirstValues.{CanGiveUp, unless_among, without_first}
use Rattle.table_trees.specs.NamedValues.{name_of}
use Rattle.table_trees.specs.ValuesChanged.{HasLongValues}
use Rattle.table_trees.proofs.Changed.{ChangeLaw, changed, same, then_has}
use Rattle.table_trees.proofs.NamedBytes.{Told}

-- ---- values that are kept

kept_one : (kept : List (List ℕ)) (id : List ℕ) → list_any (bytes_eq id) kept ≡ true → unless_among kept (Some id) ≡ None
kept_one kept id t = rw t refl

other_one : (kept : List (List ℕ)) (id : List ℕ) → list_any (bytes_eq id) kept ≡ false → unless_among kept (Some id) ≡ Some id
other_one kept id f = rw f refl

left_out : (kept : List (List ℕ)) (id : List ℕ) (ids : List (List ℕ)) → list_any (bytes_eq id) kept ≡ true → not_among kept (id ∷ ids) ≡ not_among kept ids
left_out kept id ids t = rw t refl

left_in : (kept : List (List ℕ)) (id : List ℕ) (ids : List (List ℕ)) → list_any (bytes_eq id) kept ≡ false → not_among kept (id ∷ ids) ≡ id ∷ not_among kept ids
left_in kept id ids f = rw f refl

pub none_kept : (ids : List (List ℕ)) → not_among [] ids ≡ ids
none_kept [] = refl
none_kept (id ∷ ids) = ap (λ (l : List (List ℕ)). id ∷ l) (none_kept ids)

-- all values but those that are kept are given up where the first one is, and then the others
pub first_then_others : (kept : List (List ℕ)) (x : ℕ × RowValue) (xs : List (ℕ × RowValue)) (values : Values)
    → with_all_released (not_among kept (named_by xs)) (without_first (unless_among kept (name_of x.1)) (named_by xs) values) ≡ with_all_released (not_among kept (named_by (x ∷ xs))) values
first_then_others kept (column, Here bytes) xs values = refl
first_then_others kept (column, Apart entry place size) xs values =
    by_test (list_any (bytes_eq id) (named_by xs))
    (λ t.
    ap (λ (v : Values). with_all_released (not_among kept (named_by xs)) v) (stays t)
    ∙ sym (ap (λ (l : List (List ℕ)). with_all_released (not_among kept l) values) (named_before id (named_by xs) t)))
    (λ f.
    by_test (list_any (bytes_eq id) kept)
    (λ t.
    ap (λ (o : Option (List ℕ)). with_all_released (not_among kept (named_by xs)) (without_first o (named_by xs) values)) (kept_one kept id t)
    ∙ sym (ap (λ (l : List (List ℕ)). with_all_released l values) (ap (not_among kept) (named_new id (named_by xs) f) ∙ left_out kept id (named_by xs) t)))
    (λ n.
    ap (λ (o : Option (List ℕ)). with_all_released (not_among kept (named_by xs)) (without_first o (named_by xs) values)) (other_one kept id n)
    ∙ ap (λ (b : Bool). with_all_released (not_among kept (named_by xs)) (if b then values else without_reference id values)) f
    ∙ sym (ap (λ (l : List (List ℕ)). with_all_released l values) (ap (not_among kept) (named_new id (named_by xs) f) ∙ left_in kept id (named_by xs) n))))
  where
    id : List ℕ
    id = identifier entry place

    stays : list_any (bytes_eq id) (named_by xs) ≡ true → without_first (unless_among kept (Some id)) (named_by xs) values ≡ values
    stays t =
        by_test (list_any (bytes_eq id) kept)
        (λ k. ap (λ (o : Option (List ℕ)). without_first o (named_by xs) values) (kept_one kept id k))
        (λ n.
        ap (λ (o : Option (List ℕ)). without_first o (named_by xs) values) (other_one kept id n)
        ∙ ap (λ (b : Bool). if b then values else without_reference id values) t)

-- what is there of the values that are named
abbrev pub AreThere : List (ℕ × RowValue) → Values → Type 0
AreThere xs values = (id : List ℕ) → 0 < times_among id (named_by xs) → IsSome (value_of id values)

pub first_there : (x : ℕ × RowValue) (xs : List (ℕ × RowValue)) (values : Values) → AreThere (x ∷ xs) values → CanGiveUp (name_of x.1) (named_by xs) values
first_there (column, Here bytes) xs values there = tt
first_there (column, Apart entry place size) xs values there = λ f. there (identifier entry place) (own_named (identifier entry place) (named_by xs))

later_there : (x : ℕ × RowValue) (xs : List (ℕ × RowValue)) (id : List ℕ) → times_among id (named_by xs) ≤ times_among id (named_by (x ∷ xs))
later_there (column, Here bytes) xs id = omega arith
later_there (column, Apart entry place size) xs id = more_named id (identifier entry place) (named_by xs)

none_named : (id : List ℕ) (ids : List (List ℕ)) → list_any (bytes_eq id) ids ≡ false → 0 < times_among id ids → ⊥
none_named id [] f lt = omega (arith, lt)
none_named id (x ∷ ids) f lt =
    by_test (bytes_eq id x)
    (λ t. absurd (true≢false (rw t at f)))
    (λ n. let same = among-no id x ids n in none_named id ids (rw n at f) (omega (arith, lt, same)))

pub others_there : ValueLaws → (x : ℕ × RowValue) (xs : List (ℕ × RowValue)) (values : Values) → AreThere (x ∷ xs) values → AreThere xs (without_first (name_of x.1) (named_by xs) values)
others_there laws (column, Here bytes) xs values there = there
others_there laws (column, Apart entry place size) xs values there = λ k lt.
    let id = identifier entry place in
    let more = later_there (column, Apart entry place size) xs k in
    let was : IsSome (value_of k values) = there k (omega (arith, lt, more)) in
    by_test (list_any (bytes_eq id) (named_by xs))
    (λ t. subst (λ (b : Bool). IsSome (value_of k (if b then values else without_reference id values))) (sym t) was)
    (λ f.
    let apart : k ≢ id = λ e. none_named id (named_by xs) f (subst (λ (i : List ℕ). 0 < times_among i (named_by xs)) e lt) in
    subst (λ (b : Bool). IsSome (value_of k (if b then values else without_reference id values))) (sym f)
    (subst (λ (o : Option LongValue). IsSome o) (sym (laws.less_beside values id k apart)) was))

unless_there : (kept : List (List ℕ)) (x : ℕ × RowValue) (xs : List (ℕ × RowValue)) (values : Values) → AreThere (x ∷ xs) values → CanGiveUp (unless_among kept (name_of x.1)) (named_by xs) values
unless_there kept (column, Here bytes) xs values there = tt
unless_there kept (column, Apart entry place size) xs values there =
    by_test (list_any (bytes_eq (identifier entry place)) kept)
    (λ t. subst (λ (o : Option (List ℕ)). CanGiveUp o (named_by xs) values) (sym (kept_one kept (identifier entry place) t)) tt)
    (λ n. subst (λ (o : Option (List ℕ)). CanGiveUp o (named_by xs) values) (sym (other_one kept (identifier entry place) n)) (first_there (column, Apart entry place size) xs values there))

left_there : ValueLaws → (kept : List (List ℕ)) (x : ℕ × RowValue) (xs : List (ℕ × RowValue)) (values : Values) → AreThere (x ∷ xs) values → AreThere xs (without_first (unless_among kept (name_of x.1)) (named_by xs) values)
left_there laws kept (column, Here bytes) xs values there = there
left_there laws kept (column, Apart entry place size) xs values there =
    by_test (list_any (bytes_eq (identifier entry place)) kept)
    (λ t.
    subst (λ (o : Option (List ℕ)). AreThere xs (without_first o (named_by xs) values)) (sym (kept_one kept (identifier entry place) t))
    (λ k lt. let more = later_there (column, Apart entry place size) xs k in there k (omega (arith, lt, more))))
    (λ n.
    subst (λ (o : Option (List ℕ)). AreThere xs (without_first o (named_by xs) values)) (sym (other_one kept (identifier entry place) n))
    (others_there laws (column, Apart entry place size) xs values there))

-- ---- the calls

pub first_released : ChangeLaw → (table : ℕ) (named : Option LongId) (id : LongId) (ids : List (List ℕ)) (old new : List StoredTable) → named ≡ Some id → list_any (bytes_eq (id_bytes id)) ids ≡ false → has_table old table ≡ true
    → new ≡ with_long_values table (without_reference (id_bytes id) (table_long_values old table)) old → HasLongValues table (without_first (option_map id_bytes named) ids (table_long_values old table)) old new
first_released law table named id ids old new is apart there changed_to =
    let values = table_long_values old table in
    let less : without_first (option_map id_bytes named) ids values ≡ without_reference (id_bytes id) values =
    ap (λ (o : Option LongId). without_first (option_map id_bytes o) ids values) is ∙ ap (λ (b : Bool). if b then values else without_reference (id_bytes id) values) apart in
    subst (λ (v : Values). HasLongValues table v old new) (sym less) (changed law table (without_reference (id_bytes id) values) old new there changed_to)

pub first_can : (kept : List (List ℕ)) (values : List ℕ) (named given : Option (List ℕ)) (rest : List ℕ) (v : Values) → given ≡ unless_among kept named → (values ≡ [] → ⊥) → Told values named rest → ((xs : List (ℕ × RowValue)) × StandIn values xs × AreThere xs v)
    → (ys : List (ℕ × RowValue)) × StandIn rest ys × CanGiveUp given (named_by ys) v
first_can kept values named given rest v unless some told has = by has.0 has.1 has.2
  where
    by : (xs : List (ℕ × RowValue)) → StandIn values xs → AreThere xs v → (ys : List (ℕ × RowValue)) × StandIn rest ys × CanGiveUp given (named_by ys) v
    by [] stand there = absurd (some stand.spelled)
    by (x ∷ xs) stand there =
        let is = told x (flat_map value_bytes xs) stand.fit.0 stand.spelled in
        let same : given ≡ unless_among kept (name_of x.1) = unless ∙ ap (unless_among kept) is.0 in
        (xs, record { fit = stand.fit.1; spelled = is.1 }, subst (λ (o : Option (List ℕ)). CanGiveUp o (named_by xs) v) (sym same) (unless_there kept x xs v there))

pub others_can : ValueLaws → (kept : List (List ℕ)) (values : List ℕ) (named given : Option (List ℕ)) (rest : List ℕ) (table : ℕ) (old new : List StoredTable) → given ≡ unless_among kept named → (values ≡ [] → ⊥) → Told values named rest
    → ((xs : List (ℕ × RowValue)) × StandIn values xs × AreThere xs (table_long_values old table))
    → ((ys : List (ℕ × RowValue)) → StandIn rest ys → HasLongValues table (without_first given (named_by ys) (table_long_values old table)) old new)
    → (ys : List (ℕ × RowValue)) × StandIn rest ys × AreThere ys (table_long_values new table)
others_can laws kept values named given rest table old new unless some told has gave = by has.0 has.1 has.2
  where
    by : (xs : List (ℕ × RowValue)) → StandIn values xs → AreThere xs (table_long_values old table) → (ys : List (ℕ × RowValue)) × StandIn rest ys × AreThere ys (table_long_values new table)
    by [] stand there = absurd (some stand.spelled)
    by (x ∷ xs) stand there =
        let is = told x (flat_map value_bytes xs) stand.fit.0 stand.spelled in
        let st : StandIn rest xs = record { fit = stand.fit.1; spelled = is.1 } in
        let same : given ≡ unless_among kept (name_of x.1) = unless ∙ ap (unless_among kept) is.0 in
        let now : table_long_values new table ≡ without_first (unless_among kept (name_of x.1)) (named_by xs) (table_long_values old table) =
        (gave xs st).named ∙ ap (λ (o : Option (List ℕ)). without_first o (named_by xs) (table_long_values old table)) same in
        (xs, st, subst (AreThere xs) (sym now) (left_there laws kept x xs (table_long_values old table) there))

pub all_released : (kept : List (List ℕ)) (values : List ℕ) (named given : Option (List ℕ)) (rest : List ℕ) (table : ℕ) (old mid new : List StoredTable) → given ≡ unless_among kept named → (values ≡ [] → ⊥) → Told values named rest
    → ((ys : List (ℕ × RowValue)) → StandIn rest ys → HasLongValues table (without_first given (named_by ys) (table_long_values old table)) old mid)
    → ((ys : List (ℕ × RowValue)) → StandIn rest ys → HasLongValues table (with_all_released (not_among kept (named_by ys)) (table_long_values mid table)) mid new)
    → (xs : List (ℕ × RowValue)) → StandIn values xs → HasLongValues table (with_all_released (not_among kept (named_by xs)) (table_long_values old table)) old new
all_released kept values named given rest table old mid new unless some told first others [] stand = absurd (some stand.spelled)
all_released kept values named given rest table old mid new unless some told first others (x ∷ xs) stand =
    let is = told x (flat_map value_bytes xs) stand.fit.0 stand.spelled in
    let st : StandIn rest xs = record { fit = stand.fit.1; spelled = is.1 } in
    let same : given ≡ unless_among kept (name_of x.1) = unless ∙ ap (unless_among kept) is.0 in
    let one = first xs st in
    let v = table_long_values old table in
    let all : with_all_released (not_among kept (named_by xs)) (table_long_values mid table) ≡ with_all_released (not_among kept (named_by (x ∷ xs))) v =
    ap (with_all_released (not_among kept (named_by xs))) (one.named ∙ ap (λ (o : Option (List ℕ)). without_first o (named_by xs) v) same) ∙ first_then_others kept x xs v in
    subst (λ (w : Values). HasLongValues table w old new) all (then_has table (without_first given (named_by xs) v) (with_all_released (not_among kept (named_by xs)) (table_long_values mid table)) old mid new one (others xs st))

pub none_released : (kept : List (List ℕ)) (values : List ℕ) (table : ℕ) (old : List StoredTable) → ((value : ℕ × RowValue) (behind : List ℕ) → MayStand value → values ≡ value_bytes value ++ behind → ⊥) → (xs : List (ℕ × RowValue)) → StandIn values xs
    → HasLongValues table (with_all_released (not_among kept (named_by xs)) (table_long_values old table)) old old
none_released kept values table old none [] stand = same table old
none_released kept values table old none (x ∷ xs) stand = absurd (none x (flat_map value_bytes xs) stand.fit.0 stand.spelled)
