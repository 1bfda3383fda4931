-- Values that are taken one after the other.
use Rattle.std.proofs.Common.{◌≡◌, ◌≢◌, ℕ, suc, Bool, true, false, if◌then◌else◌, Option, Some, None, List, [], ◌∷◌, ◌++◌, length, map, refl, sym, ap, subst, ◌∙◌, arith, true≢false}
use Rattle.std.specs.Prelude.{IsSome, bytes_eq, is_some}
use Rattle.std.specs.List.{AllByRecursion, flat_map, list_any}
use Rattle.common_lemmas.proofs.Booleans.{by_test}
use Rattle.column_set.specs.declared.rows.RowValue.{RowValue}
use Rattle.column_set.specs.declared.rows.RowValue.TheVariants.{Here, Apart}
use Rattle.column_set.specs.Rows.{value_bytes}
use Rattle.long_value.specs.Values.{AreLong, LongValue, Values, put_value, value_of, with_reference, without_reference}
use Rattle.long_rows.specs.RowReferences.{identifier, named_by}
use Rattle.long_rows.specs.ReferenceCounts.{with_all_taken, with_taken}
use Rattle.long_rows.proofs.Taken.{ValueLaws, shared}
use Rattle.long_rows.proofs.Totals.{itself}
use Rattle.long_rows.specs.KeptRows.{MayTake, Takes}
use Rattle.long_rows.proofs.Given.{added, among, any_named, named_with, there}
use Rattle.long_rows.proofs.InUse.{given_back}
use Rattle.long_rows.proofs.Reading.{taken_beside}
use Rattle.column_set.specs.OtherValues.{MayStand, StandIn}
use Rattle.table_trees.specs.StoredTables.{StoredTable, has_table, table_long_values, with_long_values}
use Rattle.table_trees.specs.FirstValues.{CanGiveUp, CanTake, with_first, without_first}
use Rattle.table_trees.specs.NamedValues.{given_of, name_of}
use Rattle.table_trees.specs.ValuesChanged.{HasLongValues}
use Rattle.table_trees.proofs.Changed.{ChangeLaw, changed, then_has}
use Rattle.table_trees.proofs.NamedBytes.{Told}

-- ---- one value

placed : (values : Values) (given : List ℕ × List ℕ) → is_some (value_of given.0 values) ≡ false → with_taken values given ≡ put_value given.0 (record { count = 1; bytes = given.1 }) values
placed values given f = rw f refl

pub take_shared : ChangeLaw → (table : ℕ) (given : List ℕ × List ℕ) (old new : List StoredTable) → has_table old table ≡ true → is_some (value_of given.0 (table_long_values old table)) ≡ true
    → new ≡ with_long_values table (with_reference given.0 (table_long_values old table)) old → HasLongValues table (with_taken (table_long_values old table) given) old new
take_shared law table given old new here some is =
    changed law table (with_taken (table_long_values old table) given) old new here (is ∙ ap (λ (v : Values). with_long_values table v old) (sym (shared (table_long_values old table) given some)))

pub take_put : ChangeLaw → (table : ℕ) (given : List ℕ × List ℕ) (old new : List StoredTable) → has_table old table ≡ true → is_some (value_of given.0 (table_long_values old table)) ≡ false
    → new ≡ with_long_values table (put_value given.0 (record { count = 1; bytes = given.1 }) (table_long_values old table)) old → HasLongValues table (with_taken (table_long_values old table) given) old new
take_put law table given old new here none is =
    changed law table (with_taken (table_long_values old table) given) old new here (is ∙ ap (λ (v : Values). with_long_values table v old) (sym (placed (table_long_values old table) given none)))

taken_there : ValueLaws → (values : Values) (id bytes : List ℕ) → IsSome (value_of id (with_taken values (id, bytes)))
taken_there laws values id bytes = by (value_of id values) refl
  where
    by : (o : Option LongValue) → value_of id values ≡ o → IsSome (value_of id (with_taken values (id, bytes)))
    by None is = ap is_some (ap (value_of id) (placed values (id, bytes) (ap is_some is)) ∙ laws.put values id (record { count = 1; bytes = bytes }))
    by (Some found) is = ap is_some (ap (value_of id) (shared values (id, bytes) (ap is_some is)) ∙ laws.more values id found is)

-- ---- the first one, and the others

one_less : (a b : ℕ) → suc a ≡ suc b → a ≡ b
one_less a b e = omega (arith, e)

same_length : (xs : List (ℕ × RowValue)) (vs : List (List ℕ)) → length xs ≡ length vs → map (λ one. one.0) (given_of xs vs) ≡ named_by xs
same_length [] [] e = refl
same_length [] (v ∷ vs) e = absurd (omega (arith, e))
same_length ((column, Here own) ∷ xs) [] e = absurd (omega (arith, e))
same_length ((column, Apart entry place size) ∷ xs) [] e = absurd (omega (arith, e))
same_length ((column, Here own) ∷ xs) (v ∷ vs) e = same_length xs vs (one_less (length xs) (length vs) e)
same_length ((column, Apart entry place size) ∷ xs) (v ∷ vs) e = named_with (identifier entry place) v (given_of xs vs) (named_by xs) (same_length xs vs (one_less (length xs) (length vs) e))

among_named : (id : List ℕ) (xs : List (ℕ × RowValue)) (vs : List (List ℕ)) → length xs ≡ length vs → among id (given_of xs vs) ≡ list_any (bytes_eq id) (named_by xs)
among_named id xs vs e = any_named id (given_of xs vs) ∙ ap (list_any (bytes_eq id)) (same_length xs vs e)

pub first_then_others : (x : ℕ × RowValue) (xs : List (ℕ × RowValue)) (v : List ℕ) (vs : List (List ℕ)) (values : Values) → length xs ≡ length vs
    → with_all_taken (given_of xs vs) (with_first (name_of x.1) (named_by xs) v values) ≡ with_all_taken (given_of (x ∷ xs) (v ∷ vs)) values
first_then_others (column, Here own) xs v vs values e = refl
first_then_others (column, Apart entry place size) xs v vs values e =
    let id = identifier entry place in
    by_test (list_any (bytes_eq id) (named_by xs))
    (λ t.
    ap (λ (b : Bool). with_all_taken (given_of xs vs) (if b then values else with_taken values (id, v))) t
    ∙ ap (λ (l : List (List ℕ × List ℕ)). with_all_taken l values) (sym (there id v (given_of xs vs) (among_named id xs vs e ∙ t))))
    (λ f.
    ap (λ (b : Bool). with_all_taken (given_of xs vs) (if b then values else with_taken values (id, v))) f
    ∙ ap (λ (l : List (List ℕ × List ℕ)). with_all_taken l values) (sym (added id v (given_of xs vs) (among_named id xs vs e ∙ f))))

pub first_may : (x : ℕ × RowValue) (xs : List (ℕ × RowValue)) (v : List ℕ) (vs : List (List ℕ)) (values : Values) → length xs ≡ length vs → AllByRecursion (MayTake values) (given_of (x ∷ xs) (v ∷ vs)) → CanTake (name_of x.1) (named_by xs) v values
first_may (column, Here own) xs v vs values e all = tt
first_may (column, Apart entry place size) xs v vs values e all = λ f.
    let id = identifier entry place in
    let first : AllByRecursion (MayTake values) ((id, v) ∷ given_of xs vs) = subst (AllByRecursion (MayTake values)) (added id v (given_of xs vs) (among_named id xs vs e ∙ f)) all in
    first.0

still_may : ValueLaws → (values : Values) (id v : List ℕ) (given : List (List ℕ × List ℕ)) → among id given ≡ false → AllByRecursion (MayTake values) given → AllByRecursion (MayTake (with_taken values (id, v))) given
still_may laws values id v [] apart all = tt
still_may laws values id v (one ∷ given) apart all =
    by_test (bytes_eq id one.0)
    (λ t. absurd (true≢false (rw t at apart)))
    (λ f.
    let other : one.0 ≢ id = λ e. true≢false (sym (itself id) ∙ ap (bytes_eq id) (sym e) ∙ f) in
    (subst (Takes one.1) (sym (taken_beside laws values (id, v) one.0 other)) all.0, still_may laws values id v given (rw f at apart) all.1))

pub others_may : ValueLaws → (x : ℕ × RowValue) (xs : List (ℕ × RowValue)) (v : List ℕ) (vs : List (List ℕ)) (values : Values) → length xs ≡ length vs → AllByRecursion (MayTake values) (given_of (x ∷ xs) (v ∷ vs))
    → AllByRecursion (MayTake (with_first (name_of x.1) (named_by xs) v values)) (given_of xs vs)
others_may laws (column, Here own) xs v vs values e all = all
others_may laws (column, Apart entry place size) xs v vs values e all =
    let id = identifier entry place in
    by_test (list_any (bytes_eq id) (named_by xs))
    (λ t.
    subst (λ (b : Bool). AllByRecursion (MayTake (if b then values else with_taken values (id, v))) (given_of xs vs)) (sym t)
    (subst (AllByRecursion (MayTake values)) (there id v (given_of xs vs) (among_named id xs vs e ∙ t)) all))
    (λ f.
    let first : AllByRecursion (MayTake values) ((id, v) ∷ given_of xs vs) = subst (AllByRecursion (MayTake values)) (added id v (given_of xs vs) (among_named id xs vs e ∙ f)) all in
    subst (λ (b : Bool). AllByRecursion (MayTake (if b then values else with_taken values (id, v))) (given_of xs vs)) (sym f)
    (still_may laws values id v (given_of xs vs) (among_named id xs vs e ∙ f) first.1))

-- ---- the first one given back

pub first_back : ValueLaws → (named : Option (List ℕ)) (ids : List (List ℕ)) (v : List ℕ) (values : Values) → AreLong values → without_first named ids (with_first named ids v values) ≡ values
first_back laws None ids v values long = refl
first_back laws (Some id) ids v values long =
    by_test (list_any (bytes_eq id) ids)
    (λ t. ap (λ (b : Bool). if b then (if b then values else with_taken values (id, v)) else without_reference id (if b then values else with_taken values (id, v))) t)
    (λ f. ap (λ (b : Bool). if b then (if b then values else with_taken values (id, v)) else without_reference id (if b then values else with_taken values (id, v))) f ∙ given_back laws values id v long)

pub can_back : ValueLaws → (named : Option (List ℕ)) (ids : List (List ℕ)) (v : List ℕ) (values : Values) → CanGiveUp named ids (with_first named ids v values)
can_back laws None ids v values = tt
can_back laws (Some id) ids v values = λ f. subst (λ (b : Bool). IsSome (value_of id (if b then values else with_taken values (id, v)))) (sym f) (taken_there laws values id v)

-- ---- the calls

-- values of a row that may be taken with these of a record
abbrev pub MayAll : List ℕ → List (List ℕ) → Values → Type 0
MayAll row vs values = (xs : List (ℕ × RowValue)) × StandIn row xs × (length xs ≡ length vs) × AllByRecursion (MayTake values) (given_of xs vs)

pub first_can : (row : List ℕ) (named : Option (List ℕ)) (rest v : List ℕ) (vs : List (List ℕ)) (values : Values) → (row ≡ [] → ⊥) → Told row named rest → MayAll row (v ∷ vs) values → (ys : List (ℕ × RowValue)) × StandIn rest ys × CanTake named (named_by ys) v values
first_can row named rest v vs values some told has = by has.0 has.1 has.2 has.3
  where
    by : (xs : List (ℕ × RowValue)) → StandIn row xs → length xs ≡ length (v ∷ vs) → AllByRecursion (MayTake values) (given_of xs (v ∷ vs)) → (ys : List (ℕ × RowValue)) × StandIn rest ys × CanTake named (named_by ys) v values
    by [] stand long all = absurd (some stand.spelled)
    by (x ∷ xs) stand long all =
        let is = told x (flat_map value_bytes xs) stand.fit.0 stand.spelled in
        (xs, record { fit = stand.fit.1; spelled = is.1 }, subst (λ (o : Option (List ℕ)). CanTake o (named_by xs) v values) (sym is.0) (first_may x xs v vs values (one_less (length xs) (length vs) long) all))

pub others_can : ValueLaws → (row : List ℕ) (named : Option (List ℕ)) (rest v : List ℕ) (vs : List (List ℕ)) (table : ℕ) (old new : List StoredTable) → (row ≡ [] → ⊥) → Told row named rest → MayAll row (v ∷ vs) (table_long_values old table)
    → ((ys : List (ℕ × RowValue)) → StandIn rest ys → HasLongValues table (with_first named (named_by ys) v (table_long_values old table)) old new) → MayAll rest vs (table_long_values new table)
others_can laws row named rest v vs table old new some told has gave = by has.0 has.1 has.2 has.3
  where
    by : (xs : List (ℕ × RowValue)) → StandIn row xs → length xs ≡ length (v ∷ vs) → AllByRecursion (MayTake (table_long_values old table)) (given_of xs (v ∷ vs)) → MayAll rest vs (table_long_values new table)
    by [] stand long all = absurd (some stand.spelled)
    by (x ∷ xs) stand long all =
        let is = told x (flat_map value_bytes xs) stand.fit.0 stand.spelled in
        let st : StandIn rest xs = record { fit = stand.fit.1; spelled = is.1 } in
        let less = one_less (length xs) (length vs) long in
        let now : table_long_values new table ≡ with_first (name_of x.1) (named_by xs) v (table_long_values old table) =
        (gave xs st).named ∙ ap (λ (o : Option (List ℕ)). with_first o (named_by xs) v (table_long_values old table)) is.0 in
        (xs, st, less, subst (λ (w : Values). AllByRecursion (MayTake w) (given_of xs vs)) (sym now) (others_may laws x xs v vs (table_long_values old table) less all))

pub all_taken : (row : List ℕ) (named : Option (List ℕ)) (rest v : List ℕ) (vs : List (List ℕ)) (table : ℕ) (old mid new : List StoredTable) → (row ≡ [] → ⊥) → Told row named rest
    → ((ys : List (ℕ × RowValue)) → StandIn rest ys → HasLongValues table (with_first named (named_by ys) v (table_long_values old table)) old mid)
    → ((ys : List (ℕ × RowValue)) → StandIn rest ys → length ys ≡ length vs → HasLongValues table (with_all_taken (given_of ys vs) (table_long_values mid table)) mid new)
    → (xs : List (ℕ × RowValue)) → StandIn row xs → length xs ≡ length (v ∷ vs) → HasLongValues table (with_all_taken (given_of xs (v ∷ vs)) (table_long_values old table)) old new
all_taken row named rest v vs table old mid new some told first others [] stand long = absurd (some stand.spelled)
all_taken row named rest v vs table old mid new some told first others (x ∷ xs) stand long =
    let is = told x (flat_map value_bytes xs) stand.fit.0 stand.spelled in
    let st : StandIn rest xs = record { fit = stand.fit.1; spelled = is.1 } in
    let less = one_less (length xs) (length vs) long in
    let one = first xs st in
    let values = table_long_values old table in
    let all : with_all_taken (given_of xs vs) (table_long_values mid table) ≡ with_all_taken (given_of (x ∷ xs) (v ∷ vs)) values =
    ap (with_all_taken (given_of xs vs)) (one.named ∙ ap (λ (o : Option (List ℕ)). with_first o (named_by xs) v values) is.0) ∙ first_then_others x xs v vs values less in
    subst (λ (w : Values). HasLongValues table w old new) all (then_has table (with_first named (named_by xs) v values) (with_all_taken (given_of xs vs) (table_long_values mid table)) old mid new one (others xs st less))

pub back_can : ValueLaws → (rest : List ℕ) (named : Option (List ℕ)) (v : List ℕ) (table : ℕ) (old mid new : List StoredTable) → ((ys : List (ℕ × RowValue)) × StandIn rest ys)
    → ((ys : List (ℕ × RowValue)) → StandIn rest ys → HasLongValues table (with_first named (named_by ys) v (table_long_values old table)) old mid) → HasLongValues table (table_long_values mid table) mid new
    → (ys : List (ℕ × RowValue)) × StandIn rest ys × CanGiveUp named (named_by ys) (table_long_values new table)
back_can laws rest named v table old mid new stands first kept =
    let now : table_long_values new table ≡ with_first named (named_by stands.0) v (table_long_values old table) = kept.named ∙ (first stands.0 stands.1).named in
    (stands.0, stands.1, subst (CanGiveUp named (named_by stands.0)) (sym now) (can_back laws named (named_by stands.0) v (table_long_values old table)))

pub all_back : ValueLaws → (rest : List ℕ) (named : Option (List ℕ)) (v : List ℕ) (table : ℕ) (old mid new last : List StoredTable) → AreLong (table_long_values old table) → ((ys : List (ℕ × RowValue)) × StandIn rest ys)
    → ((ys : List (ℕ × RowValue)) → StandIn rest ys → HasLongValues table (with_first named (named_by ys) v (table_long_values old table)) old mid) → HasLongValues table (table_long_values mid table) mid new
    → ((ys : List (ℕ × RowValue)) → StandIn rest ys → HasLongValues table (without_first named (named_by ys) (table_long_values new table)) new last)
    → HasLongValues table (table_long_values old table) old last
all_back laws rest named v table old mid new last long stands first kept released =
    let ys = stands.0 in
    let values = table_long_values old table in
    let one = first ys stands.1 in
    let back = released ys stands.1 in
    let now : without_first named (named_by ys) (table_long_values new table) ≡ values = ap (without_first named (named_by ys)) (kept.named ∙ one.named) ∙ first_back laws named (named_by ys) v values long in
    subst (λ (w : Values). HasLongValues table w old last) now
    (then_has table (table_long_values mid table) (without_first named (named_by ys) (table_long_values new table)) old new last
    (then_has table (with_first named (named_by ys) v values) (table_long_values mid table) old mid new one kept) back)

pub none_taken : (row : List ℕ) (v : List ℕ) (vs : List (List ℕ)) (table : ℕ) (old : List StoredTable) → ((value : ℕ × RowValue) (behind : List ℕ) → MayStand value → row ≡ value_bytes value ++ behind → ⊥) → (xs : List (ℕ × RowValue)) → StandIn row xs → length xs ≡ length (v ∷ vs)
    → HasLongValues table (with_all_taken (given_of xs (v ∷ vs)) (table_long_values old table)) old old
none_taken row v vs table old none [] stand long = absurd (omega (arith, long))
none_taken row v vs table old none (x ∷ xs) stand long = absurd (none x (flat_map value_bytes xs) stand.fit.0 stand.spelled)
