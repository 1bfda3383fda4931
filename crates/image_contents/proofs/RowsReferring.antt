-- The rows that may refer to long values, one after another, and what they are counted for.
use Rattle.std.proofs.Common.{◌≡◌, ℕ, zero, suc, ◌+◌, ◌<◌, ◌≤◌, Bool, true, false, ◌&&◌, cond, List, [], ◌∷◌, ◌++◌, length, drop, take, Option, Some, None, refl, sym, ap, subst, ◌∙◌, arith, true≢false}
use Rattle.std.specs.Prelude.{◌==◌, bytes_eq, filter, map, not, option_map, slice_get, sum_by, unwrap_or}
use Rattle.std.specs.List.{flat_map, list_any}
use Rattle.std.proofs.lemmas.List.Sums.{sum_by-append, sum_by-cons}
use Rattle.column_set.specs.OtherValues.{StandIn}
use Rattle.column_set.specs.RowReading.{read_row, read_values, row_in}
use Rattle.column_set.specs.Rows.{values_in_order}
use Rattle.column_set.specs.declared.rows.RowValue.{RowValue}
use Rattle.common_lemmas.proofs.Options.{none_some, same_some}
use Rattle.database_state.specs.State.{is_undone}
use Rattle.long_rows.specs.ReferenceCounts.{reference_count, references_before}
use Rattle.long_rows.specs.RowReferences.{named_by, references, times_among}
use Rattle.page_image.specs.Page.{Node}
use Rattle.stored_variants.specs.CountedValues.{newest_rows, row_before, rows_before, with_own_row}
use Rattle.stored_variants.specs.RecordRows.{row_in_node}
use Rattle.version_store.specs.HeldChanges.{HeldChange}
use Rattle.image_contents.proofs.NamedParts.{once}
use Rattle.image_contents.specs.ReferringRows.{Referring, before_of, counted, counted_in, newest_of, referring_rows}

-- ---- one after another

at_place : (held : List HeldChange) (i : ℕ) (h : HeldChange) → slice_get held i ≡ Some h → drop i held ≡ h ∷ drop (suc i) held
at_place [] i h e = none_some h e
at_place (x ∷ held) zero h e = ap (λ (y : HeldChange). y ∷ held) (same_some x h e)
at_place (x ∷ held) (suc i) h e = at_place held i h e

past_all : (held : List HeldChange) (i : ℕ) → length held ≤ i → drop i held ≡ []
past_all [] zero le = refl
past_all [] (suc i) le = refl
past_all (x ∷ held) zero le = absurd (omega (arith, le))
past_all (x ∷ held) (suc i) le = past_all held i (omega (arith, le))

-- the first row is that of a node
pub node_first : (table : ℕ) (walk rest : List Node) (n : Node) (held : List HeldChange) (values : List ℕ) → walk ≡ n ∷ rest → StandIn values (values_in_order (row_in n.data))
    → (xs : List (ℕ × RowValue)) × StandIn values xs × (referring_rows table walk held ≡ (xs, false) ∷ referring_rows table rest held)
node_first table walk rest n held values is stand = (values_in_order (row_in n.data), stand, ap (λ (l : List Node). referring_rows table l held) is)

pub change_first : (table : ℕ) (walk rest : List Node) (held : List HeldChange) (i j : ℕ) (h : HeldChange) (values : List ℕ) (undone : Bool) → (walk ≡ []) × (rest ≡ []) → slice_get held i ≡ Some h → j ≡ i + 1 → StandIn values (before_of table h).0 → undone ≡ is_undone h.status
    → (xs : List (ℕ × RowValue)) × StandIn values xs × (referring_rows table walk (drop i held) ≡ (xs, undone) ∷ referring_rows table rest (drop j held))
change_first table walk rest held i j h values undone none there next stand is =
    let same : suc i ≡ j = omega (arith, next) in
    let behind : drop (suc i) held ≡ drop j held = ap (λ (n : ℕ). drop n held) same in (
      (before_of table h).0,
      stand,
      ap (λ (l : List Node). referring_rows table l (drop i held)) none.0
          ∙ ap (map (before_of table)) (at_place held i h there)
          ∙ ap (λ (u : Bool). ((before_of table h).0, u) ∷ map (before_of table) (drop (suc i) held)) (sym is)
          ∙ ap (λ (l : List HeldChange). ((before_of table h).0, undone) ∷ map (before_of table) l) behind
          ∙ ap (λ (l : List Node). ((before_of table h).0, undone) ∷ referring_rows table l (drop j held)) (sym none.1),
    )

pub none_first : (table : ℕ) (walk : List Node) (held : List HeldChange) (i : ℕ) → walk ≡ [] → length held ≤ i → referring_rows table walk (drop i held) ≡ []
none_first table walk held i none last = ap (λ (l : List Node). referring_rows table l (drop i held)) none ∙ ap (map (before_of table)) (past_all held i last)

pub smaller : (rows rest : List Referring) (row : Referring) → rows ≡ row ∷ rest → length rest < length rows
smaller rows rest row is = omega (arith, ap (λ (l : List Referring). length l) is)

-- ---- how many refer to a value

pub refers_once : (id : List ℕ) (xs : List (ℕ × RowValue)) (undone b : Bool) → b ≡ (not undone && list_any (bytes_eq id) (named_by xs)) → counted_in id (xs, undone) ≡ cond b 1 0
refers_once id xs true b is = sym (ap (λ c. cond c 1 0) is)
refers_once id xs false b is = once id xs ∙ sym (ap (λ c. cond c 1 0) is)

-- one row more
pub one_counted : (id : List ℕ) (rows rest : List Referring) (row : Referring) (count total : ℕ) (b : Bool) → rows ≡ row ∷ rest → counted_in id row ≡ cond b 1 0 → count + counted id rows ≡ total → (count + cond b 1 0) + counted id rest ≡ total
one_counted id rows rest row count total b is one so_far =
    let listed : counted id rows ≡ counted_in id row + counted id rest = ap (counted id) is ∙ sum_by-cons (counted_in id) row rest in
    omega (arith, listed, one, so_far)

pub row_counted : (id : List ℕ) (rows rest : List Referring) (xs : List (ℕ × RowValue)) (undone : Bool) (count more total : ℕ) (b : Bool) → rows ≡ (xs, undone) ∷ rest → b ≡ (not undone && list_any (bytes_eq id) (named_by xs)) → b ≡ true → more ≡ count + 1
    → count + counted id rows ≡ total → more + counted id rest ≡ total
row_counted id rows rest xs undone count more total b is refers t next so_far =
    let one = one_counted id rows rest (xs, undone) count total b is (refers_once id xs undone b refers) so_far in
    ap (λ (k : ℕ). k + counted id rest) (next ∙ ap (λ c. count + cond c 1 0) (sym t)) ∙ one

not_counted : (b : Bool) (count : ℕ) → b ≡ false → count + cond b 1 0 ≡ count
not_counted true count f = absurd (true≢false f)
not_counted false count f = omega arith

pub row_passed : (id : List ℕ) (rows rest : List Referring) (xs : List (ℕ × RowValue)) (undone : Bool) (count total : ℕ) (b : Bool) → rows ≡ (xs, undone) ∷ rest → b ≡ (not undone && list_any (bytes_eq id) (named_by xs)) → b ≡ false
    → count + counted id rows ≡ total → count + counted id rest ≡ total
row_passed id rows rest xs undone count total b is refers f so_far =
    let one = one_counted id rows rest (xs, undone) count total b is (refers_once id xs undone b refers) so_far in
    ap (λ (k : ℕ). k + counted id rest) (sym (not_counted b count f)) ∙ one

pub all_counted : (id : List ℕ) (rows : List Referring) (count total : ℕ) → rows ≡ [] → count + counted id rows ≡ total → count ≡ total
all_counted id rows count total none so_far =
    let nothing : counted id rows ≡ 0 = ap (counted id) none in
    omega (arith, nothing, so_far)

-- ---- the rows of a table

pub no_row : row_in [] ≡ []
unfolding read_row read_values
no_row = refl

no_values : values_in_order (row_in []) ≡ []
no_values = ap values_in_order no_row

none_more : (n : ℕ) → 0 + n ≡ n
none_more n = omega arith

newest_counted : (id : List ℕ) (nodes : List Node) → sum_by (counted_in id) (map newest_of nodes) ≡ sum_by (λ row. references id (Some row.1)) (newest_rows nodes)
newest_counted id [] = refl
newest_counted id (n ∷ nodes) = sum_by-cons (counted_in id) (newest_of n) (map newest_of nodes) ∙ ap (λ (k : ℕ). counted_in id (newest_of n) + k) (newest_counted id nodes) ∙ by n.data
  where
    by : (bytes : List ℕ) → times_among id (named_by (values_in_order (row_in bytes))) + sum_by (λ row. references id (Some row.1)) (newest_rows nodes) ≡ sum_by (λ row. references id (Some row.1)) (with_own_row n.key (row_in_node bytes) (newest_rows nodes))
    by [] = ap (λ (xs : List (ℕ × RowValue)). times_among id (named_by xs) + sum_by (λ row. references id (Some row.1)) (newest_rows nodes)) no_values ∙ none_more (sum_by (λ row. references id (Some row.1)) (newest_rows nodes))
    by (byte ∷ bytes) = sym (sum_by-cons (λ row. references id (Some row.1)) (n.key, row_in (byte ∷ bytes)) (newest_rows nodes))

zero_of : (id : List ℕ) (u : Bool) → counted_in id ([], u) ≡ 0
zero_of id true = refl
zero_of id false = refl

before_counted : (id : List ℕ) (table : ℕ) (held : List HeldChange) → sum_by (counted_in id) (map (before_of table) held) ≡ sum_by (references_before id) (rows_before table held)
before_counted id table [] = refl
before_counted id table (h ∷ held) =
    sum_by-cons (counted_in id) (before_of table h) (map (before_of table) held) ∙ ap (λ (k : ℕ). counted_in id (before_of table h) + k) (before_counted id table held) ∙ by (h.table == table)
  where
    one : (o : Option (List ℕ)) (u : Bool) → counted_in id (values_in_order (row_in (unwrap_or o [])), u) ≡ references_before id (record { bookmark = h.bookmark; row = option_map row_in o; is_undone = u })
    one o true = refl
    one None false = ap (λ (xs : List (ℕ × RowValue)). times_among id (named_by xs)) no_values
    one (Some row) false = refl

    by : (b : Bool) → counted_in id (cond b (values_in_order (row_in (unwrap_or h.before []))) [], is_undone h.status) + sum_by (references_before id) (rows_before table held)
        ≡ sum_by (references_before id) (map row_before (cond b (h ∷ filter (λ (g : HeldChange). g.table == table) held) (filter (λ (g : HeldChange). g.table == table) held)))
    by true = ap (λ (k : ℕ). k + sum_by (references_before id) (rows_before table held)) (one h.before (is_undone h.status)) ∙ sym (sum_by-cons (references_before id) (row_before h) (rows_before table held))
    by false = ap (λ (k : ℕ). k + sum_by (references_before id) (rows_before table held)) (zero_of id (is_undone h.status)) ∙ none_more (sum_by (references_before id) (rows_before table held))

pub counted_is : (id : List ℕ) (table : ℕ) (nodes : List Node) (held : List HeldChange) → counted id (referring_rows table nodes held) ≡ reference_count id (newest_rows nodes) (rows_before table held)
counted_is id table nodes held =
    sum_by-append (counted_in id) (map newest_of nodes) (map (before_of table) held)
    ∙ ap (λ (k : ℕ). k + sum_by (counted_in id) (map (before_of table) held)) (newest_counted id nodes)
    ∙ ap (λ (k : ℕ). sum_by (λ row. references id (Some row.1)) (newest_rows nodes) + k) (before_counted id table held)
