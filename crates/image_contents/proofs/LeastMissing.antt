-- The least value that is missing, or not whole, by the heads alone.
use Rattle.std.proofs.Common.{◌≡◌, ℕ, Bool, true, false, cond, List, [], ◌∷◌, ◌++◌, length, Option, Some, None, inl, inr, refl, sym, ap, subst, ◌∙◌, arith}
use Rattle.std.specs.Prelude.{◌⊎◌, ◌==◌, filter, map, option_map, unwrap_or}
use Rattle.std.specs.List.{flat_map}
use Rattle.std.proofs.lemmas.List.{length-append}
use Rattle.std.proofs.lemmas.List.Concat.{flat_map-append}
use Rattle.std.proofs.lemmas.List.Sums.{fold-append}
use Rattle.byteorder.specs.Endian.{big_bytes}
use Rattle.byteorder.specs.Numbers.{length-bytes_high_first}
use Rattle.column_set.specs.RowReading.{row_in}
use Rattle.column_set.specs.Rows.{values_in_order}
use Rattle.column_set.specs.declared.rows.RowValue.{RowValue}
use Rattle.column_set.specs.declared.rows.RowValue.TheVariants.{Here, Apart}
use Rattle.database_state.specs.State.{is_undone}
use Rattle.long_rows.specs.RowReferences.{identifier}
use Rattle.long_value.specs.Shown.{shown_values}
use Rattle.long_value.specs.Values.{Values}
use Rattle.page_image.specs.Page.{Node}
use Rattle.stored_variants.specs.CountedValues.{newest_rows, row_before, rows_before, with_own_row}
use Rattle.stored_variants.specs.RecordRows.{row_in_node}
use Rattle.version_store.specs.HeldChanges.{HeldChange}
use Rattle.image_findings.specs.Images.{least_key}
use Rattle.image_findings.specs.TableContents.{TableContents, long_values}
use Rattle.image_findings.specs.ValueFindings.{broken_values, missing_before, missing_of_row, missing_value, missing_values}
use Rattle.image_contents.specs.HeadlessValues.{has_head, headless, headless_in, headless_of, least_of, lesser, with_lesser}
use Rattle.image_contents.specs.ReferringRows.{Referring, before_of, newest_of, referring_rows}
use Rattle.image_contents.proofs.LeastKeys.{least_append, least_both, swapped}
use Rattle.image_contents.proofs.RowsReferring.{no_row}
use Rattle.image_contents.proofs.WholeHeads.{Agree, settled}

-- ---- the rows name the values that are missing

missing_in : Values → List (ℕ × RowValue) → List (List ℕ)
missing_in values xs = flat_map (λ value. missing_value values value.1) xs

missing_of : Values → List Referring → List (List ℕ)
missing_of values rows = flat_map (λ row. missing_in values row.0) rows

newest_missing : (values : Values) (nodes : List Node) → missing_of values (map newest_of nodes) ≡ flat_map (λ row. missing_of_row values row.1) (newest_rows nodes)
unfolding missing_of missing_in
newest_missing values [] = refl
newest_missing values (n ∷ nodes) = ap (λ (l : List (List ℕ)). missing_of_row values (row_in n.data) ++ l) (newest_missing values nodes) ∙ by n.data
  where
    by : (bytes : List ℕ) → missing_of_row values (row_in bytes) ++ flat_map (λ row. missing_of_row values row.1) (newest_rows nodes) ≡ flat_map (λ row. missing_of_row values row.1) (with_own_row n.key (row_in_node bytes) (newest_rows nodes))
    by [] = ap (λ row. missing_of_row values row ++ flat_map (λ row. missing_of_row values row.1) (newest_rows nodes)) no_row
    by (byte ∷ bytes) = refl

before_missing : (values : Values) (table : ℕ) (held : List HeldChange) → missing_of values (map (before_of table) held) ≡ flat_map (missing_before values) (rows_before table held)
unfolding missing_of missing_in
before_missing values table [] = refl
before_missing values table (h ∷ held) = ap (λ (l : List (List ℕ)). missing_in values (before_of table h).0 ++ l) (before_missing values table held) ∙ by (h.table == table)
  where
    one : (o : Option (List ℕ)) → missing_of_row values (row_in (unwrap_or o [])) ≡ missing_before values (record { bookmark = h.bookmark; row = option_map row_in o; is_undone = is_undone h.status })
    one None = ap (missing_of_row values) no_row
    one (Some row) = refl

    by : (b : Bool) → flat_map (λ value. missing_value values value.1) (cond b (values_in_order (row_in (unwrap_or h.before []))) []) ++ flat_map (missing_before values) (rows_before table held)
        ≡ flat_map (missing_before values) (map row_before (cond b (h ∷ filter (λ (g : HeldChange). g.table == table) held) (filter (λ (g : HeldChange). g.table == table) held)))
    by true = ap (λ (l : List (List ℕ)). l ++ flat_map (missing_before values) (rows_before table held)) (one h.before)
    by false = refl

missing_is : (t : TableContents) (held : List HeldChange) → missing_of (long_values t) (referring_rows t.table.id t.nodes held) ≡ missing_values held t
unfolding missing_of
missing_is t held =
    flat_map-append (λ (row : Referring). missing_in (long_values t) row.0) (map newest_of t.nodes) (map (before_of t.table.id) held)
    ∙ ap (λ (l : List (List ℕ)). l ++ missing_of (long_values t) (map (before_of t.table.id) held)) (newest_missing (long_values t) t.nodes)
    ∙ ap (λ (l : List (List ℕ)). flat_map (λ row. missing_of_row (long_values t) row.1) (newest_rows t.nodes) ++ l) (before_missing (long_values t) t.table.id held)

-- ---- heads tell as much as whole values, below the least that is not whole

Settles : List Node → Option (List ℕ) → Type 0
Settles nodes least = (id : List ℕ) → length id ≡ 12 → Agree nodes id ⊎ (with_lesser least id ≡ least)

one_more : (nodes : List Node) (least : Option (List ℕ)) (k : List ℕ) → Settles nodes least → Settles nodes (with_lesser least k)
unfolding Settles
one_more nodes least k s id long = elim (s id long) [
  | inl agree ↦ inl agree
  | inr stays ↦ inr (swapped least k id ∙ ap (λ o. with_lesser o k) stays)
]

id_length : (entry place : ℕ) → length (identifier entry place) ≡ 12
id_length entry place = omega (arith, length-append (big_bytes 8 entry) (big_bytes 4 place), length-bytes_high_first 8 entry, length-bytes_high_first 4 place)

record Same (nodes : List Node) (one other : Option (List ℕ)) : Type 0 where
  same : one ≡ other
  settles : Settles nodes other

stays_at : (least : Option (List ℕ)) (id : List ℕ) (b : Bool) → with_lesser least id ≡ least → least_of least (cond b [] (id ∷ [])) ≡ least
stays_at least id true e = refl
stays_at least id false e = e

settles_at : (nodes : List Node) (least : Option (List ℕ)) (id : List ℕ) (b : Bool) → Settles nodes least → Settles nodes (least_of least (cond b [] (id ∷ [])))
settles_at nodes least id true s = s
settles_at nodes least id false s = one_more nodes least id s

same_value : (nodes : List Node) (least : Option (List ℕ)) (v : RowValue) → Settles nodes least → Same nodes (least_of least (headless nodes v)) (least_of least (missing_value (shown_values nodes) v))
unfolding Settles
same_value nodes least (Here bytes) s = record { same = refl; settles = s }
same_value nodes least (Apart entry place size) s =
    let id = identifier entry place in
    record {
      same = elim (s id (id_length entry place)) [
        | inl agree ↦ ap (λ (b : Bool). least_of least (cond b [] (id ∷ []))) (agree size)
        | inr stays ↦ stays_at least id (has_head nodes id size) stays ∙ sym (stays_at least id _ stays)
      ];
      settles = settles_at nodes least id _ s;
    }

same_values : (nodes : List Node) (least : Option (List ℕ)) (xs : List (ℕ × RowValue)) → Settles nodes least → Same nodes (least_of least (headless_in nodes xs)) (least_of least (missing_in (shown_values nodes) xs))
unfolding missing_in
same_values nodes least [] s = record { same = refl; settles = s }
same_values nodes least (x ∷ xs) s =
    let first = same_value nodes least x.1 s in
    let rest = same_values nodes (least_of least (missing_value (shown_values nodes) x.1)) xs first.settles in
    let parted = fold-append with_lesser least (missing_value (shown_values nodes) x.1) (missing_in (shown_values nodes) xs) in
    record {
      same = fold-append with_lesser least (headless nodes x.1) (headless_in nodes xs) ∙ ap (λ o. least_of o (headless_in nodes xs)) first.same ∙ rest.same ∙ sym parted;
      settles = subst (Settles nodes) (sym parted) rest.settles;
    }

same_rows : (nodes : List Node) (least : Option (List ℕ)) (rows : List Referring) → Settles nodes least → least_of least (headless_of nodes rows) ≡ least_of least (missing_of (shown_values nodes) rows)
unfolding missing_of
same_rows nodes least [] s = refl
same_rows nodes least (row ∷ rows) s =
    let first = same_values nodes least row.0 s in
    fold-append with_lesser least (headless_in nodes row.0) (headless_of nodes rows)
    ∙ ap (λ o. least_of o (headless_of nodes rows)) first.same
    ∙ same_rows nodes (least_of least (missing_in (shown_values nodes) row.0)) rows first.settles
    ∙ sym (fold-append with_lesser least (missing_in (shown_values nodes) row.0) (missing_of (shown_values nodes) rows))

-- the least of all
pub least_is : (number : ℕ) (t : TableContents) (held : List HeldChange)
    → lesser (least_key (broken_values number t)) (least_of None (headless_of t.value_nodes (referring_rows t.table.id t.nodes held))) ≡ least_key (broken_values number t ++ missing_values held t)
unfolding Settles
least_is number t held =
    least_both (least_key (broken_values number t)) (headless_of t.value_nodes (referring_rows t.table.id t.nodes held))
    ∙ same_rows t.value_nodes (least_key (broken_values number t)) (referring_rows t.table.id t.nodes held) (settled number t.value_nodes)
    ∙ ap (least_of (least_key (broken_values number t))) (missing_is t held)
    ∙ sym (least_append (broken_values number t) (missing_values held t))

-- the least of all that rows name, one row more
pub row_more : (nodes : List Node) (rows rest : List Referring) (row : Referring) (least next total : Option (List ℕ)) → rows ≡ row ∷ rest → next ≡ least_of least (headless_in nodes row.0) → least_of least (headless_of nodes rows) ≡ total → least_of next (headless_of nodes rest) ≡ total
row_more nodes rows rest row least next total is made so_far =
    ap (λ o. least_of o (headless_of nodes rest)) made
    ∙ sym (fold-append with_lesser least (headless_in nodes row.0) (headless_of nodes rest))
    ∙ sym (ap (λ (l : List Referring). least_of least (headless_of nodes l)) is)
    ∙ so_far

pub rows_done : (nodes : List Node) (rows : List Referring) (least total : Option (List ℕ)) → rows ≡ [] → least_of least (headless_of nodes rows) ≡ total → least ≡ total
rows_done nodes rows least total none so_far = sym (ap (λ (l : List Referring). least_of least (headless_of nodes l)) none) ∙ so_far
