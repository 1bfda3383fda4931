-- Of the entries of all variants a reader is shown the derivation of the records that it sees.
use Rattle.std.proofs.Common.{◌≡◌, ℕ, Bool, true, false, not, ◌&&◌, ◌||◌, cond, List, [], ◌∷◌, Option, Some, refl, sym, ap, ◌∙◌, bytes_eq}
use Rattle.std.specs.Prelude.{T, filter, find}
use Rattle.std.specs.List.{list_all, list_any}
use Rattle.std.specs.Ordering.{nat_cmp, is_lt}
use Rattle.std.specs.Cmp.Lexicographic.{slice_cmp}
use Rattle.std.specs.FinMap.Entries.{below_all}
use Rattle.std.proofs.lemmas.Bool.{and_from, or_left, or_right}
use Rattle.common_lemmas.proofs.Booleans.{T_first, T_second, and_left, and_right, impossible, is_true}
use Rattle.common_lemmas.proofs.Numbers.{same_bytes}
use Rattle.column_set.specs.RecordValues.{RecordFields, lookup_by_key}
use Rattle.cursor_nav.specs.Places.{Pair, are_sorted, pair_lt}
use Rattle.laws_versions.specs.KeptEntries.{has_entry}
use Rattle.index_derive.specs.declared.rules.IndexRule.{IndexRule}
use Rattle.index_derive.specs.declared.rules.Schema.{Schema}
use Rattle.index_derive.specs.Entries.{derive, own_order}
use Rattle.database_state.specs.Conflicts.{yields_key}
use Rattle.database_state.specs.State.{Status, uncommitted, committed, undone, is_undone}
use Rattle.database_state.specs.Table.{Rows, row_at}
use Rattle.version_store.specs.declared.calls.Reader.{Reader}
use Rattle.version_store.specs.HeldChanges.{is_rewrite, is_unseen_status}
use Rattle.laws_engine.specs.HeldRecords.{HeldRecord, before_or, hides, is_change_at, is_standing_rewrite, seen_record}
use Rattle.laws_engine.specs.VersionedTables.{seen_rows}
use Rattle.laws_engine.specs.Variants.{HoldsVariants, is_variant_key, shown_entries}
use Rattle.laws_engine.specs.Holding.{RowsRise}
use Rattle.laws_engine.proofs.TableLemmas.Rising.{seen_rise}
use Rattle.laws_engine.proofs.TableLemmas.SeenRows.{seen_at}

-- ---- rows that rise are in the order of their bookmarks

below_is : (key : List ℕ) (rows : Rows) → T (below_all (slice_cmp nat_cmp) key rows) → list_all (pair_lt (key, key)) (own_order rows) ≡ true
below_is key [] h = refl
below_is key (row ∷ rows) h = and_from _ _ (or_left _ _ (is_true (is_lt (slice_cmp nat_cmp key row.0)) (T_first _ _ h))) (below_is key rows (T_second (is_lt (slice_cmp nat_cmp key row.0)) _ h))

pub order_is : (rows : Rows) → RowsRise rows → are_sorted (own_order rows) ≡ true
order_is [] h = refl
order_is (row ∷ rows) h = and_from _ _ (below_is row.0 rows (T_first _ _ h)) (order_is rows (T_second (below_all (slice_cmp nat_cmp) row.0 rows) _ h))

-- ---- what is seen is a variant

-- a reader sees no change that is undone
pub unseen_stands : (reader : Reader) (session : ℕ) (s : Status) → is_unseen_status reader session s ≡ true → not (is_undone s) ≡ true
unseen_stands reader session uncommitted e = refl
unseen_stands reader session (committed n) e = refl
unseen_stands reader session undone e = impossible e

seen_is_variant : (reader : Reader) (table : ℕ) (rule : IndexRule) (schema : Schema) (key bookmark : List ℕ) (newest : Option RecordFields) (held : List HeldRecord)
    → yields_key rule schema key (seen_record table bookmark reader newest held) ≡ true → is_variant_key newest held rule schema table key bookmark ≡ true
seen_is_variant reader table rule schema key bookmark newest [] e = or_left (yields_key rule schema key newest) false e
seen_is_variant reader table rule schema key bookmark newest (h ∷ held) e =
    by (hides table bookmark reader h) refl (seen_is_variant reader table rule schema key bookmark newest held) e
  where
    later : (a b c : Bool) → (a || c) ≡ true → (a || (b || c)) ≡ true
    later true b c e = refl
    later false true c e = refl
    later false false c e = e

    by : (b : Bool) → hides table bookmark reader h ≡ b → (yields_key rule schema key (seen_record table bookmark reader newest held) ≡ true → is_variant_key newest held rule schema table key bookmark ≡ true)
        → yields_key rule schema key (before_or newest (cond b (Some h) (find (hides table bookmark reader) held))) ≡ true → is_variant_key newest (h ∷ held) rule schema table key bookmark ≡ true
    by true hit rest g =
        let touched : (is_change_at table bookmark h && is_rewrite h.kind) ≡ true = and_left _ _ hit in
        let live = unseen_stands reader h.session h.status (and_right (is_change_at table bookmark h && is_rewrite h.kind) _ hit) in
        or_right (yields_key rule schema key newest) _ (or_left (is_standing_rewrite table bookmark h && yields_key rule schema key h.before) _ (and_from _ _ (and_from _ _ touched live) g))
    by false miss rest g = later (yields_key rule schema key newest) (is_standing_rewrite table bookmark h && yields_key rule schema key h.before) _ (rest g)

-- ---- the entries that are shown

shown_by : (seen : List ℕ → Option RecordFields) (rule : IndexRule) (schema : Schema) (key bookmark : List ℕ) (entries : List Pair)
    → has_entry key bookmark (filter (λ entry. yields_key rule schema entry.0 (seen entry.1)) entries) ≡ (has_entry key bookmark entries && yields_key rule schema key (seen bookmark))
shown_by seen rule schema key bookmark [] = refl
shown_by seen rule schema key bookmark (entry ∷ entries) =
    elim (yields_key rule schema entry.0 (seen entry.1)) as (λ b. yields_key rule schema entry.0 (seen entry.1) ≡ b
    → list_any is_it (cond b (entry ∷ shown entries) (shown entries)) ≡ ((is_it entry || list_any is_it entries) && yields_key rule schema key (seen bookmark))) [
      | true ↦ λ e. ap (λ b. is_it entry || b) (shown_by seen rule schema key bookmark entries)
          ∙ here (is_it entry) (list_any is_it entries) (yields_key rule schema key (seen bookmark)) (λ hit. same hit e)
      | false ↦ λ e. shown_by seen rule schema key bookmark entries
          ∙ gone (is_it entry) (list_any is_it entries) (yields_key rule schema key (seen bookmark)) (λ hit. same hit e)
    ] refl
  where
    is_it : Pair → Bool
    is_it entry = bytes_eq entry.0 key && bytes_eq entry.1 bookmark

    shown : List Pair → List Pair
    shown entries = filter (λ entry. yields_key rule schema entry.0 (seen entry.1)) entries

    same : {b : Bool} → is_it entry ≡ true → yields_key rule schema entry.0 (seen entry.1) ≡ b → yields_key rule schema key (seen bookmark) ≡ b
    same hit e =
        let k = same_bytes entry.0 key (and_left _ _ hit) in
        let m = same_bytes entry.1 bookmark (and_right (bytes_eq entry.0 key) _ hit) in
        sym (λ i. yields_key rule schema (k i) (seen (m i))) ∙ e

    here : (a b c : Bool) → (a ≡ true → c ≡ true) → (a || (b && c)) ≡ ((a || b) && c)
    here true b c f = sym (f refl)
    here false b c f = refl

    gone : (a b c : Bool) → (a ≡ true → c ≡ false) → (b && c) ≡ ((a || b) && c)
    gone true true c f = refl
    gone true false c f = sym (f refl)
    gone false b c f = refl

-- the laws of derived indexes that it rests on
pub record Derived : Type 0 where
  pub same : (one other : List Pair) → are_sorted one ≡ true → are_sorted other ≡ true → ((key bookmark : List ℕ) → has_entry key bookmark one ≡ has_entry key bookmark other) → one ≡ other
  pub some : (test : Pair → Bool) (entries : List Pair) → are_sorted entries ≡ true → are_sorted (filter test entries) ≡ true
  pub in_order : (rule : IndexRule) (schema : Schema) (rows : List (List ℕ × RecordFields)) → are_sorted (own_order rows) ≡ true → are_sorted (derive rule schema rows) ≡ true
  pub of_records : (rule : IndexRule) (schema : Schema) (rows : List (List ℕ × RecordFields)) (key bookmark : List ℕ) → are_sorted (own_order rows) ≡ true → has_entry key bookmark (derive rule schema rows) ≡ yields_key rule schema key (lookup_by_key bookmark rows)

pub shown_is_derived : Derived → (table : ℕ) (reader : Reader) (held : List HeldRecord) (rows : Rows) (rule : IndexRule) (schema : Schema) (entries : List Pair) → RowsRise rows → HoldsVariants rows held rule schema table entries → are_sorted entries ≡ true
    → shown_entries table reader held rows rule schema entries ≡ derive rule schema (seen_rows table reader held rows)
shown_is_derived derived table reader held rows rule schema entries rise holds sorted =
    derived.same (shown_entries table reader held rows rule schema entries) (derive rule schema (seen_rows table reader held rows))
    (derived.some (λ entry. yields_key rule schema entry.0 (seen_record table entry.1 reader (row_at rows entry.1) held)) entries sorted)
    (derived.in_order rule schema (seen_rows table reader held rows) ordered)
    (λ key bookmark.
    shown_by (λ b. seen_record table b reader (row_at rows b) held) rule schema key bookmark entries
    ∙ ap (λ b. b && yields_key rule schema key (seen_record table bookmark reader (row_at rows bookmark) held)) (holds key bookmark)
    ∙ inside (is_variant_key (row_at rows bookmark) held rule schema table key bookmark) (yields_key rule schema key (seen_record table bookmark reader (row_at rows bookmark) held))
    (seen_is_variant reader table rule schema key bookmark (row_at rows bookmark) held)
    ∙ ap (yields_key rule schema key) (sym (seen_at table reader held rows bookmark))
    ∙ sym (derived.of_records rule schema (seen_rows table reader held rows) key bookmark ordered))
  where
    ordered : are_sorted (own_order (seen_rows table reader held rows)) ≡ true
    ordered = order_is (seen_rows table reader held rows) (seen_rise table reader held rows rise)

    inside : (a b : Bool) → (b ≡ true → a ≡ true) → (a && b) ≡ b
    inside true b f = refl
    inside false true f = f refl
    inside false false f = refl
