-- Of the records before all held changes one at most has a unique key.
use Rattle.std.proofs.Common.{◌≡◌, ℕ, Bool, true, false, cond, List, [], ◌∷◌, Some, refl, sym, ap, subst, ◌∙◌}
use Rattle.std.specs.Prelude.{◌==◌, bytes_eq, filter, length, map, nat_le, if◌then◌else◌}
use Rattle.std.specs.Cmp.Lexicographic.{slice_cmp, texts_ties}
use Rattle.std.specs.FinMap.Entries.{below_all, is_sorted}
use Rattle.std.specs.List.{AllByRecursion}
use Rattle.std.specs.Ordering.{is_lt, nat_cmp}
use Rattle.std.specs.declared.cmp.Ordering.TheVariants.{Less}
use Rattle.column_set.specs.RecordValues.{RecordFields}
use Rattle.common_lemmas.proofs.Booleans.{and_left, and_right, by_test, is_true}
use Rattle.common_lemmas.proofs.Lists.{all_filter, all_map}
use Rattle.common_lemmas.proofs.Numbers.{bytes_turned, equal_bytes, same_bytes}
use Rattle.common_lemmas.proofs.Orders.{is_less, less-irreflexive}
use Rattle.database_state.specs.Conflicts.{yields_key}
use Rattle.database_state.specs.Table.{Rows, Table, row_at, rows_of, table_with_id}
use Rattle.index_derive.specs.declared.rules.IndexRule.{IndexRule}
use Rattle.index_derive.specs.declared.rules.Schema.{Schema}
use Rattle.laws_engine.specs.Holding.{AllRise}
use Rattle.laws_versions.specs.History.{EachTwo}
use Rattle.laws_versions.specs.Records.{records_of}
use Rattle.laws_versions.specs.UniqueKeys.{AreUnique}
use Rattle.image_findings.specs.KeyFindings.{holders}
use Rattle.own_images.proofs.Differing.{all_both}
use Rattle.own_images.proofs.KeysFree.{HaveKey}

-- ---- rows in the order of their bookmarks

abbrev rows_rise : Rows → Bool
rows_rise rows = is_sorted (slice_cmp nat_cmp) rows

found_rise : (tables : List Table) (id : ℕ) → AllRise tables → rows_rise (rows_of (table_with_id tables id)) ≡ true
found_rise [] id h = refl
found_rise (t ∷ tables) id h = by (t.id == id) (found_rise tables id h.1)
  where
    by : (b : Bool) → rows_rise (rows_of (table_with_id tables id)) ≡ true → rows_rise (rows_of (if b then Some t else table_with_id tables id)) ≡ true
    by true rest = is_true (is_sorted (slice_cmp nat_cmp) t.rows) h.0
    by false rest = rest

abbrev IsApart : List ℕ → List ℕ → Type 0
IsApart one other = bytes_eq one other ≡ false

apart : (low key : List ℕ) → is_lt (slice_cmp nat_cmp low key) ≡ true → IsApart low key
apart low key lower =
    by_test (bytes_eq low key)
    (λ same. absurd (less-irreflexive low (subst (λ (k : List ℕ). slice_cmp nat_cmp low k ≡ Less) (sym (same_bytes low key same)) (is_less (slice_cmp nat_cmp low key) lower))))
    (λ other. other)

all_apart : (low : List ℕ) (rows : Rows) → below_all (slice_cmp nat_cmp) low rows ≡ true → AllByRecursion (λ (row : List ℕ × RecordFields). IsApart low row.0) rows
all_apart low [] h = tt
all_apart low (row ∷ rows) h =
    (apart low row.0 (and_left (is_lt (slice_cmp nat_cmp low row.0)) (below_all (slice_cmp nat_cmp) low rows) h), all_apart low rows (and_right (is_lt (slice_cmp nat_cmp low row.0)) (below_all (slice_cmp nat_cmp) low rows) h))

-- each is found under its bookmark
each_found : (rows : Rows) → rows_rise rows ≡ true → AllByRecursion (λ (row : List ℕ × RecordFields). row_at rows row.0 ≡ Some row.1) rows
each_found [] h = tt
each_found (row ∷ rows) h = (
  ap (λ (b : Bool). cond b (Some row.1) (row_at rows row.0)) (sym (texts_ties row.0 row.0) ∙ equal_bytes row.0 row.0 refl),
  all_both (λ (other : List ℕ × RecordFields). IsApart row.0 other.0) (λ (other : List ℕ × RecordFields). row_at rows other.0 ≡ Some other.1) (λ (other : List ℕ × RecordFields). row_at (row ∷ rows) other.0 ≡ Some other.1)
      (λ other behind found. ap (λ (b : Bool). cond b (Some row.1) (row_at rows other.0)) (sym (texts_ties other.0 row.0) ∙ bytes_turned other.0 row.0 ∙ behind) ∙ found)
      rows (all_apart row.0 rows (and_left (below_all (slice_cmp nat_cmp) row.0 rows) (rows_rise rows) h)) (each_found rows (and_right (below_all (slice_cmp nat_cmp) row.0 rows) (rows_rise rows) h)),
)

-- ---- who has a key

module _ (rule : IndexRule) (schema : Schema) (key : List ℕ) where
  abbrev with_key : Rows → Rows
  with_key rows = filter (λ row. yields_key rule schema key (Some row.1)) rows

  have_it : (all rows : Rows) → AllByRecursion (λ (row : List ℕ × RecordFields). row_at all row.0 ≡ Some row.1) rows → AllByRecursion (λ (bookmark : List ℕ). yields_key rule schema key (row_at all bookmark) ≡ true) (holders rule schema key rows)
  have_it all [] h = tt
  have_it all (row ∷ rows) h = by (yields_key rule schema key (Some row.1)) refl (have_it all rows h.1)
    where
      by : (b : Bool) → yields_key rule schema key (Some row.1) ≡ b → AllByRecursion (λ (bookmark : List ℕ). yields_key rule schema key (row_at all bookmark) ≡ true) (holders rule schema key rows)
          → AllByRecursion (λ (bookmark : List ℕ). yields_key rule schema key (row_at all bookmark) ≡ true) (map (λ (r : List ℕ × RecordFields). r.0) (if b then row ∷ with_key rows else with_key rows))
      by true e rest = (ap (yields_key rule schema key) h.0 ∙ e, rest)
      by false e rest = rest

  are_apart : (rows : Rows) → rows_rise rows ≡ true → EachTwo IsApart (holders rule schema key rows)
  are_apart [] h = tt
  are_apart (row ∷ rows) h = by (yields_key rule schema key (Some row.1)) (are_apart rows (and_right (below_all (slice_cmp nat_cmp) row.0 rows) (rows_rise rows) h))
    where
      by : (b : Bool) → EachTwo IsApart (holders rule schema key rows) → EachTwo IsApart (map (λ (r : List ℕ × RecordFields). r.0) (if b then row ∷ with_key rows else with_key rows))
      by true rest = (
        all_map (IsApart row.0) (λ (r : List ℕ × RecordFields). r.0) (with_key rows)
            (all_filter (λ (r : List ℕ × RecordFields). IsApart row.0 r.0) (λ r. yields_key rule schema key (Some r.1)) rows (all_apart row.0 rows (and_left (below_all (slice_cmp nat_cmp) row.0 rows) (rows_rise rows) h))),
        rest,
      )
      by false rest = rest

few : (P : List ℕ → Type 0) → ((one other : List ℕ) → IsApart one other → P one → P other → ⊥) → (list : List (List ℕ)) → EachTwo IsApart list → AllByRecursion P list → nat_le (length list) 1 ≡ true
few P once [] two has = refl
few P once (x ∷ []) two has = refl
few P once (x ∷ y ∷ list) two has = absurd (once x y two.0.0 has.0 has.1.0)

-- ---- in a table

pub first_have : (rule : IndexRule) (schema : Schema) (table : ℕ) (key : List ℕ) (tables : List Table) → AllRise tables → HaveKey rule schema table key (records_of tables) (holders rule schema key (rows_of (table_with_id tables table)))
first_have rule schema table key tables rise =
    have_it rule schema key (rows_of (table_with_id tables table)) (rows_of (table_with_id tables table)) (each_found (rows_of (table_with_id tables table)) (found_rise tables table rise))

pub first_few : (rule : IndexRule) (schema : Schema) (table : ℕ) (key : List ℕ) (tables : List Table) → AllRise tables → AreUnique rule schema table (records_of tables)
    → nat_le (length (holders rule schema key (rows_of (table_with_id tables table)))) 1 ≡ true
first_few rule schema table key tables rise unique =
    few (λ bookmark. yields_key rule schema key (records_of tables table bookmark) ≡ true) (λ one other differ. unique one other key differ) (holders rule schema key (rows_of (table_with_id tables table)))
    (are_apart rule schema key (rows_of (table_with_id tables table)) (found_rise tables table rise)) (first_have rule schema table key tables rise)
