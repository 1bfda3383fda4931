-- The bookmark of a record that a session sees, and of one that it may put, has 1 to 255 bytes.
use Rattle.std.proofs.Common.{◌≡◌, ℕ, zero, suc, ◌<◌, ◌≤◌, Bool, true, false, not, ◌&&◌, ◌||◌, List, [], ◌∷◌, ◌++◌, map, length, Option, Some, None, refl, sym, ap, subst, ◌∙◌, arith}
use Rattle.std.specs.Prelude.{◌==◌, nat_le, take, count_by, bytes_eq, is_some, IfSome}
use Rattle.std.specs.List.{AllByRecursion, list_any}
use Rattle.std.proofs.lemmas.Bool.{and_from, eqb-true}
use Rattle.std.proofs.lemmas.Bool.Decides.{nat_tests}
use Rattle.jet_base.specs.declared.words.ColType.{ColType}
use Rattle.jet_base.specs.ColumnType.{big_endian}
use Rattle.column_set.specs.RecordValues.{RecordFields, values_of}
use Rattle.key_normal.specs.KeyBytes.{in_direction, key_bytes, segment_bytes, value_bytes}
use Rattle.index_derive.specs.declared.rules.IndexRule.{IndexRule}
use Rattle.index_derive.specs.declared.rules.Schema.{Schema}
use Rattle.index_derive.specs.declared.rules.Segment.{Segment}
use Rattle.index_derive.specs.Entries.{condition_columns, first_or_null, has_double_number, has_ignore_flag, is_escrow_column, is_legal, is_legal_primary, is_legal_tuples, is_multi_column, key_columns, primary_key, type_of_column}
use Rattle.database_state.specs.Table.{Rows, Table, record_in, row_at, schema_of, table_with_id}
use Rattle.index_derive.specs.Schemas.{primary_rule}
use Rattle.database_state.specs.State.{DatabaseState, PastChange, transaction_of}
use Rattle.database_state.specs.View.{view}
use Rattle.database_state.specs.Lawful.{is_bookmark_of}
use Rattle.laws_versions.specs.Records.{Records, records_of}
use Rattle.laws_versions.specs.UniqueKeys.{HasUniqueIndexes, IsSoundIndex, IsUniqueIndex}
use Rattle.laws_versions.proofs.KeyLemmas.BookmarkKeys.{HasOneEntry, own_key}
use Rattle.laws_versions.proofs.KeyLemmas.EscrowSums.{unseen_now}
use Rattle.laws_versions.proofs.KeyLemmas.IndexNumbers.{all_primary_first}
use Rattle.laws_versions.specs.Bookmarks.{is_bookmark}
use Rattle.common_lemmas.proofs.Found.{found_passes, of_found}
use Rattle.common_lemmas.proofs.Booleans.{and_left, and_right, impossible}
use Rattle.common_lemmas.proofs.Lists.{all_weaker}
use Rattle.common_lemmas.proofs.Numbers.{equal_bytes, same_bytes}
use Rattle.laws_versions.proofs.RecordLemmas.Standing.{bookmarks_seen}
use Rattle.laws_engine.specs.LawfulSteps.{IsReached}
use Rattle.log_grammar.specs.EntryBytes.{bookmark_fits}

-- ---- what is legal

pub record IsLegalRule (rule : IndexRule) (schema : Schema) : Type 0 where
  pub some : nat_le 1 (length rule.segments) ≡ true
  pub few : nat_le (length rule.segments) 12 ≡ true
  pub few_conditions : nat_le (length rule.conditions) 12 ≡ true
  pub least : nat_le 255 rule.key_most ≡ true
  pub primary : (not rule.flags.primary || is_legal_primary rule schema) ≡ true

pub legal_rule : (rule : IndexRule) (schema : Schema) → is_legal rule schema ≡ true → IsLegalRule rule schema
unfolding is_legal
legal_rule rule schema legal = by (nat_le 1 (length rule.segments)) (nat_le (length rule.segments) 12) (not (has_double_number (key_columns rule))) (nat_le (length rule.conditions) 12)
    (not (list_any (is_escrow_column schema) (key_columns rule ++ condition_columns rule))) (nat_le 255 rule.key_most) (nat_le rule.key_most 500)
    (not rule.flags.primary || is_legal_primary rule schema) (not rule.flags.crossproduct || nat_le (count_by (is_multi_column schema) (key_columns rule)) 2) (not rule.flags.tuples || is_legal_tuples rule schema) refl refl refl refl refl legal
  where
    by : (a b c d e f g p x t : Bool) → nat_le 1 (length rule.segments) ≡ a → nat_le (length rule.segments) 12 ≡ b → nat_le (length rule.conditions) 12 ≡ d → nat_le 255 rule.key_most ≡ f → (not rule.flags.primary || is_legal_primary rule schema) ≡ p
        → (a && b && c && d && e && f && g && p && x && t) ≡ true → IsLegalRule rule schema
    by a b c d e f g p x t ea eb ed ef ep h =
        let hp : (a && b && c && d && e && f && g && p) ≡ true = and_left (a && b && c && d && e && f && g && p) x (and_left (a && b && c && d && e && f && g && p && x) t h) in
        let hf : (a && b && c && d && e && f) ≡ true = and_left (a && b && c && d && e && f) g (and_left (a && b && c && d && e && f && g) p hp) in
        let hd : (a && b && c && d) ≡ true = and_left (a && b && c && d) e (and_left (a && b && c && d && e) f hf) in
        let hb : (a && b) ≡ true = and_left (a && b) c (and_left (a && b && c) d hd) in
        record {
          some = ea ∙ and_left a b hb;
          few = eb ∙ and_right a b hb;
          few_conditions = ed ∙ and_right (a && b && c) d hd;
          least = ef ∙ and_right (a && b && c && d && e) f hf;
          primary = ep ∙ and_right (a && b && c && d && e && f && g) p hp;
        }

-- the keys of a primary index have 255 bytes at most
pub primary_most : (rule : IndexRule) (schema : Schema) → IsLegalRule rule schema → rule.flags.primary ≡ true → rule.key_most ≡ 255
primary_most rule schema legal primary =
    let is : is_legal_primary rule schema ≡ true = sym (ap (λ b. not b || is_legal_primary rule schema) primary) ∙ legal.primary in
    eqb-true rule.key_most 255
    (and_right (not (list_any (is_multi_column schema) (key_columns rule)) && length rule.conditions == 0 && not (has_ignore_flag rule.flags) && not rule.flags.tuples && not rule.flags.crossproduct) (rule.key_most == 255) is)

-- ---- a front of bytes

above : (n : ℕ) → 0 < suc n
above n = omega arith

pub front_some : (most : ℕ) (xs : List ℕ) → 0 < length xs → 0 < length (take (suc most) xs)
front_some most [] h = absurd (none h)
  where
    none : 0 < 0 → ⊥
    none h = omega (arith, h)
front_some most (x ∷ xs) h = above (length (take most xs))

pub front_short : (most : ℕ) (xs : List ℕ) → length (take most xs) ≤ most
front_short zero xs = none
  where
    none : 0 ≤ 0
    none = omega arith
front_short (suc most) [] = below most
  where
    below : (n : ℕ) → 0 ≤ suc n
    below n = omega arith
front_short (suc most) (x ∷ xs) = later (length (take most xs)) most (front_short most xs)
  where
    later : (a b : ℕ) → a ≤ b → suc a ≤ suc b
    later a b h = omega (arith, h)

-- ---- the key

segment_some : (kind : ColType) (value : Option (List ℕ)) (descending high : Bool) (rest : List ℕ) → 0 < length (segment_bytes kind value descending high ++ rest)
segment_some kind None descending high rest = above (length rest)
segment_some kind (Some []) descending high rest = above (length rest)
segment_some kind (Some (byte ∷ bytes)) descending high rest = above (length (map (in_direction descending) (value_bytes kind (byte ∷ bytes)) ++ rest))

pub whole_some : (segments : List Segment) (high : Bool) (schema : Schema) (fields : RecordFields) → nat_le 1 (length segments) ≡ true
    → 0 < length (key_bytes (map (λ segment. record { kind = type_of_column schema segment.column.0; descending = segment.descending }) segments) high (map (λ column. first_or_null (values_of fields column)) (map (λ segment. segment.column.0) segments)))
whole_some [] high schema fields h = impossible h
whole_some (s ∷ segments) high schema fields h =
    segment_some (type_of_column schema s.column.0) (first_or_null (values_of fields s.column.0)) s.descending high
    (key_bytes (map (λ segment. record { kind = type_of_column schema segment.column.0; descending = segment.descending }) segments) high (map (λ column. first_or_null (values_of fields column)) (map (λ segment. segment.column.0) segments)))

fits : (n : ℕ) → 0 < n → n ≤ 255 → (nat_le 1 n && nat_le n 255) ≡ true
fits n some short = and_from (nat_le 1 n) (nat_le n 255) (first n some) (second n short)
  where
    first : (n : ℕ) → 0 < n → nat_le 1 n ≡ true
    first n h = grind (arith, nat_tests)

    second : (n : ℕ) → n ≤ 255 → nat_le n 255 ≡ true
    second n h = grind (arith, nat_tests)

pub key_fits : (rule : IndexRule) (schema : Schema) (values : RecordFields) → is_legal rule schema ≡ true → rule.flags.primary ≡ true → bookmark_fits (primary_key rule schema values) ≡ true
unfolding primary_key
key_fits rule schema values legal primary =
    let is : IsLegalRule rule schema = legal_rule rule schema legal in
    let most : rule.key_most ≡ 255 = primary_most rule schema is primary in
    let whole = key_bytes (map (λ segment. record { kind = type_of_column schema segment.column.0; descending = segment.descending }) rule.segments) rule.flags.sortnullshigh (map (λ column. first_or_null (values_of values column)) (key_columns rule)) in
    fits (length (primary_key rule schema values)) (subst (λ (n : ℕ). 0 < length (take n whole)) (sym most) (front_some 254 whole (whole_some rule.segments rule.flags.sortnullshigh schema values is.some)))
    (subst (λ (n : ℕ). length (primary_key rule schema values) ≤ n) most (front_short rule.key_most whole))

-- ---- a table of the state

-- the primary index of a table is legal, and marked as such
pub record IsLegalPrimary (rule : IndexRule) (schema : Schema) : Type 0 where
  pub legal : is_legal rule schema ≡ true
  pub primary : rule.flags.primary ≡ true

pub legal_primary : (base : Records) (dropped kept : List PastChange) (state : DatabaseState) → IsReached base dropped kept state → (id : ℕ) (table : Table) → table_with_id state.tables id ≡ Some table → (rule : IndexRule) → primary_rule (schema_of table) ≡ Some rule
    → IsLegalPrimary rule (schema_of table)
legal_primary base dropped kept state reached id table found rule e =
    let sound : AllByRecursion (IsSoundIndex table) (schema_of table).indexes =
    all_primary_first (IsSoundIndex table) table.indexes
    (all_weaker (λ r. IsSoundIndex table r × IsUniqueIndex (transaction_of state) base kept table r) (IsSoundIndex table) (λ r both. both.0) table.indexes
    (subst (λ (o : Option Table). IfSome o (HasUniqueIndexes (transaction_of state) base kept)) found (reached.unique.tables id))) in
    let primary : rule.flags.primary ≡ true = found_passes (λ r. r.flags.primary) (schema_of table).indexes rule e in
    record { legal = ((of_found (IsSoundIndex table) (λ r. r.flags.primary) (schema_of table).indexes rule e sound).2 primary).1; primary = primary }

-- ---- bookmarks

eight_fits : (bookmark : List ℕ) → length bookmark ≡ 8 → bookmark_fits bookmark ≡ true
eight_fits bookmark e = ap (λ n. nat_le 1 n && nat_le n 255) e

entry_number_fits : (bookmark : List ℕ) (b : Bool) → ((length bookmark == 8) && b) ≡ true → bookmark_fits bookmark ≡ true
entry_number_fits bookmark b h = eight_fits bookmark (eqb-true (length bookmark) 8 (and_left (length bookmark == 8) b h))

stands_fits : HasOneEntry → (number : ℕ) (schema : Schema) (o : Option IndexRule) → ((rule : IndexRule) → o ≡ Some rule → IsLegalPrimary rule schema) → (bookmark : List ℕ) (values : RecordFields) → is_bookmark number schema o bookmark values ≡ true
    → bookmark_fits bookmark ≡ true
stands_fits one number schema None legal bookmark values h = entry_number_fits bookmark _ h
stands_fits one number schema (Some rule) legal bookmark values h =
    let is = legal rule refl in
    let own : bookmark ≡ primary_key rule schema values = own_key one rule schema is.legal is.primary values (primary_key rule schema values) (equal_bytes (primary_key rule schema values) (primary_key rule schema values) refl) bookmark h in
    ap bookmark_fits own ∙ key_fits rule schema values is.legal is.primary

-- a session sees records under such bookmarks alone
pub seen_fits : HasOneEntry → (base : Records) (dropped kept : List PastChange) (state : DatabaseState) → IsReached base dropped kept state → (session id : ℕ) (table : Table) → table_with_id state.tables id ≡ Some table
    → (bookmark : List ℕ) → is_some (record_in (view state session) id bookmark) ≡ true → bookmark_fits bookmark ≡ true
seen_fits one base dropped kept state reached session id table found bookmark there = by (record_in (view state session) id bookmark) there (stands bookmark)
  where
    stands : (bookmark : List ℕ) → IfSome (record_in (view state session) id bookmark) (λ values. is_bookmark state.number (schema_of table) (primary_rule (schema_of table)) bookmark values ≡ true)
    stands =
        subst (λ (o : Option Table). IfSome o (λ t. (bookmark : List ℕ) → IfSome (records_of (view state session) id bookmark) (λ values. is_bookmark state.number (schema_of t) (primary_rule (schema_of t)) bookmark values ≡ true))) found
        (bookmarks_seen base dropped kept state reached.history (unseen_now base kept state reached.sums) reached.bookmarks session id)

    by : (o : Option RecordFields) → is_some o ≡ true → IfSome o (λ values. is_bookmark state.number (schema_of table) (primary_rule (schema_of table)) bookmark values ≡ true) → bookmark_fits bookmark ≡ true
    by None e s = impossible e
    by (Some values) e s = stands_fits one state.number (schema_of table) (primary_rule (schema_of table)) (legal_primary base dropped kept state reached id table found) bookmark values s

-- and puts them under such
pub put_fits : (number : ℕ) (schema : Schema) (rows : Rows) (bookmark : List ℕ) (values : RecordFields) (o : Option IndexRule) → ((rule : IndexRule) → o ≡ Some rule → IsLegalPrimary rule schema)
    → (is_some (row_at rows bookmark) ≡ true → bookmark_fits bookmark ≡ true) → is_bookmark_of number schema rows o bookmark values ≡ true → bookmark_fits bookmark ≡ true
put_fits number schema rows bookmark values None legal seen h = by (is_some (row_at rows bookmark)) refl h
  where
    by : (b : Bool) → is_some (row_at rows bookmark) ≡ b → (b || bytes_eq bookmark (big_endian 8 number)) ≡ true → bookmark_fits bookmark ≡ true
    by true e f = seen e
    by false e f = ap bookmark_fits (same_bytes bookmark (big_endian 8 number) f) ∙ eight_fits (big_endian 8 number) refl
put_fits number schema rows bookmark values (Some rule) legal seen h =
    let is = legal rule refl in
    ap bookmark_fits (same_bytes bookmark (primary_key rule schema values) h) ∙ key_fits rule schema values is.legal is.primary
