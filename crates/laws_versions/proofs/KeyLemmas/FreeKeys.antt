-- What a lawful put of a unique key finds: no concurrent change has the key, and no other newest record.
use Rattle.std.proofs.Common.{◌≡◌, inl, ℕ, Bool, true, false, not, ◌&&◌, ◌||◌, cond, List, [], ◌∷◌, Some, refl, sym, ap, ◌∙◌, bytes_eq}
use Rattle.std.specs.Prelude.{◌==◌, filter, map}
use Rattle.std.specs.List.{AllByRecursion, list_any, list_all}
use Rattle.std.specs.Ordering.{nat_cmp, eq_by_cmp}
use Rattle.std.specs.Cmp.Lexicographic.{slice_cmp, nat_list_eq_equiv}
use Rattle.std.proofs.lemmas.List.Folds.{list_any-append}
use Rattle.std.proofs.lemmas.Bool.{and_from, false_from_ne_true, not-true, or_right}
use Rattle.common_lemmas.proofs.Lists.{all_parted, all_weaker}
use Rattle.common_lemmas.proofs.Booleans.{and_left, and_right, impossible}
use Rattle.common_lemmas.proofs.Numbers.{same_bytes, self_equal}
use Rattle.column_set.specs.RecordValues.{RecordFields}
use Rattle.index_derive.specs.declared.rules.IndexRule.{IndexRule}
use Rattle.index_derive.specs.declared.rules.Schema.{Schema}
use Rattle.index_derive.specs.Entries.{derive, key_list}
use Rattle.cursor_nav.specs.Places.{Pair}
use Rattle.database_state.specs.Table.{Rows, entries_of_rule, index_entries, primary_first, row_at}
use Rattle.index_derive.specs.Schemas.{rule_with_id}
use Rattle.column_set.specs.ChangedRecords.{changed_table, changed_bookmark}
use Rattle.database_state.specs.Puts.{is_taken, new_keys}
use Rattle.database_state.specs.State.{DatabaseState, PastChange, Transaction, transaction_of}
use Rattle.database_state.specs.View.{view}
use Rattle.database_state.specs.Conflicts.{has_key_conflict, is_concurrent, yields_key}
use Rattle.laws_versions.proofs.IndexLemmas.Members.{any_sorted}
use Rattle.laws_versions.proofs.IndexLemmas.Rows.{all_entries, entries_of}
use Rattle.laws_versions.proofs.IndexLemmas.Standing.{same_test}
use Rattle.laws_versions.specs.Records.{Records, is_change_of, record_after, records_after_items, records_of}
use Rattle.laws_versions.proofs.ChangeLemmas.Tests.{or_first, or_second}
use Rattle.laws_versions.specs.History.{IsHistory, IsPlaced}
use Rattle.laws_versions.specs.Readers.{is_standing, sees}
use Rattle.laws_versions.proofs.HistoryLemmas.Concurrent.{key_conflict_kept}
use Rattle.laws_versions.proofs.HistoryLemmas.EndEntries.{no_conflict}
use Rattle.laws_versions.proofs.HistoryLemmas.FoundRecord.{seen_live}
use Rattle.laws_versions.proofs.HistoryLemmas.Lists.{all_both}
use Rattle.laws_versions.proofs.HistoryLemmas.SeenEarlier.{seen_in_order}
use Rattle.laws_versions.proofs.HistoryLemmas.Unhindered.{seen_unless}
use Rattle.laws_versions.proofs.HistoryLemmas.Viewing.{view_records}
use Rattle.laws_versions.specs.UniqueKeys.{BringsKey, MeetsKey}
use Rattle.laws_versions.specs.KeySums.{SeesNoSum}
use Rattle.laws_versions.proofs.KeyLemmas.KeepingKeys.{key_of_newest}

-- ---- the unique indexes among all, and the new keys among all

-- what passes a list that was filtered
pub rules_pass : {X : Type 0} (test p : X → Bool) (xs : List X) → list_all test (filter p xs) ≡ true → AllByRecursion (λ x. p x ≡ true → test x ≡ true) xs
rules_pass test p [] h = tt
rules_pass test p (x ∷ xs) h = elim (p x) as (λ b. p x ≡ b → list_all test (cond b (x ∷ filter p xs) (filter p xs)) ≡ true → (b ≡ true → test x ≡ true) × AllByRecursion (λ x. p x ≡ true → test x ≡ true) xs) [
  | true ↦ λ e g. ((λ f. and_left (test x) _ g), rules_pass test p xs (and_right (test x) _ g))
  | false ↦ λ e g. ((λ f. impossible f), rules_pass test p xs g)
] refl h

pub unfiltered : {X : Type 0} (P : X → Type 0) (p : X → Bool) (xs : List X) → AllByRecursion P (filter p xs) → AllByRecursion (λ x. p x ≡ true → P x) xs
unfiltered P p [] h = tt
unfiltered P p (x ∷ xs) h = elim (p x) as (λ b. AllByRecursion P (cond b (x ∷ filter p xs) (filter p xs)) → (b ≡ true → P x) × AllByRecursion (λ x. p x ≡ true → P x) xs) [
  | true ↦ λ g. ((λ f. g.0), unfiltered P p xs g.1)
  | false ↦ λ g. ((λ f. impossible f), unfiltered P p xs g)
] h

-- the primary index first, or in the order of making
pub in_any_order : (P : IndexRule → Type 0) (rules : List IndexRule) → AllByRecursion P (primary_first rules) → AllByRecursion P rules
in_any_order P rules h =
    let both = all_parted P (filter (λ r. r.flags.primary) rules) (filter (λ r. not r.flags.primary) rules) h in
    all_both (λ r. r.flags.primary ≡ true → P r) (λ r. not r.flags.primary ≡ true → P r) P
    (λ r f g. elim (r.flags.primary) as (λ b. (b ≡ true → P r) → (not b ≡ true → P r) → P r) [ true ↦ λ f g. f refl | false ↦ λ f g. g refl ] f g)
    rules (unfiltered P (λ r. r.flags.primary) rules both.0) (unfiltered P (λ r. not r.flags.primary) rules both.1)

-- what the new keys of a record pass
key_passes : (test new : List ℕ → Bool) (key : List ℕ) (keys : List (List ℕ)) → list_all test (filter new keys) ≡ true → list_any (bytes_eq key) keys ≡ true → new key ≡ true → test key ≡ true
key_passes test new key [] h has is = impossible has
key_passes test new key (k ∷ ks) h has is =
    elim (bytes_eq key k) as (λ b. bytes_eq key k ≡ b → (b || list_any (bytes_eq key) ks) ≡ true → test key ≡ true) [
      | true ↦ λ e g.
          let same : key ≡ k = same_bytes key k e in
          ap test same ∙ and_left (test k) _ (ap (λ b. list_all test (cond b (k ∷ filter new ks) (filter new ks))) (sym is ∙ ap new same) ∙ h)
      | false ↦ λ e g. key_passes test new key ks (tail (new k) h) g is
    ] refl has
  where
    tail : (b : Bool) → list_all test (cond b (k ∷ filter new ks) (filter new ks)) ≡ true → list_all test (filter new ks) ≡ true
    tail true g = and_right (test k) _ g
    tail false g = g

-- ---- a key that no other record has

untaken_here : (key own other : List ℕ) (keys : List (List ℕ)) → bytes_eq own other ≡ false → list_any (λ entry. bytes_eq entry.0 key && not (bytes_eq own entry.1)) (entries_of other keys) ≡ false → list_any (bytes_eq key) keys ≡ false
untaken_here key own other [] apart h = refl
untaken_here key own other (k ∷ ks) apart h =
    let first : bytes_eq key k ≡ false = sym (ap (λ b. bytes_eq k key && not b) apart ∙ alone (bytes_eq k key) ∙ nat_list_eq_equiv.symm k key) ∙ or_first (bytes_eq k key && not (bytes_eq own other)) _ h in
    λ i. or_none (first i) (untaken_here key own other ks apart (or_second (bytes_eq k key && not (bytes_eq own other)) _ h) i)
  where
    or_none : Bool → Bool → Bool
    or_none a b = a || b

    alone : (b : Bool) → (b && true) ≡ b
    alone true = refl
    alone false = refl

untaken_in : (rule : IndexRule) (schema : Schema) (key own other : List ℕ) (rows : Rows) → bytes_eq own other ≡ false
    → list_any (λ entry. bytes_eq entry.0 key && not (bytes_eq own entry.1)) (all_entries (key_list rule schema) rows) ≡ false → yields_key rule schema key (row_at rows other) ≡ false
untaken_in rule schema key own other [] apart h = refl
untaken_in rule schema key own other (place ∷ rows) apart h =
    elim (eq_by_cmp (slice_cmp nat_cmp) other place.0) as (λ b. eq_by_cmp (slice_cmp nat_cmp) other place.0 ≡ b → yields_key rule schema key (cond b (Some place.1) (row_at rows other)) ≡ false) [
      | true ↦ λ e.
          let same : place.0 ≡ other = same_bytes place.0 other (same_test other place.0 ∙ e) in
          untaken_here key own place.0 (key_list rule schema place.1) (ap (bytes_eq own) same ∙ apart) (or_first (list_any test (entries_of place.0 (key_list rule schema place.1))) _ split)
      | false ↦ λ e. untaken_in rule schema key own other rows apart (or_second (list_any test (entries_of place.0 (key_list rule schema place.1))) _ split)
    ] refl
  where
    test : Pair → Bool
    test entry = bytes_eq entry.0 key && not (bytes_eq own entry.1)

    split : (list_any test (entries_of place.0 (key_list rule schema place.1)) || list_any test (all_entries (key_list rule schema) rows)) ≡ false
    split = sym (list_any-append test (entries_of place.0 (key_list rule schema place.1)) (all_entries (key_list rule schema) rows)) ∙ h

untaken : (rule : IndexRule) (schema : Schema) (key own other : List ℕ) (rows : Rows) → rule_with_id schema rule.id.0 ≡ Some rule → rule.flags.primary ≡ false → bytes_eq own other ≡ false
    → is_taken schema rows rule (Some own) key ≡ false → yields_key rule schema key (row_at rows other) ≡ false
unfolding index_entries derive
untaken rule schema key own other rows here plain apart free =
    untaken_in rule schema key own other rows apart
    (sym (any_sorted (λ entry. bytes_eq entry.0 key && not (bytes_eq own entry.1)) (all_entries (key_list rule schema) rows))
    ∙ sym (ap (λ found. list_any (λ entry. bytes_eq entry.0 key && not (bytes_eq own entry.1)) (entries_of_rule schema rows found)) here
    ∙ ap (λ b. list_any (λ entry. bytes_eq entry.0 key && not (bytes_eq own entry.1)) (cond b (map (λ place. (place.0, place.0)) rows) (derive rule schema rows))) plain)
    ∙ free)

-- ---- the changes and the newest records

all_forall : {X K : Type 0} (P : X → K → Type 0) (B : K → Type 0) (xs : List X) → ((k : K) → B k → AllByRecursion (λ x. P x k) xs) → AllByRecursion (λ x. (k : K) → B k → P x k) xs
all_forall P B [] f = tt
all_forall P B (x ∷ xs) f = ((λ k b. (f k b).0), all_forall P B xs (λ k b. (f k b).1))

-- What is known of the put of a record: the put rule passes each key that is new to the view's record.
pub record IsLawfulKey (state : DatabaseState) (label : ℕ) (table : ℕ) (schema : Schema) (rule : IndexRule) (rows : Rows) (bookmark : List ℕ) (values : RecordFields) (new : PastChange) : Type 0 where
  pub found : rule_with_id schema rule.id.0 ≡ Some rule
  pub plain : rule.flags.primary ≡ false
  pub passes : list_all (λ key. not (has_key_conflict state label table schema rule key || is_taken schema rows rule (Some bookmark) key)) (new_keys rule schema (row_at rows bookmark) values) ≡ true
  pub after : new.after ≡ Some values
  pub before : new.before ≡ row_at rows bookmark
  pub bookmark_of : changed_bookmark new.change ≡ bookmark

brought : (state : DatabaseState) (label table : ℕ) (schema : Schema) (rule : IndexRule) (rows : Rows) (bookmark : List ℕ) (values : RecordFields) (new : PastChange) → IsLawfulKey state label table schema rule rows bookmark values new
    → (key : List ℕ) → BringsKey rule schema key new → (has_key_conflict state label table schema rule key || is_taken schema rows rule (Some bookmark) key) ≡ false
brought state label table schema rule rows bookmark values new lawful key brings =
    not-true (has_key_conflict state label table schema rule key || is_taken schema rows rule (Some bookmark) key)
    (key_passes (λ key. not (has_key_conflict state label table schema rule key || is_taken schema rows rule (Some bookmark) key)) (λ key. not (yields_key rule schema key (row_at rows bookmark))) key (key_list rule schema values) lawful.passes
    (sym (ap (yields_key rule schema key) lawful.after) ∙ brings.0) (ap not (sym (ap (yields_key rule schema key) lawful.before) ∙ brings.1)))

-- the concurrent changes of the table do not have it
unmet : (base : Records) (dropped kept : List PastChange) (state : DatabaseState) → IsHistory base dropped kept state → (label table : ℕ) (schema : Schema) (rule : IndexRule) (key : List ℕ) → has_key_conflict state label table schema rule key ≡ false
    → AllByRecursion (λ p. ((changed_table p.change == table) && (yields_key rule schema key p.before || yields_key rule schema key p.after)) ≡ true → is_concurrent label (transaction_of state label) p ≡ false) kept
unmet base dropped kept state h label table schema rule key free =
    no_conflict (λ p. (changed_table p.change == table) && (yields_key rule schema key p.before || yields_key rule schema key p.after)) (is_concurrent label (transaction_of state label)) kept
    (sym (key_conflict_kept base dropped kept state h label table schema rule key) ∙ free)

-- what has a key that the put brings is not concurrent
pub put_meets : (base : Records) (dropped kept : List PastChange) (state : DatabaseState) → IsHistory base dropped kept state → (label table : ℕ) (schema : Schema) (rule : IndexRule) (rows : Rows) (bookmark : List ℕ) (values : RecordFields) (new : PastChange)
    → IsLawfulKey state label table schema rule rows bookmark values new
    → AllByRecursion (λ p. is_standing p ≡ true → MeetsKey rule schema table p new → is_concurrent label (transaction_of state label) p ≡ false) kept
put_meets base dropped kept state h label table schema rule rows bookmark values new lawful =
    all_weaker (λ p. (key : List ℕ) → BringsKey rule schema key new → ((changed_table p.change == table) && (yields_key rule schema key p.before || yields_key rule schema key p.after)) ≡ true → is_concurrent label (transaction_of state label) p ≡ false)
    (λ p. is_standing p ≡ true → MeetsKey rule schema table p new → is_concurrent label (transaction_of state label) p ≡ false)
    (λ p f live meets. f meets.3.0 meets.3.2
    (and_from _ _ (ap (λ k. k == table) meets.0 ∙ self_equal table) (ap (λ b. b || yields_key rule schema meets.3.0 p.after) meets.3.1))) kept
    (all_forall (λ p key. ((changed_table p.change == table) && (yields_key rule schema key p.before || yields_key rule schema key p.after)) ≡ true → is_concurrent label (transaction_of state label) p ≡ false)
    (λ key. BringsKey rule schema key new) kept
    (λ key brings. unmet base dropped kept state h label table schema rule key
    (or_first (has_key_conflict state label table schema rule key) _ (brought state label table schema rule rows bookmark values new lawful key brings))))

-- and no other newest record has it
pub put_free : (base : Records) (dropped kept : List PastChange) (state : DatabaseState) → IsHistory base dropped kept state → (label table : ℕ) (t : Transaction) → transaction_of state label ≡ Some t
    → (schema : Schema) (rule : IndexRule) → SeesNoSum rule table kept → (rows : Rows) → ((other : List ℕ) → row_at rows other ≡ records_of (view state label) table other)
    → (bookmark : List ℕ) (values : RecordFields) (new : PastChange) → IsLawfulKey state label table schema rule rows bookmark values new
    → (key other : List ℕ) → BringsKey rule schema key new → bytes_eq (changed_bookmark new.change) other ≡ false → yields_key rule schema key (records_after_items is_standing base kept table other) ≡ false
put_free base dropped kept state h label table t e schema rule plain rows seen bookmark values new lawful key other brings apart =
    false_from_ne_true (yields_key rule schema key (records_after_items is_standing base kept table other)) (λ had.
    impossible (sym (ap (yields_key rule schema key) (sym (seen other ∙ ap (λ (r : Records). r table other) (view_records base dropped kept state h label))) ∙ off)
    ∙ key_of_newest rule schema key table other (sees label (transaction_of state label)) (seen_live label (transaction_of state label)) kept base base h.keeps.befores plain
    (all_weaker (IsPlaced state.number state.tables (transaction_of state)) (λ item. item.after ≡ record_after item.change item.before) (λ item p. p.3) kept h.keeps.placed)
    bare (seen_in_order base dropped kept state h label) (inl (λ key. refl)) had))
  where
    free : (has_key_conflict state label table schema rule key || is_taken schema rows rule (Some bookmark) key) ≡ false
    free = brought state label table schema rule rows bookmark values new lawful key brings

    off : yields_key rule schema key (row_at rows other) ≡ false
    off = untaken rule schema key bookmark other rows lawful.found lawful.plain (ap (λ (b : List ℕ). bytes_eq b other) (sym lawful.bookmark_of) ∙ apart) (or_second (has_key_conflict state label table schema rule key) _ free)

    bare : AllByRecursion (λ p. is_standing p ≡ true → sees label (transaction_of state label) p ≡ false → is_change_of table other p.change ≡ true → yields_key rule schema key p.after ≡ false) kept
    bare = all_both (IsPlaced state.number state.tables (transaction_of state))
        (λ p. ((changed_table p.change == table) && (yields_key rule schema key p.before || yields_key rule schema key p.after)) ≡ true → is_concurrent label (transaction_of state label) p ≡ false)
        (λ p. is_standing p ≡ true → sees label (transaction_of state label) p ≡ false → is_change_of table other p.change ≡ true → yields_key rule schema key p.after ≡ false)
        (λ p placed f live unseen mine. false_from_ne_true (yields_key rule schema key p.after) (λ had.
        let apart_from : is_concurrent label (Some t) p ≡ false = ap (λ u. is_concurrent label u p) (sym e) ∙ f (and_from _ _ (and_left _ _ mine) (or_right (yields_key rule schema key p.before) _ had)) in
        impossible (sym unseen ∙ ap (λ u. sees label u p) e ∙ sym (seen_unless state.number (transaction_of state) label t p e placed.2 (λ standing. apart_from)) ∙ live)))
        kept h.keeps.placed (unmet base dropped kept state h label table schema rule key (or_first (has_key_conflict state label table schema rule key) _ free))
