-- Keys of a record that are put into indexes.
use Rattle.std.proofs.Common.{◌≡◌, ◌≢◌, ℕ, zero, suc, ◌+◌, ◌<◌, ◌≤◌, Bool, true, false, not, ◌&&◌, ◌||◌, cond, List, [], ◌∷◌, ◌++◌, Some, Result, Ok, length, slice_index_or, refl, sym, ap, subst, take, ◌∙◌, arith}
use Rattle.std.specs.Prelude.{◌==◌, All, bytes_eq}
use Rattle.std.specs.List.{AllByRecursion, list_any}
use Rattle.std.proofs.lemmas.List.{take_all}
use Rattle.std.proofs.lemmas.List.Elements.{All-cons}
use Rattle.std.proofs.lemmas.List.Folds.{list_any_more}
use Rattle.std.proofs.lemmas.Bool.{eqb-true, or_left}
use Rattle.common_lemmas.proofs.Booleans.{and_left, and_right, impossible}
use Rattle.common_lemmas.proofs.Numbers.{bytes_turned, equal_bytes, same_bytes, self_equal}
use Rattle.column_set.specs.RecordValues.{RecordFields, record_fits}
use Rattle.cursor_nav.specs.Places.{Pair}
use Rattle.database_state.specs.Conflicts.{yields_key}
use Rattle.laws_versions.specs.KeptEntries.{has_entry}
use Rattle.index_derive.specs.declared.rules.IndexRule.{IndexRule}
use Rattle.index_derive.specs.declared.rules.Schema.{Schema}
use Rattle.index_derive.specs.Entries.{entries, entry_le, insert_entry, is_legal, key_list, keys_or_none, KeyRefusal}
use Rattle.index_tree.specs.Entries.{IsApart, IsApartFromAll, insert_entry_if_absent}
use Rattle.table_trees.specs.StoredTables.{StoredIndex, StoredTable, has_index, index_entries, is_index, part_of, table_indexes, with_entries}
use Rattle.stored_variants.specs.PutRecords.{HasKeysOf, Keys, record_keys, rule_keys}
use Rattle.variant_trees.specs.GoneKeys.{index_numbers}
use Rattle.variant_trees.specs.PutStages.{AreKeysOfRecords, CanTake, HasKeys, IsKeyOfRecord, MayHaveKeys, one_key, some_keys}
use Rattle.variant_trees.proofs.EntryTrees.{EntryLaws, IndexLaws, entries_changed, entries_stay, entries_then}
use Rattle.stored_variants.proofs.FoundRules.{list_any_numbers}

-- ---- an entry that is put

pub found_inserted : (e : Pair) (key own : List ℕ) (es : List Pair) → has_entry key own (insert_entry e es) ≡ ((bytes_eq e.0 key && bytes_eq e.1 own) || has_entry key own es)
found_inserted e key own [] = refl
found_inserted e key own (x ∷ es) = by (entry_le e x) (found_inserted e key own es)
  where
    swapped : (a b c : Bool) → (a || (b || c)) ≡ (b || (a || c))
    swapped true true c = refl
    swapped true false c = refl
    swapped false b c = refl

    by : (b : Bool) → has_entry key own (insert_entry e es) ≡ ((bytes_eq e.0 key && bytes_eq e.1 own) || has_entry key own es)
        → has_entry key own (cond b (e ∷ x ∷ es) (x ∷ insert_entry e es)) ≡ ((bytes_eq e.0 key && bytes_eq e.1 own) || has_entry key own (x ∷ es))
    by true rest = refl
    by false rest =
        ap (λ b. (bytes_eq x.0 key && bytes_eq x.1 own) || b) rest
        ∙ swapped (bytes_eq x.0 key && bytes_eq x.1 own) (bytes_eq e.0 key && bytes_eq e.1 own) (has_entry key own es)

or_false : (a : Bool) → a ≡ (a || false)
or_false true = refl
or_false false = refl

and_false : (a b : Bool) → a ≡ (a || (b && false))
and_false true b = refl
and_false false true = refl
and_false false false = refl

-- one that is put where it is not there
found_if_absent : (e : Pair) (key own : List ℕ) (es : List Pair) → has_entry key own (insert_entry_if_absent e es) ≡ ((bytes_eq e.0 key && bytes_eq e.1 own) || has_entry key own es)
found_if_absent e key own es = by (has_entry e.0 e.1 es) refl
  where
    found : (b : Bool) → (bytes_eq e.0 key && bytes_eq e.1 own) ≡ b → has_entry e.0 e.1 es ≡ true → has_entry key own es ≡ (b || has_entry key own es)
    found false t there = refl
    found true t there = (λ i. has_entry (sym (same_bytes e.0 key (and_left (bytes_eq e.0 key) _ t)) i) (sym (same_bytes e.1 own (and_right (bytes_eq e.0 key) _ t)) i) es) ∙ there

    by : (b : Bool) → has_entry e.0 e.1 es ≡ b → has_entry key own (cond b es (insert_entry e es)) ≡ ((bytes_eq e.0 key && bytes_eq e.1 own) || has_entry key own es)
    by true there = found (bytes_eq e.0 key && bytes_eq e.1 own) refl there
    by false there = found_inserted e key own es

pub has_put : IndexLaws → EntryLaws → (trees : List StoredTable) (table index : ℕ) (key bookmark : List ℕ) → has_index trees table index ≡ true
    → HasKeys table bookmark (one_key index key) trees (with_entries table index (insert_entry_if_absent (key, bookmark) (index_entries trees table index)) trees)
has_put laws entry_laws trees table index key bookmark there = record {
  others = entries_changed laws trees table index _ there;
  entries = λ i k own. by i k own (index == i) refl;
}
  where
    moved : (a b c : Bool) → ((a && b) || c) ≡ (c || (b && a))
    moved true true true = refl
    moved true true false = refl
    moved true false true = refl
    moved true false false = refl
    moved false true true = refl
    moved false true false = refl
    moved false false true = refl
    moved false false false = refl

    unlike : (a b : ℕ) → (a == b) ≡ false → b ≢ a
    unlike a b e same = absurd (no (sym e ∙ ap (λ n. n == b) (sym same) ∙ self_equal b))
      where
        no : false ≡ true → ⊥
        no h = cc

    by : (i : ℕ) (k own : List ℕ) (b : Bool) → (index == i) ≡ b
        → has_entry k own (index_entries (with_entries table index (insert_entry_if_absent (key, bookmark) (index_entries trees table index)) trees) table i)
        ≡ (has_entry k own (index_entries trees table i) || (bytes_eq own bookmark && (b && bytes_eq k key)))
    by i k own true e =
        (λ j. has_entry k own (index_entries (with_entries table index (insert_entry_if_absent (key, bookmark) (index_entries trees table index)) trees) table (sym (eqb-true index i e) j)))
        ∙ ap (has_entry k own) (entry_laws.named trees table index _ there)
        ∙ found_if_absent (key, bookmark) k own (index_entries trees table index)
        ∙ (λ j. (bytes_turned key k j && bytes_turned bookmark own j) || has_entry k own (index_entries trees table index))
        ∙ moved (bytes_eq k key) (bytes_eq own bookmark) (has_entry k own (index_entries trees table index))
        ∙ (λ j. has_entry k own (index_entries trees table (eqb-true index i e j)) || (bytes_eq own bookmark && bytes_eq k key))
    by i k own false e = ap (has_entry k own) (entry_laws.others trees table index i _ (unlike index i e)) ∙ and_false (has_entry k own (index_entries trees table i)) (bytes_eq own bookmark)

-- ---- more keys

pub no_keys : (table : ℕ) (bookmark : List ℕ) (keys : Keys) (trees : List StoredTable) → ((i : ℕ) (k : List ℕ) → keys i k ≡ false) → HasKeys table bookmark keys trees trees
no_keys table bookmark keys trees none = record {
  others = entries_stay table trees;
  entries = λ i k own. and_false (has_entry k own (index_entries trees table i)) (bytes_eq own bookmark) ∙ ap (λ b. has_entry k own (index_entries trees table i) || (bytes_eq own bookmark && b)) (sym (none i k));
}

pub keys_then : (table : ℕ) (bookmark : List ℕ) (one two both : Keys) (old mid new : List StoredTable) → ((i : ℕ) (k : List ℕ) → both i k ≡ (one i k || two i k)) → HasKeys table bookmark one old mid → HasKeys table bookmark two mid new → HasKeys table bookmark both old new
keys_then table bookmark one two both old mid new same first then = record {
  others = entries_then table old mid new first.others then.others;
  entries = λ i k own.
      then.entries i k own ∙ ap (λ b. b || (bytes_eq own bookmark && two i k)) (first.entries i k own)
      ∙ moved (has_entry k own (index_entries old table i)) (bytes_eq own bookmark) (one i k) (two i k)
      ∙ ap (λ b. has_entry k own (index_entries old table i) || (bytes_eq own bookmark && b)) (sym (same i k));
}
  where
    moved : (a b c d : Bool) → ((a || (b && c)) || (b && d)) ≡ (a || (b && (c || d)))
    moved true b c d = refl
    moved false true c d = refl
    moved false false c d = refl

pub same_keys : (table : ℕ) (bookmark : List ℕ) (one other : Keys) (old new : List StoredTable) → ((i : ℕ) (k : List ℕ) → other i k ≡ one i k) → HasKeys table bookmark one old new → HasKeys table bookmark other old new
same_keys table bookmark one other old new same has = record {
  others = has.others;
  entries = λ i k own. has.entries i k own ∙ ap (λ b. has_entry k own (index_entries old table i) || (bytes_eq own bookmark && b)) (sym (same i k));
}

-- ---- keys that may be there

pub may_have : (table : ℕ) (bookmark : List ℕ) (one more : Keys) (old new : List StoredTable) → ((i : ℕ) (k : List ℕ) → one i k ≡ true → more i k ≡ true) → HasKeys table bookmark one old new → MayHaveKeys table bookmark more old new
may_have table bookmark one more old new within has = record {
  others = has.others;
  stay = λ i k own is. has.entries i k own ∙ or_left _ _ is;
  only = λ i k own is. by (has_entry k own (index_entries old table i)) (bytes_eq own bookmark) (one i k) (more i k) (within i k) (sym (has.entries i k own) ∙ is);
}
  where
    by : (a b c d : Bool) → (c ≡ true → d ≡ true) → (a || (b && c)) ≡ true → (a || (b && d)) ≡ true
    by true b c d more e = refl
    by false true true d more e = more refl
    by false true false d more e = impossible e
    by false false c d more e = impossible e

pub may_then : (table : ℕ) (bookmark : List ℕ) (one two more : Keys) (old mid new : List StoredTable) → ((i : ℕ) (k : List ℕ) → one i k ≡ true → more i k ≡ true) → ((i : ℕ) (k : List ℕ) → two i k ≡ true → more i k ≡ true)
    → HasKeys table bookmark one old mid → MayHaveKeys table bookmark two mid new → MayHaveKeys table bookmark more old new
may_then table bookmark one two more old mid new first_within then_within first then = record {
  others = entries_then table old mid new first.others then.others;
  stay = λ i k own is. then.stay i k own (first.entries i k own ∙ or_left _ _ is);
  only = λ i k own is. by (has_entry k own (index_entries old table i)) (bytes_eq own bookmark) (one i k) (two i k) (more i k) (first_within i k) (then_within i k)
      (ap (λ b. b || (bytes_eq own bookmark && two i k)) (sym (first.entries i k own)) ∙ then.only i k own is);
}
  where
    by : (a b c d e : Bool) → (c ≡ true → e ≡ true) → (d ≡ true → e ≡ true) → ((a || (b && c)) || (b && d)) ≡ true → (a || (b && e)) ≡ true
    by true b c d e f g h = refl
    by false true true d e f g h = f refl
    by false true false d e f g h = g h
    by false false c d e f g h = impossible h

-- ---- lists of keys

pub in_front : {X : Type 0} (p : X → Bool) (xs : List X) (n : ℕ) → list_any p (take n xs) ≡ true → list_any p xs ≡ true
in_front p [] zero e = e
in_front p [] (suc n) e = e
in_front p (x ∷ xs) zero e = impossible e
in_front p (x ∷ xs) (suc n) e = by (p x) e (in_front p xs n)
  where
    by : (b : Bool) → (b || list_any p (take n xs)) ≡ true → (list_any p (take n xs) ≡ true → list_any p xs ≡ true) → (b || list_any p xs) ≡ true
    by true e rest = refl
    by false e rest = rest e

pub key_at : (keys : List (List ℕ)) (n : ℕ) (key : List ℕ) → n < length keys → key ≡ slice_index_or keys n key → list_any (bytes_eq key) keys ≡ true
key_at keys n key low is =
    in_front (bytes_eq key) keys (n + 1)
    (list_any_more (bytes_eq key) keys n key low ∙ ap (λ b. list_any (bytes_eq key) (take n keys) || b) (equal_bytes _ _ is) ∙ last (list_any (bytes_eq key) (take n keys)))
  where
    last : (b : Bool) → (b || true) ≡ true
    last true = refl
    last false = refl

pub more_keys : (index : ℕ) (keys : List (List ℕ)) (n : ℕ) (key : List ℕ) → n < length keys → key ≡ slice_index_or keys n key → (i : ℕ) (k : List ℕ) → some_keys index (take (n + 1) keys) i k ≡ (some_keys index (take n keys) i k || one_key index key i k)
more_keys index keys n key low is i k =
    ap (λ b. (index == i) && b) (list_any_more (bytes_eq k) keys n key low ∙ ap (λ x. list_any (bytes_eq k) (take n keys) || bytes_eq k x) (sym is))
    ∙ split (index == i) (list_any (bytes_eq k) (take n keys)) (bytes_eq k key)
  where
    split : (a b c : Bool) → (a && (b || c)) ≡ ((a && b) || (a && c))
    split true b c = refl
    split false b c = refl

pub no_key_yet : (index : ℕ) (keys : List (List ℕ)) (i : ℕ) (k : List ℕ) → some_keys index (take 0 keys) i k ≡ false
no_key_yet index keys i k = by (index == i)
  where
    by : (b : Bool) → (b && false) ≡ false
    by true = refl
    by false = refl

-- the keys of a record, once they are derived
pub derived_keys : (schema : Schema) (values : RecordFields) (rule : IndexRule) (keys : List (List ℕ)) → entries rule schema values ≡ Ok keys → (i : ℕ) (k : List ℕ) → rule_keys schema values rule i k ≡ some_keys rule.id.0 keys i k
derived_keys schema values rule keys derived i k = ap (λ (made : Result (List (List ℕ)) KeyRefusal). (rule.id.0 == i) && list_any (bytes_eq k) (keys_or_none made)) derived

pub derived_within : (schema : Schema) (values : RecordFields) (rule : IndexRule) (keys : List (List ℕ)) → entries rule schema values ≡ Ok keys → (n i : ℕ) (k : List ℕ) → some_keys rule.id.0 (take n keys) i k ≡ true → rule_keys schema values rule i k ≡ true
derived_within schema values rule keys derived n i k e =
    derived_keys schema values rule keys derived i k ∙ by (rule.id.0 == i) e
  where
    by : (b : Bool) → (b && list_any (bytes_eq k) (take n keys)) ≡ true → (b && list_any (bytes_eq k) keys) ≡ true
    by true e = in_front (bytes_eq k) keys n e
    by false e = impossible e

-- ---- keys are apart

abbrev pub AreApartKeys : Type 0
AreApartKeys =
    (rule : IndexRule) (schema : Schema) (one other : RecordFields) (key rest : List ℕ) → is_legal rule schema ≡ true → record_fits schema.columns one ≡ true → record_fits schema.columns other ≡ true
    → list_any (bytes_eq key) (key_list rule schema one) ≡ true → list_any (bytes_eq (key ++ rest)) (key_list rule schema other) ≡ true → rest ≡ []

pub all_entries : (P : Pair → Type 0) (es : List Pair) → ((e : Pair) → has_entry e.0 e.1 es ≡ true → P e) → All P es
all_entries P [] each = λ k d low. absurd (omega (arith, low))
all_entries P (e ∷ es) each =
    All-cons P e es (each e (ap (λ b. b || has_entry e.0 e.1 es) (λ i. equal_bytes e.0 e.0 refl i && equal_bytes e.1 e.1 refl i)))
    (all_entries P es (λ x is. each x (last (bytes_eq e.0 x.0 && bytes_eq e.1 x.1) (has_entry x.0 x.1 es) is)))
  where
    last : (a b : Bool) → b ≡ true → (a || b) ≡ true
    last true b e = refl
    last false b e = e

-- keys of two records
pub keys_apart : AreApartKeys → (rule : IndexRule) (schema : Schema) (key other : List ℕ) → is_legal rule schema ≡ true → IsKeyOfRecord rule schema key → IsKeyOfRecord rule schema other → IsApart key other
keys_apart apart rule schema key other legal is of = record {
  begins_not = λ rest same. apart rule schema is.0 of.0 key rest legal is.1 of.1 is.2 (subst (λ k. yields_key rule schema k (Some of.0) ≡ true) same of.2);
  begun_not = λ rest same. apart rule schema of.0 is.0 other rest legal of.1 is.1 of.2 (subst (λ k. yields_key rule schema k (Some is.0) ≡ true) same is.2);
}

pub apart_from_all : AreApartKeys → (rule : IndexRule) (schema : Schema) (key : List ℕ) (es : List Pair) → is_legal rule schema ≡ true → IsKeyOfRecord rule schema key → AreKeysOfRecords rule schema es → IsApartFromAll key es
apart_from_all apart rule schema key es legal is are = all_entries (λ e. IsApart key e.0) es (λ e there. keys_apart apart rule schema key e.0 legal is (are e.0 e.1 there))

-- the keys of an index stay keys of records
pub keys_of_records : (schema : Schema) (values : RecordFields) (rule : IndexRule) (table : ℕ) (bookmark : List ℕ) (keys : Keys) (old new : List StoredTable) → record_fits schema.columns values ≡ true
    → ((k : List ℕ) → keys rule.id.0 k ≡ true → yields_key rule schema k (Some values) ≡ true) → HasKeys table bookmark keys old new → AreKeysOfRecords rule schema (index_entries old table rule.id.0) → AreKeysOfRecords rule schema (index_entries new table rule.id.0)
keys_of_records schema values rule table bookmark keys old new fits own_keys has are key own there =
    by (has_entry key own (index_entries old table rule.id.0)) refl (bytes_eq own bookmark) (sym (has.entries rule.id.0 key own) ∙ there)
  where
    by : (a : Bool) → has_entry key own (index_entries old table rule.id.0) ≡ a → (b : Bool) → (a || (b && keys rule.id.0 key)) ≡ true → IsKeyOfRecord rule schema key
    by true e b is = are key own e
    by false e true is = (values, fits, own_keys key is)
    by false e false is = impossible is

-- ---- indexes stay

pub index_stays : (table index : ℕ) (old new : List StoredTable) → index_numbers new table ≡ index_numbers old table → has_index new table index ≡ has_index old table index
index_stays table index old new same =
    list_any_numbers index (table_indexes new table) ∙ ap (list_any (λ n. n == index)) same ∙ sym (list_any_numbers index (table_indexes old table))

-- ---- the keys of a record in all indexes

pub taken_rules : (schema : Schema) (values : RecordFields) (table : ℕ) (trees : List StoredTable) (rules : List IndexRule) → AllByRecursion (CanTake schema values table trees) rules → AllByRecursion (HasKeysOf schema values) rules
taken_rules schema values table trees [] all = tt
taken_rules schema values table trees (r ∷ rules) all = (all.0.keys, taken_rules schema values table trees rules all.1)

-- rules of a table whose indexes stay
pub rules_stay : (schema : Schema) (values : RecordFields) (table : ℕ) (old new : List StoredTable) → table_indexes new table ≡ table_indexes old table → (rules : List IndexRule) → AllByRecursion (CanTake schema values table old) rules → AllByRecursion (CanTake schema values table new) rules
rules_stay schema values table old new same [] all = tt
rules_stay schema values table old new same (r ∷ rules) all = (
  record {
    keys = all.0.keys;
    there = λ second. ap (list_any (is_index r.id.0)) same ∙ all.0.there second;
    derived = λ second. subst (AreKeysOfRecords r schema) (ap (λ (indexes : List StoredIndex). part_of (is_index r.id.0) (λ x. x.1) indexes) (sym same)) (all.0.derived second);
  },
  rules_stay schema values table old new same rules all.1,
)

pub front_rules : {X : Type 0} (P : X → Type 0) (xs : List X) (n : ℕ) → AllByRecursion P xs → AllByRecursion P (take n xs)
front_rules P [] zero all = tt
front_rules P [] (suc n) all = tt
front_rules P (x ∷ xs) zero all = tt
front_rules P (x ∷ xs) (suc n) all = (all.0, front_rules P xs n all.1)

pub rule_at : {X : Type 0} (P : X → Type 0) (xs : List X) (n : ℕ) (d : X) → AllByRecursion P xs → n < length xs → P (slice_index_or xs n d)
rule_at P [] n d all low = absurd (omega (arith, low))
rule_at P (x ∷ xs) zero d all low = all.0
rule_at P (x ∷ xs) (suc n) d all low = rule_at P xs n d all.1 (omega (arith, low))

pub more_rules : (rules : List IndexRule) (schema : Schema) (values : RecordFields) (n : ℕ) (rule : IndexRule) → n < length rules → rule ≡ slice_index_or rules n rule → (i : ℕ) (k : List ℕ)
    → record_keys (take (n + 1) rules) schema values i k ≡ (record_keys (take n rules) schema values i k || (not rule.flags.primary && rule_keys schema values rule i k))
more_rules rules schema values n rule low is i k =
    list_any_more (λ (r : IndexRule). not r.flags.primary && rule_keys schema values r i k) rules n rule low
    ∙ ap (λ (r : IndexRule). record_keys (take n rules) schema values i k || (not r.flags.primary && rule_keys schema values r i k)) (sym is)

pub front_keys : (rules : List IndexRule) (schema : Schema) (values : RecordFields) (n i : ℕ) (k : List ℕ) → record_keys (take n rules) schema values i k ≡ true → record_keys rules schema values i k ≡ true
front_keys rules schema values n i k e = in_front (λ (r : IndexRule). not r.flags.primary && rule_keys schema values r i k) rules n e

pub rule_keys_within : (rules : List IndexRule) (schema : Schema) (values : RecordFields) (n : ℕ) (rule : IndexRule) → n < length rules → rule ≡ slice_index_or rules n rule → rule.flags.primary ≡ false → (i : ℕ) (k : List ℕ)
    → rule_keys schema values rule i k ≡ true → record_keys rules schema values i k ≡ true
rule_keys_within rules schema values n rule low is secondary i k e =
    front_keys rules schema values (n + 1) i k
    (more_rules rules schema values n rule low is i k ∙ (λ j. record_keys (take n rules) schema values i k || (not (secondary j) && e j)) ∙ last (record_keys (take n rules) schema values i k))
  where
    last : (b : Bool) → (b || true) ≡ true
    last true = refl
    last false = refl

pub none_yet : (schema : Schema) (values : RecordFields) (rules : List IndexRule) (i : ℕ) (k : List ℕ) → record_keys (take 0 rules) schema values i k ≡ false
none_yet schema values rules i k = refl

-- ---- places in lists

pub whole : {X : Type 0} (xs : List X) (n : ℕ) → length xs ≤ n → take n xs ≡ xs
whole xs n all = take_all n xs all

pub own_key : (schema : Schema) (values : RecordFields) (rule : IndexRule) (keys : List (List ℕ)) → entries rule schema values ≡ Ok keys → (k : List ℕ) → list_any (bytes_eq k) keys ≡ true → yields_key rule schema k (Some values) ≡ true
own_key schema values rule keys derived k e = ap (λ (made : Result (List (List ℕ)) KeyRefusal). list_any (bytes_eq k) (keys_or_none made)) derived ∙ e

pub front_key : (schema : Schema) (values : RecordFields) (rule : IndexRule) (keys : List (List ℕ)) → entries rule schema values ≡ Ok keys → (n : ℕ) (k : List ℕ) → some_keys rule.id.0 (take n keys) rule.id.0 k ≡ true → yields_key rule schema k (Some values) ≡ true
front_key schema values rule keys derived n k e = own_key schema values rule keys derived k (in_front (bytes_eq k) keys n (and_right (rule.id.0 == rule.id.0) _ e))

-- ---- a further index

pub with_rule : (table : ℕ) (bookmark : List ℕ) (front own more : Keys) (old mid new : List StoredTable) (primary : Bool) → primary ≡ false → ((i : ℕ) (k : List ℕ) → more i k ≡ (front i k || (not primary && own i k)))
    → HasKeys table bookmark front old mid → HasKeys table bookmark own mid new → HasKeys table bookmark more old new
with_rule table bookmark front own more old mid new primary secondary split first then =
    keys_then table bookmark front own more old mid new (λ i k. split i k ∙ ap (λ b. front i k || (not b && own i k)) secondary) first then

pub without_rule : (table : ℕ) (bookmark : List ℕ) (front own more : Keys) (old mid : List StoredTable) (primary : Bool) → primary ≡ true → ((i : ℕ) (k : List ℕ) → more i k ≡ (front i k || (not primary && own i k)))
    → HasKeys table bookmark front old mid → HasKeys table bookmark more old mid
without_rule table bookmark front own more old mid primary is split first =
    same_keys table bookmark front more old mid (λ i k. split i k ∙ ap (λ b. front i k || (not b && own i k)) is ∙ sym (or_false (front i k))) first
