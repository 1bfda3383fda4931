-- The keys of the unique indexes of the engine that is made of a consistent image.
use Rattle.std.proofs.Common.{◌≡◌, ℕ, Bool, true, false, ◌&&◌, ◌||◌, cond, List, [], ◌∷◌, Option, Some, None, Ok, Err, refl, sym, ap, subst, ◌∙◌}
use Rattle.std.specs.Prelude.{not, ◌==◌, map, filter, option_map, IfSome, bytes_eq}
use Rattle.std.specs.List.{AllByRecursion, list_any}
use Rattle.std.proofs.lemmas.Bool.{eqb-true}
use Rattle.catalog_grammar.specs.Catalogs.{CatalogTable}
use Rattle.column_set.specs.ChangedRecords.{changed_bookmark, changed_table}
use Rattle.column_set.specs.RecordValues.{RecordFields, has_value}
use Rattle.common_lemmas.proofs.Booleans.{impossible}
use Rattle.common_lemmas.proofs.Finding.{find_map}
use Rattle.common_lemmas.proofs.Found.{found_passes, of_found}
use Rattle.common_lemmas.proofs.Lists.{all_weaker}
use Rattle.common_lemmas.proofs.Numbers.{same_bytes}
use Rattle.cursor_nav.specs.Places.{Pair}
use Rattle.database_state.specs.Conflicts.{yields_key}
use Rattle.database_state.specs.State.{PastChange, Transaction, change_of}
use Rattle.database_state.specs.Table.{Table, schema_of, table_with_id}
use Rattle.index_derive.specs.Entries.{KeyTruncated, NullKeyDisallowed, is_legal, is_unique, key_columns, keys_or_none, primary_key, whole_key}
use Rattle.index_derive.specs.Primary.{first_values}
use Rattle.index_derive.specs.Schemas.{primary_rule}
use Rattle.index_derive.specs.declared.rules.IndexRule.{IndexRule}
use Rattle.index_derive.specs.declared.rules.Schema.{Schema}
use Rattle.key_normal.specs.KeyBytes.{is_cut}
use Rattle.laws_engine.specs.HeldRecords.{HeldRecord, inverse}
use Rattle.laws_images.proofs.OpenedLemmas.CarriedTables.{carried}
use Rattle.laws_images.proofs.OpenedLemmas.EachShown.{EachBoth}
use Rattle.laws_images.proofs.OpenedLemmas.TakenBack.{IsExact, exact}
use Rattle.laws_images.specs.InTurn.{AreInTurn}
use Rattle.laws_images.specs.ShowableEngines.{EachIn, IsSoundRecord}
use Rattle.laws_images.specs.ShownStates.{past_of, tables_before, tables_with}
use Rattle.laws_versions.proofs.HistoryLemmas.EndEntries.{same_definitions}
use Rattle.laws_versions.proofs.KeyLemmas.OneEntry.{one_entry}
use Rattle.laws_versions.specs.Bookmarks.{is_bookmark}
use Rattle.laws_versions.specs.EachRecord.{HasBoth}
use Rattle.laws_versions.specs.History.{without_rows}
use Rattle.laws_versions.specs.KeySums.{IsPlainIndex}
use Rattle.laws_versions.specs.Readers.{was_committed}
use Rattle.laws_versions.specs.Records.{Records}
use Rattle.laws_versions.specs.UniqueKeys.{HasBookmarkKeys, HasFreeKeys, HasOwnKey, HasUniqueIndexes, IsSoundIndex, IsUniqueIndex}
use Rattle.page_image.specs.Page.{Node}
use Rattle.page_space.specs.Frames.{Frames}
use Rattle.version_cleanup.specs.LiveSessions.{LiveState}
use Rattle.version_store.specs.HeldChanges.{HeldChange}
use Rattle.image_findings.specs.CatalogFindings.{is_sound_table}
use Rattle.image_findings.specs.EntryFindings.{wanted_entries}
use Rattle.image_findings.specs.Images.{at_least_key}
use Rattle.image_findings.specs.Images.Finding.{Unique}
use Rattle.image_findings.specs.KeyFindings.{HeldHistory, is_unique_key, key_finding, unique_finding}
use Rattle.image_findings.specs.TableContents.{TableContents, contents_below, contents_with_id, newest_table}
use Rattle.image_findings.specs.TreeFindings.{nodes_below}
use Rattle.image_findings.proofs.Befores.{ArePlain}
use Rattle.image_findings.proofs.Changes.{IsKnown, table_found}
use Rattle.image_findings.proofs.Checks.{each_none}
use Rattle.image_findings.proofs.Keys.{AreSteps, IsFreeKey, absent_key, followed_key, free_keys, own_key_free}
use Rattle.image_findings.proofs.Rows.{no_cons, no_keys}
use Rattle.image_findings.proofs.SoundIndexes.{HaveOwnNumbers, all_of_two, in_order_all, sound_indexes}
use Rattle.image_findings.proofs.Turns.{records_before, shown_held}
use Rattle.image_findings.proofs.Wanted.{is_named, unwanted}

-- ---- keys of a primary index

alone : (key own : List ℕ) → (bytes_eq key own || false) ≡ true → key ≡ own
alone key own h = same_bytes key own (only (bytes_eq key own) h)
  where
    only : (b : Bool) → (b || false) ≡ true → b ≡ true
    only true e = e
    only false e = e

two_keys : (rule : IndexRule) (schema : Schema) → is_legal rule schema ≡ true → rule.flags.primary ≡ true → (fields : RecordFields) (key other : List ℕ) → yields_key rule schema key (Some fields) ≡ true → yields_key rule schema other (Some fields) ≡ true → key ≡ other
two_keys rule schema legal primary fields key other one two =
    by (rule.flags.disallownull && list_any (λ column. not (has_value fields column)) (key_columns rule)) (rule.flags.disallowtruncation && is_cut rule.key_most (whole_key rule schema (first_values rule fields)))
    (sym (ap (λ found. list_any (bytes_eq key) (keys_or_none found)) (one_entry rule schema fields legal primary)) ∙ one)
    (sym (ap (λ found. list_any (bytes_eq other) (keys_or_none found)) (one_entry rule schema fields legal primary)) ∙ two)
  where
    by : (a b : Bool) → list_any (bytes_eq key) (keys_or_none (elim a [ true ↦ Err NullKeyDisallowed | false ↦ elim b [ true ↦ Err KeyTruncated | false ↦ Ok (primary_key rule schema fields ∷ []) ] ])) ≡ true
        → list_any (bytes_eq other) (keys_or_none (elim a [ true ↦ Err NullKeyDisallowed | false ↦ elim b [ true ↦ Err KeyTruncated | false ↦ Ok (primary_key rule schema fields ∷ []) ] ])) ≡ true → key ≡ other
    by true b h g = impossible h
    by false true h g = impossible h
    by false false h g = alone key (primary_key rule schema fields) h ∙ sym (alone other (primary_key rule schema fields) g)

own_key_of : (number : ℕ) (schema : Schema) (rule : IndexRule) → primary_rule schema ≡ Some rule → is_legal rule schema ≡ true → (bookmark : List ℕ) (o : Option RecordFields) → IfSome o (IsSoundRecord number schema bookmark) → HasOwnKey rule schema bookmark o
own_key_of number schema rule e legal bookmark None sound = λ key had. impossible had
own_key_of number schema rule e legal bookmark (Some fields) sound = λ key had.
    two_keys rule schema legal (found_passes (λ (r : IndexRule). r.flags.primary) schema.indexes rule e) fields key bookmark had (subst (λ (o : Option IndexRule). is_bookmark number schema o bookmark fields ≡ true) e sound.2)

-- ---- keys that are found unique

none_of : (p : List ℕ → Bool) (key : List ℕ) (pairs : List Pair) → filter (λ k. not (p k)) (map (λ (q : Pair). q.0) pairs) ≡ [] → is_named key pairs ≡ true → p key ≡ true
none_of p key [] e any = impossible any
none_of p key (q ∷ pairs) e any = by (p q.0) refl e (bytes_eq key q.0) refl any (none_of p key pairs)
  where
    rest : List (List ℕ)
    rest = filter (λ k. not (p k)) (map (λ (r : Pair). r.0) pairs)

    by : (b : Bool) → p q.0 ≡ b → cond (not b) (q.0 ∷ rest) rest ≡ [] → (x : Bool) → bytes_eq key q.0 ≡ x → (x || is_named key pairs) ≡ true → (rest ≡ [] → is_named key pairs ≡ true → p key ≡ true) → p key ≡ true
    by false f e x g any others = no_cons q.0 rest e
    by true f e true g any others = ap p (same_bytes key q.0 g) ∙ f
    by true f e false g any others = others e any

found_unique : (history : HeldHistory) (held : List HeldChange) (t : TableContents) (rule : IndexRule) → unique_finding history held t rule ≡ None → is_unique rule ≡ true → (key : List ℕ) → is_named key (wanted_entries held t rule) ≡ true → is_unique_key history t.table rule key ≡ true
found_unique history held t rule e unique key named =
    let keys = filter (λ k. not (is_unique_key history t.table rule k)) (map (λ (p : Pair). p.0) (wanted_entries held t rule)) in
    none_of (is_unique_key history t.table rule) key (wanted_entries held t rule)
    (no_keys (Unique t.table.name rule.name) keys (sym (ap (λ b. cond b (at_least_key (Unique t.table.name rule.name) keys) None) unique) ∙ e)) named

-- no key of an index that has a tree is found at two records
abbrev pub KeysFound : HeldHistory → List HeldChange → TableContents → Type 0
KeysFound history held t = AllByRecursion (λ (rule : IndexRule). rule.flags.primary ≡ false → unique_finding history held t rule ≡ None) t.table.indexes

rooted : (frames : Frames) (Q : IndexRule → Type 0) (indexes : List (ℕ × IndexRule))
    → AllByRecursion (λ (index : IndexRule × List Node). Q index.0) (map (λ (index : ℕ × IndexRule). (index.1, nodes_below frames index.0)) (filter (λ (index : ℕ × IndexRule). not index.1.flags.primary) indexes))
    → AllByRecursion (λ (rule : IndexRule). rule.flags.primary ≡ false → Q rule) (map (λ (index : ℕ × IndexRule). index.1) indexes)
rooted frames Q [] h = tt
rooted frames Q (index ∷ indexes) h = by index.1.flags.primary refl h (rooted frames Q indexes)
  where
    rest : List (ℕ × IndexRule)
    rest = filter (λ (other : ℕ × IndexRule). not other.1.flags.primary) indexes

    by : (b : Bool) → index.1.flags.primary ≡ b → AllByRecursion (λ (found : IndexRule × List Node). Q found.0) (map (λ (other : ℕ × IndexRule). (other.1, nodes_below frames other.0)) (cond (not b) (index ∷ rest) rest))
        → (AllByRecursion (λ (found : IndexRule × List Node). Q found.0) (map (λ (other : ℕ × IndexRule). (other.1, nodes_below frames other.0)) rest) → AllByRecursion (λ (rule : IndexRule). rule.flags.primary ≡ false → Q rule) (map (λ (other : ℕ × IndexRule). other.1) indexes))
        → (index.1.flags.primary ≡ false → Q index.1) × AllByRecursion (λ (rule : IndexRule). rule.flags.primary ≡ false → Q rule) (map (λ (other : ℕ × IndexRule). other.1) indexes)
    by true e h others = ((λ g. impossible (sym g ∙ e)), others h)
    by false e h others = ((λ g. h.0), others h.1)

pub each_keys_found : (history : HeldHistory) (held : List HeldChange) (frames : Frames) (xs : List CatalogTable) → AllByRecursion (λ t. key_finding history held t ≡ None) (map (contents_below frames) xs) → AllByRecursion (KeysFound history held) (map (contents_below frames) xs)
each_keys_found history held frames [] h = tt
each_keys_found history held frames (x ∷ xs) h =
    let t = contents_below frames x in (
      in_order_all (λ (rule : IndexRule). rule.flags.primary ≡ false → unique_finding history held t rule ≡ None) (map (λ (index : ℕ × IndexRule). index.1) x.indexes)
          (rooted frames (λ rule. unique_finding history held t rule ≡ None) x.indexes (each_none (λ (index : IndexRule × List Node). unique_finding history held t index.0) t.indexes h.0)),
      each_keys_found history held frames xs h.1,
    )

-- ---- one index

module _ (number : ℕ) (tables : List TableContents) (sessions : List LiveState) (held : List HeldChange) (transactions : ℕ → Option Transaction) (known : AllByRecursion (IsKnown number tables sessions) held)
    (turn : AreInTurn (shown_held tables held) (map newest_table tables)) (steps : AreSteps (past_of (shown_held tables held) (map newest_table tables))) (first : EachIn IsSoundRecord number (map newest_table tables) (records_before tables held))
    (both : EachBoth IsSoundRecord number (map newest_table tables) (past_of (shown_held tables held) (map newest_table tables))) where
  abbrev pub history : HeldHistory
  history = record { first = tables_before (shown_held tables held) (map newest_table tables); past = past_of (shown_held tables held) (map newest_table tables); transactions = transactions }

  is_exact : IsExact (records_before tables held) (past_of (shown_held tables held) (map newest_table tables))
  is_exact = exact (shown_held tables held) (map newest_table tables) turn

  own_first : (t : TableContents) → contents_with_id tables t.table.id ≡ Some t → (rule : IndexRule) → primary_rule (schema_of t.table) ≡ Some rule → is_legal rule (schema_of t.table) ≡ true → (b : List ℕ) → HasOwnKey rule (schema_of t.table) b (records_before tables held t.table.id b)
  own_first t found rule e legal b =
      own_key_of number (schema_of t.table) rule e legal b (records_before tables held t.table.id b)
      (subst (λ (o : Option Table). IfSome o (λ table. (bookmark : List ℕ) → IfSome (records_before tables held t.table.id bookmark) (IsSoundRecord number (schema_of table) bookmark))) (table_found tables t.table.id t found) (first t.table.id) b)

  own_item : (t : TableContents) → contents_with_id tables t.table.id ≡ Some t → (rule : IndexRule) → primary_rule (schema_of t.table) ≡ Some rule → is_legal rule (schema_of t.table) ≡ true → (item : PastChange)
      → IfSome (table_with_id (map newest_table tables) (changed_table item.change)) (λ table. HasBoth IsSoundRecord number (schema_of table) item) → changed_table item.change ≡ t.table.id
      → HasOwnKey rule (schema_of t.table) (changed_bookmark item.change) item.before × HasOwnKey rule (schema_of t.table) (changed_bookmark item.change) item.after
  own_item t found rule e legal item sound own =
      let here : HasBoth IsSoundRecord number (schema_of t.table) item =
      subst (λ (o : Option Table). IfSome o (λ table. HasBoth IsSoundRecord number (schema_of table) item)) (table_found tables t.table.id t found)
      (subst (λ n. IfSome (table_with_id (map newest_table tables) n) (λ table. HasBoth IsSoundRecord number (schema_of table) item)) own sound) in
      (own_key_of number (schema_of t.table) rule e legal (changed_bookmark item.change) item.before here.0, own_key_of number (schema_of t.table) rule e legal (changed_bookmark item.change) item.after here.1)

  own_items : (t : TableContents) → contents_with_id tables t.table.id ≡ Some t → (rule : IndexRule) → primary_rule (schema_of t.table) ≡ Some rule → is_legal rule (schema_of t.table) ≡ true
      → AllByRecursion (λ item. changed_table item.change ≡ t.table.id → HasOwnKey rule (schema_of t.table) (changed_bookmark item.change) item.before × HasOwnKey rule (schema_of t.table) (changed_bookmark item.change) item.after) (past_of (shown_held tables held) (map newest_table tables))
  own_items t found rule e legal =
      all_weaker (λ item. IfSome (table_with_id (map newest_table tables) (changed_table item.change)) (λ table. HasBoth IsSoundRecord number (schema_of table) item))
      (λ item. changed_table item.change ≡ t.table.id → HasOwnKey rule (schema_of t.table) (changed_bookmark item.change) item.before × HasOwnKey rule (schema_of t.table) (changed_bookmark item.change) item.after)
      (own_item t found rule e legal) (past_of (shown_held tables held) (map newest_table tables)) both

  unique_index : (t : TableContents) → contents_with_id tables t.table.id ≡ Some t → (rule : IndexRule) → IsSoundIndex (newest_table t) rule → IsPlainIndex (newest_table t) rule → (rule.flags.primary ≡ false → unique_finding history held t rule ≡ None)
      → IsUniqueIndex transactions (records_before tables held) (past_of (shown_held tables held) (map newest_table tables)) (newest_table t) rule
  unique_index t found rule sound plain keys unique = by rule.flags.primary refl
    where
      base : Records
      base = records_before tables held

      items : List PastChange
      items = past_of (shown_held tables held) (map newest_table tables)

      by_name : rule.flags.primary ≡ false → (key : List ℕ) (b : Bool) → is_named key (wanted_entries held t rule) ≡ b → IsFreeKey rule (schema_of t.table) t.table.id transactions (records_before tables held) (past_of (shown_held tables held) (map newest_table tables)) key
      by_name p key true n = followed_key history t.table rule is_exact steps key (found_unique history held t rule (keys p) unique key n)
      by_name p key false n =
          let a = unwanted number tables sessions held known t found rule plain key n in
          absent_key rule (schema_of t.table) t.table.id transactions (records_before tables held) (past_of (shown_held tables held) (map newest_table tables)) key a.first a.after

      by : (b : Bool) → rule.flags.primary ≡ b → HasFreeKeys rule (schema_of t.table) t.table.id transactions (records_before tables held) (past_of (shown_held tables held) (map newest_table tables))
          × (rule.flags.primary ≡ true → HasBookmarkKeys rule (schema_of t.table) t.table.id (records_before tables held) (past_of (shown_held tables held) (map newest_table tables)))
      by true p =
          let is = sound.2 p in
          let at_first = own_first t found rule is.0 is.1 in
          let changes = own_items t found rule is.0 is.1 in (
            free_keys rule (schema_of t.table) t.table.id transactions base items steps (own_key_free rule (schema_of t.table) t.table.id transactions base items is_exact steps at_first changes),
            λ primary. record { at_first = at_first; changes = changes },
          )
      by false p = (
        free_keys rule (schema_of t.table) t.table.id transactions base items steps (λ key. by_name p key (is_named key (wanted_entries held t rule)) refl),
        λ primary. impossible (sym p ∙ primary),
      )

  -- ---- all indexes

  pub all_unique : AllByRecursion (λ (t : TableContents). is_sound_table t.table ≡ true) tables → AllByRecursion (λ (t : TableContents). HaveOwnNumbers t.table.indexes) tables → AllByRecursion (KeysFound history held) tables → ArePlain (map newest_table tables)
      → (id : ℕ) → IfSome (table_with_id (map newest_table tables) id) (HasUniqueIndexes transactions (records_before tables held) (past_of (shown_held tables held) (map newest_table tables)))
  all_unique sound own keys plain id = by (contents_with_id tables id) refl
    where
      of_table : (t : TableContents) → contents_with_id tables t.table.id ≡ Some t → is_sound_table t.table ≡ true → HaveOwnNumbers t.table.indexes → KeysFound history held t → AllByRecursion (IsPlainIndex (newest_table t)) t.table.indexes
          → HasUniqueIndexes transactions (records_before tables held) (past_of (shown_held tables held) (map newest_table tables)) (newest_table t)
      of_table t found is numbers found_keys plain_rules =
          all_of_two (IsSoundIndex (newest_table t)) (λ (rule : IndexRule). IsPlainIndex (newest_table t) rule × (rule.flags.primary ≡ false → unique_finding history held t rule ≡ None))
          (λ rule. IsSoundIndex (newest_table t) rule × IsUniqueIndex transactions (records_before tables held) (past_of (shown_held tables held) (map newest_table tables)) (newest_table t) rule)
          (λ rule sound_rule more. (sound_rule, unique_index t found rule sound_rule more.0 more.1)) t.table.indexes (sound_indexes (newest_table t) is numbers)
          (all_of_two (IsPlainIndex (newest_table t)) (λ (rule : IndexRule). rule.flags.primary ≡ false → unique_finding history held t rule ≡ None) (λ (rule : IndexRule). IsPlainIndex (newest_table t) rule × (rule.flags.primary ≡ false → unique_finding history held t rule ≡ None))
          (λ rule one two. (one, two)) t.table.indexes plain_rules found_keys)

      by : (o : Option TableContents) → contents_with_id tables id ≡ o → IfSome (table_with_id (map newest_table tables) id) (HasUniqueIndexes transactions (records_before tables held) (past_of (shown_held tables held) (map newest_table tables)))
      by None e = subst (λ (o : Option Table). IfSome o (HasUniqueIndexes transactions (records_before tables held) (past_of (shown_held tables held) (map newest_table tables)))) (sym (find_map newest_table (λ (u : Table). u.id == id) tables ∙ ap (option_map newest_table) e)) tt
      by (Some t) e =
          let named : t.table.id ≡ id = eqb-true t.table.id id (found_passes (λ u. u.table.id == id) tables t e) in
          subst (λ (o : Option Table). IfSome o (HasUniqueIndexes transactions (records_before tables held) (past_of (shown_held tables held) (map newest_table tables)))) (sym (table_found tables id t e))
          (of_table t (ap (contents_with_id tables) named ∙ e) (of_found (λ (u : TableContents). is_sound_table u.table ≡ true) (λ u. u.table.id == id) tables t e sound) (of_found (λ (u : TableContents). HaveOwnNumbers u.table.indexes) (λ u. u.table.id == id) tables t e own)
          (of_found (KeysFound history held) (λ u. u.table.id == id) tables t e keys) (subst (λ (o : Option Table). IfSome o (λ table. AllByRecursion (IsPlainIndex table) table.indexes)) (table_found tables id t e) (plain id)))

-- ---- the committed tables

defined_before : (changes : List HeldRecord) (tables : List Table) → map without_rows (tables_before changes tables) ≡ map without_rows tables
defined_before [] tables = refl
defined_before (h ∷ changes) tables = same_definitions (tables_before changes tables) (inverse h ∷ []) ∙ defined_before changes tables

pub carried_over : (transactions : ℕ → Option Transaction) (base : Records) (past : List PastChange) (changes : List HeldRecord) (tables : List Table) (made : List PastChange) → ((id : ℕ) → IfSome (table_with_id tables id) (HasUniqueIndexes transactions base past))
    → (id : ℕ) → IfSome (table_with_id (tables_with (was_committed None) (tables_before changes tables) made) id) (HasUniqueIndexes transactions base past)
carried_over transactions base past changes tables made each id =
    carried (HasUniqueIndexes transactions base past) (λ t q. q) (λ t q. q) tables (tables_with (was_committed None) (tables_before changes tables) made)
    (sym (same_definitions (tables_before changes tables) (map change_of (filter (was_committed None) made)) ∙ defined_before changes tables)) id (each id)
