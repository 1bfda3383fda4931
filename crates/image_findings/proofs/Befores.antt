-- The records before the held changes of the engine that is made of a consistent image, and what sums leave of them.
use Rattle.std.proofs.Common.{◌≡◌, ℕ, Bool, true, false, ◌&&◌, cond, List, [], ◌∷◌, Option, Some, None, refl, sym, ap, subst, ◌∙◌}
use Rattle.std.specs.Prelude.{not, ◌||◌, option_map, ℤ, pos, negsuc, neg_ℤ, ◌==◌, ◌^◌, map, nat_lt, nat_le, length, IfSome, FitsSigned}
use Rattle.std.specs.Int.{w32}
use Rattle.std.specs.List.{AllByRecursion, list_any}
use Rattle.std.proofs.lemmas.Bool.{eqb-true, ltb-true}
use Rattle.column_set.specs.ChangedRecords.{changed_table}
use Rattle.column_set.specs.RecordValues.{RecordFields, column_of_id}
use Rattle.column_set.specs.declared.changes.Change.TheVariants.{Add}
use Rattle.column_set.specs.declared.columns.Column.{Column}
use Rattle.common_lemmas.proofs.Booleans.{and_left, and_right, impossible}
use Rattle.common_lemmas.proofs.Finding.{find_map}
use Rattle.common_lemmas.proofs.Found.{found_passes, of_found}
use Rattle.database_state.specs.Changes.{with_sum}
use Rattle.database_state.specs.SchemaChanges.{rule_columns}
use Rattle.database_state.specs.State.{PastChange, is_undone}
use Rattle.database_state.specs.Table.{Table, schema_of, table_with_id, record_in}
use Rattle.index_derive.specs.Entries.{is_escrow_column}
use Rattle.index_derive.specs.Schemas.{primary_rule}
use Rattle.index_derive.specs.declared.log.Entry.{Entry}
use Rattle.index_derive.specs.declared.rules.IndexRule.{IndexRule}
use Rattle.jet_base.specs.Ids.{table_id}
use Rattle.laws_images.proofs.OpenedLemmas.TakenBack.{made_table}
use Rattle.laws_images.specs.ShowableEngines.{EachHeld, IsSoundRecord, SumsKeepAll, SumsKeepIt}
use Rattle.laws_images.specs.ShownStates.{change_made, past_of, tables_before}
use Rattle.laws_versions.proofs.KeyLemmas.IndexNumbers.{all_primary_first}
use Rattle.laws_versions.proofs.KeyLemmas.KeySums.{keys_with_sum}
use Rattle.laws_versions.proofs.RecordLemmas.EscrowRecords.{sum_keeps}
use Rattle.laws_versions.proofs.RecordLemmas.StoredSums.{sum_stored}
use Rattle.laws_versions.specs.Bookmarks.{is_bookmark}
use Rattle.laws_versions.specs.KeySums.{IsPlainIndex, SeesNoSum, adds_to_index, is_plain_column, names_column}
use Rattle.laws_versions.specs.RecordNumbers.{AddsToEscrow}
use Rattle.live_part.specs.LiveBytes.{bare_change, entry_of, held_fits, row_fits, status_fits}
use Rattle.log_grammar.specs.EntryBytes.{amount_fits, bookmark_fits, change_fits, entry_rest, has_spelling, kind_fits}
use Rattle.long_value.specs.Values.{Values}
use Rattle.stored_variants.specs.RecordRows.{held_record_in, record_of}
use Rattle.version_cleanup.specs.LiveSessions.{LiveState}
use Rattle.version_store.specs.HeldChanges.{HeldChange, is_rewrite}
use Rattle.version_store.specs.declared.calls.ChangeKind.{ChangeKind}
use Rattle.version_store.specs.declared.calls.ChangeKind.TheVariants as kind
use Rattle.image_findings.specs.Findings.{values_by_table}
use Rattle.image_findings.specs.LiveFindings.{adds_to_sum}
use Rattle.image_findings.specs.SoundRows.{HasSoundRow}
use Rattle.image_findings.specs.TableContents.{TableContents, contents_with_id, long_values, newest_table}
use Rattle.image_findings.proofs.Changes.{IsKnown, table_found, values_found}
use Rattle.image_findings.proofs.SoundRecords.{are_bytes, sound_record}

-- ---- the records before

held_sound : (number : ℕ) (tables : List TableContents) (sessions : List LiveState) (h : HeldChange) → IsKnown number tables sessions h
    → IfSome (table_with_id (map newest_table tables) h.table) (λ table. IfSome (held_record_in (values_by_table tables) h).before (IsSoundRecord number (schema_of table) h.bookmark))
held_sound number tables sessions h k =
    subst (λ (o : Option Table). IfSome o (λ table. IfSome (held_record_in (values_by_table tables) h).before (IsSoundRecord number (schema_of table) h.bookmark))) (sym (table_found tables h.table k.t k.found))
    (subst (λ (values : Values). IfSome (cond (is_rewrite h.kind && not (is_undone h.status)) (option_map (record_of values) h.before) None) (IsSoundRecord number (schema_of k.t.table) h.bookmark)) (sym (values_found tables h.table k.t k.found))
    (by (is_rewrite h.kind && not (is_undone h.status)) h.before k.before k.bytes))
  where
    by : (b : Bool) (o : Option (List ℕ)) → IfSome o (HasSoundRow number k.t h.bookmark) → IfSome o (λ row. are_bytes row ≡ true) → IfSome (cond b (option_map (record_of (long_values k.t)) o) None) (IsSoundRecord number (schema_of k.t.table) h.bookmark)
    by true None is are = tt
    by true (Some row) is are = sound_record number k.t h.bookmark row k.sound are is
    by false o is are = tt

pub befores_sound : (number : ℕ) (tables : List TableContents) (sessions : List LiveState) (held : List HeldChange) → AllByRecursion (IsKnown number tables sessions) held → EachHeld IsSoundRecord number (map newest_table tables) (map (held_record_in (values_by_table tables)) held)
befores_sound number tables sessions [] k = tt
befores_sound number tables sessions (h ∷ held) k = (held_sound number tables sessions h k.0, befores_sound number tables sessions held k.1)

-- ---- indexes and sums

plain_apart : (table : Table) (id column : ℕ) → is_plain_column table id ≡ true → is_escrow_column (schema_of table) column ≡ true → (id == column) ≡ false
plain_apart table id column plain escrow = by (id == column) refl
  where
    at : (o : Option Column) → elim o [ Some c ↦ not c.escrow | None ↦ false ] ≡ true → elim o [ Some c ↦ c.escrow | None ↦ false ] ≡ true → false ≡ true
    at None p e = p
    at (Some c) p e = sym (ap not e) ∙ p

    by : (b : Bool) → (id == column) ≡ b → b ≡ false
    by true e = impossible (at (column_of_id table.columns id) plain (ap (is_escrow_column (schema_of table)) (eqb-true id column e) ∙ escrow))
    by false e = refl

apart_all : (table : Table) (column : ℕ) → is_escrow_column (schema_of table) column ≡ true → (ids : List ℕ) → AllByRecursion (λ id. is_plain_column table id ≡ true) ids → list_any (λ id. id == column) ids ≡ false
apart_all table column escrow [] plain = refl
apart_all table column escrow (id ∷ ids) plain = ap (λ b. b || list_any (λ other. other == column) ids) (plain_apart table id column plain.0 escrow) ∙ apart_all table column escrow ids plain.1

pub names_no_sum : (table : Table) (rule : IndexRule) (column : ℕ) → is_escrow_column (schema_of table) column ≡ true → IsPlainIndex table rule → names_column rule column ≡ false
names_no_sum table rule column escrow plain = apart_all table column escrow (rule_columns rule) plain

stays_under : (number : ℕ) (table : Table) → AllByRecursion (IsPlainIndex table) table.indexes → (column : ℕ) (amount : ℤ) → is_escrow_column (schema_of table) column ≡ true → (bookmark : List ℕ) (fields : RecordFields) (o : Option IndexRule)
    → primary_rule (schema_of table) ≡ o → is_bookmark number (schema_of table) o bookmark fields ≡ true → is_bookmark number (schema_of table) o bookmark (with_sum fields column amount) ≡ true
stays_under number table plain column amount escrow bookmark fields None e h = h
stays_under number table plain column amount escrow bookmark fields (Some rule) e h =
    keys_with_sum rule (schema_of table) bookmark fields column amount
    (names_no_sum table rule column escrow (of_found (IsPlainIndex table) (λ r. r.flags.primary) (schema_of table).indexes rule e (all_primary_first (IsPlainIndex table) table.indexes plain))) ∙ h

keeps_it : (number : ℕ) (table : Table) → AllByRecursion (IsPlainIndex table) table.indexes → (bookmark : List ℕ) (what : ChangeKind) → adds_to_sum table what ≡ true → SumsKeepIt IsSoundRecord number (schema_of table) bookmark what
keeps_it number table plain bookmark kind.Put adds = tt
keeps_it number table plain bookmark kind.Drop adds = tt
keeps_it number table plain bookmark kind.Hold adds = tt
keeps_it number table plain bookmark (kind.Add column amount) adds = λ fields h. (
  sum_stored number (schema_of table) bookmark column.0 (neg_ℤ amount) adds fields (h.0, h.1),
  sum_keeps number (schema_of table) bookmark (Add (table_id 0) bookmark column (neg_ℤ amount)) fields h.1,
  stays_under number table plain column.0 (neg_ℤ amount) adds bookmark fields (primary_rule (schema_of table)) refl h.2,
)

-- the indexes of each table are plain
abbrev pub ArePlain : List Table → Type 0
ArePlain tables = (id : ℕ) → IfSome (table_with_id tables id) (λ table. AllByRecursion (IsPlainIndex table) table.indexes)

plain_of : (number : ℕ) (tables : List TableContents) (sessions : List LiveState) (h : HeldChange) → IsKnown number tables sessions h → ArePlain (map newest_table tables) → (t : TableContents) → contents_with_id tables h.table ≡ Some t
    → AllByRecursion (IsPlainIndex (newest_table t)) (newest_table t).indexes
plain_of number tables sessions h k plain t found = subst (λ (o : Option Table). IfSome o (λ table. AllByRecursion (IsPlainIndex table) table.indexes)) (table_found tables h.table t found) (plain h.table)

pub sums_keep : (number : ℕ) (tables : List TableContents) (sessions : List LiveState) → ArePlain (map newest_table tables) → (held : List HeldChange) → AllByRecursion (IsKnown number tables sessions) held
    → SumsKeepAll IsSoundRecord number (map newest_table tables) (map (held_record_in (values_by_table tables)) held)
sums_keep number tables sessions plain [] k = tt
sums_keep number tables sessions plain (h ∷ held) k = (
  subst (λ (o : Option Table). IfSome o (λ table. SumsKeepIt IsSoundRecord number (schema_of table) h.bookmark h.kind)) (sym (table_found tables h.table k.0.t k.0.found))
      (keeps_it number (newest_table k.0.t) (plain_of number tables sessions h k.0 plain k.0.t k.0.found) h.bookmark h.kind k.0.adds),
  sums_keep number tables sessions plain held k.1,
)

-- ---- amounts

fits_signed : (amount : ℤ) → amount_fits amount ≡ true → FitsSigned w32 amount
fits_signed (pos n) h = record { sfits = ltb-true _ _ h }
fits_signed (negsuc n) h = record { sfits = ltb-true _ _ h }

kind_of_spelled : (e : Entry) → has_spelling e ≡ true → kind_fits e.kind ≡ true
unfolding has_spelling
kind_of_spelled e h = and_left (kind_fits e.kind) (nat_lt (length (entry_rest e)) (2 ^ 32)) (and_right (nat_le 1 e.session.0 && nat_le e.session.0 99) (kind_fits e.kind && nat_lt (length (entry_rest e)) (2 ^ 32)) h)

change_spelled : (h : HeldChange) → held_fits h ≡ true → change_fits (bare_change h.kind h.table h.bookmark) ≡ true
change_spelled h e =
    kind_of_spelled (entry_of h)
    (and_left (has_spelling (entry_of h)) (row_fits h.before) (and_right (status_fits h.status) (has_spelling (entry_of h) && row_fits h.before)
    (and_right (nat_le 1 h.level && nat_le h.level 7) (status_fits h.status && (has_spelling (entry_of h) && row_fits h.before)) (and_right (nat_lt h.number (2 ^ 64)) ((nat_le 1 h.level && nat_le h.level 7) && (status_fits h.status && (has_spelling (entry_of h) && row_fits h.before))) e))))

-- a sum adds a number of 32 bits
abbrev pub HasAmount : ChangeKind → Type 0
HasAmount kind.Put = Unit {0}
HasAmount kind.Drop = Unit {0}
HasAmount kind.Hold = Unit {0}
HasAmount (kind.Add column amount) = FitsSigned w32 amount

amount_of : (what : ChangeKind) (table : ℕ) (bookmark : List ℕ) → change_fits (bare_change what table bookmark) ≡ true → HasAmount what
amount_of kind.Put table bookmark h = tt
amount_of kind.Drop table bookmark h = tt
amount_of kind.Hold table bookmark h = tt
amount_of (kind.Add column amount) table bookmark h =
    fits_signed amount (and_right (nat_lt column.0 (2 ^ 16)) (amount_fits amount) (and_right (bookmark_fits bookmark) (nat_lt column.0 (2 ^ 16) && amount_fits amount) (and_right (nat_lt table (2 ^ 32)) (bookmark_fits bookmark && (nat_lt column.0 (2 ^ 16) && amount_fits amount)) h)))

pub has_amount : (h : HeldChange) → held_fits h ≡ true → HasAmount h.kind
has_amount h e = amount_of h.kind h.table h.bookmark (change_spelled h e)

-- ---- past changes

adds_number : (table : Table) (what : ChangeKind) (id : ℕ) (bookmark : List ℕ) (after : Option RecordFields) → adds_to_sum table what ≡ true → HasAmount what → AddsToEscrow (schema_of table) (change_made what id bookmark after)
adds_number table kind.Put id bookmark after adds amount = tt
adds_number table kind.Drop id bookmark after adds amount = tt
adds_number table kind.Hold id bookmark after adds amount = tt
adds_number table (kind.Add column amount) id bookmark after adds fits = (adds, fits)

pub adds_all : (number : ℕ) (tables : List TableContents) (sessions : List LiveState) (held : List HeldChange) → AllByRecursion (IsKnown number tables sessions) held
    → AllByRecursion (λ item. IfSome (table_with_id (map newest_table tables) (changed_table item.change)) (λ table. AddsToEscrow (schema_of table) item.change)) (past_of (map (held_record_in (values_by_table tables)) held) (map newest_table tables))
adds_all number tables sessions [] k = tt
adds_all number tables sessions (h ∷ held) k =
    let after = record_in (tables_before (map (held_record_in (values_by_table tables)) held) (map newest_table tables)) h.table h.bookmark in (
      subst (λ (o : Option Table). IfSome o (λ table. AddsToEscrow (schema_of table) (change_made h.kind h.table h.bookmark after)))
          (sym (ap (table_with_id (map newest_table tables)) (made_table h.kind h.table h.bookmark after) ∙ table_found tables h.table k.0.t k.0.found))
          (adds_number (newest_table k.0.t) h.kind h.table h.bookmark after k.0.adds (has_amount h k.0.fits)),
      adds_all number tables sessions held k.1,
    )

sees_none : (table : Table) (rule : IndexRule) → IsPlainIndex table rule → (what : ChangeKind) (id : ℕ) (bookmark : List ℕ) (after : Option RecordFields) → adds_to_sum table what ≡ true → adds_to_index rule (change_made what id bookmark after) ≡ false
sees_none table rule plain kind.Put id bookmark after adds = refl
sees_none table rule plain kind.Drop id bookmark after adds = refl
sees_none table rule plain kind.Hold id bookmark after adds = refl
sees_none table rule plain (kind.Add column amount) id bookmark after adds = names_no_sum table rule column.0 adds plain

pub sees_no_sum : (number : ℕ) (tables : List TableContents) (sessions : List LiveState) (t : TableContents) (rule : IndexRule) → IsPlainIndex (newest_table t) rule → contents_with_id tables t.table.id ≡ Some t → (held : List HeldChange) → AllByRecursion (IsKnown number tables sessions) held
    → SeesNoSum rule t.table.id (past_of (map (held_record_in (values_by_table tables)) held) (map newest_table tables))
sees_no_sum number tables sessions t rule plain found [] k = tt
sees_no_sum number tables sessions t rule plain found (h ∷ held) k =
    let after = record_in (tables_before (map (held_record_in (values_by_table tables)) held) (map newest_table tables)) h.table h.bookmark in (
      λ own. sees_none (newest_table t) rule plain h.kind h.table h.bookmark after
          (ap (λ (u : TableContents). adds_to_sum u.table h.kind) (same t k.0.t (sym found ∙ ap (contents_with_id tables) (sym own ∙ made_table h.kind h.table h.bookmark after) ∙ k.0.found)) ∙ k.0.adds),
      sees_no_sum number tables sessions t rule plain found held k.1,
    )
  where
    same : (t u : TableContents) → Some t ≡ Some u → t ≡ u
    same t u e = cc

abbrev HasPlainIndexes : List PastChange → Table → Type 0
HasPlainIndexes past table = AllByRecursion (λ rule. IsPlainIndex table rule × SeesNoSum rule table.id past) table.indexes

pub plain_indexes_see_no_sum : (number : ℕ) (tables : List TableContents) (sessions : List LiveState) (held : List HeldChange) → AllByRecursion (IsKnown number tables sessions) held → ArePlain (map newest_table tables)
    → (id : ℕ) → IfSome (table_with_id (map newest_table tables) id) (λ table. AllByRecursion (λ rule. IsPlainIndex table rule × SeesNoSum rule table.id (past_of (map (held_record_in (values_by_table tables)) held) (map newest_table tables))) table.indexes)
plain_indexes_see_no_sum number tables sessions held k plain id = by (contents_with_id tables id) refl
  where
    past : List PastChange
    past = past_of (map (held_record_in (values_by_table tables)) held) (map newest_table tables)

    each : (t : TableContents) → contents_with_id tables t.table.id ≡ Some t → (rules : List IndexRule) → AllByRecursion (IsPlainIndex (newest_table t)) rules → AllByRecursion (λ rule. IsPlainIndex (newest_table t) rule × SeesNoSum rule t.table.id past) rules
    each t found [] plain = tt
    each t found (rule ∷ rules) plain = ((plain.0, sees_no_sum number tables sessions t rule plain.0 found held k), each t found rules plain.1)

    by : (o : Option TableContents) → contents_with_id tables id ≡ o → IfSome (table_with_id (map newest_table tables) id) (HasPlainIndexes past)
    by None e = subst (λ (o : Option Table). IfSome o (HasPlainIndexes past)) (sym (find_map newest_table (λ (u : Table). u.id == id) tables ∙ ap (option_map newest_table) e)) tt
    by (Some t) e =
        let own : t.table.id ≡ id = eqb-true t.table.id id (found_passes (λ u. u.table.id == id) tables t e) in
        subst (λ (o : Option Table). IfSome o (HasPlainIndexes past)) (sym (table_found tables id t e))
        (each t (ap (contents_with_id tables) own ∙ e) t.table.indexes (subst (λ (o : Option Table). IfSome o (λ table. AllByRecursion (IsPlainIndex table) table.indexes)) (table_found tables id t e) (plain id)))
