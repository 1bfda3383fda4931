-- What the held changes tell of key conflicts.
use Rattle.std.proofs.Common.{◌≡◌, ℕ, true, false, not, ◌&&◌, ◌||◌, cond, List, [], ◌∷◌, Option, Some, refl, sym, ap, ◌∙◌}
use Rattle.std.specs.Prelude.{◌==◌, bytes_eq, find}
use Rattle.common_lemmas.proofs.Booleans.{and_left, and_right}
use Rattle.index_derive.specs.declared.rules.IndexRule.{IndexRule}
use Rattle.index_derive.specs.declared.rules.Schema.{Schema}
use Rattle.column_set.specs.ChangedRecords.{changed_table, changed_bookmark}
use Rattle.database_state.specs.State.{DatabaseState, PastChange, Transaction, is_undone, transaction_of}
use Rattle.database_state.specs.View.{newest}
use Rattle.database_state.specs.Conflicts.{is_concurrent as is_concurrent_change, has_key_conflict as has_key_conflict_in, yields_key}
use Rattle.laws_versions.specs.Records.{Records, is_change_of, records_of}
use Rattle.laws_versions.specs.History.{IsHistory}
use Rattle.laws_versions.specs.Readers.{before_or as kept_before, is_rewrite as rewrites}
use Rattle.laws_versions.specs.KeySums.{HasKeyBefores, SeesNoSum}
use Rattle.laws_versions.specs.Variants.{is_key_held, is_standing_rewrite as is_kept_rewrite, next_variant as next_kept}
use Rattle.version_store.specs.declared.calls.Reader.{Reader}
use Rattle.version_store.specs.HeldChanges.{is_rewrite}
use Rattle.laws_engine.specs.HeldRecords.{HeldRecord, before_or, has_key_conflict, is_standing_rewrite, next_variant}
use Rattle.laws_engine.specs.VersionedTables.{VersionedTables}
use Rattle.laws_engine.specs.Holding.{AllMatch, Holds, Matches, begin_of}
use Rattle.laws_engine.proofs.TableLemmas.FoundRecords.{rewrite_kind}
use Rattle.laws_engine.proofs.TableLemmas.WriteConflicts.{same_concurrent}

same_rewrite : (item : PastChange) (h : HeldRecord) → Matches item h → (table : ℕ) (bookmark : List ℕ) → is_standing_rewrite table bookmark h ≡ is_kept_rewrite table bookmark item
same_rewrite item h m table bookmark =
    λ i. ((m.table i == table) && bytes_eq (m.bookmark i) bookmark) && (ap is_rewrite m.kind ∙ rewrite_kind item.change) i && not (is_undone (m.status i))

next_is_kept : (newest : Records) (table : ℕ) (bookmark : List ℕ) (items : List PastChange) (held : List HeldRecord) → AllMatch items held → next_variant newest table bookmark held ≡ next_kept newest table bookmark items
next_is_kept newest table bookmark [] [] m = refl
next_is_kept newest table bookmark [] (h ∷ held) m = absurd m
next_is_kept newest table bookmark (item ∷ items) [] m = absurd m
next_is_kept newest table bookmark (item ∷ items) (h ∷ held) m =
    ap (λ b. before_or (newest table bookmark) (cond b (Some h) (find (is_standing_rewrite table bookmark) held))) (same_rewrite item h m.0 table bookmark)
    ∙ elim (is_kept_rewrite table bookmark item) as (λ b. is_kept_rewrite table bookmark item ≡ b
    → before_or (newest table bookmark) (cond b (Some h) (find (is_standing_rewrite table bookmark) held)) ≡ kept_before (newest table bookmark) (cond b (Some item) (find (is_kept_rewrite table bookmark) items))) [
      | true ↦ λ hit. m.0.before (and_right (is_change_of table bookmark item.change && rewrites item.change) _ hit) (and_right (is_change_of table bookmark item.change) _ (and_left _ _ hit))
      | false ↦ λ miss. next_is_kept newest table bookmark items held m.1
    ] refl

key_is_kept : (reader : Reader) (t : Option Transaction) → reader.begin ≡ begin_of t → (newest : Records) (table : ℕ) (rule : IndexRule) (schema : Schema) (key : List ℕ) (items : List PastChange) (held : List HeldRecord) → AllMatch items held
    → has_key_conflict reader newest table rule schema key held ≡ is_key_held (is_concurrent_change reader.session.0 t) newest table rule schema key items
key_is_kept reader t e newest table rule schema key [] [] m = refl
key_is_kept reader t e newest table rule schema key [] (h ∷ held) m = absurd m
key_is_kept reader t e newest table rule schema key (item ∷ items) [] m = absurd m
key_is_kept reader t e newest table rule schema key (item ∷ items) (h ∷ held) m =
    λ i. (same_concurrent item h m.0 reader t e i && ((m.0.table i == table)
    && (yields_key rule schema key (variant_here i) || yields_key rule schema key (variant_behind i))))
    || key_is_kept reader t e newest table rule schema key items held m.1 i
  where
    variant_here : next_variant newest h.table h.bookmark (h ∷ held) ≡ next_kept newest (changed_table item.change) (changed_bookmark item.change) (item ∷ items)
    variant_here = (λ i. next_variant newest (m.0.table i) (m.0.bookmark i) (h ∷ held)) ∙ next_is_kept newest (changed_table item.change) (changed_bookmark item.change) (item ∷ items) (h ∷ held) m

    variant_behind : next_variant newest h.table h.bookmark held ≡ next_kept newest (changed_table item.change) (changed_bookmark item.change) items
    variant_behind = (λ i. next_variant newest (m.0.table i) (m.0.bookmark i) held) ∙ next_is_kept newest (changed_table item.change) (changed_bookmark item.change) items held m.1

-- the law that the variants of records tell key conflicts
abbrev pub VariantsTellKeyConflicts : Type 0
VariantsTellKeyConflicts =
    (base : Records) (dropped kept : List PastChange) (state : DatabaseState) → IsHistory base dropped kept state → (session table : ℕ) (schema : Schema) (rule : IndexRule)
    → SeesNoSum rule table kept → HasKeyBefores rule schema table base kept → (key : List ℕ) → has_key_conflict_in state session table schema rule key ≡ is_key_held (is_concurrent_change session (transaction_of state session)) (records_of (newest state)) table rule schema key kept

pub key_conflict_is_told : VariantsTellKeyConflicts → (base : Records) (dropped kept : List PastChange) (store : VersionedTables) (state : DatabaseState) → Holds base dropped kept store state → (reader : Reader) → reader.begin ≡ begin_of (transaction_of state reader.session.0)
    → (table : ℕ) (schema : Schema) (rule : IndexRule) → SeesNoSum rule table kept → HasKeyBefores rule schema table base kept → (key : List ℕ) → has_key_conflict reader (records_of store.tables) table rule schema key store.held ≡ has_key_conflict_in state reader.session.0 table schema rule key
key_conflict_is_told by_variants base dropped kept store state h reader e table schema rule plain sums key =
    ap (λ (r : Records). has_key_conflict reader r table rule schema key store.held) h.newest
    ∙ key_is_kept reader (transaction_of state reader.session.0) e (records_of (newest state)) table rule schema key kept store.held h.held
    ∙ sym (by_variants base dropped kept state h.history reader.session.0 table schema rule plain sums key)
