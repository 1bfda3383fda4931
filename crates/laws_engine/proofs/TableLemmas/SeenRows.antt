-- What a reader is shown, record by record.
use Rattle.std.proofs.Common.{◌≡◌, ℕ, Bool, true, false, not, ◌&&◌, cond, List, [], ◌∷◌, Option, Some, None, refl, sym, ap, ◌∙◌}
use Rattle.std.specs.Prelude.{◌==◌, bytes_eq, find}
use Rattle.std.specs.Ordering.{nat_cmp}
use Rattle.std.specs.Cmp.Lexicographic.{slice_cmp, texts_ties, nat_list_cmp_total}
use Rattle.std.specs.FinMap.Entries.{find-put, find-where_key}
use Rattle.std.proofs.lemmas.Map.Lookups.{exact_bytes}
use Rattle.common_lemmas.proofs.Numbers.{bytes_turned}
use Rattle.column_set.specs.RecordValues.{RecordFields}
use Rattle.database_state.specs.Table.{Rows, row_at}
use Rattle.version_store.specs.declared.calls.Reader.{Reader}
use Rattle.version_store.specs.HeldChanges.{is_rewrite}
use Rattle.laws_engine.specs.HeldRecords.{HeldRecord, is_unseen, hides, before_or, seen_record}
use Rattle.laws_engine.specs.VersionedTables.{rows_with, seen_rows}

pub row_at-with : (rows : Rows) (bookmark other : List ℕ) (values : Option RecordFields) → row_at (rows_with rows bookmark values) other ≡ cond (bytes_eq bookmark other) values (row_at rows other)
row_at-with rows bookmark other None =
    find-where_key (slice_cmp nat_cmp) (λ key. not (bytes_eq key bookmark)) other (λ x e. ap (λ (k : List ℕ). not (bytes_eq k bookmark)) (sym (exact_bytes other x e))) rows
    ∙ flipped (bytes_eq other bookmark) (row_at rows other) ∙ ap (λ b. cond b None (row_at rows other)) (bytes_turned other bookmark)
  where
    flipped : (b : Bool) (x : Option RecordFields) → cond (not b) x None ≡ cond b None x
    flipped true x = refl
    flipped false x = refl
row_at-with rows bookmark other (Some values) =
    find-put (slice_cmp nat_cmp) nat_list_cmp_total other bookmark values rows
    ∙ ap (λ b. cond b (Some values) (row_at rows other)) (sym (texts_ties other bookmark) ∙ bytes_turned other bookmark)

pub seen_at : (table : ℕ) (reader : Reader) (held : List HeldRecord) (rows : Rows) (bookmark : List ℕ) → row_at (seen_rows table reader held rows) bookmark ≡ seen_record table bookmark reader (row_at rows bookmark) held
seen_at table reader [] rows bookmark = refl
seen_at table reader (h ∷ held) rows bookmark =
    by (seen_rows table reader held rows) (seen_at table reader held rows bookmark) (h.table == table) (bytes_eq h.bookmark bookmark) (is_rewrite h.kind) (is_unseen reader h) refl
  where
    by : (later : Rows) → row_at later bookmark ≡ seen_record table bookmark reader (row_at rows bookmark) held → (a b c d : Bool) → bytes_eq h.bookmark bookmark ≡ b
        → row_at (cond (a && c && d) (rows_with later h.bookmark h.before) later) bookmark ≡ before_or (row_at rows bookmark) (cond ((a && b) && c && d) (Some h) (find (hides table bookmark reader) held))
    by later rest false b c d e = rest
    by later rest true true false d e = rest
    by later rest true false false d e = rest
    by later rest true true true false e = rest
    by later rest true false true false e = rest
    by later rest true true true true e = row_at-with later h.bookmark bookmark h.before ∙ ap (λ b. cond b h.before (row_at later bookmark)) e
    by later rest true false true true e = row_at-with later h.bookmark bookmark h.before ∙ ap (λ b. cond b h.before (row_at later bookmark)) e ∙ rest
