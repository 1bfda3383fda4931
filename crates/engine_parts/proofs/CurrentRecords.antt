-- The record at a cursor, as a session reads it.
use Rattle.std.proofs.Common.{◌≡◌, ℕ, List, [], ◌∷◌, Option, Some, None, Result, Ok, Err, refl, sym, ap, subst, ◌∙◌, if◌then◌else◌, is_some, is_none}
use Rattle.std.specs.Prelude.{IfSome, not}
use Rattle.jet_base.specs.declared.replies.Jet.{Jet}
use Rattle.jet_base.specs.declared.replies.Jet.TheVariants as jet
use Rattle.column_set.specs.RecordValues.{RecordFields}
use Rattle.cursor_nav.specs.Places.{Pair, is_on}
use Rattle.column_set.specs.Refusals.{first_refusal}
use Rattle.index_derive.specs.declared.entries.Place.{Place}
use Rattle.index_derive.specs.declared.entries.Place.TheVariants.{On}
use Rattle.session_local.specs.Local.{OpenCursor}
use Rattle.stored_variants.specs.StoredVersions.{StoredVersions}
use Rattle.version_cleanup.specs.Cleaning.{reader_in}
use Rattle.version_store.specs.declared.calls.Reader.{Reader}
use Rattle.laws_engine.specs.EngineState.{EngineState}
use Rattle.engine_parts.specs.Parts.{tables_of}
use Rattle.engine_parts.specs.Reading.{CurrentEntry, entry_at, shown_for, records_for, shown_record}
use Rattle.engine_parts.specs.Retrieving.{IsRecordAt}

-- what is looked up: the tables that the code has, its reader, and the record that it asks for
pub record IsLookedUp (engine : EngineState) (session table : ℕ) (bookmark : List ℕ) (tables : StoredVersions) (reader : Reader) (number : ℕ) (bytes : List ℕ) : Type 0 where
  pub same_tables : tables ≡ tables_of engine
  pub same_reader : reader ≡ reader_in session engine.sessions
  pub same_table : number ≡ table
  pub same_bookmark : bytes ≡ bookmark

record_is : (engine : EngineState) (session table : ℕ) (bookmark : List ℕ) (tables : StoredVersions) (reader : Reader) (number : ℕ) (bytes : List ℕ) (found : Option RecordFields) → IsLookedUp engine session table bookmark tables reader number bytes
    → found ≡ shown_record reader tables.store number bytes → found ≡ shown_for engine session table bookmark
record_is engine session table bookmark tables reader number bytes found by is =
    let own : Reader = reader_in session engine.sessions in
    is
    ∙ ap (λ (v : StoredVersions). shown_record reader v.store number bytes) by.same_tables
    ∙ ap (λ (r : Reader). shown_record r engine.store number bytes) by.same_reader
    ∙ ap (λ (n : ℕ). shown_record own engine.store n bytes) by.same_table
    ∙ ap (λ (b : List ℕ). shown_record own engine.store table b) by.same_bookmark

abbrev pub entry_or : Option RecordFields → Pair → Result Pair Jet
entry_or found entry = if is_some found then Ok entry else Err jet.RecordDeleted

-- the entry at a cursor that stands on one
pub entry_shown : (engine : EngineState) (session : ℕ) (labelled : Option OpenCursor) (c : OpenCursor) (key bookmark : List ℕ) (tables : StoredVersions) (reader : Reader) (number : ℕ) (bytes : List ℕ) (found : Option RecordFields)
    → labelled ≡ Some c → c.cursor.place ≡ On key bookmark → IsLookedUp engine session c.cursor.table bookmark tables reader number bytes → found ≡ shown_record reader tables.store number bytes
    → IfSome labelled (λ c. CurrentEntry (records_for engine session c.cursor.table) c.cursor.place (entry_or found (key, bookmark)))
entry_shown engine session labelled c key bookmark tables reader number bytes found known place by is =
    subst (λ (o : Option OpenCursor). IfSome o (λ c. CurrentEntry (records_for engine session c.cursor.table) c.cursor.place (entry_or found (key, bookmark)))) (sym known)
    (ap (λ (o : Option RecordFields). entry_or o (key, bookmark)) (record_is engine session c.cursor.table bookmark tables reader number bytes found by is)
    ∙ ap (entry_at (records_for engine session c.cursor.table)) (sym place))

-- the record at a cursor that stands on an entry
pub record_shown : (engine : EngineState) (session : ℕ) (c : OpenCursor) (key bookmark : List ℕ) (tables : StoredVersions) (reader : Reader) (number : ℕ) (bytes : List ℕ) (row : RecordFields)
    → c.cursor.place ≡ On key bookmark → IsLookedUp engine session c.cursor.table bookmark tables reader number bytes → Some row ≡ shown_record reader tables.store number bytes
    → IsRecordAt (shown_for engine session c.cursor.table) c.cursor.place (Ok row)
record_shown engine session c key bookmark tables reader number bytes row place by is =
    subst (λ (p : Place). IsRecordAt (shown_for engine session c.cursor.table) p (Ok row)) (sym place)
    (refl, sym (record_is engine session c.cursor.table bookmark tables reader number bytes (Some row) by is))

pub record_gone : (engine : EngineState) (session : ℕ) (c : OpenCursor) (key bookmark : List ℕ) (tables : StoredVersions) (reader : Reader) (number : ℕ) (bytes : List ℕ)
    → c.cursor.place ≡ On key bookmark → IsLookedUp engine session c.cursor.table bookmark tables reader number bytes → None ≡ shown_record reader tables.store number bytes
    → IsRecordAt (shown_for engine session c.cursor.table) c.cursor.place (Err jet.RecordDeleted)
record_gone engine session c key bookmark tables reader number bytes place by is =
    subst (λ (p : Place). IsRecordAt (shown_for engine session c.cursor.table) p (Err jet.RecordDeleted)) (sym place)
    (ap (λ (o : Option RecordFields). first_refusal ((not (is_on (On key bookmark)), jet.NoCurrentRecord) ∷ (is_none o, jet.RecordDeleted) ∷ [])) (sym (record_is engine session c.cursor.table bookmark tables reader number bytes None by is)))
