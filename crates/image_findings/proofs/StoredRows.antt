-- The rows of a consistent image are those that a store keeps under their bookmarks.
use Rattle.std.proofs.Common.{◌≡◌, ℕ, true, List, [], ◌∷◌, length, Option, Some, None, bytes_eq}
use Rattle.std.specs.Prelude.{◌==◌, IfSome, MatchOption}
use Rattle.std.specs.List.{AllByRecursion}
use Rattle.std.proofs.lemmas.Bool.{eqb-true}
use Rattle.column_set.specs.RecordValues.{RecordFields}
use Rattle.common_lemmas.proofs.Booleans.{and_left}
use Rattle.common_lemmas.proofs.Lists.{all_weaker}
use Rattle.common_lemmas.proofs.Numbers.{same_bytes}
use Rattle.database_state.specs.Table.{Table, schema_of}
use Rattle.index_derive.specs.Entries.{primary_key}
use Rattle.index_derive.specs.Schemas.{primary_rule}
use Rattle.index_derive.specs.declared.rules.IndexRule.{IndexRule}
use Rattle.page_image.specs.Page.{Node}
use Rattle.stored_variants.specs.RecordRows.{record_of, row_in_node}
use Rattle.stored_variants.specs.VersionsKept.{IsRowUnder}
use Rattle.version_store.specs.HeldChanges.{HeldChange}
use Rattle.image_findings.specs.CatalogFindings.{is_sound_table}
use Rattle.image_findings.specs.Findings.{contents_in, live_of, told_in}
use Rattle.image_findings.specs.ImageBytes.{IsOfBytes}
use Rattle.image_findings.specs.Images.{ImageContents}
use Rattle.image_findings.specs.NoFindings.{HasNoFinding}
use Rattle.image_findings.specs.RowFindings.{is_hidden_key, is_own_bookmark}
use Rattle.image_findings.specs.SoundRows.{HasOwnRecords, HasRowsUnder, HasSoundRow, HasSoundRows}
use Rattle.image_findings.specs.TableContents.{TableContents, long_values}
use Rattle.image_findings.proofs.Known.{ordered_in, sound_of}
use Rattle.image_findings.proofs.Nodes.{AreBytes, Rises, each_of_bytes, record_at}
use Rattle.image_findings.proofs.Rows.{each_sound_rows}
use Rattle.image_findings.proofs.SoundRecords.{are_bytes, bytes_are, sound_record}

-- ---- one row

own_bookmark : (number : ℕ) (t : Table) (fields : RecordFields) (bookmark : List ℕ) → is_own_bookmark number t fields bookmark ≡ true → MatchOption (primary_rule (schema_of t)) (length bookmark ≡ 8) (λ rule. bookmark ≡ primary_key rule (schema_of t) fields)
own_bookmark number t fields bookmark own = by (primary_rule (schema_of t)) own
  where
    by : (o : Option IndexRule) → (elim o [ Some rule ↦ bytes_eq bookmark (primary_key rule (schema_of t) fields) | None ↦ is_hidden_key number bookmark ]) ≡ true → MatchOption o (length bookmark ≡ 8) (λ rule. bookmark ≡ primary_key rule (schema_of t) fields)
    by None e = eqb-true (length bookmark) 8 (and_left (length bookmark == 8) _ e)
    by (Some rule) e = same_bytes bookmark (primary_key rule (schema_of t) fields) e

pub is_row_under : (number : ℕ) (t : TableContents) (bookmark bytes : List ℕ) → is_sound_table t.table ≡ true → are_bytes bytes ≡ true → HasSoundRow number t bookmark bytes → IsRowUnder (long_values t) t.table bookmark bytes
is_row_under number t bookmark bytes sound are h = record {
  fits = record { row = h.row; columns = h.columns; numbers = (sound_record number t bookmark bytes sound are h).1.1 };
  indexable = h.indexable;
  own = own_bookmark number t.table (record_of (long_values t) bytes) bookmark h.own;
}

pub both_some : {X : Type 0} (P Q R : X → Type 0) → ((x : X) → P x → Q x → R x) → (o : Option X) → IfSome o P → IfSome o Q → IfSome o R
both_some P Q R f None p q = tt
both_some P Q R f (Some x) p q = f x p q

-- ---- all rows

bytes_in_node : (bytes : List ℕ) → are_bytes bytes ≡ true → IfSome (row_in_node bytes) (λ row. are_bytes row ≡ true)
bytes_in_node [] h = tt
bytes_in_node (b ∷ bytes) h = h

rows_under : (number : ℕ) (t : TableContents) (nodes : List Node) → is_sound_table t.table ≡ true → AreBytes nodes → AllByRecursion (λ (n : Node). IfSome (row_in_node n.data) (HasSoundRow number t n.key)) nodes
    → AllByRecursion (λ (n : Node). IfSome (row_in_node n.data) (IsRowUnder (long_values t) t.table n.key)) nodes
rows_under number t [] sound bytes rows = tt
rows_under number t (n ∷ nodes) sound bytes rows = (
  both_some (λ row. are_bytes row ≡ true) (HasSoundRow number t n.key) (IsRowUnder (long_values t) t.table n.key) (λ row are h. is_row_under number t n.key row sound are h) (row_in_node n.data) (bytes_in_node n.data (bytes_are n.data bytes.0)) rows.0,
  rows_under number t nodes sound bytes.1 rows.1,
)

all_under : (number : ℕ) (held : List HeldChange) (tables : List TableContents) → AllByRecursion (λ (t : TableContents). is_sound_table t.table ≡ true) tables → AllByRecursion (λ (t : TableContents). AreBytes t.nodes) tables → AllByRecursion (HasSoundRows number held) tables
    → AllByRecursion HasRowsUnder tables
all_under number held [] sound bytes rows = tt
all_under number held (t ∷ tables) sound bytes rows = (rows_under number t t.nodes sound.0 bytes.0 rows.0.rows, all_under number held tables sound.1 bytes.1 rows.1)

pub each_under : (image : ImageContents) → IsOfBytes image → HasNoFinding image → AllByRecursion HasRowsUnder (contents_in image)
each_under image bytes n =
    all_under image.number (live_of image).held (contents_in image) (sound_of image n) (each_of_bytes image.pages bytes.pages (told_in image).tables) (each_sound_rows image.number (live_of image).held (contents_in image) n.values n.rows)

-- ---- records by their bookmarks

pub each_own_record : (image : ImageContents) → IsOfBytes image → HasNoFinding image → AllByRecursion HasOwnRecords (contents_in image)
each_own_record image bytes n = all_weaker (λ (t : TableContents). Rises t.nodes) HasOwnRecords (λ t rise bookmark. record_at (long_values t) t.nodes rise bookmark) (contents_in image) (ordered_in image bytes n)
