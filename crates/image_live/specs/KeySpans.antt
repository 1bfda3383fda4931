-- How long the records of a table have the keys of an index, told by how many held changes are made.
use Rattle.std.specs.Prelude.{ℕ, suc, ◌-◌, ◌==◌, Bool, false, not, ◌&&◌, ◌||◌, nat_lt, List, [], ◌∷◌, ◌++◌, length, map, take, Option, Some, None, slice_get, bytes_eq, if◌then◌else◌}
use Rattle.std.specs.List.{flat_map}
use Rattle.column_set.specs.RecordValues.{RecordFields}
use Rattle.database_state.specs.Table.{schema_of}
use Rattle.image_findings.specs.LiveFindings.{are_apart}
use Rattle.image_findings.specs.TableContents.{TableContents, long_values}
use Rattle.index_derive.specs.Entries.{key_list}
use Rattle.index_derive.specs.declared.rules.IndexRule.{IndexRule}
use Rattle.page_image.specs.Page.{Node}
use Rattle.stored_variants.specs.RecordRows.{record_of, row_in_node}
use Rattle.version_cleanup.specs.LiveSessions.{LiveState}
use Rattle.version_store.specs.HeldChanges.{HeldChange, is_standing_rewrite, last_place}

-- A record has a key from when so many changes are made, up to when so many are, both included.
pub record Span : Type 0 where
  pub key : List ℕ
  pub bookmark : List ℕ
  pub begins : ℕ
  pub ends : ℕ

-- ---- the variants of a record

-- behind a change that set the row, or before all changes
abbrev pub begin_behind : Option ℕ → ℕ
begin_behind None = 0
begin_behind (Some place) = suc place

-- since when a record is as it is once so many changes are made
abbrev pub begin_of : ℕ → List HeldChange → List ℕ → ℕ → ℕ
begin_of table held bookmark ends = begin_behind (last_place (is_standing_rewrite table bookmark) (take ends held))

abbrev pub span_of : List ℕ → ℕ → ℕ → List ℕ → Span
span_of bookmark begins ends key = record { key = key; bookmark = bookmark; begins = begins; ends = ends }

-- the keys of a record that is as it is up to when so many changes are made
abbrev pub spans_of_record : IndexRule → TableContents → List HeldChange → List ℕ → ℕ → RecordFields → List Span
spans_of_record rule t held bookmark ends fields = map (span_of bookmark (begin_of t.table.id held bookmark ends) ends) (key_list rule (schema_of t.table) fields)

abbrev pub spans_of_row : IndexRule → TableContents → List HeldChange → List ℕ → ℕ → Option (List ℕ) → List Span
spans_of_row rule t held bookmark ends None = []
spans_of_row rule t held bookmark ends (Some bytes) = spans_of_record rule t held bookmark ends (record_of (long_values t) bytes)

-- those of the row before a held change of the table
abbrev pub spans_before : IndexRule → TableContents → List HeldChange → ℕ → HeldChange → List Span
spans_before rule t held place h = if h.table == t.table.id then spans_of_row rule t held h.bookmark place h.before else []

-- those of the rows before some held changes, the first of which stands at a place
abbrev pub spans_from : IndexRule → TableContents → List HeldChange → ℕ → List HeldChange → List Span
spans_from rule t held place [] = []
spans_from rule t held place (h ∷ rest) = spans_before rule t held place h ++ spans_from rule t held (suc place) rest

-- those of the newest row of a node
abbrev pub spans_of_node : IndexRule → TableContents → List HeldChange → Node → List Span
spans_of_node rule t held n = spans_of_row rule t held n.key (length held) (row_in_node n.data)

-- those of all variants of a table's records
abbrev pub spans_of : IndexRule → TableContents → List HeldChange → List Span
spans_of rule t held = spans_from rule t held 0 held ++ flat_map (spans_of_node rule t held) t.nodes

-- ---- spans of one key

-- whether two held changes are apart, the earlier first
abbrev pub apart_at : List LiveState → List HeldChange → ℕ → ℕ → Bool
apart_at sessions held earlier later = elim (slice_get held earlier) [
  | Some x ↦ elim (slice_get held later) [ Some h ↦ are_apart sessions x h | None ↦ false ]
  | None ↦ false
]

-- One ends before the other begins: at the change that the other begins behind, or at an earlier one that is apart from it.
abbrev pub follows : List LiveState → List HeldChange → Span → Span → Bool
follows sessions held s next = nat_lt s.ends next.begins && ((suc s.ends == next.begins) || apart_at sessions held s.ends (next.begins - 1))

-- the first key of which a span does not follow the one before it
abbrev pub first_shared : List LiveState → List HeldChange → List Span → Option (List ℕ)
first_shared sessions held (s ∷ next ∷ spans) = if bytes_eq s.key next.key && not (follows sessions held s next) then Some next.key else first_shared sessions held (next ∷ spans)
first_shared sessions held _ = None
