-- Keys that are made for a seek or a range, one segment a call.
use Rattle.std.specs.Prelude.{ℕ, ◌+◌, ◌==◌, Bool, true, false, not, ◌&&◌, nat_le, List, [], ◌++◌, find, slice_get, Option, Some, None, option_map, is_none, unwrap_or, if◌then◌else◌}
use Rattle.jet_base.specs.declared.replies.Jet.TheVariants as jet
use Rattle.jet_base.specs.declared.words.Given.{Given}
use Rattle.jet_base.specs.declared.words.ColType.{ColType}
use Rattle.jet_base.specs.declared.words.ColType.TheVariants as kind
use Rattle.jet_base.specs.Given.{given_fits, given_front, given_is_null}
use Rattle.column_set.specs.declared.columns.Column.{Column}
use Rattle.column_set.specs.RecordValues.{column_of_id}
use Rattle.key_normal.specs.KeyBytes.{segment_bytes, cut_key}
use Rattle.index_derive.specs.declared.rules.IndexRule.{IndexRule}
use Rattle.index_derive.specs.declared.rules.Schema.{Schema}
use Rattle.index_derive.specs.declared.rules.Segment.{Segment}
use Rattle.cursor_nav.specs.Navigation.{MadeKey, CursorState, Navigated}

-- the segments so far, none where the key is begun anew or none is made
abbrev pub begun_key : Bool → Option MadeKey → MadeKey
begun_key true key = record { segments = 0; bytes = [] }
begun_key false key = unwrap_or key (record { segments = 0; bytes = [] })

abbrev pub segment_kind : List Column → Segment → ColType
segment_kind columns segment = unwrap_or (option_map (λ c. c.kind) (column_of_id columns segment.column.0)) kind.Binary

-- the first 255 bytes of a value, or NULL
abbrev pub key_value : ColType → Given → Option (List ℕ)
key_value type value = if given_is_null value then None else Some (given_front 255 type value)

abbrev pub with_segment : IndexRule → ColType → Segment → Given → MadeKey → MadeKey
with_segment rule type segment value key = record {
  segments = key.segments + 1;
  bytes = cut_key rule.key_most (key.bytes ++ segment_bytes type (key_value type value) segment.descending rule.flags.sortnullshigh);
}

abbrev pub segment_made : CursorState → List Column → IndexRule → MadeKey → Given → Option Segment → Navigated
segment_made cursor columns rule key value None = record { jet = jet.KeyIsMade; cursor = cursor }
segment_made cursor columns rule key value (Some segment) =
    let type = segment_kind columns segment in
    if given_fits type value then record { jet = jet.Success; cursor = record cursor { key = Some (with_segment rule type segment value key) } }
    else record { jet = jet.InvalidBufferSize; cursor = cursor }

abbrev pub key_made_in : CursorState → List Column → Bool → Given → Option IndexRule → Navigated
key_made_in cursor columns fresh value None = record { jet = jet.NoCurrentIndex; cursor = cursor }
key_made_in cursor columns fresh value (Some rule) =
    if not fresh && is_none cursor.key then record { jet = jet.KeyNotMade; cursor = cursor }
    else let key = begun_key fresh cursor.key in segment_made cursor columns rule key value (slice_get rule.segments key.segments)

-- the rule of the cursor's index; the order of hidden keys has none
abbrev pub rule_of_cursor : CursorState → Schema → Option IndexRule
rule_of_cursor cursor schema = find (λ rule. rule.id.0 == cursor.index) schema.indexes

-- The next segment of a key in the cursor's index. After a refusal the cursor is as it was.
unfoldable pub key_made : CursorState → Schema → Bool → Given → Navigated
key_made cursor schema fresh value = key_made_in cursor schema.columns fresh value (rule_of_cursor cursor schema)

-- whether the keys of the rule have 255 bytes at most
abbrev pub has_short_keys : Option IndexRule → Bool
has_short_keys None = true
has_short_keys (Some rule) = nat_le rule.key_most 255
