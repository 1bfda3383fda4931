-- A cursor of the code as the definitions see it.
use Rattle.std.specs.Prelude.{option_map}
use Rattle.cursor_nav.specs.declared.cursor.Cursor.TheInside.{Inside}
use Rattle.cursor_nav.specs.declared.parts.KeyInMaking.{KeyInMaking}
use Rattle.cursor_nav.specs.declared.parts.Limit.{Limit}
use Rattle.cursor_nav.specs.Places.{KeyRange}
use Rattle.cursor_nav.specs.Navigation.{MadeKey, CursorState}

abbrev pub made_key : KeyInMaking → MadeKey
made_key key = record { segments = key.segments; bytes = key.bytes }

abbrev pub key_range : Limit → KeyRange
key_range limit = record { upper = limit.upper; inclusive = limit.inclusive; limit = limit.key }

abbrev pub cursor_state : Inside → CursorState
cursor_state cursor = record {
  table = cursor.table.0;
  index = cursor.index.0;
  place = cursor.place;
  key = option_map made_key cursor.key;
  range = option_map key_range cursor.range;
}
