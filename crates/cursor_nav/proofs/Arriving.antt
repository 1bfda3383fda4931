-- A move that came to the greatest entry before a place, or before all.
use Rattle.std.proofs.Common.{◌≡◌, Bool, true, false, not, cond, ◌&&◌, List, Option, Some, None, refl}
use Rattle.std.specs.Prelude.{is_some}
use Rattle.jet_base.specs.declared.replies.Jet.TheVariants as jet
use Rattle.index_derive.specs.declared.entries.Place.TheVariants.{Before}
use Rattle.cursor_nav.specs.Places.{Pair, KeyRange, entry_before, is_within, on_or, place_at_limit, place_key}
use Rattle.cursor_nav.specs.Navigation.{CursorState, found_or, limited, moved_previous}
use Rattle.cursor_nav.specs.Steps.{arrived, arrived_within}

pub arrived_previous : (cursor : CursorState) (entries : List Pair) (range : Option KeyRange)
    → arrived_within (record cursor { place = on_or (entry_before cursor.place entries) Before }) (is_some (entry_before cursor.place entries)) false range ≡ moved_previous cursor entries range
arrived_previous cursor entries None = without (entry_before cursor.place entries)
  where
    without : (found : Option Pair) → arrived (record cursor { place = on_or found Before }) (is_some found) (on_or found Before) ≡ found_or cursor jet.Success found jet.NoCurrentRecord Before
    without None = refl
    without (Some entry) = refl
arrived_previous cursor entries (Some range) = by range.upper (entry_before cursor.place entries)
  where
    -- the move where the range does not concern it, and where it does
    by : (upper : Bool) (found : Option Pair)
        → cond (not upper)
        (cond (is_some found && is_within range (place_key (on_or found Before))) (record { jet = jet.Success; cursor = record cursor { place = on_or found Before } }) (record { jet = jet.NoCurrentRecord; cursor = record cursor { place = place_at_limit range; range = None } }))
        (arrived (record cursor { place = on_or found Before }) (is_some found) (on_or found Before))
        ≡ cond upper (found_or cursor jet.Success found jet.NoCurrentRecord Before) (limited cursor range found)
    by true None = refl
    by true (Some entry) = refl
    by false None = refl
    by false (Some entry) = refl
