-- The entry that each way to seek takes, by the gap at the key.
use Rattle.std.proofs.Common.{◌≡◌, ℕ, Bool, true, false, not, cond, List, Option, Some, None, option_map, refl, ◌∙◌}
use Rattle.std.specs.Prelude.{bytes_eq, is_some}
use Rattle.jet_base.specs.declared.replies.Jet.{Jet}
use Rattle.jet_base.specs.declared.replies.Jet.TheVariants as jet
use Rattle.index_derive.specs.declared.entries.Place.{Place}
use Rattle.index_derive.specs.declared.entries.Place.TheVariants.{After, On, Gap}
use Rattle.cursor_nav.specs.declared.seek_by.SeekBy.{SeekBy}
use Rattle.cursor_nav.specs.declared.cursor.Cursor.TheInside.{Inside}
use Rattle.cursor_nav.specs.declared.parts.KeyInMaking.{KeyInMaking}
use Rattle.cursor_nav.specs.Places.{Pair, on_or}
use Rattle.cursor_nav.specs.Navigation.{CursorState, Navigated, found_or, if_equal, sought, sought_by, sought_with}
use Rattle.cursor_nav.specs.Steps.{landed, landed_near, only_equal, stands_at}
use Rattle.cursor_nav.specs.CursorView.{made_key, cursor_state}

-- a seek that came to the entry, or to a place where none is
pub landed_is : (self : CursorState) (key : List ℕ) (above : Bool) (place : Place) (found : Option Pair)
    → landed (record self { place = on_or found place }) (is_some found) key above ≡ found_or self jet.Success found jet.RecordNotFound (Gap key above)
landed_is self key above place None = refl
landed_is self key above place (Some entry) = refl

pub landed_near_is : (self : CursorState) (key : List ℕ) (above : Bool) (end : Place) (found : Option Pair) → stands_at key end ≡ false
    → landed_near (record self { place = on_or found end }) (is_some found) key above ≡ found_or self (if_equal key found) found jet.RecordNotFound (Gap key above)
landed_near_is self key above end None off = refl
landed_near_is self key above end (Some entry) off = by (bytes_eq entry.0 key)
  where
    answered : Jet → Navigated
    answered reply = record { jet = reply; cursor = record self { place = On entry.0 entry.1 } }

    by : (b : Bool) → cond (not b) (answered jet.SeekNotEqual) (answered jet.Success) ≡ answered (cond b jet.Success jet.SeekNotEqual)
    by true = refl
    by false = refl

-- only an entry with the key is taken
pub landed_equal : (self : CursorState) (key : List ℕ) (found : Option Pair)
    → landed (record self { place = on_or found After }) (stands_at key (on_or found After)) key false ≡ found_or self jet.Success (only_equal key found) jet.RecordNotFound (Gap key false)
landed_equal self key None = refl
landed_equal self key (Some entry) = by (bytes_eq entry.0 key)
  where
    on : CursorState
    on = record self { place = On entry.0 entry.1 }

    by : (b : Bool) → landed on b key false ≡ found_or self jet.Success (cond b (Some entry) None) jet.RecordNotFound (Gap key false)
    by true = refl
    by false = refl

-- the made key is taken, and the range ends
pub sought_taken : (inside : Inside) (entries : List Pair) (way : SeekBy) (made : KeyInMaking) (left : Option KeyInMaking) → left ≡ None → Some made ≡ inside.key
    → sought_by (cursor_state (record { table = inside.table; index = inside.index; place = inside.place; key = left; range = None })) entries made.bytes way ≡ sought (cursor_state inside) entries way
unfolding sought
sought_taken inside entries way made left e was =
    (λ i. sought_by (cursor_state (record { table = inside.table; index = inside.index; place = inside.place; key = e i; range = None })) entries made.bytes way)
    ∙ (λ i. sought_with (cursor_state inside) entries way (option_map made_key (was i)))
