-- Equivalent states without their undone changes.
use Rattle.std.proofs.Common.{◌≡◌, Bool, true, false, not, cond, None, List, [], ◌∷◌, refl, sym, ap, ◌∙◌}
use Rattle.std.specs.Prelude.{filter, map, option_map}
use Rattle.common_lemmas.proofs.Booleans.{impossible}
use Rattle.column_set.specs.declared.columns.Column.{Column}
use Rattle.database_state.specs.Changes.{is_sum}
use Rattle.column_set.specs.ChangedRecords.{changed_table}
use Rattle.database_state.specs.Equivalence.{AreEquivalent, EssentialChange, Essence, columns_of, essence, essential_change, essential_item, without_record, without_sums}
use Rattle.database_state.specs.State.{DatabaseState, LiveSession, PastChange, Status, is_undone, uncommitted, committed, undone}
use Rattle.database_state.specs.Table.{Table, table_with_id}
use Rattle.database_state.specs.VersionStore.{from_oldest_needed, is_needed, is_needed_status}
use Rattle.laws_images.specs.Settled.{settled}
use Rattle.laws_versions.specs.Readers.{is_standing}

needed_stands : (sessions : List LiveSession) (status : Status) → is_needed_status sessions status ≡ true → not (is_undone status) ≡ true
needed_stands sessions uncommitted e = refl
needed_stands sessions (committed number) e = refl
needed_stands sessions undone e = impossible e

-- what is needed of the changes that stand
needed_standing : (sessions : List LiveSession) (past : List PastChange) → from_oldest_needed sessions (filter is_standing past) ≡ filter is_standing (from_oldest_needed sessions past)
needed_standing sessions [] = refl
needed_standing sessions (item ∷ past) = at (is_standing item) (is_needed sessions item) refl refl (needed_standing sessions past)
  where
    at : (s n : Bool) → is_standing item ≡ s → is_needed sessions item ≡ n → from_oldest_needed sessions (filter is_standing past) ≡ filter is_standing (from_oldest_needed sessions past)
        → from_oldest_needed sessions (cond s (item ∷ filter is_standing past) (filter is_standing past)) ≡ filter is_standing (cond n (item ∷ past) (from_oldest_needed sessions past))
    at true true e f rest =
        ap (λ b. cond b (item ∷ filter is_standing past) (from_oldest_needed sessions (filter is_standing past))) f
        ∙ sym (ap (λ b. cond b (item ∷ filter is_standing past) (filter is_standing past)) e)
    at true false e f rest = ap (λ b. cond b (item ∷ filter is_standing past) (from_oldest_needed sessions (filter is_standing past))) f ∙ rest
    at false true e f rest = impossible (sym e ∙ needed_stands sessions item.status f)
    at false false e f rest = rest

abbrev essential_standing : EssentialChange → Bool
essential_standing change = is_standing change.item

item_standing : (columns : List Column) (item : PastChange) → is_standing (essential_item columns item) ≡ is_standing item
item_standing columns item = at (is_undone item.status) (is_sum item.change)
  where
    at : (u s : Bool) → is_standing (cond u (record item { change = without_record item.change; before = None; after = None })
        (cond s (record item { before = option_map (without_sums columns) item.before; after = option_map (without_sums columns) item.after }) item)) ≡ is_standing item
    at true s = refl
    at false true = refl
    at false false = refl

-- the essence of what stands
standing_essence : (tables : List Table) (past : List PastChange) → map (essential_change tables) (filter is_standing past) ≡ filter essential_standing (map (essential_change tables) past)
standing_essence tables [] = refl
standing_essence tables (item ∷ past) = at (is_standing item) refl (standing_essence tables past)
  where
    same : is_standing (essential_item (columns_of (table_with_id tables (changed_table item.change))) item) ≡ is_standing item
    same = item_standing (columns_of (table_with_id tables (changed_table item.change))) item

    at : (b : Bool) → is_standing item ≡ b → map (essential_change tables) (filter is_standing past) ≡ filter essential_standing (map (essential_change tables) past)
        → map (essential_change tables) (cond b (item ∷ filter is_standing past) (filter is_standing past))
        ≡ cond (is_standing (essential_item (columns_of (table_with_id tables (changed_table item.change))) item)) (essential_change tables item ∷ filter essential_standing (map (essential_change tables) past)) (filter essential_standing (map (essential_change tables) past))
    at true e rest = ap (λ l. essential_change tables item ∷ l) rest ∙ sym (ap (λ b. cond b (essential_change tables item ∷ filter essential_standing (map (essential_change tables) past)) (filter essential_standing (map (essential_change tables) past))) (same ∙ e))
    at false e rest = rest ∙ sym (ap (λ b. cond b (essential_change tables item ∷ filter essential_standing (map (essential_change tables) past)) (filter essential_standing (map (essential_change tables) past))) (same ∙ e))

abbrev settled_essence : Essence → Essence
settled_essence e = record e { past = filter essential_standing e.past }

essence_alike : (state : DatabaseState) → essence (settled state) ≡ settled_essence (essence state)
essence_alike state = λ i. record { number = state.number; greatest_table = state.greatest_table; tables = state.tables; sessions = state.sessions; past = pasts i }
  where
    pasts : map (essential_change state.tables) (from_oldest_needed state.sessions (filter is_standing state.past)) ≡ filter essential_standing (map (essential_change state.tables) (from_oldest_needed state.sessions state.past))
    pasts = ap (map (essential_change state.tables)) (needed_standing state.sessions state.past) ∙ standing_essence state.tables (from_oldest_needed state.sessions state.past)

pub equivalent_alike : (one other : DatabaseState) → AreEquivalent one other → AreEquivalent (settled one) (settled other)
equivalent_alike one other e = essence_alike one ∙ ap settled_essence e ∙ sym (essence_alike other)
