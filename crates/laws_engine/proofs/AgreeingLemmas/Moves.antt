-- Calls that move a cursor, or look at one.
use Rattle.std.proofs.Common.{◌≡◌, ℕ, Bool, true, false, not, ◌&&◌, ◌||◌, cond, List, [], ◌∷◌, Option, Some, None, refl, sym, ap, subst, ◌∙◌, bytes_eq}
use Rattle.std.specs.Prelude.{◌==◌, find, is_none, is_some, nat_lt, length, option_map, slice_get, unwrap_or, IsTrue}
use Rattle.std.proofs.lemmas.Bool.{or_right}
use Rattle.common_lemmas.proofs.Numbers.{self_equal}
use Rattle.jet_base.specs.declared.ids.CursorId.{CursorId}
use Rattle.jet_base.specs.declared.replies.Jet.{Jet}
use Rattle.jet_base.specs.declared.replies.Jet.TheVariants as jet
use Rattle.jet_base.specs.declared.words.Given.{Given}
use Rattle.jet_base.specs.declared.words.Prepare.TheVariants as prepare
use Rattle.jet_base.specs.declared.words.Way.{Way}
use Rattle.jet_base.specs.declared.words.Way.TheVariants as way
use Rattle.jet_base.specs.Given.{given_fits}
use Rattle.index_derive.specs.declared.entries.Place.{Place}
use Rattle.index_derive.specs.declared.entries.Place.TheVariants.{Before, After, On, Gap}
use Rattle.index_derive.specs.declared.rules.IndexRule.{IndexRule}
use Rattle.index_derive.specs.declared.rules.Schema.{Schema}
use Rattle.index_derive.specs.declared.rules.Segment.{Segment}
use Rattle.cursor_nav.specs.declared.seek_by.SeekBy.{SeekBy}
use Rattle.cursor_nav.specs.declared.seek_by.SeekBy.TheVariants as by
use Rattle.cursor_nav.specs.Places.{KeyRange, Pair, entry_after, entry_before, is_within, least_entry_of, reaches_limit}
use Rattle.cursor_nav.specs.MakingKeys.{begun_key, segment_kind}
use Rattle.cursor_nav.specs.Navigation.{CursorState, MadeKey, Navigated, found_or, index_set, limited, moved, moved_next, moved_previous, ranged, ranged_from, ranged_with, sought, sought_by, sought_with, without_range}
use Rattle.database_state.specs.Table.{primary_order, row_at}
use Rattle.index_derive.specs.Schemas.{primary_rule, rule_with_id}
use Rattle.session_local.specs.declared.request.Request.TheVariants as call
use Rattle.session_local.specs.Calls.{answer}
use Rattle.session_local.specs.CursorCalls.{current_entries, gone_to, goto_bookmark, index_chosen, index_chosen_by, key_made_in, make_key, move_cursor, remove_index_range, seek_key, segment_made, set_current_index, set_index_range}
use Rattle.session_local.specs.Local.{OpenCursor, cursor_labelled, with_cursor}
use Rattle.session_local.specs.Outcome.{CallInputs, entries_seen, rows_seen}
use Rattle.session_local.specs.RecordCalls.{cancel_update}
use Rattle.laws_engine.specs.InStep.{IsInStep, StaysInStep}
use Rattle.laws_engine.proofs.AgreeingLemmas.Answering.{at_found, past, when_begun}
use Rattle.laws_engine.proofs.AgreeingLemmas.OpenCursors.{moved_in_step, own_index, unprepared_in_step}

-- ---- a cursor keeps its table and its index

abbrev pub KeepsIndex : CursorState → CursorState → Type 0
KeepsIndex one other = (other.table ≡ one.table) × (other.index ≡ one.index)

either : (cursor : CursorState) (b : Bool) (x y : Navigated) → KeepsIndex cursor x.cursor → KeepsIndex cursor y.cursor → KeepsIndex cursor (cond b x y).cursor
either cursor true x y h k = h
either cursor false x y h k = k

found_keeps : (cursor : CursorState) (found : Jet) (o : Option Pair) (missing : Jet) (place : Place) → KeepsIndex cursor (found_or cursor found o missing place).cursor
found_keeps cursor found None missing place = (refl, refl)
found_keeps cursor found (Some entry) missing place = (refl, refl)

limited_keeps : (cursor : CursorState) (range : KeyRange) (o : Option Pair) → KeepsIndex cursor (limited cursor range o).cursor
limited_keeps cursor range None = (refl, refl)
limited_keeps cursor range (Some entry) = either cursor (is_within range entry.0) _ _ (refl, refl) (refl, refl)

next_keeps : (cursor : CursorState) (entries : List Pair) (o : Option KeyRange) → KeepsIndex cursor (moved_next cursor entries o).cursor
next_keeps cursor entries None = found_keeps cursor jet.Success (entry_after cursor.place entries) jet.NoCurrentRecord After
next_keeps cursor entries (Some range) =
    either cursor range.upper _ _ (limited_keeps cursor range (entry_after cursor.place entries)) (found_keeps cursor jet.Success (entry_after cursor.place entries) jet.NoCurrentRecord After)

previous_keeps : (cursor : CursorState) (entries : List Pair) (o : Option KeyRange) → KeepsIndex cursor (moved_previous cursor entries o).cursor
previous_keeps cursor entries None = found_keeps cursor jet.Success (entry_before cursor.place entries) jet.NoCurrentRecord Before
previous_keeps cursor entries (Some range) =
    either cursor range.upper _ _ (found_keeps cursor jet.Success (entry_before cursor.place entries) jet.NoCurrentRecord Before) (limited_keeps cursor range (entry_before cursor.place entries))

moved_keeps : (cursor : CursorState) (entries : List Pair) (to : Way) → KeepsIndex cursor (moved cursor entries to).cursor
unfolding moved
moved_keeps cursor entries way.First = found_keeps (without_range cursor) jet.Success (entry_after Before entries) jet.NoCurrentRecord Before
moved_keeps cursor entries way.Last = found_keeps (without_range cursor) jet.Success (entry_before After entries) jet.NoCurrentRecord After
moved_keeps cursor entries way.Next = next_keeps cursor entries cursor.range
moved_keeps cursor entries way.Previous = previous_keeps cursor entries cursor.range

sought_by_keeps : (cursor : CursorState) (entries : List Pair) (key : List ℕ) (seek : SeekBy) → KeepsIndex cursor (sought_by cursor entries key seek).cursor
sought_by_keeps cursor entries key by.Eq = found_keeps cursor _ _ _ _
sought_by_keeps cursor entries key by.Ge = found_keeps cursor _ _ _ _
sought_by_keeps cursor entries key by.Gt = found_keeps cursor _ _ _ _
sought_by_keeps cursor entries key by.Le = found_keeps cursor _ _ _ _
sought_by_keeps cursor entries key by.Lt = found_keeps cursor _ _ _ _

sought_keeps : (cursor : CursorState) (entries : List Pair) (seek : SeekBy) → KeepsIndex cursor (sought cursor entries seek).cursor
unfolding sought
sought_keeps cursor entries seek = by_key cursor.key
  where
    by_key : (o : Option MadeKey) → KeepsIndex cursor (sought_with cursor entries seek o).cursor
    by_key None = (refl, refl)
    by_key (Some key) = sought_by_keeps (record cursor { key = None; range = None }) entries key.bytes seek

ranged_from_keeps : (cursor : CursorState) (entries : List Pair) (range : KeyRange) (place : Place) → KeepsIndex cursor (ranged_from cursor entries range place).cursor
ranged_from_keeps cursor entries range Before = (refl, refl)
ranged_from_keeps cursor entries range After = (refl, refl)
ranged_from_keeps cursor entries range (On key bookmark) = either cursor (reaches_limit range (key, bookmark) entries) _ _ (refl, refl) (refl, refl)
ranged_from_keeps cursor entries range (Gap key above) = (refl, refl)

ranged_keeps : (cursor : CursorState) (entries : List Pair) (upper inclusive : Bool) → KeepsIndex cursor (ranged cursor entries upper inclusive).cursor
unfolding ranged
ranged_keeps cursor entries upper inclusive = by_key cursor.key
  where
    by_key : (o : Option MadeKey) → KeepsIndex cursor (ranged_with cursor entries upper inclusive o).cursor
    by_key None = (refl, refl)
    by_key (Some key) = ranged_from_keeps cursor entries (record { upper = upper; inclusive = inclusive; limit = key.bytes }) cursor.place

index_set_keeps : (cursor : CursorState) (entries : List Pair) (index : ℕ) → ((index_set cursor entries index).table ≡ cursor.table) × ((index_set cursor entries index).index ≡ index)
unfolding index_set
index_set_keeps cursor entries index = found_keeps (record cursor { index = index; key = None; range = None }) jet.Success (entry_after Before entries) jet.Success Before

-- ---- a cursor that keeps its index

same_index : (asked : CallInputs) → IsInStep asked.state asked.session asked.local → (label : ℕ) (c : OpenCursor) (moved : CursorState) → cursor_labelled asked.local label ≡ Some c → KeepsIndex c.cursor moved
    → IsInStep asked.state asked.session (with_cursor asked.local (record c { cursor = moved }))
same_index asked step label c moved e keeps =
    moved_in_step asked.state asked.session asked.local label c moved step e keeps.0
    (subst (λ (k : ℕ). IsTrue ((k == 0) || is_some (rule_with_id c.schema k))) (sym keeps.1) (own_index asked.state asked.session asked.local label c step.agrees e))

pub moves : (asked : CallInputs) (cursor : CursorId) (to : Way) → IsInStep asked.state asked.session asked.local → StaysInStep asked (answer asked (call.Move cursor to))
moves asked cursor to step = when_begun asked (call.Move cursor to)
    (λ begun. at_found asked step cursor.0 (λ c. move_cursor asked c to) (λ c e. same_index asked step cursor.0 c (moved c.cursor (current_entries asked c) to).cursor e (moved_keeps c.cursor (current_entries asked c) to)))
    (λ e. step)

pub seeks : (asked : CallInputs) (cursor : CursorId) (seek : SeekBy) → IsInStep asked.state asked.session asked.local → StaysInStep asked (answer asked (call.Seek cursor seek))
seeks asked cursor seek step = when_begun asked (call.Seek cursor seek)
    (λ begun. at_found asked step cursor.0 (λ c. seek_key asked c seek) (λ c e. same_index asked step cursor.0 c (sought c.cursor (current_entries asked c) seek).cursor e (sought_keeps c.cursor (current_entries asked c) seek)))
    (λ e. step)

pub ranges : (asked : CallInputs) (cursor : CursorId) (upper inclusive : Bool) → IsInStep asked.state asked.session asked.local → StaysInStep asked (answer asked (call.SetIndexRange cursor upper inclusive))
ranges asked cursor upper inclusive step = when_begun asked (call.SetIndexRange cursor upper inclusive)
    (λ begun. at_found asked step cursor.0 (λ c. set_index_range asked c upper inclusive)
    (λ c e. same_index asked step cursor.0 c (ranged c.cursor (current_entries asked c) upper inclusive).cursor e (ranged_keeps c.cursor (current_entries asked c) upper inclusive)))
    (λ e. step)

pub unranges : (asked : CallInputs) (cursor : CursorId) → IsInStep asked.state asked.session asked.local → StaysInStep asked (answer asked (call.RemoveIndexRange cursor))
unranges asked cursor step = when_begun asked (call.RemoveIndexRange cursor)
    (λ begun. at_found asked step cursor.0 (remove_index_range asked) (λ c e. same_index asked step cursor.0 c (without_range c.cursor) e (refl, refl)))
    (λ e. step)

-- ---- keys

segment_in_step : (asked : CallInputs) → IsInStep asked.state asked.session asked.local → (label : ℕ) (c : OpenCursor) → cursor_labelled asked.local label ≡ Some c → (rule : IndexRule) (key : MadeKey) (value : Given) (o : Option Segment) → StaysInStep asked (segment_made asked c rule key value o)
segment_in_step asked step label c e rule key value None = step
segment_in_step asked step label c e rule key value (Some segment) =
    past asked step ((not (given_fits (segment_kind c.schema.columns segment) value), jet.InvalidBufferSize) ∷ []) _ (λ r. same_index asked step label c _ e (refl, refl))

key_in_step : (asked : CallInputs) → IsInStep asked.state asked.session asked.local → (label : ℕ) (c : OpenCursor) → cursor_labelled asked.local label ≡ Some c → (fresh : Bool) (value : Given) (o : Option IndexRule) → StaysInStep asked (key_made_in asked c fresh value o)
key_in_step asked step label c e fresh value None = step
key_in_step asked step label c e fresh value (Some rule) =
    past asked step ((not fresh && is_none c.cursor.key, jet.KeyNotMade) ∷ []) _ (λ r. segment_in_step asked step label c e rule (begun_key fresh c.cursor.key) value (slice_get rule.segments (begun_key fresh c.cursor.key).segments))

pub makes_keys : (asked : CallInputs) (cursor : CursorId) (fresh : Bool) (value : Given) → IsInStep asked.state asked.session asked.local → StaysInStep asked (answer asked (call.MakeKey cursor fresh value))
makes_keys asked cursor fresh value step = when_begun asked (call.MakeKey cursor fresh value)
    (λ begun. at_found asked step cursor.0 (λ c. make_key asked c fresh value) (λ c e. key_in_step asked step cursor.0 c e fresh value (rule_with_id c.schema c.cursor.index)))
    (λ e. step)

-- ---- bookmarks

gone_in_step : (asked : CallInputs) → IsInStep asked.state asked.session asked.local → (label : ℕ) (c : OpenCursor) → cursor_labelled asked.local label ≡ Some c → (o : Option Pair) → StaysInStep asked (gone_to asked c o)
gone_in_step asked step label c e None = step
gone_in_step asked step label c e (Some entry) = same_index asked step label c _ e (refl, refl)

pub goes_to : (asked : CallInputs) (cursor : CursorId) (bookmark : List ℕ) → IsInStep asked.state asked.session asked.local → StaysInStep asked (answer asked (call.GotoBookmark cursor bookmark))
goes_to asked cursor bookmark step = when_begun asked (call.GotoBookmark cursor bookmark)
    (λ begun. at_found asked step cursor.0 (λ c. goto_bookmark asked c bookmark) (λ c e.
    past asked step (((length bookmark == 0) || nat_lt 255 (length bookmark), jet.InvalidBookmark) ∷ (is_none (row_at (rows_seen asked c) bookmark), jet.RecordDeleted) ∷ []) _
    (λ r. gone_in_step asked step cursor.0 c e (least_entry_of bookmark (current_entries asked c)))))
    (λ e. step)

-- ---- the current index

-- where a rule is found, one with its number is
found_numbered : (rules : List IndexRule) (test : IndexRule → Bool) (rule : IndexRule) → find test rules ≡ Some rule → is_some (find (λ r. r.id.0 == rule.id.0) rules) ≡ true
found_numbered [] test rule e = absurd (none e)
  where
    none : None ≡ Some rule → ⊥
    none e = cc
found_numbered (r ∷ rules) test rule e = elim (test r) as (λ b. cond b (Some r) (find test rules) ≡ Some rule → is_some (cond (r.id.0 == rule.id.0) (Some r) (find (λ r. r.id.0 == rule.id.0) rules)) ≡ true) [
  | true ↦ λ f. ap (λ b. is_some (cond b (Some r) (find (λ r. r.id.0 == rule.id.0) rules))) (ap (λ (k : IndexRule). r.id.0 == k.id.0) (sym (same r rule f)) ∙ self_equal r.id.0)
  | false ↦ λ f. later (r.id.0 == rule.id.0) (found_numbered rules test rule f)
] e
  where
    same : (a b : IndexRule) → Some a ≡ Some b → a ≡ b
    same a b e = cc

    later : (b : Bool) → is_some (find (λ r. r.id.0 == rule.id.0) rules) ≡ true → is_some (cond b (Some r) (find (λ r. r.id.0 == rule.id.0) rules)) ≡ true
    later true h = refl
    later false h = h

-- the primary order is one of them, or 0
pub primary_order_there : (schema : Schema) → IsTrue ((primary_order schema == 0) || is_some (rule_with_id schema (primary_order schema)))
primary_order_there schema = by_rule (primary_rule schema) refl
  where
    by_rule : (o : Option IndexRule) → primary_rule schema ≡ o → IsTrue ((unwrap_or (option_map (λ r. r.id.0) o) 0 == 0) || is_some (rule_with_id schema (unwrap_or (option_map (λ r. r.id.0) o) 0)))
    by_rule None e = refl
    by_rule (Some rule) e = or_right (rule.id.0 == 0) (is_some (rule_with_id schema rule.id.0)) (found_numbered schema.indexes (λ r. r.flags.primary) rule e)

chosen_in_step : (asked : CallInputs) → IsInStep asked.state asked.session asked.local → (label : ℕ) (c : OpenCursor) → cursor_labelled asked.local label ≡ Some c → (index : ℕ) → IsTrue ((index == 0) || is_some (rule_with_id c.schema index)) → StaysInStep asked (index_chosen asked c index)
chosen_in_step asked step label c e index there =
    let keeps = index_set_keeps c.cursor (entries_seen asked c index) index in
    moved_in_step asked.state asked.session asked.local label c (index_set c.cursor (entries_seen asked c index) index) step e keeps.0
    (subst (λ (k : ℕ). IsTrue ((k == 0) || is_some (rule_with_id c.schema k))) (sym keeps.1) there)

named_in_step : (asked : CallInputs) → IsInStep asked.state asked.session asked.local → (label : ℕ) (c : OpenCursor) → cursor_labelled asked.local label ≡ Some c → (test : IndexRule → Bool) (o : Option IndexRule) → find test c.schema.indexes ≡ o → StaysInStep asked (index_chosen_by asked c o)
named_in_step asked step label c e test None f = step
named_in_step asked step label c e test (Some rule) f = chosen_in_step asked step label c e rule.id.0 (or_right (rule.id.0 == 0) (is_some (rule_with_id c.schema rule.id.0)) (found_numbered c.schema.indexes test rule f))

chosen : (asked : CallInputs) → IsInStep asked.state asked.session asked.local → (label : ℕ) (c : OpenCursor) → cursor_labelled asked.local label ≡ Some c → (index : Option (List ℕ)) → StaysInStep asked (set_current_index asked c index)
chosen asked step label c e None = chosen_in_step asked step label c e (primary_order c.schema) (primary_order_there c.schema)
chosen asked step label c e (Some name) = named_in_step asked step label c e (λ r. bytes_eq r.name name) (find (λ r. bytes_eq r.name name) c.schema.indexes) refl

pub chooses_index : (asked : CallInputs) (cursor : CursorId) (index : Option (List ℕ)) → IsInStep asked.state asked.session asked.local → StaysInStep asked (answer asked (call.SetCurrentIndex cursor index))
chooses_index asked cursor index step = when_begun asked (call.SetCurrentIndex cursor index)
    (λ begun. at_found asked step cursor.0 (λ c. set_current_index asked c index) (λ c e. chosen asked step cursor.0 c e index))
    (λ e. step)

-- ---- an update that is cancelled

pub cancels : (asked : CallInputs) (cursor : CursorId) → IsInStep asked.state asked.session asked.local → StaysInStep asked (answer asked (call.PrepareUpdate cursor prepare.Cancel))
cancels asked cursor step = when_begun asked (call.PrepareUpdate cursor prepare.Cancel)
    (λ begun. at_found asked step cursor.0 (cancel_update asked) (λ c e.
    past asked step ((is_none c.prepared, jet.UpdateNotPrepared) ∷ []) _ (λ r. unprepared_in_step asked.state asked.session asked.local cursor.0 c step e)))
    (λ e. step)
