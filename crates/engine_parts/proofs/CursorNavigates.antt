-- A call that moves a cursor over what the session sees comes to the answer.
use Rattle.std.proofs.Common.{◌≡◌, ℕ, ◌==◌, ◌||◌, Bool, true, false, cond, not, List, [], ◌∷◌, find, map, length, nat_lt, Option, Some, None, refl, sym, ap, ◌∙◌, is_some, is_none, if◌then◌else◌}
use Rattle.std.specs.Prelude.{bytes_eq}
use Rattle.std.specs.List.{list_any}
use Rattle.std.proofs.lemmas.Bool.{and_parts, eqb-true, not-true}
use Rattle.jet_base.specs.declared.replies.Jet.{Jet}
use Rattle.jet_base.specs.declared.replies.Jet.TheVariants as jet
use Rattle.column_set.specs.RecordValues.{RecordFields}
use Rattle.index_derive.specs.declared.rules.IndexRule.{IndexRule}
use Rattle.cursor_nav.specs.Places.{Pair, least_entry_of}
use Rattle.cursor_nav.specs.Navigation.{moved, index_set, sought, ranged, gone_to, gone_to_entry}
use Rattle.database_state.specs.Table.{row_at, primary_order}
use Rattle.session_local.specs.declared.request.Request.{Request}
use Rattle.session_local.specs.declared.request.Request.TheVariants as call
use Rattle.session_local.specs.SessionSide.{label_of, are_distinct}
use Rattle.session_local.specs.Answer.{Nothing}
use Rattle.session_local.specs.Local.{LocalState, OpenCursor, cursor_labelled, with_cursor}
use Rattle.session_local.specs.Outcome.{CallInputs, Outcome, refused, navigated, unless, on_cursor, at_cursor, rows_seen, entries_seen}
use Rattle.session_local.specs.Calls.{answer}
use Rattle.session_local.specs.CursorCalls.{index_chosen_by, set_current_index, move_cursor, seek_key, set_index_range, gone_to as gone_to_seen, goto_bookmark}
use Rattle.session_local.specs.Navigating.{EntriesOf, RecordsOf, set_to_rule, navigated_by}
use Rattle.session_local.specs.FoundLaws.{labelled}
use Rattle.engine_parts.specs.Deciding.{is_navigation}
use Rattle.laws_engine.proofs.EngineLemmas.Decisions.{answer-begun}

-- ---- a cursor that is put where it stands

absent : (label : ℕ) (c : OpenCursor) (cursors : List OpenCursor) → list_any (λ other. other == label) (map label_of cursors) ≡ false → map (λ x. if x.label == label then c else x) cursors ≡ cursors
absent label c [] none = refl
absent label c (x ∷ xs) none =
    elim (x.label == label) as (λ b. (b || list_any (λ other. other == label) (map label_of xs)) ≡ false → (if b then c else x) ∷ map (λ x. if x.label == label then c else x) xs ≡ x ∷ xs) [
      | true ↦ λ h. cc
      | false ↦ λ h. ap (λ rest. x ∷ rest) (absent label c xs h)
    ] none

put_again : (label : ℕ) (c : OpenCursor) (cursors : List OpenCursor) → are_distinct (map label_of cursors) ≡ true → find (λ c. c.label == label) cursors ≡ Some c → map (λ x. if x.label == label then c else x) cursors ≡ cursors
put_again label c [] distinct found = refl
put_again label c (x ∷ xs) distinct found =
    let parts = and_parts (not (list_any (λ other. other == x.label) (map label_of xs))) (are_distinct (map label_of xs)) distinct in
    elim (x.label == label) as (λ b. (x.label == label) ≡ b → cond b (Some x) (find (λ c. c.label == label) xs) ≡ Some c → (if b then c else x) ∷ map (λ x. if x.label == label then c else x) xs ≡ x ∷ xs) [
      | true ↦ λ e h.
          let same : x ≡ c = cc in
          let none = ap (λ l. list_any (λ other. other == l) (map label_of xs)) (sym (eqb-true x.label label e)) ∙ not-true (list_any (λ other. other == x.label) (map label_of xs)) parts.0 in
          ap (λ rest. c ∷ rest) (absent label c xs none) ∙ ap (λ y. y ∷ xs) (sym same)
      | false ↦ λ e h. ap (λ rest. x ∷ rest) (put_again label c xs parts.1 h)
    ] refl found

-- where no label stands twice, a cursor that is found is put where it stands
pub with_cursor-found : (local : LocalState) (label : ℕ) (c : OpenCursor) → are_distinct (map label_of local.cursors) ≡ true → cursor_labelled local label ≡ Some c → with_cursor local c ≡ local
with_cursor-found local label c distinct found =
    let P : List OpenCursor → LocalState = λ cursors. record local { cursors = cursors } in
    ap (λ l. P (map (λ x. if x.label == l then c else x) local.cursors)) (labelled label local.cursors c found) ∙ ap P (put_again label c local.cursors distinct found)

-- ---- what is seen

pub record Sees (entries : EntriesOf) (has_record : RecordsOf) (asked : CallInputs) (c : OpenCursor) : Type 0 where
  pub each_index : (index : ℕ) → entries c.cursor.table index ≡ entries_seen asked c index
  pub each_record : (bookmark : List ℕ) → has_record c.cursor.table bookmark ≡ is_some (row_at (rows_seen asked c) bookmark)

at_found : (asked : CallInputs) (label other : ℕ) (c : OpenCursor) (next : OpenCursor → Outcome) → (other == label) ≡ true → cursor_labelled asked.local label ≡ Some c → at_cursor asked other next ≡ next c
at_found asked label other c next same found = ap (λ l. at_cursor asked l next) (eqb-true other label same) ∙ ap (λ o. on_cursor asked o next) found

-- ---- refusals that leave the cursor

stays_refused : (asked : CallInputs) (c : OpenCursor) (reply : Jet) → with_cursor asked.local c ≡ asked.local → refused asked reply ≡ navigated asked c (record { jet = reply; cursor = c.cursor })
stays_refused asked c reply stays =
    let P : LocalState → Outcome = λ local. record { answered = record { jet = reply; shown = Nothing }; local = local; step = None } in
    ap P (sym stays)

chosen : (asked : CallInputs) (c : OpenCursor) (entries : EntriesOf) (has_record : RecordsOf) (rule : Option IndexRule) → with_cursor asked.local c ≡ asked.local → Sees entries has_record asked c
    → index_chosen_by asked c rule ≡ navigated asked c (set_to_rule entries c.cursor rule)
chosen asked c entries has_record None stays sees = stays_refused asked c jet.IndexNotFound stays
chosen asked c entries has_record (Some rule) stays sees =
    ap (λ es. navigated asked c (record { jet = jet.Success; cursor = index_set c.cursor es rule.id.0 })) (sym (sees.each_index rule.id.0))

goes : (asked : CallInputs) (c : OpenCursor) (test : Bool) (row : Option RecordFields) (there : Bool) (found : Option Pair) → with_cursor asked.local c ≡ asked.local → there ≡ is_some row
    → unless asked ((test, jet.InvalidBookmark) ∷ (is_none row, jet.RecordDeleted) ∷ []) (λ _. gone_to_seen asked c found)
    ≡ navigated asked c (if test then record { jet = jet.InvalidBookmark; cursor = c.cursor } else (if there then gone_to_entry c.cursor found else record { jet = jet.RecordDeleted; cursor = c.cursor }))
goes asked c true row there found stays e = stays_refused asked c jet.InvalidBookmark stays
goes asked c false None false found stays e = stays_refused asked c jet.RecordDeleted stays
goes asked c false None true found stays e = cc
goes asked c false (Some row) false found stays e = cc
goes asked c false (Some row) true None stays e = stays_refused asked c jet.NoCurrentRecord stays
goes asked c false (Some row) true (Some entry) stays e = refl

-- ---- call by call

pub navigates : (asked : CallInputs) (c : OpenCursor) (entries : EntriesOf) (has_record : RecordsOf) (label : ℕ) (request : Request) → is_navigation label request ≡ true → asked.local.begun ≡ true → cursor_labelled asked.local label ≡ Some c
    → with_cursor asked.local c ≡ asked.local → Sees entries has_record asked c → answer asked request ≡ navigated asked c (navigated_by entries has_record c request)
unfolding gone_to
navigates asked c entries has_record label (call.Move cursor way) same begun found stays sees =
    answer-begun asked (call.Move cursor way) begun ∙ at_found asked label cursor.0 c (λ c. move_cursor asked c way) same found
    ∙ ap (λ es. navigated asked c (moved c.cursor es way)) (sym (sees.each_index c.cursor.index))
navigates asked c entries has_record label (call.Seek cursor by) same begun found stays sees =
    answer-begun asked (call.Seek cursor by) begun ∙ at_found asked label cursor.0 c (λ c. seek_key asked c by) same found
    ∙ ap (λ es. navigated asked c (sought c.cursor es by)) (sym (sees.each_index c.cursor.index))
navigates asked c entries has_record label (call.SetIndexRange cursor upper inclusive) same begun found stays sees =
    answer-begun asked (call.SetIndexRange cursor upper inclusive) begun ∙ at_found asked label cursor.0 c (λ c. set_index_range asked c upper inclusive) same found
    ∙ ap (λ es. navigated asked c (ranged c.cursor es upper inclusive)) (sym (sees.each_index c.cursor.index))
navigates asked c entries has_record label (call.SetCurrentIndex cursor None) same begun found stays sees =
    answer-begun asked (call.SetCurrentIndex cursor None) begun ∙ at_found asked label cursor.0 c (λ c. set_current_index asked c None) same found
    ∙ ap (λ es. navigated asked c (record { jet = jet.Success; cursor = index_set c.cursor es (primary_order c.schema) })) (sym (sees.each_index (primary_order c.schema)))
navigates asked c entries has_record label (call.SetCurrentIndex cursor (Some name)) same begun found stays sees =
    answer-begun asked (call.SetCurrentIndex cursor (Some name)) begun ∙ at_found asked label cursor.0 c (λ c. set_current_index asked c (Some name)) same found
    ∙ chosen asked c entries has_record (find (λ r. bytes_eq r.name name) c.schema.indexes) stays sees
navigates asked c entries has_record label (call.GotoBookmark cursor bookmark) same begun found stays sees =
    answer-begun asked (call.GotoBookmark cursor bookmark) begun ∙ at_found asked label cursor.0 c (λ c. goto_bookmark asked c bookmark) same found
    ∙ ap (λ es. unless asked (((length bookmark == 0) || nat_lt 255 (length bookmark), jet.InvalidBookmark) ∷ (is_none (row_at (rows_seen asked c) bookmark), jet.RecordDeleted) ∷ []) (λ _. gone_to_seen asked c (least_entry_of bookmark es)))
    (sym (sees.each_index c.cursor.index))
    ∙ goes asked c ((length bookmark == 0) || nat_lt 255 (length bookmark)) (row_at (rows_seen asked c) bookmark) (has_record c.cursor.table bookmark) (least_entry_of bookmark (entries c.cursor.table c.cursor.index)) stays (sees.each_record bookmark)
navigates asked c entries has_record label _ same begun found stays sees = cc
