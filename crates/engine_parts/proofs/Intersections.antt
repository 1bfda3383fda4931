-- What IntersectIndexes decides.
use Rattle.std.proofs.Common.{◌≡◌, ℕ, ◌≤◌, ◌<◌, ◌+◌, ◌-◌, ◌==◌, suc, Bool, true, false, not, ◌&&◌, List, [], ◌∷◌, ◌++◌, length, get_or, take, drop, map, filter, Option, Some, None, Result, Ok, Err, refl, sym, ap, subst, ◌∙◌, is_some, is_none, if◌then◌else◌, arith}
use Rattle.std.specs.Prelude.{bytes_eq, nat_le, IfOk}
use Rattle.std.specs.List.{list_all, list_any, AllByRecursion}
use Rattle.std.proofs.lemmas.Bool.{and_parts, eqb-true}
use Rattle.std.proofs.lemmas.Bool.Decides.{nat_tests}
use Rattle.std.proofs.lemmas.List.{append-nil, append_assoc}
use Rattle.jet_base.specs.declared.ids.CursorId.{CursorId}
use Rattle.jet_base.specs.declared.replies.Jet.{Jet}
use Rattle.jet_base.specs.declared.replies.Jet.TheVariants as jet
use Rattle.column_set.specs.RecordValues.{RecordFields}
use Rattle.column_set.specs.Refusals.{first_refusal}
use Rattle.index_derive.specs.declared.entries.Place.{Place}
use Rattle.index_derive.specs.declared.entries.Place.TheVariants.{Before, After, On, Gap}
use Rattle.cursor_nav.specs.Navigation.{answer_of, current_answer}
use Rattle.cursor_nav.specs.declared.cursor.Moved.{Moved}
use Rattle.cursor_nav.specs.Places.{Pair, entries_from, is_on, pair_of}
use Rattle.index_intersect.specs.CursorRanges.{cursor_range}
use Rattle.index_intersect.specs.Intersection.{Indexes, bookmarks_in, intersection, lies_in_all, rising, upper_range}
use Rattle.index_intersect.specs.declared.ranges.IndexRange.{IndexRange}
use Rattle.database_state.specs.State.{DatabaseState}
use Rattle.database_state.specs.Table.{Rows, Table, row_at}
use Rattle.database_state.specs.View.{view}
use Rattle.session_local.specs.declared.request.Request.TheVariants as call
use Rattle.session_local.specs.SessionSide.{SessionSide}
use Rattle.session_local.specs.Calls.{answer}
use Rattle.session_local.specs.IntersectCalls.{are_of_one_table as cursors_of_one_table, common_bookmarks, common_in, current_cursor, current_cursors, current_or, filled_by, filled_with, indexes_in, joined, table_of_bookmarks}
use Rattle.session_local.specs.Local.{LocalState, OpenCursor, cursor_labelled, temp_labelled, with_new_temp}
use Rattle.session_local.specs.LocalCalls.{is_answered_locally}
use Rattle.session_local.specs.Finishing.{with_filled}
use Rattle.session_local.specs.Navigating.{RecordsOf}
use Rattle.session_local.specs.Outcome.{CallInputs, Outcome, current_refusals, refused, rows_seen, unless}
use Rattle.temp_table.specs.TempRows.{TempRows}
use Rattle.stored_variants.specs.StoredVersions.{seen_entries}
use Rattle.version_cleanup.specs.Cleaning.{reader_in}
use Rattle.version_store.specs.declared.calls.Reader.{Reader}
use Rattle.laws_engine.specs.InStep.{IsInStep}
use Rattle.laws_engine.specs.EngineState.{EngineState}
use Rattle.laws_engine.specs.HoldsState.{HoldsState, inputs_of}
use Rattle.laws_engine.specs.VersionedTables.{VersionedTables}
use Rattle.laws_engine.proofs.EngineLemmas.Decisions.{answer-is, refused_with}
use Rattle.engine_parts.specs.Deciding.{Decides, IsDecision}
use Rattle.engine_parts.specs.Intersecting.{are_of_one_table, common_at, common_of, filled_decision, range_at, range_if, ranges_behind, ranges_if}
use Rattle.engine_parts.specs.Reading.{entries_for, has_shown, records_for}
use Rattle.engine_parts.proofs.CursorCallsShown.{has_read}
use Rattle.engine_parts.proofs.CursorCallsNavigated.{ReadsView}

-- ---- the range of a cursor

abbrev ranges_from : List OpenCursor → List IndexRange
ranges_from cursors = map (λ (c : OpenCursor). cursor_range c.cursor) cursors

abbrev range_of : Result OpenCursor Jet → Result IndexRange Jet
range_of (Ok c) = Ok (cursor_range c.cursor)
range_of (Err reply) = Err reply

abbrev ranges_of : Result (List OpenCursor) Jet → Result (List IndexRange) Jet
ranges_of (Ok cursors) = Ok (ranges_from cursors)
ranges_of (Err reply) = Err reply

on_record : (c : OpenCursor) (row : Option RecordFields) (there : Bool) → there ≡ is_some row
    → range_if (answer_of (if there then jet.Success else jet.RecordDeleted) 0) c.cursor ≡ range_of (current_or (first_refusal ((is_none row, jet.RecordDeleted) ∷ [])) c)
on_record c None false e = refl
on_record c (Some row) true e = refl
on_record c None true e = absurd (cc)
on_record c (Some row) false e = absurd (cc)

on_place : (c : OpenCursor) (place : Place) (has : List ℕ → Bool) (rows : Rows) → ((bookmark : List ℕ) → has bookmark ≡ is_some (row_at rows bookmark))
    → range_if (answer_of (current_answer has place) 0) c.cursor ≡ range_of (current_or (first_refusal (current_refusals rows place)) c)
on_place c Before has rows seen = refl
on_place c After has rows seen = refl
on_place c (Gap key above) has rows seen = refl
on_place c (On key bookmark) has rows seen = on_record c (row_at rows bookmark) (has bookmark) (seen bookmark)

-- the records of each cursor's table are those that the session sees
abbrev SeesCursors : CallInputs → RecordsOf → Type 0
SeesCursors asked has = (label : ℕ) (c : OpenCursor) → cursor_labelled asked.local label ≡ Some c → (bookmark : List ℕ) → has c.cursor.table bookmark ≡ is_some (row_at (rows_seen asked c) bookmark)

range_at-is : (asked : CallInputs) (has : RecordsOf) (label : ℕ) (found : Option OpenCursor) → SeesCursors asked has → cursor_labelled asked.local label ≡ found → range_at has found ≡ range_of (current_cursor asked found)
range_at-is asked has label None sees is = refl
range_at-is asked has label (Some c) sees is = on_place c c.cursor.place (has c.cursor.table) (rows_seen asked c) (sees label c is)

-- ---- the ranges of all cursors

abbrev behind : List IndexRange → Result (List IndexRange) Jet → Result (List IndexRange) Jet
behind ranges (Ok others) = Ok (ranges ++ others)
behind ranges (Err reply) = Err reply

behind-none : (told : Result (List IndexRange) Jet) → behind [] told ≡ told
behind-none (Ok others) = refl
behind-none (Err reply) = refl

regrouped : (ranges : List IndexRange) (c : OpenCursor) (rest : Result (List OpenCursor) Jet) → behind (ranges ++ cursor_range c.cursor ∷ []) (ranges_of rest) ≡ behind ranges (ranges_of (joined (Ok c) rest))
regrouped ranges c (Err reply) = refl
regrouped ranges c (Ok cs) = ap (λ (rs : List IndexRange). Ok rs) (append_assoc ranges (cursor_range c.cursor ∷ []) (ranges_from cs))

one_more : (ranges : List IndexRange) (one : Result OpenCursor Jet) (rest : Result (List OpenCursor) Jet) (next : IndexRange → Result (List IndexRange) Jet) → ((range : IndexRange) → next range ≡ behind (ranges ++ range ∷ []) (ranges_of rest))
    → ranges_if (range_of one) next ≡ behind ranges (ranges_of (joined one rest))
one_more ranges (Err reply) rest next each = refl
one_more ranges (Ok c) rest next each = each (cursor_range c.cursor) ∙ regrouped ranges c rest

ranges_behind-is : (asked : CallInputs) (has : RecordsOf) → SeesCursors asked has → (ranges : List IndexRange) (labels : List CursorId) → ranges_behind has asked.local ranges labels ≡ behind ranges (ranges_of (current_cursors asked labels))
ranges_behind-is asked has sees ranges [] = ap (λ (rs : List IndexRange). Ok rs) (sym (append-nil ranges))
ranges_behind-is asked has sees ranges (label ∷ labels) =
    ap (λ (r : Result IndexRange Jet). ranges_if r (λ range. ranges_behind has asked.local (ranges ++ range ∷ []) labels)) (range_at-is asked has label.0 (cursor_labelled asked.local label.0) sees refl)
    ∙ one_more ranges (current_cursor asked (cursor_labelled asked.local label.0)) (current_cursors asked labels) (λ range. ranges_behind has asked.local (ranges ++ range ∷ []) labels)
    (λ range. ranges_behind-is asked has sees (ranges ++ range ∷ []) labels)

-- ---- what ranges have in common

-- over the tables that a view has
pub common-viewed : (engine : EngineState) (store : VersionedTables) (reader : Reader) (side : SessionSide) (labels given : List CursorId) (told : Result (List (List ℕ)) Jet) → store ≡ engine.store → reader ≡ reader_in side.session engine.sessions
    → given ≡ labels → common_at (seen_entries reader store) (has_shown reader store) side.state given ≡ told → common_at (entries_for engine side.session) (records_for engine side.session) side.state labels ≡ told
common-viewed engine store reader side labels given told held by same is =
    let own : Reader = reader_in side.session engine.sessions in
    ap (λ (ls : List CursorId). common_at (seen_entries own engine.store) (has_shown own engine.store) side.state ls) (sym same)
    ∙ ap (λ (s : VersionedTables). common_at (seen_entries own s) (has_shown own s) side.state given) (sym held)
    ∙ ap (λ (r : Reader). common_at (seen_entries r store) (has_shown r store) side.state given) (sym by)
    ∙ is

-- ---- one table

-- the ranges behind the first, as the code has them
abbrev behind_first : List IndexRange → List IndexRange
behind_first ranges = take (length ranges - 1) (drop 1 ranges)

behind_first-cons : (range : IndexRange) (ranges : List IndexRange) → behind_first (range ∷ ranges) ≡ ranges
behind_first-cons range ranges = let e : suc (length ranges) - 1 ≡ length ranges = omega arith in ap (λ n. take n ranges) e ∙ whole ranges
  where
    whole : (rs : List IndexRange) → take (length rs) rs ≡ rs
    whole [] = refl
    whole (r ∷ rs) = ap (λ (xs : List IndexRange). r ∷ xs) (whole rs)

pub one_table-cons : (ranges : List IndexRange) (first : IndexRange) (told : Bool) → 1 ≤ length ranges → first ≡ get_or ranges 0 first → told ≡ list_all (λ range. range.table.0 == first.table.0) (behind_first ranges)
    → told ≡ are_of_one_table ranges
one_table-cons [] first told some is all = absurd (omega (arith, some))
one_table-cons (r ∷ rs) first told some is all =
    all
    ∙ ap (λ (xs : List IndexRange). list_all (λ range. range.table.0 == first.table.0) xs) (behind_first-cons r rs)
    ∙ ap (λ (f : IndexRange). list_all (λ range. range.table.0 == f.table.0) rs) is

others_of : (first : OpenCursor) (others : List OpenCursor) → list_all (λ other. other.table.0 == first.cursor.table) (ranges_from others) ≡ list_all (λ other. other.cursor.table == first.cursor.table) others
others_of first [] = refl
others_of first (c ∷ cs) = ap (λ b. (c.cursor.table == first.cursor.table) && b) (others_of first cs)

tables-are : (cursors : List OpenCursor) → are_of_one_table (ranges_from cursors) ≡ cursors_of_one_table cursors
tables-are [] = refl
tables-are (c ∷ cs) = others_of c cs

-- ---- the entries of the ranges are all that an intersection asks for

abbrev SameAt : Indexes → Indexes → IndexRange → Type 0
SameAt one other range = one range.table.0 range.index.0 ≡ other range.table.0 range.index.0

bookmarks-same : (one other : Indexes) (range : IndexRange) → SameAt one other range → bookmarks_in one range ≡ bookmarks_in other range
bookmarks-same one other range same = ap (λ (entries : List Pair). map (λ entry. entry.1) (entries_from (pair_of range.from) (upper_range range.upper) entries)) same

lies-same : (one other : Indexes) (bookmark : List ℕ) (ranges : List IndexRange) → AllByRecursion (SameAt one other) ranges → lies_in_all one bookmark ranges ≡ lies_in_all other bookmark ranges
lies-same one other bookmark [] all = refl
lies-same one other bookmark (range ∷ ranges) all = λ i. list_any (bytes_eq bookmark) (bookmarks-same one other range all.0 i) && lies-same one other bookmark ranges all.1 i

intersection-same : (one other : Indexes) (ranges : List IndexRange) → AllByRecursion (SameAt one other) ranges → intersection one ranges ≡ intersection other ranges
intersection-same one other [] all = refl
intersection-same one other (range ∷ ranges) all = λ i. rising (filter (λ bookmark. lies-same one other bookmark ranges all.1 i) (bookmarks-same one other range all.0 i))

at_table : (table first index : ℕ) (one other : Indexes) → table ≡ first → ((index : ℕ) → one first index ≡ other first index) → one table index ≡ other table index
at_table table first index one other same each = subst (λ n. one n index ≡ other n index) (sym same) (each index)

same_at-others : (first : OpenCursor) (one other : Indexes) (others : List OpenCursor) → ((index : ℕ) → one first.cursor.table index ≡ other first.cursor.table index) → list_all (λ o. o.cursor.table == first.cursor.table) others ≡ true
    → AllByRecursion (SameAt one other) (ranges_from others)
same_at-others first one other [] each all = tt
same_at-others first one other (c ∷ cs) each all =
    let parts : ((c.cursor.table == first.cursor.table) ≡ true) × (list_all (λ o. o.cursor.table == first.cursor.table) cs ≡ true) = and_parts _ _ all in
    (at_table c.cursor.table first.cursor.table c.cursor.index one other (eqb-true c.cursor.table first.cursor.table parts.0) each, same_at-others first one other cs each parts.1)

-- the entries of each index of the first cursor's table are those of these tables
abbrev SeesFirst : List Table → Indexes → List OpenCursor → Type 0
SeesFirst tables entries [] = Unit {0}
SeesFirst tables entries (c ∷ cs) = (index : ℕ) → entries c.cursor.table index ≡ indexes_in tables c c.cursor.table index

common-same : (tables : List Table) (entries : Indexes) (cursors : List OpenCursor) → SeesFirst tables entries cursors → cursors_of_one_table cursors ≡ true → intersection entries (ranges_from cursors) ≡ common_in tables cursors
common-same tables entries [] sees same = refl
common-same tables entries (c ∷ cs) sees same =
    intersection-same entries (indexes_in tables c) (ranges_from (c ∷ cs)) (sees c.cursor.index, same_at-others c entries (indexes_in tables c) cs sees same)

-- ---- the first cursor is one of the session

one_of : (one : Result OpenCursor Jet) (others : Result (List OpenCursor) Jet) (c : OpenCursor) (cs : List OpenCursor) → joined one others ≡ Ok (c ∷ cs) → one ≡ Ok c
one_of (Err reply) others c cs e = cc
one_of (Ok o) (Err reply) c cs e = cc
one_of (Ok o) (Ok os) c cs e = cc

found_of : (asked : CallInputs) (found : Option OpenCursor) (c : OpenCursor) → current_cursor asked found ≡ Ok c → found ≡ Some c
found_of asked None c e = cc
found_of asked (Some o) c e = by (first_refusal (current_refusals (rows_seen asked o) o.cursor.place)) e
  where
    by : (refusal : Option Jet) → current_or refusal o ≡ Ok c → Some o ≡ Some c
    by None e = cc
    by (Some reply) e = cc

first-found : (asked : CallInputs) (labels : List CursorId) (c : OpenCursor) (cs : List OpenCursor) → current_cursors asked labels ≡ Ok (c ∷ cs) → (label : ℕ) × (cursor_labelled asked.local label ≡ Some c)
first-found asked [] c cs e = cc
first-found asked (label ∷ labels) c cs e =
    (label.0, found_of asked (cursor_labelled asked.local label.0) c (one_of (current_cursor asked (cursor_labelled asked.local label.0)) (current_cursors asked labels) c cs e))

sees-first : ReadsView → (engine : EngineState) (state : DatabaseState) (side : SessionSide) (labels : List CursorId) (cursors : List OpenCursor) → HoldsState engine state → IsInStep state side.session side.state
    → current_cursors (inputs_of engine state side.session side.state) labels ≡ Ok cursors → SeesFirst (view state side.session) (entries_for engine side.session) cursors
sees-first reads engine state side labels [] h step e = tt
sees-first reads engine state side labels (c ∷ cs) h step e =
    let found = first-found (inputs_of engine state side.session side.state) labels c cs e in reads.entries engine state side.session side.state found.0 c h step found.1

-- ---- the answer

abbrev told_as : CallInputs → CursorId → Result (List (List ℕ)) Jet → Outcome
told_as asked temp (Ok bookmarks) = filled_with asked temp bookmarks
told_as asked temp (Err reply) = refused asked reply

told-is : (asked : CallInputs) (temp : CursorId) (entries : Indexes) (found : Result (List OpenCursor) Jet) → ((cursors : List OpenCursor) → found ≡ Ok cursors → SeesFirst (view asked.state asked.session) entries cursors)
    → filled_by asked temp found ≡ told_as asked temp (common_of entries (ranges_of found))
told-is asked temp entries (Err reply) sees = refl
told-is asked temp entries (Ok cursors) sees =
    by (cursors_of_one_table cursors) refl
    ∙ ap (λ b. told_as asked temp (if b then Ok (intersection entries (ranges_from cursors)) else Err jet.InvalidParameter)) (sym (tables-are cursors))
  where
    by : (same : Bool) → cursors_of_one_table cursors ≡ same
        → unless asked ((not same, jet.InvalidParameter) ∷ []) (λ _. filled_with asked temp (common_bookmarks asked cursors)) ≡ told_as asked temp (if same then Ok (intersection entries (ranges_from cursors)) else Err jet.InvalidParameter)
    by true e = ap (filled_with asked temp) (sym (common-same (view asked.state asked.session) entries cursors (sees cursors refl) e))
    by false e = refl

filled_by-is : ReadsView → (engine : EngineState) (state : DatabaseState) (side : SessionSide) (temp : CursorId) (labels : List CursorId) → HoldsState engine state → IsInStep state side.session side.state
    → filled_by (inputs_of engine state side.session side.state) temp (current_cursors (inputs_of engine state side.session side.state) labels)
    ≡ told_as (inputs_of engine state side.session side.state) temp (common_at (entries_for engine side.session) (records_for engine side.session) side.state labels)
filled_by-is reads engine state side temp labels h step =
    let asked = inputs_of engine state side.session side.state in
    let entries = entries_for engine side.session in
    let records = records_for engine side.session in
    told-is asked temp entries (current_cursors asked labels) (λ cursors e. sees-first reads engine state side labels cursors h step e)
    ∙ ap (λ (r : Result (List IndexRange) Jet). told_as asked temp (common_of entries r))
    (sym (ranges_behind-is asked records (λ label c is. has_read reads.records engine state side label c h step is) [] labels ∙ behind-none (ranges_of (current_cursors asked labels))))

-- ---- what is decided

begun_if : (b taken : Bool) → elim b [ true ↦ taken | false ↦ true ] ≡ false → (b ≡ true) × (taken ≡ false)
begun_if true taken e = (refl, e)
begun_if false taken e = absurd (cc)

-- the session was begun, and the label is free
is_free : (local : LocalState) (temp : CursorId) (labels : List CursorId) → is_answered_locally local (call.IntersectIndexes temp labels) ≡ false → (local.begun ≡ true) × (is_some (temp_labelled local.temps temp) ≡ false)
is_free local temp labels shared = begun_if local.begun (is_some (temp_labelled local.temps temp)) shared

intersect-is : (asked : CallInputs) (temp : CursorId) (labels : List CursorId) (full : Bool) → is_answered_locally asked.local (call.IntersectIndexes temp labels) ≡ false → nat_le 4 (length asked.local.temps) ≡ full
    → answer asked (call.IntersectIndexes temp labels) ≡ unless asked ((full, jet.OutOfCursors) ∷ []) (λ _. filled_by asked temp (current_cursors asked labels))
unfolding answer
intersect-is asked temp labels full shared is =
    let free = is_free asked.local temp labels shared in
    let begun = free.0 in
    let label = free.1 in
    rw (begun, label, is) refl

too_many : (n : ℕ) → 4 ≤ n → nat_le 4 n ≡ true
too_many n h = grind (arith, nat_tests)

few : (n : ℕ) → n < 4 → nat_le 4 n ≡ false
few n h = grind (arith, nat_tests)

pub intersect-full : (engine : EngineState) (side : SessionSide) (temp : CursorId) (labels : List CursorId) → is_answered_locally side.state (call.IntersectIndexes temp labels) ≡ false → 4 ≤ length side.state.temps
    → Decides engine side (call.IntersectIndexes temp labels) side (refused_with jet.OutOfCursors)
intersect-full engine side temp labels shared many = λ state h step.
    let asked = inputs_of engine state side.session side.state in
    answer-is asked (call.IntersectIndexes temp labels) side (refused_with jet.OutOfCursors) (refused asked jet.OutOfCursors)
    (intersect-is asked temp labels true shared (too_many (length side.state.temps) many)) refl refl refl

told_by : ReadsView → (engine : EngineState) (state : DatabaseState) (side : SessionSide) (temp : CursorId) (labels : List CursorId) (told : Result (List (List ℕ)) Jet) → HoldsState engine state → IsInStep state side.session side.state
    → is_answered_locally side.state (call.IntersectIndexes temp labels) ≡ false → length side.state.temps < 4 → common_at (entries_for engine side.session) (records_for engine side.session) side.state labels ≡ told
    → answer (inputs_of engine state side.session side.state) (call.IntersectIndexes temp labels) ≡ told_as (inputs_of engine state side.session side.state) temp told
told_by reads engine state side temp labels told h step shared room is =
    let asked = inputs_of engine state side.session side.state in
    intersect-is asked temp labels false shared (few (length side.state.temps) room)
    ∙ filled_by-is reads engine state side temp labels h step
    ∙ ap (told_as asked temp) is

pub intersect-refused : ReadsView → (engine : EngineState) (side : SessionSide) (temp : CursorId) (labels : List CursorId) (reply : Jet) → is_answered_locally side.state (call.IntersectIndexes temp labels) ≡ false → length side.state.temps < 4
    → common_at (entries_for engine side.session) (records_for engine side.session) side.state labels ≡ Err reply → Decides engine side (call.IntersectIndexes temp labels) side (refused_with reply)
intersect-refused reads engine side temp labels reply shared room is = λ state h step.
    let asked = inputs_of engine state side.session side.state in
    answer-is asked (call.IntersectIndexes temp labels) side (refused_with reply) (refused asked reply)
    (told_by reads engine state side temp labels (Err reply) h step shared room is) refl refl refl

filled-open : (local : LocalState) (temp : CursorId) (table : TempRows) → local.begun ≡ true → is_some (temp_labelled local.temps temp) ≡ false → nat_le 4 (length local.temps) ≡ false
    → with_filled local temp (Some table) ≡ with_new_temp local (record { label = temp; table = table })
filled-open local temp table begun free room = rw (begun, free, room) refl

pub intersect-filled : ReadsView → (engine : EngineState) (side : SessionSide) (temp : CursorId) (labels : List CursorId) (bookmarks : List (List ℕ)) → is_answered_locally side.state (call.IntersectIndexes temp labels) ≡ false → length side.state.temps < 4
    → common_at (entries_for engine side.session) (records_for engine side.session) side.state labels ≡ Ok bookmarks
    → Decides engine side (call.IntersectIndexes temp labels) side (filled_decision (table_of_bookmarks bookmarks) (length bookmarks))
intersect-filled reads engine side temp labels bookmarks shared room is = λ state h step.
    let asked = inputs_of engine state side.session side.state in
    let free = is_free side.state temp labels shared in
    answer-is asked (call.IntersectIndexes temp labels) side (filled_decision (table_of_bookmarks bookmarks) (length bookmarks)) (filled_with asked temp bookmarks)
    (told_by reads engine state side temp labels (Ok bookmarks) h step shared room is) refl refl
    (filled-open side.state temp (table_of_bookmarks bookmarks) free.0 free.1 (few (length side.state.temps) room))

pub decision-filled : (engine : EngineState) (side : SessionSide) (temp : CursorId) (labels : List CursorId) (table : TempRows) (count : ℕ) → IsDecision engine side (call.IntersectIndexes temp labels) side (filled_decision table count)
decision-filled engine side temp labels table count = record {
  session = refl;
  still = λ _. refl;
  named = refl;
  fits = tt;
  flush = refl;
  lawful = λ state h in_step. tt;
}

-- what is said of a success is said of one that is told in other words
pub if_ok : {A E : Type 0} (r : Result A E) (P Q : A → Type 0) → ((a : A) → P a → Q a) → IfOk r P → IfOk r Q
if_ok (Ok a) P Q each p = each a p
if_ok (Err e) P Q each p = tt

-- ---- a cursor on a record

pub on_if_current : (has : List ℕ → Bool) (place : Place) (moved : Moved) → Ok moved ≡ answer_of (current_answer has place) 0 → is_on place ≡ true
on_if_current has Before moved e = cc
on_if_current has After moved e = cc
on_if_current has (Gap key above) moved e = cc
on_if_current has (On key bookmark) moved e = refl
