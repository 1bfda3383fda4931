-- The live part of an own engine can be written.
use Rattle.std.proofs.Common.{◌≡◌, ℕ, ◌≤◌, ◌<◌, Bool, true, false, not, ◌&&◌, List, [], ◌∷◌, length, Option, Some, None, refl, sym, ap, subst, ◌∙◌, arith}
use Rattle.std.specs.Prelude.{◌==◌, ◌+◌, ◌^◌, IfSome, filter, is_some, map, nat_le, nat_lt, option_map, if◌then◌else◌}
use Rattle.std.specs.List.{AllByRecursion, list_all}
use Rattle.std.proofs.lemmas.Bool.{and_from, eqb-true}
use Rattle.std.proofs.lemmas.Bool.Decides.{nat_tests}
use Rattle.common_lemmas.proofs.Booleans.{impossible}
use Rattle.common_lemmas.proofs.Found.{found_passes, of_found}
use Rattle.common_lemmas.proofs.Lists.{all_filter, all_listed, all_map, all_parted, all_weaker}
use Rattle.column_set.specs.Rows.{largest_row}
use Rattle.database_state.specs.State.{DatabaseState, LiveSession, PastChange, Status, Transaction, committed, is_undone, transaction_of, uncommitted, undone}
use Rattle.database_state.specs.Table.{Table, table_with_id}
use Rattle.laws_engine.specs.EngineState.{ends_in}
use Rattle.laws_images.specs.SoundStates.{IsLevel, IsOfEntry, IsSoundSession, IsSoundTransaction}
use Rattle.laws_versions.specs.History.{EachTwo, IsPlaced, IsPlacedBy, NumbersRise}
use Rattle.live_part.specs.LiveBytes.{entry_of, held_fits, label_of, live_fits, number_of, rises, row_fits, session_fits, standing, status_fits, transaction_fits}
use Rattle.log_grammar.specs.EntryBytes.{has_spelling}
use Rattle.stored_variants.specs.RecordRows.{IsRecordRow, TableValues, held_record_in}
use Rattle.table_trees.specs.StoredTables.{table_long_values}
use Rattle.version_cleanup.specs.LiveSessions.{LiveState, live_state, without_snapshot}
use Rattle.version_store.specs.HeldChanges.{HeldChange}
use Rattle.own_images.proofs.ChangesInOrder.{IsPairOf, two_of_items}
use Rattle.own_images.proofs.ChangesSound.{IsHeldOf, held_of_items}
use Rattle.own_images.proofs.Differing.{all_both, each_mapped}
use Rattle.own_images.proofs.Missing.{IsRowBefore, all_standing}
use Rattle.own_images.proofs.OwnRows.{at_most}
use Rattle.own_images.proofs.RowsSound.{unmapped}
use Rattle.own_images.specs.OwnEngines.{HasSpelledLivePart, IsOwnEngine, live_of_store}
use Rattle.own_images.specs.OwnStores.{OwnStore}

-- ---- numbers

above : (m n : ℕ) → m < n → nat_lt m n ≡ true
above m n h = grind (arith, nat_tests, h)

pub below_by : (n m k : ℕ) → n ≤ m → nat_lt m k ≡ true → nat_lt n k ≡ true
below_by n m k h e = grind (arith, nat_tests, h, e)

at_most_two : (n m k : ℕ) → n ≤ m → m ≤ k → n ≤ k
at_most_two n m k h i = omega (arith, h, i)

most_of_sum : (n k m : ℕ) → n + k ≤ m → n ≤ m
most_of_sum n k m h = omega (arith, h)

-- what is at most the number of an engine fits 64 bits
fits_64 : (n number : ℕ) → n ≤ number → number ≤ 2 ^ 35 + 1 → nat_lt n (2 ^ 64) ≡ true
fits_64 n number h most = below_by n (2 ^ 35 + 1) (2 ^ 64) (at_most_two n number (2 ^ 35 + 1) h most) refl

-- ---- lists that rise

rising : {X : Type 0} (key : X → ℕ) (low : ℕ) (xs : List X) → AllByRecursion (λ x. low < key x) xs → EachTwo (λ x y. key x < key y) xs → rises key low xs ≡ true
rising key low [] all two = refl
rising key low (x ∷ xs) all two = and_from (nat_lt low (key x)) (rises key (key x) xs) (above low (key x) all.0) (rising key (key x) xs two.0 two.1)

two_filtered : {X : Type 0} (R : X → X → Type 0) (p : X → Bool) (xs : List X) → EachTwo R xs → EachTwo R (filter p xs)
two_filtered R p [] two = tt
two_filtered {X = X} R p (x ∷ xs) two = by (two_filtered R p xs two.1) (p x)
  where
    by : EachTwo R (filter p xs) → (b : Bool) → EachTwo R (if b then x ∷ filter p xs else filter p xs)
    by rest true = (all_filter (R x) p xs two.0, rest)
    by rest false = rest

two_weaker : {X : Type 0} (R S : X → X → Type 0) → ((x y : X) → R x y → S x y) → (xs : List X) → EachTwo R xs → EachTwo S xs
two_weaker R S f [] two = tt
two_weaker R S f (x ∷ xs) two = (all_weaker (R x) (S x) (f x) xs two.0, two_weaker R S f xs two.1)

from_zero : (n : ℕ) → 1 ≤ n → 0 < n
from_zero n h = omega (arith, h)

as_many : (xs : List LiveSession) → length (map live_state xs) ≡ length xs
as_many [] = refl
as_many (x ∷ xs) = omega (arith, as_many xs)

-- ---- sessions

pub table_fits : (state : DatabaseState) → AllByRecursion (λ (t : Table). (0 < t.id) × (t.id ≤ state.greatest_table)) state.tables → state.greatest_table ≤ 4294967295 → (id : ℕ) → is_some (table_with_id state.tables id) ≡ true → nat_lt id (2 ^ 32) ≡ true
table_fits state given most id there = by (table_with_id state.tables id) refl there
  where
    by : (o : Option Table) → table_with_id state.tables id ≡ o → is_some o ≡ true → nat_lt id (2 ^ 32) ≡ true
    by None e h = impossible h
    by (Some t) e h =
        let own : t.id ≤ state.greatest_table = (of_found (λ (t : Table). (0 < t.id) × (t.id ≤ state.greatest_table)) (λ (x : Table). x.id == id) state.tables t e given).1 in
        let same : t.id ≡ id = eqb-true t.id id (found_passes (λ (x : Table). x.id == id) state.tables t e) in
        below_by id 4294967295 (2 ^ 32) (subst (λ (n : ℕ). n ≤ 4294967295) same (at_most_two t.id state.greatest_table 4294967295 own most)) refl

transaction_small : (number : ℕ) → number ≤ 2 ^ 35 + 1 → (o : Option Transaction) → IfSome o (IsSoundTransaction number) → transaction_fits (option_map without_snapshot o) ≡ true
transaction_small number most None h = refl
transaction_small number most (Some t) h =
    and_from (nat_le 1 t.levels) (nat_le t.levels 7 && nat_lt t.begin (2 ^ 64)) (at_most 1 t.levels h.0.0)
    (and_from (nat_le t.levels 7) (nat_lt t.begin (2 ^ 64)) (at_most t.levels 7 h.0.1) (fits_64 t.begin number h.2 most))

session_small : (state : DatabaseState) → AllByRecursion (λ (t : Table). (0 < t.id) × (t.id ≤ state.greatest_table)) state.tables → state.greatest_table ≤ 4294967295 → (number : ℕ) → number ≤ 2 ^ 35 + 1
    → (s : LiveSession) → IsSoundSession number state.tables s → length s.open_tables < 2 ^ 32 → session_fits (live_state s) ≡ true
session_small state given greatest number most s sound few =
    let ids = list_all (λ table. nat_lt table (2 ^ 32)) s.open_tables in
    and_from (nat_le s.label 99) ((nat_lt (length s.open_tables) (2 ^ 32) && ids) && transaction_fits (option_map without_snapshot s.transaction)) (at_most s.label 99 sound.label.1)
    (and_from (nat_lt (length s.open_tables) (2 ^ 32) && ids) (transaction_fits (option_map without_snapshot s.transaction))
    (and_from (nat_lt (length s.open_tables) (2 ^ 32)) ids (above (length s.open_tables) (2 ^ 32) few)
    (all_listed (λ table. nat_lt table (2 ^ 32)) s.open_tables (all_weaker (λ id. is_some (table_with_id state.tables id) ≡ true) (λ table. nat_lt table (2 ^ 32) ≡ true) (table_fits state given greatest) s.open_tables sound.there)))
    (transaction_small number most s.transaction sound.transaction))

-- ---- held changes

abbrev IsSmallItem : DatabaseState → PastChange → Type 0
IsSmallItem state item = IsPlaced state.number state.tables (transaction_of state) item × IsLevel item.level × IsOfEntry item

status_small : (number : ℕ) → number ≤ 2 ^ 35 + 1 → (transactions : ℕ → Option Transaction) (item : PastChange) (s : Status) → IsPlacedBy number transactions item s → status_fits s ≡ true
status_small number most transactions item uncommitted p = refl
status_small number most transactions item (committed at) p = and_from (nat_le 1 at) (nat_lt at (2 ^ 64)) (from_below item.number at p.0) (fits_64 at number p.1 most)
  where
    from_below : (m n : ℕ) → m < n → nat_le 1 n ≡ true
    from_below m n h = grind (arith, nat_tests, h)
status_small number most transactions item undone p = refl

row_small : (longs : TableValues) (h : HeldChange) → IsRowBefore longs h → row_fits h.before ≡ true
row_small longs h row = by h.before row
  where
    by : (o : Option (List ℕ)) → IfSome o (IsRecordRow (longs h.table)) → row_fits o ≡ true
    by None r = refl
    by (Some bytes) r = at_most (length bytes) largest_row r.small

change_small : (longs : TableValues) (state : DatabaseState) → state.number ≤ 2 ^ 35 + 1 → (h : HeldChange) → IsHeldOf (IsSmallItem state) (held_record_in longs h) → (has_spelling (entry_of h) ≡ true) × IsRowBefore longs h → held_fits h ≡ true
change_small longs state most h of_item known =
    let levels = nat_le 1 h.level && nat_le h.level 7 in
    let rest = has_spelling (entry_of h) && row_fits h.before in
    and_from (nat_lt h.number (2 ^ 64)) (levels && (status_fits h.status && rest)) (ap (λ (n : ℕ). nat_lt n (2 ^ 64)) of_item.matches.number ∙ fits_64 of_item.item.number state.number of_item.has.0.0 most)
    (and_from levels (status_fits h.status && rest)
    (ap (λ (n : ℕ). nat_le 1 n && nat_le n 7) of_item.matches.level ∙ and_from (nat_le 1 of_item.item.level) (nat_le of_item.item.level 7) (at_most 1 of_item.item.level of_item.has.1.0) (at_most of_item.item.level 7 of_item.has.1.1))
    (and_from (status_fits h.status) rest (ap status_fits of_item.matches.status ∙ status_small state.number most (transaction_of state) of_item.item of_item.item.status of_item.has.0.2)
    (and_from (has_spelling (entry_of h)) (row_fits h.before) known.0 (row_small longs h known.1))))

number_rises : (longs : TableValues) (h k : HeldChange) → IsPairOf NumbersRise (held_record_in longs h) (held_record_in longs k) → h.number < k.number
number_rises longs h k pair = subst (λ (n : ℕ). n < k.number) (sym pair.first.number) (subst (λ (n : ℕ). pair.earlier.number < n) (sym pair.second.number) pair.has)

from_one : (longs : TableValues) (state : DatabaseState) (h : HeldChange) → IsHeldOf (IsSmallItem state) (held_record_in longs h) → 0 < h.number
from_one longs state h of_item = subst (λ (n : ℕ). 0 < n) (sym of_item.matches.number) (from_zero of_item.item.number of_item.has.2.0)

-- ---- the whole

own_sessions_fit : (sessions : List LiveState) (store : OwnStore) → IsOwnEngine sessions store → HasSpelledLivePart sessions store → store.state.number ≤ 2 ^ 35 + 1
    → (nat_le (length sessions) 64 && (rises label_of 0 sessions && list_all session_fits sessions)) ≡ true
own_sessions_fit sessions store own spelled most =
    subst (λ (l : List LiveState). (nat_le (length l) 64 && (rises label_of 0 l && list_all session_fits l)) ≡ true) own.holds.sessions
    (and_from (nat_le (length states) 64) (rises label_of 0 states && list_all session_fits states) (ap (λ (n : ℕ). nat_le n 64) (as_many state.sessions) ∙ at_most (length state.sessions) 64 own.within.most)
    (and_from (rises label_of 0 states) (list_all session_fits states)
    (rising label_of 0 states
    (all_map (λ s. 0 < label_of s) live_state state.sessions (all_weaker (IsSoundSession state.number state.tables) (λ (s : LiveSession). 0 < s.label) (λ s sound. from_zero s.label sound.label.0) state.sessions own.within.each))
    (each_mapped (λ x y. label_of x < label_of y) live_state state.sessions own.within.labels))
    (all_listed session_fits states
    (all_map (λ s. session_fits s ≡ true) live_state state.sessions
    (all_both (IsSoundSession state.number state.tables) (λ (s : LiveSession). length s.open_tables < 2 ^ 32) (λ s. session_fits (live_state s) ≡ true)
    (session_small state own.holds.reached.order.given own.kept.sound.greatest state.number most) state.sessions own.within.each
    (unmapped (λ (s : LiveState). length s.open_tables < 2 ^ 32) live_state state.sessions (subst (AllByRecursion (λ (s : LiveState). length s.open_tables < 2 ^ 32)) (sym own.holds.sessions) spelled.open_tables)))))))
  where
    state : DatabaseState
    state = store.state

    states : List LiveState
    states = map live_state store.state.sessions

own_held_fit : (sessions : List LiveState) (store : OwnStore) → IsOwnEngine sessions store → HasSpelledLivePart sessions store → store.state.number ≤ 2 ^ 35 + 1
    → (nat_lt (length (standing store.held)) (2 ^ 32) && (rises number_of 0 (standing store.held) && list_all held_fits (standing store.held))) ≡ true
own_held_fit sessions store own spelled most =
    let longs = table_long_values store.trees.tables in
    let held = standing store.held in
    let h = own.holds in
    let levels = (all_parted (λ (item : PastChange). IsLevel item.level) h.dropped h.kept (subst (AllByRecursion (λ (item : PastChange). IsLevel item.level)) h.holds.history.past own.within.levels)).1 in
    let entries = (all_parted IsOfEntry h.dropped h.kept (subst (AllByRecursion IsOfEntry) h.holds.history.past own.within.entries)).1 in
    let known = all_both (λ h. has_spelling (entry_of h) ≡ true) (IsRowBefore longs) (λ h. (has_spelling (entry_of h) ≡ true) × IsRowBefore longs h) (λ h a b. (a, b)) held spelled.entries
    (all_standing longs store.catalog.tables store.trees.tables store.held own.kept.kept.kept.changes) in
    let items = unmapped (IsHeldOf (IsSmallItem store.state)) (held_record_in longs) store.held
    (held_of_items (IsSmallItem store.state) h.kept (map (held_record_in longs) store.held) h.holds.held
    (all_both (IsPlaced store.state.number store.state.tables (transaction_of store.state)) (λ (item : PastChange). IsLevel item.level × IsOfEntry item) (IsSmallItem store.state) (λ item a b. (a, b.0, b.1)) h.kept h.holds.history.keeps.placed
    (all_both (λ (item : PastChange). IsLevel item.level) IsOfEntry (λ (item : PastChange). IsLevel item.level × IsOfEntry item) (λ item a b. (a, b)) h.kept levels entries))) in
    and_from (nat_lt (length held) (2 ^ 32)) (rises number_of 0 held && list_all held_fits held) (above (length held) (2 ^ 32) spelled.most)
    (and_from (rises number_of 0 held) (list_all held_fits held)
    (rising number_of 0 held
    (all_filter (λ (x : HeldChange). 0 < x.number) (λ (x : HeldChange). not (is_undone x.status)) store.held
    (all_weaker (λ x. IsHeldOf (IsSmallItem store.state) (held_record_in longs x)) (λ (x : HeldChange). 0 < x.number) (from_one longs store.state) store.held items))
    (two_filtered (λ (x y : HeldChange). x.number < y.number) (λ (x : HeldChange). not (is_undone x.status)) store.held
    (two_weaker (λ x y. IsPairOf NumbersRise (held_record_in longs x) (held_record_in longs y)) (λ (x y : HeldChange). x.number < y.number) (number_rises longs) store.held (two_of_items NumbersRise longs h.kept store.held h.holds.held h.holds.history.keeps.numbers))))
    (all_listed held_fits held
    (all_both (λ x. IsHeldOf (IsSmallItem store.state) (held_record_in longs x)) (λ x. (has_spelling (entry_of x) ≡ true) × IsRowBefore longs x) (λ x. held_fits x ≡ true) (change_small longs store.state most) held
    (all_filter (λ x. IsHeldOf (IsSmallItem store.state) (held_record_in longs x)) (λ (x : HeldChange). not (is_undone x.status)) store.held items) known)))

pub own_fits : (sessions : List LiveState) (store : OwnStore) → IsOwnEngine sessions store → HasSpelledLivePart sessions store → live_fits (live_of_store sessions store) ≡ true
own_fits sessions store own spelled =
    let most : store.state.number ≤ 2 ^ 35 + 1 = subst (λ (n : ℕ). n ≤ 2 ^ 35 + 1) (sym own.holds.number) (most_of_sum store.number (ends_in sessions) (2 ^ 35 + 1) own.room.room) in
    let held = standing store.held in
    and_from (nat_le (length sessions) 64 && (rises label_of 0 sessions && list_all session_fits sessions)) (nat_lt (length held) (2 ^ 32) && (rises number_of 0 held && list_all held_fits held))
    (own_sessions_fit sessions store own spelled most) (own_held_fit sessions store own spelled most)
