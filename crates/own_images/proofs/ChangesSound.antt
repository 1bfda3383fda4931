-- Each held change of an own engine that stands is sound.
use Rattle.std.proofs.Common.{◌≡◌, ◌≢◌, ℕ, ◌<◌, Bool, true, false, not, ◌&&◌, ◌||◌, List, [], ◌∷◌, Option, Some, None, refl, sym, ap, subst, ◌∙◌, arith}
use Rattle.std.specs.Prelude.{◌==◌, IfSome, find, is_some, map, nat_le, nat_lt, option_and_then, option_map, if◌then◌else◌}
use Rattle.std.specs.List.{AllByRecursion, list_all}
use Rattle.std.proofs.lemmas.Bool.{and_from, eqb-true}
use Rattle.std.proofs.lemmas.Bool.Decides.{nat_tests}
use Rattle.column_set.specs.ChangedRecords.{changed_table}
use Rattle.column_set.specs.RecordValues.{RecordFields}
use Rattle.column_set.specs.RowReading.{row_in}
use Rattle.common_lemmas.proofs.Booleans.{by_test, impossible}
use Rattle.common_lemmas.proofs.Finding.{find_map}
use Rattle.common_lemmas.proofs.Found.{found_passes, of_found}
use Rattle.common_lemmas.proofs.Lists.{all_listed, all_map, all_weaker}
use Rattle.database_state.specs.State.{DatabaseState, LiveSession, PastChange, Status, Transaction, committed, is_undone, live_session, transaction_of, uncommitted, undone}
use Rattle.database_state.specs.Table.{Table, schema_of, table_with_id}
use Rattle.laws_engine.specs.HeldRecords.{HeldRecord}
use Rattle.laws_engine.specs.Holding.{AllMatch, Matches}
use Rattle.laws_versions.specs.Bookmarks.{StandsUnder}
use Rattle.laws_versions.specs.EachRecord.{HasBoth}
use Rattle.laws_versions.specs.History.{EachTwo, IsOpenIn, IsPlaced, IsPlacedBy, LabelsRise}
use Rattle.laws_versions.proofs.HistoryLemmas.Lists.{each_weaker}
use Rattle.live_part.specs.LiveBytes.{standing}
use Rattle.long_value.specs.Values.{Values}
use Rattle.stored_variants.specs.RecordRows.{TableValues, held_record_in, record_of}
use Rattle.stored_variants.specs.VersionsKept.{AddsToEscrow, IsKeptChange, IsRowUnder}
use Rattle.table_trees.specs.StoredTables.{table_long_values}
use Rattle.version_cleanup.specs.LiveSessions.{LiveState, live_state, transaction_in, without_snapshot}
use Rattle.version_store.specs.HeldChanges.{HeldChange}
use Rattle.version_store.specs.HeldChanges as held_changes
use Rattle.version_store.specs.declared.calls.ChangeKind.{ChangeKind}
use Rattle.version_store.specs.declared.calls.ChangeKind.TheVariants as kind
use Rattle.image_findings.specs.LiveFindings.{adds_to_sum, begins_behind, begins_elsewhere, is_drop, is_open_in, is_placed, is_sound_before, is_sound_change, is_sound_of, is_sound_row_before}
use Rattle.image_findings.specs.RowFindings.{is_row_under}
use Rattle.image_findings.specs.TableContents.{TableContents, contents_with_id, is_short_row, long_values, row_fits}
use Rattle.own_images.proofs.Contents.{own_contents}
use Rattle.own_images.proofs.Differing.{all_both, found_each}
use Rattle.own_images.proofs.KeptVariants.{same_rewrite}
use Rattle.own_images.proofs.Missing.{IsOfCatalog, of_catalog}
use Rattle.own_images.proofs.OwnRows.{HasHiddenKey, at_most, row_is_under}
use Rattle.own_images.proofs.RowsSound.{IsOfState, each_standing, hidden_before, of_state, unmapped}
use Rattle.own_images.proofs.SessionsSound.{shown_there}
use Rattle.own_images.proofs.Walked.{WalkLaws}
use Rattle.own_images.specs.OwnContents.{HasOwnContents}
use Rattle.own_images.specs.OwnEngines.{IsOwnEngine}
use Rattle.own_images.specs.OwnStores.{OwnStore, contents_of}

-- ---- held changes with the kept ones that they are

pub record IsHeldOf (P : PastChange → Type 0) (h : HeldRecord) : Type 0 where
  pub item : PastChange
  pub matches : Matches item h
  pub has : P item

pub held_of_items : (P : PastChange → Type 0) (items : List PastChange) (held : List HeldRecord) → AllMatch items held → AllByRecursion P items → AllByRecursion (IsHeldOf P) held
held_of_items P [] [] m all = tt
held_of_items P [] (h ∷ held) m all = absurd m
held_of_items P (item ∷ items) [] m all = absurd m
held_of_items P (item ∷ items) (h ∷ held) m all = (record { item = item; matches = m.0; has = all.0 }, held_of_items P items held m.1 all.1)

-- ---- transactions

pub transaction_is : (sessions : List LiveSession) (label : ℕ) → transaction_in label (map live_state sessions) ≡ option_map without_snapshot (option_and_then (λ (s : LiveSession). s.transaction) (find (λ (s : LiveSession). s.label == label) sessions))
transaction_is sessions label = ap (option_and_then (λ (s : LiveState). s.transaction)) (find_map live_state (λ (s : LiveState). s.label == label) sessions) ∙ at (find (λ (s : LiveSession). s.label == label) sessions)
  where
    at : (o : Option LiveSession) → option_and_then (λ (s : LiveState). s.transaction) (option_map live_state o) ≡ option_map without_snapshot (option_and_then (λ (s : LiveSession). s.transaction) o)
    at None = refl
    at (Some s) = refl

above : (m n : ℕ) → m < n → nat_lt m n ≡ true
above m n h = grind (arith, nat_tests, h)

elsewhere : (at begin : ℕ) → at ≢ begin → not (at == begin) ≡ true
elsewhere at begin differ = by_test (at == begin) (λ e. absurd (differ (eqb-true at begin e))) (λ e. ap not e)

-- ---- places

open_in : (item : PastChange) (o : Option Transaction) → IsOpenIn item o → is_open_in item.number item.level (option_map without_snapshot o) ≡ true
open_in item None h = absurd h
open_in item (Some t) h = and_from (nat_lt t.begin item.number) (nat_le item.level t.levels) (above t.begin item.number h.0) (at_most item.level t.levels h.2)

behind : (at : ℕ) (o : Option Transaction) → IfSome o (λ t. at < t.begin) → begins_behind at (option_map without_snapshot o) ≡ true
behind at None h = refl
behind at (Some t) h = above at t.begin h

not_there : (at : ℕ) (o : Option Transaction) → IfSome o (λ t. at ≢ t.begin) → begins_elsewhere at (option_map without_snapshot o) ≡ true
not_there at None h = refl
not_there at (Some t) h = elsewhere at t.begin h

all_elsewhere : (at : ℕ) (state : DatabaseState) → EachTwo LabelsRise state.sessions → ((session : ℕ) → IfSome (transaction_of state session) (λ t. at ≢ t.begin)) → list_all (λ (s : LiveState). begins_elsewhere at s.transaction) (map live_state state.sessions) ≡ true
all_elsewhere at state rise each =
    all_listed (λ (s : LiveState). begins_elsewhere at s.transaction) (map live_state state.sessions)
    (all_map (λ (s : LiveState). begins_elsewhere at s.transaction ≡ true) live_state state.sessions
    (all_weaker (λ (s : LiveSession). live_session state s.label ≡ Some s) (λ (s : LiveSession). begins_elsewhere at (option_map without_snapshot s.transaction) ≡ true) one state.sessions
    (found_each (λ (s : LiveSession). s.label) state.sessions (each_weaker LabelsRise (λ (s u : LiveSession). (s.label == u.label) ≡ false) (λ s u low. differ s.label u.label low) state.sessions rise))))
  where
    differ : (m n : ℕ) → m < n → (m == n) ≡ false
    differ m n h = grind (arith, nat_tests, h)

    one : (s : LiveSession) → live_session state s.label ≡ Some s → begins_elsewhere at (option_map without_snapshot s.transaction) ≡ true
    one s found = not_there at s.transaction (subst (λ (o : Option LiveSession). IfSome (option_and_then (λ (x : LiveSession). x.transaction) o) (λ t. at ≢ t.begin)) found (each s.label))

abbrev IsPlacedIn : DatabaseState → PastChange → Type 0
IsPlacedIn state item = IsPlaced state.number state.tables (transaction_of state) item

placed_by : (number : ℕ) (state : DatabaseState) → EachTwo LabelsRise state.sessions → state.number ≡ number → (longs : TableValues) (h : HeldChange) (item : PastChange) → Matches item (held_record_in longs h) → (s : Status) → IsPlacedBy state.number (transaction_of state) item s
    → is_placed number (map live_state state.sessions) h s ≡ true
placed_by number state rise count longs h item m uncommitted p =
    (λ i. is_open_in (m.number i) (m.level i) (transaction_in (m.session i) (map live_state state.sessions)))
    ∙ ap (is_open_in item.number item.level) (transaction_is state.sessions item.session) ∙ open_in item (transaction_of state item.session) p
placed_by number state rise count longs h item m (committed at) p =
    and_from (nat_lt h.number at && nat_le at number) (begins_behind at (transaction_in h.session (map live_state state.sessions)) && list_all (λ (s : LiveState). begins_elsewhere at s.transaction) (map live_state state.sessions))
    (and_from (nat_lt h.number at) (nat_le at number) (ap (λ (n : ℕ). nat_lt n at) m.number ∙ above item.number at p.0) (ap (nat_le at) (sym count) ∙ at_most at state.number p.1))
    (and_from (begins_behind at (transaction_in h.session (map live_state state.sessions))) (list_all (λ (s : LiveState). begins_elsewhere at s.transaction) (map live_state state.sessions))
    (ap (λ (n : ℕ). begins_behind at (transaction_in n (map live_state state.sessions))) m.session ∙ ap (begins_behind at) (transaction_is state.sessions item.session) ∙ behind at (transaction_of state item.session) p.2)
    (all_elsewhere at state rise p.3))
placed_by number state rise count longs h item m undone p = refl

-- ---- the table of a change

sum_adds : (table : Table) (k : ChangeKind) → AddsToEscrow (schema_of table) k → adds_to_sum table k ≡ true
sum_adds table kind.Put h = refl
sum_adds table kind.Drop h = refl
sum_adds table kind.Hold h = refl
sum_adds table (kind.Add column amount) h = h

drop_has : (k : ChangeKind) (before : Option (List ℕ)) → (k ≡ kind.Drop → is_some before ≡ true) → before ≡ None → not (is_drop k) ≡ true
drop_has kind.Put before h e = refl
drop_has kind.Drop before h e = impossible (ap is_some (sym e) ∙ h refl)
drop_has kind.Hold before h e = refl
drop_has (kind.Add column amount) before h e = refl

-- the record before a put or a drop stands under its bookmark
abbrev HasOwnBefore : DatabaseState → PastChange → Type 0
HasOwnBefore state item = IfSome (table_with_id state.tables (changed_table item.change)) (λ table. HasBoth StandsUnder state.number (schema_of table) item)

hidden_row : (number : ℕ) (state : DatabaseState) → state.number ≡ number → (longs : TableValues) (table : Table) (u : IsOfState state.tables table) (h : HeldChange) → h.table ≡ table.id → is_undone h.status ≡ false → held_changes.is_rewrite h.kind ≡ true
    → (bytes : List ℕ) → h.before ≡ Some bytes → (item : PastChange) → Matches item (held_record_in longs h) → HasOwnBefore state item → HasHiddenKey number table h.bookmark
hidden_row number state count longs table u h same stands rewrites bytes before item m both =
    let here = subst (λ (o : Option Table). IfSome o (λ t. HasBoth StandsUnder state.number (schema_of t) item)) (ap (table_with_id state.tables) (sym m.table ∙ same) ∙ u.found) both in
    let own = hidden_before state.number number u.own table count u.same h.bookmark item.before (subst (λ (b : List ℕ). IfSome item.before (StandsUnder state.number (schema_of u.own) b)) (sym m.bookmark) here.0) in
    subst (λ (o : Option RecordFields). IfSome o (λ _. HasHiddenKey number table h.bookmark)) (sym (m.before (ap (λ s. not (is_undone s)) (sym m.status) ∙ ap not stands) (sym (same_rewrite item.change) ∙ ap held_changes.is_rewrite (sym m.kind) ∙ rewrites)) ∙ is_record) own
  where
    is_record : (if held_changes.is_rewrite h.kind && not (is_undone h.status) then option_map (record_of (longs h.table)) h.before else None) ≡ Some (record_of (longs h.table) bytes)
    is_record = (λ i. if rewrites i && not (stands i) then option_map (record_of (longs h.table)) (before i) else None)

sound_before : (number : ℕ) (t : TableContents) (h : HeldChange) → is_undone h.status ≡ false → (o : Option (List ℕ)) → (held_changes.is_rewrite h.kind ≡ false → o ≡ None) → (h.kind ≡ kind.Drop → is_some o ≡ true)
    → (held_changes.is_rewrite h.kind ≡ true → IfSome o (λ bytes. is_row_under number (long_values t) t.table h.bookmark bytes ≡ true)) → is_sound_before number t h o ≡ true
sound_before number t h stands None other drop row = ap (λ (b : Bool). b || not (is_drop h.kind)) stands ∙ drop_has h.kind None drop refl
sound_before number t h stands (Some bytes) other drop row = by_test (held_changes.is_rewrite h.kind) yes_it (λ e. impossible (sym (ap is_some (other e))))
  where
    yes_it : held_changes.is_rewrite h.kind ≡ true → is_sound_before number t h (Some bytes) ≡ true
    yes_it e =
        and_from (held_changes.is_rewrite h.kind) (is_sound_row_before number t h bytes) e
        (ap (λ (b : Bool). if b then is_short_row bytes && row_fits t.table.columns (row_in bytes) else is_row_under number (long_values t) t.table h.bookmark bytes) stands ∙ row e)

-- ---- one change

abbrev IsKnownItem : DatabaseState → PastChange → Type 0
IsKnownItem state item = IsPlacedIn state item × HasOwnBefore state item

abbrev pub IsKnownTable : OwnStore → TableContents → Type 0
IsKnownTable store t = HasOwnContents store.trees.tables t × IsOfCatalog store t

sound_of : (sessions : List LiveState) (store : OwnStore) → IsOwnEngine sessions store → (t : TableContents) → IsKnownTable store t → (h : HeldChange) → h.table ≡ t.table.id → is_undone h.status ≡ false
    → IsKeptChange (table_long_values store.trees.tables) store.catalog.tables store.trees.tables h → IsHeldOf (IsKnownItem store.state) (held_record_in (table_long_values store.trees.tables) h) → is_sound_of store.number h (Some t) ≡ true
sound_of sessions store own t known h same stands kept of_item =
    and_from (adds_to_sum t.table h.kind) (is_sound_before store.number t h h.before)
    (sum_adds t.table h.kind (subst (λ (o : Option Table). IfSome o (λ table. AddsToEscrow (schema_of table) h.kind)) found kept.sum))
    (sound_before store.number t h stands h.before kept.other (λ e. kept.drop (standing_is (ap held_changes.is_rewrite e)) e) (λ e. row h.before refl e (rows (standing_is e))))
  where
    longs : TableValues
    longs = table_long_values store.trees.tables

    found : table_with_id store.catalog.tables h.table ≡ Some t.table
    found = ap (table_with_id store.catalog.tables) same ∙ known.1

    standing_is : held_changes.is_rewrite h.kind ≡ true → held_changes.is_standing h ≡ true
    standing_is e = and_from (held_changes.is_rewrite h.kind) (not (is_undone h.status)) e (ap not stands)

    rows : held_changes.is_standing h ≡ true → IfSome h.before (IsRowUnder (table_long_values store.trees.tables h.table) t.table h.bookmark)
    rows e = subst (λ (o : Option Table). IfSome o (λ table. IfSome h.before (IsRowUnder (table_long_values store.trees.tables h.table) table h.bookmark))) (ap (table_with_id store.catalog.tables) same ∙ known.1) (kept.before e)

    row : (o : Option (List ℕ)) → h.before ≡ o → held_changes.is_rewrite h.kind ≡ true → IfSome o (IsRowUnder (table_long_values store.trees.tables h.table) t.table h.bookmark) → IfSome o (λ bytes. is_row_under store.number (long_values t) t.table h.bookmark bytes ≡ true)
    row None e rewrites under = tt
    row (Some bytes) e rewrites under =
        row_is_under store.number (long_values t) t.table h.bookmark bytes
        (subst (λ (v : Values). IsRowUnder v t.table h.bookmark bytes) (ap (table_long_values store.trees.tables) same ∙ sym known.0.long_values) under)
        (hidden_row store.number store.state own.holds.number (table_long_values store.trees.tables) t.table (of_state store.state.tables t.table (ap (λ c. table_with_id c.tables t.table.id) own.kept.catalog ∙ known.1)) h same stands rewrites bytes e of_item.item of_item.matches of_item.has.1)

sound_change : WalkLaws → (sessions : List LiveState) (store : OwnStore) → IsOwnEngine sessions store → (h : HeldChange) → IsKeptChange (table_long_values store.trees.tables) store.catalog.tables store.trees.tables h
    → IsHeldOf (IsKnownItem store.state) (held_record_in (table_long_values store.trees.tables) h) → is_undone h.status ≡ false → is_sound_change store.number (contents_of store) sessions h ≡ true
sound_change walks sessions store own h kept of_item stands =
    and_from (nat_le h.number store.number) (is_placed store.number sessions h h.status && is_sound_of store.number h (contents_with_id (contents_of store) h.table))
    (ap (λ (n : ℕ). nat_le n store.number) of_item.matches.number ∙ ap (nat_le of_item.item.number) (sym own.holds.number) ∙ at_most of_item.item.number store.state.number of_item.has.0.0)
    (and_from (is_placed store.number sessions h h.status) (is_sound_of store.number h (contents_with_id (contents_of store) h.table))
    (ap (λ (l : List LiveState). is_placed store.number l h h.status) (sym own.holds.sessions)
    ∙ placed_by store.number store.state own.holds.labels own.holds.number (table_long_values store.trees.tables) h of_item.item of_item.matches h.status
    (subst (λ (s : Status). IsPlacedBy store.state.number (transaction_of store.state) of_item.item s) (sym of_item.matches.status) of_item.has.0.2))
    (shown (contents_with_id (contents_of store) h.table) refl))
  where
    shown : (o : Option TableContents) → contents_with_id (contents_of store) h.table ≡ o → is_sound_of store.number h o ≡ true
    shown None e = impossible (ap is_some (sym e) ∙ shown_there sessions store own h.table ∙ there (table_with_id store.state.tables h.table) (sym (find_map (λ (x : Table). record x { rows = [] }) (λ (x : Table). x.id == h.table) store.state.tables)) kept.named)
      where
        there : (o : Option Table) → option_map (λ (x : Table). record x { rows = [] }) o ≡ table_with_id (map (λ (x : Table). record x { rows = [] }) store.state.tables) h.table → is_some (table_with_id store.catalog.tables h.table) ≡ true → is_some o ≡ true
        there None e named = ap is_some e ∙ ap (λ c. is_some (table_with_id c.tables h.table)) own.kept.catalog ∙ named
        there (Some x) e named = refl
    shown (Some t) e =
        sound_of sessions store own t
        (of_found (IsKnownTable store) (λ (x : TableContents). x.table.id == h.table) (contents_of store) t e
        (all_both (HasOwnContents store.trees.tables) (IsOfCatalog store) (IsKnownTable store) (λ t contents is. (contents, is)) (contents_of store) (own_contents walks store own.kept) (of_catalog store own.kept)))
        h (sym (eqb-true t.table.id h.table (found_passes (λ (x : TableContents). x.table.id == h.table) (contents_of store) t e))) stands kept of_item

-- ---- all of them

pub own_changes_sound : WalkLaws → (sessions : List LiveState) (store : OwnStore) → IsOwnEngine sessions store → list_all (is_sound_change store.number (contents_of store) sessions) (standing store.held) ≡ true
own_changes_sound walks sessions store own =
    let longs = table_long_values store.trees.tables in
    all_listed (is_sound_change store.number (contents_of store) sessions) (standing store.held)
    (each_standing (λ h. is_sound_change store.number (contents_of store) sessions h ≡ true) store.held
    (all_both (IsKeptChange longs store.catalog.tables store.trees.tables) (λ h. IsHeldOf (IsKnownItem store.state) (held_record_in longs h)) (λ h. is_undone h.status ≡ false → is_sound_change store.number (contents_of store) sessions h ≡ true)
    (sound_change walks sessions store own) store.held own.kept.kept.kept.changes
    (unmapped (IsHeldOf (IsKnownItem store.state)) (held_record_in longs) store.held
    (held_of_items (IsKnownItem store.state) own.holds.kept (map (held_record_in longs) store.held) own.holds.holds.held
    (all_both (IsPlacedIn store.state) (HasOwnBefore store.state) (IsKnownItem store.state) (λ item a b. (a, b)) own.holds.kept own.holds.holds.history.keeps.placed own.holds.reached.bookmarks.records.changes)))))
