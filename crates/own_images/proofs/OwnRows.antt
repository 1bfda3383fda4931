-- Each node of an own engine's tables is sound, and each record that a held change is of has one.
use Rattle.std.proofs.Common.{◌≡◌, ℕ, ◌≤◌, ◌<◌, Bool, true, false, not, ◌&&◌, ◌||◌, List, [], ◌∷◌, ◌++◌, length, Option, Some, None, refl, ap, subst, ◌∙◌, arith}
use Rattle.std.specs.Prelude.{◌==◌, IfSome, IsSomeAnd, MatchOption, bytes_eq, filter, find, is_some, map, nat_le, nat_lt, option_map, unwrap_or, if◌then◌else◌}
use Rattle.std.specs.List.{AllByRecursion, list_any}
use Rattle.std.proofs.lemmas.Bool.{and_from, eqb-true}
use Rattle.std.proofs.lemmas.Bool.Decides.{nat_tests}
use Rattle.btree_inplace.specs.Order.{has_key}
use Rattle.column_set.specs.RecordValues.{RecordFields}
use Rattle.column_set.specs.RowReading.{row_in}
use Rattle.column_set.specs.Rows.{is_row, largest_row, row_bytes}
use Rattle.common_lemmas.proofs.Booleans.{and_left, and_right, by_test}
use Rattle.common_lemmas.proofs.Lists.{all_filter, all_weaker, filter_none}
use Rattle.common_lemmas.proofs.Numbers.{equal_bytes, same_bytes}
use Rattle.database_state.specs.Lawful.{is_indexable}
use Rattle.database_state.specs.State.{is_open, is_undone}
use Rattle.database_state.specs.Table.{Table, schema_of}
use Rattle.index_derive.specs.Schemas.{primary_rule}
use Rattle.index_derive.specs.Entries.{primary_key}
use Rattle.index_derive.specs.declared.rules.IndexRule.{IndexRule}
use Rattle.laws_engine.specs.HeldRecords.{HeldRecord}
use Rattle.laws_engine.specs.HeldRecords as held_records
use Rattle.live_part.specs.LiveBytes.{standing}
use Rattle.long_value.specs.Values.{Values}
use Rattle.page_image.specs.Page.{Node}
use Rattle.stored_variants.specs.RecordRows.{TableValues, held_record_in, record_before, record_of, row_in_node}
use Rattle.stored_variants.specs.VersionsKept.{IsBookmarkOf, IsKeptChange, IsRowUnder}
use Rattle.table_trees.specs.StoredNodes.{IsShortNode}
use Rattle.table_trees.specs.StoredTables.{StoredTable, table_nodes}
use Rattle.version_store.specs.HeldChanges.{HeldChange, is_record, is_rewrite, is_standing_rewrite}
use Rattle.image_findings.specs.Images.{at_least_key}
use Rattle.image_findings.specs.Images.Finding.{Row}
use Rattle.image_findings.specs.RowFindings.{has_before, is_hidden_key, is_newest_row, is_own_bookmark, is_row_under, is_sound_node, lacks_node, lacks_room, row_finding}
use Rattle.image_findings.specs.TableContents.{TableContents, is_short_row, long_values, row_fits}
use Rattle.own_images.proofs.RowsFit.{row_fits_columns}

-- ---- rows

abbrev pub HasHiddenKey : ℕ → Table → List ℕ → Type 0
HasHiddenKey number table bookmark = primary_rule (schema_of table) ≡ None → is_hidden_key number bookmark ≡ true

own_bookmark : (number : ℕ) (table : Table) (values : RecordFields) (bookmark : List ℕ) → IsBookmarkOf table values bookmark → HasHiddenKey number table bookmark → is_own_bookmark number table values bookmark ≡ true
own_bookmark number table values bookmark own hidden = by (primary_rule (schema_of table)) refl own
  where
    by : (o : Option IndexRule) → primary_rule (schema_of table) ≡ o → MatchOption o (length bookmark ≡ 8) (λ rule. bookmark ≡ primary_key rule (schema_of table) values)
        → elim o [ Some rule ↦ bytes_eq bookmark (primary_key rule (schema_of table) values) | None ↦ is_hidden_key number bookmark ] ≡ true
    by None e h = hidden e
    by (Some rule) e h = equal_bytes bookmark (primary_key rule (schema_of table) values) h

pub at_most : (m n : ℕ) → m ≤ n → nat_le m n ≡ true
at_most m n h = grind (arith, nat_tests, h)

pub row_is_under : (number : ℕ) (values : Values) (table : Table) (bookmark bytes : List ℕ) → IsRowUnder values table bookmark bytes → HasHiddenKey number table bookmark → is_row_under number values table bookmark bytes ≡ true
row_is_under number values table bookmark bytes under hidden =
    let row = under.fits.row in
    and_from (is_short_row bytes) (row_fits table.columns (row_in bytes) && (is_indexable (schema_of table) (record_of values bytes) && is_own_bookmark number table (record_of values bytes) bookmark))
    (and_from (is_row (row_in bytes)) (bytes_eq bytes (row_bytes (row_in bytes)) && nat_le (length bytes) largest_row) row.formed
    (and_from (bytes_eq bytes (row_bytes (row_in bytes))) (nat_le (length bytes) largest_row) (equal_bytes bytes (row_bytes (row_in bytes)) row.spelled) (at_most (length bytes) largest_row row.small)))
    (and_from (row_fits table.columns (row_in bytes)) (is_indexable (schema_of table) (record_of values bytes) && is_own_bookmark number table (record_of values bytes) bookmark)
    (row_fits_columns values table.columns (row_in bytes) row.formed row.whole under.fits.columns)
    (and_from (is_indexable (schema_of table) (record_of values bytes)) (is_own_bookmark number table (record_of values bytes) bookmark) under.indexable (own_bookmark number table (record_of values bytes) bookmark under.own hidden)))

-- ---- held changes

any_standing : (test : HeldChange → Bool) → ((h : HeldChange) → is_undone h.status ≡ true → test h ≡ false) → (held : List HeldChange) → list_any test held ≡ list_any test (standing held)
any_standing test none [] = refl
any_standing test none (h ∷ held) = by (is_undone h.status) refl (any_standing test none held)
  where
    by : (b : Bool) → is_undone h.status ≡ b → list_any test held ≡ list_any test (standing held) → (test h || list_any test held) ≡ list_any test (if not b then h ∷ standing held else standing held)
    by true e rest = ap (λ (b : Bool). b || list_any test held) (none h e) ∙ rest
    by false e rest = ap (λ (b : Bool). test h || b) rest

abbrev tests_before : ℕ → List ℕ → HeldChange → Bool
tests_before table bookmark h = is_standing_rewrite table bookmark h && is_some h.before

undone_fails : (a b u : Bool) → u ≡ true → ((a && not u) && b) ≡ false
undone_fails true b u e = ap (λ (x : Bool). not x && b) e
undone_fails false b u e = refl

same_before : (longs : TableValues) (table : ℕ) (bookmark : List ℕ) (h : HeldChange) → (held_records.is_standing_rewrite table bookmark (held_record_in longs h) && is_some (record_before (longs h.table) h)) ≡ tests_before table bookmark h
same_before longs table bookmark h = at (is_record table bookmark h) (is_rewrite h.kind) (is_undone h.status) h.before
  where
    at : (r w u : Bool) (o : Option (List ℕ)) → (((r && w) && not u) && is_some (if w && not u then option_map (record_of (longs h.table)) o else None)) ≡ (((r && w) && not u) && is_some o)
    at false w u o = refl
    at true false u o = refl
    at true true true o = refl
    at true true false None = refl
    at true true false (Some bytes) = refl

pub any_before : (longs : TableValues) (table : ℕ) (bookmark : List ℕ) (held : List HeldChange)
    → list_any (λ (h : HeldRecord). held_records.is_standing_rewrite table bookmark h && is_some h.before) (map (held_record_in longs) held) ≡ has_before table bookmark (standing held)
any_before longs table bookmark held =
    each held ∙ any_standing (tests_before table bookmark) (λ h e. undone_fails (is_record table bookmark h && is_rewrite h.kind) (is_some h.before) (is_undone h.status) e) held
  where
    each : (held : List HeldChange) → list_any (λ (h : HeldRecord). held_records.is_standing_rewrite table bookmark h && is_some h.before) (map (held_record_in longs) held) ≡ list_any (tests_before table bookmark) held
    each [] = refl
    each (h ∷ held) = λ i. same_before longs table bookmark h i || each held i

-- ---- room

no_lack : (longs : TableValues) (tables : List Table) (trees : List StoredTable) (table : ℕ) (n : Node) → find (has_key n.key) (table_nodes trees table) ≡ Some n → (h : HeldChange) → IsKeptChange longs tables trees h → lacks_room n.extent table n.key h ≡ false
no_lack longs tables trees table n found h kept = by_test (lacks_room n.extent table n.key h) (λ e. absurd (never e)) (λ e. e)
  where
    fits : (o : Option (List ℕ)) (p : Option Node) → p ≡ Some n → IfSome o (λ row. IsSomeAnd (option_map (λ (x : Node). x.extent) p) (λ extent. length row ≤ extent)) → nat_lt n.extent (length (unwrap_or o [])) ≡ true → ⊥
    fits None p at room more = below n.extent more
      where
        below : (m : ℕ) → nat_lt m 0 ≡ true → ⊥
        below m e = grind (arith, nat_tests, e)
    fits (Some row) p at room more = above n.extent (length row) (subst (λ (p : Option Node). IsSomeAnd (option_map (λ (x : Node). x.extent) p) (λ extent. length row ≤ extent)) at room) more
      where
        above : (m k : ℕ) → k ≤ m → nat_lt m k ≡ true → ⊥
        above m k h e = grind (arith, nat_tests, h, e)

    never : lacks_room n.extent table n.key h ≡ true → ⊥
    never e =
        let stands = and_left (is_standing_rewrite table n.key h) (is_open h.status && nat_lt n.extent (length (unwrap_or h.before []))) e in
        let more = and_right (is_standing_rewrite table n.key h) (is_open h.status && nat_lt n.extent (length (unwrap_or h.before []))) e in
        let own = and_left (is_record table n.key h) (is_rewrite h.kind) (and_left (is_record table n.key h && is_rewrite h.kind) (not (is_undone h.status)) stands) in
        let same : h.table ≡ table = eqb-true h.table table (and_left (h.table == table) (bytes_eq h.bookmark n.key) own) in
        let key : h.bookmark ≡ n.key = same_bytes h.bookmark n.key (and_right (h.table == table) (bytes_eq h.bookmark n.key) own) in
        fits h.before (find (has_key h.bookmark) (table_nodes trees h.table)) ((λ i. find (has_key (key i)) (table_nodes trees (same i))) ∙ found) (kept.room (and_left (is_open h.status) (nat_lt n.extent (length (unwrap_or h.before []))) more))
        (and_right (is_open h.status) (nat_lt n.extent (length (unwrap_or h.before []))) more)

none_lack : (test : HeldChange → Bool) (held : List HeldChange) → AllByRecursion (λ h. test h ≡ false) held → list_any test held ≡ false
none_lack test [] all = refl
none_lack test (h ∷ held) all = (λ i. all.0 i || list_any test held) ∙ none_lack test held all.1

-- ---- nodes

short_node : (number : ℕ) (held : List HeldChange) (t : TableContents) (n : Node) → IsShortNode n → (is_some (row_in_node n.data) || has_before t.table.id n.key held) ≡ true → list_any (lacks_room n.extent t.table.id n.key) held ≡ false
    → is_newest_row number (long_values t) t.table n.key (row_in_node n.data) ≡ true → is_sound_node number held t n ≡ true
short_node number held t n short stands room newest =
    let some = is_some (row_in_node n.data) || has_before t.table.id n.key held in
    let fits = nat_le n.extent largest_row && not (list_any (lacks_room n.extent t.table.id n.key) held) in
    let row = is_newest_row number (long_values t) t.table n.key (row_in_node n.data) in
    and_from (nat_le 1 (length n.key) && nat_le (length n.key) 255) (some && (fits && row))
    (and_from (nat_le 1 (length n.key)) (nat_le (length n.key) 255) (from_one (length n.key) short.some) (at_most (length n.key) 255 short.bookmark))
    (and_from some (fits && row) stands
    (and_from fits row (and_from (nat_le n.extent largest_row) (not (list_any (lacks_room n.extent t.table.id n.key) held)) (at_most n.extent 1700 short.extent) (ap not room)) newest))
  where
    from_one : (m : ℕ) → 0 < m → nat_le 1 m ≡ true
    from_one m h = grind (arith, nat_tests, h)

-- what is known of a node of a table
pub record IsKnownNode (number : ℕ) (longs : TableValues) (tables : List Table) (trees : List StoredTable) (held : List HeldChange) (table : Table) (n : Node) : Type 0 where
  pub short : IsShortNode n
  pub found : find (has_key n.key) (table_nodes trees table.id) ≡ Some n
  pub row : IfSome (row_in_node n.data) (IsRowUnder (longs table.id) table n.key)
  pub hidden : is_some (row_in_node n.data) ≡ true → HasHiddenKey number table n.key
  pub stands : (is_some (row_in_node n.data) || has_before table.id n.key (standing held)) ≡ true

pub sound_node : (number : ℕ) (longs : TableValues) (tables : List Table) (trees : List StoredTable) (held : List HeldChange) (t : TableContents) → longs t.table.id ≡ long_values t → AllByRecursion (IsKeptChange longs tables trees) held
    → (n : Node) → IsKnownNode number longs tables trees held t.table n → is_sound_node number (standing held) t n ≡ true
sound_node number longs tables trees held t values kept n known =
    short_node number (standing held) t n known.short known.stands
    (none_lack (lacks_room n.extent t.table.id n.key) (standing held)
    (all_filter (λ h. lacks_room n.extent t.table.id n.key h ≡ false) (λ (h : HeldChange). not (is_undone h.status)) held
    (all_weaker (IsKeptChange longs tables trees) (λ h. lacks_room n.extent t.table.id n.key h ≡ false) (no_lack longs tables trees t.table.id n known.found) held kept)))
    (newest (row_in_node n.data) known.row known.hidden)
  where
    newest : (o : Option (List ℕ)) → IfSome o (IsRowUnder (longs t.table.id) t.table n.key) → (is_some o ≡ true → HasHiddenKey number t.table n.key) → is_newest_row number (long_values t) t.table n.key o ≡ true
    newest None row hidden = refl
    newest (Some bytes) row hidden = row_is_under number (long_values t) t.table n.key bytes (subst (λ (v : Values). IsRowUnder v t.table n.key bytes) values row) (hidden refl)

-- ---- the finding

no_bookmarks : {X : Type 0} (f : X → List ℕ) (test : X → Bool) (xs : List X) → AllByRecursion (λ x. test x ≡ false) xs → map f (filter test xs) ≡ []
no_bookmarks f test xs all = ap (map f) (filter_none test xs all)

pub no_row_finding : (number : ℕ) (held : List HeldChange) (t : TableContents) → AllByRecursion (λ n. is_sound_node number held t n ≡ true) t.nodes → AllByRecursion (λ h. lacks_node t h ≡ false) held → row_finding number held t ≡ None
no_row_finding number held t nodes changes =
    let unsound = no_bookmarks (λ (n : Node). n.key) (λ (n : Node). not (is_sound_node number held t n)) t.nodes (all_weaker (λ n. is_sound_node number held t n ≡ true) (λ n. not (is_sound_node number held t n) ≡ false) (λ n e. ap not e) t.nodes nodes) in
    let lacking = no_bookmarks (λ (h : HeldChange). h.bookmark) (lacks_node t) held changes in
    ap (λ (l : List (List ℕ)). at_least_key (Row t.table.name) (l ++ map (λ (h : HeldChange). h.bookmark) (filter (lacks_node t) held))) unsound
    ∙ ap (at_least_key (Row t.table.name)) lacking
