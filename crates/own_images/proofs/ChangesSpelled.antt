-- The held changes of an own engine that stand are ones that entries of the log can tell.
use Rattle.std.proofs.Common.{◌≡◌, ℕ, ◌≤◌, ◌<◌, ◌+◌, ◌^◌, Bool, true, false, ◌&&◌, ◌||◌, List, [], ◌∷◌, ◌++◌, length, Option, Some, None, refl, sym, ap, subst, ◌∙◌, arith}
use Rattle.std.specs.Prelude.{ℤ, pos, negsuc, ◌==◌, FitsSigned, IfSome, find, is_none, is_some, map, nat_le, nat_lt, not, option_map, if◌then◌else◌}
use Rattle.std.specs.Int.{cast_unsigned, to_le_bytes, w16, w32}
use Rattle.std.specs.List.{AllByRecursion}
use Rattle.std.proofs.lemmas.Bool.{and_from, and_parts, eqb-true, leb-true}
use Rattle.std.proofs.lemmas.Bool.Decides.{nat_tests}
use Rattle.std.proofs.lemmas.List.{length-append}
use Rattle.std.proofs.lemmas.List.Elements.{recursion_from_All}
use Rattle.btree_inplace.specs.Order.{get_in, has_key}
use Rattle.column_set.specs.ChangedRecords.{changed_table}
use Rattle.column_set.specs.RecordValues.{column_of_id}
use Rattle.column_set.specs.declared.changes.Change.{Change}
use Rattle.column_set.specs.declared.changes.Change.TheVariants.{Put, Drop, Hold, Add}
use Rattle.column_set.specs.declared.columns.Column.{Column}
use Rattle.common_lemmas.proofs.Booleans.{and_left, and_right, impossible}
use Rattle.common_lemmas.proofs.Found.{found_passes, of_found}
use Rattle.common_lemmas.proofs.Lists.{all_filter, all_parted}
use Rattle.common_lemmas.proofs.Numbers.{self_equal}
use Rattle.database_state.specs.Lawful.{is_name}
use Rattle.database_state.specs.SchemaChanges.{is_long_column, is_type_long}
use Rattle.database_state.specs.State.{DatabaseState, PastChange, is_undone, transaction_of}
use Rattle.database_state.specs.Table.{Table, schema_of, table_with_id}
use Rattle.index_derive.specs.declared.log.Entry.{Entry}
use Rattle.jet_base.specs.TypeKinds.{is_long_type, is_variable_type}
use Rattle.jet_base.specs.declared.words.ColType.{ColType}
use Rattle.laws_images.specs.SoundStates.{HasSoundCatalog, IsLabel, IsOfEntry, IsSoundTable, is_number_of_kind, is_sound_column}
use Rattle.laws_versions.specs.History.{IsPlaced}
use Rattle.laws_versions.specs.RecordNumbers.{AddsToEscrow}
use Rattle.live_part.specs.LiveBytes.{bare_change, entry_of, standing}
use Rattle.log_grammar.specs.EntryBytes.{amount_fits, bookmark_bytes, bookmark_fits, change_bytes, change_fits, copied_bytes, copied_fits, entry_rest, has_spelling, kind_bytes, kind_fits, record_bytes, record_fits}
use Rattle.page_image.specs.Page.{Node}
use Rattle.stored_variants.proofs.NodeRecords.{key_is}
use Rattle.stored_variants.specs.RecordRows.{held_record_in}
use Rattle.table_trees.specs.StoredNodes.{IsShortNode}
use Rattle.table_trees.specs.StoredTables.{table_long_values, table_nodes}
use Rattle.version_cleanup.specs.LiveSessions.{LiveState}
use Rattle.version_store.specs.HeldChanges.{HeldChange, kind_of}
use Rattle.version_store.specs.declared.calls.ChangeKind.{ChangeKind}
use Rattle.version_store.specs.declared.calls.ChangeKind.TheVariants as kind
use Rattle.image_findings.specs.RowFindings.{lacks_node}
use Rattle.image_findings.specs.TableContents.{TableContents, contents_with_id}
use Rattle.own_images.proofs.ChangesSound.{IsHeldOf, IsKnownTable, held_of_items}
use Rattle.own_images.proofs.Contents.{own_contents}
use Rattle.own_images.proofs.Differing.{all_both}
use Rattle.own_images.proofs.LiveFits.{below_by, table_fits}
use Rattle.own_images.proofs.Missing.{IsOfCatalog, of_catalog}
use Rattle.own_images.proofs.OwnRows.{at_most}
use Rattle.own_images.proofs.RowsSound.{NewestLaw, own_changes, unmapped}
use Rattle.own_images.proofs.SessionsSound.{shown_there}
use Rattle.own_images.proofs.Walked.{WalkLaws}
use Rattle.own_images.specs.OwnContents.{HasOwnContents}
use Rattle.own_images.specs.OwnEngines.{IsOwnEngine}
use Rattle.own_images.specs.OwnStores.{OwnStore, contents_of}

-- ---- sums

-- a column's number fits 16 bits
number_small : (type : ColType) (tagged : Bool) (id : ℕ) → is_number_of_kind type tagged id ≡ true → nat_lt id (2 ^ 16) ≡ true
number_small type tagged id h = by (tagged || is_long_type type) (is_variable_type type) h
  where
    within : (low high : ℕ) → (nat_le low id && nat_le id high) ≡ true → nat_lt high (2 ^ 16) ≡ true → nat_lt id (2 ^ 16) ≡ true
    within low high e small = below_by id high (2 ^ 16) (leb-true id high (and_right (nat_le low id) (nat_le id high) e)) small

    by : (a b : Bool) → (if a then nat_le 256 id && nat_le id 511 else if b then nat_le 128 id && nat_le id 255 else nat_le 1 id && nat_le id 127) ≡ true → nat_lt id (2 ^ 16) ≡ true
    by true b e = within 256 511 e refl
    by false true e = within 128 255 e refl
    by false false e = within 1 127 e refl

column_small : (c : Column) → is_sound_column c ≡ true → nat_lt c.id.0 (2 ^ 16) ≡ true
column_small c h =
    let named = is_name c.name in
    let number = is_number_of_kind c.kind c.tagged c.id.0 in
    let long = c.tagged || not (is_long_column c) in
    let many = not c.multi || c.tagged in
    let sum = not c.escrow || (is_type_long c.kind && (not c.tagged && not c.multi)) in
    number_small c.kind c.tagged c.id.0 (and_right named number (and_left (named && number) long (and_left (named && number && long) many (and_left (named && number && long && many) sum h))))

escrow_small : (columns : List Column) → AllByRecursion (λ column. is_sound_column column ≡ true) columns → (id : ℕ) → elim (column_of_id columns id) [ Some column ↦ column.escrow | None ↦ false ] ≡ true → nat_lt id (2 ^ 16) ≡ true
escrow_small columns sound id h = by (column_of_id columns id) refl h
  where
    by : (o : Option Column) → column_of_id columns id ≡ o → elim o [ Some column ↦ column.escrow | None ↦ false ] ≡ true → nat_lt id (2 ^ 16) ≡ true
    by None e f = impossible f
    by (Some c) e f =
        ap (λ (n : ℕ). nat_lt n (2 ^ 16)) (sym (eqb-true c.id.0 id (found_passes (λ (x : Column). x.id.0 == id) columns c e)))
        ∙ column_small c (of_found (λ column. is_sound_column column ≡ true) (λ (x : Column). x.id.0 == id) columns c e sound)

amount_small : (amount : ℤ) → FitsSigned w32 amount → amount_fits amount ≡ true
amount_small (pos n) h = by n h.sfits
  where
    by : (n : ℕ) → n < 2 ^ 31 → nat_lt n (2 ^ 31) ≡ true
    by n h = grind (arith, nat_tests)
amount_small (negsuc n) h = by n h.sfits
  where
    by : (n : ℕ) → n < 2 ^ 31 → nat_lt n (2 ^ 31) ≡ true
    by n h = grind (arith, nat_tests)

-- a sum that an entry can tell
abbrev IsSmallKind : ChangeKind → Type 0
IsSmallKind kind.Put = Unit {0}
IsSmallKind kind.Drop = Unit {0}
IsSmallKind kind.Hold = Unit {0}
IsSmallKind (kind.Add column amount) = (nat_lt column.0 (2 ^ 16) && amount_fits amount) ≡ true

kind_small : (table : Table) → IsSoundTable table → (c : Change) → AddsToEscrow (schema_of table) c → IsSmallKind (kind_of c)
kind_small table sound (Put t b copied values) h = tt
kind_small table sound (Drop t b) h = tt
kind_small table sound (Hold t b) h = tt
kind_small table sound (Add t b column amount) h = and_from (nat_lt column.0 (2 ^ 16)) (amount_fits amount) (escrow_small table.columns sound.columns column.0 h.0) (amount_small amount h.1)

-- what is told of a kept change: its table is there, a sum of it adds a number of 32 bits to an escrow column, and its session has a label
abbrev IsNamed : DatabaseState → PastChange → Type 0
IsNamed state item = (is_some (table_with_id state.tables (changed_table item.change)) ≡ true) × IfSome (table_with_id state.tables (changed_table item.change)) (λ table. AddsToEscrow (schema_of table) item.change) × IsLabel item.session

item_small : (state : DatabaseState) → HasSoundCatalog state → (item : PastChange) → IsNamed state item → IsSmallKind (kind_of item.change)
item_small state catalog item named = by (table_with_id state.tables (changed_table item.change)) named.0 named.1 (catalog.tables (changed_table item.change))
  where
    by : (o : Option Table) → is_some o ≡ true → IfSome o (λ table. AddsToEscrow (schema_of table) item.change) → IfSome o IsSoundTable → IsSmallKind (kind_of item.change)
    by None there adds sound = impossible there
    by (Some table) there adds sound = kind_small table sound item.change adds

-- ---- bookmarks

from_one : (n : ℕ) → 0 < n → nat_le 1 n ≡ true
from_one n h = grind (arith, nat_tests, h)

-- a bookmark that has a node has 1 to 255 bytes
node_fits : (nodes : List Node) → AllByRecursion IsShortNode nodes → (bookmark : List ℕ) → is_none (get_in nodes bookmark) ≡ false → bookmark_fits bookmark ≡ true
node_fits nodes all bookmark h = by (find (has_key bookmark) nodes) refl h
  where
    by : (o : Option Node) → find (has_key bookmark) nodes ≡ o → is_none (option_map (λ (n : Node). n.data) o) ≡ false → bookmark_fits bookmark ≡ true
    by None e f = impossible (sym f)
    by (Some n) e f =
        let short : IsShortNode n = of_found IsShortNode (has_key bookmark) nodes n e all in
        subst (λ (b : List ℕ). bookmark_fits b ≡ true) (key_is n.key bookmark (found_passes (has_key bookmark) nodes n e))
        (and_from (nat_le 1 (length n.key)) (nat_le (length n.key) 255) (from_one (length n.key) short.some) (at_most (length n.key) 255 short.bookmark))

-- ---- bytes

-- a change that can be written, and is short
record IsSpelled (change : Change) : Type 0 where
  fits : change_fits change ≡ true
  short : length (change_bytes change) ≤ 300

bookmark_most : (bookmark : List ℕ) → bookmark_fits bookmark ≡ true → length (bookmark_bytes bookmark) ≤ 257
bookmark_most bookmark h =
    let short : length bookmark ≤ 255 = leb-true (length bookmark) 255 (and_parts (nat_le 1 (length bookmark)) (nat_le (length bookmark) 255) h).1 in
    omega (arith, short, length-append (to_le_bytes w16 (length bookmark)) bookmark)

both_most : (xs ys : List ℕ) (m n : ℕ) → length xs ≤ m → length ys ≤ n → length (xs ++ ys) ≤ m + n
both_most xs ys m n h g = omega (arith, h, g, length-append xs ys)

with_table : (table : ℕ) (rest : List ℕ) (most : ℕ) → length rest ≤ most → most ≤ 290 → length (to_le_bytes w32 table ++ rest) ≤ 300
with_table table rest most h le = omega (arith, h, le, length-append (to_le_bytes w32 table) rest)

bare_spelled : (k : ChangeKind) (table : ℕ) (bookmark : List ℕ) → nat_lt table (2 ^ 32) ≡ true → bookmark_fits bookmark ≡ true → IsSmallKind k → IsSpelled (bare_change k table bookmark)
bare_spelled kind.Put table bookmark low fits small = record {
  fits = and_from (nat_lt table (2 ^ 32)) (bookmark_fits bookmark && (copied_fits None && record_fits [])) low (and_from (bookmark_fits bookmark) (copied_fits None && record_fits []) fits refl);
  short = with_table table (bookmark_bytes bookmark ++ (copied_bytes None ++ record_bytes [])) (257 + 3) (both_most (bookmark_bytes bookmark) (copied_bytes None ++ record_bytes []) 257 3 (bookmark_most bookmark fits) (omega arith)) (omega arith);
}
bare_spelled kind.Drop table bookmark low fits small = record {
  fits = and_from (nat_lt table (2 ^ 32)) (bookmark_fits bookmark) low fits;
  short = with_table table (bookmark_bytes bookmark) 257 (bookmark_most bookmark fits) (omega arith);
}
bare_spelled kind.Hold table bookmark low fits small = record {
  fits = and_from (nat_lt table (2 ^ 32)) (bookmark_fits bookmark) low fits;
  short = with_table table (bookmark_bytes bookmark) 257 (bookmark_most bookmark fits) (omega arith);
}
bare_spelled (kind.Add column amount) table bookmark low fits small = record {
  fits = and_from (nat_lt table (2 ^ 32)) (bookmark_fits bookmark && (nat_lt column.0 (2 ^ 16) && amount_fits amount)) low (and_from (bookmark_fits bookmark) (nat_lt column.0 (2 ^ 16) && amount_fits amount) fits small);
  short = with_table table (bookmark_bytes bookmark ++ (to_le_bytes w16 column.0 ++ to_le_bytes w32 (cast_unsigned w32 amount))) (257 + 6)
      (both_most (bookmark_bytes bookmark) (to_le_bytes w16 column.0 ++ to_le_bytes w32 (cast_unsigned w32 amount)) 257 6 (bookmark_most bookmark fits) (omega arith)) (omega arith);
}

rest_size : (made : Entry) → length (entry_rest made) ≡ 5 + length (kind_bytes made.kind)
rest_size made = omega (arith, length-append (to_le_bytes w32 made.session.0) (kind_bytes made.kind))

told : (h : HeldChange) → IsLabel h.session → IsSpelled (bare_change h.kind h.table h.bookmark) → has_spelling (entry_of h) ≡ true
unfolding has_spelling
told h label is =
    and_from (nat_le 1 h.session && nat_le h.session 99) (kind_fits (entry_of h).kind && nat_lt (length (entry_rest (entry_of h))) (2 ^ 32)) (and_from (nat_le 1 h.session) (nat_le h.session 99) (at_most 1 h.session label.0) (at_most h.session 99 label.1))
    (and_from (kind_fits (entry_of h).kind) (nat_lt (length (entry_rest (entry_of h))) (2 ^ 32)) is.fits (low (length (entry_rest (entry_of h))) (length (kind_bytes (entry_of h).kind)) (rest_size (entry_of h)) is.short))
  where
    low : (n k : ℕ) → n ≡ 5 + k → k ≤ 300 → nat_lt n (2 ^ 32) ≡ true
    low n k e h = grind (arith, nat_tests)

-- ---- one change

-- it has a node in each table that is shown under its number
abbrev HasNodes : OwnStore → HeldChange → Type 0
HasNodes store h = (t : TableContents) → IsKnownTable store t → lacks_node t h ≡ false

bookmark_small : (sessions : List LiveState) (store : OwnStore) → IsOwnEngine sessions store → ((t : TableContents) → contents_with_id (contents_of store) t.table.id ≡ Some t → IsKnownTable store t) → (h : HeldChange) → is_some (table_with_id store.state.tables h.table) ≡ true → HasNodes store h
    → bookmark_fits h.bookmark ≡ true
bookmark_small sessions store own known h there nodes = by (contents_with_id (contents_of store) h.table) refl (shown_there sessions store own h.table ∙ there)
  where
    by : (o : Option TableContents) → contents_with_id (contents_of store) h.table ≡ o → is_some o ≡ true → bookmark_fits h.bookmark ≡ true
    by None e f = impossible f
    by (Some t) e f =
        let same : t.table.id ≡ h.table = eqb-true t.table.id h.table (found_passes (λ (x : TableContents). x.table.id == h.table) (contents_of store) t e) in
        let is = known t (ap (contents_with_id (contents_of store)) same ∙ e) in
        node_fits t.nodes (subst (AllByRecursion IsShortNode) (sym is.0.nodes) (recursion_from_All IsShortNode (table_nodes store.trees.tables t.table.id) (own.short t.table.id))) h.bookmark
        (sym (ap (λ (b : Bool). b && is_none (get_in t.nodes h.bookmark)) (ap (λ (n : ℕ). h.table == n) same ∙ self_equal h.table)) ∙ nodes t is)

change_told : (sessions : List LiveState) (store : OwnStore) → IsOwnEngine sessions store → ((t : TableContents) → contents_with_id (contents_of store) t.table.id ≡ Some t → IsKnownTable store t) → (h : HeldChange) → IsHeldOf (IsNamed store.state) (held_record_in (table_long_values store.trees.tables) h)
    → HasNodes store h → has_spelling (entry_of h) ≡ true
change_told sessions store own known h of_item nodes =
    let there : is_some (table_with_id store.state.tables h.table) ≡ true = ap (λ (n : ℕ). is_some (table_with_id store.state.tables n)) of_item.matches.table ∙ of_item.has.0 in
    told h (subst IsLabel (sym of_item.matches.session) of_item.has.2)
    (bare_spelled h.kind h.table h.bookmark (table_fits store.state own.holds.reached.order.given own.kept.sound.greatest h.table there) (bookmark_small sessions store own known h there nodes)
    (subst IsSmallKind (sym of_item.matches.kind) (item_small store.state own.kept.sound of_item.item of_item.has)))

-- ---- all of them

-- what is so of all, for each of some others
each_of : {X Y : Type 0} (K : Y → Type 0) (Q : Y → X → Type 0) (xs : List X) → ((y : Y) → K y → AllByRecursion (Q y) xs) → AllByRecursion (λ x. (y : Y) → K y → Q y x) xs
each_of K Q [] all = tt
each_of K Q (x ∷ xs) all = ((λ y k. (all y k).0), each_of K Q xs (λ y k. (all y k).1))

pub own_told : WalkLaws → NewestLaw → (sessions : List LiveState) (store : OwnStore) → IsOwnEngine sessions store → AllByRecursion (λ h. has_spelling (entry_of h) ≡ true) (standing store.held)
own_told walks law sessions store own =
    let h = own.holds in
    let longs = table_long_values store.trees.tables in
    let adds = λ (item : PastChange). IfSome (table_with_id store.state.tables (changed_table item.change)) (λ table. AddsToEscrow (schema_of table) item.change) in
    let entries = (all_parted IsOfEntry h.dropped h.kept (subst (AllByRecursion IsOfEntry) h.holds.history.past own.within.entries)).1 in
    let all = all_both (HasOwnContents store.trees.tables) (IsOfCatalog store) (IsKnownTable store) (λ t contents is. (contents, is)) (contents_of store) (own_contents walks store own.kept) (of_catalog store own.kept) in
    let items = unmapped (IsHeldOf (IsNamed store.state)) (held_record_in longs) store.held
    (held_of_items (IsNamed store.state) h.kept (map (held_record_in longs) store.held) h.holds.held
    (all_both (IsPlaced store.state.number store.state.tables (transaction_of store.state)) (λ item. adds item × IsOfEntry item) (IsNamed store.state) (λ item placed more. (placed.1, more.0, more.1.1)) h.kept h.holds.history.keeps.placed
    (all_both adds IsOfEntry (λ item. adds item × IsOfEntry item) (λ item a b. (a, b)) h.kept h.reached.numbers.sums entries))) in
    all_both (λ x. IsHeldOf (IsNamed store.state) (held_record_in longs x)) (HasNodes store) (λ x. has_spelling (entry_of x) ≡ true)
    (change_told sessions store own (λ t e. of_found (IsKnownTable store) (λ (x : TableContents). x.table.id == t.table.id) (contents_of store) t e all)) (standing store.held)
    (all_filter (λ x. IsHeldOf (IsNamed store.state) (held_record_in longs x)) (λ (x : HeldChange). not (is_undone x.status)) store.held items)
    (each_of (IsKnownTable store) (λ t x. lacks_node t x ≡ false) (standing store.held) (λ t is. own_changes law sessions store t (record { own = own; contents = is.0; is = is.1 })))
