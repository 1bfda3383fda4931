-- No row of an own engine is found.
use Rattle.std.proofs.Common.{◌≡◌, ℕ, ℤ, Bool, true, false, not, ◌&&◌, ◌||◌, List, [], ◌∷◌, Option, Some, None, refl, sym, ap, subst, ◌∙◌}
use Rattle.std.specs.Prelude.{◌==◌, IfSome, filter, find, fold, is_none, is_some, map, option_and_then, option_map, if◌then◌else◌}
use Rattle.std.specs.List.{AllByRecursion}
use Rattle.std.proofs.lemmas.List.Elements.{recursion_from_All}
use Rattle.btree_inplace.specs.Order.{get_in, has_key}
use Rattle.column_set.specs.declared.changes.Change.{Change}
use Rattle.column_set.specs.declared.changes.Change.TheVariants.{Put, Drop, Hold, Add}
use Rattle.column_set.specs.ChangedRecords.{changed_table}
use Rattle.column_set.specs.RecordValues.{RecordFields}
use Rattle.common_lemmas.proofs.Booleans.{impossible}
use Rattle.common_lemmas.proofs.Finding.{find_map}
use Rattle.common_lemmas.proofs.Lists.{all_weaker}
use Rattle.database_state.specs.Changes.{with_sum}
use Rattle.database_state.specs.State.{DatabaseState, PastChange, is_undone, transaction_of}
use Rattle.database_state.specs.Table.{Rows, Table, row_at, rows_of, schema_of, table_with_id}
use Rattle.database_state.specs.View.{newest}
use Rattle.index_derive.specs.Schemas.{primary_rule}
use Rattle.index_derive.specs.declared.rules.IndexRule.{IndexRule}
use Rattle.jet_catalog.specs.Catalog.{CatalogState, without_rows}
use Rattle.laws_engine.specs.HeldRecords.{HeldRecord}
use Rattle.laws_engine.specs.Variants.{has_variant}
use Rattle.laws_versions.specs.Bookmarks.{StandsUnder, is_bookmark}
use Rattle.laws_versions.specs.EachRecord.{HasBoth}
use Rattle.laws_versions.specs.History.{IsHistory, IsPlaced}
use Rattle.laws_versions.specs.Readers.{is_standing}
use Rattle.laws_versions.specs.Records.{Records, after_item, is_change_of, record_after, records_after, records_after_items, records_of}
use Rattle.laws_versions.specs.SumBefores.{HasSumBefores}
use Rattle.live_part.specs.LiveBytes.{standing}
use Rattle.page_image.specs.Page.{Node}
use Rattle.stored_variants.proofs.NodeRecords.{record_at}
use Rattle.stored_variants.specs.RecordRows.{held_record_in, record_of, row_in_node, rows_of_nodes}
use Rattle.stored_variants.specs.VersionsKept.{IsKeptTable, IsRowUnder}
use Rattle.stored_variants.specs.VersionsView.{with_newest}
use Rattle.table_trees.specs.StoredNodes.{IsShortNode}
use Rattle.table_trees.specs.StoredTables.{table_long_values, table_nodes}
use Rattle.version_cleanup.specs.LiveSessions.{LiveState}
use Rattle.version_store.specs.HeldChanges.{HeldChange}
use Rattle.image_findings.specs.RowFindings.{has_before, is_hidden_key, is_sound_node, lacks_node, row_finding}
use Rattle.image_findings.specs.TableContents.{TableContents}
use Rattle.own_images.proofs.Contents.{own_contents}
use Rattle.own_images.proofs.Differing.{all_both}
use Rattle.own_images.proofs.KeptVariants.{HasVariant, all_have, record_of_change}
use Rattle.own_images.proofs.Missing.{IsOfCatalog, each_node, each_row, of_catalog}
use Rattle.own_images.proofs.OwnRows.{HasHiddenKey, IsKnownNode, any_before, no_row_finding, sound_node}
use Rattle.own_images.proofs.Walked.{WalkLaws}
use Rattle.own_images.specs.OwnContents.{HasOwnContents}
use Rattle.own_images.specs.OwnEngines.{IsOwnEngine}
use Rattle.own_images.specs.OwnStores.{OwnStore, contents_of}

-- the newest records of a state with a history are those after its changes that stand
abbrev pub NewestLaw : Type 0
NewestLaw = (base : Records) (dropped kept : List PastChange) (state : DatabaseState) → IsHistory base dropped kept state → records_of (newest state) ≡ records_after_items is_standing base kept

-- ---- hidden keys

abbrev IfThere : Option RecordFields → Type 0 → Type 0
IfThere found X = IfSome found (λ _. X)

summed : (X : Type 0) (column : ℕ) (amount : ℤ) (found : Option RecordFields) → IfThere found X → IfThere (option_map (λ values. with_sum values column amount) found) X
summed X column amount None h = tt
summed X column amount (Some values) h = h

-- what holds where a record is there at first, and where a change leaves one, holds where one is there in the end
there_after : (X : Type 0) (table : ℕ) (bookmark : List ℕ) (items : List PastChange) (records : Records) → IfThere (records table bookmark) X
    → AllByRecursion (λ item. is_change_of table bookmark item.change ≡ true → IfThere item.after X) items → AllByRecursion (λ item. item.after ≡ record_after item.change item.before) items
    → IfThere (records_after_items is_standing records items table bookmark) X
there_after X table bookmark [] records first leaves afters = first
there_after X table bookmark (item ∷ items) records first leaves afters = by (λ next start. there_after X table bookmark items next start leaves.1 afters.1) (is_standing item)
  where
    made : (c : Change) → item.change ≡ c → is_change_of table bookmark item.change ≡ true → IfThere (record_after c (records table bookmark)) X
    made (Put t b copied values) e own = subst (λ (o : Option RecordFields). IfThere o X) (afters.0 ∙ ap (λ (c : Change). record_after c item.before) e) (leaves.0 own)
    made (Drop t b) e own = tt
    made (Hold t b) e own = first
    made (Add t b column amount) e own = summed X column.0 amount (records table bookmark) first

    next : (b : Bool) → is_change_of table bookmark item.change ≡ b → IfThere (if b then record_after item.change (records table bookmark) else records table bookmark) X
    next true own = made item.change refl own
    next false own = first

    by : ((next : Records) → IfThere (next table bookmark) X → IfThere (records_after_items is_standing next items table bookmark) X) → (b : Bool)
        → IfThere (fold after_item records (if b then item ∷ filter is_standing items else filter is_standing items) table bookmark) X
    by again true = again (records_after records item.change) (next (is_change_of table bookmark item.change) refl)
    by again false = again records first

-- ---- the tables of the catalog and those of the state

pub record IsOfState (tables : List Table) (table : Table) : Type 0 where
  pub own : Table
  pub found : table_with_id tables table.id ≡ Some own
  pub same : without_rows own ≡ table

pub of_state : (tables : List Table) (table : Table) → table_with_id (map without_rows tables) table.id ≡ Some table → IsOfState tables table
of_state tables table is = by (table_with_id tables table.id) refl (sym (find_map without_rows (λ (t : Table). t.id == table.id) tables) ∙ is)
  where
    table_or : Option Table → Table
    table_or None = table
    table_or (Some t) = t

    none : {A : Type 0} → None ≡ Some table → A
    none e = impossible (ap is_some e)

    by : (o : Option Table) → table_with_id tables table.id ≡ o → option_map without_rows o ≡ Some table → IsOfState tables table
    by None e h = none h
    by (Some own) e h = record { own = own; found = e; same = ap table_or h }

stands_under : (entries number : ℕ) (own table : Table) → entries ≡ number → without_rows own ≡ table → (bookmark : List ℕ) (values : RecordFields) → StandsUnder entries (schema_of own) bookmark values → HasHiddenKey number table bookmark
stands_under entries number own table count same bookmark values stands none =
    ap (λ (n : ℕ). is_hidden_key n bookmark) (sym count)
    ∙ ap (λ (o : Option IndexRule). is_bookmark entries (schema_of own) o bookmark values) (sym (ap (λ (t : Table). primary_rule (schema_of t)) same ∙ none)) ∙ stands

pub hidden_before : (entries number : ℕ) (own table : Table) → entries ≡ number → without_rows own ≡ table → (bookmark : List ℕ) (found : Option RecordFields) → IfSome found (StandsUnder entries (schema_of own) bookmark) → IfThere found (HasHiddenKey number table bookmark)
hidden_before entries number own table count same bookmark None h = tt
hidden_before entries number own table count same bookmark (Some values) h = stands_under entries number own table count same bookmark values h

-- ---- an engine

-- a table that is shown, in an engine of its own
pub record IsShown (sessions : List LiveState) (store : OwnStore) (t : TableContents) : Type 0 where
  pub own : IsOwnEngine sessions store
  pub contents : HasOwnContents store.trees.tables t
  pub is : IsOfCatalog store t

abbrev nodes_of : OwnStore → TableContents → List Node
nodes_of store t = table_nodes store.trees.tables t.table.id

abbrev rows_at : OwnStore → TableContents → Rows
rows_at store t = rows_of_nodes (table_long_values store.trees.tables t.table.id) (nodes_of store t)

abbrev held_of : OwnStore → List HeldRecord
held_of store = map (held_record_in (table_long_values store.trees.tables)) store.held

state_table : (sessions : List LiveState) (store : OwnStore) (t : TableContents) → IsShown sessions store t → IsOfState store.state.tables t.table
state_table sessions store t shown = of_state store.state.tables t.table (ap (λ (c : CatalogState). table_with_id c.tables t.table.id) shown.own.kept.catalog ∙ shown.is)

-- its newest records are those after the changes that stand
pub left_is : NewestLaw → (sessions : List LiveState) (store : OwnStore) (t : TableContents) (shown : IsShown sessions store t) (bookmark : List ℕ)
    → records_after_items is_standing shown.own.holds.base shown.own.holds.kept t.table.id bookmark ≡ row_at (rows_at store t) bookmark
left_is law sessions store t shown bookmark =
    let h = shown.own.holds in
    ap (λ (r : Records). r t.table.id bookmark) (sym (h.holds.newest ∙ law h.base h.dropped h.kept store.state h.holds.history))
    ∙ ap (λ (o : Option Table). row_at (rows_of o) bookmark) (find_map (with_newest store.trees.tables) (λ (x : Table). x.id == t.table.id) store.catalog.tables ∙ ap (option_map (with_newest store.trees.tables)) shown.is)

pub all_after : (sessions : List LiveState) (store : OwnStore) (own : IsOwnEngine sessions store) → AllByRecursion (λ item. item.after ≡ record_after item.change item.before) own.holds.kept
all_after sessions store own =
    all_weaker (IsPlaced store.state.number store.state.tables (transaction_of store.state)) (λ item. item.after ≡ record_after item.change item.before) (λ item placed. placed.3) own.holds.kept own.holds.holds.history.keeps.placed

hidden_key : NewestLaw → (sessions : List LiveState) (store : OwnStore) (t : TableContents) → IsShown sessions store t → (bookmark : List ℕ) → IfThere (row_at (rows_at store t) bookmark) (HasHiddenKey store.number t.table bookmark)
hidden_key law sessions store t shown bookmark =
    let h = shown.own.holds in
    let u = state_table sessions store t shown in
    subst (λ (o : Option RecordFields). IfThere o (HasHiddenKey store.number t.table bookmark)) (left_is law sessions store t shown bookmark)
    (there_after (HasHiddenKey store.number t.table bookmark) t.table.id bookmark h.kept h.base
    (hidden_before store.state.number store.number u.own t.table h.number u.same bookmark (h.base t.table.id bookmark)
    (subst (λ (o : Option Table). IfSome o (λ table. (b : List ℕ) → IfSome (h.base t.table.id b) (StandsUnder store.state.number (schema_of table) b))) u.found (h.reached.bookmarks.records.at_first t.table.id) bookmark))
    (all_weaker (λ (item : PastChange). IfSome (table_with_id store.state.tables (changed_table item.change)) (λ table. HasBoth StandsUnder store.state.number (schema_of table) item))
    (λ (item : PastChange). is_change_of t.table.id bookmark item.change ≡ true → IfThere item.after (HasHiddenKey store.number t.table bookmark)) (one h.number u) h.kept h.reached.bookmarks.records.changes)
    (all_after sessions store shown.own))
  where
    one : store.state.number ≡ store.number → (u : IsOfState store.state.tables t.table) (item : PastChange) → IfSome (table_with_id store.state.tables (changed_table item.change)) (λ table. HasBoth StandsUnder store.state.number (schema_of table) item)
        → is_change_of t.table.id bookmark item.change ≡ true → IfThere item.after (HasHiddenKey store.number t.table bookmark)
    one count u item both own =
        let same = record_of_change item.change t.table.id bookmark own in
        let here = subst (λ (o : Option Table). IfSome o (λ table. HasBoth StandsUnder store.state.number (schema_of table) item)) (ap (table_with_id store.state.tables) same.0 ∙ u.found) both in
        hidden_before store.state.number store.number u.own t.table count u.same bookmark item.after
        (subst (λ (b : List ℕ). IfSome item.after (StandsUnder store.state.number (schema_of u.own) b)) same.1 here.1)

-- ---- variants and nodes

kept_table : (sessions : List LiveState) (store : OwnStore) (t : TableContents) → IsShown sessions store t → IsKeptTable store.trees.tables (table_long_values store.trees.tables t.table.id) (nodes_of store t) (held_of store) t.table
kept_table sessions store t shown =
    subst (λ (o : Option Table). IfSome o (IsKeptTable store.trees.tables (table_long_values store.trees.tables t.table.id) (nodes_of store t) (held_of store))) shown.is (shown.own.kept.kept.kept.each t.table.id)

same_some : (f : List ℕ → RecordFields) (o : Option (List ℕ)) → is_some (option_map f o) ≡ is_some o
same_some f None = refl
same_some f (Some bytes) = refl

-- the newest record under the bookmark of a node is the one of its row
record_is : (sessions : List LiveState) (store : OwnStore) (t : TableContents) → IsShown sessions store t → (n : Node) → find (has_key n.key) (nodes_of store t) ≡ Some n
    → row_at (rows_at store t) n.key ≡ option_map (record_of (table_long_values store.trees.tables t.table.id)) (row_in_node n.data)
record_is sessions store t shown n found =
    let longs = table_long_values store.trees.tables t.table.id in
    record_at longs (nodes_of store t) (shown.own.kept.nodes t.table.id) n.key
    ∙ ap (λ (o : Option Node). option_map (record_of longs) (option_and_then row_in_node (option_map (λ (x : Node). x.data) o))) found

known_node : NewestLaw → (sessions : List LiveState) (store : OwnStore) (t : TableContents) → IsShown sessions store t → (n : Node) → IsShortNode n × (find (has_key n.key) (nodes_of store t) ≡ Some n)
    → IfSome (row_in_node n.data) (IsRowUnder (table_long_values store.trees.tables t.table.id) t.table n.key)
    → IsKnownNode store.number (table_long_values store.trees.tables) store.catalog.tables store.trees.tables store.held t.table n
known_node law sessions store t shown n (short, found) row = record {
  short = short;
  found = found;
  row = row;
  hidden = hidden (row_in_node n.data) (subst (λ (o : Option RecordFields). IfThere o (HasHiddenKey store.number t.table n.key)) is (hidden_key law sessions store t shown n.key));
  stands =
      ap (λ (b : Bool). b || has_before t.table.id n.key (standing store.held)) (sym (ap is_some is ∙ same_some (record_of (table_long_values store.trees.tables t.table.id)) (row_in_node n.data)))
      ∙ ap (λ (b : Bool). is_some (row_at (rows_at store t) n.key) || b) (sym (any_before (table_long_values store.trees.tables) t.table.id n.key store.held))
      ∙ sym ((kept_table sessions store t shown).stands n.key) ∙ ap (λ (o : Option Node). is_some (option_map (λ (x : Node). x.data) o)) found;
}
  where
    is : row_at (rows_at store t) n.key ≡ option_map (record_of (table_long_values store.trees.tables t.table.id)) (row_in_node n.data)
    is = record_is sessions store t shown n found

    hidden : (o : Option (List ℕ)) → IfThere (option_map (record_of (table_long_values store.trees.tables t.table.id)) o) (HasHiddenKey store.number t.table n.key) → is_some o ≡ true → HasHiddenKey store.number t.table n.key
    hidden None h e = impossible e
    hidden (Some bytes) h e = h

own_nodes : NewestLaw → (sessions : List LiveState) (store : OwnStore) (t : TableContents) → IsShown sessions store t → AllByRecursion (λ n. is_sound_node store.number (standing store.held) t n ≡ true) t.nodes
own_nodes law sessions store t shown =
    let trees = store.trees.tables in
    let longs = table_long_values trees in
    let nodes = nodes_of store t in
    let sorted = shown.own.kept.nodes t.table.id in
    subst (λ (l : List Node). AllByRecursion (λ n. is_sound_node store.number (standing store.held) t n ≡ true) l) (sym shown.contents.nodes)
    (all_weaker (IsKnownNode store.number longs store.catalog.tables trees store.held t.table) (λ n. is_sound_node store.number (standing store.held) t n ≡ true)
    (sound_node store.number longs store.catalog.tables trees store.held t (sym shown.contents.long_values) shown.own.kept.kept.kept.changes) nodes
    (all_both (λ n. IsShortNode n × (find (has_key n.key) nodes ≡ Some n)) (λ (n : Node). IfSome (row_in_node n.data) (IsRowUnder (longs t.table.id) t.table n.key)) (IsKnownNode store.number longs store.catalog.tables trees store.held t.table)
    (known_node law sessions store t shown) nodes
    (all_both IsShortNode (λ n. find (has_key n.key) nodes ≡ Some n) (λ n. IsShortNode n × (find (has_key n.key) nodes ≡ Some n)) (λ n short found. (short, found)) nodes (recursion_from_All IsShortNode nodes (shown.own.short t.table.id)) (each_node nodes sorted))
    (each_row (IsRowUnder (longs t.table.id) t.table) nodes sorted (kept_table sessions store t shown).rows)))

-- ---- held changes

pub each_standing : (P : HeldChange → Type 0) (held : List HeldChange) → AllByRecursion (λ (h : HeldChange). is_undone h.status ≡ false → P h) held → AllByRecursion P (standing held)
each_standing P [] all = tt
each_standing P (h ∷ held) all = by (each_standing P held all.1) (is_undone h.status) refl
  where
    by : AllByRecursion P (standing held) → (b : Bool) → is_undone h.status ≡ b → AllByRecursion P (if not b then h ∷ standing held else standing held)
    by rest true e = rest
    by rest false e = (all.0 e, rest)

pub unmapped : {X Y : Type 0} (P : Y → Type 0) (f : X → Y) (xs : List X) → AllByRecursion P (map f xs) → AllByRecursion (λ x. P (f x)) xs
unmapped P f [] h = tt
unmapped P f (x ∷ xs) h = (h.0, unmapped P f xs h.1)

has_node : NewestLaw → (sessions : List LiveState) (store : OwnStore) (t : TableContents) (shown : IsShown sessions store t) (h : HeldChange)
    → HasVariant shown.own.holds.base shown.own.holds.kept (held_of store) t.table.id (held_record_in (table_long_values store.trees.tables) h) → is_undone h.status ≡ false → lacks_node t h ≡ false
has_node law sessions store t shown h variant stands = by (h.table == t.table.id) refl
  where
    there : (o : Option (List ℕ)) → is_some o ≡ true → is_none o ≡ false
    there None e = impossible e
    there (Some bytes) e = refl

    by : (b : Bool) → (h.table == t.table.id) ≡ b → (b && is_none (get_in t.nodes h.bookmark)) ≡ false
    by false e = refl
    by true e =
        there (get_in t.nodes h.bookmark)
        (ap (λ (l : List Node). is_some (get_in l h.bookmark)) shown.contents.nodes ∙ (kept_table sessions store t shown).stands h.bookmark
        ∙ ap (λ (o : Option RecordFields). has_variant o (held_of store) t.table.id h.bookmark) (sym (left_is law sessions store t shown h.bookmark)) ∙ variant stands e)

pub own_changes : NewestLaw → (sessions : List LiveState) (store : OwnStore) (t : TableContents) → IsShown sessions store t → AllByRecursion (λ h. lacks_node t h ≡ false) (standing store.held)
own_changes law sessions store t shown =
    let h = shown.own.holds in
    let u = state_table sessions store t shown in
    let longs = table_long_values store.trees.tables in
    let sums : HasSumBefores u.own.columns u.own.id h.base h.kept = subst (λ (o : Option Table). IfSome o (λ table. HasSumBefores table.columns table.id h.base h.kept)) u.found (h.reached.befores t.table.id) in
    each_standing (λ h. lacks_node t h ≡ false) store.held
    (all_weaker (λ (x : HeldChange). HasVariant h.base h.kept (held_of store) t.table.id (held_record_in longs x)) (λ (x : HeldChange). is_undone x.status ≡ false → lacks_node t x ≡ false) (has_node law sessions store t shown) store.held
    (unmapped (HasVariant h.base h.kept (held_of store) t.table.id) (held_record_in longs) store.held
    (all_have u.own.columns t.table.id h.base h.kept (held_of store) h.holds.held h.holds.history.keeps.befores
    (subst (λ (id : ℕ). HasSumBefores u.own.columns id h.base h.kept) (ap (λ (x : Table). x.id) u.same) sums) h.reached.bookmarks.touched (all_after sessions store shown.own))))

-- ---- all tables

pub own_rows : WalkLaws → NewestLaw → (sessions : List LiveState) (store : OwnStore) → IsOwnEngine sessions store → AllByRecursion (λ t. row_finding store.number (standing store.held) t ≡ None) (contents_of store)
own_rows walks law sessions store own =
    all_both (HasOwnContents store.trees.tables) (IsOfCatalog store) (λ t. row_finding store.number (standing store.held) t ≡ None) one (contents_of store) (own_contents walks store own.kept) (of_catalog store own.kept)
  where
    one : (t : TableContents) → HasOwnContents store.trees.tables t → IsOfCatalog store t → row_finding store.number (standing store.held) t ≡ None
    one t contents is =
        let shown : IsShown sessions store t = record { own = own; contents = contents; is = is } in
        no_row_finding store.number (standing store.held) t (own_nodes law sessions store t shown) (own_changes law sessions store t shown)
