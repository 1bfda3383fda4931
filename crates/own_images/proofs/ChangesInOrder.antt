-- The held changes of an own engine that stand are in order.
use Rattle.std.proofs.Common.{◌≡◌, ℕ, Bool, true, false, not, ◌&&◌, ◌||◌, List, [], ◌∷◌, Option, Some, None, refl, sym, ap, subst, ◌∙◌}
use Rattle.std.specs.Prelude.{◌==◌, bytes_eq, is_some, map, nat_le, option_and_then, option_map, if◌then◌else◌}
use Rattle.std.specs.List.{AllByRecursion, list_all}
use Rattle.std.proofs.lemmas.Bool.{and_from, eqb-true}
use Rattle.btree_inplace.specs.Order.{get_in}
use Rattle.column_set.specs.declared.changes.Change.{Change}
use Rattle.column_set.specs.declared.changes.Change.TheVariants.{Put, Drop, Hold, Add}
use Rattle.column_set.specs.ChangedRecords.{changed_bookmark, changed_table}
use Rattle.column_set.specs.RecordValues.{RecordFields}
use Rattle.common_lemmas.proofs.Booleans.{and_left, and_right, by_test}
use Rattle.common_lemmas.proofs.Found.{found_passes, of_found}
use Rattle.common_lemmas.proofs.Lists.{all_weaker}
use Rattle.common_lemmas.proofs.Numbers.{equal_bytes, same_bytes, self_equal}
use Rattle.database_state.specs.Changes.{is_sum}
use Rattle.database_state.specs.Conflicts.{collide}
use Rattle.database_state.specs.State.{DatabaseState, PastChange, Status, Transaction, committed, is_open, is_undone, transaction_of, uncommitted, undone}
use Rattle.database_state.specs.Table.{table_with_id}
use Rattle.laws_engine.specs.HeldRecords.{HeldRecord}
use Rattle.laws_engine.specs.Holding.{AllMatch, Matches}
use Rattle.laws_images.specs.ShownStates.{with_empty_snapshot}
use Rattle.laws_versions.specs.Bookmarks.{TouchesRecord}
use Rattle.laws_versions.specs.History.{EachTwo, InOrder, IsPlaced, LevelsRise, is_apart_by}
use Rattle.laws_versions.specs.Readers.{is_standing}
use Rattle.laws_versions.specs.Records.{Records, record_after, records_after_items}
use Rattle.live_part.specs.LiveBytes.{standing}
use Rattle.page_image.specs.Page.{Node}
use Rattle.stored_variants.proofs.NodeRecords.{record_at}
use Rattle.stored_variants.specs.RecordRows.{TableValues, held_record_in, record_of, row_in_node}
use Rattle.table_trees.specs.StoredTables.{table_long_values, table_nodes}
use Rattle.version_cleanup.specs.LiveSessions.{LiveState, live_state, transaction_in, without_snapshot}
use Rattle.version_store.specs.HeldChanges.{HeldChange, is_add, is_record, kind_of}
use Rattle.version_store.specs.declared.calls.ChangeKind.{ChangeKind}
use Rattle.image_findings.specs.LiveFindings.{are_apart, are_in_order, goes_on, is_before, is_drop, leaves_node, levels_rise, node_under}
use Rattle.image_findings.specs.TableContents.{TableContents, contents_with_id}
use Rattle.own_images.proofs.ChangesGoOn.{AllGoOn, IsFirmItem, Leaves, all_go, are_there}
use Rattle.own_images.proofs.ChangesSound.{IsKnownTable, transaction_is}
use Rattle.own_images.proofs.Contents.{own_contents}
use Rattle.own_images.proofs.Differing.{all_both}
use Rattle.own_images.proofs.Missing.{IsOfCatalog, of_catalog}
use Rattle.own_images.proofs.OwnRows.{at_most}
use Rattle.own_images.proofs.RowsSound.{IsShown, NewestLaw, all_after, left_is}
use Rattle.own_images.proofs.Walked.{WalkLaws}
use Rattle.own_images.specs.OwnContents.{HasOwnContents}
use Rattle.own_images.specs.OwnEngines.{IsOwnEngine}
use Rattle.own_images.specs.OwnStores.{OwnStore, contents_of}

-- ---- two held changes with the kept ones that they are

pub record IsPairOf (R : PastChange → PastChange → Type 0) (h k : HeldRecord) : Type 0 where
  pub earlier : PastChange
  pub later : PastChange
  pub first : Matches earlier h
  pub second : Matches later k
  pub has : R earlier later

pub two_of_items : (R : PastChange → PastChange → Type 0) (longs : TableValues) (items : List PastChange) (held : List HeldChange) → AllMatch items (map (held_record_in longs) held) → EachTwo R items
    → EachTwo (λ h k. IsPairOf R (held_record_in longs h) (held_record_in longs k)) held
two_of_items R longs [] [] m all = tt
two_of_items R longs [] (h ∷ held) m all = absurd m
two_of_items R longs (item ∷ items) [] m all = absurd m
two_of_items R longs (item ∷ items) (h ∷ held) m all = (behind items held m.1 all.0, two_of_items R longs items held m.1 all.1)
  where
    behind : (items : List PastChange) (held : List HeldChange) → AllMatch items (map (held_record_in longs) held) → AllByRecursion (R item) items → AllByRecursion (λ k. IsPairOf R (held_record_in longs h) (held_record_in longs k)) held
    behind [] [] n each = tt
    behind [] (k ∷ held) n each = absurd n
    behind (later ∷ items) [] n each = absurd n
    behind (later ∷ items) (k ∷ held) n each = (record { earlier = item; later = later; first = m.0; second = n.0; has = each.0 }, behind items held n.1 each.1)

both_two : {X : Type 0} (R S T : X → X → Type 0) → ((x y : X) → R x y → S x y → T x y) → (xs : List X) → EachTwo R xs → EachTwo S xs → EachTwo T xs
both_two R S T f [] r s = tt
both_two R S T f (x ∷ xs) r s = (all_both (R x) (S x) (T x) (f x) xs r.0 s.0, both_two R S T f xs r.1 s.1)

-- ---- changes of one record are apart

same_apart : (o : Option Transaction) (number : ℕ) (own : Bool) (earlier later : Status) → is_apart_by (option_map with_empty_snapshot (option_map without_snapshot o)) number own earlier later ≡ is_apart_by o number own earlier later
same_apart None number own earlier later = refl
same_apart (Some t) number own earlier uncommitted = refl
same_apart (Some t) number own earlier (committed at) = refl
same_apart (Some t) number own earlier undone = refl

same_sum : (c : Change) → is_sum c ≡ is_add (kind_of c)
same_sum (Put t b copied values) = refl
same_sum (Drop t b) = refl
same_sum (Hold t b) = refl
same_sum (Add t b column amount) = refl

equal_numbers : (m n : ℕ) → m ≡ n → (m == n) ≡ true
equal_numbers m n e = ap (λ (k : ℕ). m == k) (sym e) ∙ self_equal m

abbrev IsOrdered : (ℕ → Option Transaction) → PastChange → PastChange → Type 0
IsOrdered transactions earlier later = InOrder transactions earlier later × LevelsRise earlier later

apart_in : (longs : TableValues) (state : DatabaseState) (h k : HeldChange) (pair : IsPairOf (IsOrdered (transaction_of state)) (held_record_in longs h) (held_record_in longs k)) → is_undone h.status ≡ false → is_undone k.status ≡ false
    → is_record h.table h.bookmark k ≡ true → (is_add h.kind && is_add k.kind) ≡ false → are_apart (map live_state state.sessions) h k ≡ true
apart_in longs state h k pair first second own sums =
    (λ i. is_apart_by (option_map with_empty_snapshot (transaction_in (pair.second.session i) (map live_state state.sessions))) (pair.second.number i) (pair.first.session i == pair.second.session i) (pair.first.status i) (pair.second.status i))
    ∙ ap (λ o. is_apart_by (option_map with_empty_snapshot o) pair.later.number (pair.earlier.session == pair.later.session) pair.earlier.status pair.later.status) (transaction_is state.sessions pair.later.session)
    ∙ same_apart (transaction_of state pair.later.session) pair.later.number (pair.earlier.session == pair.later.session) pair.earlier.status pair.later.status
    ∙ pair.has.0 (ap (λ s. not (is_undone s)) (sym pair.first.status) ∙ ap not first) (ap (λ s. not (is_undone s)) (sym pair.second.status) ∙ ap not second) meet
  where
    table_is : changed_table pair.earlier.change ≡ changed_table pair.later.change
    table_is = sym pair.first.table ∙ sym (eqb-true k.table h.table (and_left (k.table == h.table) (bytes_eq k.bookmark h.bookmark) own)) ∙ pair.second.table

    bookmark_is : changed_bookmark pair.earlier.change ≡ changed_bookmark pair.later.change
    bookmark_is = sym pair.first.bookmark ∙ sym (same_bytes k.bookmark h.bookmark (and_right (k.table == h.table) (bytes_eq k.bookmark h.bookmark) own)) ∙ pair.second.bookmark

    not_sums : (is_sum pair.earlier.change && is_sum pair.later.change) ≡ false
    not_sums = (λ i. (same_sum pair.earlier.change ∙ ap is_add (sym pair.first.kind)) i && (same_sum pair.later.change ∙ ap is_add (sym pair.second.kind)) i) ∙ sums

    meet : collide pair.earlier.change pair.later.change ≡ true
    meet =
        and_from ((changed_table pair.earlier.change == changed_table pair.later.change) && bytes_eq (changed_bookmark pair.earlier.change) (changed_bookmark pair.later.change)) (not (is_sum pair.earlier.change && is_sum pair.later.change))
        (and_from (changed_table pair.earlier.change == changed_table pair.later.change) (bytes_eq (changed_bookmark pair.earlier.change) (changed_bookmark pair.later.change))
        (equal_numbers (changed_table pair.earlier.change) (changed_table pair.later.change) table_is) (equal_bytes (changed_bookmark pair.earlier.change) (changed_bookmark pair.later.change) bookmark_is)) (ap not not_sums)

levels_in : (longs : TableValues) (state : DatabaseState) (h k : HeldChange) → IsPairOf (IsOrdered (transaction_of state)) (held_record_in longs h) (held_record_in longs k) → levels_rise h k ≡ true
levels_in longs state h k pair =
    by_test (is_open h.status && (is_open k.status && (h.session == k.session)))
    (λ e. or_right (not (is_open h.status && (is_open k.status && (h.session == k.session)))) (nat_le h.level k.level) (level e)) (λ e. ap (λ (b : Bool). not b || nat_le h.level k.level) e)
  where
    or_right : (a b : Bool) → b ≡ true → (a || b) ≡ true
    or_right true b e = refl
    or_right false b e = e

    level : (is_open h.status && (is_open k.status && (h.session == k.session))) ≡ true → nat_le h.level k.level ≡ true
    level e =
        let rest = and_right (is_open h.status) (is_open k.status && (h.session == k.session)) e in
        (λ i. nat_le (pair.first.level i) (pair.second.level i))
        ∙ at_most pair.earlier.level pair.later.level
        (pair.has.1 (ap is_open (sym pair.first.status) ∙ and_left (is_open h.status) (is_open k.status && (h.session == k.session)) e) (ap is_open (sym pair.second.status) ∙ and_left (is_open k.status) (h.session == k.session) rest)
        (sym pair.first.session ∙ eqb-true h.session k.session (and_right (is_open k.status) (h.session == k.session) rest) ∙ pair.second.session))

abbrev IsBefore : List LiveState → HeldChange → HeldChange → Type 0
IsBefore sessions h k = is_undone h.status ≡ false → is_undone k.status ≡ false → is_before sessions h k ≡ true

before_in : (longs : TableValues) (state : DatabaseState) (h k : HeldChange) → IsPairOf (IsOrdered (transaction_of state)) (held_record_in longs h) (held_record_in longs k) → IsBefore (map live_state state.sessions) h k
before_in longs state h k pair first second =
    and_from (not (is_record h.table h.bookmark k) || ((is_add h.kind && is_add k.kind) || are_apart (map live_state state.sessions) h k)) (levels_rise h k)
    (by (is_record h.table h.bookmark k) refl (is_add h.kind && is_add k.kind) refl) (levels_in longs state h k pair)
  where
    by : (own : Bool) → is_record h.table h.bookmark k ≡ own → (sums : Bool) → (is_add h.kind && is_add k.kind) ≡ sums → (not own || (sums || are_apart (map live_state state.sessions) h k)) ≡ true
    by false e sums f = refl
    by true e true f = refl
    by true e false f = apart_in longs state h k pair first second e f

-- ---- the order of all

each_standing : (sessions : List LiveState) (h : HeldChange) → is_undone h.status ≡ false → (held : List HeldChange) → AllByRecursion (IsBefore sessions h) held → list_all (is_before sessions h) (standing held) ≡ true
each_standing sessions h first [] all = refl
each_standing sessions h first (k ∷ held) all = by (each_standing sessions h first held all.1) (is_undone k.status) refl
  where
    by : list_all (is_before sessions h) (standing held) ≡ true → (b : Bool) → is_undone k.status ≡ b → list_all (is_before sessions h) (if not b then k ∷ standing held else standing held) ≡ true
    by rest true e = rest
    by rest false e = and_from (is_before sessions h k) (list_all (is_before sessions h) (standing held)) (all.0 first e) rest

in_order : (tables : List TableContents) (sessions : List LiveState) (held : List HeldChange) → AllGoOn (node_under tables) held → EachTwo (IsBefore sessions) held → are_in_order tables sessions (standing held) ≡ true
in_order tables sessions [] go two = refl
in_order tables sessions (h ∷ held) go two = by (in_order tables sessions held go.1 two.1) (is_undone h.status) refl
  where
    by : are_in_order tables sessions (standing held) ≡ true → (b : Bool) → is_undone h.status ≡ b → are_in_order tables sessions (if not b then h ∷ standing held else standing held) ≡ true
    by rest true e = rest
    by rest false e =
        and_from (goes_on (node_under tables h) h (standing held)) (list_all (is_before sessions h) (standing held) && are_in_order tables sessions (standing held)) (go.0 e)
        (and_from (list_all (is_before sessions h) (standing held)) (are_in_order tables sessions (standing held)) (each_standing sessions h e held two.0) rest)

-- ---- what the node of a record tells

leaves_row : (f : List ℕ → RecordFields) (k : ChangeKind) (node : Option (List ℕ)) → is_some (option_map f (option_and_then row_in_node node)) ≡ not (is_drop k) → leaves_node k node ≡ true
leaves_row f k None e = refl
leaves_row f k (Some []) e = turned (is_drop k) e
  where
    turned : (b : Bool) → false ≡ not b → b ≡ true
    turned true e = refl
    turned false e = e
leaves_row f k (Some (byte ∷ bytes)) e = sym e

own_leaves : WalkLaws → NewestLaw → (sessions : List LiveState) (store : OwnStore) (own : IsOwnEngine sessions store) (h : HeldChange) → Leaves (records_after_items is_standing own.holds.base own.holds.kept) (node_under (contents_of store)) h
own_leaves walks law sessions store own h left = by (contents_with_id (contents_of store) h.table) refl
  where
    F : Records
    F = records_after_items is_standing own.holds.base own.holds.kept

    by : (o : Option TableContents) → contents_with_id (contents_of store) h.table ≡ o → leaves_node h.kind (elim o [ Some t ↦ get_in t.nodes h.bookmark | None ↦ None ]) ≡ true
    by None e = refl
    by (Some t) e =
        let known = of_found (IsKnownTable store) (λ (x : TableContents). x.table.id == h.table) (contents_of store) t e
        (all_both (HasOwnContents store.trees.tables) (IsOfCatalog store) (IsKnownTable store) (λ t contents is. (contents, is)) (contents_of store) (own_contents walks store own.kept) (of_catalog store own.kept)) in
        let shown : IsShown sessions store t = record { own = own; contents = known.0; is = known.1 } in
        let same : t.table.id ≡ h.table = eqb-true t.table.id h.table (found_passes (λ (x : TableContents). x.table.id == h.table) (contents_of store) t e) in
        let longs = table_long_values store.trees.tables t.table.id in
        leaves_row (record_of longs) h.kind (get_in t.nodes h.bookmark)
        (ap (λ (nodes : List Node). is_some (option_map (record_of longs) (option_and_then row_in_node (get_in nodes h.bookmark)))) known.0.nodes
        ∙ sym (ap is_some (record_at longs (table_nodes store.trees.tables t.table.id) (own.kept.nodes t.table.id) h.bookmark))
        ∙ sym (ap is_some (left_is law sessions store t shown h.bookmark)) ∙ ap (λ (n : ℕ). is_some (F n h.bookmark)) same ∙ left)

-- ---- all of them

pub own_order : WalkLaws → NewestLaw → (sessions : List LiveState) (store : OwnStore) → IsOwnEngine sessions store → are_in_order (contents_of store) sessions (standing store.held) ≡ true
own_order walks law sessions store own =
    let h = own.holds in
    let longs = table_long_values store.trees.tables in
    let keeps = h.holds.history.keeps in
    in_order (contents_of store) sessions store.held
    (all_go longs (node_under (contents_of store)) (records_after_items is_standing h.base h.kept) (own_leaves walks law sessions store own) h.base h.kept store.held h.holds.held
    (are_there store.state.tables h.base h.kept keeps.befores h.reached.befores (all_weaker (IsPlaced store.state.number store.state.tables (transaction_of store.state)) (λ item. is_some (table_with_id store.state.tables (changed_table item.change)) ≡ true) (λ item placed. placed.1) h.kept keeps.placed))
    (all_both TouchesRecord (λ item. item.after ≡ record_after item.change item.before) IsFirmItem (λ item touched after. (touched, after)) h.kept h.reached.bookmarks.touched (all_after sessions store own)) refl)
    (subst (λ (list : List LiveState). EachTwo (IsBefore list) store.held) h.sessions
    (each_pair (λ x k. IsPairOf (IsOrdered (transaction_of store.state)) (held_record_in longs x) (held_record_in longs k)) (IsBefore (map live_state store.state.sessions)) (before_in longs store.state) store.held
    (two_of_items (IsOrdered (transaction_of store.state)) longs h.kept store.held h.holds.held
    (both_two (InOrder (transaction_of store.state)) LevelsRise (IsOrdered (transaction_of store.state)) (λ earlier later order level. (order, level)) h.kept keeps.in_order keeps.levels))))
  where
    each_pair : (R S : HeldChange → HeldChange → Type 0) → ((x y : HeldChange) → R x y → S x y) → (xs : List HeldChange) → EachTwo R xs → EachTwo S xs
    each_pair R S f xs all = both_two R R S (λ x y a b. f x y a) xs all all
