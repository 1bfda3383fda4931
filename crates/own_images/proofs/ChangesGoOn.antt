-- Each held change of an own engine goes on from those before it: a put of a record that was not there comes exactly behind a drop.
use Rattle.std.proofs.Common.{◌≡◌, ℕ, Bool, true, false, not, ◌&&◌, List, [], ◌∷◌, Option, Some, None, refl, sym, ap, ◌∙◌}
use Rattle.std.specs.Prelude.{◌==◌, IfSome, bytes_eq, filter, fold, is_none, is_some, map, option_map, if◌then◌else◌}
use Rattle.std.specs.List.{AllByRecursion}
use Rattle.std.proofs.lemmas.Bool.{eqb-true}
use Rattle.column_set.specs.declared.changes.Change.{Change}
use Rattle.column_set.specs.declared.changes.Change.TheVariants.{Put, Drop, Hold, Add}
use Rattle.column_set.specs.ChangedRecords.{changed_bookmark, changed_table}
use Rattle.column_set.specs.RecordValues.{RecordFields}
use Rattle.common_lemmas.proofs.Booleans.{and_left, and_right, impossible}
use Rattle.common_lemmas.proofs.Found.{found_passes}
use Rattle.common_lemmas.proofs.Numbers.{same_bytes}
use Rattle.database_state.specs.Changes.{is_sum}
use Rattle.database_state.specs.State.{PastChange, is_undone}
use Rattle.database_state.specs.Table.{Table, table_with_id}
use Rattle.laws_engine.specs.Holding.{AllMatch, Matches}
use Rattle.laws_versions.specs.Bookmarks.{TouchesRecord}
use Rattle.laws_versions.specs.History.{HasBefores}
use Rattle.laws_versions.specs.Readers.{is_rewrite, is_standing}
use Rattle.laws_versions.specs.Records.{Records, after_item, is_change_of, record_after, records_after, records_after_items}
use Rattle.laws_versions.specs.SumBefores.{HasSumBefores}
use Rattle.live_part.specs.LiveBytes.{standing}
use Rattle.stored_variants.specs.RecordRows.{TableValues, held_record_in, record_of}
use Rattle.version_store.specs.HeldChanges.{HeldChange, is_record, kind_of}
use Rattle.version_store.specs.HeldChanges as held_changes
use Rattle.version_store.specs.declared.calls.ChangeKind.{ChangeKind}
use Rattle.image_findings.specs.LiveFindings.{goes_on, is_drop, is_fresh_put, leaves_node}
use Rattle.own_images.proofs.KeptVariants.{after_sum, either_before, own_record, same_if_some, same_rewrite}

-- ---- whether a change has a record before it

abbrev next_records : Bool → Records → PastChange → Records
next_records b records item = if b then records_after records item.change else records

-- a change that stands has a record before it where the standing changes before it leave one
abbrev pub AreThere : Records → List PastChange → Type 0
AreThere records [] = Unit {0}
AreThere records (item ∷ items) =
    (is_standing item ≡ true → is_some item.before ≡ is_some (records (changed_table item.change) (changed_bookmark item.change))) × AreThere (next_records (is_standing item) records item) items

abbrev pub HaveSums : List Table → Records → List PastChange → Type 0
HaveSums tables records items = (id : ℕ) → IfSome (table_with_id tables id) (λ table. HasSumBefores table.columns table.id records items)

abbrev IsNamed : List Table → PastChange → Type 0
IsNamed tables item = is_some (table_with_id tables (changed_table item.change)) ≡ true

both_some : (one other : Option RecordFields) → (is_some one ≡ true → is_some other ≡ true) → (is_some other ≡ true → is_some one ≡ true) → is_some one ≡ is_some other
both_some None None f g = refl
both_some None (Some y) f g = g refl
both_some (Some x) None f g = sym (f refl)
both_some (Some x) (Some y) f g = refl

found_number : (tables : List Table) (id : ℕ) (table : Table) → table_with_id tables id ≡ Some table → table.id ≡ id
found_number tables id table e = eqb-true table.id id (found_passes (λ (t : Table). t.id == id) tables table e)

pub are_there : (tables : List Table) (records : Records) (items : List PastChange) → HasBefores records items → HaveSums tables records items → AllByRecursion (IsNamed tables) items → AreThere records items
are_there tables records [] befores sums named = tt
are_there tables records (item ∷ items) befores sums named = (
  λ stands. by (is_sum item.change) refl stands,
  are_there tables (next_records (is_standing item) records item) items befores.1 (λ id. later (table_with_id tables id) (sums id)) named.1,
)
  where
    later : (o : Option Table) → IfSome o (λ table. HasSumBefores table.columns table.id records (item ∷ items)) → IfSome o (λ table. HasSumBefores table.columns table.id (next_records (is_standing item) records item) items)
    later None h = tt
    later (Some table) h = h.1

    sum : (o : Option Table) → table_with_id tables (changed_table item.change) ≡ o → is_some o ≡ true → IfSome o (λ table. HasSumBefores table.columns table.id records (item ∷ items)) → is_standing item ≡ true → is_sum item.change ≡ true
        → is_some item.before ≡ is_some (records (changed_table item.change) (changed_bookmark item.change))
    sum None e there h stands adds = impossible there
    sum (Some table) e there h stands adds =
        let same = h.0 stands adds (sym (found_number tables (changed_table item.change) table e)) in
        both_some item.before (records (changed_table item.change) (changed_bookmark item.change))
        (same_if_some table.columns item.before (records (changed_table item.change) (changed_bookmark item.change)) same) (same_if_some table.columns (records (changed_table item.change) (changed_bookmark item.change)) item.before (sym same))

    by : (b : Bool) → is_sum item.change ≡ b → is_standing item ≡ true → is_some item.before ≡ is_some (records (changed_table item.change) (changed_bookmark item.change))
    by true e stands = sum (table_with_id tables (changed_table item.change)) refl named.0 (sums (changed_table item.change)) stands e
    by false e stands = ap is_some (befores.0 stands e)

-- ---- one change behind another

abbrev pub IsFirmItem : PastChange → Type 0
IsFirmItem item = TouchesRecord item × (item.after ≡ record_after item.change item.before)

-- a lock and a sum have a record before them
kept_before : (item : PastChange) → IsFirmItem item → is_rewrite item.change ≡ false → is_some item.before ≡ true
kept_before item firm plain = made item.change refl
  where
    made : (c : Change) → item.change ≡ c → is_some item.before ≡ true
    made (Put t b copied values) e = impossible (sym plain ∙ ap is_rewrite e)
    made (Drop t b) e = impossible (sym plain ∙ ap is_rewrite e)
    made (Hold t b) e = either_before item.before item.after (record_after item.change item.before) firm.0 firm.1 (ap (λ (x : Change). is_some (record_after x item.before)) e)
    made (Add t b column amount) e = either_before item.before item.after (record_after item.change item.before) firm.0 firm.1 (ap (λ (x : Change). is_some (record_after x item.before)) e ∙ after_sum column.0 amount item.before)

none_where : (f : List ℕ → RecordFields) (o : Option (List ℕ)) → is_none o ≡ not (is_some (option_map f o))
none_where f None = refl
none_where f (Some bytes) = refl

twice : (b : Bool) → not (not b) ≡ b
twice true = refl
twice false = refl

-- the next change of the record is a fresh put just behind a drop
fresh_behind : (longs : TableValues) (d : Bool) (item : PastChange) (next : HeldChange) → Matches item (held_record_in longs next) → IsFirmItem item → is_undone next.status ≡ false → is_some item.before ≡ not d → is_fresh_put next ≡ d
fresh_behind longs d item next m firm stands before = by (held_changes.is_rewrite next.kind) refl
  where
    kinds : held_changes.is_rewrite next.kind ≡ is_rewrite item.change
    kinds = ap held_changes.is_rewrite m.kind ∙ same_rewrite item.change

    by : (b : Bool) → held_changes.is_rewrite next.kind ≡ b → (b && is_none next.before) ≡ d
    by false e = ap not (sym (kept_before item firm (sym kinds ∙ e))) ∙ ap not before ∙ twice d
    by true e =
        none_where (record_of (longs next.table)) next.before
        ∙ ap (λ (o : Option RecordFields). not (is_some o))
        (sym (λ i. if e i && not (stands i) then option_map (record_of (longs next.table)) next.before else None) ∙ m.before (ap (λ s. not (is_undone s)) (sym m.status) ∙ ap not stands) (sym kinds ∙ e))
        ∙ ap not before ∙ twice d

chosen : (d fresh : Bool) → fresh ≡ d → (if d then fresh else not fresh) ≡ true
chosen true fresh e = e
chosen false fresh e = ap not e

-- ---- one change and those behind it

pub goes : (longs : TableValues) (h : HeldChange) (node : Option (List ℕ)) (F : Records) → (is_some (F h.table h.bookmark) ≡ not (is_drop h.kind) → leaves_node h.kind node ≡ true) → (records : Records) (items : List PastChange) (rest : List HeldChange)
    → AllMatch items (map (held_record_in longs) rest) → AreThere records items → AllByRecursion IsFirmItem items → is_some (records h.table h.bookmark) ≡ not (is_drop h.kind) → records_after_items is_standing records items ≡ F → goes_on node h (standing rest) ≡ true
goes longs h node F leaves records [] [] m there firm start final = leaves (ap (λ (r : Records). is_some (r h.table h.bookmark)) (sym final) ∙ start)
goes longs h node F leaves records [] (next ∷ rest) m there firm start final = absurd m
goes longs h node F leaves records (item ∷ items) [] m there firm start final = absurd m
goes longs h node F leaves records (item ∷ items) (next ∷ rest) m there firm start final =
    by (λ r later begin end. goes longs h node F leaves r items rest m.1 later firm.1 begin end) (is_undone next.status) refl (is_standing item) refl there.1 final
  where
    same_status : is_standing item ≡ not (is_undone next.status)
    same_status = ap (λ s. not (is_undone s)) (sym m.0.status)

    Again : Type 0
    Again = (r : Records) → AreThere r items → is_some (r h.table h.bookmark) ≡ not (is_drop h.kind) → records_after_items is_standing r items ≡ F → goes_on node h (standing rest) ≡ true

    record_is : is_record h.table h.bookmark next ≡ is_change_of h.table h.bookmark item.change
    record_is = λ i. (m.0.table i == h.table) && bytes_eq (m.0.bookmark i) h.bookmark

    behind : Again → is_undone next.status ≡ false → (c : Bool) → is_record h.table h.bookmark next ≡ c → AreThere (records_after records item.change) items → records_after_items is_standing (records_after records item.change) items ≡ F
        → (if c then (if is_drop h.kind then is_fresh_put next else not (is_fresh_put next)) else goes_on node h (standing rest)) ≡ true
    behind again e true own later end =
        let own_table : changed_table item.change ≡ h.table = eqb-true (changed_table item.change) h.table (and_left (changed_table item.change == h.table) (bytes_eq (changed_bookmark item.change) h.bookmark) (sym record_is ∙ own)) in
        let own_bookmark : changed_bookmark item.change ≡ h.bookmark = same_bytes (changed_bookmark item.change) h.bookmark (and_right (changed_table item.change == h.table) (bytes_eq (changed_bookmark item.change) h.bookmark) (sym record_is ∙ own)) in
        chosen (is_drop h.kind) (is_fresh_put next) (fresh_behind longs (is_drop h.kind) item next m.0 firm.0 e (there.0 (same_status ∙ ap not e) ∙ (λ i. is_some (records (own_table i) (own_bookmark i))) ∙ start))
    behind again e false own later end =
        again (records_after records item.change) later (ap (λ (x : Bool). is_some (if x then record_after item.change (records h.table h.bookmark) else records h.table h.bookmark)) (sym record_is ∙ own) ∙ start) end

    by : Again → (u : Bool) → is_undone next.status ≡ u → (b : Bool) → is_standing item ≡ b → AreThere (next_records b records item) items → fold after_item records (if b then item ∷ filter is_standing items else filter is_standing items) ≡ F
        → goes_on node h (if not u then next ∷ standing rest else standing rest) ≡ true
    by again true e true f later end = impossible (sym (ap not e) ∙ sym same_status ∙ f)
    by again true e false f later end = again records later start end
    by again false e false f later end = impossible (sym f ∙ same_status ∙ ap not e)
    by again false e true f later end = behind again e (is_record h.table h.bookmark next) refl later end

-- ---- all of them

abbrev pub Leaves : Records → (HeldChange → Option (List ℕ)) → HeldChange → Type 0
Leaves F node h = is_some (F h.table h.bookmark) ≡ not (is_drop h.kind) → leaves_node h.kind (node h) ≡ true

-- each change of a list that stands goes on in those behind it
abbrev pub AllGoOn : (HeldChange → Option (List ℕ)) → List HeldChange → Type 0
AllGoOn node [] = Unit {0}
AllGoOn node (h ∷ held) = (is_undone h.status ≡ false → goes_on (node h) h (standing held) ≡ true) × AllGoOn node held

left_behind : (records : Records) (item : PastChange) → IsFirmItem item → is_some item.before ≡ is_some (records (changed_table item.change) (changed_bookmark item.change))
    → is_some (records_after records item.change (changed_table item.change) (changed_bookmark item.change)) ≡ not (is_drop (kind_of item.change))
left_behind records item firm there =
    ap (λ (x : Bool). is_some (if x then record_after item.change (records (changed_table item.change) (changed_bookmark item.change)) else records (changed_table item.change) (changed_bookmark item.change))) (own_record item.change) ∙ made item.change refl
  where
    made : (c : Change) → item.change ≡ c → is_some (record_after item.change (records (changed_table item.change) (changed_bookmark item.change))) ≡ not (is_drop (kind_of item.change))
    made (Put t b copied values) e = ap (λ (x : Change). is_some (record_after x (records (changed_table item.change) (changed_bookmark item.change)))) e ∙ sym (ap (λ (x : Change). not (is_drop (kind_of x))) e)
    made (Drop t b) e = ap (λ (x : Change). is_some (record_after x (records (changed_table item.change) (changed_bookmark item.change)))) e ∙ sym (ap (λ (x : Change). not (is_drop (kind_of x))) e)
    made (Hold t b) e =
        ap (λ (x : Change). is_some (record_after x (records (changed_table item.change) (changed_bookmark item.change)))) e ∙ sym there ∙ kept_before item firm (ap is_rewrite e) ∙ sym (ap (λ (x : Change). not (is_drop (kind_of x))) e)
    made (Add t b column amount) e =
        ap (λ (x : Change). is_some (record_after x (records (changed_table item.change) (changed_bookmark item.change)))) e ∙ after_sum column.0 amount (records (changed_table item.change) (changed_bookmark item.change))
        ∙ sym there ∙ kept_before item firm (ap is_rewrite e) ∙ sym (ap (λ (x : Change). not (is_drop (kind_of x))) e)

pub all_go : (longs : TableValues) (node : HeldChange → Option (List ℕ)) (F : Records) → ((h : HeldChange) → Leaves F node h) → (records : Records) (items : List PastChange) (held : List HeldChange) → AllMatch items (map (held_record_in longs) held) → AreThere records items
    → AllByRecursion IsFirmItem items → records_after_items is_standing records items ≡ F → AllGoOn node held
all_go longs node F leaves records [] [] m there firm final = tt
all_go longs node F leaves records [] (h ∷ held) m there firm final = absurd m
all_go longs node F leaves records (item ∷ items) [] m there firm final = absurd m
all_go longs node F leaves records (item ∷ items) (h ∷ held) m there firm final = (
  λ stands. one stands (is_standing item) (status_is ∙ ap not stands) there.1 final,
  all_go longs node F leaves (next_records (is_standing item) records item) items held m.1 there.1 firm.1 (step (is_standing item) final),
)
  where
    status_is : is_standing item ≡ not (is_undone h.status)
    status_is = ap (λ s. not (is_undone s)) (sym m.0.status)

    step : (b : Bool) → fold after_item records (if b then item ∷ filter is_standing items else filter is_standing items) ≡ F → records_after_items is_standing (next_records b records item) items ≡ F
    step true e = e
    step false e = e

    one : is_undone h.status ≡ false → (b : Bool) → b ≡ true → AreThere (next_records b records item) items → fold after_item records (if b then item ∷ filter is_standing items else filter is_standing items) ≡ F → goes_on (node h) h (standing held) ≡ true
    one stands false e later end = impossible e
    one stands true e later end =
        goes longs h (node h) F (leaves h) (records_after records item.change) items held m.1 later firm.1
        ((λ i. is_some (records_after records item.change (m.0.table i) (m.0.bookmark i))) ∙ left_behind records item firm.0 (there.0 (status_is ∙ ap not stands)) ∙ sym (ap (λ (k : ChangeKind). not (is_drop k)) m.0.kind)) end
