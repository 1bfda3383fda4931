-- The held changes of the engine that is made of a consistent image are taken back, the newest first.
use Rattle.std.proofs.Common.{◌≡◌, ◌≤◌, ◌<◌, ◌-◌, ℕ, zero, suc, ◌+◌, ◌^◌, ◌%◌, ◌*◌, ◌/◌, Bool, true, false, ◌&&◌, ◌||◌, cond, List, [], ◌∷◌, Option, Some, None, refl, sym, ap, subst, ◌∙◌, arith}
use Rattle.std.specs.Prelude.{not, ℤ, pos, negsuc, neg_ℤ, ◌==◌, map, slice_get, unwrap_or, is_none, is_some, option_map, option_and_then, IfSome, FitsSigned, bytes_eq}
use Rattle.std.specs.Cmp.{nat_cmp_total, unsigned_tied}
use Rattle.std.specs.FinMap.Entries.{find-put}
use Rattle.std.specs.Int.{w32, cast_unsigned, from_le_bytes, to_le_bytes}
use Rattle.std.specs.List.{AllByRecursion, list_all}
use Rattle.std.specs.Ordering.{nat_cmp}
use Rattle.std.proofs.lemmas.Bool.{eqb-true}
use Rattle.std.proofs.lemmas.Nat.{from_le_bytes-to_le_bytes_4}
use Rattle.btree_inplace.specs.Order.{get_in}
use Rattle.column_set.specs.ChangedRecords.{changed_bookmark, changed_table}
use Rattle.column_set.specs.RecordValues.{RecordFields, lookup_by_number, put_by_number}
use Rattle.common_lemmas.proofs.Booleans.{and_left, and_right, impossible}
use Rattle.common_lemmas.proofs.Found.{of_found}
use Rattle.common_lemmas.proofs.Numbers.{same_bytes, self_equal}
use Rattle.common_lemmas.proofs.Options.{is_some-map, none_there}
use Rattle.database_state.specs.Changes.{escrow_bytes, escrow_sum, with_sum}
use Rattle.database_state.specs.State.{is_undone}
use Rattle.database_state.specs.Table.{Table, row_at, rows_of, schema_of, table_with_id}
use Rattle.database_state.specs.VersionStore.{cost_of}
use Rattle.laws_engine.specs.HeldRecords.{HeldRecord, inverse, inverse_of}
use Rattle.laws_images.proofs.OpenedLemmas.EachShown.{each_before}
use Rattle.laws_images.proofs.OpenedLemmas.TakenBack.{inverse_bookmark, inverse_table, stays_before}
use Rattle.laws_images.specs.InTurn.{AreInTurn, CanLeave, HaveTheirCosts}
use Rattle.laws_images.specs.ShowableEngines.{EachIn, IsSoundRecord}
use Rattle.laws_images.specs.ShownStates.{change_made, past_of, tables_before}
use Rattle.laws_versions.proofs.ChangeLemmas.Projecting.{projected}
use Rattle.laws_versions.proofs.SumLemmas.Puts.{put_again, put_found}
use Rattle.laws_versions.proofs.SumLemmas.StoredSums.{plus}
use Rattle.laws_versions.proofs.SumLemmas.VeryRecords.{number_below, number_read, one_value}
use Rattle.laws_versions.specs.Bookmarks.{TouchesRecord}
use Rattle.laws_versions.specs.EscrowNumbers.{ColumnsRise, holds_number, is_number}
use Rattle.laws_versions.specs.Records.{Records, is_change_of, record_after, records_of}
use Rattle.long_value.specs.Values.{Values}
use Rattle.stored_variants.specs.RecordRows.{held_record_in, record_of, row_in_node}
use Rattle.version_cleanup.specs.LiveSessions.{LiveState}
use Rattle.version_store.specs.HeldChanges.{HeldChange, cost, is_record, is_rewrite}
use Rattle.version_store.specs.declared.calls.ChangeKind.{ChangeKind}
use Rattle.version_store.specs.declared.calls.ChangeKind.TheVariants as kind
use Rattle.image_findings.specs.Findings.{values_by_table}
use Rattle.image_findings.specs.LiveFindings.{adds_to_sum, are_in_order, goes_on, is_before, is_drop, is_fresh_put, leaves_node, node_under}
use Rattle.image_findings.specs.SoundRows.{HasSoundRow}
use Rattle.image_findings.specs.TableContents.{TableContents, contents_with_id, long_values, newest_table}
use Rattle.image_findings.proofs.Befores.{ArePlain, HasAmount, befores_sound, has_amount, sums_keep}
use Rattle.image_findings.proofs.Changes.{IsKnown, table_found, values_found}
use Rattle.image_findings.proofs.Nodes.{Rises, record_at}
use Rattle.image_findings.proofs.SoundRecords.{size_is}
use Rattle.image_findings.proofs.Tests.{and_true, or_second}

-- ---- a sum that is taken out and put in again

there_and_back : (n u : ℕ) → n < 4294967296 → u ≤ 4294967296 → ((n + u) % 4294967296 + (4294967296 - u)) % 4294967296 ≡ n
there_and_back n u h g = omega arith

back_and_there : (n u : ℕ) → n < 4294967296 → u ≤ 4294967296 → ((n + (4294967296 - u)) % 4294967296 + u) % 4294967296 ≡ n
back_and_there n u h g = omega arith

nothing : (n : ℕ) → n < 4294967296 → ((n + 0) % 4294967296 + 0) % 4294967296 ≡ n
nothing n h = omega arith

within : (k : ℕ) → k < 2147483648 → suc k ≤ 4294967296
within k h = omega arith

within_all : (k : ℕ) → suc k < 2147483648 → suc k ≤ 4294967296
within_all k h = omega arith

back : (n : ℕ) (amount : ℤ) → FitsSigned w32 amount → n < 2 ^ 32 → plus (plus n (neg_ℤ amount)) amount ≡ n
back n (pos zero) f h = nothing n h
back n (pos (suc k)) f h = back_and_there n (suc k) h (within_all k f.sfits)
back n (negsuc k) f h = there_and_back n (suc k) h (within k f.sfits)

abbrev bytes_in : Option (List (List ℕ)) → List ℕ
bytes_in o = unwrap_or (slice_get (unwrap_or o []) 0) (0 ∷ 0 ∷ 0 ∷ 0 ∷ [])

put_bytes : (fields : RecordFields) (column : ℕ) (bytes : List ℕ) → escrow_bytes (put_by_number column (bytes ∷ []) fields) column ≡ bytes
put_bytes fields column bytes =
    ap bytes_in (find-put nat_cmp nat_cmp_total column column (bytes ∷ []) fields)
    ∙ ap (λ b. bytes_in (cond b (Some (bytes ∷ [])) (lookup_by_number column fields))) (unsigned_tied column column ∙ self_equal column)

back_sum : (stored : List ℕ) (amount : ℤ) → FitsSigned w32 amount → is_number stored ≡ true → escrow_sum (escrow_sum stored (neg_ℤ amount)) amount ≡ stored
back_sum stored amount fits h =
    ap (λ n. to_le_bytes w32 (plus n amount)) (from_le_bytes-to_le_bytes_4 (plus (from_le_bytes w32 stored) (neg_ℤ amount)) (small (from_le_bytes w32 stored + cast_unsigned w32 (neg_ℤ amount))))
    ∙ ap (to_le_bytes w32) (back (from_le_bytes w32 stored) amount fits (number_below stored h))
    ∙ number_read stored h
  where
    small : (n : ℕ) → n % 4294967296 < 4294967296
    small n = omega arith

back_again : (fields : RecordFields) (column : ℕ) (amount : ℤ) → FitsSigned w32 amount → ColumnsRise fields → holds_number fields column ≡ true → with_sum (with_sum fields column (neg_ℤ amount)) column amount ≡ fields
back_again fields column amount fits rise h =
    let one = one_value fields column h in
    ap (λ (bytes : List ℕ). put_by_number column (escrow_sum bytes amount ∷ []) (with_sum fields column (neg_ℤ amount))) (put_bytes fields column (escrow_sum (escrow_bytes fields column) (neg_ℤ amount)))
    ∙ ap (λ (bytes : List ℕ). put_by_number column (bytes ∷ []) (with_sum fields column (neg_ℤ amount))) (back_sum (escrow_bytes fields column) amount fits one.1)
    ∙ put_again column (escrow_sum (escrow_bytes fields column) (neg_ℤ amount) ∷ []) (escrow_bytes fields column ∷ []) fields
    ∙ put_found column (escrow_bytes fields column ∷ []) fields rise one.0

-- ---- the records before the held changes

abbrev pub shown_held : List TableContents → List HeldChange → List HeldRecord
shown_held tables held = map (held_record_in (values_by_table tables)) held

abbrev pub one_held : List TableContents → HeldChange → HeldRecord
one_held tables h = held_record_in (values_by_table tables) h

-- the records once these held changes are taken back
abbrev pub records_before : List TableContents → List HeldChange → Records
records_before tables held = records_of (tables_before (shown_held tables held) (map newest_table tables))

pub is_there : (number : ℕ) (tables : List TableContents) (sessions : List LiveState) (h : HeldChange) → IsKnown number tables sessions h → (held : List HeldChange) → is_some (table_with_id (tables_before (shown_held tables held) (map newest_table tables)) h.table) ≡ true
is_there number tables sessions h k held = stays_before (shown_held tables held) (map newest_table tables) h.table ∙ ap is_some (table_found tables h.table k.t k.found)

pub step_back : (number : ℕ) (tables : List TableContents) (sessions : List LiveState) (g : HeldChange) → IsKnown number tables sessions g → (held : List HeldChange) (id : ℕ) (bookmark : List ℕ)
    → records_before tables (g ∷ held) id bookmark ≡ cond ((g.table == id) && bytes_eq g.bookmark bookmark) (record_after (inverse (one_held tables g)) (records_before tables held id bookmark)) (records_before tables held id bookmark)
step_back number tables sessions g k held id bookmark =
    ap (λ (r : Records). r id bookmark) (projected (tables_before (shown_held tables held) (map newest_table tables)) (inverse (one_held tables g)) there)
    ∙ ap (λ (b : Bool). cond b (record_after (inverse (one_held tables g)) (records_before tables held id bookmark)) (records_before tables held id bookmark)) place
  where
    there : is_some (table_with_id (tables_before (shown_held tables held) (map newest_table tables)) (changed_table (inverse (one_held tables g)))) ≡ true
    there = ap (λ n. is_some (table_with_id (tables_before (shown_held tables held) (map newest_table tables)) n)) (inverse_table g.kind g.table g.bookmark (one_held tables g).before) ∙ is_there number tables sessions g k held

    place : is_change_of id bookmark (inverse (one_held tables g)) ≡ ((g.table == id) && bytes_eq g.bookmark bookmark)
    place =
        ap (λ n. (n == id) && bytes_eq (changed_bookmark (inverse (one_held tables g))) bookmark) (inverse_table g.kind g.table g.bookmark (one_held tables g).before)
        ∙ ap (λ (b : List ℕ). (g.table == id) && bytes_eq b bookmark) (inverse_bookmark g.kind g.table g.bookmark (one_held tables g).before)

-- the record before a put or a drop
abbrev pub kept_before : Values → ChangeKind → Option (List ℕ) → Option RecordFields
kept_before values what o = cond (is_rewrite what) (option_map (record_of values) o) None

pub before_is : (number : ℕ) (tables : List TableContents) (sessions : List LiveState) (g : HeldChange) (k : IsKnown number tables sessions g) → (one_held tables g).before ≡ kept_before (long_values k.t) g.kind g.before
before_is number tables sessions g k =
    ap (λ (values : Values). cond (is_rewrite g.kind && not (is_undone g.status)) (option_map (record_of values) g.before) None) (values_found tables g.table k.t k.found)
    ∙ ap (λ b. cond (is_rewrite g.kind && not b) (option_map (record_of (long_values k.t)) g.before) None) k.stands
    ∙ ap (λ b. cond b (option_map (record_of (long_values k.t)) g.before) None) (and_true (is_rewrite g.kind))

-- ---- whether there is a record

left_some : (values : Values) (what : ChangeKind) (table : ℕ) (bookmark : List ℕ) (o : Option (List ℕ)) (after : Option RecordFields) (dropped : Bool) → (is_drop what ≡ true → is_some o ≡ true)
    → cond dropped (is_rewrite what && is_none o) (not (is_rewrite what && is_none o)) ≡ true → is_some after ≡ not (is_drop what) → is_some (record_after (inverse_of what table bookmark (kept_before values what o)) after) ≡ not dropped
left_some values kind.Put table bookmark None after true drop e a = refl
left_some values kind.Put table bookmark None after false drop e a = impossible e
left_some values kind.Put table bookmark (Some row) after true drop e a = impossible e
left_some values kind.Put table bookmark (Some row) after false drop e a = refl
left_some values kind.Drop table bookmark None after dropped drop e a = impossible (drop refl)
left_some values kind.Drop table bookmark (Some row) after true drop e a = impossible e
left_some values kind.Drop table bookmark (Some row) after false drop e a = refl
left_some values kind.Hold table bookmark o after true drop e a = impossible e
left_some values kind.Hold table bookmark o after false drop e a = a
left_some values (kind.Add column amount) table bookmark o after true drop e a = impossible e
left_some values (kind.Add column amount) table bookmark o after false drop e a = is_some-map (λ (fields : RecordFields). with_sum fields column.0 (neg_ℤ amount)) after ∙ a

in_leaf : (values : Values) (what : ChangeKind) (o : Option (List ℕ)) → is_some o ≡ true → leaves_node what o ≡ true → is_some (option_map (record_of values) (option_and_then row_in_node o)) ≡ not (is_drop what)
in_leaf values what None there e = impossible there
in_leaf values what (Some []) there e = sym (ap not e)
in_leaf values what (Some (byte ∷ bytes)) there e = sym e

node_found : (tables : List TableContents) (h : HeldChange) (t : TableContents) → contents_with_id tables h.table ≡ Some t → node_under tables h ≡ get_in t.nodes h.bookmark
node_found tables h t e = ap (λ (o : Option TableContents). elim o [ Some u ↦ get_in u.nodes h.bookmark | None ↦ None ]) e

-- the records of each table stand in order
abbrev pub AllOrdered : List TableContents → Type 0
AllOrdered tables = AllByRecursion (λ (t : TableContents). Rises t.nodes) tables

pub present : (number : ℕ) (tables : List TableContents) (sessions : List LiveState) → AllOrdered tables → (held : List HeldChange) → AllByRecursion (IsKnown number tables sessions) held → are_in_order tables sessions held ≡ true
    → (h : HeldChange) → IsKnown number tables sessions h → goes_on (node_under tables h) h held ≡ true → is_some (records_before tables held h.table h.bookmark) ≡ not (is_drop h.kind)
present number tables sessions rise [] all order h k goes =
    ap (λ o. is_some (row_at (rows_of o) h.bookmark)) (table_found tables h.table k.t k.found)
    ∙ ap is_some (record_at (long_values k.t) k.t.nodes (of_found (λ (t : TableContents). Rises t.nodes) (λ t. t.table.id == h.table) tables k.t k.found rise) h.bookmark)
    ∙ in_leaf (long_values k.t) h.kind (get_in k.t.nodes h.bookmark) k.node (ap (leaves_node h.kind) (sym (node_found tables h k.t k.found)) ∙ goes)
present number tables sessions rise (g ∷ held) all order h k goes =
    let rest = and_right (goes_on (node_under tables g) g held) (list_all (is_before sessions g) held && are_in_order tables sessions held) order in
    let behind = and_right (list_all (is_before sessions g) held) (are_in_order tables sessions held) rest in
    by (is_record h.table h.bookmark g) refl goes
    (present number tables sessions rise held all.1 behind g all.0 (and_left (goes_on (node_under tables g) g held) (list_all (is_before sessions g) held && are_in_order tables sessions held) order))
    (λ next. present number tables sessions rise held all.1 behind h k next)
  where
    own : is_record h.table h.bookmark g ≡ true → records_before tables held h.table h.bookmark ≡ records_before tables held g.table g.bookmark
    own e =
        ap (λ n. records_before tables held n h.bookmark) (sym (eqb-true g.table h.table (and_left (g.table == h.table) (bytes_eq g.bookmark h.bookmark) e)))
        ∙ ap (records_before tables held g.table) (sym (same_bytes g.bookmark h.bookmark (and_right (g.table == h.table) (bytes_eq g.bookmark h.bookmark) e)))

    by : (b : Bool) → is_record h.table h.bookmark g ≡ b → cond b (cond (is_drop h.kind) (is_fresh_put g) (not (is_fresh_put g))) (goes_on (node_under tables h) h held) ≡ true
        → is_some (records_before tables held g.table g.bookmark) ≡ not (is_drop g.kind) → (goes_on (node_under tables h) h held ≡ true → is_some (records_before tables held h.table h.bookmark) ≡ not (is_drop h.kind))
        → is_some (records_before tables (g ∷ held) h.table h.bookmark) ≡ not (is_drop h.kind)
    by true same e one other =
        ap is_some (step_back number tables sessions g all.0 held h.table h.bookmark)
        ∙ ap (λ b. is_some (cond b (record_after (inverse (one_held tables g)) (records_before tables held h.table h.bookmark)) (records_before tables held h.table h.bookmark))) same
        ∙ ap (λ (o : Option RecordFields). is_some (record_after (inverse (one_held tables g)) o)) (own same)
        ∙ ap (λ (o : Option RecordFields). is_some (record_after (inverse_of g.kind g.table g.bookmark o) (records_before tables held g.table g.bookmark))) (before_is number tables sessions g all.0)
        ∙ left_some (long_values all.0.t) g.kind g.table g.bookmark g.before (records_before tables held g.table g.bookmark) (is_drop h.kind) all.0.drop e one
    by false same e one other =
        ap is_some (step_back number tables sessions g all.0 held h.table h.bookmark)
        ∙ ap (λ b. is_some (cond b (record_after (inverse (one_held tables g)) (records_before tables held h.table h.bookmark)) (records_before tables held h.table h.bookmark))) same
        ∙ other e

-- each is known, and each two of a record go on from one another in order
pub record HasTurn (number : ℕ) (tables : List TableContents) (sessions : List LiveState) (held : List HeldChange) : Type 0 where
  pub each : AllByRecursion (IsKnown number tables sessions) held
  pub order : are_in_order tables sessions held ≡ true

pub later : (number : ℕ) (tables : List TableContents) (sessions : List LiveState) (h : HeldChange) (held : List HeldChange) → HasTurn number tables sessions (h ∷ held) → HasTurn number tables sessions held
later number tables sessions h held has = record {
  each = has.each.1;
  order = and_right (list_all (is_before sessions h) held) (are_in_order tables sessions held) (and_right (goes_on (node_under tables h) h held) (list_all (is_before sessions h) held && are_in_order tables sessions held) has.order);
}

pub leaves : (number : ℕ) (tables : List TableContents) (sessions : List LiveState) → AllOrdered tables → (h : HeldChange) (held : List HeldChange) → HasTurn number tables sessions (h ∷ held) → is_some (records_before tables held h.table h.bookmark) ≡ not (is_drop h.kind)
leaves number tables sessions rise h held has =
    present number tables sessions rise held has.each.1 (later number tables sessions h held has).order h has.each.0
    (and_left (goes_on (node_under tables h) h held) (list_all (is_before sessions h) held && are_in_order tables sessions held) has.order)

-- ---- in turn

can_leave : (number : ℕ) (table : Table) (what : ChangeKind) (id : ℕ) (bookmark : List ℕ) (before after : Option RecordFields) → is_some after ≡ not (is_drop what) → adds_to_sum table what ≡ true → HasAmount what
    → IfSome after (IsSoundRecord number (schema_of table) bookmark) → CanLeave what (record_after (inverse_of what id bookmark before) after) after
can_leave number table kind.Put id bookmark before after a adds amount sound = a
can_leave number table kind.Drop id bookmark before after a adds amount sound = none_there after a
can_leave number table kind.Hold id bookmark before after a adds amount sound = tt
can_leave number table (kind.Add column amount) id bookmark before None a adds fits sound = refl
can_leave number table (kind.Add column amount) id bookmark before (Some fields) a adds fits sound = ap (λ (f : RecordFields). Some f) (back_again fields column.0 amount fits sound.1.0 (sound.1.1 column.0 adds))

pub in_turn : (number : ℕ) (tables : List TableContents) (sessions : List LiveState) → AllOrdered tables → ArePlain (map newest_table tables) → EachIn IsSoundRecord number (map newest_table tables) (records_of (map newest_table tables))
    → (held : List HeldChange) → HasTurn number tables sessions held → AreInTurn (shown_held tables held) (map newest_table tables)
in_turn number tables sessions rise plain newest [] has = tt
in_turn number tables sessions rise plain newest (h ∷ held) has =
    let k = has.each.0 in
    let rest = in_turn number tables sessions rise plain newest held (later number tables sessions h held has) in
    let each = each_before IsSoundRecord number (map newest_table tables) (shown_held tables held) rest (sums_keep number tables sessions plain held has.each.1) (befores_sound number tables sessions held has.each.1) newest in
    let here = subst (λ (o : Option Table). IfSome o (λ table. (bookmark : List ℕ) → IfSome (records_before tables held h.table bookmark) (IsSoundRecord number (schema_of table) bookmark))) (table_found tables h.table k.t k.found) (each h.table) in (
      k.stands,
      is_there number tables sessions h k held,
      can_leave number (newest_table k.t) h.kind h.table h.bookmark (one_held tables h).before (records_before tables held h.table h.bookmark) (leaves number tables sessions rise h held has) k.adds (has_amount h k.fits) (here h.bookmark),
      rest,
    )

-- ---- costs

own_cost : (number : ℕ) (t : TableContents) (what : ChangeKind) (id : ℕ) (bookmark : List ℕ) (o : Option (List ℕ)) (after : Option RecordFields) → IfSome o (HasSoundRow number t bookmark)
    → cost what o ≡ cost_of (change_made what id bookmark after) (record_after (inverse_of what id bookmark (kept_before (long_values t) what o)) after)
own_cost number t kind.Put id bookmark None after sound = refl
own_cost number t kind.Put id bookmark (Some row) after sound = ap (λ n. 64 + (n + 7) / 8 * 8) (sym (size_is number t bookmark row sound))
own_cost number t kind.Drop id bookmark None after sound = refl
own_cost number t kind.Drop id bookmark (Some row) after sound = ap (λ n. 64 + (n + 7) / 8 * 8) (sym (size_is number t bookmark row sound))
own_cost number t kind.Hold id bookmark o after sound = refl
own_cost number t (kind.Add column amount) id bookmark o after sound = refl

pub have_costs : (number : ℕ) (tables : List TableContents) (sessions : List LiveState) (held : List HeldChange) → AllByRecursion (IsKnown number tables sessions) held → HaveTheirCosts (shown_held tables held) (map newest_table tables)
have_costs number tables sessions [] k = tt
have_costs number tables sessions (h ∷ held) k =
    let after = records_before tables held h.table h.bookmark in (
      own_cost number k.0.t h.kind h.table h.bookmark h.before after k.0.before
          ∙ ap (λ (o : Option RecordFields). cost_of (change_made h.kind h.table h.bookmark after) (record_after (inverse_of h.kind h.table h.bookmark o) after)) (sym (before_is number tables sessions h k.0)),
      have_costs number tables sessions held k.1,
    )

-- ---- touched records

touches : (values : Values) (what : ChangeKind) (id : ℕ) (bookmark : List ℕ) (o : Option (List ℕ)) (after : Option RecordFields) → (is_drop what ≡ true → is_some o ≡ true) → is_some after ≡ not (is_drop what)
    → (is_some (record_after (inverse_of what id bookmark (kept_before values what o)) after) || is_some after) ≡ true
touches values kind.Put id bookmark o after drop a = or_second (is_some (record_after (inverse_of kind.Put id bookmark (kept_before values kind.Put o)) after)) (is_some after) a
touches values kind.Drop id bookmark None after drop a = impossible (drop refl)
touches values kind.Drop id bookmark (Some row) after drop a = refl
touches values kind.Hold id bookmark o after drop a = or_second (is_some after) (is_some after) a
touches values (kind.Add column amount) id bookmark o after drop a = or_second (is_some (option_map (λ (fields : RecordFields). with_sum fields column.0 (neg_ℤ amount)) after)) (is_some after) a

pub all_touch : (number : ℕ) (tables : List TableContents) (sessions : List LiveState) → AllOrdered tables → (held : List HeldChange) → HasTurn number tables sessions held → AllByRecursion TouchesRecord (past_of (shown_held tables held) (map newest_table tables))
all_touch number tables sessions rise [] has = tt
all_touch number tables sessions rise (h ∷ held) has =
    let k = has.each.0 in
    let after = records_before tables held h.table h.bookmark in (
      ap (λ (o : Option RecordFields). is_some (record_after (inverse_of h.kind h.table h.bookmark o) after) || is_some after) (before_is number tables sessions h k)
          ∙ touches (long_values k.t) h.kind h.table h.bookmark h.before after k.drop (leaves number tables sessions rise h held has),
      all_touch number tables sessions rise held (later number tables sessions h held has),
    )
