-- What is found of a unique index is the first key that is shared among its spans in order.
use Rattle.std.proofs.Common.{◌≡◌, ℕ, ◌≤◌, Bool, true, false, ◌&&◌, ◌||◌, cond, List, [], ◌∷◌, ◌++◌, length, Option, Some, None, map, refl, sym, ap, subst, ◌∙◌, arith}
use Rattle.std.specs.Prelude.{not, ◌==◌, nat_le, find, filter, option_and_then, option_map, slice_get, count_by}
use Rattle.std.specs.List.{AllByRecursion, list_any}
use Rattle.std.specs.List.Sorted.{IsStrictlySortedBy}
use Rattle.btree_inplace.specs.Trees.{nodes_of}
use Rattle.common_lemmas.proofs.Booleans.{by_test, impossible}
use Rattle.common_lemmas.proofs.Finding.{find_map}
use Rattle.common_lemmas.proofs.Lists.{all_each, filter_none}
use Rattle.cursor_nav.specs.Places.{Pair}
use Rattle.database_state.specs.State.{LiveSession, PastChange, Status, committed, uncommitted, undone}
use Rattle.database_state.specs.Table.{Table, rows_of, schema_of, table_with_id}
use Rattle.image_contents.specs.ReadVariants.{contents_of}
use Rattle.image_contents.specs.declared.entries.variants.TableVariants.{TableVariants}
use Rattle.image_findings.specs.EntryFindings.{wanted_entries}
use Rattle.image_findings.specs.Findings.{engine_of_parts, history_of}
use Rattle.image_findings.specs.Images.{Finding, at_least_key, least_key}
use Rattle.image_findings.specs.Images.Finding.{Unique}
use Rattle.image_findings.specs.KeyFindings.{HeldHistory, is_unique_key, unique_finding}
use Rattle.image_findings.specs.LiveFindings.{is_sound_live}
use Rattle.image_findings.specs.TableContents.{TableContents, contents_with_id, long_values, newest_table}
use Rattle.index_derive.specs.Entries.{condition_columns, has_double_number, is_escrow_column, is_legal, is_legal_primary, is_legal_tuples, is_multi_column, is_unique, key_columns}
use Rattle.index_derive.specs.declared.rules.IndexRule.{IndexRule}
use Rattle.index_derive.specs.declared.rules.Schema.{Schema}
use Rattle.laws_engine.specs.Holding.{RowsRise}
use Rattle.laws_images.specs.ShownStates.{past_of, session_of, tables_before, with_empty_snapshot, with_snapshot}
use Rattle.laws_versions.specs.History.{is_apart_by}
use Rattle.live_part.specs.LiveBytes.{LivePart, live_fits, standing, without_undone}
use Rattle.page_image.specs.Page.{HasRisingKeys, Node}
use Rattle.version_cleanup.specs.LiveSessions.{LiveState, transaction_in}
use Rattle.version_cleanup.specs.declared.live.Transaction.{Transaction as LiveTransaction}
use Rattle.version_store.specs.HeldChanges.{HeldChange, is_standing_rewrite}
use Rattle.image_contents.specs.FoundEntries.{name_of_rule}
use Rattle.image_live.specs.FoundKeys.{finding_in}
use Rattle.image_live.specs.KeptRows.{HasSoundChanges, finding_by, history_in}
use Rattle.image_live.specs.declared.keys.duplicate.DuplicateKey.{DuplicateKey}
use Rattle.index_derive.specs.Schemas.{rule_with_id}
use Rattle.jet_base.specs.declared.ids.IndexId.{IndexId}
use Rattle.image_live.specs.KeySpans.{Span as KeySpan, begin_of, first_shared, spans_of}
use Rattle.image_live.specs.SpanOrder.{AreInOrder, span_cmp}
use Rattle.image_live.proofs.FirstRows.{first_rise}
use Rattle.image_live.proofs.HeldFacts.{AreHeld, are_held}
use Rattle.image_live.proofs.HeldTimelines.{is_timeline, timeline}
use Rattle.image_live.proofs.LeastKeys.{in_filter, least_is, of_filter}
use Rattle.image_live.proofs.Lists.{In, all_in, contains_in, in_at, in_contains}
use Rattle.image_live.proofs.Members.{IsSpan, has_span, is_span}
use Rattle.image_live.proofs.NodeRows.{Rises, rises, rows_rise}
use Rattle.image_live.proofs.Places.{begin_within}
use Rattle.image_live.proofs.RecordsLeft.{NamesNoSum, names_no_sum, shown_held}
use Rattle.image_live.proofs.SpansInOrder.{AllLess, AreOf, IsBelow, IsFoundBy, SharedAt, all_less, apart_below, found_by, shared_apart}
use Rattle.image_live.proofs.Timelines.{AreSpansApart, IsTimeline, Timeline, alone, spans}
use Rattle.image_live.proofs.Uniques.{TellApart, alone_of, unique_of}
use Rattle.image_live.proofs.WantedKeys.{is_wanted}

-- ---- tables and rows

table_found : (tables : List TableContents) (id : ℕ) (t : TableContents) → contents_with_id tables id ≡ Some t → table_with_id (map newest_table tables) id ≡ Some (newest_table t)
table_found tables id t e = find_map newest_table (λ (u : Table). u.id == id) tables ∙ ap (option_map newest_table) e

-- ---- rules

fifth : (a b c d e f g h i j : Bool) → (a && b && c && d && e && f && g && h && i && j) ≡ true → e ≡ true
fifth true true true true true f g h i j is = refl
fifth true true true true false f g h i j is = impossible is
fifth true true true false e f g h i j is = impossible is
fifth true true false d e f g h i j is = impossible is
fifth true false c d e f g h i j is = impossible is
fifth false b c d e f g h i j is = impossible is

not_false : (b : Bool) → not b ≡ true → b ≡ false
not_false true e = sym e
not_false false e = refl

no_sum : (rule : IndexRule) (schema : Schema) → is_legal rule schema ≡ true → NamesNoSum rule schema
unfolding is_legal
no_sum rule schema legal =
    names_no_sum rule schema
    (not_false (list_any (is_escrow_column schema) (key_columns rule ++ condition_columns rule))
    (fifth (nat_le 1 (length rule.segments)) (nat_le (length rule.segments) 12) (not (has_double_number (key_columns rule))) (nat_le (length rule.conditions) 12) (not (list_any (is_escrow_column schema) (key_columns rule ++ condition_columns rule)))
    (nat_le 255 rule.key_most) (nat_le rule.key_most 500) (not rule.flags.primary || is_legal_primary rule schema) (not rule.flags.crossproduct || nat_le (count_by (is_multi_column schema) (key_columns rule)) 2) (not rule.flags.tuples || is_legal_tuples rule schema) legal))

-- ---- past changes that are apart

-- the transaction of a session in the state is the live one with its copy
copied : (first : List Table) (past : List PastChange) (sessions : List LiveState) (label : ℕ)
    → option_and_then (λ (s : LiveSession). s.transaction) (find (λ (s : LiveSession). s.label == label) (map (session_of first past) sessions)) ≡ option_map (with_snapshot first past) (transaction_in label sessions)
copied first past [] label = refl
copied first past (s ∷ sessions) label = by (s.label == label) (copied first past sessions label)
  where
    rest : Option LiveSession
    rest = find (λ (s : LiveSession). s.label == label) (map (session_of first past) sessions)

    others : Option LiveState
    others = find (λ (s : LiveState). s.label == label) sessions

    by : (b : Bool) → option_and_then (λ (s : LiveSession). s.transaction) rest ≡ option_map (with_snapshot first past) (option_and_then (λ (s : LiveState). s.transaction) others)
        → option_and_then (λ (s : LiveSession). s.transaction) (cond b (Some (session_of first past s)) rest) ≡ option_map (with_snapshot first past) (option_and_then (λ (s : LiveState). s.transaction) (cond b (Some s) others))
    by true e = refl
    by false e = e

-- whether two changes are apart does not depend on the copy
apart_alike : (first : List Table) (past : List PastChange) (o : Option LiveTransaction) (number : ℕ) (same : Bool) (earlier later : Status) → is_apart_by (option_map with_empty_snapshot o) number same earlier later ≡ is_apart_by (option_map (with_snapshot first past) o) number same earlier later
apart_alike first past None number same earlier later = refl
apart_alike first past (Some t) number same earlier uncommitted = refl
apart_alike first past (Some t) number same earlier (committed at) = refl
apart_alike first past (Some t) number same earlier undone = refl

module _ (number : ℕ) (tables : List TableContents) (live : LivePart) (t : TableContents) (rule : IndexRule) (found : contents_with_id tables t.table.id ≡ Some t) (fits : live_fits live ≡ true) (sound : is_sound_live number tables live ≡ true)
    (rise : Rises t.nodes) (legal : is_legal rule (schema_of t.table) ≡ true) where
  abbrev held : List HeldChange
  held = standing live.held

  abbrev history : HeldHistory
  history = history_of (engine_of_parts 0 number 0 tables (without_undone live))

  are : AreHeld live.sessions tables t held
  are = are_held number tables live t fits found sound

  plain : NamesNoSum rule (schema_of t.table)
  plain = no_sum rule (schema_of t.table) legal

  abbrev tl : List ℕ → Timeline
  tl key = timeline live.sessions tables t rule held key

  time : (key : List ℕ) → IsTimeline (tl key)
  time key = is_timeline live.sessions tables t rule held key found plain are

  tell : TellApart live.sessions tables history.transactions
  tell h k one other =
      ap (λ o. is_apart_by o k.number (h.session == k.session) h.status k.status) (copied (tables_before (shown_held tables held) (map newest_table tables)) (past_of (shown_held tables held) (map newest_table tables)) live.sessions k.session)
      ∙ sym (apart_alike (tables_before (shown_held tables held) (map newest_table tables)) (past_of (shown_held tables held) (map newest_table tables)) (transaction_in k.session live.sessions) k.number (h.session == k.session) h.status k.status)

  first_rows : RowsRise (rows_of (table_with_id history.first t.table.id))
  first_rows = first_rise (shown_held tables held) (map newest_table tables) t.table.id (subst (λ (o : Option Table). RowsRise (rows_of o)) (sym newest) (rows_rise (long_values t) t.nodes rise))
    where
      newest : table_with_id (map newest_table tables) t.table.id ≡ Some (newest_table t)
      newest = table_found tables t.table.id t found

  -- a key is unique exactly where its spans follow one another
  unique_where : (key : List ℕ) → AreSpansApart (tl key) → is_unique_key history t.table rule key ≡ true
  unique_where key apart = unique_of live.sessions tables t rule held key found plain are history.transactions tell first_rows (alone (tl key) (time key) apart)

  apart_where : (key : List ℕ) → is_unique_key history t.table rule key ≡ true → AreSpansApart (tl key)
  apart_where key unique = spans (tl key) (time key) (alone_of live.sessions tables t rule held key found plain are history.transactions tell first_rows unique)

  -- ---- the spans in their order

  abbrev begins : List ℕ → ℕ → ℕ
  begins = begin_of t.table.id held

  pub of_span : (s : KeySpan) → In s (spans_of rule t held) → AreOf live.sessions held tl begins s
  of_span s there = let is : IsSpan live.sessions tables t rule held found plain are rise s = is_span live.sessions tables t rule held found plain are rise s there in (is.span, is.begins)

  abbrev keys_left : List (List ℕ)
  keys_left = filter (λ key. not (is_unique_key history t.table rule key)) (map (λ (p : Pair). p.0) (wanted_entries held t rule))

  abbrev found_key : List ℕ → Finding
  found_key = Unique t.table.name rule.name

  module _ (l : List KeySpan) (order : IsStrictlySortedBy span_cmp l) (all : (s : KeySpan) → In s (spans_of rule t held) → In s l) (only : (s : KeySpan) → In s l → In s (spans_of rule t held)) where
    less : AllLess live.sessions held l
    less = all_less live.sessions held l order

    of : AllByRecursion (AreOf live.sessions held tl begins) l
    of = all_in (AreOf live.sessions held tl begins) l (λ s there. of_span s (only s there))

    below : (key : List ℕ) → IsBelow live.sessions held (first_shared live.sessions held l) key → AreSpansApart (tl key)
    below key low =
        apart_below live.sessions held tl (length held) begins (λ k. refl) (λ k. refl) (λ k. refl) time l less of key
        (λ b e span. all (record { key = key; bookmark = b; begins = begins b e; ends = e }) (has_span live.sessions tables t rule held found plain are rise key b e span)) low

    all_unique : first_shared live.sessions held l ≡ None → (key : List ℕ) → not (is_unique_key history t.table rule key) ≡ false
    all_unique none key = ap not (unique_where key (below key (subst (λ (o : Option (List ℕ)). IsBelow live.sessions held o key) (sym none) tt)))

    found_shared : (key : List ℕ) → first_shared live.sessions held l ≡ Some key → SharedAt live.sessions held l key
    found_shared key some = by (first_shared live.sessions held l) (found_by live.sessions held l less) some
      where
        by : (o : Option (List ℕ)) → IsFoundBy live.sessions held l o → o ≡ Some key → SharedAt live.sessions held l key
        by None f e = absurd (nothing e)
          where
            nothing : None ≡ Some key → ⊥
            nothing e = cc
        by (Some k) f e = subst (SharedAt live.sessions held l) (same k key e) f
          where
            same : (a b : List ℕ) → Some a ≡ Some b → a ≡ b
            same a b e = cc

    not_unique : (key : List ℕ) → SharedAt live.sessions held l key → not (is_unique_key history t.table rule key) ≡ true
    not_unique key shared =
        by_test (is_unique_key history t.table rule key)
        (λ e. absurd (shared_apart live.sessions held tl (length held) begins (λ k. refl) (λ k. refl) (λ k. refl) time l of key shared (apart_where key e)))
        (λ e. ap not e)

    is_least : (key : List ℕ) → first_shared live.sessions held l ≡ Some key → least_key keys_left ≡ Some key
    is_least key some =
        let shared : SharedAt live.sessions held l key = found_shared key some in
        least_is key keys_left
        (in_filter (λ k. not (is_unique_key history t.table rule k)) key (map (λ (p : Pair). p.0) (wanted_entries held t rule)) (not_unique key shared)
        (subst (λ (k : List ℕ). In k (map (λ (p : Pair). p.0) (wanted_entries held t rule))) shared.s_key (is_wanted rule t held shared.s (only shared.s shared.s_in))))
        (λ x there lower. impossible
        (sym (ap not (unique_where x (below x (subst (λ (o : Option (List ℕ)). IsBelow live.sessions held o x) (sym some) lower))))
        ∙ of_filter (λ k. not (is_unique_key history t.table rule k)) x (map (λ (p : Pair). p.0) (wanted_entries held t rule)) there))

    pub is_found : is_unique rule ≡ true → option_map found_key (first_shared live.sessions held l) ≡ unique_finding history held t rule
    is_found unique = by (first_shared live.sessions held l) refl ∙ sym (ap (λ b. cond b (at_least_key found_key keys_left) None) unique)
      where
        by : (o : Option (List ℕ)) → first_shared live.sessions held l ≡ o → option_map found_key o ≡ at_least_key found_key keys_left
        by None e =
            sym (ap (at_least_key found_key)
            (filter_none (λ key. not (is_unique_key history t.table rule key)) (map (λ (p : Pair). p.0) (wanted_entries held t rule))
            (all_each (λ key. not (is_unique_key history t.table rule key) ≡ false) (all_unique e) (map (λ (p : Pair). p.0) (wanted_entries held t rule)))))
        by (Some key) e = sym (ap (option_map found_key) (is_least key e))

-- ---- of a table as it was opened

same_spans : (rule : IndexRule) (table : Table) (nodes values : List Node) (t : TableContents) (one other : List HeldChange) → table ≡ t.table → nodes ≡ t.nodes → values ≡ t.value_nodes → one ≡ other
    → spans_of rule (record { table = table; nodes = nodes; value_nodes = values; indexes = [] }) one ≡ spans_of rule t other
same_spans rule table nodes values t one other tables news longs changes =
    ap (λ (x : Table). spans_of rule (record { table = x; nodes = nodes; value_nodes = values; indexes = [] }) one) tables
    ∙ ap (λ (x : List Node). spans_of rule (record { table = t.table; nodes = x; value_nodes = values; indexes = [] }) one) news
    ∙ ap (λ (x : List Node). spans_of rule (record { table = t.table; nodes = t.nodes; value_nodes = x; indexes = [] }) one) longs
    ∙ ap (spans_of rule t) changes

pub spans_are : (sessions : List LiveState) (v : TableVariants) (kept : HasSoundChanges sessions v) (rule : IndexRule) → spans_of rule (contents_of v) v.versions.now ≡ spans_of rule kept.contents (standing kept.live.held)
spans_are sessions v kept rule =
    same_spans rule v.table.now (nodes_of v.space.now v.opened.now.nodes) (nodes_of v.space.now v.opened.now.long_values) kept.contents v.versions.now (standing kept.live.held) kept.shown.table kept.shown.contents.nodes_are kept.shown.contents.values_are (sym kept.held_are)

pub found_is : (sessions : List LiveState) (v : TableVariants) (kept : HasSoundChanges sessions v) (rule : IndexRule) → HasRisingKeys (nodes_of v.space.now v.opened.now.nodes) → is_legal rule (schema_of v.table.now) ≡ true → is_unique rule ≡ true
    → (l : List KeySpan) → AreInOrder (spans_of rule (contents_of v) v.versions.now) l
    → option_map (Unique kept.contents.table.name rule.name) (first_shared sessions v.versions.now l) ≡ unique_finding (history_in kept) (standing kept.live.held) kept.contents rule
found_is sessions v kept rule rise legal unique l sorted =
    ap (λ (x : List LiveState). option_map (Unique kept.contents.table.name rule.name) (first_shared x v.versions.now l)) (sym kept.sessions_are)
    ∙ ap (λ (x : List HeldChange). option_map (Unique kept.contents.table.name rule.name) (first_shared kept.live.sessions x l)) (sym kept.held_are)
    ∙ is_found kept.number kept.tables kept.live kept.contents rule kept.found kept.fits kept.sound
    (rises kept.contents.nodes (subst (λ (x : List Node). HasRisingKeys x) kept.shown.contents.nodes_are rise)) (subst (λ (x : Table). is_legal rule (schema_of x) ≡ true) kept.shown.table legal) l sorted.order
    (λ s there. contains_in s l (sorted.all s (in_contains s (spans_of rule (contents_of v) v.versions.now) (subst (λ (x : List KeySpan). In s x) (sym (spans_are sessions v kept rule)) there))))
    (λ s there. subst (λ (x : List KeySpan). In s x) (spans_are sessions v kept rule) (contains_in s (spans_of rule (contents_of v) v.versions.now) (sorted.only s (in_contains s l there)))) unique

-- a span begins within the changes
pub begins_within : (sessions : List LiveState) (v : TableVariants) (kept : HasSoundChanges sessions v) (rule : IndexRule) → HasRisingKeys (nodes_of v.space.now v.opened.now.nodes) → is_legal rule (schema_of v.table.now) ≡ true
    → (l : List KeySpan) → AreInOrder (spans_of rule (contents_of v) v.versions.now) l → (place : ℕ) (s : KeySpan) → slice_get l place ≡ Some s → s.begins ≤ length v.versions.now
begins_within sessions v kept rule rise legal l sorted place s at =
    let there : In s (spans_of rule kept.contents (standing kept.live.held)) = subst (λ (x : List KeySpan). In s x) (spans_are sessions v kept rule) (contains_in s (spans_of rule (contents_of v) v.versions.now) (sorted.only s (in_contains s l (in_at s l place at)))) in
    let is = of_span kept.number kept.tables kept.live kept.contents rule kept.found kept.fits kept.sound (rises kept.contents.nodes (subst (λ (x : List Node). HasRisingKeys x) kept.shown.contents.nodes_are rise)) (subst (λ (x : Table). is_legal rule (schema_of x) ≡ true) kept.shown.table legal) s there in
    subst (λ (x : List HeldChange). s.begins ≤ length x) kept.held_are
    (subst (λ (n : ℕ). n ≤ length (standing kept.live.held)) (sym is.1) (within kept.contents.table.id (standing kept.live.held) s.bookmark s.ends is.0.0.0))
  where
    within : (table : ℕ) (held : List HeldChange) (b : List ℕ) (e : ℕ) → e ≤ length held → begin_of table held b e ≤ length held
    within table held b e le = let less : begin_of table held b e ≤ e = begin_within (is_standing_rewrite table b) held e in omega (arith, le, less)

-- ---- as it is told

-- nothing is found of an index that is not unique
pub not_asked : (sessions : List LiveState) (v : TableVariants) (kept : HasSoundChanges sessions v) (rule : IndexRule) → is_unique rule ≡ false → None ≡ finding_by kept (Some rule)
not_asked sessions v kept rule not_unique = sym (ap (λ b. cond b (at_least_key (Unique kept.contents.table.name rule.name) (filter (λ key. not (is_unique_key (history_in kept) kept.contents.table rule key)) (map (λ (p : Pair). p.0) (wanted_entries (standing kept.live.held) kept.contents rule)))) None) not_unique)

told_is : (sessions : List LiveState) (v : TableVariants) (kept : HasSoundChanges sessions v) (rule : IndexRule) (told : DuplicateKey) (index : IndexId) (key : List ℕ) → rule_with_id (schema_of v.table.now) index.0 ≡ Some rule → told.index ≡ index → told.key.items ≡ key
    → finding_in kept.contents.table told ≡ Unique kept.contents.table.name rule.name key
told_is sessions v kept rule told index key own same items =
    ap (λ (i : IndexId). Unique kept.contents.table.name (name_of_rule (rule_with_id (schema_of kept.contents.table) i.0)) told.key.items) same
    ∙ ap (λ (x : Table). Unique kept.contents.table.name (name_of_rule (rule_with_id (schema_of x) index.0)) told.key.items) (sym kept.shown.table)
    ∙ ap (λ (o : Option IndexRule). Unique kept.contents.table.name (name_of_rule o) told.key.items) own
    ∙ ap (Unique kept.contents.table.name rule.name) items

pub some_found : (sessions : List LiveState) (v : TableVariants) (kept : HasSoundChanges sessions v) (rule : IndexRule) (told : DuplicateKey) (index : IndexId) (key : List ℕ) → HasRisingKeys (nodes_of v.space.now v.opened.now.nodes) → is_legal rule (schema_of v.table.now) ≡ true → is_unique rule ≡ true
    → rule_with_id (schema_of v.table.now) index.0 ≡ Some rule → told.index ≡ index → told.key.items ≡ key → (l : List KeySpan) → AreInOrder (spans_of rule (contents_of v) v.versions.now) l → Some key ≡ first_shared sessions v.versions.now l
    → Some (finding_in kept.contents.table told) ≡ finding_by kept (Some rule)
some_found sessions v kept rule told index key rise legal unique own same items l sorted found =
    ap Some (told_is sessions v kept rule told index key own same items) ∙ ap (option_map (Unique kept.contents.table.name rule.name)) found ∙ found_is sessions v kept rule rise legal unique l sorted

pub none_found : (sessions : List LiveState) (v : TableVariants) (kept : HasSoundChanges sessions v) (rule : IndexRule) → HasRisingKeys (nodes_of v.space.now v.opened.now.nodes) → is_legal rule (schema_of v.table.now) ≡ true → is_unique rule ≡ true
    → (l : List KeySpan) → AreInOrder (spans_of rule (contents_of v) v.versions.now) l → None ≡ first_shared sessions v.versions.now l → None ≡ finding_by kept (Some rule)
none_found sessions v kept rule rise legal unique l sorted found = ap (option_map (Unique kept.contents.table.name rule.name)) found ∙ found_is sessions v kept rule rise legal unique l sorted
