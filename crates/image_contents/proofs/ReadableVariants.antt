-- The variants of a table's records can be read where nothing is found of its long values, of the live part and of its rows.
use Rattle.std.proofs.Common.{◌≡◌, ℕ, Bool, true, false, ◌&&◌, cond, List, [], ◌∷◌, ◌++◌, filter, map, Option, Some, None, refl, sym, ap, subst, ◌∙◌}
use Rattle.std.specs.Prelude.{◌==◌, flat_map, nat_le, not, IfSome}
use Rattle.std.specs.List.{AllByRecursion, list_all}
use Rattle.btree_inplace.specs.Trees.{nodes_of}
use Rattle.column_set.specs.RowReading.{row_in}
use Rattle.column_set.specs.Rows.{RowFields}
use Rattle.common_lemmas.proofs.Booleans.{and_left, and_right, impossible}
use Rattle.common_lemmas.proofs.Lists.{all_filtered, all_weaker}
use Rattle.common_lemmas.proofs.Numbers.{self_equal}
use Rattle.database_state.specs.Lawful.{is_indexable}
use Rattle.database_state.specs.State.{is_undone}
use Rattle.database_state.specs.Table.{Table, schema_of}
use Rattle.image_contents.specs.FirstParts.{HaveFirstParts}
use Rattle.image_contents.specs.FoundEntries.{IsShown}
use Rattle.image_contents.specs.LegalRules.{HasLegalRules}
use Rattle.image_contents.specs.ReadVariants.{AreReadableVariants, HasReadableBefore, HasReadableRow, IsReadableRow}
use Rattle.image_contents.specs.declared.entries.variants.TableVariants.{TableVariants}
use Rattle.image_contents.proofs.Least.{both_empty, no_keys}
use Rattle.image_contents.proofs.ShortRows.{row_of_short}
use Rattle.image_findings.specs.LiveFindings.{adds_to_sum, are_in_order, are_sound_sessions, is_placed, is_sound_before, is_sound_change, is_sound_live, is_sound_of, is_sound_row_before}
use Rattle.image_findings.specs.RowFindings.{is_own_bookmark, is_row_under}
use Rattle.image_findings.specs.SoundRows.{HasSoundRow}
use Rattle.image_findings.specs.TableContents.{TableContents, contents_with_id, is_short_row, long_values, row_fits}
use Rattle.image_findings.specs.ValueFindings.{broken_values, found_value, missing_before, missing_of_row, missing_values, value_finding}
use Rattle.live_part.specs.LiveBytes.{LivePart, standing}
use Rattle.long_rows.specs.WholeRows.{is_whole}
use Rattle.long_value.specs.Shown.{shown_values}
use Rattle.long_value.specs.Values.{Values}
use Rattle.page_image.specs.Page.{Node}
use Rattle.stored_variants.specs.CountedValues.{newest_rows, row_before, rows_before}
use Rattle.stored_variants.specs.RecordRows.{record_of, row_in_node}
use Rattle.version_cleanup.specs.LiveSessions.{LiveState}
use Rattle.version_store.specs.HeldChanges.{HeldChange, is_rewrite}

-- ---- newest rows

some_weaker : {X : Type 0} (P Q : X → Type 0) → ((x : X) → P x → Q x) → (o : Option X) → IfSome o P → IfSome o Q
some_weaker P Q f None h = tt
some_weaker P Q f (Some x) h = f x h

readable_row : (number : ℕ) (t : TableContents) (bookmark row : List ℕ) → HasSoundRow number t bookmark row → IsReadableRow (long_values t) row
readable_row number t bookmark row is = ((row_in row, is.row.formed, is.row.spelled), is.row.whole)

readable_nodes : (number : ℕ) (t : TableContents) → AllByRecursion (λ (n : Node). IfSome (row_in_node n.data) (HasSoundRow number t n.key)) t.nodes → AllByRecursion (HasReadableRow (long_values t)) t.nodes
readable_nodes number t sound =
    all_weaker (λ (n : Node). IfSome (row_in_node n.data) (HasSoundRow number t n.key)) (HasReadableRow (long_values t))
    (λ (n : Node) is. some_weaker (HasSoundRow number t n.key) (IsReadableRow (long_values t)) (readable_row number t n.key) (row_in_node n.data) is) t.nodes sound

-- ---- rows before held changes

abbrev IsWhole : Values → List ℕ → Type 0
IsWhole values row = is_whole values (row_in row) ≡ true

abbrev IsWholeBefore : TableContents → HeldChange → Type 0
IsWholeBefore t h = (h.table == t.table.id) ≡ true → IfSome h.before (IsWhole (long_values t))

-- the row before a change that stands is a row
short_before : (number : ℕ) (t : TableContents) (h : HeldChange) (row : List ℕ) → is_undone h.status ≡ false → is_sound_row_before number t h row ≡ true → is_short_row row ≡ true
short_before number t h row stands e =
    and_left (is_short_row row) (row_fits t.table.columns (row_in row) && (is_indexable (schema_of t.table) (record_of (long_values t) row) && is_own_bookmark number t.table (record_of (long_values t) row) h.bookmark))
    (sym (ap (λ b. cond b (is_short_row row && row_fits t.table.columns (row_in row)) (is_row_under number (long_values t) t.table h.bookmark row)) stands) ∙ e)

row_readable : (number : ℕ) (t : TableContents) (h : HeldChange) (o : Option (List ℕ)) → is_undone h.status ≡ false → is_sound_before number t h o ≡ true → IfSome o (IsWhole (long_values t)) → IfSome o (IsReadableRow (long_values t))
row_readable number t h None stands e is = tt
row_readable number t h (Some row) stands e is = (row_of_short row (short_before number t h row stands (and_right (is_rewrite h.kind) (is_sound_row_before number t h row) e)), is)

sound_of : (number : ℕ) (tables : List TableContents) (sessions : List LiveState) (t : TableContents) (h : HeldChange) → contents_with_id tables t.table.id ≡ Some t → h.table ≡ t.table.id → is_sound_change number tables sessions h ≡ true → is_sound_before number t h h.before ≡ true
sound_of number tables sessions t h there own e =
    and_right (adds_to_sum t.table h.kind) (is_sound_before number t h h.before)
    (sym (ap (is_sound_of number h) (ap (contents_with_id tables) own ∙ there))
    ∙ and_right (is_placed number sessions h h.status) (is_sound_of number h (contents_with_id tables h.table))
    (and_right (nat_le h.number number) (is_placed number sessions h h.status && is_sound_of number h (contents_with_id tables h.table)) e))

each_before : (number : ℕ) (tables : List TableContents) (sessions : List LiveState) (t : TableContents) → contents_with_id tables t.table.id ≡ Some t → (held : List HeldChange)
    → list_all (is_sound_change number tables sessions) held ≡ true → list_all (λ (h : HeldChange). not (is_undone h.status)) held ≡ true → AllByRecursion (IsWholeBefore t) held → AllByRecursion (HasReadableBefore (long_values t) t.table.id) held
each_before number tables sessions t there [] sound stand is = tt
each_before number tables sessions t there (h ∷ held) sound stand is =
    let first = and_left (is_sound_change number tables sessions h) (list_all (is_sound_change number tables sessions) held) sound in
    let stands = stays (is_undone h.status) (and_left (not (is_undone h.status)) (list_all (λ (g : HeldChange). not (is_undone g.status)) held) stand) in (
      (λ own. row_readable number t h h.before stands (sound_of number tables sessions t h there own first) (is.0 (same_table h.table t.table.id own))),
      each_before number tables sessions t there held (and_right (is_sound_change number tables sessions h) (list_all (is_sound_change number tables sessions) held) sound) (and_right (not (is_undone h.status)) (list_all (λ (g : HeldChange). not (is_undone g.status)) held) stand) is.1,
    )
  where
    stays : (b : Bool) → not b ≡ true → b ≡ false
    stays true e = sym e
    stays false e = refl

    same_table : (a b : ℕ) → a ≡ b → (a == b) ≡ true
    same_table a b e = ap (λ n. a == n) (sym e) ∙ self_equal a

all_left : {X : Type 0} (p : X → Bool) (xs : List X) → list_all p (filter p xs) ≡ true
all_left p [] = refl
all_left {X} p (x ∷ xs) = by (p x) refl (all_left p xs)
  where
    by : (b : Bool) → p x ≡ b → list_all p (filter p xs) ≡ true → list_all p (cond b (x ∷ filter p xs) (filter p xs)) ≡ true
    by true e rest = ap (λ b. b && list_all p (filter p xs)) e ∙ rest
    by false e rest = rest

befores_readable : (number : ℕ) (tables : List TableContents) (live : LivePart) (t : TableContents) → contents_with_id tables t.table.id ≡ Some t → is_sound_live number tables live ≡ true → AllByRecursion (IsWholeBefore t) (standing live.held)
    → AllByRecursion (HasReadableBefore (long_values t) t.table.id) (standing live.held)
befores_readable number tables live t there sound whole =
    let each = list_all (is_sound_change number tables live.sessions) live.held in
    let order = are_in_order tables live.sessions (standing live.held) in
    each_before number tables live.sessions t there (standing live.held)
    (all_filtered (is_sound_change number tables live.sessions) (λ (h : HeldChange). not (is_undone h.status)) live.held (and_left each order (and_right (are_sound_sessions number tables live.sessions) (each && order) sound)))
    (all_left (λ (h : HeldChange). not (is_undone h.status)) live.held)
    whole

-- ---- both

none_missing : (number : ℕ) (held : List HeldChange) (t : TableContents) → value_finding number held t ≡ None → missing_values held t ≡ []
none_missing number held t none = (both_empty (broken_values number t) (missing_values held t) (no_keys (found_value held t 0) (broken_values number t ++ missing_values held t) none)).1

abbrev pub HaveWholeBefore : Type 0
HaveWholeBefore = (held : List HeldChange) (t : TableContents) → missing_values held t ≡ [] → AllByRecursion (IsWholeBefore t) held

pub variants_readable : HaveWholeBefore → (number : ℕ) (tables : List TableContents) (live : LivePart) (v : TableVariants) (t : TableContents) → IsShown v t → HasLegalRules (schema_of t.table) → HaveFirstParts t.value_nodes
    → AllByRecursion (λ (n : Node). IfSome (row_in_node n.data) (HasSoundRow number t n.key)) t.nodes → contents_with_id tables t.table.id ≡ Some t → v.versions.now ≡ standing live.held → value_finding number v.versions.now t ≡ None → is_sound_live number tables live ≡ true → AreReadableVariants v
variants_readable whole number tables live v t is rules parts sound there held none live_sound =
    let missing = none_missing number (standing live.held) t (subst (λ (l : List HeldChange). value_finding number l t ≡ None) held none) in
    record {
      nodes_tree = is.contents.nodes_tree;
      values_tree = is.contents.values_tree;
      parts = subst HaveFirstParts (sym is.contents.values_are) parts;
      rules = subst (λ (table : Table). HasLegalRules (schema_of table)) (sym is.table) rules;
      newest = subst (λ (values : List Node). AllByRecursion (HasReadableRow (shown_values values)) (nodes_of v.space.now v.opened.now.nodes)) (sym is.contents.values_are)
          (subst (λ (nodes : List Node). AllByRecursion (HasReadableRow (long_values t)) nodes) (sym is.contents.nodes_are) (readable_nodes number t sound));
      before = subst (λ (values : List Node). AllByRecursion (HasReadableBefore (shown_values values) v.table.now.id) v.versions.now) (sym is.contents.values_are)
          (subst (λ (table : Table). AllByRecursion (HasReadableBefore (long_values t) table.id) v.versions.now) (sym is.table)
          (subst (λ (l : List HeldChange). AllByRecursion (HasReadableBefore (long_values t) t.table.id) l) (sym held) (befores_readable number tables live t there live_sound (whole (standing live.held) t missing))));
    }
