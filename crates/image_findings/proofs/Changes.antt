-- What is known of each held change of a consistent image that is not undone.
use Rattle.std.proofs.Common.{◌≡◌, ◌≤◌, ℕ, Bool, true, false, ◌&&◌, ◌||◌, cond, List, [], ◌∷◌, ◌++◌, length, Option, Some, None, refl, sym, ap, ◌∙◌}
use Rattle.std.specs.Prelude.{not, ◌==◌, ◌^◌, nat_le, nat_lt, map, filter, flat_map, is_none, is_some, option_map, IfSome}
use Rattle.std.specs.Int.{w16, w32, w64, to_le_bytes}
use Rattle.std.specs.List.{AllByRecursion, list_all}
use Rattle.std.proofs.lemmas.Bool.{leb-true}
use Rattle.std.proofs.lemmas.List.Concat.{flat_map-cons}
use Rattle.btree_inplace.specs.Order.{get_in}
use Rattle.column_set.specs.RowReading.{row_in}
use Rattle.common_lemmas.proofs.Booleans.{and_left, and_right, impossible}
use Rattle.common_lemmas.proofs.Finding.{find_map}
use Rattle.common_lemmas.proofs.Found.{found_passes, of_found}
use Rattle.common_lemmas.proofs.Lists.{all_weaker}
use Rattle.common_lemmas.proofs.Numbers.{equal_turned}
use Rattle.common_lemmas.proofs.Options.{some_there}
use Rattle.database_state.specs.State.{is_undone}
use Rattle.database_state.specs.Table.{Table, table_with_id}
use Rattle.live_part.specs.LiveBytes.{LivePart, held_bytes, held_fits, label_of, live_bytes, live_fits, number_of, rises, row_bytes as before_bytes, session_bytes, session_fits, sized_entry_bytes, entry_of, standing, status_bytes}
use Rattle.long_rows.specs.WholeRows.{is_whole}
use Rattle.long_value.specs.Values.{Values}
use Rattle.stored_variants.specs.CountedValues.{row_before, rows_before}
use Rattle.version_cleanup.specs.LiveSessions.{LiveState}
use Rattle.version_store.specs.HeldChanges.{HeldChange, is_rewrite}
use Rattle.image_findings.specs.CatalogFindings.{is_sound_table}
use Rattle.image_findings.specs.Findings.{values_by_table}
use Rattle.image_findings.specs.LiveFindings.{adds_to_sum, are_in_order, are_sound_sessions, is_drop, is_placed, is_sound_before, is_sound_change, is_sound_live, is_sound_of, is_sound_row_before}
use Rattle.image_findings.specs.RowFindings.{is_row_under, lacks_node}
use Rattle.image_findings.specs.SoundRows.{HasSoundRow, HasSoundRows}
use Rattle.image_findings.specs.TableContents.{TableContents, contents_with_id, is_short_row, long_values, newest_table, row_fits}
use Rattle.image_findings.specs.ValueFindings.{broken_values, missing_before, missing_values, value_finding}
use Rattle.image_findings.proofs.Lists.{each_passes}
use Rattle.image_findings.proofs.Rows.{each_empty, no_keys, right_empty, sound_row, whole}
use Rattle.image_findings.proofs.SoundRecords.{are_bytes, bytes_behind}

-- Its table is there, with sound columns and indexes; it stands, and was made; a sum is one of an escrow column; a drop has a row before
-- it, and a row before is sound and of bytes; its record has a node; it is in its place, and has a spelling.
pub record IsKnown (number : ℕ) (tables : List TableContents) (sessions : List LiveState) (h : HeldChange) : Type 0 where
  pub t : TableContents
  pub found : contents_with_id tables h.table ≡ Some t
  pub sound : is_sound_table t.table ≡ true
  pub stands : is_undone h.status ≡ false
  pub within : h.number ≤ number
  pub adds : adds_to_sum t.table h.kind ≡ true
  pub drop : is_drop h.kind ≡ true → is_some h.before ≡ true
  pub before : IfSome h.before (HasSoundRow number t h.bookmark)
  pub bytes : IfSome h.before (λ row. are_bytes row ≡ true)
  pub node : is_some (get_in t.nodes h.bookmark) ≡ true
  pub placed : is_placed number sessions h h.status ≡ true
  pub fits : held_fits h ≡ true

-- ---- beside the tables

record IsKnownBeside (t : TableContents) (h : HeldChange) : Type 0 where
  node : lacks_node t h ≡ false
  whole : (h.table == t.table.id) ≡ true → IfSome h.before (λ row. is_whole (long_values t) (row_in row) ≡ true)

whole_before : (values : Values) (h : HeldChange) → missing_before values (row_before h) ≡ [] → IfSome h.before (λ row. is_whole values (row_in row) ≡ true)
whole_before values h e = by h.before e
  where
    by : (o : Option (List ℕ)) → missing_before values (row_before (record h { before = o })) ≡ [] → IfSome o (λ row. is_whole values (row_in row) ≡ true)
    by None e = tt
    by (Some row) e = whole values (row_in row) e

each_beside : (t : TableContents) (held : List HeldChange) → AllByRecursion (λ h. lacks_node t h ≡ false) held → AllByRecursion (λ change. missing_before (long_values t) change ≡ []) (rows_before t.table.id held) → AllByRecursion (IsKnownBeside t) held
each_beside t [] nodes missing = tt
each_beside t (h ∷ held) nodes missing = by (h.table == t.table.id) refl missing (λ others. each_beside t held nodes.1 others)
  where
    by : (b : Bool) → (h.table == t.table.id) ≡ b → AllByRecursion (λ change. missing_before (long_values t) change ≡ []) (map row_before (cond b (h ∷ filter (λ (g : HeldChange). g.table == t.table.id) held) (filter (λ (g : HeldChange). g.table == t.table.id) held)))
        → (AllByRecursion (λ change. missing_before (long_values t) change ≡ []) (rows_before t.table.id held) → AllByRecursion (IsKnownBeside t) held) → IsKnownBeside t h × AllByRecursion (IsKnownBeside t) held
    by true e missing rest = (record { node = nodes.0; whole = λ own. whole_before (long_values t) h missing.0 }, rest missing.1)
    by false e missing rest = (record { node = nodes.0; whole = λ own. impossible (sym e ∙ own) }, rest missing)

beside : (number : ℕ) (held : List HeldChange) (tables : List TableContents) → AllByRecursion (λ t. value_finding number held t ≡ None) tables → AllByRecursion (HasSoundRows number held) tables → AllByRecursion (λ t. AllByRecursion (IsKnownBeside t) held) tables
beside number held [] values rows = tt
beside number held (t ∷ tables) values rows =
    let missing = right_empty (broken_values number t) (missing_values held t) (no_keys _ (broken_values number t ++ missing_values held t) values.0) in
    let before = right_empty _ (flat_map (missing_before (long_values t)) (rows_before t.table.id held)) missing in
    (each_beside t held rows.0.changed (each_empty (missing_before (long_values t)) (rows_before t.table.id held) before), beside number held tables values.1 rows.1)

-- what all of one list have with all of another, turned
turned : {X Y : Type 0} (R : X → Y → Type 0) (xs : List X) (ys : List Y) → AllByRecursion (λ x. AllByRecursion (R x) ys) xs → AllByRecursion (λ y. AllByRecursion (λ x. R x y) xs) ys
turned R xs [] h = tt
turned {X} {Y} R xs (y ∷ ys) h = (
  all_weaker (λ x. AllByRecursion (R x) (y ∷ ys)) (λ x. R x y) (λ x all. all.0) xs h,
  turned R xs ys (all_weaker (λ x. AllByRecursion (R x) (y ∷ ys)) (λ x. AllByRecursion (R x) ys) (λ x all. all.1) xs h),
)

-- ---- bytes of the rows before

before_is : (o : Option (List ℕ)) → are_bytes (before_bytes o) ≡ true → IfSome o (λ row. are_bytes row ≡ true)
before_is None h = tt
before_is (Some row) h = bytes_behind (1 ∷ to_le_bytes w16 (length row)) row h

held_is : (h : HeldChange) → are_bytes (held_bytes h) ≡ true → IfSome h.before (λ row. are_bytes row ≡ true)
held_is h e =
    before_is h.before
    (bytes_behind (sized_entry_bytes (entry_of h)) (before_bytes h.before)
    (bytes_behind (status_bytes h.status) (sized_entry_bytes (entry_of h) ++ before_bytes h.before)
    (bytes_behind (h.level ∷ []) (status_bytes h.status ++ (sized_entry_bytes (entry_of h) ++ before_bytes h.before))
    (bytes_behind (to_le_bytes w64 h.number) ((h.level ∷ []) ++ (status_bytes h.status ++ (sized_entry_bytes (entry_of h) ++ before_bytes h.before))) e))))

bytes_first : (xs ys : List ℕ) → are_bytes (xs ++ ys) ≡ true → are_bytes xs ≡ true
bytes_first [] ys h = refl
bytes_first (x ∷ xs) ys h = and_both (nat_lt x 256) (are_bytes (xs ++ ys)) (are_bytes xs) h (bytes_first xs ys)
  where
    and_both : (a b c : Bool) → (a && b) ≡ true → (b ≡ true → c ≡ true) → (a && c) ≡ true
    and_both true b c h f = f h
    and_both false b c h f = h

each_held_is : (held : List HeldChange) → are_bytes (flat_map held_bytes held) ≡ true → AllByRecursion (λ h. IfSome h.before (λ row. are_bytes row ≡ true)) held
each_held_is [] e = tt
each_held_is (h ∷ held) e =
    let split = ap are_bytes (sym (flat_map-cons held_bytes h held)) ∙ e in
    (held_is h (bytes_first (held_bytes h) (flat_map held_bytes held) split), each_held_is held (bytes_behind (held_bytes h) (flat_map held_bytes held) split))

live_is : (live : LivePart) → are_bytes (live_bytes live) ≡ true → AllByRecursion (λ h. IfSome h.before (λ row. are_bytes row ≡ true)) live.held
live_is live e =
    each_held_is live.held
    (bytes_behind (to_le_bytes w32 (length live.held)) (flat_map held_bytes live.held)
    (bytes_behind (to_le_bytes w32 (length live.sessions) ++ flat_map session_bytes live.sessions) (to_le_bytes w32 (length live.held) ++ flat_map held_bytes live.held) e))

fits_each : (live : LivePart) → live_fits live ≡ true → list_all held_fits live.held ≡ true
fits_each live h =
    and_right (rises number_of 0 live.held) (list_all held_fits live.held) (and_right (nat_lt (length live.held) (2 ^ 32)) (rises number_of 0 live.held && list_all held_fits live.held)
    (and_right (nat_le (length live.sessions) 64 && (rises label_of 0 live.sessions && list_all session_fits live.sessions)) (nat_lt (length live.held) (2 ^ 32) && (rises number_of 0 live.held && list_all held_fits live.held)) h))

-- ---- one change

dropped_row : (number : ℕ) (t : TableContents) (h : HeldChange) (o : Option (List ℕ)) → is_undone h.status ≡ false → is_sound_before number t h o ≡ true → is_drop h.kind ≡ true → is_some o ≡ true
dropped_row number t h None stands e drop = sym (ap (λ b. b || not (is_drop h.kind)) stands ∙ ap not drop) ∙ e
dropped_row number t h (Some row) stands e drop = refl

sound_before : (number : ℕ) (t : TableContents) (h : HeldChange) (o : Option (List ℕ)) → is_undone h.status ≡ false → is_sound_before number t h o ≡ true → IfSome o (λ row. is_whole (long_values t) (row_in row) ≡ true) → IfSome o (HasSoundRow number t h.bookmark)
sound_before number t h None stands e is = tt
sound_before number t h (Some row) stands e is =
    sound_row number t h.bookmark row
    (sym (ap (λ b. cond b (is_short_row row && row_fits t.table.columns (row_in row)) (is_row_under number (long_values t) t.table h.bookmark row)) stands) ∙ and_right (is_rewrite h.kind) (is_sound_row_before number t h row) e) is

known : (number : ℕ) (tables : List TableContents) (sessions : List LiveState) (h : HeldChange) → AllByRecursion (λ t. is_sound_table t.table ≡ true) tables → is_undone h.status ≡ false → AllByRecursion (λ t. IsKnownBeside t h) tables
    → is_sound_change number tables sessions h ≡ true → held_fits h ≡ true → IfSome h.before (λ row. are_bytes row ≡ true) → IsKnown number tables sessions h
known number tables sessions h sound stands besides e fits bytes = by (contents_with_id tables h.table) refl (and_right (is_placed number sessions h h.status) (is_sound_of number h (contents_with_id tables h.table)) rest)
  where
    rest : (is_placed number sessions h h.status && is_sound_of number h (contents_with_id tables h.table)) ≡ true
    rest = and_right (nat_le h.number number) (is_placed number sessions h h.status && is_sound_of number h (contents_with_id tables h.table)) e

    has_node : (a : Bool) (o : Option (List ℕ)) → a ≡ true → (a && is_none o) ≡ false → is_some o ≡ true
    has_node true o own lacks = some_there o lacks
    has_node false o own lacks = impossible own

    by : (o : Option TableContents) → contents_with_id tables h.table ≡ o → is_sound_of number h o ≡ true → IsKnown number tables sessions h
    by None f is = impossible is
    by (Some t) f is =
        let own : (h.table == t.table.id) ≡ true = same (found_passes (λ t. t.table.id == h.table) tables t f) in
        let near = of_found (λ t. IsKnownBeside t h) (λ t. t.table.id == h.table) tables t f besides in
        let row = and_right (adds_to_sum t.table h.kind) (is_sound_before number t h h.before) is in
        record {
          t = t;
          found = f;
          sound = of_found (λ t. is_sound_table t.table ≡ true) (λ t. t.table.id == h.table) tables t f sound;
          stands = stands;
          within = leb-true h.number number (and_left (nat_le h.number number) (is_placed number sessions h h.status && is_sound_of number h (contents_with_id tables h.table)) e);
          adds = and_left (adds_to_sum t.table h.kind) (is_sound_before number t h h.before) is;
          drop = dropped_row number t h h.before stands row;
          before = sound_before number t h h.before stands row (near.whole own);
          bytes = bytes;
          node = has_node (h.table == t.table.id) (get_in t.nodes h.bookmark) own near.node;
          placed = and_left (is_placed number sessions h h.status) (is_sound_of number h (contents_with_id tables h.table)) rest;
          fits = fits;
        }
      where
        same : (t.table.id == h.table) ≡ true → (h.table == t.table.id) ≡ true
        same e = equal_turned h.table t.table.id ∙ e

-- ---- all changes

each_known : (number : ℕ) (tables : List TableContents) (sessions : List LiveState) → AllByRecursion (λ t. is_sound_table t.table ≡ true) tables → (held : List HeldChange) → AllByRecursion (λ h. AllByRecursion (λ t. IsKnownBeside t h) tables) (standing held)
    → AllByRecursion (λ h. is_sound_change number tables sessions h ≡ true) held → AllByRecursion (λ h. held_fits h ≡ true) held → AllByRecursion (λ h. IfSome h.before (λ row. are_bytes row ≡ true)) held → AllByRecursion (IsKnown number tables sessions) (standing held)
each_known number tables sessions sound [] besides is fits bytes = tt
each_known number tables sessions sound (h ∷ held) besides is fits bytes = by (is_undone h.status) refl besides (λ others. each_known number tables sessions sound held others is.1 fits.1 bytes.1)
  where
    by : (b : Bool) → is_undone h.status ≡ b → AllByRecursion (λ g. AllByRecursion (λ t. IsKnownBeside t g) tables) (cond (not b) (h ∷ standing held) (standing held))
        → (AllByRecursion (λ g. AllByRecursion (λ t. IsKnownBeside t g) tables) (standing held) → AllByRecursion (IsKnown number tables sessions) (standing held)) → AllByRecursion (IsKnown number tables sessions) (cond (not b) (h ∷ standing held) (standing held))
    by true e besides rest = rest besides
    by false e besides rest = (known number tables sessions h sound e besides.0 is.0 fits.0 bytes.0, rest besides.1)

pub all_known : (number : ℕ) (tables : List TableContents) (live : LivePart) → AllByRecursion (λ t. is_sound_table t.table ≡ true) tables → AllByRecursion (λ t. value_finding number (standing live.held) t ≡ None) tables
    → AllByRecursion (HasSoundRows number (standing live.held)) tables → is_sound_live number tables live ≡ true → live_fits live ≡ true → are_bytes (live_bytes live) ≡ true → AllByRecursion (IsKnown number tables live.sessions) (standing live.held)
all_known number tables live sound values rows is fits bytes =
    let rest = and_right (are_sound_sessions number tables live.sessions) (list_all (is_sound_change number tables live.sessions) live.held && are_in_order tables live.sessions (standing live.held)) is in
    each_known number tables live.sessions sound live.held (turned IsKnownBeside tables (standing live.held) (beside number (standing live.held) tables values rows))
    (each_passes (is_sound_change number tables live.sessions) live.held (and_left (list_all (is_sound_change number tables live.sessions) live.held) (are_in_order tables live.sessions (standing live.held)) rest))
    (each_passes held_fits live.held (fits_each live fits)) (live_is live bytes)

-- ---- what is found

pub table_found : (tables : List TableContents) (id : ℕ) (t : TableContents) → contents_with_id tables id ≡ Some t → table_with_id (map newest_table tables) id ≡ Some (newest_table t)
table_found tables id t e = find_map newest_table (λ (u : Table). u.id == id) tables ∙ ap (option_map newest_table) e

pub values_found : (tables : List TableContents) (id : ℕ) (t : TableContents) → contents_with_id tables id ≡ Some t → values_by_table tables id ≡ long_values t
values_found tables id t e = ap (λ (o : Option TableContents). elim o [ Some u ↦ long_values u | None ↦ [] ]) e
