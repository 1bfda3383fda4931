-- The rows and the held changes of a consistent image, as a store keeps them.
use Rattle.std.proofs.Common.{◌≡◌, ◌≤◌, ◌<◌, ℕ, Bool, true, false, not, ◌&&◌, ◌||◌, List, [], ◌∷◌, ◌++◌, length, Option, Some, None, append_assoc, refl, sym, ap, subst, ◌∙◌, bytes_eq}
use Rattle.std.specs.Prelude.{◌==◌, find, is_none, is_some, map, nat_le, option_and_then, option_map, if◌then◌else◌, IfSome}
use Rattle.std.specs.Cmp.Lexicographic.{slice_cmp, texts_ties}
use Rattle.std.specs.List.{AllByRecursion, flat_map, list_any}
use Rattle.std.specs.Ordering.{is_eq, nat_cmp}
use Rattle.std.proofs.lemmas.Bool.{leb-true}
use Rattle.common_lemmas.proofs.Booleans.{and_left, and_right, impossible}
use Rattle.common_lemmas.proofs.Found.{found_passes, of_found}
use Rattle.common_lemmas.proofs.Lists.{all_append, all_each, all_parted, all_weaker}
use Rattle.common_lemmas.proofs.Numbers.{same_bytes}
use Rattle.common_lemmas.proofs.Options.{is_some-map}
use Rattle.btree_inplace.specs.Order.{get_in, has_key}
use Rattle.database_state.specs.State.{is_undone}
use Rattle.database_state.specs.Table.{row_at}
use Rattle.laws_engine.specs.HeldRecords as held_records
use Rattle.laws_engine.specs.HeldRecords.{HeldRecord}
use Rattle.laws_engine.specs.Variants.{has_variant}
use Rattle.laws_versions.proofs.IndexLemmas.Members.{all_flat}
use Rattle.page_image.specs.Page.{Node}
use Rattle.stored_variants.specs.RecordRows.{TableValues, held_record_in, record_of, row_in_node, row_under, rows_of_nodes, with_record}
use Rattle.stored_variants.specs.VersionsKept.{IsRowUnder}
use Rattle.version_store.specs.HeldChanges.{HeldChange, is_rewrite, is_standing_rewrite}
use Rattle.image_findings.specs.EntryFindings.{row_before, variants_of}
use Rattle.image_findings.specs.RowFindings.{has_before, is_newest_row, is_sound_node, lacks_node, lacks_room}
use Rattle.image_findings.specs.SoundRows.{HasOwnRecords, HasRowsUnder, HasSoundRow, HasSoundRows}
use Rattle.image_findings.specs.TableContents.{TableContents, contents_with_id, long_values}
use Rattle.own_images.proofs.StoreLemmas.IndexNodes.{IsVariantRow}

-- ---- nodes by their keys

pub key_is : (key bookmark : List ℕ) → is_eq (slice_cmp nat_cmp key bookmark) ≡ true → key ≡ bookmark
key_is key bookmark e = same_bytes key bookmark (texts_ties key bookmark ∙ e)

pub found_key : (nodes : List Node) (bookmark : List ℕ) (n : Node) → find (has_key bookmark) nodes ≡ Some n → n.key ≡ bookmark
found_key nodes bookmark n e = key_is n.key bookmark (found_passes (has_key bookmark) nodes n e)

-- what each row of a node has, the row under each bookmark has
pub under_each : (P : List ℕ → List ℕ → Type 0) (nodes : List Node) → AllByRecursion (λ (n : Node). IfSome (row_in_node n.data) (P n.key)) nodes → (bookmark : List ℕ) → IfSome (row_under nodes bookmark) (P bookmark)
under_each P nodes all bookmark = by (find (has_key bookmark) nodes) refl
  where
    by : (o : Option Node) → find (has_key bookmark) nodes ≡ o → IfSome (option_and_then row_in_node (option_map (λ (n : Node). n.data) o)) (P bookmark)
    by None e = tt
    by (Some n) e = subst (λ (k : List ℕ). IfSome (row_in_node n.data) (P k)) (found_key nodes bookmark n e) (of_found (λ (m : Node). IfSome (row_in_node m.data) (P m.key)) (has_key bookmark) nodes n e all)

pub each_row_under : (t : TableContents) → HasRowsUnder t → (bookmark : List ℕ) → IfSome (row_under t.nodes bookmark) (IsRowUnder (long_values t) t.table bookmark)
each_row_under t under = under_each (IsRowUnder (long_values t) t.table) t.nodes under

-- ---- what a sound node has

pub record IsSoundNode (held : List HeldChange) (t : TableContents) (n : Node) : Type 0 where
  pub some : 0 < length n.key
  pub most : length n.key ≤ 255
  pub stands : (is_some (row_in_node n.data) || has_before t.table.id n.key held) ≡ true
  pub extent : n.extent ≤ 1700
  pub room : list_any (lacks_room n.extent t.table.id n.key) held ≡ false

not_true : (b : Bool) → not b ≡ true → b ≡ false
not_true true e = impossible e
not_true false e = refl

pub sound_node : (number : ℕ) (held : List HeldChange) (t : TableContents) (n : Node) → is_sound_node number held t n ≡ true → IsSoundNode held t n
sound_node number held t n h =
    let key = nat_le 1 (length n.key) && nat_le (length n.key) 255 in
    let stands = is_some (row_in_node n.data) || has_before t.table.id n.key held in
    let room = nat_le n.extent 1700 && not (list_any (lacks_room n.extent t.table.id n.key) held) in
    let newest = is_newest_row number (long_values t) t.table n.key (row_in_node n.data) in
    let rest = and_right key (stands && (room && newest)) h in
    let roomy = and_left room newest (and_right stands (room && newest) rest) in
    record {
      some = leb-true 1 (length n.key) (and_left (nat_le 1 (length n.key)) (nat_le (length n.key) 255) (and_left key (stands && (room && newest)) h));
      most = leb-true (length n.key) 255 (and_right (nat_le 1 (length n.key)) (nat_le (length n.key) 255) (and_left key (stands && (room && newest)) h));
      stands = and_left stands (room && newest) rest;
      extent = leb-true n.extent 1700 (and_left (nat_le n.extent 1700) (not (list_any (lacks_room n.extent t.table.id n.key) held)) roomy);
      room = not_true (list_any (lacks_room n.extent t.table.id n.key) held) (and_right (nat_le n.extent 1700) (not (list_any (lacks_room n.extent t.table.id n.key) held)) roomy);
    }

pub sound_nodes : (number : ℕ) (held : List HeldChange) (t : TableContents) → HasSoundRows number held t → AllByRecursion (IsSoundNode held t) t.nodes
sound_nodes number held t rows = all_weaker (λ n. is_sound_node number held t n ≡ true) (IsSoundNode held t) (λ n h. sound_node number held t n h) t.nodes rows.nodes

-- ---- variants of records

-- what is known of a held change beside a table
pub record IsKnownBeside (t : TableContents) (h : HeldChange) : Type 0 where
  pub row : (h.table == t.table.id) ≡ true → IfSome h.before (IsRowUnder (long_values t) t.table h.bookmark)
  pub node : (h.table == t.table.id) ≡ true → is_some (get_in t.nodes h.bookmark) ≡ true

newest_variants : (number : ℕ) (held : List HeldChange) (t : TableContents) (nodes : List Node) → AllByRecursion (IsSoundNode held t) nodes → AllByRecursion (λ (n : Node). IfSome (row_in_node n.data) (HasSoundRow number t n.key)) nodes
    → AllByRecursion (IsVariantRow t) (rows_of_nodes (long_values t) nodes)
newest_variants number held t [] sound rows = tt
newest_variants number held t (n ∷ nodes) sound rows = by (row_in_node n.data) rows.0 (newest_variants number held t nodes sound.1 rows.1)
  where
    by : (o : Option (List ℕ)) → IfSome o (HasSoundRow number t n.key) → AllByRecursion (IsVariantRow t) (rows_of_nodes (long_values t) nodes) → AllByRecursion (IsVariantRow t) (with_record (long_values t) n.key o (rows_of_nodes (long_values t) nodes))
    by None h rest = rest
    by (Some bytes) h rest = (record { fits = h.columns; some = sound.0.some; most = sound.0.most }, rest)

record IsBookmark (bookmark : List ℕ) : Type 0 where
  some : 0 < length bookmark
  most : length bookmark ≤ 255

bookmark_of : (held : List HeldChange) (t : TableContents) (bookmark : List ℕ) → AllByRecursion (IsSoundNode held t) t.nodes → is_some (get_in t.nodes bookmark) ≡ true → IsBookmark bookmark
bookmark_of held t bookmark sound there = by (find (has_key bookmark) t.nodes) refl there
  where
    by : (o : Option Node) → find (has_key bookmark) t.nodes ≡ o → is_some (option_map (λ (n : Node). n.data) o) ≡ true → IsBookmark bookmark
    by None e g = impossible g
    by (Some n) e g =
        let is = of_found (IsSoundNode held t) (has_key bookmark) t.nodes n e sound in
        subst IsBookmark (found_key t.nodes bookmark n e) (record { some = is.some; most = is.most })

rows_of_before : (held : List HeldChange) (t : TableContents) (h : HeldChange) → AllByRecursion (IsSoundNode held t) t.nodes → IsKnownBeside t h → AllByRecursion (IsVariantRow t) (row_before t h)
rows_of_before held t h sound known = by h.before known.row (λ own. bookmark_of held t h.bookmark sound (known.node own)) (h.table == t.table.id) refl
  where
    by : (o : Option (List ℕ)) → ((h.table == t.table.id) ≡ true → IfSome o (IsRowUnder (long_values t) t.table h.bookmark)) → ((h.table == t.table.id) ≡ true → IsBookmark h.bookmark) → (b : Bool) → (h.table == t.table.id) ≡ b
        → AllByRecursion (IsVariantRow t) (elim o [ Some bytes ↦ if b then (h.bookmark, record_of (long_values t) bytes) ∷ [] else [] | None ↦ [] ])
    by None row own b e = tt
    by (Some bytes) row own true e = (record { fits = (row e).fits.columns; some = (own e).some; most = (own e).most }, tt)
    by (Some bytes) row own false e = tt

befores : (all : List HeldChange) (t : TableContents) (held : List HeldChange) → AllByRecursion (IsSoundNode all t) t.nodes → AllByRecursion (IsKnownBeside t) held → AllByRecursion (IsVariantRow t) (flat_map (row_before t) held)
befores all t held sound known =
    all_flat (IsVariantRow t) (row_before t) held (all_weaker (IsKnownBeside t) (λ h. AllByRecursion (IsVariantRow t) (row_before t h)) (λ h k. rows_of_before all t h sound k) held known)

pub variant_rows : (number : ℕ) (held : List HeldChange) (t : TableContents) → HasSoundRows number held t → AllByRecursion (IsKnownBeside t) held → AllByRecursion (IsVariantRow t) (variants_of held t)
variant_rows number held t rows known =
    all_append (IsVariantRow t) (rows_of_nodes (long_values t) t.nodes) (flat_map (row_before t) held) (newest_variants number held t t.nodes (sound_nodes number held t rows) rows.rows) (befores held t held (sound_nodes number held t rows) known)

-- ---- nodes stand exactly where a variant is a record

same_before : {X Y : Type 0} (f : X → Y) (a r n : Bool) (o : Option X) → (((a && r) && n) && is_some (if r && n then option_map f o else None)) ≡ (((a && r) && n) && is_some o)
same_before f a true true o = ap (λ (b : Bool). ((a && true) && true) && b) (is_some-map f o)
same_before f true true false o = refl
same_before f false true false o = refl
same_before f true false n o = refl
same_before f false false n o = refl

same_befores : (longs : TableValues) (table : ℕ) (bookmark : List ℕ) (held : List HeldChange)
    → list_any (λ (change : HeldRecord). held_records.is_standing_rewrite table bookmark change && is_some change.before) (map (held_record_in longs) held) ≡ has_before table bookmark held
same_befores longs table bookmark [] = refl
same_befores longs table bookmark (h ∷ held) =
    ap (λ (b : Bool). b || list_any (λ (change : HeldRecord). held_records.is_standing_rewrite table bookmark change && is_some change.before) (map (held_record_in longs) held))
    (same_before (record_of (longs h.table)) ((h.table == table) && bytes_eq h.bookmark bookmark) (is_rewrite h.kind) (not (is_undone h.status)) h.before)
    ∙ ap (λ (b : Bool). (is_standing_rewrite table bookmark h && is_some h.before) || b) (same_befores longs table bookmark held)

no_before : (t : TableContents) (bookmark : List ℕ) → get_in t.nodes bookmark ≡ None → (held : List HeldChange) → AllByRecursion (λ h. lacks_node t h ≡ false) held → has_before t.table.id bookmark held ≡ false
no_before t bookmark none [] lacking = refl
no_before t bookmark none (h ∷ held) lacking =
    ap (λ (b : Bool). b || has_before t.table.id bookmark held) (by (h.table == t.table.id) (bytes_eq h.bookmark bookmark) refl refl) ∙ no_before t bookmark none held lacking.1
  where
    gone : bytes_eq h.bookmark bookmark ≡ true → is_none (get_in t.nodes h.bookmark) ≡ true
    gone e = ap (λ (k : List ℕ). is_none (get_in t.nodes k)) (same_bytes h.bookmark bookmark e) ∙ ap is_none none

    by : (a b : Bool) → (h.table == t.table.id) ≡ a → bytes_eq h.bookmark bookmark ≡ b → ((((a && b) && is_rewrite h.kind) && not (is_undone h.status)) && is_some h.before) ≡ false
    by true true p q = impossible (sym (sym (ap (λ (b : Bool). b && is_none (get_in t.nodes h.bookmark)) p ∙ gone q) ∙ lacking.0))
    by true false p q = refl
    by false b p q = refl

pub stands : (number : ℕ) (longs : TableValues) (held : List HeldChange) (t : TableContents) → HasOwnRecords t → HasSoundRows number held t → (bookmark : List ℕ)
    → is_some (get_in t.nodes bookmark) ≡ has_variant (row_at (rows_of_nodes (long_values t) t.nodes) bookmark) (map (held_record_in longs) held) t.table.id bookmark
stands number longs held t records rows bookmark =
    by (find (has_key bookmark) t.nodes) refl
    ∙ ap (λ (b : Bool). b || has_before t.table.id bookmark held) (sym (is_some-map (record_of (long_values t)) (row_under t.nodes bookmark)) ∙ ap is_some (sym (records bookmark)))
    ∙ ap (λ (b : Bool). is_some (row_at (rows_of_nodes (long_values t) t.nodes) bookmark) || b) (sym (same_befores longs t.table.id bookmark held))
  where
    by : (o : Option Node) → find (has_key bookmark) t.nodes ≡ o → is_some (option_map (λ (n : Node). n.data) o) ≡ (is_some (option_and_then row_in_node (option_map (λ (n : Node). n.data) o)) || has_before t.table.id bookmark held)
    by None e = sym (no_before t bookmark (ap (option_map (λ (n : Node). n.data)) e) held rows.changed)
    by (Some n) e =
        let is = of_found (IsSoundNode held t) (has_key bookmark) t.nodes n e (sound_nodes number held t rows) in
        sym (subst (λ (k : List ℕ). (is_some (row_in_node n.data) || has_before t.table.id k held) ≡ true) (found_key t.nodes bookmark n e) is.stands)

-- ---- room for the row before each open change

-- each element beside itself
diagonal : {X : Type 0} (P : X → X → Type 0) (front xs : List X) → AllByRecursion (λ x. AllByRecursion (P x) (front ++ xs)) xs → AllByRecursion (λ x. P x x) xs
diagonal P front [] h = tt
diagonal {X} P front (x ∷ xs) h = (
  (all_parted (P x) front (x ∷ xs) h.0).1.0,
  diagonal P (front ++ x ∷ []) xs (all_weaker (λ y. AllByRecursion (P y) (front ++ (x ∷ xs))) (λ y. AllByRecursion (P y) ((front ++ x ∷ []) ++ xs)) (λ y a. subst (AllByRecursion (P y)) (sym again) a) xs h.1),
)
  where
    again : (front ++ x ∷ []) ++ xs ≡ front ++ (x ∷ xs)
    again = append_assoc front (x ∷ []) xs

none_of : {X : Type 0} (p : X → Bool) (xs : List X) → list_any p xs ≡ false → AllByRecursion (λ x. p x ≡ false) xs
none_of p [] h = tt
none_of p (x ∷ xs) h = by (p x) refl h (λ g. none_of p xs g)
  where
    by : (b : Bool) → p x ≡ b → (b || list_any p xs) ≡ false → (list_any p xs ≡ false → AllByRecursion (λ y. p y ≡ false) xs) → (p x ≡ false) × AllByRecursion (λ y. p y ≡ false) xs
    by true e g rest = impossible (sym g)
    by false e g rest = (e, rest g)

-- the node of a change has no change that lacks room
abbrev pub LeavesRoom : List TableContents → HeldChange → HeldChange → Type 0
LeavesRoom tables h other = (t : TableContents) → contents_with_id tables h.table ≡ Some t → IfSome (find (has_key h.bookmark) t.nodes) (λ (n : Node). lacks_room n.extent t.table.id n.key other ≡ false)

all_of_node : (all : List HeldChange) (tables : List TableContents) (h : HeldChange) → AllByRecursion (λ (t : TableContents). AllByRecursion (IsSoundNode all t) t.nodes) tables → (held : List HeldChange)
    → ((t : TableContents) → contents_with_id tables h.table ≡ Some t → (n : Node) → find (has_key h.bookmark) t.nodes ≡ Some n → AllByRecursion (λ g. lacks_room n.extent t.table.id n.key g ≡ false) held) → AllByRecursion (LeavesRoom tables h) held
all_of_node all tables h sound [] f = tt
all_of_node all tables h sound (g ∷ held) f = (
  (λ t e. by t e (find (has_key h.bookmark) t.nodes) refl),
  all_of_node all tables h sound held (λ t e n found. (f t e n found).1),
)
  where
    by : (t : TableContents) → contents_with_id tables h.table ≡ Some t → (o : Option Node) → find (has_key h.bookmark) t.nodes ≡ o → IfSome o (λ (n : Node). lacks_room n.extent t.table.id n.key g ≡ false)
    by t e None found = tt
    by t e (Some n) found = (f t e n found).0

pub each_has_room : (tables : List TableContents) (held : List HeldChange) → AllByRecursion (λ (t : TableContents). AllByRecursion (IsSoundNode held t) t.nodes) tables → AllByRecursion (λ h. LeavesRoom tables h h) held
each_has_room tables held sound =
    diagonal (LeavesRoom tables) [] held
    (all_each (λ h. AllByRecursion (LeavesRoom tables h) held)
    (λ h. all_of_node held tables h sound held
    (λ t e n found.
    none_of (lacks_room n.extent t.table.id n.key) held
    (of_found (IsSoundNode held t) (has_key h.bookmark) t.nodes n found (of_found (λ (u : TableContents). AllByRecursion (IsSoundNode held u) u.nodes) (λ (u : TableContents). u.table.id == h.table) tables t e sound)).room)) held)
