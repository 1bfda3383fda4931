-- The held changes of a consistent image are those of a store.
use Rattle.std.proofs.Common.{◌≡◌, ◌≤◌, ℕ, Bool, true, false, not, ◌&&◌, List, [], length, Option, Some, None, refl, sym, ap, subst, ◌∙◌, arith, bytes_eq}
use Rattle.std.specs.Prelude.{◌==◌, find, is_some, nat_lt, option_map, unwrap_or, IfSome, IsSomeAnd}
use Rattle.std.specs.List.{AllByRecursion}
use Rattle.std.proofs.lemmas.Bool.Decides.{nat_tests}
use Rattle.btree_inplace.specs.Order.{extent_in, has_key}
use Rattle.common_lemmas.proofs.Booleans.{impossible}
use Rattle.common_lemmas.proofs.Found.{found_passes}
use Rattle.common_lemmas.proofs.Numbers.{equal_bytes, equal_turned}
use Rattle.common_lemmas.proofs.Options.{some_apart}
use Rattle.database_state.specs.State.{is_open, is_undone}
use Rattle.database_state.specs.Table.{Table, schema_of, table_with_id}
use Rattle.page_image.specs.Page.{Node}
use Rattle.stored_variants.specs.VersionsKept.{AddsToEscrow, IsKeptChange, IsRowUnder}
use Rattle.table_trees.specs.StoredTables.{table_long_values}
use Rattle.version_cleanup.specs.LiveSessions.{LiveState}
use Rattle.version_store.specs.HeldChanges.{HeldChange, is_rewrite}
use Rattle.version_store.specs.declared.calls.ChangeKind.{ChangeKind}
use Rattle.version_store.specs.declared.calls.ChangeKind.TheVariants as kind
use Rattle.image_findings.specs.LiveFindings.{adds_to_sum, is_drop}
use Rattle.image_findings.specs.RowFindings.{lacks_room}
use Rattle.image_findings.specs.SoundChanges.{IsSoundChange}
use Rattle.image_findings.specs.TableContents.{TableContents}
use Rattle.own_images.proofs.Differing.{all_both}
use Rattle.own_images.proofs.StoreLemmas.KeptRows.{LeavesRoom, found_key}
use Rattle.own_images.proofs.StoreLemmas.Lookups.{found_plain, longs_found, nodes_found, plain_tables, trees_of}

-- ---- room

at_most : (m n : ℕ) → nat_lt m n ≡ false → n ≤ m
at_most m n h = grind (arith, nat_tests, h)

roomy : (t : TableContents) (h : HeldChange) (n : Node) (row : List ℕ) → (h.table == t.table.id) ≡ true → n.key ≡ h.bookmark → is_rewrite h.kind ≡ true → is_undone h.status ≡ false → is_open h.status ≡ true → h.before ≡ Some row
    → lacks_room n.extent t.table.id n.key h ≡ false → length row ≤ n.extent
roomy t h n row table key rewrite stands-up is-open before lacks =
    at_most n.extent (length row)
    (sym
    (ap (λ (b : Bool). (((b && bytes_eq h.bookmark n.key) && is_rewrite h.kind) && not (is_undone h.status)) && (is_open h.status && nat_lt n.extent (length (unwrap_or h.before [])))) table
    ∙ ap (λ (b : Bool). ((b && is_rewrite h.kind) && not (is_undone h.status)) && (is_open h.status && nat_lt n.extent (length (unwrap_or h.before [])))) (equal_bytes h.bookmark n.key (sym key))
    ∙ ap (λ (b : Bool). (b && not (is_undone h.status)) && (is_open h.status && nat_lt n.extent (length (unwrap_or h.before [])))) rewrite
    ∙ ap (λ (b : Bool). not b && (is_open h.status && nat_lt n.extent (length (unwrap_or h.before [])))) stands-up
    ∙ ap (λ (b : Bool). b && nat_lt n.extent (length (unwrap_or h.before []))) is-open
    ∙ ap (λ (o : Option (List ℕ)). nat_lt n.extent (length (unwrap_or o []))) before)
    ∙ lacks)

-- ---- the change

adds : (table : Table) (k : ChangeKind) → adds_to_sum table k ≡ true → AddsToEscrow (schema_of table) k
adds table kind.Put e = tt
adds table kind.Drop e = tt
adds table kind.Hold e = tt
adds table (kind.Add column amount) e = e

rewrite_of : (h : HeldChange) (row : List ℕ) → (is_rewrite h.kind ≡ false → h.before ≡ None) → h.before ≡ Some row → is_rewrite h.kind ≡ true
rewrite_of h row holds e = by (is_rewrite h.kind) refl
  where
    by : (b : Bool) → is_rewrite h.kind ≡ b → b ≡ true
    by true p = refl
    by false p = absurd (some_apart row (sym e ∙ holds p))

pub kept_change : (number : ℕ) (tables : List TableContents) (sessions : List LiveState) (h : HeldChange) → IsSoundChange number tables sessions h → LeavesRoom tables h h
    → IsKeptChange (table_long_values (trees_of tables)) (plain_tables tables) (trees_of tables) h
kept_change number tables sessions h k leaves = record {
  named = ap is_some table_is;
  before = λ s. subst (λ (o : Option Table). IfSome o (λ table. IfSome h.before (IsRowUnder (table_long_values (trees_of tables) h.table) table h.bookmark))) (sym table_is)
      (subst (λ v. IfSome h.before (IsRowUnder v k.t.table h.bookmark)) (sym (longs_found tables h.table k.t k.found)) k.before);
  drop = λ s e. k.drop (ap is_drop e);
  room = λ e.
      subst (λ (l : List Node). IfSome h.before (λ row. IsSomeAnd (extent_in l h.bookmark) (λ extent. length row ≤ extent))) (sym (nodes_found tables h.table k.t k.found)) (room_of h.before refl e);
  other = k.other;
  sum = subst (λ (o : Option Table). IfSome o (λ table. AddsToEscrow (schema_of table) h.kind)) (sym table_is) (adds k.t.table h.kind k.adds);
}
  where
    table_is : table_with_id (plain_tables tables) h.table ≡ Some k.t.table
    table_is = found_plain tables h.table ∙ ap (option_map (λ (t : TableContents). t.table)) k.found

    own : (h.table == k.t.table.id) ≡ true
    own = equal_turned h.table k.t.table.id ∙ found_passes (λ (u : TableContents). u.table.id == h.table) tables k.t k.found

    room_at : (row : List ℕ) → h.before ≡ Some row → is_open h.status ≡ true → (o : Option Node) → find (has_key h.bookmark) k.t.nodes ≡ o → is_some (option_map (λ (n : Node). n.data) o) ≡ true
        → IfSome o (λ (n : Node). lacks_room n.extent k.t.table.id n.key h ≡ false) → IsSomeAnd (option_map (λ (n : Node). n.extent) o) (λ extent. length row ≤ extent)
    room_at row b e None f there lacks = impossible there
    room_at row b e (Some n) f there lacks = roomy k.t h n row own (found_key k.t.nodes h.bookmark n f) (rewrite_of h row k.other b) k.stands e b lacks

    room_of : (o : Option (List ℕ)) → h.before ≡ o → is_open h.status ≡ true → IfSome o (λ row. IsSomeAnd (extent_in k.t.nodes h.bookmark) (λ extent. length row ≤ extent))
    room_of None b e = tt
    room_of (Some row) b e = room_at row b e (find (has_key h.bookmark) k.t.nodes) refl k.node (leaves k.t k.found)

-- ---- all changes

pub kept_changes : (number : ℕ) (tables : List TableContents) (sessions : List LiveState) (held : List HeldChange) → AllByRecursion (IsSoundChange number tables sessions) held → AllByRecursion (λ h. LeavesRoom tables h h) held
    → AllByRecursion (IsKeptChange (table_long_values (trees_of tables)) (plain_tables tables) (trees_of tables)) held
kept_changes number tables sessions held known leaves =
    all_both (IsSoundChange number tables sessions) (λ h. LeavesRoom tables h h) (IsKeptChange (table_long_values (trees_of tables)) (plain_tables tables) (trees_of tables)) (kept_change number tables sessions) held known leaves
