-- What the fields keep, after each step.
use Rattle.std.proofs.Common.{◌≡◌, ℕ, ◌+◌, ◌<◌, List, [], ◌∷◌, ◌++◌, Option, Some, map, length, get_or, set, drop, refl, sym, ap, subst, ◌∙◌}
use Rattle.std.proofs.lemmas.List.{length-map, length-set, length_push, map-append}
use Rattle.std.proofs.Math.Seq.{map-set_same}
use Rattle.column_set.specs.declared.changes.Change.{Change}
use Rattle.column_set.specs.ChangedRecords.{changed_table, changed_bookmark}
use Rattle.database_state.specs.State.{Status}
use Rattle.version_store.specs.declared.calls.By.{By}
use Rattle.version_store.specs.declared.item.Item.{Item}
use Rattle.version_store.specs.declared.item.Status.TheVariants as status
use Rattle.version_store.specs.HeldChanges.{HeldChange, cost_of, kind_of, new_change, undone_at, with_status}
use Rattle.version_store.specs.Items.{held_change, held_changes, item_hash, row_of, state_of}
use Rattle.version_store.specs.Kept.{AreSpent, Keeps, hashes_of, spents_of}
use Rattle.version_store.proofs.HeldLemmas.{held-drop, held-map, held-push, held-undone, length-drop_one, hashes-drop, hashes-items}
use Rattle.version_store.proofs.SpanLemmas.{spent-drop, spent-map, spent-push, spent-undone}

pub record Pushed (items new : List Item) (rows more : List (List ℕ)) (hashes longer : List ℕ) (item : Item) (row : List ℕ) (total sum : ℕ) : Type 0 where
  pub keeps : Keeps new more longer sum
  pub value : held_changes new more ≡ held_changes items rows ++ held_change item row ∷ []

pub keeps-push : (items new : List Item) (rows more : List (List ℕ)) (hashes longer : List ℕ) (item : Item) (row : List ℕ) (total sum : ℕ)
    → Keeps items rows hashes total → new ≡ items ++ item ∷ [] → more ≡ rows ++ row ∷ [] → longer ≡ hashes ++ item_hash item ∷ [] → item.spent ≡ total → sum ≡ total + cost_of (held_change item row)
    → Pushed items new rows more hashes longer item row total sum
keeps-push items new rows more hashes longer item row total sum kept is_new is_more is_longer spent is_sum =
    let value : held_changes new more ≡ held_changes items rows ++ held_change item row ∷ [] =
    ap (λ (l : List Item). held_changes l more) is_new ∙ ap (held_changes (items ++ item ∷ [])) is_more ∙ held-push items rows item row kept.are_rows in
    let spents : spents_of new ≡ spents_of items ++ total ∷ [] =
    ap spents_of is_new ∙ map-append (λ (x : Item). x.spent) items (item ∷ []) ∙ ap (λ (n : ℕ). spents_of items ++ n ∷ []) spent in
    record {
      keeps = record {
        are_rows = ap length is_more ∙ length_push rows row ∙ ap (λ (n : ℕ). n + 1) kept.are_rows ∙ sym (ap length is_new ∙ length_push items item);
        are_hashes = is_longer ∙ ap (λ (l : List ℕ). l ++ item_hash item ∷ []) kept.are_hashes ∙ sym (ap hashes_of is_new ∙ hashes-items items item);
        are_spent = subst (λ (n : ℕ). AreSpent n (spents_of new) (held_changes new more)) (sym is_sum)
            (subst (λ (l : List ℕ). AreSpent (total + cost_of (held_change item row)) l (held_changes new more)) (sym spents)
            (subst (AreSpent (total + cost_of (held_change item row)) (spents_of items ++ total ∷ [])) (sym value)
            (spent-push total (spents_of items) (held_changes items rows) (held_change item row) kept.are_spent)));
      };
      value = value;
    }

spents-drop : (items : List Item) → spents_of (drop 1 items) ≡ drop 1 (spents_of items)
spents-drop [] = refl
spents-drop (item ∷ items) = refl

pub keeps-pop : (items new : List Item) (rows less : List (List ℕ)) (hashes fewer : List ℕ) (total : ℕ) → Keeps items rows hashes total → new ≡ drop 1 items → less ≡ drop 1 rows → fewer ≡ drop 1 hashes → Keeps new less fewer total
keeps-pop items new rows less hashes fewer total kept is_new is_less is_fewer =
    let value : held_changes new less ≡ drop 1 (held_changes items rows) = ap (λ (l : List Item). held_changes l less) is_new ∙ ap (held_changes (drop 1 items)) is_less ∙ held-drop items rows kept.are_rows in
    record {
      are_rows = ap length is_less ∙ length-drop_one rows items kept.are_rows ∙ sym (ap length is_new);
      are_hashes = is_fewer ∙ ap (drop 1) kept.are_hashes ∙ sym (ap hashes_of is_new ∙ hashes-drop items);
      are_spent = subst (λ (l : List ℕ). AreSpent total l (held_changes new less)) (sym (ap spents_of is_new ∙ spents-drop items))
          (subst (AreSpent total (drop 1 (spents_of items))) (sym value) (spent-drop total (spents_of items) (held_changes items rows) kept.are_spent));
    }

map-map_same : {Y : Type 0} (f : Item → Y) (g : Item → Item) (items : List Item) → ((item : Item) → f (g item) ≡ f item) → map f (map g items) ≡ map f items
map-map_same f g [] same = refl
map-map_same f g (x ∷ items) same = λ i. same x i ∷ map-map_same f g items same i

pub record Mapped (new : List Item) (rows : List (List ℕ)) (hashes : List ℕ) (total : ℕ) (value : List HeldChange) : Type 0 where
  pub keeps : Keeps new rows hashes total
  pub value_is : held_changes new rows ≡ value

-- each item changes in its state or its level alone
pub keeps-map : (g : Item → Item) (f : HeldChange → HeldChange) (items new : List Item) (rows : List (List ℕ)) (hashes : List ℕ) (total : ℕ) → Keeps items rows hashes total → new ≡ map g items
    → ((item : Item) (row : List ℕ) → held_change (g item) row ≡ f (held_change item row)) → ((item : Item) → item_hash (g item) ≡ item_hash item) → ((item : Item) → (g item).spent ≡ item.spent) → ((held : HeldChange) → cost_of (f held) ≡ cost_of held)
    → Mapped new rows hashes total (map f (held_changes items rows))
keeps-map g f items new rows hashes total kept is each hash spent same =
    let value : held_changes new rows ≡ map f (held_changes items rows) = ap (λ (l : List Item). held_changes l rows) is ∙ held-map g f items rows each in
    record {
      keeps = record {
        are_rows = kept.are_rows ∙ sym (ap length is ∙ length-map items g);
        are_hashes = kept.are_hashes ∙ sym (ap hashes_of is ∙ map-map_same item_hash g items hash);
        are_spent = subst (λ (l : List ℕ). AreSpent total l (held_changes new rows)) (sym (ap spents_of is ∙ map-map_same (λ (x : Item). x.spent) g items spent))
            (subst (AreSpent total (spents_of items)) (sym value) (spent-map total (spents_of items) f (held_changes items rows) same kept.are_spent));
      };
      value_is = value;
    }

pub keeps-undone : (items : List Item) (rows : List (List ℕ)) (hashes : List ℕ) (total at : ℕ) (old : Item) → Keeps items rows hashes total → at < length items → old ≡ get_or items at old
    → Mapped (set items at (record old { status = status.Undone })) rows hashes total (undone_at (Some at) (held_changes items rows))
keeps-undone items rows hashes total at old kept within is =
    let new : List Item = set items at (record old { status = status.Undone }) in
    let value : held_changes new rows ≡ undone_at (Some at) (held_changes items rows) = held-undone items rows at old is within in
    record {
      keeps = record {
        are_rows = kept.are_rows ∙ sym (length-set items at (record old { status = status.Undone }));
        are_hashes = kept.are_hashes ∙ sym (map-set_same item_hash items at (record old { status = status.Undone }) old (ap item_hash is));
        are_spent = subst (λ (l : List ℕ). AreSpent total l (held_changes new rows)) (sym (map-set_same (λ (x : Item). x.spent) items at (record old { status = status.Undone }) old (ap (λ (x : Item). x.spent) is)))
            (subst (AreSpent total (spents_of items)) (sym value) (spent-undone total (spents_of items) at (held_changes items rows) kept.are_spent));
      };
      value_is = value;
    }

-- an item with its row is the change as it is made, with the item's state
pub new-held : (by : By) (made : Change) (before : Option (List ℕ)) (state : Status) (item : Item) (row : List ℕ) → item.number ≡ by.number → item.session.0 ≡ by.session.0 → item.level ≡ by.level → item.kind ≡ kind_of made
    → item.table.0 ≡ changed_table made → item.bookmark ≡ changed_bookmark made → row_of item.had_row row ≡ before → state_of item.status ≡ state → held_change item row ≡ with_status state (new_change by made before)
new-held by made before state item row n s l k t m r st = λ i. record { number = n i; session = s i; level = l i; kind = k i; table = t i; bookmark = m i; before = r i; status = st i }
