-- The keys of all variants after a change, an undo, a clean, and where only states change; and what holds of each variant.
use Rattle.std.proofs.Common.{◌≡◌, ℕ, Bool, true, false, ◌&&◌, ◌||◌, cond, List, [], ◌∷◌, ◌++◌, Option, Some, refl, sym, ap, ◌∙◌}
use Rattle.std.specs.Prelude.{filter, fold, IfSome}
use Rattle.std.specs.List.{list_any}
use Rattle.std.proofs.lemmas.List.Folds.{list_any-append}
use Rattle.common_lemmas.proofs.Booleans.{impossible}
use Rattle.column_set.specs.declared.changes.Change.{Change}
use Rattle.column_set.specs.declared.changes.Change.TheVariants.{Put, Drop, Hold, Add}
use Rattle.column_set.specs.RecordValues.{RecordFields}
use Rattle.index_derive.specs.declared.rules.IndexRule.{IndexRule}
use Rattle.index_derive.specs.declared.rules.Schema.{Schema}
use Rattle.database_state.specs.Changes.{is_sum}
use Rattle.database_state.specs.State.{PastChange, undone}
use Rattle.database_state.specs.Conflicts.{yields_key}
use Rattle.laws_versions.specs.Records.{Records, after_item, is_change_of, record_after, records_after_items}
use Rattle.laws_versions.specs.Readers.{is_rewrite, is_standing}
use Rattle.laws_versions.specs.Variants.{EachLeaves, is_standing_rewrite, is_variant_key}

-- ---- a change more: the keys of the record that it leaves are added

-- what a change that is no sum leaves
abbrev LeavesKey : IndexRule → Schema → List ℕ → Change → Option RecordFields → Bool → Type 0
LeavesKey rule schema key change before others =
    (yields_key rule schema key (record_after change before) || (others || (is_rewrite change && yields_key rule schema key before))) ≡ ((yields_key rule schema key before || others) || yields_key rule schema key (record_after change before))

shuffled : (a b c : Bool) → (a || (b || c)) ≡ ((c || b) || a)
shuffled true true true = refl
shuffled true true false = refl
shuffled true false true = refl
shuffled true false false = refl
shuffled false true true = refl
shuffled false true false = refl
shuffled false false true = refl
shuffled false false false = refl

leaves : (rule : IndexRule) (schema : Schema) (key : List ℕ) (change : Change) → is_sum change ≡ false → (before : Option RecordFields) (others : Bool) → LeavesKey rule schema key change before others
leaves rule schema key (Put t b copied values) e before others = shuffled (yields_key rule schema key (Some values)) others (yields_key rule schema key before)
leaves rule schema key (Drop t b) e before others = shuffled false others (yields_key rule schema key before)
leaves rule schema key (Hold t b) e before others = held (yields_key rule schema key before) others
  where
    held : (a b : Bool) → (a || (b || false)) ≡ ((a || b) || a)
    held true true = refl
    held true false = refl
    held false true = refl
    held false false = refl
leaves rule schema key (Add t b c a) e before others = impossible (sym e)

pub keys_after_change : (newest : Records) (kept : List PastChange) (new : PastChange) (rule : IndexRule) (schema : Schema) (table : ℕ) (key bookmark : List ℕ) → is_sum new.change ≡ false → is_standing new ≡ true
    → (is_change_of table bookmark new.change ≡ true → new.before ≡ newest table bookmark)
    → is_variant_key (after_item newest new) (kept ++ new ∷ []) rule schema table key bookmark
    ≡ (is_variant_key newest kept rule schema table key bookmark || (is_change_of table bookmark new.change && yields_key rule schema key (after_item newest new table bookmark)))
keys_after_change newest kept new rule schema table key bookmark sum live before =
    ap (λ b. yields_key rule schema key (after_item newest new table bookmark) || b) (list_any-append test kept (new ∷ []))
    ∙ elim (is_change_of table bookmark new.change) as (λ c. is_change_of table bookmark new.change ≡ c
    → (yields_key rule schema key (cond c (record_after new.change (newest table bookmark)) (newest table bookmark)) || (list_any test kept || ((((c && is_rewrite new.change) && is_standing new) && yields_key rule schema key new.before) || false)))
    ≡ ((yields_key rule schema key (newest table bookmark) || list_any test kept) || (c && yields_key rule schema key (cond c (record_after new.change (newest table bookmark)) (newest table bookmark))))) [
      | true ↦ λ e.
          ap (λ b. yields_key rule schema key (record_after new.change (newest table bookmark)) || (list_any test kept || (((is_rewrite new.change && b) && yields_key rule schema key new.before) || false))) live
          ∙ ap (λ r. yields_key rule schema key (record_after new.change (newest table bookmark)) || (list_any test kept || (((is_rewrite new.change && true) && yields_key rule schema key r) || false))) (before e)
          ∙ ap (λ b. yields_key rule schema key (record_after new.change (newest table bookmark)) || (list_any test kept || b)) (plain (is_rewrite new.change) (yields_key rule schema key (newest table bookmark)))
          ∙ leaves rule schema key new.change sum (newest table bookmark) (list_any test kept)
      | false ↦ λ e. bare (yields_key rule schema key (newest table bookmark)) (list_any test kept)
    ] refl
  where
    test : PastChange → Bool
    test item = is_standing_rewrite table bookmark item && yields_key rule schema key item.before

    plain : (a b : Bool) → (((a && true) && b) || false) ≡ (a && b)
    plain true true = refl
    plain true false = refl
    plain false b = refl

    bare : (a b : Bool) → (a || (b || false)) ≡ ((a || b) || false)
    bare true b = refl
    bare false true = refl
    bare false false = refl

-- ---- the oldest forgotten: the keys of the record before it go, where no variant has them

pub keys_after_clean : (newest : Records) (item : PastChange) (kept : List PastChange) (rule : IndexRule) (schema : Schema) (table : ℕ) (key bookmark : List ℕ)
    → is_variant_key newest (item ∷ kept) rule schema table key bookmark
    ≡ (is_variant_key newest kept rule schema table key bookmark || (is_standing_rewrite table bookmark item && yields_key rule schema key item.before))
keys_after_clean newest item kept rule schema table key bookmark =
    turned (yields_key rule schema key (newest table bookmark)) (is_standing_rewrite table bookmark item && yields_key rule schema key item.before)
    (list_any (λ i. is_standing_rewrite table bookmark i && yields_key rule schema key i.before) kept)
  where
    turned : (a b c : Bool) → (a || (b || c)) ≡ ((a || c) || b)
    turned true b c = refl
    turned false true true = refl
    turned false true false = refl
    turned false false true = refl
    turned false false false = refl

-- ---- one change undone: the keys of the record that it left go, where no variant has them

pub keys_after_undo : (newest before : Records) (front : List PastChange) (item : PastChange) (rest : List PastChange) (rule : IndexRule) (schema : Schema) (table : ℕ) (key bookmark : List ℕ) → is_standing_rewrite table bookmark item ≡ true
    → before table bookmark ≡ item.before
    → is_variant_key newest (front ++ item ∷ rest) rule schema table key bookmark
    ≡ (is_variant_key before (front ++ record item { status = undone } ∷ rest) rule schema table key bookmark || yields_key rule schema key (newest table bookmark))
keys_after_undo newest before front item rest rule schema table key bookmark standing e =
    ap (λ b. yields_key rule schema key (newest table bookmark) || b) (list_any-append test front (item ∷ rest) ∙ ap (λ b. list_any test front || ((b && yields_key rule schema key item.before) || list_any test rest)) standing)
    ∙ moved (yields_key rule schema key (newest table bookmark)) (list_any test front) (yields_key rule schema key item.before) (list_any test rest)
    ∙ ap (λ b. b || yields_key rule schema key (newest table bookmark))
    (sym (ap (λ r. yields_key rule schema key r || list_any test (front ++ record item { status = undone } ∷ rest)) e
    ∙ ap (λ b. yields_key rule schema key item.before || b) (list_any-append test front (record item { status = undone } ∷ rest) ∙ ap (λ b. list_any test front || ((b && yields_key rule schema key item.before) || list_any test rest)) (gone (is_change_of table bookmark item.change && is_rewrite item.change)))))
  where
    test : PastChange → Bool
    test i = is_standing_rewrite table bookmark i && yields_key rule schema key i.before

    gone : (b : Bool) → (b && false) ≡ false
    gone true = refl
    gone false = refl

    moved : (a b c d : Bool) → (a || (b || (c || d))) ≡ ((c || (b || d)) || a)
    moved true true true d = refl
    moved true true false d = refl
    moved true false true d = refl
    moved true false false true = refl
    moved true false false false = refl
    moved false true true d = refl
    moved false true false d = refl
    moved false false true d = refl
    moved false false false true = refl
    moved false false false false = refl

-- ---- what holds of each variant

-- what every put record has, and each record at first
pub each_variant : (P : RecordFields → Type 0) (test : PastChange → Bool) (table : ℕ) (bookmark : List ℕ) (items : List PastChange)
    → EachLeaves P table bookmark items → (base : Records) → IfSome (base table bookmark) P
    → IfSome (records_after_items test base items table bookmark) P
each_variant P test table bookmark [] h base p = p
each_variant P test table bookmark (item ∷ items) h base p =
    elim (test item) as (λ b. IfSome (fold after_item base (cond b (item ∷ filter test items) (filter test items)) table bookmark) P) [
      | true ↦ each_variant P test table bookmark items h.1 (after_item base item)
          (elim (is_change_of table bookmark item.change) as (λ c. is_change_of table bookmark item.change ≡ c → IfSome (cond c (record_after item.change (base table bookmark)) (base table bookmark)) P) [
            | true ↦ λ e. h.0 e (base table bookmark) p
            | false ↦ λ e. p
          ] refl)
      | false ↦ each_variant P test table bookmark items h.1 base p
    ]
