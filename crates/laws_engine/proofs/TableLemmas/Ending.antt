-- Ends of levels and transactions leave what is newest.
use Rattle.std.proofs.Common.{◌≡◌, ℕ, ◌-◌, Bool, true, false, ◌&&◌, cond, List, [], ◌∷◌, ◌++◌, map, filter, refl, sym, ap, subst, ◌∙◌}
use Rattle.std.specs.Prelude.{◌==◌, fold}
use Rattle.common_lemmas.proofs.Booleans.{and_left}
use Rattle.database_state.specs.State.{PastChange, committed, is_open, is_open_change_of}
use Rattle.laws_versions.specs.Records.{Records, after_item, records_after, records_after_items}
use Rattle.laws_versions.specs.KeptSteps.{committed_own, lowered_own}
use Rattle.laws_versions.specs.Readers.{is_standing}
use Rattle.laws_versions.proofs.HistoryLemmas.Keeping.{open_live}
use Rattle.laws_engine.specs.HeldRecords.{HeldRecord, is_open_of, released_change, committed_change}
use Rattle.laws_engine.specs.Holding.{Matches, AllMatch}

-- ---- the match

pub same_open : (item : PastChange) (h : HeldRecord) → Matches item h → (session : ℕ) → is_open_of session h ≡ is_open_change_of session item
same_open item h m session = λ i. is_open (m.status i) && (m.session i == session)

one_committed : (session number : ℕ) (item : PastChange) (h : HeldRecord) → Matches item h → Matches (committed_own session number item) (committed_change session number h)
one_committed session number item h m =
    subst (λ b. Matches (committed_own session number item) (cond b (record h { status = committed number }) h)) (sym (same_open item h m session)) (by (is_open_change_of session item) refl)
  where
    by : (b : Bool) → is_open_change_of session item ≡ b → Matches (cond b (record item { status = committed number }) item) (cond b (record h { status = committed number }) h)
    by true e = record { number = m.number; session = m.session; level = m.level; kind = m.kind; table = m.table; bookmark = m.bookmark; status = refl; before = λ live rewrite. m.before (open_live item.status (and_left _ _ e)) rewrite; cost = m.cost }
    by false e = m

pub all_committed_match : (session number : ℕ) (items : List PastChange) (held : List HeldRecord) → AllMatch items held → AllMatch (map (committed_own session number) items) (map (committed_change session number) held)
all_committed_match session number [] [] m = tt
all_committed_match session number [] (h ∷ held) m = absurd m
all_committed_match session number (item ∷ items) [] m = absurd m
all_committed_match session number (item ∷ items) (h ∷ held) m = (one_committed session number item h m.0, all_committed_match session number items held m.1)

one_released : (session level : ℕ) (item : PastChange) (h : HeldRecord) → Matches item h → Matches (lowered_own session level item) (released_change session level h)
one_released session level item h m =
    subst (λ b. Matches (lowered_own session level item) (cond b (record h { level = h.level - 1 }) h)) (sym (λ i. same_open item h m session i && (m.level i == level))) (by (is_open_change_of session item && (item.level == level)))
  where
    by : (b : Bool) → Matches (cond b (record item { level = item.level - 1 }) item) (cond b (record h { level = h.level - 1 }) h)
    by true = record { number = m.number; session = m.session; level = ap (λ k. k - 1) m.level; kind = m.kind; table = m.table; bookmark = m.bookmark; status = m.status; before = m.before; cost = m.cost }
    by false = m

pub all_released_match : (session level : ℕ) (items : List PastChange) (held : List HeldRecord) → AllMatch items held → AllMatch (map (lowered_own session level) items) (map (released_change session level) held)
all_released_match session level [] [] m = tt
all_released_match session level [] (h ∷ held) m = absurd m
all_released_match session level (item ∷ items) [] m = absurd m
all_released_match session level (item ∷ items) (h ∷ held) m = (one_released session level item h m.0, all_released_match session level items held m.1)

pub all_appended_match : (items : List PastChange) (held : List HeldRecord) (item : PastChange) (h : HeldRecord) → AllMatch items held → Matches item h → AllMatch (items ++ item ∷ []) (held ++ h ∷ [])
all_appended_match [] [] item h m one = (one, tt)
all_appended_match [] (k ∷ held) item h m one = absurd m
all_appended_match (i ∷ items) [] item h m one = absurd m
all_appended_match (i ∷ items) (k ∷ held) item h m one = (m.0, all_appended_match items held item h m.1 one)

-- ---- what stands

pub standing_same : (change : PastChange → PastChange) → ((item : PastChange) → (change item).change ≡ item.change) → ((item : PastChange) → is_standing (change item) ≡ is_standing item) → (items : List PastChange) (base : Records)
    → records_after_items is_standing base (map change items) ≡ records_after_items is_standing base items
standing_same change same stands [] base = refl
standing_same change same stands (item ∷ items) base =
    ap (λ b. fold after_item base (cond b (change item ∷ filter is_standing (map change items)) (filter is_standing (map change items)))) (stands item)
    ∙ by (is_standing item) (standing_same change same stands items (after_item base item)) (standing_same change same stands items base)
  where
    by : (b : Bool) → records_after_items is_standing (after_item base item) (map change items) ≡ records_after_items is_standing (after_item base item) items → records_after_items is_standing base (map change items) ≡ records_after_items is_standing base items
        → fold after_item base (cond b (change item ∷ filter is_standing (map change items)) (filter is_standing (map change items))) ≡ fold after_item base (cond b (item ∷ filter is_standing items) (filter is_standing items))
    by true with_it without = ap (λ c. fold after_item (records_after base c) (filter is_standing (map change items))) (same item) ∙ with_it
    by false with_it without = without

pub committed_stands : (session number : ℕ) (item : PastChange) → is_standing (committed_own session number item) ≡ is_standing item
committed_stands session number item = by (is_open_change_of session item) refl
  where
    by : (b : Bool) → is_open_change_of session item ≡ b → is_standing (cond b (record item { status = committed number }) item) ≡ is_standing item
    by true e = sym (open_live item.status (and_left _ _ e))
    by false e = refl

pub committed_change_is : (session number : ℕ) (item : PastChange) → (committed_own session number item).change ≡ item.change
committed_change_is session number item = by (is_open_change_of session item)
  where
    by : (b : Bool) → (cond b (record item { status = committed number }) item).change ≡ item.change
    by true = refl
    by false = refl

pub lowered_stands : (session level : ℕ) (item : PastChange) → is_standing (lowered_own session level item) ≡ is_standing item
lowered_stands session level item = by (is_open_change_of session item && (item.level == level))
  where
    by : (b : Bool) → is_standing (cond b (record item { level = item.level - 1 }) item) ≡ is_standing item
    by true = refl
    by false = refl

pub lowered_change_is : (session level : ℕ) (item : PastChange) → (lowered_own session level item).change ≡ item.change
lowered_change_is session level item = by (is_open_change_of session item && (item.level == level))
  where
    by : (b : Bool) → (cond b (record item { level = item.level - 1 }) item).change ≡ item.change
    by true = refl
    by false = refl
