-- Tables whose ids rise: they stay so under every step, and the place of an id is the only one with it.
use Rattle.std.proofs.Common.{◌≡◌, ℕ, zero, suc, ◌<◌, ◌≤◌, Bool, true, false, cond, List, [], ◌∷◌, ◌++◌, length, get_or, Some, None, refl, sym, ap, ◌∙◌, arith}
use Rattle.std.proofs.Math.ListN.{set}
use Rattle.std.specs.Prelude.{◌==◌, ◌+◌, not, nat_lt, filter}
use Rattle.std.specs.List.{position, position_or_len}
use Rattle.std.proofs.lemmas.Bool.Decides.{nat_tests}
use Rattle.std.proofs.lemmas.Bool.{and_from, le-leb, leb-true, ltb-true}
use Rattle.common_lemmas.proofs.Booleans.{and_left, and_right}
use Rattle.database_state.specs.Table.{Table, with_table}
use Rattle.jet_catalog.specs.Catalog.{ids_rise}

lt_true : (a b : ℕ) → a < b → nat_lt a b ≡ true
lt_true a b h = grind (arith, nat_tests)

pub above : (a b : ℕ) → a < b → (b == a) ≡ false
above a b h = grind (arith, nat_tests)

pub ids_rise-append : (low high id : ℕ) (tables : List Table) (table : Table) → high < id → table.id ≡ id → ids_rise low high tables ≡ true → ids_rise low id (tables ++ table ∷ []) ≡ true
ids_rise-append low high id [] table lt e rise =
    let le : low ≤ high = leb-true low high rise in
    and_from _ _ (lt_true low table.id (omega arith)) (le-leb table.id id (omega arith))
ids_rise-append low high id (t ∷ tables) table lt e rise =
    and_from _ _ (and_left _ _ rise) (ids_rise-append t.id high id tables table lt e (and_right _ _ rise))

ids_rise-lower : (low from high : ℕ) (tables : List Table) → low ≤ from → ids_rise from high tables ≡ true → ids_rise low high tables ≡ true
ids_rise-lower low from high [] le rise =
    let below : from ≤ high = leb-true from high rise in
    le-leb low high (omega arith)
ids_rise-lower low from high (t ∷ tables) le rise =
    let below : from < t.id = ltb-true from t.id (and_left _ _ rise) in
    and_from _ _ (lt_true low t.id (omega arith)) (and_right _ _ rise)

pub ids_rise-filter : (keep : Table → Bool) (low high : ℕ) (tables : List Table) → ids_rise low high tables ≡ true → ids_rise low high (filter keep tables) ≡ true
ids_rise-filter keep low high [] rise = rise
ids_rise-filter keep low high (t ∷ tables) rise =
    let below : low < t.id = ltb-true low t.id (and_left _ _ rise) in
    let rest = ids_rise-filter keep t.id high tables (and_right _ _ rise) in
    elim (keep t) as (λ b. ids_rise low high (cond b (t ∷ filter keep tables) (filter keep tables)) ≡ true) [
      | true ↦ and_from _ _ (and_left _ _ rise) rest
      | false ↦ ids_rise-lower low t.id high (filter keep tables) (omega arith) rest
    ]

pub ids_rise-set : (low high : ℕ) (tables : List Table) (index : ℕ) (table d : Table) → table.id ≡ (get_or tables index d).id → ids_rise low high tables ≡ true → ids_rise low high (set tables index table) ≡ true
ids_rise-set low high [] index table d e rise = rise
ids_rise-set low high (t ∷ tables) zero table d e rise = rw e rise
ids_rise-set low high (t ∷ tables) (suc index) table d e rise =
    and_from _ _ (and_left _ _ rise) (ids_rise-set t.id high tables index table d e (and_right _ _ rise))

-- ---- the table of an id changed

with_table-above : (id low high : ℕ) (change : Table → Table) (tables : List Table) → id ≤ low → ids_rise low high tables ≡ true → with_table id change tables ≡ tables
with_table-above id low high change [] le rise = refl
with_table-above id low high change (t ∷ tables) le rise =
    let below : low < t.id = ltb-true low t.id (and_left _ _ rise) in
    rw (above id t.id (omega arith)) (ap (λ rest. t ∷ rest) (with_table-above id t.id high change tables (omega arith) (and_right _ _ rise)))

one_more : (n : ℕ) → 1 + n ≡ suc n
one_more n = omega arith

absent_at : (id : ℕ) (change : Table → Table) (t : Table) (tables : List Table) (b : Bool) → length (t ∷ tables) ≤ cond (not b) (1 + position_or_len (λ t. t.id == id) tables) 0
    → (length tables ≤ position_or_len (λ t. t.id == id) tables → with_table id change tables ≡ tables)
    → cond b (change t) t ∷ with_table id change tables ≡ t ∷ tables
absent_at id change t tables true le rest = absurd (omega arith)
absent_at id change t tables false le rest = ap (λ others. t ∷ others) (rest (omega arith))

with_table-absent : (id : ℕ) (change : Table → Table) (tables : List Table) → length tables ≤ position_or_len (λ t. t.id == id) tables → with_table id change tables ≡ tables
with_table-absent id change [] le = refl
with_table-absent id change (t ∷ tables) le = absent_at id change t tables (t.id == id) le (with_table-absent id change tables)

found_at : (id high : ℕ) (change : Table → Table) (t : Table) (tables : List Table) (d : Table) (b : Bool) → (t.id == id) ≡ b → ids_rise t.id high tables ≡ true
    → cond (not b) (1 + position_or_len (λ t. t.id == id) tables) 0 < length (t ∷ tables)
    → (position_or_len (λ t. t.id == id) tables < length tables → set tables (position_or_len (λ t. t.id == id) tables) (change (get_or tables (position_or_len (λ t. t.id == id) tables) d)) ≡ with_table id change tables)
    → set (t ∷ tables) (cond (not b) (1 + position_or_len (λ t. t.id == id) tables) 0) (change (get_or (t ∷ tables) (cond (not b) (1 + position_or_len (λ t. t.id == id) tables) 0) d)) ≡ cond b (change t) t ∷ with_table id change tables
found_at id high change t tables d true e rise lt rest =
    let same : id ≤ t.id = grind (arith, nat_tests) in
    ap (λ others. change t ∷ others) (sym (with_table-above id t.id high change tables same rise))
found_at id high change t tables d false e rise lt rest =
    rw (one_more (position_or_len (λ t. t.id == id) tables)) (ap (λ others. t ∷ others) (rest (omega arith)))

with_table-at : (id low high : ℕ) (change : Table → Table) (tables : List Table) (d : Table) → ids_rise low high tables ≡ true → position_or_len (λ t. t.id == id) tables < length tables
    → set tables (position_or_len (λ t. t.id == id) tables) (change (get_or tables (position_or_len (λ t. t.id == id) tables) d)) ≡ with_table id change tables
with_table-at id low high change [] d rise lt = absurd (omega arith)
with_table-at id low high change (t ∷ tables) d rise lt =
    found_at id high change t tables d (t.id == id) refl (and_right _ _ rise) lt (with_table-at id t.id high change tables d (and_right _ _ rise))

none_beyond : (n most : ℕ) (b : Bool) → nat_lt n most ≡ b → cond b (Some n) None ≡ None → most ≤ n
none_beyond n most true e h = cc
none_beyond n most false e h = grind (arith, nat_tests)

some_within : (n most index : ℕ) (b : Bool) → nat_lt n most ≡ b → cond b (Some n) None ≡ Some index → (n ≡ index) × (n < most)
some_within n most index true e h = (cc, ltb-true n most e)
some_within n most index false e h = cc

-- where no table has the id, a change of that table changes none
pub with_table-unchanged : (id : ℕ) (change : Table → Table) (tables : List Table) → position (λ t. t.id == id) tables ≡ None → with_table id change tables ≡ tables
with_table-unchanged id change tables none = with_table-absent id change tables (none_beyond _ _ _ refl none)

-- where ids rise, a change of the table with an id changes the one at its place
pub with_table-changed : (id high : ℕ) (change : Table → Table) (tables : List Table) (index : ℕ) (d table : Table) → ids_rise 0 high tables ≡ true → position (λ t. t.id == id) tables ≡ Some index
    → d ≡ get_or tables index d → table ≡ change d → set tables index table ≡ with_table id change tables
with_table-changed id high change tables index d table rise found is made =
    let at = some_within (position_or_len (λ t. t.id == id) tables) (length tables) index _ refl found in
    let changed : table ≡ change (get_or tables (position_or_len (λ t. t.id == id) tables) d) = rw at.0 (made ∙ ap change is) in
    rw (← at.0, changed) (with_table-at id 0 high change tables d rise at.1)
