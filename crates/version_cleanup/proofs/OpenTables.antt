-- The open tables of a session, as it lists them and as contracts see them.
use Rattle.std.proofs.Common.{◌≡◌, ℕ, ◌<◌, Bool, true, false, cond, ◌||◌, zero, suc, List, [], ◌∷◌, length, remove, get_or, refl, sym, ap, ◌∙◌, arith}
use Rattle.std.specs.Prelude.{◌==◌, nat_lt}
use Rattle.std.specs.List.{list_any, insert}
use Rattle.jet_base.specs.declared.ids.TableId.{TableId}
use Rattle.database_state.specs.Step.{with_one, without_one}
use Rattle.version_cleanup.specs.LiveFields.{table_ids}

pub list_any-ids : (table : ℕ) (tables : List TableId) → list_any (λ id. id == table) (table_ids tables) ≡ list_any (λ id. id.0 == table) tables
list_any-ids table [] = refl
list_any-ids table (t ∷ tables) = ap (λ (b : Bool). (t.0 == table) || b) (list_any-ids table tables)

-- one more, before the first of a greater number
pub with_one-read : (tables : List TableId) (table : TableId) (place : ℕ) (d : TableId) → place < length tables → nat_lt table.0 (get_or tables place d).0 ≡ true → ((k : ℕ) → k < place → nat_lt table.0 (get_or tables k d).0 ≡ false)
    → table_ids (insert tables place table) ≡ with_one table.0 (table_ids tables)
with_one-read [] table place d within here before = absurd (omega (arith, within))
with_one-read (id ∷ tables) table zero d within here before =
    ap (λ b. cond b (table.0 ∷ id.0 ∷ table_ids tables) (id.0 ∷ with_one table.0 (table_ids tables))) (sym here)
with_one-read (id ∷ tables) table (suc place) d within here before =
    ap (λ rest. id.0 ∷ rest) (with_one-read tables table place d (omega (arith, within)) here (λ k lt. before (suc k) (omega (arith, lt))))
    ∙ ap (λ b. cond b (table.0 ∷ id.0 ∷ table_ids tables) (id.0 ∷ with_one table.0 (table_ids tables))) (sym (before 0 (omega arith)))

pub with_one-unread : (tables : List TableId) (table d : TableId) → ((k : ℕ) → k < length tables → nat_lt table.0 (get_or tables k d).0 ≡ false) → table_ids (insert tables (length tables) table) ≡ with_one table.0 (table_ids tables)
with_one-unread [] table d each = refl
with_one-unread (id ∷ tables) table d each =
    ap (λ rest. id.0 ∷ rest) (with_one-unread tables table d (λ k lt. each (suc k) (omega (arith, lt))))
    ∙ ap (λ b. cond b (table.0 ∷ id.0 ∷ table_ids tables) (id.0 ∷ with_one table.0 (table_ids tables))) (sym (each 0 (omega arith)))

-- one fewer, the first of its number
pub without_one-read : (tables : List TableId) (table place : ℕ) (d : TableId) → place < length tables → ((get_or tables place d).0 == table) ≡ true → ((k : ℕ) → k < place → ((get_or tables k d).0 == table) ≡ false)
    → without_one table (table_ids tables) ≡ table_ids (remove tables place)
without_one-read [] table place d within here before = absurd (omega (arith, within))
without_one-read (id ∷ tables) table zero d within here before = ap (λ b. cond b (table_ids tables) (id.0 ∷ without_one table (table_ids tables))) here
without_one-read (id ∷ tables) table (suc place) d within here before =
    ap (λ b. cond b (table_ids tables) (id.0 ∷ without_one table (table_ids tables))) (before 0 (omega arith))
    ∙ ap (λ rest. id.0 ∷ rest) (without_one-read tables table place d (omega (arith, within)) here (λ k lt. before (suc k) (omega (arith, lt))))

pub without_one-unread : (tables : List TableId) (table : ℕ) (d : TableId) → ((k : ℕ) → k < length tables → ((get_or tables k d).0 == table) ≡ false) → without_one table (table_ids tables) ≡ table_ids tables
without_one-unread [] table d each = refl
without_one-unread (id ∷ tables) table d each =
    ap (λ b. cond b (table_ids tables) (id.0 ∷ without_one table (table_ids tables))) (each 0 (omega arith))
    ∙ ap (λ rest. id.0 ∷ rest) (without_one-unread tables table d (λ k lt. each (suc k) (omega (arith, lt))))
