-- Columns that are built: the engine keeps up none of them but the sums.
use Rattle.std.proofs.Common.{◌≡◌, Bool, true, false, not, ◌||◌, refl}
use Rattle.std.proofs.lemmas.Bool.{and_parts}
use Rattle.column_set.specs.declared.columns.Column.{Column}
use Rattle.column_set.specs.RecordValues.{is_kept_column}
use Rattle.session_local.specs.BuiltTables.{is_unnumbered_column, is_built_column, is_built_sum}

pub its_kind : (c : Column) → is_built_column c ≡ true → is_unnumbered_column c ≡ true
its_kind c h = (and_parts (is_unnumbered_column c) (is_built_sum c) h).0

pub its_sum : (c : Column) → is_built_column c ≡ true → is_built_sum c ≡ true
its_sum c h = (and_parts (is_unnumbered_column c) (is_built_sum c) h).1

pub not_numbered : (c : Column) → is_unnumbered_column c ≡ true → (c.version || c.auto) ≡ false
not_numbered c h = by (c.version || c.auto) h
  where
    by : (b : Bool) → not b ≡ true → b ≡ false
    by true h = absurd cc
    by false h = refl

-- so those that the engine keeps up are the sums
pub kept_is_sum : (c : Column) → is_unnumbered_column c ≡ true → is_kept_column c ≡ true → c.escrow ≡ true
kept_is_sum c h kept = by c.escrow c.version c.auto (not_numbered c h) kept
  where
    by : (escrow version auto : Bool) → (version || auto) ≡ false → (escrow || version || auto) ≡ true → escrow ≡ true
    by true version auto none kept = refl
    by false true auto none kept = absurd cc
    by false false true none kept = absurd cc
    by false false false none kept = kept
