-- The parts of what fits.
use Rattle.std.proofs.Common.{◌≡◌, ℕ, ◌^◌, ◌<◌, ◌≤◌, true, ltb, leb, eqb, ◌&&◌, List, length, arith}
use Rattle.std.specs.Prelude.{ℤ, pos, negsuc, Option, Some, None, IfSome, not}
use Rattle.std.specs.List.{list_all}
use Rattle.std.specs.Int.{w32, cast_signed, cast_unsigned}
use Rattle.std.proofs.lemmas.Bool.{and_parts, ltb-true, leb-true}
use Rattle.std.proofs.lemmas.Int.{of_z-to_z}
use Rattle.column_set.specs.declared.changes.Change.TheVariants as change
use Rattle.jet_base.specs.declared.ids.TableId.{TableId}
use Rattle.jet_base.specs.declared.ids.ColumnId.{ColumnId}
use Rattle.column_set.specs.declared.columns.Column.{Column}
use Rattle.index_derive.specs.declared.rules.IndexRule.{IndexRule}
use Rattle.log_grammar.specs.EntryBytes.{amount_fits, change_fits, bookmark_fits, copied_fits, name_fits, column_fits, index_fits, segment_fits, condition_fits}

pub bookmark_short : (bookmark : List ℕ) → bookmark_fits bookmark ≡ true → length bookmark < 2 ^ 16
bookmark_short bookmark h =
    let most : length bookmark ≤ 255 = leb-true _ _ (and_parts (leb 1 (length bookmark)) (leb (length bookmark) 255) h).1 in
    omega arith

pub copied_short : (copied : Option (List ℕ)) → copied_fits copied ≡ true → IfSome copied (λ bookmark. length bookmark < 2 ^ 16)
copied_short None h = tt
copied_short (Some bookmark) h = bookmark_short bookmark h

pub name_short : (name : List ℕ) → name_fits name ≡ true → length name < 256
name_short name h =
    let most : length name ≤ 64 = leb-true _ _ (and_parts (leb 1 (length name)) (leb (length name) 64) h).1 in
    omega arith

pub column_name : (column : Column) → column_fits column ≡ true → name_fits column.name ≡ true
column_name column h =
    let a = and_parts (ltb column.id.0 (2 ^ 16)) (name_fits column.name && (not column.version && not column.auto)) h in
    (and_parts (name_fits column.name) (not column.version && not column.auto) a.1).0

pub record IndexParts (index : IndexRule) : Type 0 where
  pub id : index.id.0 < 2 ^ 16
  pub order : index.order < 2 ^ 32
  pub segment_count : length index.segments < 256
  pub segments : list_all segment_fits index.segments ≡ true
  pub condition_count : length index.conditions < 256
  pub conditions : list_all condition_fits index.conditions ≡ true
  pub name : name_fits index.name ≡ true
  pub key_most : eqb index.key_most 255 ≡ true

pub index_parts : (index : IndexRule) → index_fits index ≡ true → IndexParts index
index_parts index h =
    let segments = ltb (length index.segments) 256 && list_all segment_fits index.segments in
    let conditions = ltb (length index.conditions) 256 && list_all condition_fits index.conditions in
    let last = name_fits index.name && eqb index.key_most 255 in
    let a = and_parts (ltb index.id.0 (2 ^ 16)) (ltb index.order (2 ^ 32) && (segments && (conditions && last))) h in
    let b = and_parts (ltb index.order (2 ^ 32)) (segments && (conditions && last)) a.1 in
    let c = and_parts segments (conditions && last) b.1 in
    let d = and_parts conditions last c.1 in
    let s = and_parts (ltb (length index.segments) 256) (list_all segment_fits index.segments) c.0 in
    let t = and_parts (ltb (length index.conditions) 256) (list_all condition_fits index.conditions) d.0 in
    let l = and_parts (name_fits index.name) (eqb index.key_most 255) d.1 in
    record { id = ltb-true _ _ a.0; order = ltb-true _ _ b.0; segment_count = ltb-true _ _ s.0; segments = s.1; condition_count = ltb-true _ _ t.0; conditions = t.1; name = l.0; key_most = l.1 }

-- ---- amounts

pub amount_small : (amount : ℤ) → amount_fits amount ≡ true → cast_unsigned w32 amount < 2 ^ 32
amount_small (pos n) h = let lt : n < 2 ^ 31 = ltb-true _ _ h in omega arith
amount_small (negsuc n) h = let lt : n < 2 ^ 31 = ltb-true _ _ h in omega arith

pub amount_passed : (amount : ℤ) → amount_fits amount ≡ true → cast_unsigned w32 (cast_signed w32 (cast_unsigned w32 amount)) ≡ cast_unsigned w32 amount
amount_passed amount h = of_z-to_z w32 (cast_unsigned w32 amount) (amount_small amount h)

pub add_amount : (table : TableId) (bookmark : List ℕ) (column : ColumnId) (amount : ℤ) → change_fits (change.Add table bookmark column amount) ≡ true → amount_fits amount ≡ true
add_amount table bookmark column amount h =
    let a = and_parts (ltb table.0 (2 ^ 32)) (bookmark_fits bookmark && (ltb column.0 (2 ^ 16) && amount_fits amount)) h in
    let b = and_parts (bookmark_fits bookmark) (ltb column.0 (2 ^ 16) && amount_fits amount) a.1 in
    (and_parts (ltb column.0 (2 ^ 16)) (amount_fits amount) b.1).1
