-- The table of these tests takes each record of one value.
use Rattle.std.proofs.Common.{◌≡◌, ℕ, ◌+◌, ◌<◌, ◌≤◌, Bool, true, false, not, cond, ◌&&◌, ◌||◌, List, [], ◌∷◌, length, Option, Some, None, refl, sym, ap, subst, ◌∙◌, arith}
use Rattle.std.specs.Prelude.{◌==◌, nat_le, nat_lt, is_some, option_map, unwrap_or, IsSomeAnd, MatchOption}
use Rattle.std.specs.List.{list_all}
use Rattle.std.proofs.lemmas.Bool.Decides.{nat_tests}
use Rattle.common_lemmas.proofs.Booleans.{and_left, and_right, impossible}
use Rattle.jet_base.specs.declared.words.ColType.{ColType}
use Rattle.jet_base.specs.declared.words.ColType.TheVariants.{LongBinary}
use Rattle.column_set.specs.declared.columns.Column.{Column}
use Rattle.column_set.specs.RecordValues.{RecordFields, column_of_id, has_value, is_kept_column, size_of_length, value_fits, values_fit}
use Rattle.database_state.specs.Lawful.{is_indexable}
use Rattle.database_state.specs.Table.{Table, primary_first}
use Rattle.index_derive.specs.Schemas.{primary_rule}
use Rattle.index_derive.specs.declared.rules.IndexRule.{IndexRule}
use Rattle.index_derive.specs.Entries.{primary_key}
use Rattle.jet_catalog.specs.Catalog.{without_rows}
use Rattle.tests_tables.specs.OneColumn.{IsPlain, TakesOneValue, one_value}

at_most : (n m : ℕ) → n ≤ m → nat_le n m ≡ true
at_most n m h = grind (arith, nat_tests)

both : (a b : Bool) → a ≡ true → b ≡ true → (a && b) ≡ true
both a b h g = subst (λ (x : Bool). (x && b) ≡ true) (sym h) g

-- ---- the columns

fits_long : (kind : ColType) (value : List ℕ) → kind ≡ LongBinary → length value ≤ 1048576 → value_fits kind value ≡ true
fits_long kind value e h = ap (λ (k : ColType). value_fits k value) e ∙ at_most (length value) 1048576 h

takes : (multi fits : Bool) → fits ≡ true → ((multi || true) && (fits && true)) ≡ true
takes multi fits h = subst (λ (x : Bool). ((multi || true) && (x && true)) ≡ true) (sym h) (any multi)
  where
    any : (b : Bool) → ((b || true) && (true && true)) ≡ true
    any true = refl
    any false = refl

found_fits : (o : Option Column) (value : List ℕ) → length value ≤ 1048576 → IsSomeAnd o (λ column. column.kind ≡ LongBinary) → elim o [ Some column ↦ values_fit column (value ∷ []) | None ↦ false ] ≡ true
found_fits None value h there = absurd there
found_fits (Some column) value h there = takes column.multi (value_fits column.kind value) (fits_long column.kind value there h)

free_kept : (values : RecordFields) (columns : List Column) → list_all (λ column. not (is_kept_column column)) columns ≡ true → list_all (λ column. not (is_kept_column column) || has_value values column.id.0) columns ≡ true
free_kept values [] h = refl
free_kept values (c ∷ columns) h =
    both (not (is_kept_column c) || has_value values c.id.0) (list_all (λ column. not (is_kept_column column) || has_value values column.id.0) columns)
    (subst (λ (x : Bool). (x || has_value values c.id.0) ≡ true) (sym (and_left (not (is_kept_column c)) (list_all (λ column. not (is_kept_column column)) columns) h)) refl)
    (free_kept values columns (and_right (not (is_kept_column c)) (list_all (λ column. not (is_kept_column column)) columns) h))

no_sum : (columns : List Column) (id : ℕ) → list_all (λ column. not (is_kept_column column)) columns ≡ true → elim (column_of_id columns id) [ Some column ↦ column.escrow | None ↦ false ] ≡ false
no_sum [] id h = refl
no_sum (c ∷ columns) id h = by (c.id.0 == id) (no_sum columns id (and_right (not (is_kept_column c)) (list_all (λ column. not (is_kept_column column)) columns) h))
  where
    plain : (e v a : Bool) → not (e || v || a) ≡ true → e ≡ false
    plain true v a g = sym g
    plain false v a g = refl

    by : (b : Bool) → elim (column_of_id columns id) [ Some column ↦ column.escrow | None ↦ false ] ≡ false → elim (cond b (Some c) (column_of_id columns id)) [ Some column ↦ column.escrow | None ↦ false ] ≡ false
    by true rest = plain c.escrow c.version c.auto (and_left (not (is_kept_column c)) (list_all (λ column. not (is_kept_column column)) columns) h)
    by false rest = rest

-- ---- the size

room : (n : ℕ) → size_of_length n ≤ 255
room n = by (nat_lt 255 n) refl
  where
    by : (b : Bool) → nat_lt 255 n ≡ b → cond b 16 n ≤ 255
    by true e = omega arith
    by false e = grind (arith, nat_tests)

size : (n : ℕ) → n ≤ 255 → 2 + (0 + (0 + (5 + n))) ≤ 1700
size n h = omega (arith, h)

-- ---- the table

pub takes_one : (table : Table) → IsPlain table.columns table.indexes → TakesOneValue table
takes_one table p bookmark value eight short =
    let long = at_most (length value) 1048576 short in
    record {
      columns =
          both _ (list_all (λ column. not (is_kept_column column) || has_value (one_value value) column.id.0) table.columns)
          (both _ true (found_fits (column_of_id table.columns 256) value short p.long) refl) (free_kept (one_value value) table.columns p.free);
      numbers = λ column e. impossible (sym (no_sum table.columns column p.free) ∙ e);
      indexable = subst (λ (rules : List IndexRule). is_indexable (record { columns = table.columns; indexes = primary_first rules }) (one_value value) ≡ true) (sym p.plain) refl;
      own =
          subst (λ (rules : List IndexRule). MatchOption (primary_rule (record { columns = table.columns; indexes = primary_first rules })) (length bookmark ≡ 8) (λ rule. bookmark ≡ primary_key rule (record { columns = table.columns; indexes = primary_first rules }) (one_value value)))
          (sym p.plain) eight;
      some = subst (λ (n : ℕ). 0 < n) (sym eight) (omega arith);
      short = subst (λ (n : ℕ). n ≤ 255) (sym eight) (omega arith);
      formed = refl;
      numbered = refl;
      lengths = subst (λ (x : Bool). ((x && true) && true) ≡ true) (sym long) refl;
      small = size (size_of_length (length value)) (room (length value));
    }

-- a table that is there without its records is there with them
pub found_takes : (o : Option Table) (found : Table) → Some found ≡ option_map without_rows o → IsPlain found.columns found.indexes → IsSomeAnd o TakesOneValue
found_takes None found e p = impossible (sym (ap is_some e))
found_takes (Some table) found e p = takes_one table (subst (λ (t : Table). IsPlain t.columns t.indexes) (same found (without_rows table) e) p)
  where
    same : (a b : Table) → Some a ≡ Some b → a ≡ b
    same a b f = ap (λ (x : Option Table). unwrap_or x a) f
