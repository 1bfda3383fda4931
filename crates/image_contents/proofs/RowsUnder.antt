-- What is asked of a row, one after another.
use Rattle.std.proofs.Common.{◌≡◌, ℕ, Bool, true, false, ◌&&◌, List, Option, Some, None, refl, sym, ap, ◌∙◌}
use Rattle.std.specs.Prelude.{bytes_eq}
use Rattle.column_set.specs.RecordValues.{RecordFields}
use Rattle.column_set.specs.RowReading.{row_in}
use Rattle.common_lemmas.proofs.Booleans.{and_false}
use Rattle.database_state.specs.Lawful.{is_indexable}
use Rattle.database_state.specs.Table.{Table, schema_of}
use Rattle.image_findings.specs.RowFindings.{is_hidden_key, is_own_bookmark, is_row_under}
use Rattle.image_findings.specs.TableContents.{is_short_row, row_fits}
use Rattle.index_derive.specs.declared.rules.IndexRule.{IndexRule}
use Rattle.index_derive.specs.Entries.{primary_key}
use Rattle.index_derive.specs.Schemas.{primary_rule}
use Rattle.long_value.specs.Values.{Values}
use Rattle.stored_variants.specs.RecordRows.{record_of}

abbrev last : ℕ → Values → Table → List ℕ → List ℕ → Bool
last number values table bookmark bytes = is_own_bookmark number table (record_of values bytes) bookmark

abbrev takes : Values → Table → List ℕ → Bool
takes values table bytes = is_indexable (schema_of table) (record_of values bytes)

pub not_short : (number : ℕ) (values : Values) (table : Table) (bookmark bytes : List ℕ) → is_short_row bytes ≡ false → false ≡ is_row_under number values table bookmark bytes
not_short number values table bookmark bytes e = sym (ap (λ b. b && (row_fits table.columns (row_in bytes) && (takes values table bytes && last number values table bookmark bytes))) e)

pub not_fit : (number : ℕ) (values : Values) (table : Table) (bookmark bytes : List ℕ) → row_fits table.columns (row_in bytes) ≡ false → false ≡ is_row_under number values table bookmark bytes
not_fit number values table bookmark bytes e = sym (ap (λ b. is_short_row bytes && (b && (takes values table bytes && last number values table bookmark bytes))) e ∙ and_false (is_short_row bytes))

both : (number : ℕ) (values : Values) (table : Table) (bookmark bytes : List ℕ) → is_short_row bytes ≡ true → row_fits table.columns (row_in bytes) ≡ true → (takes values table bytes && last number values table bookmark bytes) ≡ is_row_under number values table bookmark bytes
both number values table bookmark bytes short fits = sym (λ i. short i && (fits i && (takes values table bytes && last number values table bookmark bytes)))

pub not_taken : (number : ℕ) (values : Values) (table : Table) (bookmark bytes : List ℕ) (row : RecordFields) → is_short_row bytes ≡ true → row_fits table.columns (row_in bytes) ≡ true → row ≡ record_of values bytes → false ≡ is_indexable (schema_of table) row
    → false ≡ is_row_under number values table bookmark bytes
not_taken number values table bookmark bytes row short fits is e =
    ap (λ b. b && last number values table bookmark bytes) (e ∙ ap (is_indexable (schema_of table)) is) ∙ both number values table bookmark bytes short fits

pub own_left : (number : ℕ) (values : Values) (table : Table) (bookmark bytes : List ℕ) (row : RecordFields) (own : Bool) → is_short_row bytes ≡ true → row_fits table.columns (row_in bytes) ≡ true → row ≡ record_of values bytes → true ≡ is_indexable (schema_of table) row
    → own ≡ is_own_bookmark number table row bookmark → own ≡ is_row_under number values table bookmark bytes
own_left number values table bookmark bytes row own short fits is e told =
    told ∙ ap (λ r. is_own_bookmark number table r bookmark) is ∙ ap (λ b. b && last number values table bookmark bytes) (e ∙ ap (is_indexable (schema_of table)) is) ∙ both number values table bookmark bytes short fits

-- ---- its own bookmark

pub by_key : (number : ℕ) (table : Table) (values : RecordFields) (bookmark : List ℕ) (rule : IndexRule) → Some rule ≡ primary_rule (schema_of table) → bytes_eq bookmark (primary_key rule (schema_of table) values) ≡ is_own_bookmark number table values bookmark
by_key number table values bookmark rule is = ap (λ (o : Option IndexRule). elim o [ Some r ↦ bytes_eq bookmark (primary_key r (schema_of table) values) | None ↦ is_hidden_key number bookmark ]) is

pub by_number : (number : ℕ) (table : Table) (values : RecordFields) (bookmark : List ℕ) → None ≡ primary_rule (schema_of table) → is_hidden_key number bookmark ≡ is_own_bookmark number table values bookmark
by_number number table values bookmark is = ap (λ (o : Option IndexRule). elim o [ Some r ↦ bytes_eq bookmark (primary_key r (schema_of table) values) | None ↦ is_hidden_key number bookmark ]) is
