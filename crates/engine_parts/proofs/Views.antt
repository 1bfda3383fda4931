-- What a view tells of the tables.
use Rattle.std.proofs.Common.{◌≡◌, ℕ, [], Option, Some, None, option_map, unwrap_or, refl, sym, ap, ◌∙◌}
use Rattle.std.specs.Prelude.{IsSomeAnd, is_none}
use Rattle.database_state.specs.Table.{Table, schema_of, table_with_id}
use Rattle.index_derive.specs.declared.rules.Schema.{Schema}
use Rattle.laws_versions.specs.History.{without_rows}
use Rattle.version_store.specs.declared.calls.Reader.{Reader}
use Rattle.laws_engine.specs.VersionedTables.{VersionedTables, seen_table}
use Rattle.stored_variants.specs.StoredVersions.{entries_in, seen_entries}
use Rattle.laws_engine.proofs.TableLemmas.SeenTables.{seen_at_id}
use Rattle.engine_parts.proofs.ReadsView.{none_is_some}

-- a table that is found has the schema of the one that is stored
pub known_at : (found : Table) (stored : Option Table) (schema : Schema) → Some found ≡ option_map without_rows stored → schema ≡ schema_of found → IsSomeAnd stored (λ t. schema ≡ schema_of t)
known_at found None schema e is = none_is_some found (sym e)
known_at found (Some t) schema e is = is ∙ ap (λ (o : Option Table). schema_of (unwrap_or o found)) e

-- a table that is not there has no entry
pub nothing_there : (reader : Reader) (store : VersionedTables) (table index : ℕ) → None ≡ option_map without_rows (table_with_id store.tables table) → seen_entries reader store table index ≡ []
nothing_there reader store table index e = ap (entries_in index) (seen_at_id reader store.held store.tables table ∙ gone (table_with_id store.tables table) e)
  where
    gone : (o : Option Table) → None ≡ option_map without_rows o → option_map (seen_table reader store.held) o ≡ None
    gone None e = refl
    gone (Some t) e = none_is_some (without_rows t) e

pub is_none-map : {X Y : Type 0} (f : X → Y) (o : Option X) → is_none (option_map f o) ≡ is_none o
is_none-map f None = refl
is_none-map f (Some x) = refl
