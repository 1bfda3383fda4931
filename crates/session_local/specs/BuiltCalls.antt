-- Which calls are built. This is the one place that says so.
use Rattle.std.specs.Prelude.{Bool, true, ◌&&◌, nat_le, ℤ, pos, negsuc, Some, None}
use Rattle.jet_catalog.specs.Decisions.{makes_named as makes_named_in_catalog}
use Rattle.temp_table.specs.TempColumns.{are_temp_columns}
use Rattle.session_local.specs.declared.request.Request.{Request}
use Rattle.session_local.specs.declared.request.Request.TheVariants as call
use Rattle.session_local.specs.BuiltTables.{is_unnumbered, is_built_limit}
use Rattle.session_local.specs.SchemaRequests.{schema_call_of}

-- a number of 32 bits: the amount of a sum is one by its type, and by the grammar
abbrev pub is_amount : ℤ → Bool
is_amount (pos n) = nat_le n 2147483647
is_amount (negsuc n) = nat_le n 2147483647

-- All calls but those that make a column that the engine numbers, an index with keys of more than 255 bytes, or a temporary
-- table with columns that none may have. No line of a script tells one of these.
abbrev pub is_built_call : Request → Bool
is_built_call (call.AddColumn table column kind flags) = is_unnumbered flags.version flags.auto
is_built_call (call.CreateIndex table index flags key_most segments conditions) = is_built_limit key_most
is_built_call (call.EscrowUpdate cursor column amount) = is_amount amount
is_built_call (call.TempOpen temp unique columns) = are_temp_columns columns
is_built_call _ = true

-- whether what a call makes has a name of 1 to 64 bytes, as every name of the grammar has
abbrev pub makes_named : Request → Bool
makes_named request = elim (schema_call_of request) [ Some called ↦ makes_named_in_catalog called | None ↦ true ]

-- The calls that an engine with versions answers: those that are built, where what they make has a name.
abbrev pub is_built_request : Request → Bool
is_built_request request = makes_named request && is_built_call request
