-- The schema calls among the calls of a session.
use Rattle.std.specs.Prelude.{Option, Some, None}
use Rattle.index_derive.specs.declared.schema_calls.SchemaCall.{SchemaCall}
use Rattle.index_derive.specs.declared.schema_calls.SchemaCall.TheVariants as schema
use Rattle.session_local.specs.declared.request.Request.{Request}
use Rattle.session_local.specs.declared.request.Request.TheVariants as call

-- the schema call that a call is
abbrev pub schema_call_of : Request → Option SchemaCall
schema_call_of (call.CreateTable table) = Some (schema.CreateTable table)
schema_call_of (call.DeleteTable table) = Some (schema.DeleteTable table)
schema_call_of (call.AddColumn table column kind flags) = Some (schema.AddColumn table column kind flags)
schema_call_of (call.DeleteColumn table column) = Some (schema.DeleteColumn table column)
schema_call_of (call.CreateIndex table index flags key_most segments conditions) = Some (schema.CreateIndex table index flags key_most segments conditions)
schema_call_of (call.DeleteIndex table index) = Some (schema.DeleteIndex table index)
schema_call_of _ = None
