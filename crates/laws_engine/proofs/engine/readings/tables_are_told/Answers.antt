use Rattle.std.proofs.Common.{sym}
use Rattle.laws_engine.proofs.EngineLemmas.SameTables.{named_alike, numbered_alike, schema_alike}
use Rattle.laws_engine.proofs.engine.readings.tables_are_told.Goals as goal

pub returns : goal.returns
returns c = record {
  tables = λ engine state h. h.holds.defined;
  catalog = λ engine state h. λ i. record { greatest_table = h.greatest i; tables = sym h.holds.defined i };
  numbered = λ engine state h. numbered_alike engine.store.tables state.tables h.holds.defined;
  named = λ engine state h. named_alike engine.store.tables state.tables h.holds.defined;
  schema = λ engine state h. schema_alike engine.store.tables state.tables h.holds.defined;
}
