use Rattle.std.proofs.Common.{◌≡◌, [], None, length}
use Rattle.std.specs.Prelude.{is_some}
use Rattle.laws_engine.specs.HeldRecords.{from_oldest_kept}
use Rattle.stored_variants.specs.StoredVersions.{next_to_forget}
use Rattle.engine_core.proofs.closing.forget_all.Given as goal

-- without any held change the tables are those that are looked for, and none of those that are left is needed
abbrev pub invariant-loop-more : goal.invariant-loop-more
invariant-loop-more l = record {
  rest : record l.tables { store = record l.tables.store { held = [] } } ≡ record l.fn.tables { store = record l.fn.tables.store { held = [] } };
  unneeded : from_oldest_kept None l.tables.store.held ≡ [];
  more : l.more ≡ is_some (next_to_forget None l.tables.store.held);
}

abbrev pub decreases-loop-more : goal.decreases-loop-more
decreases-loop-more l = length l.tables.store.held
