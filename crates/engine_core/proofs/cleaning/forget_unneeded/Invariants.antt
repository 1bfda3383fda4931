use Rattle.std.proofs.Common.{◌≡◌, length}
use Rattle.std.specs.Prelude.{is_some}
use Rattle.stored_variants.specs.StoredVersions.{next_to_forget}
use Rattle.engine_core.specs.Cleans.{without_unneeded}
use Rattle.engine_core.proofs.cleaning.forget_unneeded.Given as goal

-- without what is still to go the tables are those that are looked for
abbrev pub invariant-loop-more : goal.invariant-loop-more
invariant-loop-more l = record {
  rest : record l.tables { store = without_unneeded l.oldest l.tables.store } ≡ record l.fn.tables { store = without_unneeded l.oldest l.fn.tables.store };
  more : l.more ≡ is_some (next_to_forget l.oldest l.tables.store.held);
}

abbrev pub decreases-loop-more : goal.decreases-loop-more
decreases-loop-more l = length l.tables.store.held
