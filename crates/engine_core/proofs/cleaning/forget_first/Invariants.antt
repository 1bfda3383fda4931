use Rattle.std.proofs.Common.{◌≡◌, ◌≤◌, ◌-◌, ◌&&◌}
use Rattle.std.specs.Prelude.{is_some, nat_lt}
use Rattle.stored_variants.specs.StoredVersions.{next_to_forget}
use Rattle.engine_core.specs.Cleans.{AreUnneeded, without_first}
use Rattle.engine_core.proofs.cleaning.forget_first.Given as goal

-- so many of the oldest changes are gone, none of which is needed
abbrev pub invariant-loop-more : goal.invariant-loop-more
invariant-loop-more l = record {
  gone : l.tables ≡ record l.fn.tables { store = without_first l.count l.fn.tables.store };
  few : l.count ≤ l.most;
  unneeded : AreUnneeded l.oldest l.count l.fn.tables.store.held;
  more : l.more ≡ (nat_lt 0 (l.most - l.count) && is_some (next_to_forget l.oldest l.tables.store.held));
}

abbrev pub decreases-loop-more : goal.decreases-loop-more
decreases-loop-more l = l.most - l.count
