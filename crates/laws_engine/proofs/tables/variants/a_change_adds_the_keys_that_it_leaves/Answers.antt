use Rattle.std.specs.Prelude.{is_some}
use Rattle.database_state.specs.Conflicts.{yields_key}
use Rattle.laws_engine.proofs.TableLemmas.VariantKeys.{after_change, after_other}
use Rattle.laws_engine.proofs.tables.variants.a_change_adds_the_keys_that_it_leaves.Goals as goal

pub returns : goal.returns
returns c = record {
  own = λ newest after held new rule schema table key bookmark. after_change (yields_key rule schema key) newest after held new table bookmark;
  other = λ newest held new rule schema table key bookmark. after_other (yields_key rule schema key) newest held new table bookmark;
  there = λ newest after held new table bookmark. after_change is_some newest after held new table bookmark;
}
