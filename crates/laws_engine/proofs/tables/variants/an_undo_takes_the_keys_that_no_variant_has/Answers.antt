use Rattle.std.specs.Prelude.{is_some}
use Rattle.database_state.specs.Conflicts.{yields_key}
use Rattle.laws_engine.proofs.TableLemmas.VariantKeys.{before_undo}
use Rattle.laws_engine.proofs.tables.variants.an_undo_takes_the_keys_that_no_variant_has.Goals as goal

pub returns : goal.returns
returns c = record {
  keys = λ newest front gone rest rule schema table key bookmark. before_undo (yields_key rule schema key) newest front gone rest table bookmark;
  there = λ newest front gone rest table bookmark. before_undo is_some newest front gone rest table bookmark;
}
