use Rattle.std.specs.Prelude.{is_some}
use Rattle.database_state.specs.Conflicts.{yields_key}
use Rattle.laws_engine.proofs.TableLemmas.VariantKeys.{before_clean}
use Rattle.laws_engine.proofs.tables.variants.a_clean_takes_the_keys_that_no_variant_has.Goals as goal

pub returns : goal.returns
returns c = record {
  keys = λ newest oldest held rule schema table key bookmark. before_clean (yields_key rule schema key) newest oldest held table bookmark;
  there = λ newest oldest held table bookmark. before_clean is_some newest oldest held table bookmark;
}
