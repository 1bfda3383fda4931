-- Each held change has exactly the record before it that the earlier ones leave.
use Rattle.std.proofs.Common.{ℕ, Option, List, [], ◌∷◌, ap}
use Rattle.std.specs.Prelude.{if◌then◌else◌, option_map}
use Rattle.column_set.specs.declared.columns.Column.{Column}
use Rattle.column_set.specs.RecordValues.{RecordFields}
use Rattle.database_state.specs.Conflicts.{yields_key}
use Rattle.database_state.specs.State.{PastChange}
use Rattle.index_derive.specs.declared.rules.IndexRule.{IndexRule}
use Rattle.index_derive.specs.declared.rules.Schema.{Schema}
use Rattle.laws_versions.specs.Records.{Records, after_item}
use Rattle.laws_images.proofs.OpenedLemmas.TakenBack.{IsExact}
use Rattle.laws_versions.specs.Readers.{is_standing}
use Rattle.laws_versions.specs.KeySums.{HasKeyBefores}
use Rattle.laws_versions.specs.SumBefores.{HasSumBefores}
use Rattle.database_state.specs.Equivalence.{without_sums}

pub keys_exact : (rule : IndexRule) (schema : Schema) (table : ℕ) (records : Records) (items : List PastChange) → IsExact records items → HasKeyBefores rule schema table records items
keys_exact rule schema table records [] h = tt
keys_exact rule schema table records (item ∷ items) h = (λ stands sum at key. ap (λ (o : Option RecordFields). yields_key rule schema key o) (h.0 stands), keys_exact rule schema table (if is_standing item then after_item records item else records) items h.1)

pub sums_exact : (columns : List Column) (table : ℕ) (records : Records) (items : List PastChange) → IsExact records items → HasSumBefores columns table records items
sums_exact columns table records [] h = tt
sums_exact columns table records (item ∷ items) h = (λ stands sum at. ap (λ (o : Option RecordFields). option_map (without_sums columns) o) (h.0 stands), sums_exact columns table (if is_standing item then after_item records item else records) items h.1)
