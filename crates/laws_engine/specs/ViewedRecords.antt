-- The record that a reader views, where escrow columns were changed by others.
use Rattle.std.specs.Prelude.{ℕ, ℤ, neg_ℤ, List, map, Option, option_map}
use Rattle.column_set.specs.RecordValues.{RecordFields}
use Rattle.laws_versions.specs.EscrowSums.{with_sums}
use Rattle.version_store.specs.declared.calls.Reader.{Reader}
use Rattle.laws_engine.specs.HeldRecords.{HeldRecord, seen_record}
use Rattle.laws_engine.specs.HeldSums.{unseen_sums}

-- the record without these sums: with the opposite ones
abbrev pub without_sums : RecordFields → List (ℕ × ℤ) → RecordFields
without_sums values sums = with_sums values (map (λ sum. (sum.0, neg_ℤ sum.1)) sums)

-- The record that a reader views: the one that it is shown, without the sums on it that it does not see.
abbrev pub viewed_record : ℕ → List ℕ → Reader → Option RecordFields → List HeldRecord → Option RecordFields
viewed_record table bookmark reader newest held = option_map (λ values. without_sums values (unseen_sums table bookmark reader held)) (seen_record table bookmark reader newest held)
