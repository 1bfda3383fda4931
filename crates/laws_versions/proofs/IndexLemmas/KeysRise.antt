-- The keys of a record rise.
use Rattle.std.proofs.Common.{ℕ, Bool, true, false, not, List, [], map, filter, Ok, Err}
use Rattle.key_normal.specs.KeyBytes.{cut_key}
use Rattle.index_derive.specs.Entries.{NullKeyDisallowed, KeyTruncated, entries, meets_conditions, all_key_values, is_ignored, whole_key, keys_of, keys_or_none, sorted_keys}
use Rattle.index_derive.specs.RisingKeys.{AreRisingKeys, rising_none, rising_sorted}
use Rattle.laws_versions.proofs.IndexLemmas.Adding.{KeysRise}

rising_kept : (a b : Bool) (ks : List (List ℕ)) → AreRisingKeys (keys_or_none (elim a [ true ↦ Err NullKeyDisallowed | false ↦ elim b [ true ↦ Err KeyTruncated | false ↦ Ok (sorted_keys ks) ] ]))
rising_kept true b ks = rising_none
rising_kept false true ks = rising_none
rising_kept false false ks = rising_sorted ks

pub keys_rise : KeysRise
unfolding entries
keys_rise rule schema fields =
    let kept = filter (λ values. not (is_ignored rule.flags values)) (all_key_values rule schema fields) in
    elim (meets_conditions rule fields) as (λ b. AreRisingKeys (keys_or_none (elim b [ true ↦ keys_of rule schema kept | false ↦ Ok [] ]))) [
      | true ↦ rising_kept _ _ (map (cut_key rule.key_most) (map (whole_key rule schema) kept))
      | false ↦ rising_none
    ]
