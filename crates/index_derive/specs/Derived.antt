-- What the calls answer of a record's keys.
use Rattle.std.specs.Prelude.{◌≡◌, ℕ, suc, zero, Bool, true, cond, ◌&&◌, List, [], ◌∷◌, Option, Some, None, Result, Ok, Err, IsOk}
use Rattle.std.specs.List.{list_any, find}
use Rattle.std.specs.Ordering.{nat_cmp, is_lt}
use Rattle.std.specs.Cmp.Lexicographic.{slice_cmp}
use Rattle.column_set.specs.RecordValues.{RecordFields}
use Rattle.index_derive.specs.declared.faults.DeriveFault.{DeriveFault}
use Rattle.index_derive.specs.declared.faults.DeriveFault.TheVariants as fault
use Rattle.index_derive.specs.declared.plan.KeyPart.{KeyPart}
use Rattle.index_derive.specs.declared.rules.IndexFlags.{IndexFlags}
use Rattle.index_derive.specs.declared.rules.IndexRule.{IndexRule}
use Rattle.index_derive.specs.declared.walk.Candidate.{Candidate}
use Rattle.index_derive.specs.Entries.{KeyRefusal, NullKeyDisallowed, KeyTruncated}
use Rattle.index_derive.specs.Walks.{candidates_left}

-- the fault by which a call tells of a refusal
abbrev pub fault_of : Result (List (List ℕ)) KeyRefusal → Option DeriveFault
fault_of (Ok keys) = None
fault_of (Err NullKeyDisallowed) = Some fault.NullKeyDisallowed
fault_of (Err KeyTruncated) = Some fault.KeyTruncated

-- whether the answer tells of the keys or of the refusal; want of memory is told only of a record that is not refused
abbrev pub IsDerived : Result (List (List ℕ)) KeyRefusal → Result (List (List ℕ)) DeriveFault → Type 0
IsDerived derived (Ok keys) = derived ≡ Ok keys
IsDerived derived (Err fault.NullKeyDisallowed) = derived ≡ Err NullKeyDisallowed
IsDerived derived (Err fault.KeyTruncated) = derived ≡ Err KeyTruncated
IsDerived derived (Err fault.OutOfMemory) = IsOk derived

-- whether the key comes after the other; each does after none
abbrev pub is_above : Option (List ℕ) → List ℕ → Bool
is_above None key = true
is_above (Some other) key = is_lt (slice_cmp nat_cmp other key)

-- the first of rising keys that is above the other, or the first of all
abbrev pub next_in : List (List ℕ) → Option (List ℕ) → Option (List ℕ)
next_in keys after = find (is_above after) keys

-- so many keys, each the next after the one before it
abbrev pub keys_after : ℕ → List (List ℕ) → Option (List ℕ) → List (List ℕ)
keys_after zero keys after = []
keys_after (suc n) keys after = elim (next_in keys after) [ Some key ↦ key ∷ keys_after n keys (Some key) | None ↦ [] ]

-- ---- of the entries in the order in which a walk comes by them

abbrev pub all_candidates : IndexRule → List KeyPart → RecordFields → List Candidate
all_candidates rule parts fields = candidates_left rule parts fields (record { row = 0; at = 0 })

-- why they are refused
abbrev pub refusal_of : IndexFlags → List Candidate → Option DeriveFault
refusal_of flags candidates =
    cond (flags.disallownull && list_any (λ candidate. candidate.has_null) candidates) (Some fault.NullKeyDisallowed)
    (cond (flags.disallowtruncation && list_any (λ candidate. candidate.cut) candidates) (Some fault.KeyTruncated) None)

-- whether the key comes before the least so far
abbrev pub is_below : List ℕ → Option (List ℕ) → Bool
is_below key None = true
is_below key (Some least) = is_lt (slice_cmp nat_cmp key least)

-- the least of the keys that are above the other, where one is known already
abbrev pub least_from : Option (List ℕ) → Option (List ℕ) → List (List ℕ) → Option (List ℕ)
least_from after least [] = least
least_from after least (key ∷ keys) = least_from after (cond (is_above after key && is_below key least) (Some key) least) keys
