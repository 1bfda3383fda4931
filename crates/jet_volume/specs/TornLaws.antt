-- What a write leaves, whole, in part or not at all: its lengths, and that each of them is among what a torn write leaves.
use Rattle.std.proofs.Common.{◌≡◌, ℕ, ◌+◌, ◌-◌, max, List, ◌++◌, length, take, drop, replicate, refl, arith, rules, length-append, length-take, length-drop}
use Rattle.std.proofs.lemmas.List.{length-replicate, same_lists, places, take_min}
use Rattle.jet_volume.specs.Crash.{Torn, padded, written}

pub length-padded : (at : ℕ) (bytes : List ℕ) → length (padded at bytes) ≡ at
length-padded at bytes = omega (arith, length-append (take at bytes) (replicate (at - length bytes) 0), length-take at bytes, length-replicate {A = ℕ} (at - length bytes) 0)

pub length-written : (at : ℕ) (piece bytes : List ℕ) → length (written at piece bytes) ≡ max (length bytes) (at + length piece)
length-written at piece bytes =
    omega (arith, length-append (padded at bytes ++ piece) (drop (at + length piece) bytes), length-append (padded at bytes) piece, length-padded at bytes, length-drop (at + length piece) bytes)

-- a whole write is one that came in part
pub written_torn : (at : ℕ) (piece bytes : List ℕ) → Torn at (length piece) bytes (written at piece bytes)
written_torn at piece bytes = record {
  before = same_lists _ _ (search (rules, places)) (λ k d h. grind (arith, places));
  after = same_lists _ _ (search (rules, places)) (λ k d h. grind (arith, places));
  no_shorter = omega (arith, length-written at piece bytes);
  no_longer = omega (arith, length-written at piece bytes);
}

-- and so is one that was not made
pub unwritten_torn : (at n : ℕ) (bytes : List ℕ) → Torn at n bytes bytes
unwritten_torn at n bytes = record { before = take_min at bytes; after = refl; no_shorter = omega arith; no_longer = omega arith }
