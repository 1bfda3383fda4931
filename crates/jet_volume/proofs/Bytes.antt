-- Writes, and how they are undone.
use Rattle.std.proofs.Common.{◌≡◌, ℕ, ◌+◌, ◌-◌, ◌≤◌, List, ◌++◌, length, take, drop, replicate, ◌∙◌, ap, arith, rules}
use Rattle.std.proofs.lemmas.List.{same_lists, places, take_at}
use Rattle.jet_volume.specs.Crash.{Torn, padded, written}
use Rattle.jet_volume.specs.TornLaws.{length-written, written_torn}

-- the bytes with zeros up to an end
abbrev pub grown : ℕ → List ℕ → List ℕ
grown end bytes = bytes ++ replicate (end - length bytes) 0

-- the front of what was grown
pub take-grown : (at end : ℕ) (bytes : List ℕ) → at ≤ end → take at (grown end bytes) ≡ padded at bytes
take-grown at end bytes le = same_lists _ _ (search (rules, places)) (λ k d h. grind (arith, places))

-- nothing was grown behind the end
pub drop-grown : (end : ℕ) (bytes : List ℕ) → drop end (grown end bytes) ≡ drop end bytes
drop-grown end bytes = same_lists _ _ (search (rules, places)) (λ k d h. grind (arith, places))

-- a write of the front of a piece is one of the piece that came in part
pub front_torn : (at n : ℕ) (front bytes : List ℕ) → length front ≤ n → Torn at n bytes (written at front bytes)
front_torn at n front bytes few = record {
  before = (written_torn at front bytes).before;
  after = same_lists _ _ (search (rules, places)) (λ k d h. grind (arith, places));
  no_shorter = (written_torn at front bytes).no_shorter;
  no_longer = omega (arith, few, length-written at front bytes);
}

-- a write is undone by the bytes that it covered and the size before it
pub undoes : (at : ℕ) (piece bytes covered : List ℕ) → covered ≡ take (length piece) (drop at bytes)
    → take (length bytes) (take at (written at piece bytes) ++ covered ++ drop (at + length covered) (written at piece bytes)) ≡ bytes
undoes at piece bytes covered is = same_lists _ _ (search (rules, places)) (λ k d h. grind (arith, places))

-- bytes that were lent whole and come back whole
pub lent_whole : (new items : List ℕ) (n : ℕ) → length new ≡ length items → n ≡ length items → take n (new ++ drop (length new) items) ≡ new
lent_whole new items n same long = take_at new (drop (length new) items) n (omega arith)

-- over what was grown, a piece is written
pub overwrites : (at : ℕ) (piece bytes : List ℕ) → take at (grown (at + length piece) bytes) ++ piece ++ drop (at + length piece) (grown (at + length piece) bytes) ≡ written at piece bytes
overwrites at piece bytes =
    ap (λ (l : List ℕ). l ++ piece ++ drop (at + length piece) (grown (at + length piece) bytes)) (take-grown at (at + length piece) bytes (omega arith))
    ∙ ap (λ (l : List ℕ). padded at bytes ++ piece ++ l) (drop-grown (at + length piece) bytes)
