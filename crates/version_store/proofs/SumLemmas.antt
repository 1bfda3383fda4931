-- What a reader does not see of a column's sums, from the newest change of a record back.
use Rattle.std.proofs.Common.{◌≡◌, ℕ, ◌+◌, ◌%◌, ◌^◌, ◌&&◌, List, [], ◌∷◌, refl, ap}
use Rattle.std.specs.Prelude.{if◌then◌else◌}
use Rattle.version_store.specs.declared.calls.Reader.{Reader}
use Rattle.version_store.specs.HeldChanges.{HeldChange, is_record, is_rewrite, is_unseen}
use Rattle.version_store.specs.Hashes.{hash_of}
use Rattle.version_store.specs.Sums.{amount_on, unseen_before, unseen_with}
use Rattle.version_store.proofs.RecordLemmas.{record-hash}
use Rattle.version_store.proofs.WalkLemmas.{LeavesOthers, from_the_newest, off}

pub leaves-others : (table : ℕ) (bookmark : List ℕ) (column : ℕ) (reader : Reader) → LeavesOthers (unseen_with table bookmark column reader) (hash_of table bookmark)
leaves-others table bookmark column reader held after other =
    ap (λ b. if b && is_unseen reader held then (if is_rewrite held.kind then 0 else (amount_on column held.kind + after) % 2 ^ 32) else after)
    (off (is_record table bookmark) (hash_of table bookmark) held (record-hash table bookmark) other)

pub unseen-is : (table : ℕ) (bookmark : List ℕ) (column : ℕ) (reader : Reader) (after : ℕ) (changes : List HeldChange) → unseen_before table bookmark column reader after changes ≡ from_the_newest (unseen_with table bookmark column reader) after changes
unseen-is table bookmark column reader after [] = refl
unseen-is table bookmark column reader after (held ∷ changes) = ap (unseen_with table bookmark column reader held) (unseen-is table bookmark column reader after changes)
