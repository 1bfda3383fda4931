-- What passes the tests of a record has its hash.
use Rattle.std.proofs.Common.{◌≡◌, ℕ, ◌==◌, true, not, ◌&&◌, List, ap, ◌∙◌}
use Rattle.std.specs.Prelude.{bytes_eq}
use Rattle.std.proofs.lemmas.Bool.{and_parts, eqb-true}
use Rattle.std.proofs.lemmas.Slice.Eq.{bytes_eq-Decides}
use Rattle.column_set.specs.declared.changes.Change.{Change}
use Rattle.database_state.specs.Changes.{is_sum}
use Rattle.column_set.specs.ChangedRecords.{changed_bookmark, changed_table}
use Rattle.database_state.specs.State.{is_undone}
use Rattle.version_store.specs.declared.calls.Reader.{Reader}
use Rattle.version_store.specs.HeldChanges.{HeldChange, collides, conflicts, hides, is_add, is_concurrent, is_record, is_rewrite, is_standing_rewrite, is_unseen}
use Rattle.version_store.specs.Hashes.{hash_of}
use Rattle.version_store.proofs.HeldLemmas.{held_hash}
use Rattle.version_store.proofs.WalkLemmas.{HasHash}

pub record-hash : (table : ℕ) (bookmark : List ℕ) → HasHash (is_record table bookmark) (hash_of table bookmark)
record-hash table bookmark h is =
    let parts = and_parts (h.table == table) (bytes_eq h.bookmark bookmark) is in
    ap (λ (t : ℕ). hash_of t h.bookmark) (eqb-true h.table table parts.0) ∙ ap (hash_of table) ((bytes_eq-Decides h.bookmark bookmark).0 parts.1)

pub conflicts-hash : (reader : Reader) (made : Change) → HasHash (conflicts reader made) (hash_of (changed_table made) (changed_bookmark made))
conflicts-hash reader made h is =
    let outer = and_parts (is_concurrent reader h) (collides made h) is in
    let same = and_parts (is_record (changed_table made) (changed_bookmark made) h) (not (is_add h.kind && is_sum made)) outer.1 in
    record-hash (changed_table made) (changed_bookmark made) h same.0

pub hides-hash : (table : ℕ) (bookmark : List ℕ) (reader : Reader) → HasHash (hides table bookmark reader) (hash_of table bookmark)
hides-hash table bookmark reader h is =
    let outer = and_parts (is_record table bookmark h && is_rewrite h.kind) (is_unseen reader h) is in
    record-hash table bookmark h (and_parts (is_record table bookmark h) (is_rewrite h.kind) outer.0).0

pub standing-hash : (table : ℕ) (bookmark : List ℕ) → HasHash (is_standing_rewrite table bookmark) (hash_of table bookmark)
standing-hash table bookmark h is =
    let outer = and_parts (is_record table bookmark h && is_rewrite h.kind) (not (is_undone h.status)) is in
    record-hash table bookmark h (and_parts (is_record table bookmark h) (is_rewrite h.kind) outer.0).0
