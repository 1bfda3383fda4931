-- The walk begins at the newest change of the record's hash.
use Rattle.std.proofs.Common.{◌≡◌, ℕ, map, length, take, sym, ap, subst, ◌∙◌, arith}
use Rattle.version_store.specs.Chained.{Walk}
use Rattle.version_store.specs.HeldChanges.{HeldChange, is_standing_rewrite, last_place}
use Rattle.version_store.specs.Kept.{held}
use Rattle.version_store.specs.Hashes.{hash_of}
use Rattle.std.proofs.lemmas.List.{length-map}
use Rattle.version_store.proofs.ChainLemmas.{latest-bound}
use Rattle.version_store.proofs.HeldLemmas.{held_hash, hashes-held}
use Rattle.version_store.proofs.RecordLemmas.{standing-hash}
use Rattle.version_store.proofs.WalkLemmas.{last-start, place-below, walk-start}
use Rattle.version_store.proofs.versions.Versions.newest_rewrite.Goals as goal

pub newest_standing-requires-clause-walk : goal.newest_standing-requires-clause-walk
newest_standing-requires-clause-walk c =
    let a = c.self.inside in let hash : ℕ = hash_of c.args.table.0 c.args.bookmark.now in
    subst (Walk hash a.chains) (sym c.newest_hashed-from.ensures) (walk-start hash a.chains)

pub returns-clause-place : goal.returns-clause-place
returns-clause-place c =
    let a = c.self.inside in let hash : ℕ = hash_of c.args.table.0 c.args.bookmark.now in let test = is_standing_rewrite c.args.table.0 c.args.bookmark.now in
    let are : a.chains ≡ map held_hash (held a) = c.self.invariant.keeps.are_hashes ∙ hashes-held a.items.items a.rows.pieces c.self.invariant.keeps.are_rows in
    c.newest_standing.ensures.place a.rows.pieces c.self.invariant.keeps.are_rows
    ∙ ap (λ (n : ℕ). last_place test (take n (held a))) c.newest_hashed-from.ensures
    ∙ last-start test hash (held a) a.chains (standing-hash c.args.table.0 c.args.bookmark.now) are ∙ ap (last_place test) c.self.view_is

pub returns-clause-within : goal.returns-clause-within
returns-clause-within c =
    let a = c.self.inside in let hash : ℕ = hash_of c.args.table.0 c.args.bookmark.now in
    let are : a.chains ≡ map held_hash (held a) = c.self.invariant.keeps.are_hashes ∙ hashes-held a.items.items a.rows.pieces c.self.invariant.keeps.are_rows in
    place-below c.newest_standing.result c.newest_hashed-from.result (length c.args.self.now)
    (omega (arith, c.newest_hashed-from.ensures, latest-bound hash a.chains, ap (length {A = ℕ}) are, length-map (held a) held_hash, ap (length {A = HeldChange}) c.self.view_is)) c.newest_standing.ensures.within
