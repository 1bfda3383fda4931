-- The walk goes on from the change's own hash, which is that of its record.
use Rattle.std.proofs.Common.{◌≡◌, ℕ, ◌+◌, ◌-◌, ◌<◌, List, [], map, length, get_or, take, sym, ap, subst, ◌∙◌, arith}
use Rattle.std.specs.Prelude.{slice_get}
use Rattle.std.proofs.lemmas.List.{length-map}
use Rattle.common_lemmas.proofs.Options.{same_some}
use Rattle.version_store.specs.Chained.{Walk}
use Rattle.version_store.specs.HeldChanges.{HeldChange, is_record, last_place}
use Rattle.version_store.specs.Items.{held_change, item_hash}
use Rattle.version_store.specs.Kept.{held}
use Rattle.version_store.specs.Hashes.{hash_of}
use Rattle.version_store.proofs.HeldLemmas.{held_hash, held-item, length-held, hashes-held}
use Rattle.version_store.proofs.RecordLemmas.{record-hash}
use Rattle.version_store.proofs.WalkLemmas.{last-before, place-below, walk-falls, walk-step}
use Rattle.version_store.proofs.versions.Versions.older_change.Goals as goal
use Rattle.version_store.proofs.EarlierWalks.{behind}

pub before-from-requires : goal.before-from-requires
before-from-requires c =
    let a = c.self.inside in
    omega (arith, c.requires, ap (length {A = ℕ}) c.self.invariant.keeps.are_hashes, length-map a.items.items item_hash, length-held a.items.items a.rows.pieces c.self.invariant.keeps.are_rows, ap (length {A = HeldChange}) c.self.view_is)

pub index-item-requires : goal.index-item-requires
index-item-requires c =
    let a = c.self.inside in
    omega (arith, a.items.ok.0, length-held a.items.items a.rows.pieces c.self.invariant.keeps.are_rows, c.requires, ap (length {A = HeldChange}) c.self.view_is)

pub newest_touching-requires-clause-walk : goal.newest_touching-requires-clause-walk
newest_touching-requires-clause-walk c =
    let a = c.self.inside in let x = c.index-item.result.now in let place = c.args.place in
    let within : place < length a.items.items = omega (arith, length-held a.items.items a.rows.pieces c.self.invariant.keeps.are_rows, c.requires, ap (length {A = HeldChange}) c.self.view_is) in
    let b = behind a.items.items a.chains place c.before-from.result x c.self.invariant.keeps.are_hashes within c.index-item.ensures c.before-from.ensures in
    subst (λ (m : List ℕ). Walk (hash_of x.table.0 m) a.chains c.before-from.result) (sym c.as_bytes.ensures) (walk-step (item_hash x) a.chains (place + 1) c.before-from.result b.walk (omega arith) b.next)

pub returns-clause-place : goal.returns-clause-place
returns-clause-place c h at =
    let a = c.self.inside in let x = c.index-item.result.now in let place = c.args.place in
    let within : place < length a.items.items = omega (arith, length-held a.items.items a.rows.pieces c.self.invariant.keeps.are_rows, c.requires, ap (length {A = HeldChange}) c.self.view_is) in
    let b = behind a.items.items a.chains place c.before-from.result x c.self.invariant.keeps.are_hashes within c.index-item.ensures c.before-from.ensures in
    let are : a.chains ≡ map held_hash (held a) = c.self.invariant.keeps.are_hashes ∙ hashes-held a.items.items a.rows.pieces c.self.invariant.keeps.are_rows in
    let is : held_change x (get_or a.rows.pieces place []) ≡ h =
    same_some (held_change x (get_or a.rows.pieces place [])) h (sym (held-item a.items.items a.rows.pieces place x c.self.invariant.keeps.are_rows within c.index-item.ensures) ∙ ap (λ (l : List HeldChange). slice_get l place) c.self.view_is ∙ at) in
    c.newest_touching.ensures.place a.rows.pieces c.self.invariant.keeps.are_rows
    ∙ ap (λ (m : List ℕ). last_place (is_record x.table.0 m) (take c.before-from.result (held a))) c.as_bytes.ensures
    ∙ last-before (is_record x.table.0 x.bookmark) (item_hash x) (held a) a.chains (place + 1) c.before-from.result (record-hash x.table.0 x.bookmark) are b.walk (omega arith) b.next
    ∙ ap (λ (n : ℕ). last_place (is_record x.table.0 x.bookmark) (take n (held a))) (let e : place + 1 - 1 ≡ place = omega arith in e)
    ∙ ap (λ (l : List HeldChange). last_place (is_record x.table.0 x.bookmark) (take place l)) c.self.view_is
    ∙ ap (λ (g : HeldChange). last_place (is_record g.table g.bookmark) (take place c.args.self.now)) is

pub returns-clause-within : goal.returns-clause-within
returns-clause-within c =
    let a = c.self.inside in let x = c.index-item.result.now in let place = c.args.place in
    let within : place < length a.items.items = omega (arith, length-held a.items.items a.rows.pieces c.self.invariant.keeps.are_rows, c.requires, ap (length {A = HeldChange}) c.self.view_is) in
    let b = behind a.items.items a.chains place c.before-from.result x c.self.invariant.keeps.are_hashes within c.index-item.ensures c.before-from.ensures in
    place-below c.newest_touching.result c.before-from.result place (omega (arith, walk-falls (item_hash x) a.chains (place + 1) c.before-from.result b.walk (omega arith) b.next)) c.newest_touching.ensures.within
