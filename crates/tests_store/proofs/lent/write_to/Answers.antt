use Rattle.std.proofs.Common.{◌≡◌, ℕ, ◌+◌, [], Some, refl, sym, subst}
use Rattle.std.proofs.lemmas.Result.{on_ok_weaker}
use Rattle.jet_volume.specs.Image.{Image as Files}
use Rattle.jet_volume.specs.Crash.{CrashLeaves}
use Rattle.store_core.specs.Stands.{Checkpoint, Stands}
use Rattle.store_core.specs.Store.{store_volume, store_end, store_standing, checkpoint_of, checkpoint_found}
use Rattle.tests_store.proofs.lent.write_to.Goals as goal

-- what is given back is the volume of the store
given_back : {V : Type 0} (moment : V → ℕ) (left_at : V → ℕ → Files → Type 0) (P : Files → Type 0) (held back : V) → back ≡ held → CrashLeaves moment left_at held P → CrashLeaves moment left_at back P
given_back {V} moment left_at P held back is leaves = subst (λ (v : V). CrashLeaves moment left_at v P) (sym is) leaves

pub returns-in-Ok-seal-clause-written : goal.returns-in-Ok-seal-clause-written
returns-in-Ok-seal-clause-written g c tells settled =
    let before = checkpoint_found c.in-Ok._found (store_standing c.in-Ok.store) in
    let stream = c.in-Ok._bytes.items in
    let next : Checkpoint = checkpoint_of ((store_standing c.seal.new.self).number + 1) (store_end c.seal.new.self) c.args.image.now in
    let store = c.checkpoint-result.new.self in
    let sealed = c.in-Ok-seal.ensures.sealed tells before stream (c.in-Ok.ensures.opened tells settled) in
    on_ok_weaker c.checkpoint-result.result
    (λ writable.
    let stands = c.opened_stores_stand.ensures.stands store (Some next) [] (c.opened_stores_stand.ensures.opened store (Some next) [] writable) in
    (next, refl, given_back g.V.Volume.moment g.V.Volume.left_at (Stands (Some next) []) (store_volume store) c.into_volume.result c.into_volume.ensures stands))
    (c.checkpoint-result.ensures.written tells before stream sealed)
