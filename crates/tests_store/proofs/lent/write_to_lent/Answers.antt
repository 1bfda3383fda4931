use Rattle.std.proofs.Common.{◌≡◌, [], Some, sym, subst}
use Rattle.std.proofs.lemmas.Result.{on_ok_weaker}
use Rattle.jet_volume.specs.declared.memory.MemVolume.{MemVolume}
use Rattle.jet_volume.specs.Crash.{CrashLeaves}
use Rattle.jet_volume.specs.Memory.{mem_moment, mem_left_at}
use Rattle.store_core.specs.Stands.{Checkpoint, Stands}
use Rattle.tests_store.proofs.lent.write_to_lent.Goals as goal

-- what the lender has again is what came back, since that is the borrow that was handed over
pub returns : goal.returns
returns c settled =
    on_ok_weaker c.write_to-back.result.1
    (λ (w : (next : Checkpoint) × (next.pages ≡ c.args.image.now.pages.items) × CrashLeaves mem_moment mem_left_at c.write_to-back.result.0.now (Stands (Some next) [])). (
      w.0,
      w.1,
      subst (λ (v : MemVolume). CrashLeaves mem_moment mem_left_at v (Stands (Some w.0) [])) (sym (c.volume-1.given.1 (sym c.write_to-back.ensures.identity))) w.2,
    ))
    (c.write_to-back.ensures.written tt settled)
