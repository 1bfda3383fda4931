use Rattle.std.proofs.Common.{◌≡◌, ◌∷◌, reverse, OnOk, subst, ap, ⊎_elim, refl}
use Rattle.std.proofs.lemmas.Result.{on_ok_weaker}
use Rattle.jet_volume.specs.declared.record.Change.TheVariants.{Synced}
use Rattle.jet_volume.specs.declared.memory.MemVolume.{MemVolume}
use Rattle.jet_volume.proofs.Calls.{sync_holds, sync_follows, leaves_same}
use Rattle.jet_volume.proofs.Outcomes.{one_of}
use Rattle.jet_volume.proofs.memory.MemVolumeVolume.sync.Goals as goal

pub returns-clause-durable : goal.returns-clause-durable
returns-clause-durable c =
    let new : MemVolume = record { contents = c.args.self.now.contents; calls = c.note-outcome.new.calls; schedule = c.next_fails.new.self; faults = c.counted.new.faults; short = c.counted.new.short } in
    on_ok_weaker c.counted.result
    (λ is. sync_holds c.args.self.now new c.args.file
    (subst (λ r. OnOk r (reverse c.note-outcome.new.calls.items ≡ record { file = c.args.file; change = Synced } ∷ reverse c.args.self.now.calls.items)) is c.note-outcome.ensures.ok) refl)
    c.counted.ensures.ok

pub returns-clause-crash : goal.returns-clause-crash
returns-clause-crash c =
    let new : MemVolume = record { contents = c.args.self.now.contents; calls = c.note-outcome.new.calls; schedule = c.next_fails.new.self; faults = c.counted.new.faults; short = c.counted.new.short } in
    ⊎_elim (λ noted. sync_follows c.args.self.now new c.args.file noted refl) (λ same. leaves_same c.args.self.now new (ap reverse same) refl)
    (one_of _ _ c.note-outcome.result c.note-outcome.ensures.ok c.note-outcome.ensures.err)
