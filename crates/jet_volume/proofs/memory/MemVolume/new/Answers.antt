use Rattle.jet_volume.proofs.Calls.{settled_anew}
use Rattle.jet_volume.proofs.memory.MemVolume.new.Goals as goal

pub returns-clause-settled : goal.returns-clause-settled
returns-clause-settled c =
    settled_anew (record { contents = c.new.result; calls = c.new-2.result; schedule = c.new-3.result; faults = c.new-4.result; short = c.new-5.result }) c.new-2.ensures.items
