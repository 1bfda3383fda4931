use Rattle.std.proofs.Common.{List, reverse, subst}
use Rattle.jet_volume.specs.declared.record.Call.{Call}
use Rattle.jet_volume.specs.Record.{MayLeave}
use Rattle.jet_volume.specs.RecordLaws.{left_now}
use Rattle.jet_volume.proofs.Calls.{settled_anew}
use Rattle.jet_volume.proofs.memory.MemVolume.crash.Goals as goal

pub returns-clause-image : goal.returns-clause-image
returns-clause-image c =
    left_now c.args.self.contents (reverse c.args.self.calls.items) c.in_ok-contents.contents
    (subst (λ (calls : List Call). MayLeave c.args.self.contents (reverse calls) c.in_ok-contents.contents) c.deref.ensures.value c.in_ok-contents.ensures.may)

pub returns-clause-settled : goal.returns-clause-settled
returns-clause-settled c =
    settled_anew (record { contents = c.in_ok-contents.contents; calls = c.new.result; schedule = c.new-2.result; faults = c.new-3.result; short = c.new-4.result }) c.new.ensures.items
