use Rattle.std.proofs.Common.{refl, sym, ◌∙◌}
use Rattle.kept_engine.specs.Spans.{span_of}
use Rattle.kept_engine.proofs.Clashes.{goes_fault, memory_fault}
use Rattle.kept_engine.proofs.OpenedEngines.{at_opening, begins_leaves, begins_over, fault_counted, fresh_of, logged_of, next_of, same_object, sound_counted}
use Rattle.kept_engine.proofs.kept.KeptEngine.begun.Goals as goal

pub new-engine-requires : goal.new-engine-requires
new-engine-requires g c = c.requires.sessions

pub new-kept-requires : goal.new-kept-requires
new-kept-requires g c = record { deep = c.requires.deep }

pub begin-requires : goal.begin-requires
begin-requires g c =
    fresh_of c.new-kept.result c.new-engine.result c.args.recovered.engine c.args.recovered.store c.new-kept.ensures.logged c.new-engine.ensures.engine c.new-engine.ensures.stream c.new-kept.ensures.store c.new-kept.ensures.given
    c.requires.holds c.requires.room c.requires.bounds

-- ---- once its image is written

pub returns-in-Goes-clause-begun : goal.returns-in-Goes-clause-begun
returns-in-Goes-clause-begun g c =
    let told = c.begin.ensures.told in
    at_opening c.args.recovered.engine.limit c.args.depth c.begin.new.self c.new-engine.result c.args.recovered.engine (span_of c.args.recovered.store) (c.begin.ensures.engine ∙ c.new-kept.ensures.logged)
    c.new-engine.ensures.engine c.new-engine.ensures.stream refl c.requires.sessions (told.depth ∙ c.new-kept.ensures.depth) (told.given c.in-Goes.is)
    (told.span c.in-Goes.is ∙ next_of c.new-kept.result c.args.recovered.store c.new-kept.ensures.store)

pub returns-in-Goes-clause-ready : goal.returns-in-Goes-clause-ready
returns-in-Goes-clause-ready g c = c.begin.ensures.ready c.in-Goes.is

pub returns-in-Goes-clause-engine : goal.returns-in-Goes-clause-engine
returns-in-Goes-clause-engine g c = logged_of (c.begin.ensures.engine ∙ c.new-kept.ensures.logged) c.new-engine.ensures.engine

pub returns-in-Goes-clause-span : goal.returns-in-Goes-clause-span
returns-in-Goes-clause-span g c = c.begin.ensures.told.span c.in-Goes.is ∙ next_of c.new-kept.result c.args.recovered.store c.new-kept.ensures.store

pub returns-in-Goes-clause-keeps : goal.returns-in-Goes-clause-keeps
returns-in-Goes-clause-keeps g c tells opening stood =
    (begins_over g.V.Volume.seen g.V.Volume.moment g.V.Volume.left_at c.args.recovered c.new-kept.result c.begin.new.self c.begin.result opening (logged_of c.new-kept.ensures.logged c.new-engine.ensures.engine)
    c.new-kept.ensures.store (c.begin.ensures.begins tells) stood).goes c.in-Goes.is

pub returns-in-Goes-clause-any_moment : goal.returns-in-Goes-clause-any_moment
returns-in-Goes-clause-any_moment g c tells opening stood =
    begins_leaves g.V.Volume.seen g.V.Volume.moment g.V.Volume.left_at c.args.recovered c.new-kept.result c.begin.new.self c.begin.result _ opening (logged_of c.new-kept.ensures.logged c.new-engine.ensures.engine)
    c.new-kept.ensures.store (c.begin.ensures.begins tells) refl stood

pub returns-in-Goes-clause-faults : goal.returns-in-Goes-clause-faults
returns-in-Goes-clause-faults g c =
    sound_counted g.V.Volume.faults g.V.Volume.identity c.args.recovered.store c.new-kept.result c.begin.new.self c.begin.result _ c.new-kept.ensures.store c.begin.ensures.told.counts refl
    (λ fault. goes_fault (sym c.in-Goes.is ∙ fault))

pub returns-in-Goes-clause-identity : goal.returns-in-Goes-clause-identity
returns-in-Goes-clause-identity g c =
    same_object g.V.Volume.faults g.V.Volume.identity c.args.recovered.store c.new-kept.result c.begin.new.self c.begin.result _ c.new-kept.ensures.store c.begin.ensures.told.counts refl

-- ---- where the volume met a fault

pub returns-in-Fault-clause-any_moment : goal.returns-in-Fault-clause-any_moment
returns-in-Fault-clause-any_moment g c tells opening stood =
    begins_leaves g.V.Volume.seen g.V.Volume.moment g.V.Volume.left_at c.args.recovered c.new-kept.result c.begin.new.self c.begin.result _ opening (logged_of c.new-kept.ensures.logged c.new-engine.ensures.engine)
    c.new-kept.ensures.store (c.begin.ensures.begins tells) c.into_volume.ensures stood

pub returns-in-Fault-clause-faults : goal.returns-in-Fault-clause-faults
returns-in-Fault-clause-faults g c =
    fault_counted g.V.Volume.faults g.V.Volume.identity c.args.recovered.store c.new-kept.result c.begin.new.self c.begin.result _ c.new-kept.ensures.store c.begin.ensures.told.counts c.into_volume.ensures c.in-Fault.is

pub returns-in-Fault-clause-identity : goal.returns-in-Fault-clause-identity
returns-in-Fault-clause-identity g c =
    same_object g.V.Volume.faults g.V.Volume.identity c.args.recovered.store c.new-kept.result c.begin.new.self c.begin.result _ c.new-kept.ensures.store c.begin.ensures.told.counts c.into_volume.ensures

-- ---- where there was no memory for the image

pub returns-in-Memory-clause-any_moment : goal.returns-in-Memory-clause-any_moment
returns-in-Memory-clause-any_moment g c tells opening stood =
    begins_leaves g.V.Volume.seen g.V.Volume.moment g.V.Volume.left_at c.args.recovered c.new-kept.result c.begin.new.self c.begin.result _ opening (logged_of c.new-kept.ensures.logged c.new-engine.ensures.engine)
    c.new-kept.ensures.store (c.begin.ensures.begins tells) c.into_volume-in-Memory.ensures stood

pub returns-in-Memory-clause-faults : goal.returns-in-Memory-clause-faults
returns-in-Memory-clause-faults g c =
    sound_counted g.V.Volume.faults g.V.Volume.identity c.args.recovered.store c.new-kept.result c.begin.new.self c.begin.result _ c.new-kept.ensures.store c.begin.ensures.told.counts c.into_volume-in-Memory.ensures
    (λ fault. memory_fault (sym c.in-Memory.is ∙ fault))

pub returns-in-Memory-clause-identity : goal.returns-in-Memory-clause-identity
returns-in-Memory-clause-identity g c =
    same_object g.V.Volume.faults g.V.Volume.identity c.args.recovered.store c.new-kept.result c.begin.new.self c.begin.result _ c.new-kept.ensures.store c.begin.ensures.told.counts c.into_volume-in-Memory.ensures
