use Rattle.kept_engine.proofs.serving.KeptEngineRunEngine.flush.Goals as goal

pub returns-clause-told : goal.returns-clause-told
returns-clause-told g c = let told = c.keep.ensures.told in record { kept = told.goes; failed = told.failed; no_room = told.no_room }
