use Rattle.std.proofs.Common.{sym, subst}
use Rattle.std.specs.Prelude.{IfOk}
use Rattle.index_derive.specs.declared.log.Entry.{Entry}
use Rattle.database_state.specs.Lawful.{is_lawful}
use Rattle.database_state.specs.State.{DatabaseState}
use Rattle.soft_recovery.specs.LawfulEntries.{IsTold}
use Rattle.soft_recovery.proofs.Making.{built_of, one_of}
use Rattle.soft_recovery.proofs.replaying.is_lawful.Goals as goal

pub lawful-requires-clause-held : goal.lawful-requires-clause-held
lawful-requires-clause-held c = record { state = c.requires.may.state; holds = c.requires.may.holds }

pub lawful-requires-clause-names : goal.lawful-requires-clause-names
lawful-requires-clause-names c = c.sound_catalogs_have_own_names.ensures c.args.engine.now c.requires.may.state c.requires.may.holds c.requires.may.sound.catalog

pub lawful-requires-clause-built : goal.lawful-requires-clause-built
lawful-requires-clause-built c = built_of c.spelled_entries_make_what_is_built.ensures.built c.args.step.now c.in-One.made c.requires.spelled (one_of c.args.step.now c.in-One.made c.in-One.is)

pub returns : goal.returns
returns c =
    subst (λ (made : Entry). IfOk c.lawful.result (IsTold c.args.engine.now (λ (state : DatabaseState). is_lawful state made)))
    (sym (one_of c.args.step.now c.in-One.made c.in-One.is)) c.lawful.ensures
