use Rattle.std.proofs.Common.{subst}
use Rattle.std.specs.Prelude.{IfSome, IsTrue}
use Rattle.column_set.specs.Record.{is_record}
use Rattle.database_state.specs.Table.{record_in}
use Rattle.version_cleanup.specs.Cleaning.{reader_in}
use Rattle.laws_engine.specs.HeldRecords.{seen_record}
use Rattle.stored_variants.specs.StoredVersions.{StoredVersions}
use Rattle.record_decisions.proofs.laws.records_are_formed.Goals as goal

pub returns : goal.returns
returns c session table bookmark =
    let reader = reader_in session c.args.engine.now.sessions in
    subst (λ (v : StoredVersions). IfSome (seen_record table bookmark reader (record_in v.store.tables table bookmark) v.store.held) (λ fields. IsTrue (is_record fields))) c.tables.ensures
    (c.seen_records_are_formed.ensures reader table bookmark)
