use Rattle.std.proofs.Common.{◌≡◌, ℕ, sym, ap, subst}
use Rattle.std.specs.Prelude.{Result, OnOk}
use Rattle.column_set.specs.declared.changes.Change.{Change}
use Rattle.version_store.specs.declared.calls.By.{By}
use Rattle.laws_engine.specs.VersionedTables.{with_change}
use Rattle.stored_variants.specs.StoredVersions.{StoredVersions}
use Rattle.laws_engine.specs.EngineSteps.{newest_with}
use Rattle.engine_core.specs.Changing.{changed}
use Rattle.engine_core.proofs.change_steps.try_change.Goals as goal

-- the number of the newest put, by what the change is
with_number : {X E : Type 0} (result : Result X E) (by : By) (made is : Change) (old new : StoredVersions) → made ≡ is → OnOk result (new ≡ record old { newest_put = newest_with by.number is old.newest_put; store = with_change by made old.store }) → OnOk result (new ≡ changed by made old)
with_number result by made is old new same done =
    subst (λ (n : ℕ). OnOk result (new ≡ record old { newest_put = n; store = with_change by made old.store })) (ap (λ (other : Change). newest_with by.number other old.newest_put) (sym same)) done

pub returns-in-Put-clause-ok : goal.returns-in-Put-clause-ok
returns-in-Put-clause-ok c = with_number c.put.result c.args.by c.args.made.now _ c.args.tables.now c.put.new.self c.in-Put.is c.put.ensures.ok

pub returns-in-Drop-clause-ok : goal.returns-in-Drop-clause-ok
returns-in-Drop-clause-ok c = with_number c.drop_record.result c.args.by c.args.made.now _ c.args.tables.now c.drop_record.new.self c.in-Drop.is c.drop_record.ensures.ok

pub returns-in-Hold-clause-ok : goal.returns-in-Hold-clause-ok
returns-in-Hold-clause-ok c = with_number c.hold.result c.args.by c.args.made.now _ c.args.tables.now c.hold.new.self c.in-Hold.is c.hold.ensures.ok

pub returns-in-Add-clause-ok : goal.returns-in-Add-clause-ok
returns-in-Add-clause-ok c = with_number c.add.result c.args.by c.args.made.now _ c.args.tables.now c.add.new.self c.in-Add.is c.add.ensures.ok
