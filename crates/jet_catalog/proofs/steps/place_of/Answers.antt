use Rattle.std.proofs.Common.{rules, tests, ◌≡◌, ℕ, ◌<◌, true, false, length, get_or}
use Rattle.std.specs.Prelude.{nat_le}
use Rattle.jet_catalog.proofs.ColumnPlaces.{placed_first, placed_behind}
use Rattle.jet_catalog.proofs.steps.place_of.Goals as goal

pub returns-in-Some-clause-place : goal.returns-in-Some-clause-place
returns-in-Some-clause-place c =
    let columns = c.args.columns.now in
    let new = c.args.new.now in
    let last = c.in-Some.last in
    let within : last < length columns = search rules in
    let here : nat_le (get_or columns last new).id.0 new.id.0 ≡ true = search (rules, tests) in
    let after : (k : ℕ) → last < k → k < length columns → nat_le (get_or columns k new).id.0 new.id.0 ≡ false = λ k more lt. search (rules, tests) in
    placed_behind new columns last new within here after

pub returns-in-None-clause-place : goal.returns-in-None-clause-place
returns-in-None-clause-place c =
    let columns = c.args.columns.now in
    let new = c.args.new.now in
    let each : (k : ℕ) → k < length columns → nat_le (get_or columns k new).id.0 new.id.0 ≡ false = λ k lt. search (rules, tests) in
    placed_first new columns new each
