-- Before the first of a greater number.
use Rattle.std.proofs.Common.{rules, tests, ◌≡◌, ℕ, ◌<◌, true, false, length, get_or}
use Rattle.std.specs.Prelude.{nat_lt}
use Rattle.version_cleanup.proofs.OpenTables.{with_one-read, with_one-unread}
use Rattle.version_cleanup.proofs.live.place_of.Goals as goal

pub returns-in-Some-clause-place : goal.returns-in-Some-clause-place
returns-in-Some-clause-place c =
    let tables = c.args.tables.now in
    let table = c.args.table in
    let place = c.in-Some.place in
    let within : place < length tables = search rules in
    let here : nat_lt table.0 (get_or tables place table).0 ≡ true = search (rules, tests) in
    let before : (k : ℕ) → k < place → nat_lt table.0 (get_or tables k table).0 ≡ false = λ k lt. search (rules, tests) in
    with_one-read tables table place table within here before

pub returns-in-None-clause-place : goal.returns-in-None-clause-place
returns-in-None-clause-place c =
    let tables = c.args.tables.now in
    let table = c.args.table in
    let each : (k : ℕ) → k < length tables → nat_lt table.0 (get_or tables k table).0 ≡ false = λ k lt. search (rules, tests) in
    with_one-unread tables table table each
