-- Before the first of a greater label.
use Rattle.std.proofs.Common.{rules, tests, ◌≡◌, ℕ, ◌<◌, true, false, length, get_or}
use Rattle.std.specs.Prelude.{nat_lt}
use Rattle.version_cleanup.proofs.Places.{insert-read, insert-unread}
use Rattle.version_cleanup.proofs.sessions.place_for.Goals as goal

pub returns-in-Some-clause-place : goal.returns-in-Some-clause-place
returns-in-Some-clause-place c live same =
    let sessions = c.args.lives.now in
    let place = c.in-Some.place in
    let within : place < length sessions = search rules in
    let here : nat_lt c.args.session.0 (get_or sessions place live).label ≡ true = search (rules, tests) in
    let before : (k : ℕ) → k < place → nat_lt c.args.session.0 (get_or sessions k live).label ≡ false = λ k lt. search (rules, tests) in
    insert-read live c.args.session.0 sessions place live same within here before

pub returns-in-None-clause-place : goal.returns-in-None-clause-place
returns-in-None-clause-place c live same =
    let sessions = c.args.lives.now in
    let each : (k : ℕ) → k < length sessions → nat_lt c.args.session.0 (get_or sessions k live).label ≡ false = λ k lt. search (rules, tests) in
    insert-unread live c.args.session.0 sessions live same each
