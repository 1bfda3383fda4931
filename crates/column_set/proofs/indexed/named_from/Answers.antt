use Rattle.std.proofs.Common.{◌≡◌, ◌+◌, ◌-◌, ◌<◌, ◌≤◌, ℕ, length, Some, refl, sym, arith}
use Rattle.std.specs.Prelude.{bytes_eq, slice_get, slice_index}
use Rattle.std.proofs.lemmas.Option.{slice_get_past, slice_get_read}
use Rattle.column_set.specs.declared.columns.Column.{Column}
use Rattle.column_set.proofs.Indexing.{find_nowhere, find_there, walk_goes_on}
use Rattle.column_set.proofs.indexed.named_from.Goals as goal

pub returns-then-eq : goal.returns-then-eq
returns-then-eq c =
    let columns = c.args.columns.now in
    let column = c.in-Some.column.now in
    let there : slice_get columns c.loop-column.place ≡ Some column = slice_get_read columns (length columns) c.loop-column.place column refl c.in-Some.ensures.lookup.3.0 c.in-Some.ensures.lookup.1 in
    sym (find_there (λ (x : Column). bytes_eq x.name c.args.name.now) columns c.loop-column.place column there (sym c.if-eq.ensures) c.loop-column.invariant.passed)

pub loop-column-preserved : goal.loop-column-preserved
loop-column-preserved c =
    let columns = c.args.columns.now in
    let column = c.in-Some.column.now in
    let there : slice_get columns c.loop-column.place ≡ Some column = slice_get_read columns (length columns) c.loop-column.place column refl c.in-Some.ensures.lookup.3.0 c.in-Some.ensures.lookup.1 in
    walk_goes_on columns c.args.name.now c.loop-column.place (slice_index c.args.nexts.now c.loop-column.place) column c.loop-column.invariant there (sym c.if-eq.ensures) (c.requires.links c.loop-column.place column there)

pub loop-column-smaller : goal.loop-column-smaller
loop-column-smaller c =
    let columns = c.args.columns.now in
    let column = c.in-Some.column.now in
    let within : c.loop-column.place < length columns = c.in-Some.ensures.lookup.3.0 in
    let there : slice_get columns c.loop-column.place ≡ Some column = slice_get_read columns (length columns) c.loop-column.place column refl within c.in-Some.ensures.lookup.1 in
    let behind : c.loop-column.place + 1 ≤ slice_index c.args.nexts.now c.loop-column.place = (c.requires.links c.loop-column.place column there).behind in
    let smaller : length columns - slice_index c.args.nexts.now c.loop-column.place < length columns - c.loop-column.place = omega (arith, within, behind) in
    smaller

pub returns : goal.returns
returns c =
    let columns = c.args.columns.now in
    sym (find_nowhere (λ (x : Column). bytes_eq x.name c.args.name.now) columns c.loop-column.place (slice_get_past columns c.loop-column.place c.in_default.ensures.lookup.3) c.loop-column.invariant.passed)
