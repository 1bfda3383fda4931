use Rattle.std.proofs.Common.{◌≡◌, ◌-◌, List, Some, None, length, refl, sym, ap, ◌∙◌, arith, slice_get, true, false}
use Rattle.std.specs.Option.{option_copied}
use Rattle.std.proofs.lemmas.Option.{slice_get_past, slice_get_read}
use Rattle.temp_table.specs.declared.columns.TempColumn.{TempColumn}
use Rattle.session_local.proofs.GivenRows.{read-column, read-none, read-off, read-value}
use Rattle.session_local.proofs.reading_rows.value_at.Goals as goal

pub returns-then-not-is_on-clause-answer : goal.returns-then-not-is_on-clause-answer
returns-then-not-is_on-clause-answer c = sym (read-off c.args.table.now c.args.column (sym c.is_on.ensures ∙ c.if-not-is_on.true))

pub returns-then-column-eq0-clause-answer : goal.returns-then-column-eq0-clause-answer
returns-then-column-eq0-clause-answer c = sym (read-none c.args.table.now c.args.column (sym c.is_on.ensures ∙ c.if-not-is_on.false) c.if-column-eq0.true)

pub get-requires : goal.get-requires
get-requires c κs = (refl, tt)

pub read-requires-clause-there : goal.read-requires-clause-there
read-requires-clause-there c = omega (arith, c.in-Some.ensures.lookup.3.0, ap (λ (cs : List TempColumn). length cs) c.columns.ensures.value)

pub shown-requires : goal.shown-requires
shown-requires c =
    let table = c.args.table.now in
    let at = c.from-at.result - 1 in
    let found = c.in-Some.found.now in
    let there : slice_get c.columns.result.now at ≡ Some found = slice_get_read c.columns.result.now (length c.columns.result.now) at found refl c.in-Some.ensures.lookup.3.0 c.in-Some.ensures.lookup.1 in
    let its : slice_get table.columns at ≡ Some found = ap (λ (cs : List TempColumn). slice_get cs at) (sym c.columns.ensures.value) ∙ there in
    c.read.ensures.fits found c.in-Some-read.value.now its (ap option_copied c.in-Some-read.is)

pub returns-in-Some-read-clause-answer : goal.returns-in-Some-read-clause-answer
returns-in-Some-read-clause-answer c =
    let table = c.args.table.now in
    let at = c.from-at.result - 1 in
    let found = c.in-Some.found.now in
    let there : slice_get c.columns.result.now at ≡ Some found = slice_get_read c.columns.result.now (length c.columns.result.now) at found refl c.in-Some.ensures.lookup.3.0 c.in-Some.ensures.lookup.1 in
    let its : slice_get table.columns at ≡ Some found = ap (λ (cs : List TempColumn). slice_get cs at) (sym c.columns.ensures.value) ∙ there in
    c.shown.ensures.answer
    ∙ sym (read-value table c.args.column at found (Some c.in-Some-read.value.now) (sym c.is_on.ensures ∙ c.if-not-is_on.false) c.if-column-eq0.false (ap (λ n. n - 1) (sym c.from-at.ensures)) its (sym (ap option_copied c.in-Some-read.is) ∙ c.read.ensures.value))

pub returns-in-None-read-clause-answer : goal.returns-in-None-read-clause-answer
returns-in-None-read-clause-answer c =
    let table = c.args.table.now in
    let at = c.from-at.result - 1 in
    let found = c.in-Some.found.now in
    let there : slice_get c.columns.result.now at ≡ Some found = slice_get_read c.columns.result.now (length c.columns.result.now) at found refl c.in-Some.ensures.lookup.3.0 c.in-Some.ensures.lookup.1 in
    let its : slice_get table.columns at ≡ Some found = ap (λ (cs : List TempColumn). slice_get cs at) (sym c.columns.ensures.value) ∙ there in
    sym (read-value table c.args.column at found None (sym c.is_on.ensures ∙ c.if-not-is_on.false) c.if-column-eq0.false (ap (λ n. n - 1) (sym c.from-at.ensures)) its (sym (ap option_copied c.in-None-read.is) ∙ c.read.ensures.value))

pub returns-in-None-clause-answer : goal.returns-in-None-clause-answer
returns-in-None-clause-answer c =
    let at = c.from-at.result - 1 in
    let none : slice_get c.columns.result.now at ≡ None = slice_get_past c.columns.result.now at c.in-None.ensures.lookup.3 in
    sym (read-column c.args.table.now c.args.column at None (sym c.is_on.ensures ∙ c.if-not-is_on.false) c.if-column-eq0.false (ap (λ n. n - 1) (sym c.from-at.ensures)) (ap (λ (cs : List TempColumn). slice_get cs at) (sym c.columns.ensures.value) ∙ none))
