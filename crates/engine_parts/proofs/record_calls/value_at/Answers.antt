use Rattle.std.proofs.Common.{◌≡◌, ℕ, List, true, false, Some, Option, slice_get, sym, ap, ◌∙◌}
use Rattle.std.proofs.lemmas.Option.{slice_get_past}
use Rattle.jet_base.specs.ColumnType.{is_number_type}
use Rattle.column_set.specs.RecordValues.{values_of}
use Rattle.session_local.specs.RecordCalls.{value_shown}
use Rattle.engine_parts.proofs.Retrieving.{bytes_shown, has_room, number_fits, number_read}
use Rattle.engine_parts.proofs.record_calls.value_at.Goals as goal

pub number_shown-requires-clause-number : goal.number_shown-requires-clause-number
number_shown-requires-clause-number c = sym c.is_number_type.ensures ∙ c.if-is_number_type.true

pub number_shown-requires-clause-fits : goal.number_shown-requires-clause-fits
number_shown-requires-clause-fits c =
    let column = c.args.column.now in
    let number : is_number_type column.kind ≡ true = sym c.is_number_type.ensures ∙ c.if-is_number_type.true in
    number_fits column.kind (values_of c.args.row.now column.id.0) c.args.at c.in-Some.value.now number c.requires c.in-Some.ensures.found

pub returns-in-Some-clause-answer : goal.returns-in-Some-clause-answer
returns-in-Some-clause-answer c asked most =
    let column = c.args.column.now in
    let number : is_number_type column.kind ≡ true = sym c.is_number_type.ensures ∙ c.if-is_number_type.true in
    let found : slice_get (values_of c.args.row.now column.id.0) c.args.at ≡ Some c.in-Some.value.now =
    number_read column.kind (values_of c.args.row.now column.id.0) c.args.at c.in-Some.value.now number c.requires c.in-Some.ensures.found in
    ap (λ (o : Option (List ℕ)). (value_shown asked column most o).answered) found
    ∙ c.number_shown.ensures.answer asked most

pub returns-in-None-clause-answer : goal.returns-in-None-clause-answer
returns-in-None-clause-answer c asked most =
    let column = c.args.column.now in
    ap (λ (o : Option (List ℕ)). (value_shown asked column most o).answered) (slice_get_past (values_of c.args.row.now column.id.0) c.args.at c.in-None.ensures.found)

pub returns-else-is_number_type-clause-answer : goal.returns-else-is_number_type-clause-answer
returns-else-is_number_type-clause-answer c asked most =
    let column = c.args.column.now in
    let plain : is_number_type column.kind ≡ false = sym c.is_number_type.ensures ∙ c.if-is_number_type.false in
    bytes_shown asked column most (slice_get (values_of c.args.row.now column.id.0) c.args.at) plain

pub returns-else-is_number_type-clause-room : goal.returns-else-is_number_type-clause-room
returns-else-is_number_type-clause-room c = has_room c.args.column.now.kind (values_of c.args.row.now c.args.column.now.id.0) c.args.at c.requires.fit
