use Rattle.std.proofs.Common.{sym, ◌∙◌}
use Rattle.image_live.proofs.Spelled.{by_order, not_sound, placed_of}
use Rattle.image_live.proofs.tables.ImageTables.is_sound_live.Goals as goal

pub has_sound_parts-requires : goal.has_sound_parts-requires
has_sound_parts-requires c = c.requires.checked

pub are_in_order-requires-clause-tables : goal.are_in_order-requires-clause-tables
are_in_order-requires-clause-tables c = (c.requires.checked.tables, c.requires.checked.are_tables)

pub are_in_order-requires-clause-placed : goal.are_in_order-requires-clause-placed
are_in_order-requires-clause-placed c =
    placed_of c.args.self.now c.args.part.now c.requires.checked.tables c.requires.checked.are_tables c.requires.spelled (λ tables live are of. sym c.in-Ok-true.field-0-test ∙ c.in-Ok-true.ensures tables live are of)

pub returns-in-Ok-true : goal.returns-in-Ok-true
returns-in-Ok-true c = by_order c.args.self.now c.args.part.now c.are_in_order.result (λ tables live are of. sym c.in-Ok-true.field-0-test ∙ c.in-Ok-true.ensures tables live are of) c.are_in_order.ensures

pub returns-in-Ok-false : goal.returns-in-Ok-false
returns-in-Ok-false c = not_sound c.args.self.now c.args.part.now (λ tables live are of. sym c.in-Ok-false.field-0-test ∙ c.in-Ok-false.ensures tables live are of)
