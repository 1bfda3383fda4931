use Rattle.std.proofs.Common.{refl, sym, ◌∙◌}
use Rattle.engine_image.proofs.LiveChecks.{can_check, live_told, spelled, unformed}
use Rattle.engine_image.proofs.parts.ImageParts.check_live.Goals as goal

pub returns-then-not-self : goal.returns-then-not-self
returns-then-not-self c image is = unformed image c.args.self.now.live.now is.live c.if-not-self.true

pub is_sound_live-requires-clause-checked : goal.is_sound_live-requires-clause-checked
is_sound_live-requires-clause-checked c =
    can_check c.rows_before_changes_without_missing_values_are_whole.ensures c.tables_without_broken_or_missing_values_have_readable_rows.ensures.finding c.tables_of_a_sound_catalog_have_legal_rules.ensures c.requires.image c.args.self.now _ c.requires.are_parts
    (c.requires.ready c.requires.image c.requires.are_parts) refl refl refl c.if-not-self.false

pub is_sound_live-requires-clause-spelled : goal.is_sound_live-requires-clause-spelled
is_sound_live-requires-clause-spelled c = spelled c.requires.image c.args.self.now.live.now c.requires.are_parts.live c.if-not-self.false

pub returns-in-Ok-true : goal.returns-in-Ok-true
returns-in-Ok-true c image is =
    live_told c.tables_without_broken_or_missing_values_have_readable_rows.ensures.finding c.tables_of_a_sound_catalog_have_legal_rules.ensures image c.args.self.now _ _ is (c.requires.ready image is) refl refl refl refl c.if-not-self.false
    (λ shown live are loaded. sym c.in-Ok-true.field-0-test ∙ c.in-Ok-true.ensures shown live are loaded)

pub returns-in-Ok-false : goal.returns-in-Ok-false
returns-in-Ok-false c image is =
    live_told c.tables_without_broken_or_missing_values_have_readable_rows.ensures.finding c.tables_of_a_sound_catalog_have_legal_rules.ensures image c.args.self.now _ _ is (c.requires.ready image is) refl refl refl refl c.if-not-self.false
    (λ shown live are loaded. sym c.in-Ok-false.field-0-test ∙ c.in-Ok-false.ensures shown live are loaded)

pub returns-in-Err : goal.returns-in-Err
returns-in-Err c image is = tt
