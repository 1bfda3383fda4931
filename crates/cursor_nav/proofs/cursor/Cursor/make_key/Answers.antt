use Rattle.std.proofs.Common.{ap, ◌∙◌}
use Rattle.cursor_nav.specs.MakingKeys.{key_made, key_made_in, has_short_keys}
use Rattle.cursor_nav.specs.Navigation.{answer_of}
use Rattle.cursor_nav.proofs.Cutting.{short_keys}
use Rattle.cursor_nav.proofs.cursor.Cursor.make_key.Goals as goal

pub make_segment-requires : goal.make_segment-requires
make_segment-requires c = short_keys c.in-Some.rule.now (ap has_short_keys c.in-Some.ensures ∙ c.requires)

pub returns-in-Some-clause-answer : goal.returns-in-Some-clause-answer
unfolding key_made
returns-in-Some-clause-answer c =
    c.make_segment.ensures.answer ∙ ap (λ rule. answer_of (key_made_in c.args.self.now c.args.schema.now.columns c.args.fresh c.args.value.now rule).jet 0) c.in-Some.ensures

pub returns-in-Some-clause-cursor : goal.returns-in-Some-clause-cursor
unfolding key_made
returns-in-Some-clause-cursor c =
    c.make_segment.ensures.cursor ∙ ap (λ rule. (key_made_in c.args.self.now c.args.schema.now.columns c.args.fresh c.args.value.now rule).cursor) c.in-Some.ensures
