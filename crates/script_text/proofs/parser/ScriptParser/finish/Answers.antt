use Rattle.std.proofs.Common.{sym, ap, ◌∙◌}
use Rattle.script_text.specs.Parser.{LinesRead}
use Rattle.script_text.proofs.Scripts.{result_with-all, result_with-bad}
use Rattle.script_text.proofs.parser.ScriptParser.finish.Goals as goal

pub returns-in-Some-clause-bad_line : goal.returns-in-Some-clause-bad_line
returns-in-Some-clause-bad_line c = λ line is.
    result_with-bad c.args.self c.feed.new.self c.args.rest.now c.in-Some.line line c.in_ok-feed.ensures.read
    (ap (λ (read : LinesRead). read.bad_line) (sym c.parser.view_is) ∙ c.in-Some.is) cc

pub returns-in_ok-into_calls-in-None-clause-read : goal.returns-in_ok-into_calls-in-None-clause-read
returns-in_ok-into_calls-in-None-clause-read c =
    let calls = c.in_ok-into_calls-in-None in
    result_with-all c.args.self c.feed.new.self c.args.rest.now calls.field-0 c.in_ok-feed.ensures.read
    (ap (λ (read : LinesRead). read.bad_line) (sym c.parser.view_is) ∙ c.in-None.is)
    (calls.ensures ∙ ap (λ (read : LinesRead). read.calls) c.parser.view_is)
