use Rattle.std.proofs.Common.{ℕ, ◌+◌, ◌++◌, ◌∷◌, None, Option, List, length, sym, ap, ◌∙◌, arith}
use Rattle.std.specs.Prelude.{is_some}
use Rattle.script_words.specs.Words.{lines_of}
use Rattle.script_text.specs.Grammar.{line_request}
use Rattle.script_text.specs.Kept.{calls_with_line}
use Rattle.script_text.specs.Parser.{LinesRead, result_with_lines}
use Rattle.script_text.proofs.Scripts.{length-lines_of, no_bad_line, no_reading, result_with_lines-bad, result_with_lines-begun, result_with_lines-call, result_with_lines-ended, result_with_lines-skipped}
use Rattle.script_text.proofs.WholeLines.{lines_of-append}
use Rattle.script_text.proofs.parser.ScriptParser.feed.Goals as goal

pub returns-then-is_some-clause-read : goal.returns-then-is_some-clause-read
returns-then-is_some-clause-read c = λ rest.
    let read = c.args.self.now in
    result_with_lines-ended read.calls read.number read.bad_line (lines_of rest) (lines_of (c.args.text.now ++ 10 ∷ rest))
    (ap (λ (value : LinesRead). is_some value.bad_line) (sym c.self.view_is) ∙ sym c.is_some.ensures ∙ c.if-is_some.true)

pub loop-line-init : goal.loop-line-init
loop-line-init c =
    let inside = c.self.inside in
    let good = no_bad_line inside.bad_line (sym c.is_some.ensures ∙ c.if-is_some.false) in record {
      read = λ rest. result_with_lines-begun inside.kept.calls inside.number inside.bad_line c.args.self.now _ (lines_of (c.args.text.now ++ 10 ∷ rest)) c.self.view_is good
          (ap (λ (lines : List (List ℕ)). lines ++ lines_of rest) c.of-lines.ensures ∙ sym (lines_of-append c.args.text.now rest));
      good = good;
      number = omega (arith, ap (λ (read : LinesRead). read.number) c.self.view_is, length-lines_of c.of-lines.result c.args.text.now c.of-lines.ensures);
    }

pub loop-line-preserved-then-is_skipped : goal.loop-line-preserved-then-is_skipped
loop-line-preserved-then-is_skipped c =
    let inside = c.loop-line.self-inside in
    let lines = c.next.new.self in
    let cut = c.in-Some.ensures.some in record {
      read = λ rest.
          result_with_lines-skipped inside.kept.calls inside.number c.in-Some.line.now (lines ++ lines_of rest) (sym c.is_skipped.ensures ∙ c.if-is_skipped.true)
          ∙ ap (λ (left : List (List ℕ)). result_with_lines (record { calls = inside.kept.calls; number = inside.number; bad_line = None }) (left ++ lines_of rest)) (sym cut)
          ∙ c.loop-line.invariant.read rest;
      good = c.loop-line.invariant.good;
      number = omega (arith, ap length cut, c.loop-line.invariant.number);
    }

pub loop-line-preserved : goal.loop-line-preserved
loop-line-preserved c =
    let inside = c.loop-line.self-inside in
    let lines = c.next.new.self in
    let cut = c.in-Some.ensures.some in record {
      read = λ rest.
          result_with_lines-call inside.kept c.keep_line.new.kept inside.number c.in-Some.line.now (lines ++ lines_of rest) (sym c.is_skipped.ensures ∙ c.if-is_skipped.false) c.in-Ok.ensures
          ∙ ap (λ (left : List (List ℕ)). result_with_lines (record { calls = inside.kept.calls; number = inside.number; bad_line = None }) (left ++ lines_of rest)) (sym cut)
          ∙ c.loop-line.invariant.read rest;
      good = c.loop-line.invariant.good;
      number = omega (arith, ap length cut, c.loop-line.invariant.number);
    }

pub returns-in-Err-Bad-clause-read : goal.returns-in-Err-Bad-clause-read
returns-in-Err-Bad-clause-read c = λ rest.
    let inside = c.loop-line.self-inside in
    let lines = c.next.new.self in
    let reading = calls_with_line inside.kept (line_request c.in-Some.line.now) in
    result_with_lines-bad c.keep_line.new.kept.calls inside.kept.calls inside.kept inside.number c.in-Some.line.now (lines ++ lines_of rest) (lines_of rest) (sym c.is_skipped.ensures ∙ c.if-is_skipped.false)
    (no_reading c.in-Err-Bad.field-0 reading c.in-Err-Bad.field-0-is c.in-Err-Bad.ensures)
    ∙ ap (λ (left : List (List ℕ)). result_with_lines (record { calls = inside.kept.calls; number = inside.number; bad_line = None }) (left ++ lines_of rest)) (sym c.in-Some.ensures.some)
    ∙ c.loop-line.invariant.read rest

pub returns-clause-read : goal.returns-clause-read
returns-clause-read c = λ rest.
    let inside = c.loop-line.self-inside in
    ap (λ (bad_line : Option ℕ). result_with_lines (record { calls = inside.kept.calls; number = inside.number; bad_line = bad_line }) (lines_of rest)) c.loop-line.invariant.good
    ∙ ap (λ (left : List (List ℕ)). result_with_lines (record { calls = inside.kept.calls; number = inside.number; bad_line = None }) (left ++ lines_of rest)) (sym c.in_default.ensures.none.0)
    ∙ c.loop-line.invariant.read rest
