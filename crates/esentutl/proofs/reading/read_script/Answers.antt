use Rattle.std.proofs.Common.{◌≡◌, ◌≤◌, ◌<◌, ℕ, List, length, refl, ap, subst, ◌∙◌, arith, length-append}
use Rattle.std.proofs.lemmas.Result.{err_from_is_err_and}
use Rattle.esentutl.specs.Reading.{SourceChange, FinishesAs}
use Rattle.esentutl.proofs.ScriptText.{memory_lacks, read_on, read_out, too_long}
use Rattle.esentutl.proofs.reading.read_script.Goals as goal

pub returns-in-Ok-eq0-clause-script : goal.returns-in-Ok-eq0-clause-script
returns-in-Ok-eq0-clause-script g c =
    let first = c.args.script.now in
    let next = c.read.new.script in
    let change : SourceChange =
    record { left_before = g.S.Source.left first; left_after = g.S.Source.left next; faults_before = g.S.Source.faults first; faults_after = g.S.Source.faults next } in
    let none : c.in-Ok-eq0.field-0 ≡ 0 = omega arith in
    let few : c.loop-taken.taken ≤ 16777216 = omega (arith, c.loop-taken-test.true) in
    read_out change (g.S.Source.left c.loop-taken.script) c.loop-taken.parser c.loop-taken.unparsed c.read.new.self c.loop-taken.taken c.in-Ok-eq0.field-0 c.finish.result
    c.loop-taken.invariant.read c.in-Ok-eq0.ensures.bytes c.in-Ok-eq0.ensures.ends none few (c.in-Ok-eq0.ensures.faults ∙ c.loop-taken.invariant.faults)
    (subst (λ (rest : List ℕ). FinishesAs c.loop-taken.parser rest c.finish.result) c.as_slice.ensures c.finish.ensures)

pub loop-taken-preserved : goal.loop-taken-preserved
loop-taken-preserved g c =
    let came = c.in-Ok.ensures.bytes in record {
      read = read_on (g.S.Source.left c.args.script.now) (g.S.Source.left c.loop-taken.script) (g.S.Source.left c.read.new.script) c.loop-taken.parser c.parse_lines.new.parser c.loop-taken.unparsed c.read.new.self
          c.parse_lines.new.self c.loop-taken.taken c.in-Ok.count c.loop-taken.invariant.read came c.in_ok-parse_lines-in-Ok.ensures.read;
      number = omega (arith, c.in_ok-parse_lines-in-Ok.ensures.number, c.loop-taken.invariant.number, came.1, ap length came.2, length-append c.loop-taken.unparsed came.0);
      most = omega (arith, c.in-Ok.ensures.most, c.loop-taken-test.true);
      faults = c.in-Ok.ensures.faults ∙ c.loop-taken.invariant.faults;
    }

pub returns-in_err-parse_lines-in-Ok-clause-script : goal.returns-in_err-parse_lines-in-Ok-clause-script
returns-in_err-parse_lines-in-Ok-clause-script g c =
    let first = c.args.script.now in
    let next = c.read.new.script in
    let change : SourceChange =
    record { left_before = g.S.Source.left first; left_after = g.S.Source.left next; faults_before = g.S.Source.faults first; faults_after = g.S.Source.faults next } in
    let exit = c.from_residual-in_err-parse_lines-in-Ok in
    let p = err_from_is_err_and exit.result exit.ensures.1 in
    let read =
    read_on (g.S.Source.left first) (g.S.Source.left c.loop-taken.script) (g.S.Source.left next) c.loop-taken.parser c.loop-taken.parser c.loop-taken.unparsed c.read.new.self c.read.new.self
    c.loop-taken.taken c.in-Ok.count c.loop-taken.invariant.read c.in-Ok.ensures.bytes (λ rest. refl) in
    (read.0, read.1, memory_lacks change read.0 exit.result p.0 p.1 p.2 (c.in-Ok.ensures.faults ∙ c.loop-taken.invariant.faults))

pub returns-clause-script : goal.returns-clause-script
returns-clause-script g c =
    let read = c.loop-taken.invariant.read in
    let many : 16777216 < c.loop-taken.taken = omega (arith, c.loop-taken-test.false) in (
      read.0,
      read.1,
      (c.loop-taken.invariant.faults, too_long (g.S.Source.left c.args.script.now) (g.S.Source.left c.loop-taken.script) c.loop-taken.parser c.loop-taken.unparsed c.loop-taken.taken read many),
    )
