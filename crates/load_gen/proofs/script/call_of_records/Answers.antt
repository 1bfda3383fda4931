use Rattle.std.proofs.Common.{◌≡◌, ◌≤◌, IfOk, length, subst, sym, arith}
use Rattle.load_gen.specs.Records.{records_calls}
use Rattle.load_gen.proofs.Lengths.{call_at}
use Rattle.load_gen.proofs.script.call_of_records.Goals as goal

pub returns : goal.returns
returns c =
    let before = c.records_before-before.result in
    let start = c.calls_of_records-start.result in
    let e : length (records_calls before) ≡ start = cc in
    let least : start ≤ c.args.place = omega (arith, e, c.records_before-before.ensures.least) in
    let there = call_at c.args.records c.args.place before start c.requires e least c.records_before-before.ensures.most in
    subst (λ wanted. IfOk c.record_call.result (λ made. made ≡ wanted)) (sym there) c.record_call.ensures
