use Rattle.std.proofs.Common.{length, sym, ◌∙◌, add-one}
use Rattle.std.proofs.lemmas.List.{length_push}
use Rattle.std.proofs.lemmas.Slice.Zip.{zip_turn, zip_end}
use Rattle.load_gen.proofs.Counts.{lines_done, lines_more}
use Rattle.load_gen.proofs.summary.append_lines.Goals as goal

pub loop-index-preserved : goal.loop-index-preserved
loop-index-preserved c =
    let indexes = c.args.indexes.now in
    let counts = c.args.counts.now in
    let t = zip_turn indexes counts c.loop-index.yielded c.into_iter-index-iterator.result c.loop-index.index-iterator c.next.new.self c.next.result (cc) (cc) c.loop-index.yielded_by (c.in-Some.index, c.in-Some.count) c.in-Some.is c.next.ensures.steps in
    lines_more c.loop-index.text.items c.append_line.new.text.items _ c.name.result.now indexes counts (length c.loop-index.yielded) _ c.in-Some.index.now c.in-Some.count.now
    c.loop-index.invariant c.in_ok-append_line.ensures c.name.ensures (length_push c.loop-index.yielded _ ∙ add-one (length c.loop-index.yielded)) t.0 t.1 (sym (t.2 _)) (sym (t.3 _))

pub returns : goal.returns
returns c =
    lines_done c.loop-index.text.items _ c.args.indexes.now c.args.counts.now (length c.loop-index.yielded) c.loop-index.invariant
    (zip_end c.args.indexes.now c.args.counts.now c.loop-index.yielded c.into_iter-index-iterator.result c.loop-index.index-iterator c.next.new.self c.next.result (cc) (cc) c.loop-index.yielded_by c.in-None.is c.next.ensures.steps)
