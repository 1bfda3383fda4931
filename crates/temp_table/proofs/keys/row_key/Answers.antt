use Rattle.std.proofs.Common.{◌≡◌, ℕ, List, [], ◌∷◌, ◌++◌, length, take, map, suc, sym, ap, ◌∙◌, add-one}
use Rattle.std.specs.Prelude.{option_copied}
use Rattle.std.proofs.lemmas.List.{length_push}
use Rattle.std.proofs.lemmas.Slice.Zip.{zip_turn, zip_end}
use Rattle.key_normal.specs.KeySoFar.{KeySoFar, key_so_far}
use Rattle.temp_table.specs.TempRows.{key_segments}
use Rattle.temp_table.proofs.Segments.{all, more}
use Rattle.temp_table.proofs.keys.row_key.Goals as goal

pub loop-column-preserved : goal.loop-column-preserved
loop-column-preserved c =
    let columns = c.args.columns.now in
    let values = c.args.values.now in
    let n = length c.loop-column.yielded in
    let t = zip_turn columns values c.loop-column.yielded c.into_iter-column-iterator.result c.loop-column.column-iterator c.next.new.self c.next.result (cc) (cc) c.loop-column.yielded_by (c.in-Some.column, c.in-Some.value) c.in-Some.is c.next.ensures.steps in
    let given = key_segments (take n columns) (map (option_copied {T = List ℕ}) (take n values)) in
    let added = c.add_segment.ensures given c.loop-column.invariant in
    let one = more (option_copied {T = List ℕ}) columns values n c.in-Some.column.now c.in-Some.value.now t.0 t.1 (t.2 _) (t.3 _) in
    let one_more : length (c.loop-column.yielded ++ (c.in-Some.column, c.in-Some.value) ∷ []) ≡ suc n = length_push c.loop-column.yielded _ ∙ add-one n in
    added ∙ ap (key_so_far 255) (sym one)
    ∙ ap (λ k. key_so_far 255 (key_segments (take k columns) (map (option_copied {T = List ℕ}) (take k values)))) (sym one_more)

pub returns : goal.returns
returns c =
    let n = zip_end c.args.columns.now c.args.values.now c.loop-column.yielded c.into_iter-column-iterator.result c.loop-column.column-iterator c.next.new.self c.next.result (cc) (cc) c.loop-column.yielded_by c.in-None.is c.next.ensures.steps in
    let whole = all (option_copied {T = List ℕ}) c.args.columns.now c.args.values.now (length c.loop-column.yielded) n in
    c.finish.ensures ∙ ap (λ (k : KeySoFar). k.bytes) c.loop-column.invariant ∙ ap (λ bytes. (key_so_far 255 bytes).bytes) whole
