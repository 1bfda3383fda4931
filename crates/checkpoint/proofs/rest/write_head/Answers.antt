use Rattle.std.proofs.Common.{◌++◌, List, ℕ, sym, ◌∙◌, ap, codes}
use Rattle.byteorder.specs.Endian.{little_bytes}
use Rattle.checkpoint.specs.Contents.{head_bytes}
use Rattle.checkpoint.proofs.rest.write_head.Goals as goal

pub returns-clause-value : goal.returns-clause-value
unfolding head_bytes
returns-clause-value c slots live is =
    let numbers = codes "JETCK" ++ (little_bytes 4 1 ++ (little_bytes 8 c.args.head.number ++ little_bytes 8 c.args.head.entries)) in
    let log = little_bytes 8 c.args.head.start.generation ++ (little_bytes 4 c.args.head.start.offset ++ little_bytes 8 c.args.head.start.position) in
    ap (λ (l : List ℕ). l ++ (c.write_start.new.head ++ c.write_sizes.new.head)) c.write_numbers.ensures.value
    ∙ ap (λ (l : List ℕ). numbers ++ (l ++ c.write_sizes.new.head)) c.write_start.ensures.value
    ∙ ap (λ (l : List ℕ). numbers ++ (log ++ l)) (c.write_sizes.ensures.value ∙ ap (λ k. little_bytes 4 c.args.head.catalog_root ++ little_bytes 4 k) (sym is))
