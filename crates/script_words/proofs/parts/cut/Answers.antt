use Rattle.std.proofs.Common.{◌==◌, ◌+◌, ◌∷◌, List, ℕ, take, ap, sym, ◌∙◌}
use Rattle.std.specs.List.{slice_split}
use Rattle.script_words.proofs.Cuts.{slice_split-found, tail_slice}
use Rattle.script_words.proofs.parts.cut.Goals as goal

pub returns-in-Some : goal.returns-in-Some
returns-in-Some c =
    let text = c.args.text.now in
    let end = c.in-Some.end in
    slice_split-found (λ b. b == c.args.separator) text end (sym c.in-Some.ensures)
    ∙ ap (λ (rest : List ℕ). take end text ∷ slice_split (λ b. b == c.args.separator) rest) (sym (tail_slice (end + 1) text))
