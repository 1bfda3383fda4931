use Rattle.std.proofs.Common.{◌+◌, ◌-◌, length, take, drop, refl, sym, ◌∙◌}
use Rattle.script_text.proofs.LastWords.{word_by_place}
use Rattle.script_text.proofs.leading.leading_word.Goals as goal

pub returns : goal.returns
returns c =
    let text = c.args.text.now in
    let end = c.in_ok-end.end in
    word_by_place text (take end text) (take (length text - (end + 1)) (drop (end + 1) text)) end (sym c.place_of_space.ensures ∙ c.in_ok-end.was) refl refl
