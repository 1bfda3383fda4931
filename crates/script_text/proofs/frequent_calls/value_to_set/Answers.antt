use Rattle.std.proofs.Common.{◌≡◌, ◌∷◌, [], ◌∙◌, Bor, List, ℕ, Some, ap, sym}
use Rattle.std.specs.Prelude.{Option}
use Rattle.std.specs.Option.{option_copied}
use Rattle.script_words.specs.Words.{parts_left, words_of}
use Rattle.script_text.specs.Calls.{sequence_of}
use Rattle.script_text.proofs.LastWords.{sequence_of-label, set_column_call-last}
use Rattle.script_text.proofs.frequent_calls.value_to_set.Goals as goal

pub returns : goal.returns
returns c = λ cursor.
    let column = c.in_ok-column.column.now in
    let digit = c.in_ok-sequence.sequence in
    let value = c.in_ok-rest.field-0.now in
    let behind : parts_left 32 (option_copied c.in_ok-sequence.rest) ≡ words_of value = ap (λ (rest : Option (Bor (List ℕ))). parts_left 32 (option_copied rest)) c.in_ok-rest.was in
    let place : sequence_of (digit ∷ []) ≡ Some c.from.result = sequence_of-label (digit ∷ []) c.from.result (c.in_ok-sequence.ensures.label ∙ ap Some (sym c.from.ensures)) in
    set_column_call-last cursor (words_of c.args.text.now) column (digit ∷ []) value c.from.result
    (c.in_ok-column.ensures ∙ ap (λ (ws : List (List ℕ)). column ∷ ws) (c.in_ok-sequence.ensures.cut ∙ ap (λ (ws : List (List ℕ)). (digit ∷ []) ∷ ws) behind))
    place
