use Rattle.std.proofs.Common.{◌≡◌, ◌∷◌, [], ◌∙◌, Bor, List, ℕ, Some, ap, sym}
use Rattle.std.specs.Prelude.{Option}
use Rattle.std.specs.Option.{option_copied}
use Rattle.script_words.specs.Words.{label_of, parts_left, words_of}
use Rattle.script_text.specs.CallNames.{cursor_reading}
use Rattle.script_text.proofs.Lines.{line_request-head}
use Rattle.script_text.proofs.frequent.frequent_head.Goals as goal

pub returns : goal.returns
returns c =
    let session = c.in_ok-session.session in
    let cursor = c.in_ok-cursor.cursor in
    let words = parts_left 32 (option_copied c.in_ok-cursor.rest) in
    let (name, cut, names) = c.in_ok-call.ensures in
    let behind : parts_left 32 (option_copied c.in_ok-session.rest) ≡ words_of c.in_ok-rest.field-0.now = ap (λ (rest : Option (Bor (List ℕ))). parts_left 32 (option_copied rest)) c.in_ok-rest.was in
    let says : label_of (session ∷ []) ≡ Some c.from.result = c.in_ok-session.ensures.label ∙ ap Some (sym c.from.ensures) in
    let points : label_of (cursor ∷ []) ≡ Some c.from-2.result = c.in_ok-cursor.ensures.label ∙ ap Some (sym c.from-2.ensures) in
    line_request-head c.args.line.now (session ∷ []) name (cursor ∷ []) c.from.result c.from-2.result words (cursor_reading c.in_ok-call.call)
    (c.in_ok-session.ensures.cut
    ∙ ap (λ (ws : List (List ℕ)). (session ∷ []) ∷ ws) (behind ∙ cut ∙ ap (λ (ws : List (List ℕ)). name ∷ ws) c.in_ok-cursor.ensures.cut))
    says points (names ((cursor ∷ []) ∷ words))
