-- A line of the grammar, word by word.
use Rattle.std.proofs.Common.{◌≡◌, ℕ, Option, Some, None, List, [], ◌∷◌, refl, ap, ◌∙◌}
use Rattle.jet_base.specs.declared.ids.CursorId.{CursorId}
use Rattle.session_local.specs.declared.request.Request.{Request}
use Rattle.script_words.specs.Words.{◌>>=◌, first_word, words_of, label_of}
use Rattle.script_text.specs.Calls.{cursor_call, named_call}
use Rattle.script_text.specs.CallNames.{said_by}
use Rattle.script_text.specs.Grammar.{words_request, line_request}
use Rattle.script_text.specs.Kept.{KeptCalls, for_line, kept_behind, kept_line}

of_session : (n : ℕ) (found : Option Request) (old : KeptCalls)
    → ((found >>= λ request. Some (n, request)) >>= kept_line old) ≡ (found >>= kept_behind (for_line old n))
of_session n None old = refl
of_session n (Some request) old = refl

of_label : (session : Option ℕ) (found : Option Request) (old : KeptCalls)
    → ((session >>= λ n. found >>= λ request. Some (n, request)) >>= kept_line old)
    ≡ (session >>= λ n. found >>= kept_behind (for_line old n))
of_label None found old = refl
of_label (Some n) found old = of_session n found old

of_words : (words : List (List ℕ)) (old : KeptCalls)
    → (words_request words >>= kept_line old)
    ≡ (first_word words >>= λ first. first_word first.1 >>= λ second. label_of first.0 >>= λ n. named_call second.0 second.1 >>= kept_behind (for_line old n))
unfolding words_request
of_words [] old = refl
of_words (session ∷ []) old = refl
of_words (session ∷ name ∷ words) old = of_label (label_of session) (named_call name words) old

-- the calls so far with that of a line, step by step
pub line_request-steps : (line : List ℕ) (old : KeptCalls)
    → (line_request line >>= kept_line old)
    ≡ (first_word (words_of line) >>= λ first. first_word first.1 >>= λ second. label_of first.0 >>= λ n. named_call second.0 second.1 >>= kept_behind (for_line old n))
unfolding line_request
line_request-steps line old = of_words (words_of line) old

-- a line by the words that it begins with
pub line_request-head : (line session name cursor : List ℕ) (n m : ℕ) (words : List (List ℕ)) (reading : CursorId → List (List ℕ) → Option Request)
    → words_of line ≡ session ∷ name ∷ cursor ∷ words → label_of session ≡ Some n → label_of cursor ≡ Some m
    → named_call name (cursor ∷ words) ≡ cursor_call reading (cursor ∷ words)
    → line_request line ≡ said_by n (reading (record { 0 = m }) words)
unfolding line_request words_request cursor_call
line_request-head line session name cursor n m words reading cut says points names =
    ap words_request cut
    ∙ ap (λ (label : Option ℕ). label >>= λ s. named_call name (cursor ∷ words) >>= λ request. Some (s, request)) says
    ∙ ap (λ (found : Option Request). found >>= λ request. Some (n, request)) names
    ∙ ap (λ (label : Option ℕ). (label >>= λ c. reading (record { 0 = c }) words) >>= λ request. Some (n, request)) points

-- the calls so far with that of such a line
pub line_request-kept : (found : Option (ℕ × Request)) (n : ℕ) (reading : Option Request) (old : KeptCalls) → found ≡ said_by n reading
    → (found >>= kept_line old) ≡ (reading >>= kept_behind (for_line old n))
line_request-kept found n reading old is = ap (λ (read : Option (ℕ × Request)). read >>= kept_line old) is ∙ of_session n reading old

pub ruleset steps = (line_request-steps, line_request-kept)
