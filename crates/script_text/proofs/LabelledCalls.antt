-- A call of a cursor, behind the label of the cursor.
use Rattle.std.proofs.Common.{◌≡◌, ℕ, Option, Some, None, List, [], ◌∷◌, refl, ◌∙◌}
use Rattle.jet_base.specs.declared.ids.CursorId.{CursorId}
use Rattle.session_local.specs.declared.request.Request.{Request}
use Rattle.script_words.specs.Words.{◌>>=◌, label_of}
use Rattle.script_text.specs.Calls.{cursor_call}

bind_same : (found : Option ℕ) (f g : ℕ → Option Request) → ((n : ℕ) → f n ≡ g n) → (found >>= f) ≡ (found >>= g)
bind_same None f g same = refl
bind_same (Some n) f g same = same n

bind_none : (found : Option ℕ) → (found >>= λ (n : ℕ). (let none : Option Request = None in none)) ≡ None
bind_none None = refl
bind_none (Some n) = refl

-- two readings that read alike behind every label
pub cursor_call-same : (f g : CursorId → List (List ℕ) → Option Request) → ((cursor : CursorId) (words : List (List ℕ)) → f cursor words ≡ g cursor words)
    → (words : List (List ℕ)) → cursor_call f words ≡ cursor_call g words
unfolding cursor_call
cursor_call-same f g same [] = refl
cursor_call-same f g same (word ∷ words) = bind_same (label_of word) (λ n. f (record { 0 = n }) words) (λ n. g (record { 0 = n }) words) (λ n. same (record { 0 = n }) words)

-- a reading that reads nothing behind any label
pub cursor_call-none : (f : CursorId → List (List ℕ) → Option Request) → ((cursor : CursorId) (words : List (List ℕ)) → f cursor words ≡ None)
    → (words : List (List ℕ)) → cursor_call f words ≡ None
unfolding cursor_call
cursor_call-none f none [] = refl
cursor_call-none f none (word ∷ words) =
    bind_same (label_of word) (λ n. f (record { 0 = n }) words) (λ n. None) (λ n. none (record { 0 = n }) words)
    ∙ bind_none (label_of word)
