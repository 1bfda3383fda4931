-- The label of a line of the grammar is one of a session.
use Rattle.std.proofs.Common.{◌≡◌, ℕ, Bool, true, false, List, Option, Some, None, refl}
use Rattle.std.specs.Prelude.{if◌then◌else◌, IfSome}
use Rattle.session_local.specs.declared.request.Request.{Request}
use Rattle.script_words.specs.Words.{◌>>=◌, first_word, label_of, number_of, number_within, where_within, words_of}
use Rattle.script_text.specs.Built.{is_label}
use Rattle.script_text.specs.Calls.{named_call}
use Rattle.script_text.specs.Grammar.{line_request, words_request}

abbrev SaysLabelled : Option (ℕ × Request) → Type 0
SaysLabelled reading = IfSome reading (λ said. is_label said.0 ≡ true)

behind : {A : Type 0} (found : Option A) (next : A → Option (ℕ × Request)) → ((a : A) → SaysLabelled (next a)) → SaysLabelled (found >>= next)
behind None next each = tt
behind (Some a) next each = each a

of_label : (session : ℕ) → is_label session ≡ true → (found : Option Request) → SaysLabelled (found >>= λ request. Some (session, request))
of_label session is None = tt
of_label session is (Some request) = is

where_is : (n : ℕ) (test : Bool) (next : ℕ → Option (ℕ × Request)) → is_label n ≡ test → ((session : ℕ) → is_label session ≡ true → SaysLabelled (next session))
    → SaysLabelled ((if test then Some n else None) >>= next)
where_is n true next is each = each n is
where_is n false next is each = tt

within : (number : Option ℕ) (next : ℕ → Option (ℕ × Request)) → ((session : ℕ) → is_label session ≡ true → SaysLabelled (next session)) → SaysLabelled ((number >>= where_within 1 99) >>= next)
within None next each = tt
within (Some n) next each = where_is n (is_label n) next refl each

behind_label : (word : List ℕ) (next : ℕ → Option (ℕ × Request)) → ((session : ℕ) → is_label session ≡ true → SaysLabelled (next session)) → SaysLabelled (label_of word >>= next)
unfolding label_of number_within
behind_label word next each = within (number_of word) next each

words-labelled : (words : List (List ℕ)) → SaysLabelled (words_request words)
unfolding words_request
words-labelled words =
    behind (first_word words) _ (λ first. behind (first_word first.1) _ (λ second. behind_label first.0 _ (λ session is. of_label session is (named_call second.0 second.1))))

pub line-labelled : (line : List ℕ) → IfSome (line_request line) (λ said. is_label said.0 ≡ true)
unfolding line_request
line-labelled line = words-labelled (words_of line)
