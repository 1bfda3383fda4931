-- A run that is asked for has a depth.
use Rattle.std.proofs.Common.{◌≡◌, ◌≤◌, subst, ℕ, zero, suc, Bool, true, false, List, [], ◌∷◌, Option, Some, None, arith}
use Rattle.std.specs.Prelude.{IfSome, ◌&&◌, nat_le, if◌then◌else◌, bytes_eq, codes}
use Rattle.script_words.specs.Words.{◌>>=◌, number_of, number_within, where_within}
use Rattle.esentutl.specs.declared.words.Form.{Form}
use Rattle.esentutl.specs.declared.words.Form.TheVariants as form
use Rattle.esentutl.specs.declared.words.Inspection.{Inspection}
use Rattle.esentutl.specs.declared.words.RunOptions.{RunOptions}
use Rattle.esentutl.specs.declared.words.Topic.TheVariants as topic
use Rattle.esentutl.specs.Words.{default_span_limit, form_of, form_of_depth, form_of_options, inspection_of, run_with}

abbrev IsDeep : Form → Type 0
IsDeep (form.OrderedRun options) = 1 ≤ options.depth
IsDeep form.Recovery = Unit {0}
IsDeep (form.Inspection asked) = Unit {0}
IsDeep (form.About topic) = Unit {0}
IsDeep form.Unknown = Unit {0}

run_deep : (limit depth : Option ℕ) → IfSome depth (λ d. 1 ≤ d) → IsDeep (run_with limit depth)
run_deep None None deep = tt
run_deep None (Some depth) deep = tt
run_deep (Some limit) None deep = tt
run_deep (Some limit) (Some depth) deep = deep

either_deep : (first : Bool) (one other : Form) → IsDeep one → IsDeep other → IsDeep (if first then one else other)
either_deep true one other deep also = deep
either_deep false one other deep also = also

if_some : (within : Bool) (n : ℕ) → 1 ≤ n → IfSome (if within then Some n else None) (λ d. 1 ≤ d)
if_some true n least = least
if_some false n least = tt

within_deep : (n : ℕ) → IfSome (where_within 1 4194304 n) (λ d. 1 ≤ d)
within_deep zero = tt
within_deep (suc n) = if_some (nat_le 1 (suc n) && nat_le (suc n) 4194304) (suc n) (omega arith)

read_deep : (number : Option ℕ) → IfSome (number >>= where_within 1 4194304) (λ d. 1 ≤ d)
read_deep None = tt
read_deep (Some n) = within_deep n

number_deep : (word : List ℕ) → IfSome (number_within 1 4194304 word) (λ d. 1 ≤ d)
unfolding number_within
number_deep word = read_deep (number_of word)

behind_limit : (limit : Option ℕ) (words : List (List ℕ)) → IsDeep (form_of_depth limit words)
behind_limit limit [] = run_deep limit (Some 1048576) (omega arith)
behind_limit limit (name ∷ []) = tt
behind_limit limit (name ∷ number ∷ []) = either_deep _ _ form.Unknown (run_deep limit (number_within 1 4194304 number) (number_deep number)) tt
behind_limit limit (name ∷ number ∷ more ∷ words) = tt

options_deep : (words : List (List ℕ)) → IsDeep (form_of_options words)
options_deep [] = behind_limit (Some default_span_limit) []
options_deep (name ∷ []) = tt
options_deep (name ∷ number ∷ words) =
    either_deep _ (form_of_depth (number_within 4096 67108864 number) words) (form_of_depth (Some default_span_limit) (name ∷ number ∷ words)) (behind_limit (number_within 4096 67108864 number) words)
    (behind_limit (Some default_span_limit) (name ∷ number ∷ words))

asked_deep : (found : Option Inspection) → IsDeep (elim found [ Some asked ↦ form.Inspection asked | None ↦ form.Unknown ])
asked_deep None = tt
asked_deep (Some asked) = tt

form_deep : (words : List (List ℕ)) → IsDeep (form_of words)
form_deep [] = tt
form_deep (word ∷ []) =
    either_deep (bytes_eq word (codes "--help")) (form.About topic.Help) (if bytes_eq word (codes "--version") then form.About topic.Version else form.Unknown) tt
    (either_deep (bytes_eq word (codes "--version")) (form.About topic.Version) form.Unknown tt tt)
form_deep (volume ∷ mode ∷ []) =
    either_deep (bytes_eq mode (codes "/r")) form.Recovery (elim (inspection_of mode) [ Some asked ↦ form.Inspection asked | None ↦ form.Unknown ]) tt (asked_deep (inspection_of mode))
form_deep (volume ∷ mode ∷ order ∷ options) = either_deep _ (form_of_options options) form.Unknown (options_deep options) tt

pub runs_are_deep : (words : List (List ℕ)) (options : RunOptions) → form_of words ≡ form.OrderedRun options → 1 ≤ options.depth
runs_are_deep words options is = subst IsDeep is (form_deep words)
