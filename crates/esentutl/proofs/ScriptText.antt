-- A script that is parsed as its text is read.
use Rattle.std.proofs.Common.{◌≡◌, ℕ, suc, ◌+◌, ◌<◌, ◌≤◌, ◌↔◌, true, List, [], ◌∷◌, ◌++◌, length, take, drop, get_or, Option, Some, None, Ok, Err, refl, sym, ap, subst, ◌∙◌, append_assoc, append-nil, arith, length-append, length-drop, take-append-drop, get_or-drop, drop-cons, add-one}
use Rattle.std.specs.Prelude.{Result, MatchResult, IfSome, ◌==◌}
use Rattle.std.proofs.lemmas.Bool.Decides.{nat_tests}
use Rattle.std.specs.Io.KnownBytes.{prepend_known}
use Rattle.jet_base.specs.declared.ids.Session.{Session}
use Rattle.session_local.specs.declared.request.Request.{Request}
use Rattle.script_text.specs.Grammar.{script_lines}
use Rattle.script_text.specs.Parser.{LinesRead, result_with}
use Rattle.esentutl.specs.declared.reading.ReadScriptFault.{ReadScriptFault}
use Rattle.esentutl.specs.declared.reading.ReadScriptFault.TheVariants as fault
use Rattle.esentutl.specs.Reading.{SourceChange, IsWholeScript, ReadsAs, FinishesAs}
use Rattle.esentutl.specs.TopCall.{script_limit}

-- whatever follows the text, the script is what is parsed of it with what is not parsed yet
abbrev pub ParsesTo : LinesRead → List ℕ → List ℕ → Type 0
ParsesTo parsed pending text = (rest : List ℕ) → result_with parsed (pending ++ rest) ≡ script_lines (text ++ rest)

-- so many bytes were taken from a source, whose bytes were the first and are now the others
abbrev pub IsReadTo : Option (List ℕ) → Option (List ℕ) → LinesRead → List ℕ → ℕ → Type 0
IsReadTo first now parsed pending taken = (text : List ℕ) × (first ≡ prepend_known text now) × (length text ≡ taken) × ParsesTo parsed pending text

-- so many bytes came behind those that were pending
abbrev pub Came : List ℕ → List ℕ → Option (List ℕ) → Option (List ℕ) → ℕ → Type 0
Came before after now next n = (piece : List ℕ) × (length piece ≡ n) × (after ≡ before ++ piece) × (now ≡ prepend_known piece next)

prepend_twice : (a b : List ℕ) (known : Option (List ℕ)) → prepend_known a (prepend_known b known) ≡ prepend_known (a ++ b) known
prepend_twice a b None = refl
prepend_twice a b (Some rest) = ap (λ (l : List ℕ). Some l) (sym (append_assoc a b rest))

-- more was read, and some of it parsed
pub read_on : (first now next : Option (List ℕ)) (old new : LinesRead) (pending between after : List ℕ) (taken n : ℕ) → IsReadTo first now old pending taken → Came pending between now next n
    → ((rest : List ℕ) → result_with new (after ++ rest) ≡ result_with old (between ++ rest)) → IsReadTo first next new after (taken + n)
read_on first now next old new pending between after taken n so_far came step =
    let text = so_far.0 in
    let piece = came.0 in (
      text ++ piece,
      so_far.1 ∙ ap (prepend_known text) came.3 ∙ prepend_twice text piece next,
      omega (arith, length-append text piece, so_far.2, came.1),
      λ rest. step rest ∙ ap (λ (l : List ℕ). result_with old (l ++ rest)) came.2 ∙ ap (result_with old) (append_assoc pending piece rest) ∙ so_far.3 (piece ++ rest)
          ∙ ap script_lines (sym (append_assoc text piece rest)),
    )

-- where nothing follows
parsed_all : (parsed : LinesRead) (pending text : List ℕ) → ParsesTo parsed pending text → result_with parsed pending ≡ script_lines text
parsed_all parsed pending text so_far = ap (result_with parsed) (sym (append-nil pending)) ∙ so_far [] ∙ ap script_lines (append-nil text)

no_rest : (piece rest : List ℕ) → piece ++ rest ≡ [] → rest ≡ []
no_rest piece [] is = refl
no_rest piece (x ∷ rest) is = absurd (omega (arith, length-append piece (x ∷ rest), ap length is))

-- no byte came, so none is left
none_left : (now next : Option (List ℕ)) (piece : List ℕ) (n : ℕ) → now ≡ prepend_known piece next → IfSome now (λ left. (n ≡ 0) ↔ (left ≡ [])) → n ≡ 0 → IfSome next (λ rest. rest ≡ [])
none_left now None piece n reads ends none = tt
none_left None (Some rest) piece n reads ends none = absurd cc
none_left (Some left) (Some rest) piece n reads ends none =
    let same : left ≡ piece ++ rest = cc in no_rest piece rest (sym same ∙ ends.0 none)

-- what a script that was read to its end comes to
reads_as : (s : SourceChange) (parsed : LinesRead) (rest text : List ℕ) (result : Result (List (Session × Request)) ReadScriptFault) → IsWholeScript s text → result_with parsed rest ≡ script_lines text
    → FinishesAs parsed rest result → MatchResult result (λ calls. ReadsAs s text (Ok calls)) (λ e. ReadsAs s text (Err e))
reads_as s parsed rest text (Ok calls) whole same finished = (whole, sym same ∙ finished)
reads_as s parsed rest text (Err fault.Source) whole same finished = absurd finished
reads_as s parsed rest text (Err fault.TooLong) whole same finished = absurd finished
reads_as s parsed rest text (Err (fault.BadLine number)) whole same finished = (whole, sym same ∙ finished)
reads_as s parsed rest text (Err fault.Memory) whole same finished = whole.0

pub read_out : (s : SourceChange) (now : Option (List ℕ)) (parsed : LinesRead) (pending between : List ℕ) (taken n : ℕ) (result : Result (List (Session × Request)) ReadScriptFault)
    → IsReadTo s.left_before now parsed pending taken → Came pending between now s.left_after n → IfSome now (λ left. (n ≡ 0) ↔ (left ≡ [])) → n ≡ 0 → taken ≤ 16777216 → s.faults_after ≡ s.faults_before
    → FinishesAs parsed between result → (text : List ℕ) × (s.left_before ≡ prepend_known text s.left_after) × MatchResult result (λ calls. ReadsAs s text (Ok calls)) (λ e. ReadsAs s text (Err e))
read_out s now parsed pending between taken n result so_far came ends none few sound finished =
    let all = read_on s.left_before now s.left_after parsed parsed pending between between taken n so_far came (λ rest. refl) in
    let whole : IsWholeScript s all.0 = (sound, none_left now s.left_after came.0 n came.3 ends none, omega (arith, all.2, none, few)) in
    (all.0, all.1, reads_as s parsed between all.0 result whole (parsed_all parsed between all.0 all.3) finished)

-- more was read than a script may have
longer : (first now : Option (List ℕ)) (text : List ℕ) → first ≡ prepend_known text now → 16777216 < length text → IfSome first (λ bytes. script_limit < length bytes)
longer None now text given many = tt
longer (Some bytes) None text given many = absurd cc
longer (Some bytes) (Some rest) text given many =
    let same : bytes ≡ text ++ rest = cc in omega (arith, ap length same, length-append text rest)

pub too_long : (first now : Option (List ℕ)) (parsed : LinesRead) (pending : List ℕ) (taken : ℕ) → IsReadTo first now parsed pending taken → 16777216 < taken → IfSome first (λ bytes. script_limit < length bytes)
too_long first now parsed pending taken so_far many = longer first now so_far.0 so_far.1 (omega (arith, so_far.2, many))

-- there was no memory
pub memory_lacks : (s : SourceChange) (text : List ℕ) (result : Result (List (Session × Request)) ReadScriptFault) (e : ReadScriptFault) → result ≡ Err e → e ≡ fault.Memory → s.faults_after ≡ s.faults_before
    → MatchResult result (λ calls. ReadsAs s text (Ok calls)) (λ e. ReadsAs s text (Err e))
memory_lacks s text (Ok calls) e is memory sound = absurd cc
memory_lacks s text (Err found) e is memory sound =
    let same : fault.Memory ≡ found = cc in subst (λ (found : ReadScriptFault). ReadsAs s text (Err found)) same sound

is_line_end : (byte : ℕ) → (byte == 10) ≡ true → byte ≡ 10
is_line_end byte is = grind (arith, nat_tests)

-- the bytes around a line end that stands behind the first of them
pub cut_at : (bytes : List ℕ) (first place : ℕ) → place < length (drop first bytes) → (get_or (drop first bytes) place 0 == 10) ≡ true
    → bytes ≡ take (first + place) bytes ++ 10 ∷ drop (first + place + 1) bytes
cut_at bytes first place below ends =
    let end = first + place in
    let front = take end bytes in
    let within : end < length bytes = omega (arith, length-drop first bytes, below) in
    sym (take-append-drop end bytes)
    ∙ ap (λ (l : List ℕ). front ++ l) (drop-cons bytes end 0 within)
    ∙ ap (λ (byte : ℕ). front ++ byte ∷ drop (suc end) bytes) (sym (get_or-drop first bytes place 0) ∙ is_line_end (get_or (drop first bytes) place 0) ends)
    ∙ ap (λ (k : ℕ). front ++ 10 ∷ drop k bytes) (sym (add-one end))

-- the bytes behind a line end follow the lines before it
pub lines_parsed : (old new : LinesRead) (bytes : List ℕ) (end : ℕ) → bytes ≡ take end bytes ++ 10 ∷ drop (end + 1) bytes
    → ((rest : List ℕ) → result_with new rest ≡ result_with old (take end bytes ++ 10 ∷ rest)) → (rest : List ℕ) → result_with new (drop (end + 1) bytes ++ rest) ≡ result_with old (bytes ++ rest)
lines_parsed old new bytes end cut read rest =
    read (drop (end + 1) bytes ++ rest)
    ∙ ap (result_with old) (sym (append_assoc (take end bytes) (10 ∷ drop (end + 1) bytes) rest))
    ∙ ap (λ (l : List ℕ). result_with old (l ++ rest)) (sym cut)
