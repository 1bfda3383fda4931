-- The calls of a script, line by line.
use Rattle.std.proofs.Common.{◌≡◌, ℕ, ◌+◌, ◌≤◌, Bool, true, false, Ok, Err, Option, Some, None, List, [], ◌∷◌, ◌++◌, length, refl, sym, ap, ◌∙◌, append_assoc, append-nil, arith}
use Rattle.std.specs.Prelude.{◌==◌, if◌then◌else◌, is_some}
use Rattle.jet_base.specs.declared.ids.Session.{Session}
use Rattle.session_local.specs.declared.request.Request.{Request}
use Rattle.script_text.specs.Grammar.{ScriptResult, is_skipped, line_request, numbered_from, requests_of, script_lines, with_front}
use Rattle.script_text.specs.Kept.{KeptCalls, calls_with_line}
use Rattle.script_words.specs.declared.refusal.Refusal.{Refusal}
use Rattle.script_words.specs.declared.refusal.Refusal.TheVariants.{Bad, Memory}
use Rattle.script_words.specs.Reading.{Refuses}
use Rattle.script_words.specs.Words.{lines_of}
use Rattle.std.proofs.lemmas.List.Splits.{length-slice_split}
use Rattle.std.proofs.lemmas.List.Sums.{count_by-le-length}
use Rattle.std.proofs.lemmas.List.{map-append}
use Rattle.script_text.specs.Parsed.{calls_of, call_of}
use Rattle.script_text.specs.Parser.{LinesRead, with_calls, left_from, result_with, result_with_lines}
use Rattle.script_text.proofs.WholeLines.{lines_of-append}

with_calls-nil : (rest : ScriptResult) → with_calls [] rest ≡ rest
with_calls-nil (Ok rest) = refl
with_calls-nil (Err number) = refl

-- what the script is, by the first bad line
abbrev result_by : List (Session × Request) → ℕ → List (List ℕ) → Option ℕ → ScriptResult
result_by calls number lines bad_line = elim bad_line [ Some line ↦ Err line | None ↦ with_calls (calls_of calls) (left_from number lines) ]

-- where no line was read the script is what is left of it
pub result_with-none : (calls : List (Session × Request)) (text : List ℕ) → calls ≡ [] → result_with (record { calls = calls; number = 0; bad_line = None }) text ≡ script_lines text
result_with-none calls text none =
    ap (λ (kept : List (Session × Request)). with_calls (calls_of kept) (left_from 0 (lines_of text))) none
    ∙ with_calls-nil (left_from 0 (lines_of text))

-- behind a line that is outside the grammar no line changes what the script is
pub result_with_lines-ended : (calls : List (Session × Request)) (number : ℕ) (bad_line : Option ℕ) (lines more : List (List ℕ)) → is_some bad_line ≡ true
    → result_with_lines (record { calls = calls; number = number; bad_line = bad_line }) lines ≡ result_with_lines (record { calls = calls; number = number; bad_line = bad_line }) more
result_with_lines-ended calls number None lines more ended = absurd cc
result_with_lines-ended calls number (Some line) lines more ended = refl

-- where no line was outside the grammar, and these lines follow
pub result_with_lines-begun : (calls : List (Session × Request)) (number : ℕ) (bad_line : Option ℕ) (read : LinesRead) (lines whole : List (List ℕ))
    → ◌≡◌ {A = LinesRead} (record { calls = calls; number = number; bad_line = bad_line }) read → bad_line ≡ None → lines ≡ whole
    → result_with_lines (record { calls = calls; number = number; bad_line = None }) lines ≡ result_with_lines read whole
result_with_lines-begun calls number bad_line read lines whole is good cut =
    ap (result_by calls number lines) (sym good)
    ∙ ap (λ (value : LinesRead). result_with_lines value lines) is
    ∙ ap (result_with_lines read) cut

pub no_bad_line : (bad_line : Option ℕ) → is_some bad_line ≡ false → bad_line ≡ None
no_bad_line None good = refl
no_bad_line (Some line) good = absurd cc

numbered_from-empty : (number : ℕ) (lines : List (List ℕ)) → numbered_from number (lines ++ [] ∷ []) ≡ numbered_from number lines
numbered_from-empty number [] = refl
numbered_from-empty number (line ∷ lines) =
    ap (λ (said : List (ℕ × List ℕ)). if is_skipped line then said else (number, line) ∷ said) (numbered_from-empty (number + 1) lines)

-- an end of the last line changes nothing
result_with-ended_line : (read : LinesRead) (text : List ℕ) → result_with read (text ++ 10 ∷ []) ≡ result_with read text
result_with-ended_line read text =
    ap (result_with_lines read) (lines_of-append text [])
    ∙ ap (λ (said : List (ℕ × List ℕ)). elim (read.bad_line) [ Some line ↦ Err line | None ↦ with_calls (calls_of read.calls) (requests_of said) ]) (numbered_from-empty (read.number + 1) (lines_of text))

-- the calls where all lines were read, and none is outside the grammar
pub result_with-all : (old new : LinesRead) (rest : List ℕ) (calls : List (Session × Request)) → ((more : List ℕ) → result_with new more ≡ result_with old (rest ++ 10 ∷ more))
    → new.bad_line ≡ None → calls ≡ new.calls → result_with old rest ≡ Ok (calls_of calls)
result_with-all old new rest calls read good kept =
    sym (result_with-ended_line old rest)
    ∙ sym (read [])
    ∙ ap (result_by new.calls new.number ([] ∷ [])) good
    ∙ ap (λ (front : List (ℕ × Request)). Ok front) (append-nil (calls_of new.calls))
    ∙ ap (λ (cs : List (Session × Request)). Ok (calls_of cs)) (sym kept)

-- the number where one is
pub result_with-bad : (old new : LinesRead) (rest : List ℕ) (bad line : ℕ) → ((more : List ℕ) → result_with new more ≡ result_with old (rest ++ 10 ∷ more))
    → new.bad_line ≡ Some bad → bad ≡ line → result_with old rest ≡ Err line
result_with-bad old new rest bad line read is same =
    sym (result_with-ended_line old rest)
    ∙ sym (read [])
    ∙ ap (result_by new.calls new.number ([] ∷ [])) is
    ∙ ap Err same

with_calls-with_front : (front : List (ℕ × Request)) (call : ℕ × Request) (rest : ScriptResult) → with_calls front (with_front call rest) ≡ with_calls (front ++ call ∷ []) rest
with_calls-with_front front call (Ok rest) = ap Ok (sym (append_assoc front (call ∷ []) rest))
with_calls-with_front front call (Err number) = refl

-- a line in the grammar is its call in front of those of the lines behind it
left_from-call : (number : ℕ) (line : List ℕ) (lines : List (List ℕ)) (call : ℕ × Request) → is_skipped line ≡ false → line_request line ≡ Some call
    → left_from number (line ∷ lines) ≡ with_front call (left_from (number + 1) lines)
left_from-call number line lines call said is =
    ap (λ (skipped : Bool). requests_of (if skipped then numbered_from (number + 1 + 1) lines else (number + 1, line) ∷ numbered_from (number + 1 + 1) lines)) said
    ∙ ap (λ (reading : Option (ℕ × Request)). elim reading [ None ↦ Err (number + 1) | Some first ↦ with_front first (left_from (number + 1) lines) ]) is

left_from-skipped : (number : ℕ) (line : List ℕ) (lines : List (List ℕ)) → is_skipped line ≡ true → left_from number (line ∷ lines) ≡ left_from (number + 1) lines
left_from-skipped number line lines skipped =
    ap (λ (skip : Bool). requests_of (if skip then numbered_from (number + 1 + 1) lines else (number + 1, line) ∷ numbered_from (number + 1 + 1) lines)) skipped

left_from-none : (number : ℕ) (line : List ℕ) (lines : List (List ℕ)) → is_skipped line ≡ false → line_request line ≡ None → left_from number (line ∷ lines) ≡ Err (number + 1)
left_from-none number line lines said is =
    ap (λ (skipped : Bool). requests_of (if skipped then numbered_from (number + 1 + 1) lines else (number + 1, line) ∷ numbered_from (number + 1 + 1) lines)) said
    ∙ ap (λ (reading : Option (ℕ × Request)). elim reading [ None ↦ Err (number + 1) | Some first ↦ with_front first (left_from (number + 1) lines) ]) is

no_call : (old : KeptCalls) (reading : Option (ℕ × Request)) → calls_with_line old reading ≡ None → reading ≡ None
no_call old None is = refl
no_call old (Some call) is = absurd cc

-- a refusal of a line that is not for want of memory
pub no_reading : (refusal : Refusal) (reading : Option KeptCalls) → refusal ≡ Bad → Refuses refusal reading → reading ≡ None
no_reading Bad reading is refuses = refuses
no_reading Memory reading is refuses = absurd cc

-- the calls with that of a line are those before, and the one that the line is
kept_call : (old new : KeptCalls) (reading : Option (ℕ × Request)) → calls_with_line old reading ≡ Some new
    → (call : ℕ × Request) × (reading ≡ Some call) × (calls_of new.calls ≡ calls_of old.calls ++ call ∷ [])
kept_call old new None is = absurd cc
kept_call old new (Some call) is = (
  call,
  refl,
  ap (λ (kept : KeptCalls). calls_of kept.calls) (sym (same_kept is)) ∙ map-append call_of old.calls ((record { 0 = call.0 }, call.1) ∷ []),
)
  where
    same_kept : {x y : KeptCalls} → Some x ≡ Some y → x ≡ y
    same_kept is = cc

-- behind one more line in the grammar
pub result_with_lines-call : (old new : KeptCalls) (number : ℕ) (line : List ℕ) (lines : List (List ℕ)) → is_skipped line ≡ false → calls_with_line old (line_request line) ≡ Some new
    → result_with_lines (record { calls = new.calls; number = number + 1; bad_line = None }) lines ≡ result_with_lines (record { calls = old.calls; number = number; bad_line = None }) (line ∷ lines)
result_with_lines-call old new number line lines said is =
    let (call, reading, calls) = kept_call old new (line_request line) is in
    let behind = left_from (number + 1) lines in
    ap (λ (front : List (ℕ × Request)). with_calls front behind) calls
    ∙ sym (with_calls-with_front (calls_of old.calls) call behind)
    ∙ ap (with_calls (calls_of old.calls)) (sym (left_from-call number line lines call said reading))

-- behind a line that says nothing
pub result_with_lines-skipped : (calls : List (Session × Request)) (number : ℕ) (line : List ℕ) (lines : List (List ℕ)) → is_skipped line ≡ true
    → result_with_lines (record { calls = calls; number = number + 1; bad_line = None }) lines ≡ result_with_lines (record { calls = calls; number = number; bad_line = None }) (line ∷ lines)
result_with_lines-skipped calls number line lines skipped = sym (ap (with_calls (calls_of calls)) (left_from-skipped number line lines skipped))

-- behind a line that is outside the grammar
pub result_with_lines-bad : (after before : List (Session × Request)) (old : KeptCalls) (number : ℕ) (line : List ℕ) (lines more : List (List ℕ)) → is_skipped line ≡ false → calls_with_line old (line_request line) ≡ None
    → result_with_lines (record { calls = after; number = number + 1; bad_line = Some (number + 1) }) more ≡ result_with_lines (record { calls = before; number = number; bad_line = None }) (line ∷ lines)
result_with_lines-bad after before old number line lines more said is =
    sym (ap (with_calls (calls_of before)) (left_from-none number line lines said (no_call old (line_request line) is)))

-- a script has at most one line more than bytes
pub length-lines_of : (lines : List (List ℕ)) (bytes : List ℕ) → lines ≡ lines_of bytes → length lines ≤ length bytes + 1
length-lines_of lines bytes cut =
    omega (arith, ap length cut, length-slice_split (λ b. b == 10) bytes, count_by-le-length (λ b. b == 10) bytes)
