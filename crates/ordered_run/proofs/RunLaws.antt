-- Runs line by line: what one line more adds.
use Rattle.std.proofs.Common.{◌≡◌, ℕ, ◌+◌, ◌-◌, ◌<◌, Bool, true, false, ◌&&◌, List, [], ◌∷◌, ◌++◌, length, take, drop, refl, sym, ap, ◌∙◌, append_assoc, get_or, add-one, arith}
use Rattle.std.proofs.Math.Seq.{take-suc, drop-cons, take-append_seam}
use Rattle.jet_base.specs.declared.ids.Session.{Session}
use Rattle.session_local.specs.declared.request.Request.{Request}
use Rattle.script_text.specs.Parsed.{calls_of, call_of}
use Rattle.std.specs.List.{list_all}
use Rattle.std.proofs.lemmas.List.{append-nil, map-append, take-map, drop-map, length-append}
use Rattle.std.proofs.lemmas.List.Folds.{list_all-append}
use Rattle.std.proofs.lemmas.Grind.{flat_map-append}
use Rattle.std.proofs.lemmas.Bool.{and_from}
use Rattle.common_lemmas.proofs.Booleans.{and_left, and_right}
use Rattle.database_state.specs.State.{DatabaseState}
use Rattle.session_local.specs.Run.{RunState, Line, LineOutcome, served, no_memory, flush_failed, unserved, run_from, rows_from, rows_of_line, run_after, run_after_all, may_come, may_be_followed, outcomes_may_come}
use Rattle.script_transcript.specs.TranscriptLine.{transcript_of, row_line}
use Rattle.ordered_run.specs.Outcomes.{is_plain, line_text, AreOutcomesOf, MayComeTo, run_transcript, but_last}

-- a line with its outcome
abbrev pub Served : Type 0
Served = Line × LineOutcome

abbrev pub first_of_pair : Served → Line
first_of_pair pair = pair.0

abbrev pub is_plain_pair : Served → Bool
is_plain_pair pair = is_plain pair.1

pub run_after_all-append : (limit : ℕ) (run : RunState) (pairs : List Served) (pair : Served)
    → run_after_all limit run (pairs ++ pair ∷ []) ≡ run_after limit (run_after_all limit run pairs) pair.0 pair.1
run_after_all-append limit run [] pair = refl
run_after_all-append limit run (first ∷ pairs) pair = run_after_all-append limit (run_after limit run first.0 first.1) pairs pair

pub rows_from-append : (limit : ℕ) (run : RunState) (pairs : List Served) (pair : Served)
    → rows_from limit run (pairs ++ pair ∷ []) ≡ rows_from limit run pairs ++ rows_of_line limit (run_after_all limit run pairs) pair.0 pair.1
rows_from-append limit run [] pair = append-nil (rows_of_line limit run pair.0 pair.1)
rows_from-append limit run (first ∷ pairs) pair =
    ap (λ rows. rows_of_line limit run first.0 first.1 ++ rows) (rows_from-append limit (run_after limit run first.0 first.1) pairs pair)
    ∙ sym (append_assoc (rows_of_line limit run first.0 first.1) (rows_from limit (run_after limit run first.0 first.1) pairs) (rows_of_line limit (run_after_all limit (run_after limit run first.0 first.1) pairs) pair.0 pair.1))

and_true : (a : Bool) → a && true ≡ a
and_true true = refl
and_true false = refl

and_assoc : (a b c : Bool) → a && (b && c) ≡ (a && b) && c
and_assoc true b c = refl
and_assoc false b c = refl

-- behind the last line stands none, and behind a plain one any may stand
followed_by_none : (line : Line) (outcome : LineOutcome) → may_be_followed line outcome [] ≡ true
followed_by_none line served = refl
followed_by_none line no_memory = refl
followed_by_none line (flush_failed reply) = refl
followed_by_none line unserved = refl

followed : (line : Line) (outcome : LineOutcome) (pairs : List Served) → is_plain outcome ≡ true → may_be_followed line outcome pairs ≡ true
followed line served pairs plain = refl
followed line no_memory pairs plain = refl
followed line (flush_failed reply) pairs plain = cc
followed line unserved pairs plain = cc

pub outcomes_may_come-append : (limit : ℕ) (run : RunState) (pairs : List Served) (pair : Served) → list_all is_plain_pair pairs ≡ true
    → outcomes_may_come limit run (pairs ++ pair ∷ []) ≡ outcomes_may_come limit run pairs && may_come limit (run_after_all limit run pairs) pair.0 pair.1
outcomes_may_come-append limit run [] pair plain =
    let may = may_come limit run pair.0 pair.1 in
    ap (λ b. (may && b) && true) (followed_by_none pair.0 pair.1) ∙ and_true (may && true) ∙ and_true may
outcomes_may_come-append limit run (first ∷ pairs) pair plain =
    let after = run_after limit run first.0 first.1 in
    let may = may_come limit run first.0 first.1 in
    let last = may_come limit (run_after_all limit after pairs) pair.0 pair.1 in
    let here : is_plain first.1 ≡ true = and_left (is_plain first.1) (list_all is_plain_pair pairs) plain in
    let rest = and_right (is_plain first.1) (list_all is_plain_pair pairs) plain in
    ap (λ b. (may && b) && outcomes_may_come limit after (pairs ++ pair ∷ [])) (followed first.0 first.1 (pairs ++ pair ∷ []) here)
    ∙ ap (λ b. (may && true) && b) (outcomes_may_come-append limit after pairs pair rest)
    ∙ and_assoc (may && true) (outcomes_may_come limit after pairs) last
    ∙ ap (λ b. ((may && b) && outcomes_may_come limit after pairs) && last) (sym (followed first.0 first.1 pairs here))

-- the transcript of one line more
pub run_transcript-append : (opening : DatabaseState) (limit : ℕ) (pairs : List Served) (pair : Served)
    → run_transcript opening limit (pairs ++ pair ∷ []) ≡ run_transcript opening limit pairs ++ line_text limit (run_after_all limit (run_from opening) pairs) pair.0 pair.1
run_transcript-append opening limit pairs pair =
    ap transcript_of (rows_from-append limit (run_from opening) pairs pair)
    ∙ flat_map-append row_line (rows_from limit (run_from opening) pairs) (rows_of_line limit (run_after_all limit (run_from opening) pairs) pair.0 pair.1)

-- the outcomes of one line more, which may be any where all before are plain
pub MayComeTo-append : (opening : DatabaseState) (limit : ℕ) (lines : List Line) (pairs : List Served) (line : Line) (outcome : LineOutcome) → AreOutcomesOf opening limit lines pairs
    → may_come limit (run_after_all limit (run_from opening) pairs) line outcome ≡ true
    → MayComeTo opening limit (lines ++ line ∷ []) (pairs ++ (line, outcome) ∷ [])
MayComeTo-append opening limit lines pairs line outcome so_far may =
    let pair : Served = (line, outcome) in (
      map-append first_of_pair pairs (pair ∷ []) ∙ ap (λ xs. xs ++ line ∷ []) so_far.0,
      outcomes_may_come-append limit (run_from opening) pairs pair so_far.1 ∙ and_from (outcomes_may_come limit (run_from opening) pairs) (may_come limit (run_after_all limit (run_from opening) pairs) line outcome) so_far.2 may,
    )

pub all_plain-append : (pairs : List Served) (line : Line) (outcome : LineOutcome) → list_all is_plain_pair pairs ≡ true → is_plain outcome ≡ true → list_all is_plain_pair (pairs ++ (line, outcome) ∷ []) ≡ true
all_plain-append pairs line outcome so_far plain =
    list_all-append is_plain_pair pairs ((line, outcome) ∷ []) ∙ and_from (list_all is_plain_pair pairs) (is_plain outcome && true) so_far (and_true (is_plain outcome) ∙ plain)

pub AreOutcomesOf-append : (opening : DatabaseState) (limit : ℕ) (lines : List Line) (pairs : List Served) (line : Line) (outcome : LineOutcome) → AreOutcomesOf opening limit lines pairs → is_plain outcome ≡ true
    → may_come limit (run_after_all limit (run_from opening) pairs) line outcome ≡ true
    → AreOutcomesOf opening limit (lines ++ line ∷ []) (pairs ++ (line, outcome) ∷ [])
AreOutcomesOf-append opening limit lines pairs line outcome so_far plain may =
    let more = MayComeTo-append opening limit lines pairs line outcome so_far may in
    (more.0, all_plain-append pairs line outcome so_far.1 plain, more.1)

-- ---- the lines that are gone and the lines that are left

pub calls_of-take_more : (lines : List (Session × Request)) (i : ℕ) (line : Session × Request) → line ≡ get_or lines i line → i < length lines
    → calls_of (take (i + 1) lines) ≡ calls_of (take i lines) ++ call_of line ∷ []
calls_of-take_more lines i line is below =
    rw (add-one i, take-suc lines i line below, sym is) (map-append call_of (take i lines) (line ∷ []))

pub calls_of-drop_one : (lines : List (Session × Request)) (i : ℕ) (line : Session × Request) → line ≡ get_or lines i line → i < length lines
    → calls_of (drop i lines) ≡ call_of line ∷ calls_of (drop (i + 1) lines)
calls_of-drop_one lines i line is below = rw (add-one i, drop-cons lines i line below, sym is) refl

pub take_calls_of : (lines : List (Session × Request)) (i : ℕ) → calls_of (take i lines) ≡ take i (calls_of lines)
take_calls_of lines i = sym (take-map call_of i lines)

pub drop_calls_of : (lines : List (Session × Request)) (i : ℕ) → calls_of (drop i lines) ≡ drop i (calls_of lines)
drop_calls_of lines i = sym (drop-map call_of i lines)

-- all but the last of one more
pub but_last-append : (pairs : List Served) (pair : Served) → but_last (pairs ++ pair ∷ []) ≡ pairs
but_last-append pairs pair =
    ap (λ (n : ℕ). take n (pairs ++ pair ∷ [])) (one_less (length (pairs ++ pair ∷ [])) (length pairs) (length-append pairs (pair ∷ [])))
    ∙ take-append_seam pairs (pair ∷ [])
  where
    one_less : (a b : ℕ) → a ≡ b + 1 → a - 1 ≡ b
    one_less a b e = omega arith

-- ---- the lines of a piece, one by one

-- the next line of a piece
pub drop-next : (lines : List (Session × Request)) (i : ℕ) (line : Session × Request) → line ≡ get_or lines i line → i < length lines
    → drop i (calls_of lines) ≡ call_of line ∷ drop (i + 1) (calls_of lines)
drop-next lines i line is below =
    sym (drop_calls_of lines i) ∙ calls_of-drop_one lines i line is below ∙ ap (λ (rest : List Line). call_of line ∷ rest) (drop_calls_of lines (i + 1))

pub take-next : (lines : List (Session × Request)) (i : ℕ) (line : Session × Request) → line ≡ get_or lines i line → i < length lines
    → take i (calls_of lines) ++ call_of line ∷ [] ≡ take (i + 1) (calls_of lines)
take-next lines i line is below =
    ap (λ (gone : List Line). gone ++ call_of line ∷ []) (sym (take_calls_of lines i))
    ∙ sym (calls_of-take_more lines i line is below) ∙ take_calls_of lines (i + 1)
