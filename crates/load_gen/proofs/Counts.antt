-- How the last count grows, and the lines of the counts.
use Rattle.std.proofs.Common.{◌≡◌, ℕ, zero, suc, ◌+◌, ◌-◌, ◌<◌, ◌≤◌, List, [], ◌∷◌, ◌++◌, length, get_or, set, drop, refl, ap, sym, ◌∙◌, add-one, append_assoc, arith}
use Rattle.std.specs.Prelude.{Bool, true, false, ◌&&◌, if◌then◌else◌, min}
use Rattle.std.proofs.lemmas.List.{append-nil, length_push}
use Rattle.std.proofs.lemmas.List.Sums.{fold-append}
use Rattle.jet_base.specs.declared.replies.Jet.{Jet}
use Rattle.session_local.specs.Answer.{Row}
use Rattle.session_local.specs.declared.request.Request.{Request}
use Rattle.load_gen.specs.declared.table.LoadIndex.{LoadIndex}
use Rattle.load_gen.specs.Table.{index_name}
use Rattle.load_gen.specs.Summary.{WalkCount, begins_walk, count_of_rows, counted, counted_call, counted_row, index_lines, is_move, is_success, one_more, summary_line, walked_counts}

-- ---- the last count

abbrev pub last_count : List ℕ → ℕ
last_count counts = get_or counts (length counts - 1) 0

-- it is the last of what follows the first
last_behind : (first : ℕ) (counts : List ℕ) (n : ℕ) → length counts ≡ suc n → last_count (first ∷ counts) ≡ last_count counts
last_behind first counts n e =
    let whole : length (first ∷ counts) - 1 ≡ suc n = omega arith in
    let part : n ≡ length counts - 1 = omega arith in
    ap (λ k. get_or (first ∷ counts) k 0) whole ∙ ap (λ k. get_or counts k 0) part

length-one_more : (counts : List ℕ) → length (one_more counts) ≡ length counts
length-one_more [] = refl
length-one_more (count ∷ []) = refl
length-one_more (count ∷ next ∷ counts) = ap suc (length-one_more (next ∷ counts))

last_one_more : (counts : List ℕ) → last_count (one_more counts) ≤ last_count counts + 1
last_one_more [] = omega arith
last_one_more (count ∷ []) = omega arith
last_one_more (count ∷ next ∷ counts) = omega (
  arith,
  last_behind count (one_more (next ∷ counts)) (length counts) (length-one_more (next ∷ counts)),
  last_behind count (next ∷ counts) (length counts) refl,
  last_one_more (next ∷ counts),
)

last_begun : (counts : List ℕ) → last_count (counts ++ 0 ∷ []) ≡ 0
last_begun [] = refl
last_begun (count ∷ []) = refl
last_begun (count ∷ next ∷ counts) = last_behind count ((next ∷ counts) ++ 0 ∷ []) (length (counts ++ 0 ∷ [])) refl ∙ last_begun (next ∷ counts)

pub last_counted : (counts : List ℕ) (request : Request) (reply : Jet) → last_count (counted counts request reply) ≤ last_count counts + 1
last_counted counts request reply = by (begins_walk request) (is_move request && is_success reply)
  where
    by : (begins moves : Bool) → last_count (if begins then counts ++ 0 ∷ [] else if moves then one_more counts else counts) ≤ last_count counts + 1
    by true moves = omega (arith, last_begun counts)
    by false true = last_one_more counts
    by false false = omega arith

pub ruleset last_counts = last_counted

-- one more in the last count is the list with it at the last place
pub one_more_at : (counts : List ℕ) (i : ℕ) → i + 1 ≡ length counts → one_more counts ≡ set counts i (get_or counts i 0 + 1)
one_more_at [] i e = absurd (omega arith)
one_more_at (count ∷ []) zero e = ap (λ k. k ∷ []) (let same : suc count ≡ count + 1 = omega arith in same)
one_more_at (count ∷ []) (suc i) e = absurd (omega arith)
one_more_at (count ∷ next ∷ counts) zero e = absurd (omega arith)
one_more_at (count ∷ next ∷ counts) (suc i) e = ap (λ l. count ∷ l) (one_more_at (next ∷ counts) i (omega arith))

pub one_more_last : (counts : List ℕ) → 0 < length counts → one_more counts ≡ set counts (length counts - 1) (get_or counts (length counts - 1) 0 + 1)
one_more_last counts h = one_more_at counts (length counts - 1) (omega arith)

pub no_count : (counts : List ℕ) → length counts ≡ 0 → one_more counts ≡ counts
no_count [] e = refl
no_count (count ∷ counts) e = absurd (omega arith)

pub ruleset ends = (one_more_last, no_count)

-- ---- the lines

pub lines_turn : (indexes : List LoadIndex) (counts : List ℕ) (n : ℕ) (walked : LoadIndex) (count : ℕ)
    → n < length indexes → n < length counts → get_or indexes n walked ≡ walked → get_or counts n count ≡ count
    → index_lines (drop n indexes) (drop n counts) ≡ summary_line (index_name walked) count ++ index_lines (drop (suc n) indexes) (drop (suc n) counts)
lines_turn [] counts n walked count h k p q = absurd (omega arith)
lines_turn (i ∷ indexes) [] n walked count h k p q = absurd (omega arith)
lines_turn (i ∷ indexes) (c ∷ counts) zero walked count h k p q =
    ap (λ x. summary_line (index_name x) c ++ index_lines indexes counts) p ∙ ap (λ x. summary_line (index_name walked) x ++ index_lines indexes counts) q
lines_turn (i ∷ indexes) (c ∷ counts) (suc n) walked count h k p q = lines_turn indexes counts n walked count (omega arith) (omega arith) p q

pub lines_end : (indexes : List LoadIndex) (counts : List ℕ) (n : ℕ) → n ≡ min (length indexes) (length counts) → index_lines (drop n indexes) (drop n counts) ≡ []
lines_end [] counts zero e = refl
lines_end [] counts (suc n) e = refl
lines_end (i ∷ indexes) [] zero e = refl
lines_end (i ∷ indexes) [] (suc n) e = absurd (omega arith)
lines_end (i ∷ indexes) (c ∷ counts) zero e = absurd (omega arith)
lines_end (i ∷ indexes) (c ∷ counts) (suc n) e = lines_end indexes counts n (omega arith)

pub lines_more : (old new start named : List ℕ) (indexes : List LoadIndex) (counts : List ℕ) (n m : ℕ) (walked : LoadIndex) (count : ℕ)
    → old ++ index_lines (drop n indexes) (drop n counts) ≡ start → new ≡ old ++ summary_line named count → named ≡ index_name walked → m ≡ suc n
    → n < length indexes → n < length counts → get_or indexes n walked ≡ walked → get_or counts n count ≡ count
    → new ++ index_lines (drop m indexes) (drop m counts) ≡ start
lines_more old new start named indexes counts n m walked count so_far grown name e h k p q =
    let rest : List ℕ = index_lines (drop (suc n) indexes) (drop (suc n) counts) in
    ap (λ i. new ++ index_lines (drop i indexes) (drop i counts)) e
    ∙ ap (λ text. text ++ rest) (grown ∙ ap (λ text. old ++ summary_line text count) name)
    ∙ append_assoc old (summary_line (index_name walked) count) rest
    ∙ ap (λ text. old ++ text) (sym (lines_turn indexes counts n walked count h k p q))
    ∙ so_far

pub lines_done : (text start : List ℕ) (indexes : List LoadIndex) (counts : List ℕ) (n : ℕ)
    → text ++ index_lines (drop n indexes) (drop n counts) ≡ start → n ≡ min (length indexes) (length counts) → text ≡ start
lines_done text start indexes counts n all e =
    sym (append-nil text) ∙ ap (λ rest. text ++ rest) (sym (lines_end indexes counts n e)) ∙ all

-- ---- the rows of a run

abbrev made : ℕ → List ℕ → WalkCount
made calls counts = record { calls = calls; counts = counts }

pub rows_more : (rows : List Row) (row : Row) → count_of_rows (rows ++ row ∷ []) ≡ counted_call (count_of_rows rows) row.request row.answered.jet
rows_more rows row =
    ap (λ k. made k (walked_counts (rows ++ row ∷ []))) (length_push rows row ∙ add-one (length rows))
    ∙ ap (made (suc (length rows))) (fold-append counted_row [] rows (row ∷ []))
