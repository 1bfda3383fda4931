-- What the run of the generated script is told as.
use Rattle.std.specs.Prelude.{ℕ, suc, Bool, true, false, ◌&&◌, if◌then◌else◌, List, [], ◌∷◌, ◌++◌, codes, length}
use Rattle.std.specs.Fmt.{decimal}
use Rattle.std.specs.List.{fold}
use Rattle.jet_base.specs.declared.replies.Jet.{Jet}
use Rattle.jet_base.specs.declared.replies.Jet.TheVariants as jet
use Rattle.database_state.specs.State.{DatabaseState}
use Rattle.session_local.specs.declared.request.Request.{Request}
use Rattle.session_local.specs.declared.request.Request.TheVariants as call
use Rattle.session_local.specs.Answer.{Row}
use Rattle.session_local.specs.Run.{all_served, rows_from, run_from}
use Rattle.load_gen.specs.declared.table.LoadIndex.{LoadIndex}
use Rattle.load_gen.specs.Table.{index_name, load_indexes}
use Rattle.load_gen.specs.Script.{generated_lines}

-- one more in the last count
abbrev pub one_more : List ℕ → List ℕ
one_more [] = []
one_more (count ∷ []) = suc count ∷ []
one_more (count ∷ next ∷ counts) = count ∷ one_more (next ∷ counts)

abbrev pub begins_walk : Request → Bool
begins_walk (call.SetCurrentIndex cursor chosen) = true
begins_walk _ = false

abbrev pub is_move : Request → Bool
is_move (call.Move cursor way) = true
is_move _ = false

abbrev pub is_success : Jet → Bool
is_success jet.Success = true
is_success _ = false

-- A count begins where an index is chosen, and each move that is answered with success is one.
abbrev pub counted : List ℕ → Request → Jet → List ℕ
counted counts request reply =
    if begins_walk request then counts ++ 0 ∷ []
    else if is_move request && is_success reply then one_more counts
    else counts

abbrev pub counted_row : List ℕ → Row → List ℕ
counted_row counts row = counted counts row.request row.answered.jet

-- for each index that is chosen, how many of its moves are answered with success
abbrev pub walked_counts : List Row → List ℕ
walked_counts rows = fold counted_row [] rows

-- The rows of a run as they are counted: how many there are, and what they give.
pub record WalkCount : Type 0 where
  pub calls : ℕ
  pub counts : List ℕ

abbrev pub count_of_rows : List Row → WalkCount
count_of_rows rows = record { calls = length rows; counts = walked_counts rows }

abbrev pub count_of_nothing : WalkCount
count_of_nothing = record { calls = 0; counts = [] }

-- one call more
abbrev pub counted_call : WalkCount → Request → Jet → WalkCount
counted_call count request reply = record { calls = suc count.calls; counts = counted count.counts request reply }

-- ---- the text

abbrev pub summary_line : List ℕ → ℕ → List ℕ
summary_line name count = codes "load " ++ name ++ codes " " ++ decimal count ++ 10 ∷ []

abbrev pub index_lines : List LoadIndex → List ℕ → List ℕ
index_lines (walked ∷ indexes) (count ∷ counts) = summary_line (index_name walked) count ++ index_lines indexes counts
index_lines _ _ = []

-- the number of records, then the count of each index
abbrev pub summary_text : ℕ → List ℕ → List ℕ
summary_text n counts = summary_line (codes "records") n ++ index_lines load_indexes counts

-- The summary of the run of the generated script that begins in this state.
abbrev pub summary : ℕ → DatabaseState → ℕ → List ℕ
summary limit state n = summary_text n (walked_counts (rows_from limit (run_from state) (all_served (generated_lines n))))
