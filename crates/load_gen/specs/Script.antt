-- The generated script: a table, n records, and a walk along each index.
use Rattle.std.specs.Prelude.{ℕ, ◌+◌, ◌%◌, ◌==◌, if◌then◌else◌, List, ◌∷◌, ◌++◌, map, replicate, Some, Option, slice_get, option_map}
use Rattle.std.specs.List.{flat_map, range_with_len, sum_by}
use Rattle.jet_base.specs.Ids.{session_id}
use Rattle.jet_base.specs.declared.ids.Session.{Session}
use Rattle.jet_base.specs.declared.words.Way.TheVariants as way
use Rattle.session_local.specs.declared.request.Request.{Request}
use Rattle.session_local.specs.declared.request.Request.TheVariants as call
use Rattle.session_local.specs.Run.{Line}
use Rattle.load_gen.specs.declared.table.LoadIndex.{LoadIndex}
use Rattle.load_gen.specs.declared.table.LoadIndex.TheVariants as index
use Rattle.load_gen.specs.Table.{cursor, index_name, load_indexes, opening_calls}
use Rattle.load_gen.specs.Records.{last_commit, records_calls}

-- ---- walks

-- how many entries record i has in an index
abbrev pub entries_of_record : LoadIndex → ℕ → ℕ
entries_of_record index.Primary i = 1
entries_of_record index.Name i = 1
entries_of_record index.Mail i = 1 + i % 3
entries_of_record index.Group i = if i % 10 == 0 then 0 else 1
entries_of_record index.Note i = 3
entries_of_record index.Conditional i = if i % 10 == 0 then 0 else 1

-- the entries of records 1 to n
unfoldable pub entries_in : LoadIndex → ℕ → ℕ
entries_in walked n = sum_by (entries_of_record walked) (range_with_len 1 n)

-- An index is chosen and walked to its end: to its first entry, and then once for each of its entries. The last move
-- finds no further entry.
unfoldable pub walk_calls : ℕ → LoadIndex → List Request
walk_calls n walked =
    call.SetCurrentIndex cursor (Some (index_name walked))
    ∷ call.Move cursor way.First
    ∷ replicate (entries_in walked n) (call.Move cursor way.Next)

-- what stands behind the records
unfoldable pub ending_calls : ℕ → List Request
ending_calls n = last_commit n ++ flat_map (walk_calls n) load_indexes

-- ---- the script

unfoldable pub generated_calls : ℕ → List Request
generated_calls n = opening_calls ++ (records_calls n ++ ending_calls n)

-- calls as lines of session 1
abbrev pub lines_of_session : List Request → List Line
lines_of_session calls = map (λ request. (1, request)) calls

-- the script
abbrev pub generated_lines : ℕ → List Line
generated_lines n = lines_of_session (generated_calls n)

-- its line i, from 0; none behind the last
abbrev pub generated_line : ℕ → ℕ → Option (Session × Request)
generated_line n i = option_map (λ request. (session_id 1, request)) (slice_get (generated_calls n) i)
