-- The calls before the records, by their places.
use Rattle.std.proofs.Common.{◌≡◌, ℕ, ◌+◌, ◌-◌, ◌<◌, ◌≤◌, List, [], ◌∷◌, ◌++◌, length, map, Some, None, refl, ap, ◌∙◌, arith}
use Rattle.std.specs.Prelude.{codes, true, option_map, slice_get}
use Rattle.std.proofs.lemmas.Option.{slice_get-map, slice_get_past}
use Rattle.jet_base.specs.declared.words.ColType.TheVariants as kind
use Rattle.session_local.specs.declared.request.Request.{Request}
use Rattle.session_local.specs.declared.request.Request.TheVariants as call
use Rattle.load_gen.specs.declared.table.LoadIndex.{LoadIndex}
use Rattle.load_gen.specs.Table.{add_column, add_columns, add_numbered_column, add_numbered_columns, create_index, cursor, load_indexes, opening_calls, plain_column, table_name}
use Rattle.load_gen.proofs.Pieces.{get_behind, get_front, get_mapped, get_mapped_past}

-- ---- the numbered columns

pub numbered : (place : ℕ) → place < 34 → slice_get add_numbered_columns place ≡ Some (add_numbered_column (7 + place))
unfolding add_numbered_columns
numbered place h = get_mapped add_numbered_column 7 34 place (7 + place) h refl

pub numbered_past : (place : ℕ) → 34 ≤ place → slice_get add_numbered_columns place ≡ None
unfolding add_numbered_columns
numbered_past place h = get_mapped_past add_numbered_column 7 34 place h

-- ---- all columns

pub column_id : (place : ℕ) → place ≡ 0 → slice_get add_columns place ≡ Some (add_column (codes "id") kind.Long plain_column)
unfolding add_columns
column_id place e = ap (slice_get add_columns) e

pub column_name : (place : ℕ) → place ≡ 1 → slice_get add_columns place ≡ Some (add_column (codes "name") kind.Text plain_column)
unfolding add_columns
column_name place e = ap (slice_get add_columns) e

pub column_mail : (place : ℕ) → place ≡ 2 → slice_get add_columns place ≡ Some (add_column (codes "mail") kind.Text (record plain_column { tagged = true; multi = true }))
unfolding add_columns
column_mail place e = ap (slice_get add_columns) e

pub column_group : (place : ℕ) → place ≡ 3 → slice_get add_columns place ≡ Some (add_column (codes "grp") kind.Long plain_column)
unfolding add_columns
column_group place e = ap (slice_get add_columns) e

pub column_note : (place : ℕ) → place ≡ 4 → slice_get add_columns place ≡ Some (add_column (codes "note") kind.LongText plain_column)
unfolding add_columns
column_note place e = ap (slice_get add_columns) e

pub column_hits : (place : ℕ) → place ≡ 5 → slice_get add_columns place ≡ Some (add_column (codes "hits") kind.Long (record plain_column { escrow = true }))
unfolding add_columns
column_hits place e = ap (slice_get add_columns) e

pub column_numbered : (place : ℕ) → 6 ≤ place → slice_get add_columns place ≡ slice_get add_numbered_columns (place - 6)
unfolding add_columns
column_numbered place h = get_behind (
    add_column (codes "id") kind.Long plain_column
    ∷ add_column (codes "name") kind.Text plain_column
    ∷ add_column (codes "mail") kind.Text (record plain_column { tagged = true; multi = true })
    ∷ add_column (codes "grp") kind.Long plain_column
    ∷ add_column (codes "note") kind.LongText plain_column
    ∷ add_column (codes "hits") kind.Long (record plain_column { escrow = true })
    ∷ []) add_numbered_columns 6 place refl h

pub ruleset columns = (numbered, numbered_past, column_id, column_name, column_mail, column_group, column_note, column_hits, column_numbered)

-- ---- all calls

length-add_columns : length add_columns ≡ 40
unfolding add_columns add_numbered_columns
length-add_columns = refl

pub length-opening_calls : length opening_calls ≡ 49
unfolding opening_calls add_columns add_numbered_columns
length-opening_calls = refl

pub opening_session : (place : ℕ) → place ≡ 0 → slice_get opening_calls place ≡ Some call.BeginSession
unfolding opening_calls
opening_session place e = ap (slice_get opening_calls) e

pub opening_table : (place : ℕ) → place ≡ 1 → slice_get opening_calls place ≡ Some (call.CreateTable table_name)
unfolding opening_calls
opening_table place e = ap (slice_get opening_calls) e

pub opening_column : (place : ℕ) → 2 ≤ place → place < 42 → slice_get opening_calls place ≡ slice_get add_columns (place - 2)
unfolding opening_calls
opening_column place least most =
    let behind : List Request = map create_index load_indexes ++ call.OpenTable cursor table_name ∷ [] in
    let within : place - 2 < length add_columns = omega (arith, length-add_columns) in
    get_behind (call.BeginSession ∷ call.CreateTable table_name ∷ []) (add_columns ++ behind) 2 place refl least
    ∙ get_front add_columns behind (place - 2) within

behind_columns : (place : ℕ) → 42 ≤ place → slice_get opening_calls place ≡ slice_get (map create_index load_indexes ++ call.OpenTable cursor table_name ∷ []) (place - 42)
unfolding opening_calls
behind_columns place least =
    let behind : List Request = map create_index load_indexes ++ call.OpenTable cursor table_name ∷ [] in
    let same : place - 2 - 40 ≡ place - 42 = omega arith in
    get_behind (call.BeginSession ∷ call.CreateTable table_name ∷ []) (add_columns ++ behind) 2 place refl (omega arith)
    ∙ get_behind add_columns behind 40 (place - 2) length-add_columns (omega arith)
    ∙ ap (slice_get behind) same

pub opening_index : (place : ℕ) → 42 ≤ place → place < 48 → slice_get opening_calls place ≡ option_map create_index (slice_get load_indexes (place - 42))
opening_index place least most =
    behind_columns place least
    ∙ get_front (map create_index load_indexes) (call.OpenTable cursor table_name ∷ []) (place - 42) (omega arith)
    ∙ slice_get-map create_index load_indexes (place - 42)

pub opening_opened : (place : ℕ) → place ≡ 48 → slice_get opening_calls place ≡ Some (call.OpenTable cursor table_name)
unfolding opening_calls add_columns add_numbered_columns
opening_opened place e = ap (slice_get opening_calls) e

pub opening_past : (place : ℕ) → 49 ≤ place → slice_get opening_calls place ≡ None
opening_past place h = slice_get_past opening_calls place (omega (arith, length-opening_calls))

pub ruleset opening = (opening_session, opening_table, opening_column, opening_index, opening_opened, opening_past)

-- ---- the indexes

pub indexed : (place : ℕ) (made : LoadIndex) → slice_get load_indexes place ≡ Some made → option_map create_index (slice_get load_indexes place) ≡ Some (create_index made)
indexed place made e = ap (option_map create_index) e

pub indexed_past : (place : ℕ) → slice_get load_indexes place ≡ None → option_map create_index (slice_get load_indexes place) ≡ None
indexed_past place e = ap (option_map create_index) e

pub ruleset indexes = (indexed, indexed_past)
