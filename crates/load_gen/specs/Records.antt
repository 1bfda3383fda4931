-- The records of the generated script, and the calls that put them.
use Rattle.std.specs.Prelude.{ℕ, ◌+◌, ◌-◌, ◌*◌, ◌/◌, ◌%◌, ◌==◌, pos, Bool, false, if◌then◌else◌, List, [], ◌∷◌, ◌++◌, codes, map}
use Rattle.std.specs.List.{flat_map, range_with_len}
use Rattle.jet_base.specs.declared.words.Given.{Given}
use Rattle.jet_base.specs.declared.words.Given.TheVariants as given
use Rattle.jet_base.specs.declared.words.Prepare.TheVariants as prepare
use Rattle.session_local.specs.declared.request.Request.{Request}
use Rattle.session_local.specs.declared.request.Request.TheVariants as call
use Rattle.load_gen.specs.Table.{cursor, last_digit, numbered_name}

-- the last four, and the last six decimal digits of a number
abbrev pub four_digits : ℕ → List ℕ
four_digits n = last_digit (n / 1000) ∷ last_digit (n / 100) ∷ last_digit (n / 10) ∷ last_digit n ∷ []

abbrev pub six_digits : ℕ → List ℕ
six_digits n = last_digit (n / 100000) ∷ last_digit (n / 10000) ∷ four_digits n

-- ---- the values of record i

abbrev pub set_value : List ℕ → ℕ → Given → Request
set_value column sequence value = call.SetColumn cursor column sequence value

-- value k of `mail`
abbrev pub set_mail : ℕ → ℕ → Request
set_mail i k = set_value (codes "mail") k (given.Bytes (codes "m" ++ six_digits i ++ codes "x" ++ last_digit k ∷ []))

-- `mail` has 1, 2 or 3 values
abbrev pub set_mails : ℕ → List Request
set_mails i = map (set_mail i) (range_with_len 1 (1 + i % 3))

-- `grp` is left NULL in each tenth record
abbrev pub set_group : ℕ → List Request
set_group i = if i % 10 == 0 then [] else set_value (codes "grp") 1 (given.Number (pos (i % 7))) ∷ []

abbrev pub set_number : ℕ → ℕ → Request
set_number i k = set_value (numbered_name k) 1 (given.Number (pos (i * k % 1000)))

abbrev pub set_note : ℕ → Request
set_note i = set_value (codes "note") 1 (given.Bytes (codes "n" ++ four_digits (i % 100)))

-- `note`, and `a7` to `a40`
unfoldable pub set_last_values : ℕ → List Request
set_last_values i = set_note i ∷ map (set_number i) (range_with_len 7 34)

-- the values behind those of `mail`
unfoldable pub set_later_values : ℕ → List Request
set_later_values i = set_group i ++ set_last_values i

-- All but `hits`, which begins at 0.
unfoldable pub set_values : ℕ → List Request
set_values i =
    set_value (codes "id") 1 (given.Number (pos i))
    ∷ set_value (codes "name") 1 (given.Bytes (codes "u" ++ six_digits i))
    ∷ set_mails i ++ set_later_values i

-- ---- the calls of record i

-- A transaction is begun before each hundred records, and committed behind them.
abbrev pub begins_transaction : ℕ → Bool
begins_transaction i = (i - 1) % 100 == 0

abbrev pub ends_transaction : ℕ → Bool
ends_transaction i = i % 100 == 0

-- the record is put, and behind each hundredth one the transaction is committed
unfoldable pub filling_calls : ℕ → List Request
filling_calls i =
    call.PrepareUpdate cursor prepare.Insert
    ∷ set_values i
    ++ call.Update cursor
    ∷ (if ends_transaction i then call.CommitTransaction false ∷ [] else [])

unfoldable pub record_calls : ℕ → List Request
record_calls i = (if begins_transaction i then call.BeginTransaction ∷ [] else []) ++ filling_calls i

-- records 1 to n
unfoldable pub records_calls : ℕ → List Request
records_calls n = flat_map record_calls (range_with_len 1 n)

-- the commit behind the last record, where it has not come yet
abbrev pub last_commit : ℕ → List Request
last_commit n = if ends_transaction n then [] else call.CommitTransaction false ∷ []
