-- Whether bytes, with so many more behind them, may be an entry.
use Rattle.std.specs.Prelude.{ℕ, zero, suc, ◌+◌, ◌-◌, ◌*◌, ◌^◌, ◌%◌, Bool, true, false, ◌&&◌, ◌||◌, ◌==◌, cond, List, [], ◌∷◌, length, nat_le, nat_lt, Option, Some, None}
use Rattle.std.specs.Int.{Width, w16, w32, byte_len, from_le_bytes}
use Rattle.column_set.specs.NumberReading.{number_at}
use Rattle.log_grammar.specs.EntryReading.{byte_at, bytes_at}

-- what is answered behind a field that is there, or else for the part of it that is
abbrev pub after : {A : Type 0} → Option (A × List ℕ) → (A → List ℕ → ℕ → Bool) → ℕ → Bool → Bool
after (Some x) rest missing part = rest x.0 x.1 missing
after None rest missing part = part

-- nothing stands behind the last field
abbrev pub end_cut : List ℕ → ℕ → Bool
end_cut bytes missing = (length bytes == 0) && (missing == 0)

-- so many of the missing bytes are of a field, and what follows has the others
abbrev pub filled : ℕ → (List ℕ → ℕ → Bool) → ℕ → Bool
filled n rest missing = nat_le n missing && rest [] (missing - n)

-- so many bytes of any kind
abbrev pub bytes_cut : ℕ → (List ℕ → ℕ → Bool) → List ℕ → ℕ → Bool
bytes_cut n rest bytes missing = after (bytes_at n bytes) (λ text. rest) missing (filled (n - length bytes) rest missing)

-- a number on which nothing that follows depends
abbrev pub number_cut : Width → (List ℕ → ℕ → Bool) → List ℕ → ℕ → Bool
number_cut w rest bytes missing = after (number_at w bytes) (λ n. rest) missing (filled (byte_len w - length bytes) rest missing)

-- a front of a number of two bytes: none of its bytes, or its low one
abbrev pub part16 : (ℕ → Bool) → (ℕ → ℕ → Bool) → List ℕ → ℕ → Bool
part16 none low [] missing = none missing
part16 none low (byte ∷ bytes) missing = low byte missing

-- a byte that passes, and on which nothing that follows depends
abbrev pub byte_cut : (ℕ → Bool) → (List ℕ → ℕ → Bool) → List ℕ → ℕ → Bool
byte_cut passes rest bytes missing = after (byte_at bytes) (λ n behind left. passes n && rest behind left) missing (filled 1 rest missing)

-- a number within bounds
abbrev pub within : ℕ → ℕ → ℕ → Bool
within least most n = nat_le least n && nat_le n most

-- ---- bookmarks

abbrev pub bookmark_size : ℕ → Bool
bookmark_size n = nat_le 1 n && nat_le n 255

-- `none` tells how many bytes a bookmark and what follows it may have
abbrev pub bookmark_cut : (ℕ → Bool) → (List ℕ → ℕ → Bool) → List ℕ → ℕ → Bool
bookmark_cut none rest bytes missing =
    after (number_at w16 bytes) (λ n behind left. bookmark_size n && bytes_cut n rest behind left) missing
    (part16 none (λ low left. nat_le 1 low && filled (1 + low) rest left) bytes missing)

-- ---- values

-- the length of a value of which not all four bytes are there, with `others` values behind it
abbrev pub size_part : ℕ → List ℕ → ℕ → Bool
size_part others bytes missing =
    nat_le (4 - length bytes) missing
    && cond (others == 0) ((missing - (4 - length bytes)) % 256 ^ length bytes == from_le_bytes w32 bytes) (nat_le (from_le_bytes w32 bytes + 6 * others) (missing - (4 - length bytes)))

-- so many values, whose columns do not fall from `least` on, and nothing behind them
abbrev pub values_cut : ℕ → ℕ → List ℕ → ℕ → Bool
values_cut zero least bytes missing = end_cut bytes missing
values_cut (suc others) least bytes missing =
    after (number_at w16 bytes) (λ column behind left.
    nat_le least column && after (number_at w32 behind) (λ n. bytes_cut n (values_cut others column)) left (size_part others behind left)) missing
    (part16 (λ left. nat_le (6 + 6 * others) left) (λ low left. nat_le least (low + 65280) && nat_le (5 + 6 * others) left) bytes missing)

abbrev pub record_none : ℕ → Bool
record_none missing = (missing == 2) || nat_le 8 missing

abbrev pub record_low : ℕ → ℕ → Bool
record_low low missing = cond (missing == 1) (low == 0) (nat_le (1 + 6 * cond (low == 0) 256 low) missing)

-- a count and so many values
abbrev pub record_cut : List ℕ → ℕ → Bool
record_cut bytes missing = after (number_at w16 bytes) (λ n. values_cut n 0) missing (part16 record_none record_low bytes missing)

-- ---- changes of records

-- a bookmark and a record
abbrev pub copied_bookmark_none : ℕ → Bool
copied_bookmark_none missing = nat_le 5 missing

-- what follows the flag of a copied record
abbrev pub copied_after_cut : ℕ → List ℕ → ℕ → Bool
copied_after_cut zero bytes missing = record_cut bytes missing
copied_after_cut (suc zero) bytes missing = bookmark_cut copied_bookmark_none record_cut bytes missing
copied_after_cut (suc (suc n)) bytes missing = false

-- a copied record's flag, and the record
abbrev pub copied_none : ℕ → Bool
copied_none missing = (missing == 3) || nat_le 6 missing

abbrev pub copied_cut : List ℕ → ℕ → Bool
copied_cut bytes missing = after (byte_at bytes) copied_after_cut missing (copied_none missing)

-- a bookmark with what follows it in a Put, in an Add, and in a Drop or a Hold
abbrev pub put_none : ℕ → Bool
put_none missing = nat_le 6 missing

abbrev pub add_none : ℕ → Bool
add_none missing = nat_le 9 missing && nat_le missing 263

abbrev pub drop_none : ℕ → Bool
drop_none missing = nat_le 3 missing && nat_le missing 257

abbrev pub put_cut : List ℕ → ℕ → Bool
put_cut bytes missing = number_cut w32 (bookmark_cut put_none copied_cut) bytes missing

abbrev pub add_cut : List ℕ → ℕ → Bool
add_cut bytes missing = number_cut w32 (bookmark_cut add_none (number_cut w16 (number_cut w32 end_cut))) bytes missing

abbrev pub drop_cut : List ℕ → ℕ → Bool
drop_cut bytes missing = number_cut w32 (bookmark_cut drop_none end_cut) bytes missing

-- ---- names

abbrev pub name_size : ℕ → Bool
name_size n = within 1 64 n

-- a name, the last field
abbrev pub name_none : ℕ → Bool
name_none missing = within 2 65 missing

abbrev pub name_cut : List ℕ → ℕ → Bool
name_cut bytes missing = after (byte_at bytes) (λ n behind left. name_size n && bytes_cut n end_cut behind left) missing (name_none missing)

-- ---- schema changes

-- type, flags and name
abbrev pub column_cut : List ℕ → ℕ → Bool
column_cut bytes missing = byte_cut (within 1 13) (byte_cut (within 0 15) name_cut) bytes missing

-- so many columns with flags
abbrev pub pairs_cut : ℕ → (List ℕ → ℕ → Bool) → List ℕ → ℕ → Bool
pairs_cut zero rest bytes missing = rest bytes missing
pairs_cut (suc n) rest bytes missing = number_cut w16 (byte_cut (within 0 1) (pairs_cut n rest)) bytes missing

abbrev pub conditions_none : ℕ → Bool
conditions_none missing = within 3 831 missing

abbrev pub conditions_cut : List ℕ → ℕ → Bool
conditions_cut bytes missing = after (byte_at bytes) (λ n. pairs_cut n name_cut) missing (conditions_none missing)

abbrev pub segments_none : ℕ → Bool
segments_none missing = within 4 1597 missing

abbrev pub segments_cut : List ℕ → ℕ → Bool
segments_cut bytes missing = after (byte_at bytes) (λ n. pairs_cut n conditions_cut) missing (segments_none missing)

-- four bytes of a number below 256, of which the first is within bounds
abbrev pub small_cut : ℕ → ℕ → (List ℕ → ℕ → Bool) → List ℕ → ℕ → Bool
small_cut least most rest bytes missing = byte_cut (within least most) (byte_cut (within 0 0) (byte_cut (within 0 0) (byte_cut (within 0 0) rest))) bytes missing

-- the flags of an index, below 1,024
abbrev pub index_flags_cut : (List ℕ → ℕ → Bool) → List ℕ → ℕ → Bool
index_flags_cut rest bytes missing = byte_cut (within 0 255) (byte_cut (within 0 3) rest) bytes missing

-- the root, which is 0, the order of making, the flags, segments, conditions and the name
abbrev pub index_cut : List ℕ → ℕ → Bool
index_cut bytes missing = small_cut 0 0 (number_cut w32 (index_flags_cut segments_cut)) bytes missing

-- what a kind has, the table first
abbrev pub step_cut : ℕ → List ℕ → ℕ → Bool
step_cut kind bytes missing =
    cond (kind == 1) (number_cut w32 name_cut bytes missing)
    (cond (kind == 2) (number_cut w32 end_cut bytes missing)
    (cond (kind == 3) (number_cut w32 (number_cut w16 column_cut) bytes missing)
    (cond (kind == 4) (number_cut w32 (number_cut w16 end_cut) bytes missing)
    (cond (kind == 5) (number_cut w32 (number_cut w16 index_cut) bytes missing)
    (cond (kind == 6) (number_cut w32 (number_cut w16 end_cut) bytes missing) false)))))

abbrev pub schema_none : ℕ → Bool
schema_none missing = (missing == 5) || within 7 1614 missing

abbrev pub schema_cut : List ℕ → ℕ → Bool
schema_cut bytes missing = after (byte_at bytes) step_cut missing (schema_none missing)

-- ---- entries

-- the fields of the tag
abbrev pub kind_cut : ℕ → List ℕ → ℕ → Bool
kind_cut tag bytes missing =
    cond (tag == 3) (number_cut w32 end_cut bytes missing)
    (cond (tag == 4) (number_cut w32 end_cut bytes missing)
    (cond (tag == 7) (put_cut bytes missing)
    (cond (tag == 8) (drop_cut bytes missing)
    (cond (tag == 9) (add_cut bytes missing)
    (cond (tag == 10) (drop_cut bytes missing)
    (cond (tag == 15) (schema_cut bytes missing)
    (within 1 14 tag && end_cut bytes missing)))))))

-- so many bytes an entry may have behind its length
abbrev pub rest_none : ℕ → Bool
rest_none missing = (missing == 5) || (within 9 10 missing || nat_le 12 missing)

-- the tag, the session and the fields
abbrev pub rest_cut : List ℕ → ℕ → Bool
rest_cut bytes missing = after (byte_at bytes) (λ tag. small_cut 1 99 (kind_cut tag)) missing (rest_none missing)

-- whether the bytes are a front of an entry, whose length is cut too or counts more bytes than are there
abbrev pub front_cut : List ℕ → Bool
front_cut bytes = after (number_at w32 bytes) (λ count rest none. nat_lt (length rest) count && rest_cut rest (count - length rest)) 0 true
