-- What each atomic step tells its caller: v is the view before, w the view after, and found the word that was read.
use Rattle.std.specs.Prelude.{◌≡◌, ℕ, ◌≤◌, true, List, ◌++◌, length}
use mathlib.Core.List.{IsPrefix}
use Rattle.atomic_table.specs.Table.{Step, Me}
use Rattle.index_derive.specs.declared.log.Entry.{Entry}
use Rattle.history_word.specs.declared.views.View.{View}
use Rattle.history_word.specs.Parts.{lone_view, with_log, longer_log, informed, own_entries, given_to, trimmed_to}

-- the guest's log begins that of the `Turn`, and has all entries of its sessions in it
abbrev pub IsBehind : View → Type 0
IsBehind v = IsPrefix v.guest.log v.mine.log × (own_entries v.guest.rights v.guest.log ≡ own_entries v.guest.rights v.mine.log)

-- the log grows by these entries, and its length before was found
abbrev pub Appends : List Entry → Step (Unit {0}) → Me (Unit {0}) View → ℕ → Me (Unit {0}) View → Type 0
Appends entries s v found w =
    (found ≡ length v.0.mine.log) × IsBehind v.0
    × (w.0 ≡ record { mine = with_log v.0.mine (v.0.mine.log ++ entries); guest = with_log v.0.guest (v.0.mine.log ++ entries) })
    × (w.1 ≡ v.1)

-- the guest sees the whole log
abbrev pub Looks : Step (Unit {0}) → Me (Unit {0}) View → ℕ → Me (Unit {0}) View → Type 0
Looks s v found w =
    (found ≡ length v.0.mine.log) × IsBehind v.0
    × (v.0.guest.store ≡ true → v.0.mine.trimmed ≤ v.0.guest.given)
    × (w.0 ≡ record { mine = v.0.mine; guest = with_log v.0.guest v.0.mine.log })
    × (w.1 ≡ v.1)

-- what the guest knows is taken over, which begins with what was known before
abbrev pub Learns : Step (Unit {0}) → Me (Unit {0}) View → ℕ → Me (Unit {0}) View → Type 0
Learns s v found w =
    IsPrefix v.0.mine.log (longer_log v.0.mine.log v.0.guest.log)
    × IsPrefix v.0.guest.log (longer_log v.0.mine.log v.0.guest.log)
    × (own_entries v.0.mine.rights (longer_log v.0.mine.log v.0.guest.log) ≡ own_entries v.0.mine.rights v.0.mine.log)
    × (v.0.mine.store ≡ true → (v.0.guest.faults ≤ v.0.mine.faults) × (v.0.guest.flushed ≤ v.0.mine.given) × (v.0.mine.flushed ≤ v.0.mine.given))
    × (w.0 ≡ lone_view (informed v.0.mine v.0.guest))
    × (w.1 ≡ v.1)

-- the given position and the faults seen rise or stay
abbrev pub Gives : ℕ → ℕ → Step (Unit {0}) → Me (Unit {0}) View → ℕ → Me (Unit {0}) View → Type 0
Gives to count s v found w = (w.0 ≡ record { mine = given_to to count v.0.mine; guest = v.0.guest }) × (w.1 ≡ v.1)

-- the trimmed position rises or stays, and the guest sees the whole log
abbrev pub Trims : ℕ → Step (Unit {0}) → Me (Unit {0}) View → ℕ → Me (Unit {0}) View → Type 0
Trims to s v found w = IsBehind v.0 × (w.0 ≡ record { mine = trimmed_to to v.0.mine; guest = with_log v.0.guest v.0.mine.log }) × (w.1 ≡ v.1)
