-- The parts of a view, and what each call makes of them.
use Rattle.std.specs.Prelude.{ℕ, ◌==◌, Bool, true, false, not, ◌||◌, List, [], ◌∷◌, length, filter, if◌then◌else◌, ltb, max}
use Rattle.index_derive.specs.declared.log.Entry.{Entry}
use Rattle.history_word.specs.declared.views.Part.{Part}
use Rattle.history_word.specs.declared.views.View.{View}

-- whether the right of the session is among these
abbrev pub has_right : ℕ → List ℕ → Bool
has_right session [] = false
has_right session (x ∷ xs) = (x == session) || has_right session xs

-- these rights without that of the session
abbrev pub rights_without : ℕ → List ℕ → List ℕ
rights_without session rights = filter (λ x. not (x == session)) rights

-- the entries of the sessions whose rights these are
abbrev pub own_entries : List ℕ → List Entry → List Entry
own_entries rights log = filter (λ e. has_right e.session.0 rights) log

-- each entry names one of these sessions
abbrev pub are_own : List ℕ → List Entry → Bool
are_own rights [] = true
are_own rights (e ∷ es) = if has_right e.session.0 rights then are_own rights es else false

-- nothing is known or held
abbrev pub blank_part : Part
blank_part = record { turn = false; store = false; rights = []; log = []; trimmed = 0; given = 0; flushed = 0; faults = 0 }

-- the view of a seat that has no guest
abbrev pub lone_view : Part → View
lone_view p = record { mine = p; guest = blank_part }

-- the part with another log
abbrev pub with_log : Part → List Entry → Part
with_log p log = record { turn = p.turn; store = p.store; rights = p.rights; log = log; trimmed = p.trimmed; given = p.given; flushed = p.flushed; faults = p.faults }

-- the longer of two logs, and the first of two as long
abbrev pub longer_log : List Entry → List Entry → List Entry
longer_log xs ys = if ltb (length xs) (length ys) then ys else xs

-- p with what the note q tells: the longer log, and the greater flushed position and count of faults
abbrev pub informed : Part → Part → Part
informed p q = record { turn = p.turn; store = p.store; rights = p.rights; log = longer_log p.log q.log; trimmed = p.trimmed; given = p.given; flushed = max p.flushed q.flushed; faults = max p.faults q.faults }

-- what is told of p, without a right: its log, its faults and its flushed position. A note of the store's part has the given position as its flushed one
abbrev pub note_of : Part → Part
note_of p = record { turn = false; store = false; rights = []; log = p.log; trimmed = 0; given = 0; flushed = if p.store then p.given else p.flushed; faults = p.faults }

-- the part that gave up the right of the session
abbrev pub without_right : ℕ → Part → Part
without_right session p = record { turn = p.turn; store = p.store; rights = rights_without session p.rights; log = p.log; trimmed = p.trimmed; given = p.given; flushed = p.flushed; faults = p.faults }

-- the part of a new seat with that right
abbrev pub with_one_right : ℕ → Part → Part
with_one_right session p = record { turn = false; store = false; rights = session ∷ []; log = p.log; trimmed = 0; given = 0; flushed = p.flushed; faults = p.faults }

-- the part that gave up the store's right
abbrev pub without_store : Part → Part
without_store p = record { turn = p.turn; store = false; rights = p.rights; log = p.log; trimmed = p.trimmed; given = 0; flushed = p.flushed; faults = p.faults }

-- the part of a new seat with the store's right
abbrev pub store_part : Part → Part
store_part p = record { turn = false; store = p.store; rights = []; log = p.log; trimmed = 0; given = p.given; flushed = p.flushed; faults = p.faults }

-- the first part of all: every right, and the empty log
abbrev pub first_part : List ℕ → Part
first_part rights = record { turn = true; store = true; rights = rights; log = []; trimmed = 0; given = 0; flushed = 0; faults = 0 }

-- the part that was given the log up to a position, and saw so many faults
abbrev pub given_to : ℕ → ℕ → Part → Part
given_to to count p = record { turn = p.turn; store = p.store; rights = p.rights; log = p.log; trimmed = p.trimmed; given = to; flushed = p.flushed; faults = count }

-- the part that let the log go up to a position
abbrev pub trimmed_to : ℕ → Part → Part
trimmed_to to p = record { turn = p.turn; store = p.store; rights = p.rights; log = p.log; trimmed = to; given = p.given; flushed = p.flushed; faults = p.faults }
