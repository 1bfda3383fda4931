-- What contracts see of a session that appends.
use Rattle.std.specs.Prelude.{ℕ, List, [], ◌∷◌, length}
use Rattle.index_derive.specs.declared.log.Entry.{Entry}
use Rattle.history_word.specs.Parts.{own_entries}

-- Its number, the log as far as it has seen it, how many entries it made, and how far it knows the log as stored
pub record Known : Type 0 where
  pub session : ℕ
  pub log : List Entry
  pub made : ℕ
  pub flushed : ℕ
  pub faults : ℕ

-- how many entries of the session the log has
abbrev pub entries_by : ℕ → List Entry → ℕ
entries_by session log = length (own_entries (session ∷ []) log)
