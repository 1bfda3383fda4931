-- How held changes follow one another, each question by itself.
use Rattle.std.specs.Prelude.{◌≡◌, ℕ, ◌<◌, Bool, true, not, ◌&&◌, ◌||◌, List, [], ◌∷◌, take, Option, Some, None, slice_get, if◌then◌else◌}
use Rattle.std.specs.List.{list_all, list_any}
use Rattle.database_state.specs.State.{Status, uncommitted, committed, undone}
use Rattle.image_findings.specs.LiveFindings.{are_apart, is_drop, is_fresh_put, leaves_node, node_under}
use Rattle.image_findings.specs.TableContents.{TableContents}
use Rattle.live_part.specs.LiveBytes.{LivePart, live_fits}
use Rattle.live_part.specs.declared.reading.LoadedPart.{LoadedPart}
use Rattle.version_cleanup.specs.LiveSessions.{LiveState}
use Rattle.version_store.specs.Answers.{change_at}
use Rattle.version_store.specs.HeldChanges.{HeldChange, is_add, is_record, last_place}
use Rattle.image_live.specs.LoadedParts.{IsLoaded}

-- ---- what is known of changes that were read and are sound by themselves

abbrev pub IsCommittedBehind : ℕ → Status → Type 0
IsCommittedBehind number uncommitted = Unit {0}
IsCommittedBehind number (committed at) = number < at
IsCommittedBehind number undone = ⊥

-- Their numbers rise, none was committed before its own entry, and each is of a session with a label below 100.
pub record ArePlaced (changes : List HeldChange) : Type 0 where
  pub rise : (i j : ℕ) (h k : HeldChange) → i < j → slice_get changes i ≡ Some h → slice_get changes j ≡ Some k → h.number < k.number
  pub behind : (place : ℕ) (h : HeldChange) → slice_get changes place ≡ Some h → IsCommittedBehind h.number h.status
  pub labels : (place : ℕ) (h : HeldChange) → slice_get changes place ≡ Some h → h.session < 100

-- It is what bytes were read as.
pub record HasSpelling (part : LoadedPart) : Type 0 where
  pub live : LivePart
  pub fits : live_fits live ≡ true
  pub loaded : IsLoaded live part

-- ---- pairs

-- each is so beside each behind it
abbrev pub all_pairs : {X : Type 0} → (X → X → Bool) → List X → Bool
all_pairs r [] = true
all_pairs r (x ∷ xs) = list_all (r x) xs && all_pairs r xs

-- of two changes of one record that are not both sums
abbrev pub stays_apart : List LiveState → HeldChange → HeldChange → Bool
stays_apart sessions earlier later = not (is_record earlier.table earlier.bookmark later) || ((is_add earlier.kind && is_add later.kind) || are_apart sessions earlier later)

-- a change of the record that is no sum
abbrev pub is_base : ℕ → List ℕ → HeldChange → Bool
is_base table bookmark h = is_record table bookmark h && not (is_add h.kind)

-- the last change up to the place of its record that is no sum
abbrev pub base_of : List HeldChange → ℕ → HeldChange → Option ℕ
base_of changes place h = last_place (is_base h.table h.bookmark) (take place changes)

-- ---- from change to change of a record

abbrev pub follows : HeldChange → HeldChange → Bool
follows earlier later = if is_drop earlier.kind then is_fresh_put later else not (is_fresh_put later)

-- the next change of the record goes on where this one left off
abbrev pub next_follows : HeldChange → List HeldChange → Bool
next_follows h [] = true
next_follows h (next ∷ held) = if is_record h.table h.bookmark next then follows h next else next_follows h held

abbrev pub all_follow : List HeldChange → Bool
all_follow [] = true
all_follow (h ∷ held) = next_follows h held && all_follow held

-- a change follows the last one of its record among those before it
abbrev pub follows_in : Option HeldChange → HeldChange → Bool
follows_in None h = true
follows_in (Some earlier) h = follows earlier h

abbrev pub follows_last : List HeldChange → HeldChange → Bool
follows_last held h = follows_in (change_at held (last_place (is_record h.table h.bookmark) held)) h

-- another change of the record comes, or this one left what the node has
abbrev pub leaves : List TableContents → HeldChange → List HeldChange → Bool
leaves tables h held = list_any (is_record h.table h.bookmark) held || leaves_node h.kind (node_under tables h)

abbrev pub all_leave : List TableContents → List HeldChange → Bool
all_leave tables [] = true
all_leave tables (h ∷ held) = leaves tables h held && all_leave tables held
