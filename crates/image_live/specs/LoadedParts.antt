-- A live part that was read, beside the tables of its image.
use Rattle.std.specs.Prelude.{◌≡◌, ℕ, Bool, true, ◌&&◌, List, Some, slice_get}
use Rattle.std.specs.List.{list_all}
use Rattle.database_state.specs.State.{is_undone}
use Rattle.image_findings.specs.LiveFindings.{are_sound_sessions, is_sound_change}
use Rattle.image_findings.specs.TableContents.{TableContents}
use Rattle.live_part.specs.LiveBytes.{LivePart, standing}
use Rattle.live_part.specs.LiveReading.{undone_of}
use Rattle.live_part.specs.declared.reading.LoadedPart.{LoadedPart}
use Rattle.version_store.specs.HeldChanges.{HeldChange}
use Rattle.image_live.specs.TablesRead.{AreTablesOf, NamesWholeValues}
use Rattle.image_live.specs.declared.tables.ImageTables.{ImageTables}

-- It was read with its undone changes apart.
pub record IsLoaded (live : LivePart) (part : LoadedPart) : Type 0 where
  pub sessions : live.sessions ≡ part.sessions
  pub versions : standing live.held ≡ part.versions
  pub undone : undone_of live.held ≡ part.undone

-- Rows before changes that stand name long values that are there, and the others are undone.
pub record CanBeChecked (image : ImageTables) (part : LoadedPart) : Type 0 where
  pub tables : List TableContents
  pub are_tables : AreTablesOf image tables
  pub whole : (place : ℕ) (h : HeldChange) → slice_get part.versions place ≡ Some h → NamesWholeValues tables h
  pub undone : (place : ℕ) (h : HeldChange) → slice_get part.undone place ≡ Some h → is_undone h.status ≡ true

-- its sessions are sound, and each of its held changes is by itself
abbrev pub has_sound_parts : ℕ → List TableContents → LivePart → Bool
has_sound_parts number tables live = are_sound_sessions number tables live.sessions && list_all (is_sound_change number tables live.sessions) live.held
