-- What is known of a table's rows and of the changes that are held once the live part of their image is sound.
use Rattle.std.specs.Prelude.{◌≡◌, ℕ, true, List, Option, Some, None}
use Rattle.image_contents.specs.FoundEntries.{IsShown}
use Rattle.image_contents.specs.declared.entries.variants.TableVariants.{TableVariants}
use Rattle.image_findings.specs.Findings.{engine_of_parts, history_of}
use Rattle.image_findings.specs.Images.{Finding}
use Rattle.image_findings.specs.KeyFindings.{HeldHistory, unique_finding}
use Rattle.image_findings.specs.LiveFindings.{is_sound_live}
use Rattle.image_findings.specs.TableContents.{TableContents, contents_with_id}
use Rattle.index_derive.specs.declared.rules.IndexRule.{IndexRule}
use Rattle.live_part.specs.LiveBytes.{LivePart, live_fits, standing, without_undone}
use Rattle.version_cleanup.specs.LiveSessions.{LiveState}

-- The table is one of an image. Its sessions, and its held changes that are not undone, are those of a live part that was read and that
-- is sound beside the tables of the image.
pub record HasSoundChanges (sessions : List LiveState) (v : TableVariants) : Type 0 where
  pub number : ℕ
  pub tables : List TableContents
  pub live : LivePart
  pub contents : TableContents
  pub shown : IsShown v contents
  pub found : contents_with_id tables contents.table.id ≡ Some contents
  pub fits : live_fits live ≡ true
  pub sessions_are : live.sessions ≡ sessions
  pub held_are : standing live.held ≡ v.versions.now
  pub sound : is_sound_live number tables live ≡ true

-- the history of the changes that are held, of which none is undone
abbrev pub history_in : {sessions : List LiveState} {v : TableVariants} → HasSoundChanges sessions v → HeldHistory
history_in kept = history_of (engine_of_parts 0 kept.number 0 kept.tables (without_undone kept.live))

-- what is found of the index that has this rule, if there is one
abbrev pub finding_by : {sessions : List LiveState} {v : TableVariants} → HasSoundChanges sessions v → Option IndexRule → Option Finding
finding_by kept None = None
finding_by kept (Some rule) = unique_finding (history_in kept) (standing kept.live.held) kept.contents rule
