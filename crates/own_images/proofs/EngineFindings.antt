-- What is found of an image of an own engine, whose live part is written with it.
use Rattle.std.proofs.Common.{◌≡◌, Bool, true, List, Option, Some, None, refl, ap, ◌∙◌}
use Rattle.std.specs.Prelude.{map, if◌then◌else◌}
use Rattle.std.specs.Option.{option_or}
use Rattle.live_part.specs.LiveBytes.{LivePart, live_bytes, live_fits, standing, without_undone}
use Rattle.live_part.specs.LiveReading.{whole_in}
use Rattle.version_cleanup.specs.LiveSessions.{LiveState}
use Rattle.version_store.specs.HeldChanges.{HeldChange}
use Rattle.image_findings.specs.CountFindings.{count_finding}
use Rattle.image_findings.specs.EntryFindings.{entry_finding}
use Rattle.image_findings.specs.Findings.{finding, held_in, live_finding, records_finding}
use Rattle.image_findings.specs.Images.{Finding, first_of}
use Rattle.image_findings.specs.Images.Finding.{Live}
use Rattle.image_findings.specs.RowFindings.{row_finding}
use Rattle.own_images.proofs.Counted.{own_counts}
use Rattle.own_images.proofs.LeftFindings.{live_left}
use Rattle.own_images.proofs.LiveSound.{own_live, standing_again}
use Rattle.own_images.proofs.OneValue.{MapLaws}
use Rattle.own_images.proofs.OwnEntries.{first_none, own_entries}
use Rattle.own_images.proofs.RowsSound.{NewestLaw, own_rows}
use Rattle.own_images.proofs.Walked.{WalkLaws}
use Rattle.own_images.specs.OwnEngines.{IsOwnEngine, keys_found, live_of_store}
use Rattle.own_images.specs.OwnStores.{OwnStore, contents_of, image_of}

-- a live part that can be written is read back from its bytes
abbrev pub AgainLaw : Type 0
AgainLaw = (live : LivePart) → live_fits live ≡ true → whole_in (live_bytes live) ≡ Some live

or_none : (o : Option Finding) → option_or o None ≡ o
or_none None = refl
or_none (Some found) = refl

pub live_again : (sessions : List LiveState) (store : OwnStore) → without_undone (live_of_store sessions store) ≡ live_of_store sessions store
live_again sessions store = ap (λ (held : List HeldChange). record { sessions = sessions; held = held }) (standing_again store.held)

left_records : WalkLaws → NewestLaw → (sessions : List LiveState) (store : OwnStore) → IsOwnEngine sessions store → records_finding store.number (contents_of store) (live_of_store sessions store) ≡ keys_found sessions store
left_records walks law sessions store own =
    let tables = contents_of store in
    let held = standing store.held in
    let entries = first_of (map (entry_finding held) tables) in
    let counts = first_of (map (count_finding held) tables) in
    ap (λ (o : Option Finding). option_or o (option_or entries (option_or (keys_found sessions store) counts))) (first_none (row_finding store.number held) tables (own_rows walks law sessions store own))
    ∙ ap (λ (o : Option Finding). option_or o (option_or (keys_found sessions store) counts)) (first_none (entry_finding held) tables (own_entries walks store own.kept))
    ∙ ap (option_or (keys_found sessions store)) (first_none (count_finding held) tables (own_counts walks store own.kept)) ∙ or_none (keys_found sessions store)

pub keys_left : WalkLaws → MapLaws → NewestLaw → AgainLaw → (sessions : List LiveState) (store : OwnStore) → IsOwnEngine sessions store → live_fits (live_of_store sessions store) ≡ true
    → finding (image_of store (live_bytes (live_of_store sessions store))) ≡ keys_found sessions store
keys_left walks maps law again sessions store own fits =
    let live = live_of_store sessions store in
    live_left walks maps store (live_bytes live) own.kept (ap held_in (again live fits) ∙ standing_again store.held)
    ∙ ap (live_finding store.number (contents_of store)) (again live fits)
    ∙ ap (λ (b : Bool). option_or (if b then None else Some Live) (records_finding store.number (contents_of store) (without_undone live))) (own_live walks law sessions store own)
    ∙ ap (records_finding store.number (contents_of store)) (live_again sessions store) ∙ left_records walks law sessions store own
