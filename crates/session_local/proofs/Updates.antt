-- What is put on the cursor of a label: a prepared update, or another place.
use Rattle.std.proofs.Common.{◌≡◌, ℕ, ◌==◌, List, map, find, Option, Some, None, true, refl, get_or}
use Rattle.std.specs.List.{position}
use Rattle.std.proofs.Math.ListN.{set}
use Rattle.session_local.specs.Local.{OpenCursor, PreparedUpdate}
use Rattle.session_local.specs.SessionSide.{label_of, are_distinct}
use Rattle.session_local.specs.Holding.{begun_with_cursors}
use Rattle.session_local.specs.Finishing.{with_update_at}
use Rattle.session_local.specs.Navigating.{navigated_on}
use Rattle.session_local.specs.FoundLaws.{labelled}
use Rattle.cursor_nav.specs.Navigation.{Navigated}
use Rattle.session_local.proofs.Distinct.{found-position, missing-position, set-position}

pub prepared_at : (label : ℕ) (cursors : List OpenCursor) (at : ℕ) (c new : OpenCursor) (update : Option PreparedUpdate) → are_distinct (map label_of cursors) ≡ true → position (λ o. o.label == label) cursors ≡ Some at → c ≡ get_or cursors at c → new ≡ record c { prepared = update } → set cursors at new ≡ (with_update_at (begun_with_cursors cursors) label update).cursors
prepared_at label cursors at c new update distinct place is made =
    let found : find (λ o. o.label == label) cursors ≡ Some c = found-position (λ o. o.label == label) cursors at c place is in
    rw (made, found) (set-position label cursors at (record c { prepared = update }) distinct place (labelled label cursors c found))

pub prepared_nowhere : (label : ℕ) (cursors : List OpenCursor) (update : Option PreparedUpdate) → position (λ o. o.label == label) cursors ≡ None → cursors ≡ (with_update_at (begun_with_cursors cursors) label update).cursors
prepared_nowhere label cursors update place = rw (missing-position (λ o. o.label == label) cursors place) refl

pub moved_at : (label : ℕ) (cursors : List OpenCursor) (at : ℕ) (c new : OpenCursor) (move : OpenCursor → Navigated) → are_distinct (map label_of cursors) ≡ true → position (λ o. o.label == label) cursors ≡ Some at → c ≡ get_or cursors at c → new ≡ record c { cursor = (move c).cursor } → set cursors at new ≡ (navigated_on (begun_with_cursors cursors) (find (λ o. o.label == label) cursors) move).cursors
moved_at label cursors at c new move distinct place is made =
    let found : find (λ o. o.label == label) cursors ≡ Some c = found-position (λ o. o.label == label) cursors at c place is in
    rw (made, found) (set-position label cursors at (record c { cursor = (move c).cursor }) distinct place (labelled label cursors c found))
