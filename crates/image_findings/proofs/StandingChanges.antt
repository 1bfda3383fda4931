-- The held changes of a consistent image are sound.
use Rattle.std.proofs.Common.{◌≡◌, ℕ, true, false, not, ◌&&◌, List, Option, Some, None, refl, sym, ◌∙◌}
use Rattle.std.specs.Prelude.{nat_le}
use Rattle.std.specs.List.{AllByRecursion, list_all}
use Rattle.common_lemmas.proofs.Booleans.{and_left, and_right, impossible}
use Rattle.common_lemmas.proofs.Lists.{all_filter, all_weaker}
use Rattle.database_state.specs.State.{is_undone}
use Rattle.live_part.specs.LiveBytes.{standing}
use Rattle.stored_variants.specs.VersionsKept.{IsRowUnder}
use Rattle.version_cleanup.specs.LiveSessions.{LiveState}
use Rattle.version_store.specs.HeldChanges.{HeldChange, is_rewrite}
use Rattle.image_findings.specs.Findings.{contents_in, live_of, whole_of}
use Rattle.image_findings.specs.ImageBytes.{IsOfBytes}
use Rattle.image_findings.specs.Images.{ImageContents}
use Rattle.image_findings.specs.LiveFindings.{adds_to_sum, are_in_order, are_sound_sessions, is_placed, is_sound_before, is_sound_change, is_sound_of, is_sound_row_before}
use Rattle.image_findings.specs.NoFindings.{HasNoFinding}
use Rattle.image_findings.specs.SoundChanges.{IsSoundChange}
use Rattle.image_findings.specs.SoundRows.{HasSoundRow}
use Rattle.image_findings.specs.TableContents.{TableContents, contents_with_id, long_values}
use Rattle.image_findings.proofs.Changes.{IsKnown}
use Rattle.image_findings.proofs.Known.{IsSpelled, known_in}
use Rattle.image_findings.proofs.Lists.{each_passes}
use Rattle.image_findings.proofs.SoundIndexes.{all_of_two}
use Rattle.image_findings.proofs.SoundRecords.{are_bytes}
use Rattle.image_findings.proofs.StoredRows.{both_some, is_row_under}

-- ---- a row stands before a put or a drop alone

abbrev HoldsRow : HeldChange → Type 0
HoldsRow h = is_rewrite h.kind ≡ false → h.before ≡ None

holds_row : (number : ℕ) (t : TableContents) (h : HeldChange) → is_sound_before number t h h.before ≡ true → HoldsRow h
holds_row number t h sound none = by h.before sound
  where
    by : (o : Option (List ℕ)) → is_sound_before number t h o ≡ true → o ≡ None
    by None e = refl
    by (Some bytes) e = impossible (sym none ∙ and_left (is_rewrite h.kind) (is_sound_row_before number t h bytes) e)

sound_holds_row : (number : ℕ) (tables : List TableContents) (sessions : List LiveState) (h : HeldChange) → is_sound_change number tables sessions h ≡ true → HoldsRow h
sound_holds_row number tables sessions h sound =
    by (contents_with_id tables h.table) (and_right (is_placed number sessions h h.status) (is_sound_of number h (contents_with_id tables h.table)) (and_right (nat_le h.number number) (is_placed number sessions h h.status && is_sound_of number h (contents_with_id tables h.table)) sound))
  where
    by : (o : Option TableContents) → is_sound_of number h o ≡ true → HoldsRow h
    by None e = impossible e
    by (Some t) e = holds_row number t h (and_right (adds_to_sum t.table h.kind) (is_sound_before number t h h.before) e)

holds_rows : (image : ImageContents) → HasNoFinding image → AllByRecursion HoldsRow (live_of image).held
holds_rows image n =
    let tables = contents_in image in
    let whole = whole_of image in
    let changes = list_all (is_sound_change image.number tables whole.sessions) whole.held in
    let order = are_in_order tables whole.sessions (standing whole.held) in
    all_filter HoldsRow (λ (h : HeldChange). not (is_undone h.status)) whole.held
    (all_weaker (λ h. is_sound_change image.number tables whole.sessions h ≡ true) HoldsRow (λ h e. sound_holds_row image.number tables whole.sessions h e) whole.held
    (each_passes (is_sound_change image.number tables whole.sessions) whole.held (and_left changes order (and_right (are_sound_sessions image.number tables whole.sessions) (changes && order) n.live))))

-- ---- all changes

sound_change : (number : ℕ) (tables : List TableContents) (sessions : List LiveState) (h : HeldChange) → IsKnown number tables sessions h → HoldsRow h → IsSoundChange number tables sessions h
sound_change number tables sessions h k holds = record {
  t = k.t;
  found = k.found;
  stands = k.stands;
  within = k.within;
  fits = k.fits;
  node = k.node;
  placed = k.placed;
  adds = k.adds;
  before = both_some (λ row. are_bytes row ≡ true) (HasSoundRow number k.t h.bookmark) (IsRowUnder (long_values k.t) k.t.table h.bookmark) (λ row are sound. is_row_under number k.t h.bookmark row k.sound are sound) h.before k.bytes k.before;
  drop = k.drop;
  other = holds;
}

pub sound_changes : (image : ImageContents) → IsOfBytes image → HasNoFinding image → IsSpelled image → AllByRecursion (IsSoundChange image.number (contents_in image) (whole_of image).sessions) (live_of image).held
sound_changes image bytes n live =
    let sessions = (whole_of image).sessions in
    all_of_two (IsKnown image.number (contents_in image) sessions) HoldsRow (IsSoundChange image.number (contents_in image) sessions) (sound_change image.number (contents_in image) sessions) (live_of image).held (known_in image bytes n live) (holds_rows image n)
