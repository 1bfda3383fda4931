-- A live part that was read, against what its bytes are.
use Rattle.std.proofs.Common.{◌≡◌, ℕ, true, false, List, [], Option, Some, None, refl, sym, ap, ◌∙◌}
use Rattle.std.specs.Prelude.{option_map}
use Rattle.column_set.specs.NumberReading.{IsBytes}
use Rattle.common_lemmas.proofs.Options.{none_some, same_some}
use Rattle.live_part.specs.LiveBytes.{LivePart, live_bytes, live_fits, without_undone}
use Rattle.live_part.specs.LiveReading.{live_in, undone_in, undone_of, whole_in}
use Rattle.live_part.specs.Read.{opened_part}
use Rattle.live_part.specs.declared.reading.LoadedPart.{LoadedPart}
use Rattle.engine_image.specs.OpenedImages.{IsReadLive}

abbrev pub OnlyLaw : Type 0
OnlyLaw = (bytes : List ℕ) (live : LivePart) → IsBytes bytes → whole_in bytes ≡ Some live → (bytes ≡ live_bytes live) × (live_fits live ≡ true)

pub read_formed : OnlyLaw → (bytes : List ℕ) → IsBytes bytes → (o : Option LoadedPart) (part : LoadedPart) → o ≡ Some part → option_map opened_part o ≡ live_in bytes → option_map (λ (p : LoadedPart). p.undone) o ≡ undone_in bytes
    → IsReadLive (whole_in bytes) (record { part = part; is_formed = true })
read_formed law bytes is o part e opened undone = by (whole_in bytes) refl (sym (ap (option_map opened_part) e) ∙ opened) (sym (ap (option_map (λ (p : LoadedPart). p.undone)) e) ∙ undone)
  where
    by : (w : Option LivePart) → whole_in bytes ≡ w → Some (opened_part part) ≡ option_map without_undone w → Some part.undone ≡ option_map (λ (whole : LivePart). undone_of whole.held) w → IsReadLive w (record { part = part; is_formed = true })
    by None f p q = none_some (opened_part part) (sym p)
    by (Some whole) f p q =
        let same : opened_part part ≡ without_undone whole = same_some (opened_part part) (without_undone whole) p in
        let gone : part.undone ≡ undone_of whole.held = same_some part.undone (undone_of whole.held) q in
        (refl, record { sessions = sym (ap (λ (l : LivePart). l.sessions) same); versions = sym (ap (λ (l : LivePart). l.held) same); undone = sym gone }, (law bytes whole is f).1)

pub read_unformed : (bytes : List ℕ) (o : Option LoadedPart) (part : LoadedPart) → o ≡ None → part.versions ≡ [] → option_map opened_part o ≡ live_in bytes → IsReadLive (whole_in bytes) (record { part = part; is_formed = false })
read_unformed bytes o part e empty opened = by (whole_in bytes) (sym (ap (option_map opened_part) e) ∙ opened)
  where
    by : (w : Option LivePart) → None ≡ option_map without_undone w → IsReadLive w (record { part = part; is_formed = false })
    by None p = (refl, empty)
    by (Some whole) p = none_some (without_undone whole) p
