-- One checkpoint and one stream stand on files.
use Rattle.std.proofs.Common.{◌≡◌, ℕ, suc, ◌+◌, ◌*◌, ◌≤◌, ◌<◌, List, [], ◌∷◌, length, get_or, Option, Some, None, refl, sym, ◌∙◌, ap, subst, arith}
use Rattle.std.specs.Prelude.{slice_index_or}
use Rattle.jet_volume.specs.declared.files.File.{File}
use Rattle.jet_volume.specs.declared.files.LogStart.{LogStart}
use Rattle.jet_volume.specs.Image.{Image as Files, file_bytes}
use Rattle.page_image.specs.Page.{PageContents}
use Rattle.checkpoint.specs.Contents.{Contents, contents_in, file_of}
use Rattle.checkpoint.specs.Opening.{HasCheckpoint, HoldsPages, IsNew, SlotSays, looked_at, slot_of}
use Rattle.log_ring.specs.Blocks.{Scans}
use Rattle.store_core.specs.Stands.{Checkpoint, ShowsIn, Stands, contents_in_slots, start_of}
use Rattle.recovered_states.proofs.PageSpellings.{HasFewNodes, one_page}

-- a log has one stream
abbrev pub ScansOnce : Type 0
ScansOnce = (log : List ℕ) (from : LogStart) (one other : List ℕ) (end last : LogStart) → Scans log from one end → Scans log from other last → one ≡ other

some_once : {A : Type 0} (a b : A) → Some a ≡ Some b → a ≡ b
some_once a b same = cc

none_some : {A : Type 0} (o : Option A) (a : A) → o ≡ None → o ≡ Some a → ⊥
none_some o a none some = cc

same_items : {X : Type 0} (d : X) (xs ys : List X) → length xs ≡ length ys → ((k : ℕ) → k < length xs → get_or xs k d ≡ get_or ys k d) → xs ≡ ys
same_items d [] [] e h = refl
same_items d [] (y ∷ ys) e h = absurd (omega (arith, e))
same_items d (x ∷ xs) [] e h = absurd (omega (arith, e))
same_items d (x ∷ xs) (y ∷ ys) e h =
    let head : x ≡ y = h 0 (omega arith) in
    let tail : xs ≡ ys = same_items d xs ys (omega (arith, e)) (λ k lt. h (suc k) (omega (arith, lt))) in
    λ i. head i ∷ tail i

module _ (few : HasFewNodes) where
  -- a slot says one thing
  slot_once : (database : List ℕ) (number slot : ℕ) (a b : Option PageContents) → SlotSays database number slot a → SlotSays database number slot b → a ≡ b
  slot_once database number slot None None is also = refl
  slot_once database number slot None (Some b) is also = absurd (omega (arith, is, also.one_of_two))
  slot_once database number slot (Some a) None is also = absurd (omega (arith, is.one_of_two, also))
  slot_once database number slot (Some a) (Some b) is also = ap (λ (page : PageContents). Some page) (one_page few a b is.is_page also.is_page (sym is.bytes ∙ also.bytes))

  pages_once : (database slots : List ℕ) (a b : List (Option PageContents)) → HoldsPages database slots a → HoldsPages database slots b → a ≡ b
  pages_once database slots a b holds also =
      same_items None a b (sym holds.count ∙ also.count)
      (λ p lt. slot_once database p (slice_index_or slots p 2) (slice_index_or a p None) (slice_index_or b p None) (holds.each p lt) (also.each p (omega (arith, lt, holds.count, also.count))))

  -- a checkpoint is told by its file, and its pages by their slots
  checkpoint_once : (files : Files) (a b : Contents) (pages others : List (Option PageContents)) → HasCheckpoint files a pages → HasCheckpoint files b others → (a ≡ b) × (pages ≡ others)
  checkpoint_once files a b pages others has also =
      let file : file_of a.number ≡ file_of b.number = some_once (file_of a.number) (file_of b.number) (sym has.file ∙ also.file) in
      let same : a ≡ b = sym has.says ∙ ap (λ (f : File). contents_in (file_bytes f files)) file ∙ also.says in
      (same, pages_once files.database b.slots pages others (subst (λ (c : Contents). HoldsPages files.database c.slots pages) same has.holds) also.holds)

  abbrev with_pages : Contents → List (Option PageContents) → Checkpoint
  with_pages k p = record { number = k.number; entries = k.entries; start = k.start; catalog_root = k.catalog_root; pages = p; live = k.live }

  shown_once : (files : Files) (one other : List ℕ) (c d : Option Checkpoint) → ShowsIn one c files → ShowsIn other d files → d ≡ c
  shown_once files one other None None shows also = refl
  shown_once files one other None (Some d) shows also = absurd (none_some (looked_at files) (file_of d.number) shows.no_gate also.file)
  shown_once files one other (Some c) None shows also = absurd (none_some (looked_at files) (file_of c.number) also.no_gate shows.file)
  shown_once files one other (Some c) (Some d) shows also =
      let same = checkpoint_once files (contents_in_slots other d) (contents_in_slots one c) d.pages c.pages also shows in
      ap (λ (k : Checkpoint). Some k) (ap (λ (k : Contents). with_pages k d.pages) same.0 ∙ ap (λ (p : List (Option PageContents)). with_pages (contents_in_slots one c) p) same.1)

  pub stand_once : ScansOnce → (files : Files) (c d : Option Checkpoint) (s t : List ℕ) → Stands c s files → Stands d t files → (d ≡ c) × (t ≡ s)
  stand_once scanned files c d s t stands also =
      let same : d ≡ c = shown_once files stands.slots also.slots c d stands.shows also.shows in
      let scans : Scans files.log (start_of c) t also.gives.0 = subst (λ (k : Option Checkpoint). Scans files.log (start_of k) t also.gives.0) same also.gives.1 in
      (same, scanned files.log (start_of c) t s also.gives.0 stands.gives.0 scans stands.gives.1)
