-- What one write of a page does.
use Rattle.std.proofs.Common.{◌≡◌, ℕ, ◌+◌, ◌<◌, List, length, drop, take, sym, ◌∙◌, ap, subst, arith, set, get_or, get_or-set_other, get_or-set_same, below_more}
use Rattle.jet_volume.specs.declared.files.File.TheVariants.{Database}
use Rattle.jet_volume.specs.Image.{Image}
use Rattle.jet_volume.specs.Crash.{TornFile, CrashFollows, Elapses, written}
use Rattle.page_image.specs.Page.{PageContents, IsPage, page_bytes}
use Rattle.checkpoint.specs.Opening.{slot_start, HoldsPage}
use Rattle.checkpoint.specs.Steps.{EachFollows, SparesAllBut, SparesSlots, other_slot}
use Rattle.checkpoint.proofs.Follows.{follows_none, follows_call, follows_more}
use Rattle.jet_volume.specs.TornLaws.{length-written}
use Rattle.checkpoint.proofs.Regions.{torn_spares, spares_all, spares_slots, spares_more, slot_of-written, spares_then}

-- a write of a page spares all slots but one
pub page_torn : (number slot wanted at n : ℕ) (a b : Image) → slot < 2 → slot ≡ wanted → at ≡ slot_start number slot → n ≡ 4096 → TornFile Database at n a b → SparesAllBut number wanted a b
page_torn number slot wanted at n a b small is_wanted is_at long torn =
    subst (λ s. SparesAllBut number s a b) is_wanted
    (torn_spares number slot a b small (subst (λ k. TornFile Database k 4096 a b) is_at (subst (λ k. TornFile Database at k a b) long torn)))

module _ {V : Type 0} (moment : V → ℕ) (left_at : V → ℕ → Image → Type 0) where
  -- each image after it follows by that
  pub page_follows : (old new : V) (number slot wanted at n : ℕ) → slot < 2 → slot ≡ wanted → at ≡ slot_start number slot → n ≡ 4096
      → Elapses moment left_at old new → CrashFollows moment left_at (TornFile Database at n) old new → EachFollows moment left_at (SparesAllBut number wanted) old new
  page_follows old new number slot wanted at n small is_wanted is_at long time crash =
      follows_call moment left_at old old new (SparesAllBut number wanted) (TornFile Database at n)
      (follows_none moment left_at old (SparesAllBut number wanted) (spares_all number wanted)) time crash
      (λ a b d s torn. spares_then number wanted a b d s (page_torn number slot wanted at n b d small is_wanted is_at long torn))

-- what a slot holds once it is written
pub written_holds : (old new : List ℕ) (number slot at : ℕ) (piece : List ℕ) (page : PageContents) → slot < 2 → at ≡ slot_start number slot → length piece ≡ 4096
    → piece ≡ page_bytes page → IsPage page → page.number ≡ number → new ≡ written at piece old → HoldsPage new number slot page
written_holds old new number slot at piece page small is_at long is_bytes is_page own is_written = record {
  one_of_two = small;
  whole = omega (arith, length-written at piece old, ap length is_written, is_at, long);
  is_page = is_page;
  bytes = ap (λ (l : List ℕ). take 4096 (drop (slot_start number slot) l)) is_written
      ∙ ap (λ k. take 4096 (drop k (written at piece old))) (sym is_at)
      ∙ slot_of-written at piece old long ∙ is_bytes;
  own_number = own;
}

-- one slot more is set
pub set_more : (P : ℕ → ℕ → Type 0) (slots : List ℕ) (i slot : ℕ) → i < length slots → ((p : ℕ) → p < i → P p (get_or slots p 2)) → P i slot → (p : ℕ) → p < i + 1 → P p (get_or (set slots i slot) p 2)
set_more P slots i slot within below here =
    below_more (λ p. P p (get_or (set slots i slot) p 2)) i
    (λ p lt. subst (P p) (sym (get_or-set_other slots i p slot 2 (omega arith))) (below p lt))
    (subst (P i) (sym (get_or-set_same slots i slot 2 within)) here)

module _ {V : Type 0} (moment : V → ℕ) (left_at : V → ℕ → Image → Type 0) where
  -- one page more
  pub pages_follow : (old mid new : V) (slots : List ℕ) (q : ℕ) → EachFollows moment left_at (SparesSlots slots) old mid
      → EachFollows moment left_at (SparesAllBut q (other_slot (get_or slots q 2))) mid new → EachFollows moment left_at (SparesSlots slots) old new
  pages_follow old mid new slots q so_far more =
      follows_more moment left_at old mid new (SparesSlots slots) (SparesAllBut q (other_slot (get_or slots q 2))) so_far more
      (λ a b d left_a left_b first second. spares_more slots q a b d first second)

  pub no_pages_follow : (volume : V) (slots : List ℕ) → EachFollows moment left_at (SparesSlots slots) volume volume
  no_pages_follow volume slots = follows_none moment left_at volume (SparesSlots slots) (spares_slots slots)
