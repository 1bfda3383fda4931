-- Slots of a database file: a write into one of them spares the others.
use Rattle.std.proofs.Common.{◌≡◌, ◌≢◌, ◌⊎◌, inl, inr, ⊎_elim, ℕ, ◌+◌, ◌-◌, ◌<◌, ◌≤◌, min, List, ◌++◌, Option, Some, None, length, get_or, take, drop, refl, sym, ◌∙◌, ap, subst, arith, append_assoc, replicate}
use Rattle.std.proofs.lemmas.Bool.{cases_lt, cases_eq}
use Rattle.std.proofs.lemmas.List.{take-take, drop-drop, drop-take, take_at, drop_at}
use Rattle.jet_volume.specs.declared.files.File.TheVariants.{Database}
use Rattle.jet_volume.specs.Image.{Image}
use Rattle.jet_volume.specs.Crash.{Torn, TornFile, written, padded}
use Rattle.jet_volume.specs.TornLaws.{length-padded}
use Rattle.page_image.specs.Page.{PageContents, IsPage}
use Rattle.checkpoint.specs.Opening.{slot_start, SlotSays, HoldsPage}
use Rattle.checkpoint.specs.Steps.{SparesAllBut, SparesSlots, HasSameBytes, other_slot}

-- a part before the range of a write that came in part
front_spared : (at n a : ℕ) (old new : List ℕ) → Torn at n old new → a + 4096 ≤ length old → a + 4096 ≤ at → take 4096 (drop a new) ≡ take 4096 (drop a old)
front_spared at n a old new torn whole below =
    let m = min at (length old) in
    let fits : a + 4096 ≤ m = omega arith in
    let cut : (l : List ℕ) → take 4096 (drop a l) ≡ drop a (take (a + 4096) l) = λ l. sym (drop-take a 4096 l) in
    let new_front : take (a + 4096) new ≡ take (a + 4096) (take m new) = sym (take-take (a + 4096) m new fits) in
    let old_front : take (a + 4096) (take at old) ≡ take (a + 4096) old = take-take (a + 4096) at old below in
    cut new ∙ ap (λ (l : List ℕ). drop a l) (new_front ∙ ap (λ (l : List ℕ). take (a + 4096) l) torn.before ∙ old_front) ∙ sym (cut old)

-- a part behind it
back_spared : (at n a : ℕ) (old new : List ℕ) → Torn at n old new → at + n ≤ a → take 4096 (drop a new) ≡ take 4096 (drop a old)
back_spared at n a old new torn above =
    let split : (l : List ℕ) → drop a l ≡ drop (a - (at + n)) (drop (at + n) l) = λ l. ap (λ k. drop k l) (omega arith) ∙ sym (drop-drop (a - (at + n)) (at + n) l) in
    ap (λ (l : List ℕ). take 4096 l) (split new ∙ ap (λ (l : List ℕ). drop (a - (at + n)) l) torn.after ∙ sym (split old))

-- two slots have no byte in common
apart : (p s q t : ℕ) → s < 2 → t < 2 → (p ≡ q → s ≢ t) → (slot_start p s + 4096 ≤ slot_start q t) ⊎ (slot_start q t + 4096 ≤ slot_start p s)
apart p s q t small other differ =
    ⊎_elim
    (λ (lt : p < q). inl (omega (arith, lt)))
    (λ (ge : q ≤ p). ⊎_elim
    (λ (lt : q < p). inr (omega (arith, lt)))
    (λ (le : p ≤ q).
    let same : p ≡ q = omega (arith, le, ge) in
    let ne : s ≢ t = differ same in
    ⊎_elim (λ (a : s < t). inl (omega (arith, a, same))) (λ (b : t ≤ s). ⊎_elim (λ (c : t < s). inr (omega (arith, c, same))) (λ (d : s ≤ t). absurd (ne (omega (arith, b, d)))) (cases_lt t s)) (cases_lt s t))
    (cases_lt q p))
    (cases_lt p q)

-- a write into one slot spares all others
pub torn_spares : (q t : ℕ) (old new : Image) → t < 2 → TornFile Database (slot_start q t) 4096 old new → SparesAllBut q t old new
torn_spares q t old new small torn = record {
  others = torn.others;
  no_shorter = torn.torn.no_shorter;
  spared = λ p s differ one whole. ⊎_elim
      (λ (below : slot_start p s + 4096 ≤ slot_start q t). front_spared (slot_start q t) 4096 (slot_start p s) old.database new.database torn.torn whole below)
      (λ (above : slot_start q t + 4096 ≤ slot_start p s). back_spared (slot_start q t) 4096 (slot_start p s) old.database new.database torn.torn above)
      (apart p s q t one small differ);
}

-- what was not written at all is spared
pub spares_all : (q t : ℕ) (image : Image) → SparesAllBut q t image image
spares_all q t image = record { others = refl; no_shorter = omega arith; spared = λ p s differ one whole. refl }

pub spares_slots : (slots : List ℕ) (image : Image) → SparesSlots slots image image
spares_slots slots image = record { others = refl; no_shorter = omega arith; spared = λ p one whole. refl }

-- the other slot of a page is another one
other_differs : (s : ℕ) → s < 2 → s ≢ other_slot s
other_differs s small same =
    ⊎_elim (λ (zero_is : s ≡ 0). absurd (omega (arith, ap other_slot zero_is, same, zero_is)))
    (λ (not_zero : s ≡ 0 → ⊥). let one : s ≡ 1 = omega (arith, not_zero) in absurd (omega (arith, ap other_slot one, same, one))) (cases_eq s 0)

-- one page more into a slot that is not in use spares the slots in use
pub spares_more : (slots : List ℕ) (q : ℕ) (a b c : Image) → SparesSlots slots a b → SparesAllBut q (other_slot (get_or slots q 2)) b c → SparesSlots slots a c
spares_more slots q a b c so_far more = record {
  others = more.others ∙ so_far.others;
  no_shorter = omega (arith, so_far.no_shorter, more.no_shorter);
  spared = λ p one whole.
      more.spared p (get_or slots p 2) (λ same. subst (λ r. get_or slots p 2 ≢ other_slot (get_or slots r 2)) same (other_differs (get_or slots p 2) one)) one (omega (arith, whole, so_far.no_shorter))
      ∙ so_far.spared p one whole;
}

-- what a slot says that is spared it says still
pub says_still : (slots : List ℕ) (a b : Image) (p : ℕ) (page : Option PageContents) → SparesSlots slots a b → SlotSays a.database p (get_or slots p 2) page → SlotSays b.database p (get_or slots p 2) page
says_still slots a b p None spares says = says
says_still slots a b p (Some page) spares says = record {
  one_of_two = says.one_of_two;
  whole = omega (arith, says.whole, spares.no_shorter);
  is_page = says.is_page;
  bytes = spares.spared p says.one_of_two says.whole ∙ says.bytes;
  own_number = says.own_number;
}

-- what a slot of another page says it says still
pub says_beside : (q t : ℕ) (a b : Image) (p s : ℕ) (page : Option PageContents) → SparesAllBut q t a b → p ≢ q → SlotSays a.database p s page → SlotSays b.database p s page
says_beside q t a b p s None spares other says = says
says_beside q t a b p s (Some page) spares other says = record {
  one_of_two = says.one_of_two;
  whole = omega (arith, says.whole, spares.no_shorter);
  is_page = says.is_page;
  bytes = spares.spared p s (λ same. absurd (other same)) says.one_of_two says.whole ∙ says.bytes;
  own_number = says.own_number;
}

-- bytes that were written stand where they were written
pub slot_of-written : (at : ℕ) (piece bytes : List ℕ) → length piece ≡ 4096 → take 4096 (drop at (written at piece bytes)) ≡ piece
slot_of-written at piece bytes long =
    let rest = drop (at + length piece) bytes in
    ap (λ (l : List ℕ). take 4096 (drop at l)) (append_assoc (padded at bytes) piece rest)
    ∙ ap (λ (l : List ℕ). take 4096 l) (drop_at (padded at bytes) (piece ++ rest) at (length-padded at bytes))
    ∙ take_at piece rest 4096 long

-- two writes into one slot
pub spares_then : (q t : ℕ) (a b c : Image) → SparesAllBut q t a b → SparesAllBut q t b c → SparesAllBut q t a c
spares_then q t a b c first second = record {
  others = second.others ∙ first.others;
  no_shorter = omega (arith, first.no_shorter, second.no_shorter);
  spared = λ p s differ one whole. second.spared p s differ one (omega (arith, whole, first.no_shorter)) ∙ first.spared p s differ one whole;
}

-- a slot that holds the bytes of a page holds that page
pub kept_says : (database : List ℕ) (number slot : ℕ) (old : Option PageContents) (page : PageContents) → HasSameBytes old page → IsPage page → page.number ≡ number → SlotSays database number slot old → HoldsPage database number slot page
kept_says database number slot None page same is_page own says = absurd same
kept_says database number slot (Some old) page same is_page own says = record {
  one_of_two = says.one_of_two;
  whole = says.whole;
  is_page = is_page;
  bytes = says.bytes ∙ same;
  own_number = own;
}
