-- How the steps of writing a checkpoint compose, at each moment.
use Rattle.std.proofs.Common.{◌≡◌, ◌⊎◌, inl, inr, ⊎_elim, ℕ, ◌+◌, ◌<◌, ◌≤◌, List, [], ◌∷◌, ◌++◌, Option, Some, None, false, length, take, drop, get_or, refl, sym, ◌∙◌, ap, subst, arith, take-append-drop, All, eqb}
use Rattle.std.proofs.lemmas.Bool.{cases_eq, cond-false, ne_eqb}
use Rattle.std.proofs.lemmas.List.{get_or_default}
use Rattle.jet_volume.specs.declared.files.File.{File}
use Rattle.jet_volume.specs.Image.{Image, file_bytes}
use Rattle.jet_volume.specs.Crash.{CrashLeaves}
use Rattle.page_image.specs.Page.{PageContents}
use Rattle.checkpoint.specs.declared.image.Standing.{Standing}
use Rattle.checkpoint.specs.Contents.{Contents, IsLawful, bytes_behind_gate, file_of}
use Rattle.checkpoint.specs.Opening.{has_open_gate, HoldsPages, HasCheckpoint, KeepsCheckpoint, BringsCheckpoint}
use Rattle.checkpoint.specs.Shape.{IsStanding}
use Rattle.checkpoint.specs.Steps.{EachFollows, SparesSlots, ClosesGate, KeepsFirst, OpensGate, IsShut, WritesFile, SaysOpenly, KeepsOrBrings, TakesSlot, HasSameBytes, other_slot}
use Rattle.checkpoint.proofs.Follows.{follows_weaker, follows_into, follows_now}
use Rattle.checkpoint.proofs.Gates.{closed_gate}
use Rattle.checkpoint.proofs.Stands.{Undecided, same_rest, file_is_one, other_file, spares_undecided, writes_undecided, undecided_keeps, brings}

-- what stands in a file once all behind its gate is written
pub rest_stands : (old new body : List ℕ) (n : ℕ) → 1 ≤ length old → ((gate : List ℕ) → length gate ≡ 1 → take 1 old ≡ gate → take n new ≡ gate ++ body)
    → (g : ℕ) × (tail : List ℕ) × (new ≡ g ∷ (body ++ tail))
rest_stands [] new body n some written = absurd (omega (arith, some))
rest_stands (x ∷ xs) new body n some written =
    (x, drop n new, sym (take-append-drop n new) ∙ ap (λ (l : List ℕ). l ++ drop n new) (written (x ∷ []) refl refl))

closes_writes : (file : File) (c : Contents) (a b : Image) → ClosesGate file a b → WritesFile file c a b
closes_writes file c a b step = record { others = step.others; gate = ⊎_elim inl (λ (closed : has_open_gate (file_bytes file b) ≡ false). inr (inl closed)) step.gate }

shut_still : (file : File) (bytes : List ℕ) (b d : Image) → IsShut bytes → file_bytes file b ≡ bytes → KeepsFirst file b d → has_open_gate (file_bytes file d) ≡ false
shut_still file bytes b d shut is keeps =
    let some : 1 ≤ length (file_bytes file b) = subst (λ (l : List ℕ). 1 ≤ length l) (sym is) shut.some in
    closed_gate (file_bytes file d) (λ one. shut.closed (sym (ap (λ (l : List ℕ). get_or l 0 0) is) ∙ sym (keeps.first some) ∙ one))

module _ {V : Type 0} (moment : V → ℕ) (left_at : V → ℕ → Image → Type 0) where
  pub file_closes : (v0 v1 : V) (f file : File) (c : Contents) → f ≡ file → EachFollows moment left_at (ClosesGate f) v0 v1 → EachFollows moment left_at (WritesFile file c) v0 v1
  file_closes v0 v1 f file c is step =
      subst (λ x. EachFollows moment left_at (WritesFile x c) v0 v1) is
      (follows_weaker moment left_at v0 v1 (ClosesGate f) (WritesFile f c) step (λ a b left closes. closes_writes f c a b closes))

  rests : (v0 v1 v2 : V) (f : File) (c : Contents) (bytes : List ℕ) → IsShut bytes → CrashLeaves moment left_at v1 (λ image. file_bytes f image ≡ bytes)
      → EachFollows moment left_at (ClosesGate f) v0 v1 → EachFollows moment left_at (KeepsFirst f) v1 v2 → EachFollows moment left_at (WritesFile f c) v0 v2
  rests v0 v1 v2 f c bytes shut is closes keeps =
      follows_into moment left_at v0 v1 v2 (ClosesGate f) (KeepsFirst f) (WritesFile f c) closes keeps (λ a b left step. closes_writes f c a b step)
      (λ a b d left_a left_b first second. record { others = second.others ∙ first.others; gate = inr (inl (shut_still f bytes b d shut (is b left_b) second)) })

  pub file_rests : (v0 v1 v2 : V) (f file : File) (c : Contents) (bytes : List ℕ) → f ≡ file → IsShut bytes → CrashLeaves moment left_at v1 (λ image. file_bytes f image ≡ bytes)
      → EachFollows moment left_at (ClosesGate f) v0 v1 → EachFollows moment left_at (KeepsFirst f) v1 v2 → EachFollows moment left_at (WritesFile file c) v0 v2
  file_rests v0 v1 v2 f file c bytes same shut is closes keeps = subst (λ x. EachFollows moment left_at (WritesFile x c) v0 v2) same (rests v0 v1 v2 f c bytes shut is closes keeps)

  pub file_opens : (v0 v1 v2 v3 : V) (f file : File) (c : Contents) (bytes : List ℕ) (g : ℕ) (tail rest : List ℕ) → f ≡ file → IsShut bytes → CrashLeaves moment left_at v1 (λ image. file_bytes f image ≡ bytes)
      → EachFollows moment left_at (ClosesGate f) v0 v1 → EachFollows moment left_at (KeepsFirst f) v1 v2
      → CrashLeaves moment left_at v2 (λ image. file_bytes f image ≡ rest) → rest ≡ g ∷ (bytes_behind_gate c ++ tail)
      → ((gate : ℕ) (behind : List ℕ) → CrashLeaves moment left_at v2 (λ image. file_bytes f image ≡ gate ∷ behind) → EachFollows moment left_at (OpensGate f behind) v2 v3)
      → EachFollows moment left_at (WritesFile file c) v0 v3
  file_opens v0 v1 v2 v3 f file c bytes g tail rest same shut is closes keeps durable rest_is opens =
      subst (λ x. EachFollows moment left_at (WritesFile x c) v0 v3) same
      (follows_into moment left_at v0 v2 v3 (WritesFile f c) (OpensGate f (bytes_behind_gate c ++ tail)) (WritesFile f c) (rests v0 v1 v2 f c bytes shut is closes keeps)
      (opens g (bytes_behind_gate c ++ tail) (λ image left. durable image left ∙ rest_is))
      (λ a b left step. step)
      (λ a b d left_a left_b first second. record {
        others = second.others ∙ first.others;
        gate = ⊎_elim (λ (closed : has_open_gate (file_bytes f d) ≡ false). inr (inl closed)) (λ (says : file_bytes f d ≡ 1 ∷ (bytes_behind_gate c ++ tail)). inr (inr (tail, says))) second.gate;
      }))

  module _ (v0 v1 v2 : V) (standing : Standing) (contents : List ℕ → Contents) (n : ℕ) (slots : List ℕ) (pages : List (Option PageContents)) (database : List ℕ) (next : n ≡ standing.number + 1)
      (stands : CrashLeaves moment left_at v0 (IsStanding standing)) (spares : EachFollows moment left_at (SparesSlots standing.slots.items) v0 v1) where
    keeps : (a b : Image) → left_at v0 (moment v0) a → Undecided standing.slots.items (file_of n) a b → KeepsCheckpoint a b
    keeps a b left still = undecided_keeps standing a b (stands a left) (subst (λ k. Undecided standing.slots.items (file_of k) a b) next still)

    -- while pages are written the old checkpoint stands
    pub pages_keep : EachFollows moment left_at (KeepsOrBrings contents pages) v0 v1
    pages_keep =
        follows_weaker moment left_at v0 v1 (SparesSlots standing.slots.items) (KeepsOrBrings contents pages) spares
        (λ a b left step. inl (keeps a b left (spares_undecided standing.slots.items (file_of n) a b (file_is_one n) step)))

    module _ (lawful : IsLawful (contents slots)) (number : (contents slots).number ≡ n) (durable : CrashLeaves moment left_at v1 (λ i. i.database ≡ database)) (holds : HoldsPages database (contents slots).slots pages)
        (writes : EachFollows moment left_at (WritesFile (file_of n) (contents slots)) v1 v2) where
      new_stands : (a b d : Image) → left_at v0 (moment v0) a → left_at v1 (moment v1) b → SparesSlots standing.slots.items a b → WritesFile (file_of n) (contents slots) b d
          → SaysOpenly (contents slots) (file_bytes (file_of n) d) → BringsCheckpoint (contents slots) pages a d
      new_stands a b d left_a left_b first second says =
          let rest = same_rest (file_of n) b d (file_is_one n) second.others in
          let before = spares_undecided standing.slots.items (file_of n) a b (file_is_one n) first in
          record {
            log = rest.log ∙ before.log;
            stands = brings standing (contents slots) pages a d (stands a left_a) lawful (number ∙ next)
                (subst (λ k. file_bytes (other_file (file_of k)) d ≡ file_bytes (other_file (file_of k)) a) (sym number) (rest.other ∙ before.other))
                (subst (λ k. SaysOpenly (contents slots) (file_bytes (file_of k) d)) (sym number) says)
                (subst (λ (l : List ℕ). HoldsPages l (contents slots).slots pages) (sym (rest.database ∙ durable b left_b)) holds);
          }

      -- while its file is written the old checkpoint stands, or the new one does
      pub file_brings : EachFollows moment left_at (KeepsOrBrings contents pages) v0 v2
      file_brings =
          follows_into moment left_at v0 v1 v2 (SparesSlots standing.slots.items) (WritesFile (file_of n) (contents slots)) (KeepsOrBrings contents pages) spares writes
          (λ a b left step. inl (keeps a b left (spares_undecided standing.slots.items (file_of n) a b (file_is_one n) step)))
          (λ a b d left_a left_b first second.
          let still : (file_bytes (file_of n) d ≡ file_bytes (file_of n) b) ⊎ (has_open_gate (file_bytes (file_of n) d) ≡ false) → KeepsCheckpoint a d = λ gate.
          keeps a d left_a (writes_undecided standing.slots.items (file_of n) a b d (file_is_one n) first (same_rest (file_of n) b d (file_is_one n) second.others) gate) in
          ⊎_elim (λ (same : file_bytes (file_of n) d ≡ file_bytes (file_of n) b). inl (still (inl same)))
          (λ (other : (has_open_gate (file_bytes (file_of n) d) ≡ false) ⊎ SaysOpenly (contents slots) (file_bytes (file_of n) d)).
          ⊎_elim (λ (closed : has_open_gate (file_bytes (file_of n) d) ≡ false). inl (still (inr closed)))
          (λ (says : SaysOpenly (contents slots) (file_bytes (file_of n) d)). inr (slots, new_stands a b d left_a left_b first second says)) other)
          second.gate)

      -- and then the new one alone
      pub new_alone : CrashLeaves moment left_at v2 (λ i. SaysOpenly (contents slots) (file_bytes (file_of n) i)) → CrashLeaves moment left_at v2 (λ i. HasCheckpoint i (contents slots) pages)
      new_alone says i left =
          let late = follows_now moment left_at v1 v2 (WritesFile (file_of n) (contents slots)) writes i left in
          let early = follows_now moment left_at v0 v1 (SparesSlots standing.slots.items) spares late.0 late.1 in
          (new_stands early.0 late.0 i early.1 late.1 early.2 late.2 (says i left)).stands

-- the slots that pages take are slots
other_small : (slot : ℕ) → other_slot slot ≤ 1
other_small slot = ⊎_elim (λ (zero_is : slot ≡ 0). omega (arith, ap other_slot zero_is)) (λ (other : slot ≡ 0 → ⊥). omega (arith, cond-false {A = ℕ} (eqb slot 0) 1 0 (ne_eqb slot 0 other))) (cases_eq slot 0)

takes_small : (old : Option PageContents) (slot : ℕ) (page : Option PageContents) (next : ℕ) → TakesSlot old slot page next → next ≤ 2
takes_small old slot None next takes = omega (arith, takes)
takes_small old slot (Some page) next takes = ⊎_elim
    (λ (keeps : HasSameBytes old page × (slot < 2) × (next ≡ slot)). omega (arith, keeps.1, keeps.2))
    (λ (moves : (HasSameBytes old page → slot < 2 → ⊥) × (next ≡ other_slot slot)). omega (arith, moves.1, other_small slot)) takes

pub all_small : (olds : List (Option PageContents)) (old_slots : List ℕ) (pages : List (Option PageContents)) (slots : List ℕ) → length slots ≡ length pages
    → ((p : ℕ) → p < length pages → TakesSlot (get_or olds p None) (get_or old_slots p 2) (get_or pages p None) (get_or slots p 2)) → All (λ slot. slot ≤ 2) slots
all_small olds old_slots pages slots same takes k d lt =
    subst (λ s. s ≤ 2) (get_or_default slots k 2 d lt) (takes_small (get_or olds k None) (get_or old_slots k 2) (get_or pages k None) (get_or slots k 2) (takes k (omega (arith, lt, same))))
