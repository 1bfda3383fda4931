-- What is not dirty is not written.
use Rattle.std.proofs.Common.{◌≡◌, ◌⊎◌, inl, inr, ⊎_elim, ℕ, ◌+◌, ◌<◌, ◌≤◌, List, Option, None, length, get_or, set, refl, sym, ◌∙◌, ap, subst, arith, get_or-set_other}
use Rattle.std.proofs.lemmas.Bool.{cases_lt}
use Rattle.jet_volume.specs.Image.{Image}
use Rattle.page_image.specs.Page.{PageContents}
use Rattle.checkpoint.specs.Opening.{slot_of}
use Rattle.checkpoint.specs.Contents.{Contents, file_of}
use Rattle.checkpoint.specs.Steps.{EachFollows, IsDirty, SparesAllBut, SparesClean, WritesFile}
use Rattle.checkpoint.proofs.Follows.{follows_more, follows_none, follows_weaker}
use Rattle.checkpoint.proofs.Stands.{same_rest, file_is_one}

pub clean_all : (dirty : ℕ → Type 0) (image : Image) → SparesClean dirty image image
clean_all dirty image = record { no_shorter = omega arith; spared = λ p s not one whole. refl }

pub clean_then : (dirty : ℕ → Type 0) (a b c : Image) → SparesClean dirty a b → SparesClean dirty b c → SparesClean dirty a c
clean_then dirty a b c first second = record {
  no_shorter = omega (arith, first.no_shorter, second.no_shorter);
  spared = λ p s not one whole. second.spared p s not one (omega (arith, whole, first.no_shorter)) ∙ first.spared p s not one whole;
}

-- what spares more pages spares fewer
pub clean_fewer : (dirty more : ℕ → Type 0) (a b : Image) → ((p : ℕ) → dirty p → more p) → SparesClean dirty a b → SparesClean more a b
clean_fewer dirty more a b among spares = record {
  no_shorter = spares.no_shorter;
  spared = λ p s not one whole. spares.spared p s (λ is. not (among p is)) one whole;
}

-- a write into a slot of a dirty page
pub clean_one : (dirty : ℕ → Type 0) (q t : ℕ) (a b : Image) → dirty q → SparesAllBut q t a b → SparesClean dirty a b
clean_one dirty q t a b is spares = record {
  no_shorter = spares.no_shorter;
  spared = λ p s not one whole. spares.spared p s (λ same slot. not (subst dirty (sym same) is)) one whole;
}

-- a write into another file
pub clean_beside : (dirty : ℕ → Type 0) (a b : Image) → b.database ≡ a.database → SparesClean dirty a b
clean_beside dirty a b same = record {
  no_shorter = omega (arith, ap length same);
  spared = λ p s not one whole. ap (λ (l : List ℕ). slot_of l p s) same;
}

module _ {V : Type 0} (moment : V → ℕ) (left_at : V → ℕ → Image → Type 0) where
  pub nothing_written : (volume : V) (dirty : ℕ → Type 0) → EachFollows moment left_at (SparesClean dirty) volume volume
  nothing_written volume dirty = follows_none moment left_at volume (SparesClean dirty) (clean_all dirty)

  pub dirty_written : (old new : V) (dirty : ℕ → Type 0) (q t : ℕ) → dirty q → EachFollows moment left_at (SparesAllBut q t) old new → EachFollows moment left_at (SparesClean dirty) old new
  dirty_written old new dirty q t is spares =
      follows_weaker moment left_at old new (SparesAllBut q t) (SparesClean dirty) spares (λ a b left step. clean_one dirty q t a b is step)

  -- one page more
  pub pages_written : (old mid new : V) (olds : List (Option PageContents)) (slots : List ℕ) (pages : List (Option PageContents)) (q : ℕ) (page : Option PageContents) → page ≡ get_or pages q None
      → EachFollows moment left_at (SparesClean (λ p. IsDirty (get_or olds p None) (get_or slots p 2) (get_or pages p None))) old mid
      → EachFollows moment left_at (SparesClean (λ p. (p ≡ q) × IsDirty (get_or olds q None) (get_or slots q 2) page)) mid new
      → EachFollows moment left_at (SparesClean (λ p. IsDirty (get_or olds p None) (get_or slots p 2) (get_or pages p None))) old new
  pages_written old mid new olds slots pages q page is so_far more =
      let all : ℕ → Type 0 = λ p. IsDirty (get_or olds p None) (get_or slots p 2) (get_or pages p None) in
      let one : ℕ → Type 0 = λ p. (p ≡ q) × IsDirty (get_or olds q None) (get_or slots q 2) page in
      let among : (p : ℕ) → one p → all p = λ p has. subst all (sym has.0) (subst (λ o. IsDirty (get_or olds q None) (get_or slots q 2) o) is has.1) in
      follows_more moment left_at old mid new (SparesClean all) (SparesClean one) so_far more
      (λ a b d left_a left_b first second. clean_then all a b d first (clean_fewer one all b d among second))

  -- and then the file
  pub file_beside : (old mid new : V) (dirty : ℕ → Type 0) (n : ℕ) (c : Contents) → EachFollows moment left_at (SparesClean dirty) old mid
      → EachFollows moment left_at (WritesFile (file_of n) c) mid new → EachFollows moment left_at (SparesClean dirty) old new
  file_beside old mid new dirty n c so_far writes =
      follows_more moment left_at old mid new (SparesClean dirty) (WritesFile (file_of n) c) so_far writes
      (λ a b d left_a left_b first second. clean_then dirty a b d first (clean_beside dirty b d (same_rest (file_of n) b d (file_is_one n) second.others).database))

-- each slot is the one from before, or the one where the page goes
pub slots_left : (Takes : ℕ → ℕ → Type 0) (olds slots : List ℕ) (n : ℕ) → ((p : ℕ) → p < n → Takes p (get_or slots p 2)) → ((p : ℕ) → n ≤ p → get_or slots p 2 ≡ get_or olds p 2)
    → (p : ℕ) → (get_or slots p 2 ≡ get_or olds p 2) ⊎ Takes p (get_or slots p 2)
slots_left Takes olds slots n below above p = ⊎_elim (λ (lt : p < n). inr (below p lt)) (λ (ge : n ≤ p). inl (above p ge)) (cases_lt p n)

-- one slot more is set
pub rest_set : (olds slots : List ℕ) (i slot : ℕ) → ((p : ℕ) → i ≤ p → get_or slots p 2 ≡ get_or olds p 2) → (p : ℕ) → i + 1 ≤ p → get_or (set slots i slot) p 2 ≡ get_or olds p 2
rest_set olds slots i slot same p above = get_or-set_other slots i p slot 2 (omega arith) ∙ same p (omega arith)
