use Rattle.std.proofs.Common.{◌≡◌, ⊎_elim, ℕ, ◌+◌, ◌<◌, ◌≤◌, List, [], ◌∷◌, ◌++◌, Option, None, MatchOption, length, length-append, get_or, sym, ap, subst, arith}
use Rattle.std.proofs.lemmas.Bool.{cases_lt}
use Rattle.std.proofs.lemmas.List.{get_or_append_left, get_or_past, get_or_push}
use Rattle.page_image.specs.Page.{PageContents}
use Rattle.checkpoint.specs.Shape.{HasOwnNumber}
use Rattle.tests_store.proofs.images.pages_of.Goals as goal

-- one page more
one_more : (pages : List (Option PageContents)) (page : Option PageContents) (n : ℕ) → length pages ≡ n → ((p : ℕ) → HasOwnNumber pages p)
    → MatchOption page (Unit {0}) (λ (q : PageContents). q.number ≡ n) → (p : ℕ) → HasOwnNumber (pages ++ page ∷ []) p
one_more pages page n count own here p =
    let bears : ℕ → Option PageContents → Type 0 = λ k o. MatchOption o (Unit {0}) (λ (q : PageContents). q.number ≡ k) in
    ⊎_elim
    (λ (below : p < n). subst (bears p) (sym (get_or_append_left pages (page ∷ []) None p (omega (arith, below, count)))) (own p))
    (λ (above : n ≤ p). ⊎_elim
    (λ (past : n < p). subst (bears p) (sym (get_or_past (pages ++ page ∷ []) p None (omega (arith, past, count, length-append pages (page ∷ []))))) tt)
    (λ (up_to : p ≤ n).
    let same : n ≡ p = omega (arith, above, up_to) in
    subst (λ k. bears k (get_or (pages ++ page ∷ []) k None)) same (subst (bears n) (sym (get_or_push pages page None n count)) here))
    (cases_lt n p))
    (cases_lt p n)

pub loop-number-preserved : goal.loop-number-preserved
loop-number-preserved c =
    let added = c.in_ok-push.ensures.items in
    let own = one_more c.loop-number.pages.items c.page_of.result c.loop-number.number c.loop-number.invariant.count c.loop-number.invariant.own c.page_of.ensures in
    record {
      count = omega (arith, c.loop-number.invariant.count, ap length added, length-append c.loop-number.pages.items (c.page_of.result ∷ []));
      own = subst (λ (l : List (Option PageContents)). (p : ℕ) → HasOwnNumber l p) (sym added) own;
    }
