-- What a front of bytes may still become.
use Rattle.std.proofs.Common.{◌≡◌, ℕ, ◌+◌, Bool, true, List, [], ◌∷◌, ◌++◌, length, Option, Some, None, refl, sym, ap, subst, ◌∙◌, append_assoc, ◌⊎◌, inl, inr}
use Rattle.std.proofs.lemmas.List.{length-append}
use Rattle.column_set.specs.NumberReading.{IsBytes, some_is}
use Rattle.log_grammar.proofs.Streams.{fronts}
use Rattle.log_grammar.proofs.Laws.{Laws}

-- the spelling of a value, and what stands behind it
pub record Then {A : Type 0} (write : A → List ℕ) (fits : A → Bool) (Rest : A → List ℕ → Type 0) (bytes : List ℕ) : Type 0 where
  pub first : A
  pub behind : List ℕ
  pub first_fits : fits first ≡ true
  pub parts : bytes ≡ write first ++ behind
  pub goes_on : Rest first behind

-- the front and exactly so many bytes behind it are a spelling
pub record Ends (Spelling : List ℕ → Type 0) (front : List ℕ) (count : ℕ) : Type 0 where
  pub more : List ℕ
  pub many : length more ≡ count
  pub whole : Spelling (front ++ more)

-- ---- a value that was read

pub read_ends : {A : Type 0} (write : A → List ℕ) (fits : A → Bool) (read : List ℕ → Option (A × List ℕ)) (Rest : A → List ℕ → Type 0) → Laws write fits read
    → (front : List ℕ) (x : A) (rest : List ℕ) (count : ℕ) → IsBytes front → read front ≡ Some (x, rest) → Ends (Rest x) rest count → Ends (Then write fits Rest) front count
read_ends write fits read Rest laws front x rest count bytes is e =
    let t = laws.takes front (x, rest) bytes is in
    record {
      more = e.more;
      many = e.many;
      whole = record {
        first = x;
        behind = rest ++ e.more;
        first_fits = t.1;
        parts = ap (λ (b : List ℕ). b ++ e.more) t.0.parts ∙ append_assoc (write x) rest e.more;
        goes_on = e.whole;
      };
    }

pub ends_read : {A : Type 0} (write : A → List ℕ) (fits : A → Bool) (read : List ℕ → Option (A × List ℕ)) (Rest : A → List ℕ → Type 0) → Laws write fits read
    → (front : List ℕ) (x : A) (rest : List ℕ) (count : ℕ) → IsBytes front → read front ≡ Some (x, rest) → Ends (Then write fits Rest) front count → Ends (Rest x) rest count
ends_read {A = A} write fits read Rest laws front x rest count bytes is e =
    let t = laws.takes front (x, rest) bytes is in
    let w = e.whole in
    let there : read (front ++ e.more) ≡ Some (w.first, w.behind) = ap read w.parts ∙ laws.again w.first w.behind w.first_fits in
    let here : read (front ++ e.more) ≡ Some (x, rest ++ e.more) = ap read (ap (λ (b : List ℕ). b ++ e.more) t.0.parts ∙ append_assoc (write x) rest e.more) ∙ laws.again x (rest ++ e.more) t.1 in
    let same : (w.first, w.behind) ≡ (x, rest ++ e.more) = some_is (w.first, w.behind) (x, rest ++ e.more) (sym there ∙ here) in
    record { more = e.more; many = e.many; whole = subst (λ (p : A × List ℕ). Rest p.0 p.1) same w.goes_on }

-- ---- a value that is cut

-- how a value of which the front stands there is completed
pub record Completed {A : Type 0} (write : A → List ℕ) (fits : A → Bool) (Rest : A → List ℕ → Type 0) (front : List ℕ) (count : ℕ) : Type 0 where
  pub value : A
  pub missing : List ℕ
  pub value_fits : fits value ≡ true
  pub written : write value ≡ front ++ missing
  pub left : ℕ
  pub counted : count ≡ length missing + left
  pub goes_on : Ends (Rest value) [] left

pub cut_ends : {A : Type 0} (write : A → List ℕ) (fits : A → Bool) (Rest : A → List ℕ → Type 0) (front : List ℕ) (count : ℕ) → Completed write fits Rest front count → Ends (Then write fits Rest) front count
cut_ends write fits Rest front count c = record {
  more = c.missing ++ c.goes_on.more;
  many = length-append c.missing c.goes_on.more ∙ ap (λ n. length c.missing + n) c.goes_on.many ∙ sym c.counted;
  whole = record {
    first = c.value;
    behind = c.goes_on.more;
    first_fits = c.value_fits;
    parts = sym (append_assoc front c.missing c.goes_on.more) ∙ ap (λ (b : List ℕ). b ++ c.goes_on.more) (sym c.written);
    goes_on = c.goes_on.whole;
  };
}

pub ends_cut : {A : Type 0} (write : A → List ℕ) (fits : A → Bool) (read : List ℕ → Option (A × List ℕ)) (Rest : A → List ℕ → Type 0) → Laws write fits read
    → (front : List ℕ) (count : ℕ) → read front ≡ None → Ends (Then write fits Rest) front count → Completed write fits Rest front count
ends_cut {A = A} write fits read Rest laws front count none e =
    let w = e.whole in
    elim (fronts front e.more (write w.first) w.behind w.parts) [
      | inl t ↦ absurd (not_both (read front) (w.first, t.0) none (ap read t.1 ∙ laws.again w.first t.0 w.first_fits))
      | inr t ↦ record {
        value = w.first;
        missing = t.0;
        value_fits = w.first_fits;
        written = t.1;
        left = length w.behind;
        counted = sym e.many ∙ ap length t.2 ∙ length-append t.0 w.behind;
        goes_on = record { more = w.behind; many = refl; whole = w.goes_on };
      }
    ] where
      not_both : (o : Option (A × List ℕ)) (p : A × List ℕ) → o ≡ None → o ≡ Some p → ⊥
      not_both o p e f = cc
