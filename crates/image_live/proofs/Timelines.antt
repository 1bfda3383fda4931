-- When a key is one record's alone, told by how long each record has it.
use Rattle.std.proofs.Common.{◌≡◌, ℕ, zero, suc, ◌+◌, ◌-◌, ◌<◌, ◌≤◌, Bool, true, false, List, refl, sym, ap, subst, ◌∙◌, ◌⊎◌, inl, inr, arith}
use Rattle.std.specs.Prelude.{bytes_eq}
use Rattle.common_lemmas.proofs.Booleans.{by_test, impossible}
use Rattle.common_lemmas.proofs.Numbers.{equal_bytes, same_bytes}

-- So many changes one after another: of which record each is, whether it is one of the table, and whether it sets or removes the row;
-- which record has the key before which change; since which change a record is as it is before another; and which two are apart.
pub record Timeline : Type 0 where
  pub length : ℕ
  pub own : ℕ → List ℕ
  pub mine : ℕ → Bool
  pub rewrites : ℕ → Bool
  pub has : ℕ → List ℕ → Bool
  pub begins : List ℕ → ℕ → ℕ
  pub apart : ℕ → ℕ → Bool

-- a change that sets or removes the row of the record
abbrev pub Sets : Timeline → List ℕ → ℕ → Type 0
Sets t b i = (t.rewrites i ≡ true) × (t.own i ≡ b)

pub record IsTimeline (t : Timeline) : Type 0 where
  pub stays : (i : ℕ) (b : List ℕ) → i < t.length → (Sets t b i → ⊥) → t.has i b ≡ t.has (suc i) b
  pub within : (b : List ℕ) (e : ℕ) → t.begins b e ≤ e
  pub behind : (b : List ℕ) (e q : ℕ) → t.begins b e ≡ suc q → Sets t b q
  pub between : (b : List ℕ) (e j : ℕ) → t.begins b e ≤ j → j < e → Sets t b j → ⊥
  pub mine_of : (i : ℕ) → t.rewrites i ≡ true → t.mine i ≡ true
  pub near : (i j : ℕ) → i < j → j < t.length → t.mine i ≡ true → t.rewrites j ≡ true → t.own i ≡ t.own j → t.apart i j ≡ true
  pub through : (i j k : ℕ) → i < j → j < k → k < t.length → t.apart i j ≡ true → t.apart j k ≡ true → t.apart i k ≡ true

-- ---- cases

pub which : (i j : ℕ) → (i < j) ⊎ ((i ≡ j) ⊎ (j < i))
which zero zero = inr (inl refl)
which zero (suc j) = inl (omega arith)
which (suc i) zero = inr (inr (omega arith))
which (suc i) (suc j) = up (which i j)
  where
    up : (i < j) ⊎ ((i ≡ j) ⊎ (j < i)) → (suc i < suc j) ⊎ ((suc i ≡ suc j) ⊎ (suc j < suc i))
    up (inl e) = inl (omega (arith, e))
    up (inr (inl e)) = inr (inl (ap suc e))
    up (inr (inr e)) = inr (inr (omega (arith, e)))

pub upto : (i j : ℕ) → (i ≤ j) ⊎ (j < i)
upto i j = by (which i j)
  where
    by : (i < j) ⊎ ((i ≡ j) ⊎ (j < i)) → (i ≤ j) ⊎ (j < i)
    by (inl e) = inl (omega (arith, e))
    by (inr (inl e)) = inl (omega (arith, e))
    by (inr (inr e)) = inr e

-- a number that is not 0
pub record Before (n : ℕ) : Type 0 where
  pub place : ℕ
  pub is : n ≡ suc place

pub before : (n m : ℕ) → m < n → Before n
before zero m lt = absurd (omega (arith, lt))
before (suc n) m lt = record { place = n; is = refl }

pub same_or : (a b : List ℕ) → (a ≡ b) ⊎ (a ≡ b → ⊥)
same_or a b = by_test (bytes_eq a b) (λ e. inl (same_bytes a b e)) (λ e. inr (λ f. impossible (sym e ∙ equal_bytes a b f)))

pub sets_or : (t : Timeline) (b : List ℕ) (i : ℕ) → Sets t b i ⊎ (Sets t b i → ⊥)
sets_or t b i = by_test (t.rewrites i) (λ e. other e (same_or (t.own i) b)) (λ e. inr (λ s. impossible (sym e ∙ s.0)))
  where
    other : t.rewrites i ≡ true → (t.own i ≡ b) ⊎ (t.own i ≡ b → ⊥) → Sets t b i ⊎ (Sets t b i → ⊥)
    other e (inl f) = inl (e, f)
    other e (inr f) = inr (λ s. f s.1)

-- ---- how long a record is as it is

-- a change at which the record as it is ends, or the end of all
abbrev pub Ends : Timeline → List ℕ → ℕ → Type 0
Ends t b e = (e ≤ t.length) × (e < t.length → Sets t b e)

pub stay : (t : Timeline) → IsTimeline t → (b : List ℕ) (e : ℕ) → Ends t b e → (m i : ℕ) → i + m ≡ e → t.begins b e ≤ i → t.has i b ≡ t.has e b
stay t is b e ends zero i sum le = ap (λ n. t.has n b) (omega (arith, sum))
stay t is b e ends (suc m) i sum le =
    is.stays i b (omega (arith, sum, ends.0)) (λ sets. is.between b e i le (omega (arith, sum)) sets) ∙ stay t is b e ends m (suc i) (omega (arith, sum)) (omega (arith, le))

pub stays_to : (t : Timeline) → IsTimeline t → (b : List ℕ) (e i : ℕ) → Ends t b e → t.begins b e ≤ i → i ≤ e → t.has i b ≡ t.has e b
stays_to t is b e i ends le upto_e = by (difference i e upto_e)
  where
    difference : (i e : ℕ) → i ≤ e → (m : ℕ) × (i + m ≡ e)
    difference zero e le = (e, omega arith)
    difference (suc i) zero le = absurd (omega (arith, le))
    difference (suc i) (suc e) le = more (difference i e (omega (arith, le)))
      where
        more : ((m : ℕ) × (i + m ≡ e)) → (m : ℕ) × (suc i + m ≡ suc e)
        more x = (x.0, omega (arith, x.1))

    by : ((m : ℕ) × (i + m ≡ e)) → t.has i b ≡ t.has e b
    by x = stay t is b e ends x.0 i x.1 le

-- where the record as it is before a change ends
pub record Next (t : Timeline) (b : List ℕ) (i : ℕ) : Type 0 where
  pub place : ℕ
  pub from : i ≤ place
  pub ends : Ends t b place
  pub begun : t.begins b place ≤ i
  pub same : t.has i b ≡ t.has place b

next_from : (t : Timeline) → IsTimeline t → (b : List ℕ) (m i : ℕ) → i + m ≡ t.length → Next t b i
next_from t is b zero i sum = record { place = i; from = omega arith; ends = (omega (arith, sum), λ lt. absurd (omega (arith, sum, lt))); begun = is.within b i; same = refl }
next_from t is b (suc m) i sum = by (sets_or t b i) (next_from t is b m (suc i) (omega (arith, sum)))
  where
    later : (Sets t b i → ⊥) → (r : Next t b (suc i)) → (t.begins b r.place ≤ i) ⊎ (i < t.begins b r.place) → Next t b i
    later not_so r (inl le) = record { place = r.place; from = omega (arith, r.from); ends = r.ends; begun = le; same = is.stays i b (omega (arith, sum)) not_so ∙ r.same }
    later not_so r (inr lt) = absurd (not_so (is.behind b r.place i (omega (arith, lt, r.begun))))

    by : Sets t b i ⊎ (Sets t b i → ⊥) → Next t b (suc i) → Next t b i
    by (inl sets) r = record { place = i; from = omega arith; ends = (omega (arith, sum), λ lt. sets); begun = is.within b i; same = refl }
    by (inr not_so) r = later not_so r (upto (t.begins b r.place) i)

pub next : (t : Timeline) → IsTimeline t → (b : List ℕ) (i : ℕ) → i ≤ t.length → Next t b i
next t is b i le = next_from t is b (t.length - i) i (omega (arith, le))

pub one_after_another : (t : Timeline) → IsTimeline t → (b : List ℕ) (e d : ℕ) → Ends t b e → Ends t b d → e < d → e < t.begins b d
one_after_another t is b e d ends later lt = by (upto (t.begins b d) e)
  where
    by : (t.begins b d ≤ e) ⊎ (e < t.begins b d) → e < t.begins b d
    by (inl le) = absurd (is.between b d e le lt (ends.1 (omega (arith, lt, later.0))))
    by (inr f) = f

-- ---- what is asked of a key

-- a record has the key up to a change
abbrev pub Span : Timeline → List ℕ → ℕ → Type 0
Span t b e = Ends t b e × (t.has e b ≡ true)

-- One ends at a change; another begins behind one that is the same or a later one, from which it is apart.
pub record Follows (t : Timeline) (e begin : ℕ) : Type 0 where
  pub place : ℕ
  pub is : begin ≡ suc place
  pub from : e ≤ place
  pub apart : e < place → t.apart e place ≡ true

-- of each two, one follows the other
abbrev pub AreSpansApart : Timeline → Type 0
AreSpansApart t = (b c : List ℕ) (e d : ℕ) → Span t b e → Span t c d → ((b ≡ c) × (e ≡ d) → ⊥) → Follows t e (t.begins c d) ⊎ Follows t d (t.begins b e)

abbrev pub Brings : Timeline → ℕ → Type 0
Brings t j = (t.mine j ≡ true) × (t.has j (t.own j) ≡ false) × (t.has (suc j) (t.own j) ≡ true)

pub record IsAlone (t : Timeline) : Type 0 where
  pub first : (b c : List ℕ) → t.has 0 b ≡ true → t.has 0 c ≡ true → b ≡ c
  pub free : (j : ℕ) → j < t.length → Brings t j → (c : List ℕ) → t.has j c ≡ true → t.own j ≡ c
  pub order : (e j : ℕ) → e < j → j < t.length → Brings t j → t.mine e ≡ true → (t.own e ≡ t.own j → ⊥) → t.has e (t.own e) ≡ true → t.apart e j ≡ true

-- ---- from spans that follow one another

pub alone : (t : Timeline) → IsTimeline t → AreSpansApart t → IsAlone t
alone t is spans = record { first = at_first; free = when_brought; order = in_order }
  where
    span_of : (b : List ℕ) (i : ℕ) (r : Next t b i) → t.has i b ≡ true → Span t b r.place
    span_of b i r h = (r.ends, sym r.same ∙ h)

    at_first : (b c : List ℕ) → t.has 0 b ≡ true → t.has 0 c ≡ true → b ≡ c
    at_first b c h g = by (same_or b c)
      where
        p : Next t b 0
        p = next t is b 0 (omega arith)

        q : Next t c 0
        q = next t is c 0 (omega arith)

        none : Follows t p.place (t.begins c q.place) ⊎ Follows t q.place (t.begins b p.place) → ⊥
        none (inl f) = omega (arith, f.is, q.begun)
        none (inr f) = omega (arith, f.is, p.begun)

        by : (b ≡ c) ⊎ (b ≡ c → ⊥) → b ≡ c
        by (inl e) = e
        by (inr not_so) = absurd (none (spans b c p.place q.place (span_of b 0 p h) (span_of c 0 q g) (λ same. not_so same.0)))

    -- the span that a change brings
    brought : (j : ℕ) → j < t.length → Next t (t.own j) (suc j)
    brought j lt = next t is (t.own j) (suc j) (omega (arith, lt))

    when_brought : (j : ℕ) → j < t.length → Brings t j → (c : List ℕ) → t.has j c ≡ true → t.own j ≡ c
    when_brought j lt brings c h = by (same_or (t.own j) c)
      where
        s : Next t (t.own j) (suc j)
        s = brought j lt

        p : Next t c j
        p = next t is c j (omega (arith, lt))

        at_own : p.place ≡ j → t.own j ≡ c
        at_own e = ap t.own (sym e) ∙ (p.ends.1 (omega (arith, e, lt))).1

        follow : Follows t p.place (t.begins (t.own j) s.place) ⊎ Follows t s.place (t.begins c p.place) → t.own j ≡ c
        follow (inl f) = at_own (omega (arith, f.is, f.from, s.begun, p.from))
        follow (inr f) = absurd (omega (arith, f.is, f.from, s.from, p.begun))

        by : (t.own j ≡ c) ⊎ (t.own j ≡ c → ⊥) → t.own j ≡ c
        by (inl e) = e
        by (inr not_so) = follow (spans c (t.own j) p.place s.place (span_of c j p h) (span_of (t.own j) (suc j) s brings.2) (λ same. not_so (sym same.0)))

    in_order : (e j : ℕ) → e < j → j < t.length → Brings t j → t.mine e ≡ true → (t.own e ≡ t.own j → ⊥) → t.has e (t.own e) ≡ true → t.apart e j ≡ true
    in_order e j lt lt_end brings mine other h = follow (spans (t.own e) (t.own j) p.place s.place (span_of (t.own e) e p h) (span_of (t.own j) (suc j) s brings.2) (λ same. other same.0))
      where
        s : Next t (t.own j) (suc j)
        s = brought j lt_end

        p : Next t (t.own e) e
        p = next t is (t.own e) e (omega (arith, lt, lt_end))

        begun : (t.begins (t.own j) s.place ≤ j) ⊎ (j < t.begins (t.own j) s.place) → t.begins (t.own j) s.place ≡ suc j
        begun (inl le) = impossible (sym brings.1 ∙ stays_to t is (t.own j) s.place j s.ends le (omega (arith, s.from)) ∙ sym s.same ∙ brings.2)
        begun (inr more) = omega (arith, more, s.begun)

        is_at : t.begins (t.own j) s.place ≡ suc j
        is_at = begun (upto (t.begins (t.own j) s.place) j)

        -- from the end of the span of the earlier one
        from_end : p.place < j → t.apart p.place j ≡ true → (e < p.place) ⊎ ((e ≡ p.place) ⊎ (p.place < e)) → t.apart e j ≡ true
        from_end less apart (inl more) =
            let sets : Sets t (t.own e) p.place = p.ends.1 (omega (arith, less, lt_end)) in
            is.through e p.place j more less lt_end (is.near e p.place more (omega (arith, less, lt_end)) mine sets.0 (sym sets.1)) apart
        from_end less apart (inr (inl same)) = ap (λ k. t.apart k j) same ∙ apart
        from_end less apart (inr (inr below)) = absurd (omega (arith, below, p.from))

        at_end : (f : Follows t p.place (t.begins (t.own j) s.place)) → f.place ≡ j → (p.place < j) ⊎ ((p.place ≡ j) ⊎ (j < p.place)) → t.apart e j ≡ true
        at_end f place (inl less) = from_end less (ap (t.apart p.place) (sym place) ∙ f.apart (omega (arith, less, place))) (which e p.place)
        at_end f place (inr (inl same)) = absurd (other (sym (ap t.own (sym same) ∙ (p.ends.1 (omega (arith, same, lt_end))).1)))
        at_end f place (inr (inr above)) = absurd (omega (arith, above, place, f.from))

        follow : Follows t p.place (t.begins (t.own j) s.place) ⊎ Follows t s.place (t.begins (t.own e) p.place) → t.apart e j ≡ true
        follow (inl f) = at_end f (omega (arith, f.is, is_at)) (which p.place j)
        follow (inr f) = absurd (omega (arith, f.is, f.from, s.from, p.begun, lt))

-- ---- to spans that follow one another

-- the change that brought the key to a record since a change of another one that had it
pub record BroughtSince (t : Timeline) (e : ℕ) (c : List ℕ) (i : ℕ) : Type 0 where
  place : ℕ
  from : e < place
  below : place < i
  own : t.own place ≡ c
  mine : t.mine place ≡ true
  apart : t.apart e place ≡ true

-- two records do not have the key at once
holder : (t : Timeline) → IsTimeline t → IsAlone t → (i : ℕ) → i ≤ t.length → (b c : List ℕ) → t.has i b ≡ true → t.has i c ≡ true → b ≡ c
holder t is only zero le b c h g = only.first b c h g
holder t is only (suc i) le b c h g = by (sets_or t b i) (sets_or t c i) (holder t is only i (omega (arith, le)))
  where
    -- the record that a change is of, and another one
    one : ((x y : List ℕ) → t.has i x ≡ true → t.has i y ≡ true → x ≡ y) → (a other : List ℕ) → Sets t a i → (Sets t other i → ⊥) → t.has (suc i) a ≡ true → t.has (suc i) other ≡ true → a ≡ other
    one below a other sets not_so has_a has_other =
        let had : t.has i other ≡ true = is.stays i other (omega (arith, le)) not_so ∙ has_other in
        by_test (t.has i a)
        (λ e. below a other e had)
        (λ e. sym sets.1 ∙ only.free i (omega (arith, le)) (is.mine_of i sets.0, ap (t.has i) sets.1 ∙ e, ap (t.has (suc i)) sets.1 ∙ has_a) other had)

    by : Sets t b i ⊎ (Sets t b i → ⊥) → Sets t c i ⊎ (Sets t c i → ⊥) → ((x y : List ℕ) → t.has i x ≡ true → t.has i y ≡ true → x ≡ y) → b ≡ c
    by (inl p) (inl q) below = sym p.1 ∙ q.1
    by (inl p) (inr not_so) below = one below b c p not_so h g
    by (inr not_so) (inl q) below = sym (one below c b q not_so g h)
    by (inr not_so) (inr also) below = below b c (is.stays i b (omega (arith, le)) not_so ∙ h) (is.stays i c (omega (arith, le)) also ∙ g)

since : (t : Timeline) → IsTimeline t → IsAlone t → (e : ℕ) → t.mine e ≡ true → t.has e (t.own e) ≡ true → (c : List ℕ) → (t.own e ≡ c → ⊥) → (m i : ℕ) → e + m ≡ i → i ≤ t.length → t.has i c ≡ true → BroughtSince t e c i
since t is only e mine h c other zero i sum le g = absurd (other (holder t is only e (omega (arith, sum, le)) (t.own e) c h (ap (λ n. t.has n c) (omega (arith, sum)) ∙ g)))
since t is only e mine h c other (suc m) zero sum le g = absurd (omega (arith, sum))
since t is only e mine h c other (suc m) (suc i) sum le g = by (sets_or t c i) (λ f. since t is only e mine h c other m i (omega (arith, sum)) (omega (arith, le)) f)
  where
    earlier : BroughtSince t e c i → BroughtSince t e c (suc i)
    earlier r = record { place = r.place; from = r.from; below = omega (arith, r.below); own = r.own; mine = r.mine; apart = r.apart }

    brought : Sets t c i → t.has i c ≡ false → (e < i) ⊎ ((e ≡ i) ⊎ (i < e)) → BroughtSince t e c (suc i)
    brought sets f (inl lt) = record {
      place = i;
      from = lt;
      below = omega arith;
      own = sets.1;
      mine = is.mine_of i sets.0;
      apart = only.order e i lt (omega (arith, le)) (is.mine_of i sets.0, ap (t.has i) sets.1 ∙ f, ap (t.has (suc i)) sets.1 ∙ g) mine (λ same. other (same ∙ sets.1)) h;
    }
    brought sets f (inr (inl same)) = absurd (other (ap t.own same ∙ sets.1))
    brought sets f (inr (inr above)) = absurd (omega (arith, above, sum))

    by : Sets t c i ⊎ (Sets t c i → ⊥) → (t.has i c ≡ true → BroughtSince t e c i) → BroughtSince t e c (suc i)
    by (inl sets) before = by_test (t.has i c) (λ f. earlier (before f)) (λ f. brought sets f (which e i))
    by (inr not_so) before = earlier (before (is.stays i c (omega (arith, le)) not_so ∙ g))

-- a change of another record, which has the key behind it
settled : (t : Timeline) → IsTimeline t → IsAlone t → (e j : ℕ) → e < j → j < t.length → t.mine e ≡ true → t.has e (t.own e) ≡ true → (c : List ℕ) → Sets t c j → (t.own e ≡ c → ⊥) → t.has (suc j) c ≡ true → t.apart e j ≡ true
settled t is only e j lt lt_end mine h c sets other g = by_test (t.has j c) had (λ f. only.order e j lt lt_end (is.mine_of j sets.0, ap (t.has j) sets.1 ∙ f, ap (t.has (suc j)) sets.1 ∙ g) mine (λ same. other (same ∙ sets.1)) h)
  where
    had : t.has j c ≡ true → t.apart e j ≡ true
    had f =
        let r : BroughtSince t e c j = since t is only e mine h c other (j - e) j (omega (arith, lt)) (omega (arith, lt_end)) f in
        is.through e r.place j r.from r.below lt_end r.apart (is.near r.place j r.below lt_end r.mine sets.0 (r.own ∙ sym sets.1))

-- of one record
own_follows : (t : Timeline) → IsTimeline t → (b : List ℕ) (e d : ℕ) → Ends t b e → Ends t b d → e < d → Follows t e (t.begins b d)
own_follows t is b e d ends later lt =
    let less : e < t.begins b d = one_after_another t is b e d ends later lt in
    let f : Before (t.begins b d) = before (t.begins b d) e less in
    let sets : Sets t b f.place = is.behind b d f.place f.is in
    let first : Sets t b e = ends.1 (omega (arith, lt, later.0)) in
    record {
      place = f.place;
      is = f.is;
      from = omega (arith, less, f.is);
      apart = λ more. is.near e f.place more (omega (arith, f.is, is.within b d, later.0)) (is.mine_of e first.0) sets.0 (first.1 ∙ sym sets.1);
    }

-- of two records
other_follows : (t : Timeline) → IsTimeline t → IsAlone t → (b c : List ℕ) (e d : ℕ) → Span t b e → Span t c d → (b ≡ c → ⊥) → e < t.begins c d → Follows t e (t.begins c d)
other_follows t is only b c e d one two other less =
    let f : Before (t.begins c d) = before (t.begins c d) e less in
    let sets : Sets t c f.place = is.behind c d f.place f.is in
    let first : Sets t b e = one.0.1 (omega (arith, less, is.within c d, two.0.0)) in
    record {
      place = f.place;
      is = f.is;
      from = omega (arith, less, f.is);
      apart = λ more. settled t is only e f.place more (omega (arith, f.is, is.within c d, two.0.0)) (is.mine_of e first.0) (ap (t.has e) first.1 ∙ one.1) c sets (λ same. other (sym first.1 ∙ same))
          (ap (λ n. t.has n c) (sym f.is) ∙ stays_to t is c d (t.begins c d) two.0 (omega arith) (is.within c d) ∙ two.1);
    }

-- two that overlap are of one record
overlap : (t : Timeline) → IsTimeline t → IsAlone t → (b c : List ℕ) (e d : ℕ) → Span t b e → Span t c d → t.begins c d ≤ e → t.begins b e ≤ d → (t.begins b e ≤ t.begins c d) ⊎ (t.begins c d < t.begins b e) → b ≡ c
overlap t is only b c e d one two le also (inl first) =
    holder t is only (t.begins c d) (omega (arith, le, one.0.0)) b c (stays_to t is b e (t.begins c d) one.0 first le ∙ one.1) (stays_to t is c d (t.begins c d) two.0 (omega arith) (is.within c d) ∙ two.1)
overlap t is only b c e d one two le also (inr second) =
    holder t is only (t.begins b e) (omega (arith, also, two.0.0)) b c (stays_to t is b e (t.begins b e) one.0 (omega arith) (is.within b e) ∙ one.1) (stays_to t is c d (t.begins b e) two.0 (omega (arith, second)) also ∙ two.1)

pub spans : (t : Timeline) → IsTimeline t → IsAlone t → AreSpansApart t
spans t is only b c e d one two apart = by (same_or b c)
  where
    turned : b ≡ c → Ends t b d
    turned same = subst (λ (x : List ℕ). Ends t x d) (sym same) two.0

    same_record : b ≡ c → (e < d) ⊎ ((e ≡ d) ⊎ (d < e)) → Follows t e (t.begins c d) ⊎ Follows t d (t.begins b e)
    same_record same (inl lt) = inl (subst (λ (x : List ℕ). Follows t e (t.begins x d)) same (own_follows t is b e d one.0 (turned same) lt))
    same_record same (inr (inl at)) = absurd (apart (same, at))
    same_record same (inr (inr lt)) = inr (own_follows t is b d e (turned same) one.0 lt)

    two_records : (b ≡ c → ⊥) → (t.begins c d ≤ e) ⊎ (e < t.begins c d) → (t.begins b e ≤ d) ⊎ (d < t.begins b e) → Follows t e (t.begins c d) ⊎ Follows t d (t.begins b e)
    two_records other (inr less) any = inl (other_follows t is only b c e d one two other less)
    two_records other (inl le) (inr less) = inr (other_follows t is only c b d e two one (λ same. other (sym same)) less)
    two_records other (inl le) (inl also) = absurd (other (overlap t is only b c e d one two le also (upto (t.begins b e) (t.begins c d))))

    by : (b ≡ c) ⊎ (b ≡ c → ⊥) → Follows t e (t.begins c d) ⊎ Follows t d (t.begins b e)
    by (inl same) = same_record same (which e d)
    by (inr other) = two_records other (upto (t.begins c d) e) (upto (t.begins b e) d)

-- ---- one behind another behind another

pub goes_through : (t : Timeline) → IsTimeline t → (c : List ℕ) (e d : ℕ) (end : ℕ) (begin : ℕ) → Ends t c d → begin ≤ end → end ≤ t.length → Follows t e (t.begins c d) → Follows t d begin → Follows t e begin
goes_through t is c e d end begin ends le within f g = record { place = g.place; is = g.is; from = omega (arith, f.is, f.from, g.from, is.within c d); apart = λ more. apart }
  where
    below : g.place < t.length
    below = omega (arith, g.is, le, within)

    mid : f.place < d
    mid = omega (arith, f.is, is.within c d)

    first : Sets t c f.place
    first = is.behind c d f.place f.is

    last : Sets t c d
    last = ends.1 (omega (arith, g.from, below))

    apart_mid : t.apart f.place d ≡ true
    apart_mid = is.near f.place d mid (omega (arith, g.from, below)) (is.mine_of f.place first.0) last.0 (first.1 ∙ sym last.1)

    to_mid : (e < f.place) ⊎ ((e ≡ f.place) ⊎ (f.place < e)) → t.apart e d ≡ true
    to_mid (inl lt) = is.through e f.place d lt mid (omega (arith, g.from, below)) (f.apart lt) apart_mid
    to_mid (inr (inl same)) = ap (λ k. t.apart k d) same ∙ apart_mid
    to_mid (inr (inr above)) = absurd (omega (arith, above, f.from))

    on : (d < g.place) ⊎ ((d ≡ g.place) ⊎ (g.place < d)) → t.apart e g.place ≡ true
    on (inl lt) = is.through e d g.place (omega (arith, f.from, mid)) lt below (to_mid (which e f.place)) (g.apart lt)
    on (inr (inl same)) = ap (t.apart e) (sym same) ∙ to_mid (which e f.place)
    on (inr (inr above)) = absurd (omega (arith, above, g.from))

    apart : t.apart e g.place ≡ true
    apart = on (which d g.place)
