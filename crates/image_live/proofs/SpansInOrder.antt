-- Spans in their order: the first key of which one does not follow the one before it is the least that is not one record's alone.
use Rattle.std.proofs.Common.{◌≡◌, ℕ, suc, ◌-◌, ◌<◌, ◌≤◌, Bool, true, false, ◌&&◌, ◌||◌, cond, List, [], ◌∷◌, length, Option, Some, None, refl, sym, ap, subst, ◌∙◌, ◌⊎◌, inl, inr, arith}
use Rattle.std.specs.Prelude.{not, ◌==◌, nat_lt, bytes_eq, ⊤}
use Rattle.std.specs.List.{AllByRecursion}
use Rattle.std.specs.List.Sorted.{IsStrictlySortedBy}
use Rattle.std.specs.Ordering.{nat_cmp, ordering_reverse, ordering_then}
use Rattle.std.specs.Cmp.Lexicographic.{slice_cmp}
use Rattle.std.specs.declared.cmp.Ordering.{Ordering}
use Rattle.std.specs.declared.cmp.Ordering.TheVariants.{Less, Equal, Greater}
use Rattle.std.proofs.lemmas.Bool.{and_from, eqb-true}
use Rattle.std.proofs.lemmas.Bool.Decides.{nat_tests}
use Rattle.std.proofs.lemmas.Map.Lookups.{exact_bytes}
use Rattle.common_lemmas.proofs.Booleans.{and_left, and_right, impossible}
use Rattle.common_lemmas.proofs.Numbers.{equal_bytes, same_bytes}
use Rattle.common_lemmas.proofs.Orders.{is_equal, less-asymmetric, less-irreflexive}
use Rattle.laws_versions.specs.History.{EachTwo}
use Rattle.version_cleanup.specs.LiveSessions.{LiveState}
use Rattle.version_store.specs.HeldChanges.{HeldChange}
use Rattle.image_live.specs.KeySpans.{Span as KeySpan, apart_at, first_shared, follows}
use Rattle.image_live.specs.SpanOrder.{span_cmp, span_eq, span_total}
use Rattle.image_live.proofs.Lists.{In, all_in, of_all, two_of}
use Rattle.image_live.proofs.Timelines.{AreSpansApart, Before, Follows, IsTimeline, Span, Timeline, before, goes_through, upto}

-- ---- one follows another

or_second : (a b : Bool) → b ≡ true → (a || b) ≡ true
or_second true b e = refl
or_second false b e = e

or_other : (a b : Bool) → a ≡ false → (a || b) ≡ true → b ≡ true
or_other true b e h = impossible (sym e)
or_other false b e h = h

less_of : (a b : ℕ) → nat_lt a b ≡ true → a < b
less_of a b e = grind (arith, nat_tests)

of_less : (a b : ℕ) → a < b → nat_lt a b ≡ true
of_less a b e = grind (arith, nat_tests)

not_same : (a b : ℕ) → a < b → (suc a == suc b) ≡ false
not_same a b lt = grind (arith, nat_tests)

same_number : (a b : ℕ) → a ≡ b → (a == b) ≡ true
same_number a b e = grind (arith, nat_tests)

-- ---- spans that are not told apart

-- of two that tie in turn, both do
both_tie : (r q : Ordering) → ordering_then r q ≡ Equal → (r ≡ Equal) × (q ≡ Equal)
both_tie Less q e = cc
both_tie Equal q e = (refl, e)
both_tie Greater q e = cc

same_number_of : (a b : ℕ) → nat_cmp a b ≡ Equal → a ≡ b
same_number_of a b e = by (nat_lt a b) (a == b) refl e
  where
    by : (x y : Bool) → (a == b) ≡ y → cond x Less (cond y Equal Greater) ≡ Equal → a ≡ b
    by true y f e = cc
    by false true f e = eqb-true a b f
    by false false f e = cc

pub same_spans_tie : (s next : KeySpan) → span_eq s next ≡ true → s ≡ next
same_spans_tie s next e =
    let tie : span_cmp s next ≡ Equal = is_equal (span_cmp s next) e in
    let bookmarks = both_tie (ordering_then (ordering_then (slice_cmp nat_cmp s.key next.key) (nat_cmp s.ends next.ends)) (nat_cmp s.begins next.begins)) (slice_cmp nat_cmp s.bookmark next.bookmark) tie in
    let starts = both_tie (ordering_then (slice_cmp nat_cmp s.key next.key) (nat_cmp s.ends next.ends)) (nat_cmp s.begins next.begins) bookmarks.0 in
    let keys = both_tie (slice_cmp nat_cmp s.key next.key) (nat_cmp s.ends next.ends) starts.0 in
    λ i. record { key = exact_bytes s.key next.key keys.0 i; bookmark = exact_bytes s.bookmark next.bookmark bookmarks.1 i; begins = same_number_of s.begins next.begins starts.1 i; ends = same_number_of s.ends next.ends keys.1 i }

module _ (sessions : List LiveState) (held : List HeldChange) where
  -- a timeline whose changes are apart as the held ones are
  abbrev pub IsBeside : Timeline → Type 0
  IsBeside t = t.apart ≡ apart_at sessions held

  pub to_follows : (t : Timeline) → IsBeside t → (s next : KeySpan) → follows sessions held s next ≡ true → Follows t s.ends next.begins
  to_follows t beside s next e =
      let less : s.ends < next.begins = less_of s.ends next.begins (and_left (nat_lt s.ends next.begins) ((suc s.ends == next.begins) || apart_at sessions held s.ends (next.begins - 1)) e) in
      let f : Before next.begins = before next.begins s.ends less in
      record {
        place = f.place;
        is = f.is;
        from = omega (arith, less, f.is);
        apart = λ more.
            ap (λ (r : ℕ → ℕ → Bool). r s.ends f.place) beside
            ∙ ap (apart_at sessions held s.ends) (omega (arith, f.is))
            ∙ or_other (suc s.ends == next.begins) (apart_at sessions held s.ends (next.begins - 1)) (ap (λ n. suc s.ends == n) f.is ∙ not_same s.ends f.place more)
            (and_right (nat_lt s.ends next.begins) ((suc s.ends == next.begins) || apart_at sessions held s.ends (next.begins - 1)) e);
      }

  pub of_follows : (t : Timeline) → IsBeside t → (s next : KeySpan) → Follows t s.ends next.begins → follows sessions held s next ≡ true
  of_follows t beside s next f =
      and_from (nat_lt s.ends next.begins) ((suc s.ends == next.begins) || apart_at sessions held s.ends (next.begins - 1)) (of_less s.ends next.begins (omega (arith, f.is, f.from))) (by (upto f.place s.ends))
    where
      by : (f.place ≤ s.ends) ⊎ (s.ends < f.place) → ((suc s.ends == next.begins) || apart_at sessions held s.ends (next.begins - 1)) ≡ true
      by (inl le) = ap (λ b. b || apart_at sessions held s.ends (next.begins - 1)) (same_number (suc s.ends) next.begins (omega (arith, le, f.from, f.is)))
      by (inr lt) =
          or_second (suc s.ends == next.begins) (apart_at sessions held s.ends (next.begins - 1))
          (ap (apart_at sessions held s.ends) (omega (arith, f.is)) ∙ sym (ap (λ (r : ℕ → ℕ → Bool). r s.ends f.place) beside) ∙ f.apart lt)

  -- ---- the order of spans

  abbrev key_cmp : List ℕ → List ℕ → Ordering
  key_cmp = slice_cmp nat_cmp

  -- behind the key
  abbrev rest_cmp : KeySpan → KeySpan → Ordering
  rest_cmp s next = ordering_then (ordering_then (nat_cmp s.ends next.ends) (nat_cmp s.begins next.begins)) (key_cmp s.bookmark next.bookmark)

  not_less : Greater ≡ Less → ⊥
  not_less e = cc

  equal_less : Equal ≡ Less → ⊥
  equal_less e = cc

  abbrev KeysRise : KeySpan → KeySpan → Type 0
  KeysRise s next = (key_cmp s.key next.key ≡ Less) ⊎ ((s.key ≡ next.key) × (rest_cmp s next ≡ Less))

  keys_rise : (s next : KeySpan) → span_cmp s next ≡ Less → KeysRise s next
  keys_rise s next e = by (key_cmp s.key next.key) refl e
    where
      by : (o : Ordering) → key_cmp s.key next.key ≡ o → ordering_then (ordering_then (ordering_then o (nat_cmp s.ends next.ends)) (nat_cmp s.begins next.begins)) (key_cmp s.bookmark next.bookmark) ≡ Less → KeysRise s next
      by Less f e = inl f
      by Equal f e = inr (exact_bytes s.key next.key f, e)
      by Greater f e = absurd (not_less e)

  -- a key is not below another
  abbrev NotBelow : List ℕ → List ℕ → Type 0
  NotBelow a b = key_cmp a b ≡ Less → ⊥

  rise_not : (s next : KeySpan) → span_cmp s next ≡ Less → NotBelow next.key s.key
  rise_not s next e less = by (keys_rise s next e)
    where
      by : KeysRise s next → ⊥
      by (inl f) = less-asymmetric s.key next.key f less
      by (inr f) = less-irreflexive s.key (subst (λ (k : List ℕ). key_cmp k s.key ≡ Less) (sym f.0) less)

  greater_of : (a b : ℕ) → b < a → nat_cmp a b ≡ Greater
  greater_of a b lt = ap (λ x. cond x Less (cond (a == b) Equal Greater)) (no_less a b lt) ∙ ap (λ x. cond x Equal Greater) (no_same a b lt)
    where
      no_less : (a b : ℕ) → b < a → nat_lt a b ≡ false
      no_less a b lt = grind (arith, nat_tests)

      no_same : (a b : ℕ) → b < a → (a == b) ≡ false
      no_same a b lt = grind (arith, nat_tests)

  -- of two of one key the first does not end later
  ends_rise : (s next : KeySpan) → rest_cmp s next ≡ Less → s.ends ≤ next.ends
  ends_rise s next e = by (upto s.ends next.ends)
    where
      by : (s.ends ≤ next.ends) ⊎ (next.ends < s.ends) → s.ends ≤ next.ends
      by (inl le) = le
      by (inr lt) = absurd (not_less (sym (ap (λ o. ordering_then (ordering_then o (nat_cmp s.begins next.begins)) (key_cmp s.bookmark next.bookmark)) (greater_of s.ends next.ends lt)) ∙ e))

  not_itself : (s : KeySpan) → span_cmp s s ≡ Less → ⊥
  not_itself s e = not_less (sym (span_total.antisymm s s ∙ ap ordering_reverse e) ∙ e)

  -- ---- a list in order

  abbrev pub AllLess : List KeySpan → Type 0
  AllLess l = EachTwo (λ s next. span_cmp s next ≡ Less) l

  pub all_less : (l : List KeySpan) → IsStrictlySortedBy span_cmp l → AllLess l
  unfolding IsStrictlySortedBy
  all_less [] h = tt
  all_less (s ∷ l) h = (h.0, all_less l h.1)

  -- a key below the first one that is shared
  abbrev pub IsBelow : Option (List ℕ) → List ℕ → Type 0
  IsBelow None key = ⊤
  IsBelow (Some k) key = key_cmp key k ≡ Less

  abbrev Passes : Option (List ℕ) → KeySpan → KeySpan → Type 0
  Passes o s next = s.key ≡ next.key → IsBelow o s.key → follows sessions held s next ≡ true

  -- what the first shared key is found by
  pub record SharedAt (l : List KeySpan) (key : List ℕ) : Type 0 where
    pub s : KeySpan
    pub next : KeySpan
    pub s_in : In s l
    pub next_in : In next l
    pub s_key : s.key ≡ key
    pub next_key : next.key ≡ key
    pub less : span_cmp s next ≡ Less
    pub apart : follows sessions held s next ≡ false

  -- what is told by the first one
  abbrev pub IsFoundBy : List KeySpan → Option (List ℕ) → Type 0
  IsFoundBy l None = ⊤
  IsFoundBy l (Some key) = SharedAt l key

  abbrev later_of : KeySpan → KeySpan → List KeySpan → Option (List ℕ) → Option (List ℕ)
  later_of s next l o = cond (bytes_eq s.key next.key && not (follows sessions held s next)) (Some next.key) o

  not_false : (b : Bool) → not b ≡ true → b ≡ false
  not_false true e = sym e
  not_false false e = refl

  not_both : (a b : Bool) → (a && not b) ≡ false → a ≡ true → b ≡ true
  not_both true true e f = refl
  not_both true false e f = impossible (sym e)
  not_both false b e f = impossible f

  more_found : (s next : KeySpan) (l : List KeySpan) (o : Option (List ℕ)) → IsFoundBy (next ∷ l) o → IsFoundBy (s ∷ next ∷ l) o
  more_found s next l None f = tt
  more_found s next l (Some key) f = record { s = f.s; next = f.next; s_in = inr f.s_in; next_in = inr f.next_in; s_key = f.s_key; next_key = f.next_key; less = f.less; apart = f.apart }

  pub found_by : (l : List KeySpan) → AllLess l → IsFoundBy l (first_shared sessions held l)
  found_by [] less = tt
  found_by (s ∷ []) less = tt
  found_by (s ∷ next ∷ l) less = by (bytes_eq s.key next.key && not (follows sessions held s next)) refl (found_by (next ∷ l) less.1)
    where
      by : (b : Bool) → (bytes_eq s.key next.key && not (follows sessions held s next)) ≡ b → IsFoundBy (next ∷ l) (first_shared sessions held (next ∷ l)) → IsFoundBy (s ∷ next ∷ l) (cond b (Some next.key) (first_shared sessions held (next ∷ l)))
      by true e rest = record {
        s = s;
        next = next;
        s_in = inl refl;
        next_in = inr (inl refl);
        s_key = same_bytes s.key next.key (and_left (bytes_eq s.key next.key) (not (follows sessions held s next)) e);
        next_key = refl;
        less = less.0.0;
        apart = not_false (follows sessions held s next) (and_right (bytes_eq s.key next.key) (not (follows sessions held s next)) e);
      }
      by false e rest = more_found s next l (first_shared sessions held (next ∷ l)) rest

  -- ---- from each that follows the one before it

  -- what is known of each span: it is one of the timeline of its key
  abbrev pub AreOf : (List ℕ → Timeline) → (List ℕ → ℕ → ℕ) → KeySpan → Type 0
  AreOf tl begins s = Span (tl s.key) s.bookmark s.ends × (s.begins ≡ begins s.bookmark s.ends)

  module _ (tl : List ℕ → Timeline) (n : ℕ) (begins : List ℕ → ℕ → ℕ) (beside : (key : List ℕ) → IsBeside (tl key)) (lengths : (key : List ℕ) → (tl key).length ≡ n) (begun : (key : List ℕ) → (tl key).begins ≡ begins) (time : (key : List ℕ) → IsTimeline (tl key)) where
    -- one behind another behind another
    through : (s m next : KeySpan) → AreOf tl begins m → AreOf tl begins next → m.key ≡ next.key → follows sessions held s m ≡ true → follows sessions held m next ≡ true → follows sessions held s next ≡ true
    through s m next of_m of_next same one two =
        let t : Timeline = tl m.key in
        of_follows t (beside m.key) s next
        (goes_through t (time m.key) m.bookmark s.ends m.ends next.ends next.begins of_m.0.0
        (subst (λ (x : ℕ). x ≤ next.ends) (sym of_next.1) (subst (λ (f : List ℕ → ℕ → ℕ). f next.bookmark next.ends ≤ next.ends) (begun next.key) ((time next.key).within next.bookmark next.ends)))
        (subst (λ (x : ℕ). next.ends ≤ x) (lengths next.key ∙ sym (lengths m.key)) of_next.0.0.0)
        (subst (λ (x : ℕ). Follows t s.ends x) (of_m.1 ∙ sym (ap (λ (f : List ℕ → ℕ → ℕ). f m.bookmark m.ends) (begun m.key))) (to_follows t (beside m.key) s m one))
        (to_follows t (beside m.key) m next two))

    -- all behind the first one
    pass_behind : (o : Option (List ℕ)) (s next : KeySpan) (l : List KeySpan) → AllLess (s ∷ next ∷ l) → AllByRecursion (AreOf tl begins) (s ∷ next ∷ l) → (s.key ≡ next.key → follows sessions held s next ≡ true) → AllByRecursion (Passes o next) l → AllByRecursion (Passes o s) l
    pass_behind o s next l less of one rest = all_in (Passes o s) l each
      where
        each : (x : KeySpan) → In x l → Passes o s x
        each x there same below = by (keys_rise s next less.0.0)
          where
            by : KeysRise s next → follows sessions held s x ≡ true
            by (inl up) = absurd (rise_not next x (of_all (λ y. span_cmp next y ≡ Less) x l less.1.0 there) (subst (λ (k : List ℕ). key_cmp k next.key ≡ Less) same up))
            by (inr up) =
                through s next x of.1.0 (of_all (AreOf tl begins) x l of.1.1 there) (sym up.0 ∙ same) (one up.0)
                (of_all (Passes o next) x l rest there (sym up.0 ∙ same) (subst (IsBelow o) up.0 below))

    -- none is below the first key of those that rise
    none_below : (k : List ℕ) (l : List KeySpan) → AllByRecursion (λ x. NotBelow x.key k) l → AllLess l → EachTwo (Passes (Some k)) l
    none_below k [] low less = tt
    none_below k (s ∷ l) low less = (all_in (Passes (Some k) s) l (λ x there same below. absurd (low.0 below)), none_below k l low.1 less.1)

    pub pass : (l : List KeySpan) → AllLess l → AllByRecursion (AreOf tl begins) l → EachTwo (Passes (first_shared sessions held l)) l
    pass [] less of = tt
    pass (s ∷ []) less of = (tt, tt)
    pass (s ∷ next ∷ l) less of = by (bytes_eq s.key next.key && not (follows sessions held s next)) refl (pass (next ∷ l) less.1 of.1)
      where
        key_is : (bytes_eq s.key next.key && not (follows sessions held s next)) ≡ true → s.key ≡ next.key
        key_is e = same_bytes s.key next.key (and_left (bytes_eq s.key next.key) (not (follows sessions held s next)) e)

        above : (x : KeySpan) → In x (s ∷ next ∷ l) → (bytes_eq s.key next.key && not (follows sessions held s next)) ≡ true → NotBelow x.key next.key
        above x (inl same) e = subst (λ (y : KeySpan). NotBelow y.key next.key) same (λ f. less-irreflexive next.key (subst (λ (k : List ℕ). key_cmp k next.key ≡ Less) (key_is e) f))
        above x (inr (inl same)) e = subst (λ (y : KeySpan). NotBelow y.key next.key) same (λ f. less-irreflexive next.key f)
        above x (inr (inr there)) e = rise_not next x (of_all (λ y. span_cmp next y ≡ Less) x l less.1.0 there)

        by : (b : Bool) → (bytes_eq s.key next.key && not (follows sessions held s next)) ≡ b → EachTwo (Passes (first_shared sessions held (next ∷ l))) (next ∷ l) → EachTwo (Passes (cond b (Some next.key) (first_shared sessions held (next ∷ l)))) (s ∷ next ∷ l)
        by true e rest = none_below next.key (s ∷ next ∷ l) (all_in (λ x. NotBelow x.key next.key) (s ∷ next ∷ l) (λ x there. above x there e)) less
        by false e rest =
            let one : s.key ≡ next.key → follows sessions held s next ≡ true = λ same. not_both (bytes_eq s.key next.key) (follows sessions held s next) e (equal_bytes s.key next.key same) in
            (((λ same below. one same), pass_behind (first_shared sessions held (next ∷ l)) s next l less of one rest.0), rest)

    -- ---- keys that are one record's alone

    pub apart_below : (l : List KeySpan) → AllLess l → AllByRecursion (AreOf tl begins) l → (key : List ℕ) → ((b : List ℕ) (e : ℕ) → Span (tl key) b e → In (record { key = key; bookmark = b; begins = begins b e; ends = e }) l) → IsBelow (first_shared sessions held l) key → AreSpansApart (tl key)
    apart_below l less of key all below b c e d one two differ =
        let s : KeySpan = record { key = key; bookmark = b; begins = begins b e; ends = e } in
        let next : KeySpan = record { key = key; bookmark = c; begins = begins c d; ends = d } in
        by s next (two_of (Passes (first_shared sessions held l)) l (pass l less of) s next (all b e one) (all c d two) (λ same. differ (ap (λ (x : KeySpan). x.bookmark) same, ap (λ (x : KeySpan). x.ends) same))) refl refl refl refl
      where
        begins_is : (b : List ℕ) (e : ℕ) → begins b e ≡ (tl key).begins b e
        begins_is b e = ap (λ (f : List ℕ → ℕ → ℕ). f b e) (sym (begun key))

        by : (s next : KeySpan) → Passes (first_shared sessions held l) s next ⊎ Passes (first_shared sessions held l) next s → s ≡ record { key = key; bookmark = b; begins = begins b e; ends = e } → next ≡ record { key = key; bookmark = c; begins = begins c d; ends = d } → key ≡ key → key ≡ key
            → Follows (tl key) e ((tl key).begins c d) ⊎ Follows (tl key) d ((tl key).begins b e)
        by s next (inl passes) s_is next_is f g =
            inl (subst (λ (x : ℕ). Follows (tl key) e x) (begins_is c d)
            (to_follows (tl key) (beside key) (record { key = key; bookmark = b; begins = begins b e; ends = e }) (record { key = key; bookmark = c; begins = begins c d; ends = d })
            (subst (λ (x : KeySpan). follows sessions held x (record { key = key; bookmark = c; begins = begins c d; ends = d }) ≡ true) s_is
            (subst (λ (x : KeySpan). follows sessions held s x ≡ true) next_is (passes (ap (λ (x : KeySpan). x.key) s_is ∙ sym (ap (λ (x : KeySpan). x.key) next_is)) (subst (IsBelow (first_shared sessions held l)) (sym (ap (λ (x : KeySpan). x.key) s_is)) below))))))
        by s next (inr passes) s_is next_is f g =
            inr (subst (λ (x : ℕ). Follows (tl key) d x) (begins_is b e)
            (to_follows (tl key) (beside key) (record { key = key; bookmark = c; begins = begins c d; ends = d }) (record { key = key; bookmark = b; begins = begins b e; ends = e })
            (subst (λ (x : KeySpan). follows sessions held x (record { key = key; bookmark = b; begins = begins b e; ends = e }) ≡ true) next_is
            (subst (λ (x : KeySpan). follows sessions held next x ≡ true) s_is (passes (ap (λ (x : KeySpan). x.key) next_is ∙ sym (ap (λ (x : KeySpan). x.key) s_is)) (subst (IsBelow (first_shared sessions held l)) (sym (ap (λ (x : KeySpan). x.key) next_is)) below))))))

    -- a key that is shared is not one record's alone
    same_span : (s next : KeySpan) → s.key ≡ next.key → s.bookmark ≡ next.bookmark → s.begins ≡ next.begins → s.ends ≡ next.ends → s ≡ next
    same_span s next a b c d = λ i. record { key = a i; bookmark = b i; begins = c i; ends = d i }

    pub shared_apart : (l : List KeySpan) → AllByRecursion (AreOf tl begins) l → (key : List ℕ) → SharedAt l key → AreSpansApart (tl key) → ⊥
    shared_apart l of key shared apart = by (apart s.bookmark next.bookmark s.ends next.ends (subst (λ (k : List ℕ). Span (tl k) s.bookmark s.ends) shared.s_key of_s.0) (subst (λ (k : List ℕ). Span (tl k) next.bookmark next.ends) shared.next_key of_next.0) differ)
      where
        s : KeySpan
        s = shared.s

        next : KeySpan
        next = shared.next

        of_s : AreOf tl begins s
        of_s = of_all (AreOf tl begins) s l of shared.s_in

        of_next : AreOf tl begins next
        of_next = of_all (AreOf tl begins) next l of shared.next_in

        begins_is : (x : KeySpan) → AreOf tl begins x → (tl key).begins x.bookmark x.ends ≡ x.begins
        begins_is x of_x = ap (λ (f : List ℕ → ℕ → ℕ). f x.bookmark x.ends) (begun key) ∙ sym of_x.1

        differ : (s.bookmark ≡ next.bookmark) × (s.ends ≡ next.ends) → ⊥
        differ same =
            not_itself next
            (subst (λ (x : KeySpan). span_cmp x next ≡ Less) (same_span s next (shared.s_key ∙ sym shared.next_key) same.0 (of_s.1 ∙ (λ i. begins (same.0 i) (same.1 i)) ∙ sym of_next.1) same.1) shared.less)

        rest_less : KeysRise s next → rest_cmp s next ≡ Less
        rest_less (inl up) = absurd (less-irreflexive key (subst (λ (k : List ℕ). key_cmp k key ≡ Less) shared.s_key (subst (λ (k : List ℕ). key_cmp s.key k ≡ Less) shared.next_key up)))
        rest_less (inr up) = up.1

        in_turn : s.ends ≤ next.ends
        in_turn = ends_rise s next (rest_less (keys_rise s next shared.less))

        within : (x : KeySpan) → AreOf tl begins x → x.begins ≤ x.ends
        within x of_x = subst (λ (m : ℕ). m ≤ x.ends) (begins_is x of_x) ((time key).within x.bookmark x.ends)

        by : Follows (tl key) s.ends ((tl key).begins next.bookmark next.ends) ⊎ Follows (tl key) next.ends ((tl key).begins s.bookmark s.ends) → ⊥
        by (inl f) = impossible (sym shared.apart ∙ of_follows (tl key) (beside key) s next (subst (λ (m : ℕ). Follows (tl key) s.ends m) (begins_is next of_next) f))
        by (inr f) = omega (arith, f.is, f.from, begins_is s of_s, within s of_s, in_turn)
