-- Each step keeps the rule.
use Rattle.std.proofs.Common.{◌≡◌, ◌≢◌, ◌⊎◌, ℕ, zero, suc, ◌+◌, ◌*◌, ◌%◌, ◌^◌, ◌≤◌, ◌<◌, Bool, true, false, cond, List, [], ◌∷◌, ◌++◌, length, set, refl, ap, sym, ◌∙◌, subst, ⊎_elim, arith, eqb, eq-eqb, eqb-true, ne_eqb, true≢false, ltb, ltb-true, ltb-false, length-set, length-append, append-nil, inl, inr, mod-eq_of_lt, le_trans}
use Rattle.std.specs.Prelude.{if◌then◌else◌, slice_index, slice_set, filter, not, ◌||◌}
use Rattle.std.proofs.Math.Nat.{max-le, max-eq_left}
use Rattle.std.proofs.lemmas.Bool.{or_right}
use mathlib.Core.Option.{some, some-injective, some-ne-none}
use mathlib.Core.List.{IsPrefix}
use lib.ListN.{get_elem?}
use Rattle.atomic_table.specs.Table.{State, Step, Me, Allows, Splits, Joins, keeps}
use Rattle.atomic_table.proofs.Lists.{at_set}
use Rattle.index_derive.specs.declared.log.Entry.{Entry}
use Rattle.index_derive.specs.declared.log.Step.{Step as Made}
use Rattle.index_derive.specs.declared.log.Step.TheVariants.{One, Alone}
use Rattle.index_derive.specs.Steps.{step_length}
use Rattle.history_word.specs.declared.views.Part.{Part}
use Rattle.history_word.specs.declared.views.View.{View}
use Rattle.history_word.specs.Parts.{has_right, rights_without, own_entries, are_own, blank_part, lone_view, with_log, longer_log, informed, note_of, without_right, with_one_right, without_store, store_part, first_part, given_to, trimmed_to}
use Rattle.history_word.specs.Rule.{Truth, Fits, FitsView, AllFit, IsKept}
use Rattle.history_word.specs.Moves.{Appends, Looks, Learns, Gives, Trims}
use Rattle.history_word.proofs.Logs.{off, prefix_self, prefix_more, prefix_shorter, own_none, own_append, own_strange, own_between}

abbrev pub holds : State (Unit {0}) View → Type 0
holds s = IsKept s.words s.views

-- ---- places

abbrev moved_to : ℕ → ℕ → ℕ → ℕ
moved_to a b x = if eqb x a then b else x

if_here : (a b c x : ℕ) → x ≡ a → (if eqb x a then b else c) ≡ b
if_here a b c x e = ap (λ (t : Bool). if t then b else c) (eq-eqb x a e)

if_else : (a b c x : ℕ) → x ≢ a → (if eqb x a then b else c) ≡ c
if_else a b c x ne = ap (λ (t : Bool). if t then b else c) (ne_eqb x a ne)

moved_here : (a b x : ℕ) → x ≡ a → moved_to a b x ≡ b
moved_here a b x e = if_here a b x x e

moved_else : (a b x : ℕ) → x ≢ a → moved_to a b x ≡ x
moved_else a b x ne = if_else a b x x ne

-- what lay at the place a lies at b
abbrev move : Truth → ℕ → ℕ → Truth
move t a b = record { log = t.log; turn_place = moved_to a b t.turn_place; right_place = λ s. moved_to a b (t.right_place s); store_place = moved_to a b t.store_place; given = t.given; faults = t.faults }

fits_moved : (t : Truth) (a b : ℕ) (p : Part) → Fits t a p → Fits (move t a b) b p
fits_moved t a b p h = record {
  begins = h.begins;
  turn = λ e. (moved_here a b t.turn_place (h.turn e).0, (h.turn e).1, (h.turn e).2);
  rights = λ s e. moved_here a b (t.right_place s) (h.rights s e);
  own = h.own;
  store = λ e. (moved_here a b t.store_place (h.store e).0, (h.store e).1, (h.store e).2);
  flushed = h.flushed;
  faults = h.faults;
}

fits_apart : (t : Truth) (a b c : ℕ) (p : Part) → c ≢ a → Fits t c p → Fits (move t a b) c p
fits_apart t a b c p ne h = record {
  begins = h.begins;
  turn = λ e. let at = (h.turn e).0 in (moved_else a b t.turn_place (λ d. ne (sym at ∙ d)) ∙ at, (h.turn e).1, (h.turn e).2);
  rights = λ s e. let at = h.rights s e in moved_else a b (t.right_place s) (λ d. ne (sym at ∙ d)) ∙ at;
  own = h.own;
  store = λ e. let at = (h.store e).0 in (moved_else a b t.store_place (λ d. ne (sym at ∙ d)) ∙ at, (h.store e).1, (h.store e).2);
  flushed = h.flushed;
  faults = h.faults;
}

fits_blank : (t : Truth) (c : ℕ) → Fits t c blank_part
fits_blank t c = record {
  begins = (t.log, refl);
  turn = λ e. absurd (off e);
  rights = λ s e. absurd (off e);
  own = sym (own_none t.log);
  store = λ e. absurd (off e);
  flushed = omega arith;
  faults = omega arith;
}

-- ---- the views

all_set : (t t' : Truth) (views : List View) (n : ℕ) (w : View) → AllFit t views → ((j : ℕ) (u : View) → j ≢ n → FitsView t j u → FitsView t' j u) → FitsView t' n w → AllFit t' (set views n w)
all_set t t' views n w all others mine j u e =
    ⊎_elim
    (λ (x : (j ≡ n) × (w ≡ u)). subst (λ (y : ℕ × View). FitsView t' y.0 y.1) (λ i. (sym x.0 i, x.1 i)) mine)
    (λ (x : (j ≢ n) × (get_elem? views j ≡ some u)). others j u x.0 (all j u x.1))
    (at_set views n j w u e)

at_end : {A : Type 0} (l : List A) (a b : A) (j : ℕ) → get_elem? (l ++ a ∷ []) j ≡ some b → (get_elem? l j ≡ some b) ⊎ ((j ≡ length l) × (a ≡ b))
at_end [] a b zero e = inr (refl, some-injective a b e)
at_end [] a b (suc j) e = absurd (some-ne-none b (sym e))
at_end (x ∷ xs) a b zero e = inl e
at_end (x ∷ xs) a b (suc j) e = ⊎_elim (λ y. inl y) (λ (y : (j ≡ length xs) × (a ≡ b)). inr (ap suc y.0, y.1)) (at_end xs a b j e)

all_end : (t : Truth) (views : List View) (w : View) → AllFit t views → FitsView t (length views) w → AllFit t (views ++ w ∷ [])
all_end t views w all mine j u e =
    ⊎_elim
    (λ (x : get_elem? views j ≡ some u). all j u x)
    (λ (x : (j ≡ length views) × (w ≡ u)). subst (λ (y : ℕ × View). FitsView t y.0 y.1) (λ i. (sym x.0 i, x.1 i)) mine)
    (at_end views w u j e)

-- the seat n has_right `left` afterwards, and a new one has_right `right`
cut : (t t' : Truth) (views : List View) (n : ℕ) (left right : View) → AllFit t views → ((j : ℕ) (u : View) → j ≢ n → FitsView t j u → FitsView t' j u) → FitsView t' n left → FitsView t' (length views) right
    → AllFit t' (set views n left ++ right ∷ [])
cut t t' views n left right all others one two =
    all_end t' (set views n left) right (all_set t t' views n left all others one) (subst (λ m. FitsView t' m right) (sym (length-set views n left)) two)

-- all but the part at the place a, which moves to b
others_stay : (t : Truth) (n a b : ℕ) → ((j : ℕ) → j ≢ n → (2 * j ≢ a) × (2 * j + 1 ≢ a)) → (j : ℕ) (u : View) → j ≢ n → FitsView t j u → FitsView (move t a b) j u
others_stay t n a b apart j u ne h = (fits_apart t a b (2 * j) u.mine (apart j ne).0 h.0, fits_apart t a b (2 * j + 1) u.guest (apart j ne).1 h.1)

pub guest_goes : (n : ℕ) (v : View) → Splits holds n v (lone_view v.mine) (lone_view v.guest)
guest_goes n v s kept at =
    let t = kept.0 in
    let h = kept.2 n v at in
    let a : ℕ = 2 * n + 1 in
    let b : ℕ = 2 * length s.views in (
      move t a b,
      kept.1,
      cut t (move t a b) s.views n (lone_view v.mine) (lone_view v.guest) kept.2
          (others_stay t n a b (λ j ne. ((λ e. omega (arith, e)), (λ e. ne (omega (arith, e))))))
          (fits_apart t a b (2 * n) v.mine (λ e. omega (arith, e)) h.0, fits_blank (move t a b) (2 * n + 1))
          (fits_moved t a b v.guest h.1, fits_blank (move t a b) (2 * length s.views + 1)),
    )

pub whole_goes : (n : ℕ) (v : View) → Splits holds n v (lone_view blank_part) (lone_view v.mine)
whole_goes n v s kept at =
    let t = kept.0 in
    let h = kept.2 n v at in
    let a : ℕ = 2 * n in
    let b : ℕ = 2 * length s.views in (
      move t a b,
      kept.1,
      cut t (move t a b) s.views n (lone_view blank_part) (lone_view v.mine) kept.2
          (others_stay t n a b (λ j ne. ((λ e. ne (omega (arith, e))), (λ e. omega (arith, e)))))
          (fits_blank (move t a b) (2 * n), fits_blank (move t a b) (2 * n + 1))
          (fits_moved t a b v.mine h.0, fits_blank (move t a b) (2 * length s.views + 1)),
    )

pub joins : (n : ℕ) (v : View) (other : ℕ) (w : View) → Joins holds n v other w (record { mine = v.mine; guest = w.mine }) (lone_view blank_part)
joins n v other w s kept at apart there =
    let t = kept.0 in
    let a : ℕ = 2 * other in
    let b : ℕ = 2 * n + 1 in
    let t' = move t a b in
    let both : View = record { mine = v.mine; guest = w.mine } in
    let theirs : get_elem? s.views other ≡ some w = ⊎_elim (λ (x : (other ≡ n) × (both ≡ w)). absurd (apart x.0)) (λ (x : (other ≢ n) × (get_elem? s.views other ≡ some w)). x.1) (at_set s.views n other both w there) in
    let h = kept.2 n v at in
    let k = kept.2 other w theirs in
    let mine : FitsView t' n both = (fits_apart t a b (2 * n) v.mine (λ e. apart (omega (arith, e))) h.0, fits_moved t a b w.mine k.0) in (
      t',
      kept.1,
      λ j u e. ⊎_elim
          (λ (x : (j ≡ other) × (lone_view blank_part ≡ u)). subst (FitsView t' j) x.1 (fits_blank t' (2 * j), fits_blank t' (2 * j + 1)))
          (λ (x : (j ≢ other) × (get_elem? (set s.views n both) j ≡ some u)). ⊎_elim
          (λ (y : (j ≡ n) × (both ≡ u)). subst (λ (z : ℕ × View). FitsView t' z.0 z.1) (λ i. (sym y.0 i, y.1 i)) mine)
          (λ (y : (j ≢ n) × (get_elem? s.views j ≡ some u)). let f = kept.2 j u y.1 in (fits_apart t a b (2 * j) u.mine (λ e. x.0 (omega (arith, e))) f.0, fits_apart t a b (2 * j + 1) u.guest (λ e. omega (arith, e)) f.1))
          (at_set s.views n j both u x.1))
          (at_set (set s.views n both) other j (lone_view blank_part) u e),
    )

-- ---- the right of a session

-- `has_right` of what a filter leaves
filter_head : (f : ℕ → Bool) (x y : ℕ) (ys : List ℕ) (b : Bool) → f y ≡ b → (c : Bool) → eqb y x ≡ c → ((has_right x (filter f ys) ≡ true) → (has_right x ys ≡ true) × (f x ≡ true))
    → has_right x (cond b (y ∷ filter f ys) (filter f ys)) ≡ true → (has_right x (y ∷ ys) ≡ true) × (f x ≡ true)
filter_head f x y ys true is true same rest e = (ap (λ b. b || has_right x ys) same, ap f (sym (eqb-true y x same)) ∙ is)
filter_head f x y ys true is false same rest e = let r = rest (sym (ap (λ b. b || has_right x (filter f ys)) same) ∙ e) in (or_right (eqb y x) (has_right x ys) r.0, r.1)
filter_head f x y ys false is c same rest e = let r = rest e in (or_right (eqb y x) (has_right x ys) r.0, r.1)

has_filter : (f : ℕ → Bool) (x : ℕ) (ys : List ℕ) → has_right x (filter f ys) ≡ true → (has_right x ys ≡ true) × (f x ≡ true)
has_filter f x [] e = absurd (off e)
has_filter f x (y ∷ ys) e = filter_head f x y ys (f y) refl (eqb y x) refl (has_filter f x ys) e

has_without : (s x : ℕ) (xs : List ℕ) → has_right x (rights_without s xs) ≡ true → (has_right x xs ≡ true) × (x ≢ s)
has_without s x xs e =
    let h = has_filter (λ (y : ℕ). not (eqb y s)) x xs e in
    (h.0, λ is. true≢false (sym h.1 ∙ ap not (eq-eqb x s is)))

-- the right of the session s moves to the place b
abbrev hand : Truth → ℕ → ℕ → Truth
hand t s b = record { log = t.log; turn_place = t.turn_place; right_place = λ x. if eqb x s then b else t.right_place x; store_place = t.store_place; given = t.given; faults = t.faults }

fits_beside : (t : Truth) (s b c : ℕ) (p : Part) → ((x : ℕ) → has_right x p.rights ≡ true → x ≢ s) → Fits t c p → Fits (hand t s b) c p
fits_beside t s b c p ne h = record {
  begins = h.begins;
  turn = h.turn;
  rights = λ x e. if_else s b (t.right_place x) x (ne x e) ∙ h.rights x e;
  own = h.own;
  store = h.store;
  flushed = h.flushed;
  faults = h.faults;
}

has_one : (s x : ℕ) → has_right x (s ∷ []) ≡ true → x ≡ s
has_one s x e = by_case (eqb s x) refl e
  where
    by_case : (b : Bool) → eqb s x ≡ b → (b || false) ≡ true → x ≡ s
    by_case true is e = sym (eqb-true s x is)
    by_case false is e = absurd (off e)

pub right_goes : (s n : ℕ) (v : View) → v.mine.turn ≡ true → has_right s v.mine.rights ≡ true → Splits holds n v (lone_view (without_right s v.mine)) (lone_view (with_one_right s v.mine))
right_goes s n v is_turn right st kept at =
    let t = kept.0 in
    let h = (kept.2 n v at).0 in
    let b : ℕ = 2 * length st.views in
    let t' = hand t s b in
    let here = h.rights s right in
    let whole = (h.turn is_turn).1 in (
      t',
      kept.1,
      cut t t' st.views n (lone_view (without_right s v.mine)) (lone_view (with_one_right s v.mine)) kept.2
          (λ j u ne f. (
            fits_beside t s b (2 * j) u.mine (λ x e is. ne (omega (arith, f.0.rights x e, here, ap t.right_place is))) f.0,
            fits_beside t s b (2 * j + 1) u.guest (λ x e is. omega (arith, f.1.rights x e, here, ap t.right_place is)) f.1,
          )) (
            record {
              begins = h.begins;
              turn = h.turn;
              rights = λ x e. let k = has_without s x v.mine.rights e in if_else s b (t.right_place x) x k.1 ∙ h.rights x k.0;
              own = ap (own_entries (rights_without s v.mine.rights)) whole;
              store = h.store;
              flushed = h.flushed;
              faults = h.faults;
            },
            fits_blank t' (2 * n + 1),
          ) (
            record {
              begins = h.begins;
              turn = λ e. absurd (off e);
              rights = λ x e. if_here s b (t.right_place x) x (has_one s x e);
              own = ap (own_entries (s ∷ [])) whole;
              store = λ e. absurd (off e);
              flushed = h.flushed;
              faults = h.faults;
            },
            fits_blank t' (2 * length st.views + 1),
          ),
    )

-- the store's right moves to the place b
abbrev shift : Truth → ℕ → Truth
shift t b = record { log = t.log; turn_place = t.turn_place; right_place = t.right_place; store_place = b; given = t.given; faults = t.faults }

fits_storeless : (t : Truth) (b c : ℕ) (p : Part) → (p.store ≡ true → ⊥) → Fits t c p → Fits (shift t b) c p
fits_storeless t b c p not_store h = record { begins = h.begins; turn = h.turn; rights = h.rights; own = h.own; store = λ e. absurd (not_store e); flushed = h.flushed; faults = h.faults }

pub store_goes : (n : ℕ) (v : View) → v.mine.store ≡ true → Splits holds n v (lone_view (without_store v.mine)) (lone_view (store_part v.mine))
store_goes n v is_store st kept at =
    let t = kept.0 in
    let h = (kept.2 n v at).0 in
    let b : ℕ = 2 * length st.views in
    let t' = shift t b in
    let here = h.store is_store in (
      t',
      kept.1,
      cut t t' st.views n (lone_view (without_store v.mine)) (lone_view (store_part v.mine)) kept.2
          (λ j u ne f. (
            fits_storeless t b (2 * j) u.mine (λ e. ne (omega (arith, (f.0.store e).0, here.0))) f.0,
            fits_storeless t b (2 * j + 1) u.guest (λ e. omega (arith, (f.1.store e).0, here.0)) f.1,
          )) (
            record { begins = h.begins; turn = h.turn; rights = h.rights; own = h.own; store = λ e. absurd (off e); flushed = h.flushed; faults = h.faults },
            fits_blank t' (2 * n + 1),
          ) (
            record {
              begins = h.begins;
              turn = λ e. absurd (off e);
              rights = λ x e. absurd (off e);
              own = own_none v.mine.log ∙ sym (own_none t.log);
              store = λ e. (refl, here.1, here.2);
              flushed = h.flushed;
              faults = h.faults;
            },
            fits_blank t' (2 * length st.views + 1),
          ),
    )

noted : (t : Truth) (c : ℕ) (p : Part) → Fits t c p → (b : Bool) → p.store ≡ b → (if b then p.given else p.flushed) ≤ t.given
noted t c p h true is = omega (arith, (h.store is).1)
noted t c p h false is = h.flushed

pub copy_goes : (n : ℕ) (v : View) → Splits holds n v v (lone_view (note_of v.mine))
copy_goes n v st kept at =
    let t = kept.0 in
    let f = kept.2 n v at in
    let h = f.0 in (
      t,
      kept.1,
      cut t t st.views n v (lone_view (note_of v.mine)) kept.2 (λ j u ne f. f) f (
        record {
          begins = h.begins;
          turn = λ e. absurd (off e);
          rights = λ x e. absurd (off e);
          own = own_none v.mine.log ∙ sym (own_none t.log);
          store = λ e. absurd (off e);
          flushed = noted t (2 * n) v.mine h v.mine.store refl;
          faults = h.faults;
        },
        fits_blank t (2 * length st.views + 1),
      ),
    )

-- ---- steps

-- the log is l now, and p has seen it
abbrev grown : Truth → List Entry → Truth
grown t l = record { log = l; turn_place = t.turn_place; right_place = t.right_place; store_place = t.store_place; given = t.given; faults = t.faults }

fits_whole : (t : Truth) (l : List Entry) (c : ℕ) (p : Part) → Fits t c p → Fits (grown t l) c (with_log p l)
fits_whole t l c p h = record {
  begins = prefix_self l;
  turn = λ e. ((h.turn e).0, refl, (h.turn e).2);
  rights = h.rights;
  own = refl;
  store = h.store;
  flushed = h.flushed;
  faults = h.faults;
}

fits_grown : (t : Truth) (es : List Entry) (c : ℕ) (p : Part) → (p.turn ≡ true → ⊥) → own_entries p.rights es ≡ [] → Fits t c p → Fits (grown t (t.log ++ es)) c p
fits_grown t es c p not_turn strange h = record {
  begins = prefix_more p.log t.log es h.begins;
  turn = λ e. absurd (not_turn e);
  rights = h.rights;
  own = h.own ∙ sym (own_append p.rights t.log es ∙ ap (λ l. own_entries p.rights t.log ++ l) strange ∙ append-nil (own_entries p.rights t.log));
  store = h.store;
  flushed = h.flushed;
  faults = h.faults;
}

-- the word, where the log has_right n entries
word_found : (words : List ℕ) (n : ℕ) → words ≡ n ∷ [] → slice_index words 0 ≡ n
word_found words n e = ap (λ w. slice_index w 0) e

word_set : (words : List ℕ) (n m : ℕ) → words ≡ n ∷ [] → slice_set words 0 m ≡ m ∷ []
word_set words n m e = ap (λ w. slice_set w 0 m) e

pub appends : (entries : List Entry) (slots id : ℕ) (me : Me (Unit {0}) View) (k : ℕ) (s : Step (Unit {0})) → me.0.mine.turn ≡ true → are_own me.0.guest.rights entries ≡ true → k ≡ length entries → k < 4 → length me.0.mine.log < 2 ^ 62
    → Allows holds slots id me 0 (λ n. (n + k) % 2 ^ 64) (Appends entries s me)
appends entries slots id me k s is_turn all counted few room st kept homes at range =
    let t = kept.0 in
    let v = me.0 in
    let f = kept.2 id v at in
    let whole : v.mine.log ≡ t.log = (f.0.turn is_turn).1 in
    let turn_place = (f.0.turn is_turn).0 in
    let m : List Entry = v.mine.log ++ entries in
    let same : t.log ++ entries ≡ m = ap (λ l. l ++ entries) (sym whole) in
    let w : View = record { mine = with_log v.mine m; guest = with_log v.guest m } in
    let found : slice_index st.words 0 ≡ length v.mine.log = word_found st.words (length t.log) kept.1 ∙ ap length (sym whole) in
    let fits : slice_index st.words 0 + k < 2 ^ 64 = omega (arith, found, few, room) in
    let sum : (slice_index st.words 0 + k) % 2 ^ 64 ≡ length m = mod-eq_of_lt fits ∙ omega (arith, found, counted, length-append v.mine.log entries) in (
      w,
      keeps,
      tt,
      (
        grown t m,
        word_set st.words (length t.log) ((slice_index st.words 0 + k) % 2 ^ 64) kept.1 ∙ ap (λ (n : ℕ). n ∷ []) sum,
        all_set t (grown t m) st.views id w kept.2
            (λ j u ne g. subst (λ l. FitsView (grown t l) j u) same (
              fits_grown t entries (2 * j) u.mine (λ e. ne (omega (arith, (g.0.turn e).0, turn_place))) (own_strange u.mine.rights v.guest.rights entries all (λ x his mine. omega (arith, g.0.rights x his, f.1.rights x mine))) g.0,
              fits_grown t entries (2 * j + 1) u.guest (λ e. omega (arith, (g.1.turn e).0, turn_place)) (own_strange u.guest.rights v.guest.rights entries all (λ x his mine. ne (omega (arith, g.1.rights x his, f.1.rights x mine)))) g.1,
            ))
            (fits_whole t m (2 * id) v.mine f.0, fits_whole t m (2 * id + 1) v.guest f.1),
      ),
      (
        found,
        (subst (λ l. IsPrefix v.guest.log l) (sym whole) f.1.begins, f.1.own ∙ ap (own_entries v.guest.rights) (sym whole)),
        refl,
        refl,
      ),
    )

pub looks : (slots id : ℕ) (me : Me (Unit {0}) View) (s : Step (Unit {0})) → me.0.mine.turn ≡ true → Allows holds slots id me 0 (λ n. n) (Looks s me)
looks slots id me s is_turn st kept homes at range =
    let t = kept.0 in
    let v = me.0 in
    let f = kept.2 id v at in
    let whole : v.mine.log ≡ t.log = (f.0.turn is_turn).1 in
    let w : View = record { mine = v.mine; guest = with_log v.guest v.mine.log } in
    let found : slice_index st.words 0 ≡ length v.mine.log = word_found st.words (length t.log) kept.1 ∙ ap length (sym whole) in (
      w,
      keeps,
      tt,
      (
        t,
        word_set st.words (length t.log) (slice_index st.words 0) kept.1 ∙ ap (λ (n : ℕ). n ∷ []) (word_found st.words (length t.log) kept.1),
        all_set t t st.views id w kept.2 (λ j u ne g. g) (f.0, subst (λ l. Fits t (2 * id + 1) (with_log v.guest l)) (sym whole) (fits_whole t t.log (2 * id + 1) v.guest f.1)),
      ),
      (
        found,
        (subst (λ l. IsPrefix v.guest.log l) (sym whole) f.1.begins, f.1.own ∙ ap (own_entries v.guest.rights) (sym whole)),
        (λ e. omega (arith, (f.1.store e).1, (f.0.turn is_turn).2)),
        refl,
        refl,
      ),
    )

-- the longer of two logs
pub longer_is : (p q l : List Entry) (P : List Entry → Type 0) → (length q ≤ length p → P p) → (length p < length q → P q) → P (longer_log p q)
longer_is p q l P this that = by_case (ltb (length p) (length q)) refl
  where
    by_case : (b : Bool) → ltb (length p) (length q) ≡ b → P (if b then q else p)
    by_case true is = that (ltb-true (length p) (length q) is)
    by_case false is = this (ltb-false (length p) (length q) is)

pub learns : (slots id : ℕ) (me : Me (Unit {0}) View) (s : Step (Unit {0})) → me.0.mine.turn ≡ false → Allows holds slots id me 0 (λ n. n) (Learns s me)
learns slots id me s not_turn st kept homes at range =
    let t = kept.0 in
    let v = me.0 in
    let f = kept.2 id v at in
    let p = v.mine in
    let q = v.guest in
    let l : List Entry = longer_log p.log q.log in
    let w : View = lone_view (informed p q) in
    let after : length p.log < length q.log → IsPrefix p.log q.log = λ lt. prefix_shorter p.log q.log t.log f.0.begins f.1.begins (omega (arith, lt)) in
    let before : length q.log ≤ length p.log → IsPrefix q.log p.log = λ le. prefix_shorter q.log p.log t.log f.1.begins f.0.begins le in
    let ends : IsPrefix l t.log = longer_is p.log q.log l (λ x. IsPrefix x t.log) (λ le. f.0.begins) (λ lt. f.1.begins) in
    let begins : IsPrefix p.log l = longer_is p.log q.log l (λ x. IsPrefix p.log x) (λ le. prefix_self p.log) after in
    let note : IsPrefix q.log l = longer_is p.log q.log l (λ x. IsPrefix q.log x) before (λ lt. prefix_self q.log) in
    let own : own_entries p.rights l ≡ own_entries p.rights p.log = own_between p.rights p.log l t.log begins ends f.0.own in (
      w,
      keeps,
      tt,
      (
        t,
        word_set st.words (length t.log) (slice_index st.words 0) kept.1 ∙ ap (λ (n : ℕ). n ∷ []) (word_found st.words (length t.log) kept.1),
        all_set t t st.views id w kept.2 (λ j u ne g. g) (
          record {
            begins = ends;
            turn = λ e. absurd (true≢false (sym e ∙ not_turn));
            rights = f.0.rights;
            own = own ∙ f.0.own;
            store = λ e. let h = f.0.store e in (h.0, h.1, max-eq_left (omega (arith, f.1.faults, h.2)) ∙ h.2);
            flushed = max-le f.0.flushed f.1.flushed;
            faults = max-le f.0.faults f.1.faults;
          },
          fits_blank t (2 * id + 1),
        ),
      ),
      (
        begins,
        note,
        own,
        (λ e. let h = f.0.store e in (omega (arith, f.1.faults, h.2), omega (arith, f.1.flushed, h.1), omega (arith, f.0.flushed, h.1))),
        refl,
        refl,
      ),
    )

-- ---- the start

abbrev start : Truth
start = record { log = []; turn_place = 0; right_place = λ s. 0; store_place = 0; given = 0; faults = 0 }

pub begins : (rights : List ℕ) → IsKept (0 ∷ []) (lone_view (first_part rights) ∷ [])
begins rights = (start, refl, one)
  where
    one : (n : ℕ) (v : View) → get_elem? (lone_view (first_part rights) ∷ []) n ≡ some v → FitsView start n v
    one zero v e = subst (FitsView start 0) (some-injective _ _ e) (
      record {
        begins = prefix_self [];
        turn = λ e. (refl, refl, omega arith);
        rights = λ s e. refl;
        own = refl;
        store = λ e. (refl, refl, refl);
        flushed = omega arith;
        faults = omega arith;
      },
      fits_blank start 1,
    )
    one (suc n) v e = absurd (some-ne-none v (sym e))

-- a step has_right one entry or three
pub few : (s : Made) (n : ℕ) → n ≡ step_length s → n < 4
few (One made) n e = omega (arith, e)
few (Alone made) n e = omega (arith, e)

-- ---- positions

abbrev risen : Truth → ℕ → ℕ → Truth
risen t to count = record { log = t.log; turn_place = t.turn_place; right_place = t.right_place; store_place = t.store_place; given = to; faults = count }

fits_risen : (t : Truth) (to count c : ℕ) (p : Part) → t.given ≤ to → t.faults ≤ count → (p.store ≡ true → ⊥) → Fits t c p → Fits (risen t to count) c p
fits_risen t to count c p later more not_store h = record {
  begins = h.begins;
  turn = λ e. let g = h.turn e in (g.0, g.1, le_trans g.2 later);
  rights = h.rights;
  own = h.own;
  store = λ e. absurd (not_store e);
  flushed = le_trans h.flushed later;
  faults = le_trans h.faults more;
}

pub gives : (to count slots id : ℕ) (me : Me (Unit {0}) View) (s : Step (Unit {0})) → me.0.mine.store ≡ true → me.0.mine.given ≤ to → me.0.mine.faults ≤ count → Allows holds slots id me 0 (λ n. n) (Gives to count s me)
gives to count slots id me s is_store later more st kept homes at range =
    let t = kept.0 in
    let v = me.0 in
    let f = kept.2 id v at in
    let here = f.0.store is_store in
    let rises : t.given ≤ to = omega (arith, here.1, later) in
    let grows : t.faults ≤ count = omega (arith, here.2, more) in
    let w : View = record { mine = given_to to count v.mine; guest = v.guest } in (
      w,
      keeps,
      tt,
      (
        risen t to count,
        word_set st.words (length t.log) (slice_index st.words 0) kept.1 ∙ ap (λ (n : ℕ). n ∷ []) (word_found st.words (length t.log) kept.1),
        all_set t (risen t to count) st.views id w kept.2
            (λ j u ne g. (
              fits_risen t to count (2 * j) u.mine rises grows (λ e. ne (omega (arith, (g.0.store e).0, here.0))) g.0,
              fits_risen t to count (2 * j + 1) u.guest rises grows (λ e. omega (arith, (g.1.store e).0, here.0)) g.1,
            )) (
              record {
                begins = f.0.begins;
                turn = λ e. let g = f.0.turn e in (g.0, g.1, le_trans g.2 rises);
                rights = f.0.rights;
                own = f.0.own;
                store = λ e. (here.0, refl, refl);
                flushed = le_trans f.0.flushed rises;
                faults = omega arith;
              },
              fits_risen t to count (2 * id + 1) v.guest rises grows (λ e. omega (arith, (f.1.store e).0, here.0)) f.1,
            ),
      ),
      (refl, refl),
    )

pub trims : (to slots id : ℕ) (me : Me (Unit {0}) View) (s : Step (Unit {0})) → me.0.mine.turn ≡ true → me.0.guest.store ≡ true → to ≤ me.0.guest.given → Allows holds slots id me 0 (λ n. n) (λ n. Trims to s me 0)
trims to slots id me s is_turn is_store most st kept homes at range =
    let t = kept.0 in
    let v = me.0 in
    let f = kept.2 id v at in
    let whole : v.mine.log ≡ t.log = (f.0.turn is_turn).1 in
    let w : View = record { mine = trimmed_to to v.mine; guest = with_log v.guest v.mine.log } in (
      w,
      keeps,
      tt,
      (
        t,
        word_set st.words (length t.log) (slice_index st.words 0) kept.1 ∙ ap (λ (n : ℕ). n ∷ []) (word_found st.words (length t.log) kept.1),
        all_set t t st.views id w kept.2 (λ j u ne g. g) (
          record {
            begins = f.0.begins;
            turn = λ e. ((f.0.turn e).0, (f.0.turn e).1, omega (arith, most, (f.1.store is_store).1));
            rights = f.0.rights;
            own = f.0.own;
            store = f.0.store;
            flushed = f.0.flushed;
            faults = f.0.faults;
          },
          subst (λ l. Fits t (2 * id + 1) (with_log v.guest l)) (sym whole) (fits_whole t t.log (2 * id + 1) v.guest f.1),
        ),
      ),
      ((subst (λ l. IsPrefix v.guest.log l) (sym whole) f.1.begins, f.1.own ∙ ap (own_entries v.guest.rights) (sym whole)), refl, refl),
    )
