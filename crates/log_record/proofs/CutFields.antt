-- Flags, bookmarks and other fields of which only a front stands there.
use Rattle.std.proofs.Common.{◌≡◌, ℕ, zero, suc, ◌+◌, ◌-◌, ◌*◌, ◌^◌, ◌<◌, ◌≤◌, Bool, true, ltb, leb, eqb, ◌&&◌, cond, List, [], ◌∷◌, ◌++◌, length, take, drop, Some, None, refl, sym, ap, subst, ◌∙◌, arith}
use Rattle.std.specs.Int.{w16, to_le_bytes}
use Rattle.std.proofs.lemmas.Bool.{and_parts, and_from, leb-true, le-leb, lt-ltb}
use Rattle.log_record.specs.EntryCuts.{after, filled, bytes_cut, byte_cut, bookmark_size, bookmark_cut}
use Rattle.log_record.proofs.CutLaws.{Then}
use Rattle.log_record.proofs.CutSteps.{Decides, Where, decides_where, decides_bytes, filled_from, filled_parts}
use Rattle.log_record.proofs.CutCases.{decides_case8, decides_case16}

-- a byte that passes
abbrev pub ByteThen : (ℕ → Bool) → (List ℕ → Type 0) → List ℕ → Type 0
ByteThen passes Rest bytes = Then (λ n. n ∷ []) (λ n. ltb n 256) (λ n. Where (passes n) Rest) bytes

pub decides_byte : (passes : ℕ → Bool) (one : ℕ) → one < 256 → passes one ≡ true → (test : List ℕ → ℕ → Bool) (Rest : List ℕ → Type 0) → Decides test Rest → Decides (byte_cut passes test) (ByteThen passes Rest)
decides_byte passes one lt is test Rest d =
    decides_case8 (λ n behind left. passes n && test behind left) (λ n. Where (passes n) Rest) (filled 1 test) (λ n small. decides_where (passes n) test Rest (λ h. d))
    (λ missing few h. let p = filled_parts 1 test missing h in (one, missing - 1, lt, p.counted, and_from (passes one) (test [] (missing - 1)) is p.goes_on))
    (λ n left few small h. filled_from 1 test (1 + left) left refl (and_parts (passes n) (test [] left) h).1)

-- where no byte stands
pub bytes_cut_none : (n : ℕ) (test : List ℕ → ℕ → Bool) (missing : ℕ) → bytes_cut n test [] missing ≡ filled n test missing
bytes_cut_none zero test missing =
    let least : leb 0 missing ≡ true = le-leb _ _ (omega arith) in
    let same : missing - 0 ≡ missing = omega arith in
    λ k. sym least k && test [] (sym same k)
bytes_cut_none (suc n) test missing =
    let none : ltb 0 (suc n) ≡ true = lt-ltb _ _ (omega arith) in
    let same : suc n - 0 ≡ suc n = omega arith in
    λ k. after (cond (none k) None (Some (take {A = ℕ} (suc n) [], drop {A = ℕ} (suc n) []))) (λ text. test) missing (filled (same k) test missing)

-- ---- bookmarks

abbrev pub Text : ℕ → (List ℕ → Type 0) → List ℕ → Type 0
Text n Rest bytes = Then (λ text. text) (λ text. eqb (length text) n) (λ text. Rest) bytes

abbrev pub BookmarkThen : (List ℕ → Type 0) → List ℕ → Type 0
BookmarkThen Rest bytes = Then (to_le_bytes w16) (λ n. ltb n (2 ^ 16)) (λ n. Where (bookmark_size n) (Text n Rest)) bytes

pub bookmark_size_parts : (n : ℕ) → bookmark_size n ≡ true → (1 ≤ n) × (n ≤ 255)
bookmark_size_parts n h = let p = and_parts (leb 1 n) (leb n 255) h in (leb-true _ _ p.0, leb-true _ _ p.1)

pub bookmark_size_from : (n : ℕ) → 1 ≤ n → n ≤ 255 → bookmark_size n ≡ true
bookmark_size_from n least most = and_from (leb 1 n) (leb n 255) (le-leb _ _ least) (le-leb _ _ most)

-- a bookmark's size, and what is left for what follows
pub record SizeLeft (test : List ℕ → ℕ → Bool) (missing : ℕ) : Type 0 where
  pub size : ℕ
  pub left : ℕ
  pub least : 1 ≤ size
  pub most : size ≤ 255
  pub counted : missing ≡ 2 + (size + left)
  pub goes_on : test [] left ≡ true

record Parts (test : List ℕ → ℕ → Bool) (n left : ℕ) : Type 0 where
  least : 1 ≤ n
  most : n ≤ 255
  counted : left ≡ n + (left - n)
  goes_on : test [] (left - n) ≡ true

pub decides_bookmark : (none : ℕ → Bool) (test : List ℕ → ℕ → Bool) (Rest : List ℕ → Type 0) → Decides test Rest
    → ((missing : ℕ) → none missing ≡ true → SizeLeft test missing)
    → ((size left : ℕ) → 1 ≤ size → size ≤ 255 → test [] left ≡ true → none (2 + (size + left)) ≡ true)
    → Decides (bookmark_cut none test) (BookmarkThen Rest)
decides_bookmark none test Rest d some of =
    decides_case16 (λ n behind left. bookmark_size n && bytes_cut n test behind left) (λ n. Where (bookmark_size n) (Text n Rest)) none (λ low left. leb 1 low && filled (1 + low) test left)
    (λ n small. decides_where (bookmark_size n) (bytes_cut n test) (Text n Rest) (λ h. decides_bytes n test Rest d))
    (λ missing few h.
    let s = some missing h in
    (s.size, s.size + s.left, omega (arith, s.most), s.counted, whole s.size s.left s.least s.most s.goes_on))
    (λ n left few small h.
    let p = parts n left h in
    ap none (omega (arith, p.counted)) ∙ of n (left - n) p.least p.most p.goes_on)
    (λ a missing few small h.
    let p = and_parts (leb 1 a) (filled (1 + a) test missing) h in
    let f = filled_parts (1 + a) test missing p.1 in
    let same : a ≡ a + 256 * 0 = omega arith in
    (0, a + (missing - (1 + a)), omega arith, omega (arith, f.counted), subst (λ n. (bookmark_size n && bytes_cut n test [] (a + (missing - (1 + a)))) ≡ true) same (whole a (missing - (1 + a)) (leb-true _ _ p.0) (omega (arith, small)) f.goes_on)))
    (λ a h left few small high is.
    let p = parts (a + 256 * h) left is in
    let none_high : a + 256 * h ≡ a = omega (arith, p.most) in
    let goes : test [] (left - a) ≡ true = subst (λ n. test [] (left - n) ≡ true) none_high p.goes_on in
    and_from (leb 1 a) (filled (1 + a) test (1 + left)) (le-leb _ _ (omega (arith, p.least, none_high))) (filled_from (1 + a) test (1 + left) (left - a) (omega (arith, p.counted, none_high)) goes))
  where
    whole : (n left : ℕ) → 1 ≤ n → n ≤ 255 → test [] left ≡ true → (bookmark_size n && bytes_cut n test [] (n + left)) ≡ true
    whole n left least most h = and_from (bookmark_size n) (bytes_cut n test [] (n + left)) (bookmark_size_from n least most) (bytes_cut_none n test (n + left) ∙ filled_from n test (n + left) left refl h)

    parts : (n left : ℕ) → (bookmark_size n && bytes_cut n test [] left) ≡ true → Parts test n left
    parts n left h =
        let a = and_parts (bookmark_size n) (bytes_cut n test [] left) h in
        let s = bookmark_size_parts n a.0 in
        let f = filled_parts n test left (sym (bytes_cut_none n test left) ∙ a.1) in
        record { least = s.0; most = s.1; counted = f.counted; goes_on = f.goes_on }
