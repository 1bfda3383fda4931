-- What a crash leaves of a file whose gate is being written.
use Rattle.std.proofs.Common.{◌≡◌, ◌⊎◌, inl, inr, ⊎_elim, ℕ, ◌≤◌, min, List, [], ◌∷◌, length, get_or, take, false, eqb, leb, refl, sym, ◌∙◌, ap, subst, arith}
use Rattle.std.proofs.lemmas.Bool.{and_left, and_right, cases_eq, lt-leb, ne_eqb}
use Rattle.std.proofs.lemmas.List.{get_or-take}
use Rattle.jet_volume.specs.declared.files.File.{File}
use Rattle.jet_volume.specs.Image.{Image, file_bytes}
use Rattle.jet_volume.specs.Crash.{Torn, TornFile, CrashLeaves, CrashFollows, Elapses}
use Rattle.jet_volume.specs.TornLaws.{unwritten_torn}
use Rattle.checkpoint.specs.Opening.{has_open_gate}
use Rattle.checkpoint.specs.Steps.{EachFollows, ClosesGate}
use Rattle.checkpoint.proofs.Follows.{follows_none, follows_call, follows_quiet, follows_more}

-- a gate that is not 1 is not open
pub closed_gate : (bytes : List ℕ) → (get_or bytes 0 0 ≡ 1 → ⊥) → has_open_gate bytes ≡ false
closed_gate bytes not_one = and_right (leb 2 (length bytes)) (eqb (get_or bytes 0 0) 1) (ne_eqb (get_or bytes 0 0) 1 not_one)

-- nor is the gate of a file of at most one byte
pub short_gate : (bytes : List ℕ) → length bytes ≤ 1 → has_open_gate bytes ≡ false
short_gate bytes short = and_left (leb 2 (length bytes)) (eqb (get_or bytes 0 0) 1) (lt-leb 2 (length bytes) (omega (arith, short)))

-- a gate that was open, or missing, and is written: the file is as it was, or closed
pub torn_gate : (old new : List ℕ) → (1 ≤ length old → get_or old 0 0 ≡ 1) → Torn 0 1 old new → (new ≡ old) ⊎ (has_open_gate new ≡ false)
torn_gate [] new was torn = inr (short_gate new (omega (arith, torn.no_longer)))
torn_gate (x ∷ xs) [] was torn = inr (short_gate [] (omega arith))
torn_gate (x ∷ xs) (y ∷ ys) was torn =
    let rest : ys ≡ xs = torn.after in
    let one : x ≡ 1 = was (omega arith) in
    ⊎_elim (λ (open_is : y ≡ 1). inl (ap (λ k. k ∷ ys) (open_is ∙ sym one) ∙ ap (λ (l : List ℕ). x ∷ l) rest)) (λ (other : y ≡ 1 → ⊥). inr (closed_gate (y ∷ ys) other)) (cases_eq y 1)

-- what was read of a gate
pub gate_read : (n : ℕ) (into bytes : List ℕ) → n ≡ 1 → take n into ≡ take n bytes → get_or into 0 0 ≡ 1 → get_or bytes 0 0 ≡ 1
gate_read n into bytes one read is =
    let first : take 1 into ≡ take 1 bytes = subst (λ k. take k into ≡ take k bytes) one read in
    sym (get_or-take 1 bytes 0 0 (omega arith)) ∙ ap (λ (l : List ℕ). get_or l 0 0) (sym first) ∙ get_or-take 1 into 0 0 (omega arith) ∙ is

pub file_torn_none : (file : File) (at n : ℕ) (image : Image) → TornFile file at n image image
file_torn_none file at n image = record { torn = unwritten_torn at n (file_bytes file image); others = refl }

pub closes_none : (file : File) (image : Image) → ClosesGate file image image
closes_none file image = record { others = refl; gate = inl refl }

closes_then : (file : File) (a b d : Image) (bytes : List ℕ) → file_bytes file b ≡ bytes → (1 ≤ length bytes → get_or bytes 0 0 ≡ 1) → ClosesGate file a b → TornFile file 0 1 b d → ClosesGate file a d
closes_then file a b d bytes is was first torn = record {
  others = torn.others ∙ first.others;
  gate = ⊎_elim
      (λ (same : file_bytes file d ≡ file_bytes file b). ⊎_elim (λ (before : file_bytes file b ≡ file_bytes file a). inl (same ∙ before))
      (λ (closed : has_open_gate (file_bytes file b) ≡ false). inr (ap has_open_gate same ∙ closed)) first.gate)
      inr
      (torn_gate (file_bytes file b) (file_bytes file d) (subst (λ (l : List ℕ). 1 ≤ length l → get_or l 0 0 ≡ 1) (sym is) was) torn.torn);
}

no_front : (n : ℕ) → min 0 n ≡ 0
no_front n = omega arith

-- one write of the first byte after another
torn_twice : (file : File) (a b d : Image) → TornFile file 0 1 a b → TornFile file 0 1 b d → TornFile file 0 1 a d
torn_twice file a b d first second = record {
  torn = record {
    before = ap (λ k. take k (file_bytes file d)) (no_front (length (file_bytes file a)));
    after = second.torn.after ∙ first.torn.after;
    no_shorter = omega (arith, first.torn.no_shorter, second.torn.no_shorter);
    no_longer = omega (arith, first.torn.no_longer, second.torn.no_longer);
  };
  others = second.others ∙ first.others;
}

module _ {V : Type 0} (moment : V → ℕ) (left_at : V → ℕ → Image → Type 0) where
  -- a sync, a read, and a write of the gate that was open or missing
  pub close_follows : (v0 v1 v2 v3 : V) (file : File) (bytes : List ℕ) → (1 ≤ length bytes → get_or bytes 0 0 ≡ 1)
      → Elapses moment left_at v0 v1 → CrashLeaves moment left_at v1 (left_at v0 (moment v0)) → CrashLeaves moment left_at v1 (λ image. file_bytes file image ≡ bytes)
      → Elapses moment left_at v1 v2 → CrashLeaves moment left_at v2 (left_at v1 (moment v1))
      → Elapses moment left_at v2 v3 → CrashFollows moment left_at (TornFile file 0 1) v2 v3 → EachFollows moment left_at (ClosesGate file) v0 v3
  close_follows v0 v1 v2 v3 file bytes was time1 crash1 is time2 crash2 time3 crash3 =
      let synced = follows_quiet moment left_at v0 v0 v1 (ClosesGate file) (follows_none moment left_at v0 (ClosesGate file) (closes_none file)) time1 crash1 in
      let seen = follows_quiet moment left_at v0 v1 v2 (ClosesGate file) synced time2 crash2 in
      let torn = follows_call moment left_at v2 v2 v3 (TornFile file 0 1) (TornFile file 0 1) (follows_none moment left_at v2 (TornFile file 0 1) (file_torn_none file 0 1)) time3 crash3 (λ a b d first second. torn_twice file a b d first second) in
      follows_more moment left_at v0 v2 v3 (ClosesGate file) (TornFile file 0 1) seen torn
      (λ a b d left_a left_b first second. closes_then file a b d bytes (is b (crash2 b left_b)) was first second)
