-- Pieces that are written behind the gate of a file.
use Rattle.std.proofs.Common.{◌≡◌, ℕ, ◌≤◌, min, List, length, get_or, refl, sym, ◌∙◌, ap, arith, Result, Ok, Err, OnOk}
use Rattle.std.proofs.lemmas.List.{get_or-take}
use Rattle.jet_volume.specs.declared.files.File.{File}
use Rattle.jet_volume.specs.Image.{Image, file_bytes}
use Rattle.jet_volume.specs.Crash.{Torn, TornFile, CrashFollows, Elapses}
use Rattle.checkpoint.specs.Steps.{EachFollows, KeepsFirst}
use Rattle.checkpoint.proofs.Follows.{follows_none, follows_call, follows_more}

pub keeps_none : (file : File) (image : Image) → KeepsFirst file image image
keeps_none file image = record { others = refl; some = λ h. h; first = λ h. refl }

pub keeps_then : (file : File) (a b d : Image) → KeepsFirst file a b → KeepsFirst file b d → KeepsFirst file a d
keeps_then file a b d one two = record {
  others = two.others ∙ one.others;
  some = λ h. two.some (one.some h);
  first = λ h. two.first (one.some h) ∙ one.first h;
}

first_stays : (at n : ℕ) (old new : List ℕ) → 1 ≤ at → 1 ≤ length old → Torn at n old new → get_or new 0 0 ≡ get_or old 0 0
first_stays at n old new behind some torn =
    sym (get_or-take (min at (length old)) new 0 0 (omega arith)) ∙ ap (λ (l : List ℕ). get_or l 0 0) torn.before ∙ get_or-take at old 0 0 (omega arith)

keeps_torn : (file : File) (at n : ℕ) (a b : Image) → 1 ≤ at → TornFile file at n a b → KeepsFirst file a b
keeps_torn file at n a b behind torn = record {
  others = torn.others;
  some = λ h. omega (arith, h, torn.torn.no_shorter);
  first = λ h. first_stays at n (file_bytes file a) (file_bytes file b) behind h torn.torn;
}

module _ {V : Type 0} (moment : V → ℕ) (left_at : V → ℕ → Image → Type 0) where
  pub nothing_follows : (volume : V) (file : File) → EachFollows moment left_at (KeepsFirst file) volume volume
  nothing_follows volume file = follows_none moment left_at volume (KeepsFirst file) (keeps_none file)

  -- one write behind the gate
  pub piece_follows : (old new : V) (file : File) (at n : ℕ) → 1 ≤ at → Elapses moment left_at old new → CrashFollows moment left_at (TornFile file at n) old new → EachFollows moment left_at (KeepsFirst file) old new
  piece_follows old new file at n behind time crash =
      follows_call moment left_at old old new (KeepsFirst file) (TornFile file at n) (nothing_follows old file) time crash
      (λ a b d one torn. keeps_then file a b d one (keeps_torn file at n b d behind torn))

  -- one function after another
  pub pieces_follow : (old mid new : V) (file : File) → EachFollows moment left_at (KeepsFirst file) old mid → EachFollows moment left_at (KeepsFirst file) mid new → EachFollows moment left_at (KeepsFirst file) old new
  pieces_follow old mid new file one two =
      follows_more moment left_at old mid new (KeepsFirst file) (KeepsFirst file) one two (λ a b d left_a left_b first second. keeps_then file a b d first second)

-- what holds whatever an outcome is
pub OnOk_from : {A B P : Type 0} (r : Result A B) → P → OnOk r P
OnOk_from (Ok x) p = p
OnOk_from (Err e) p = tt

pub OnOk_both : {A B P Q R : Type 0} (r : Result A B) → OnOk r P → OnOk r Q → (P → Q → R) → OnOk r R
OnOk_both (Ok x) p q both = both p q
OnOk_both (Err e) p q both = tt
