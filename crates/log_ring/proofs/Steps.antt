-- How steps that change the log follow one another, at each moment.
use Rattle.std.proofs.Common.{◌≡◌, ℕ, ◌-◌, min, List, length, take, drop, refl, sym, ◌∙◌, ap, subst, length-drop}
use Rattle.std.proofs.lemmas.List.{take_min}
use Rattle.jet_volume.specs.declared.files.File.TheVariants.{Log}
use Rattle.jet_volume.specs.Image.{Image}
use Rattle.jet_volume.specs.Crash.{Torn, TornFile, CrashLeaves, CrashFollows, Elapses}
use Rattle.jet_volume.specs.Moments.{started, goes_on, goes_on_by, leaves_weaker, leaves_now}
use Rattle.log_ring.specs.Writes.{LogIs, ChangesLog, LogGoes, LooksOnly}

module _ {V : Type 0} (seen : V → Image) (moment : V → ℕ) (left_at : V → ℕ → Image → Type 0) where
  -- before the first call
  pub log_started : (old : V) (step : List ℕ → List ℕ → Type 0) → ((image : Image) → left_at old (moment old) image → step image.log image.log) → LogGoes moment left_at step old old
  log_started old step same =
      started moment left_at old (ChangesLog moment left_at old step) (λ image left. record { from = image; left = left; others = refl; log = same image left })

  -- a call that writes nothing
  pub log_looked : (old mid new : V) (step : List ℕ → List ℕ → Type 0) → LogGoes moment left_at step old mid → Elapses moment left_at mid new
      → CrashLeaves moment left_at new (left_at mid (moment mid)) → LogGoes moment left_at step old new
  log_looked old mid new step so_far time crash =
      goes_on moment left_at old mid new (ChangesLog moment left_at old step) so_far time
      (λ image left. leaves_now moment left_at old mid (ChangesLog moment left_at old step) so_far image (crash image left))

  -- the first write
  pub log_written : (old new : V) (at n : ℕ) → ((log : List ℕ) → Torn at n log log) → Elapses moment left_at old new
      → CrashFollows moment left_at (TornFile Log at n) old new → LogGoes moment left_at (Torn at n) old new
  log_written old new at n same time crash =
      goes_on moment left_at old old new (ChangesLog moment left_at old (Torn at n)) (log_started old (Torn at n) (λ image left. same image.log)) time
      (λ image left. let was = crash image left in record { from = was.0; left = was.1; others = was.2.others; log = was.2.torn })

  -- a function of the volume more, from where a crash leaves just this log
  pub log_goes_on : (old mid new : V) (during : List ℕ → Type 0) (step : List ℕ → List ℕ → Type 0) (log : List ℕ)
      → LogGoes moment left_at (λ from to. during to) old mid → CrashLeaves moment left_at mid (λ image. image.log ≡ log)
      → LogGoes moment left_at step mid new → ((to : List ℕ) → step log to → during to) → LogGoes moment left_at (λ from to. during to) old new
  log_goes_on old mid new during step log so_far left next here =
      let P = ChangesLog moment left_at old (λ from to. during to) in
      goes_on_by moment left_at old mid new P so_far
      (leaves_weaker moment left_at mid new (ChangesLog moment left_at mid step) P (λ image one.
      let before = leaves_now moment left_at old mid P so_far one.from one.left in
      record {
        from = before.from;
        left = before.left;
        others = one.others ∙ before.others;
        log = here image.log (subst (λ l. step l image.log) (left one.from one.left) one.log);
      }) next)

  -- what one step does, another says more weakly
  pub log_weaker : (old new : V) (step weaker : List ℕ → List ℕ → Type 0) → LogGoes moment left_at step old new
      → ((image : Image) (to : List ℕ) → left_at old (moment old) image → step image.log to → weaker image.log to) → LogGoes moment left_at weaker old new
  log_weaker old new step weaker goes less =
      leaves_weaker moment left_at old new (ChangesLog moment left_at old step) (ChangesLog moment left_at old weaker)
      (λ image one. record { from = one.from; left = one.left; others = one.others; log = less one.from image.log one.left one.log }) goes

  -- looks that follow one another
  pub looks_first : (old new : V) → Elapses moment left_at old new → CrashLeaves moment left_at new (left_at old (moment old)) → LooksOnly moment left_at old new
  looks_first old new time crash = goes_on moment left_at old old new (left_at old (moment old)) (started moment left_at old (left_at old (moment old)) (λ image left. left)) time crash

  pub looks_none : (old : V) → LooksOnly moment left_at old old
  looks_none old = started moment left_at old (left_at old (moment old)) (λ image left. left)

  pub looks_on : (old mid new : V) → LooksOnly moment left_at old mid → LooksOnly moment left_at mid new → LooksOnly moment left_at old new
  looks_on old mid new first next =
      goes_on_by moment left_at old mid new (left_at old (moment old)) first
      (leaves_weaker moment left_at mid new (left_at mid (moment mid)) (left_at old (moment old)) (leaves_now moment left_at old mid (left_at old (moment old)) first) next)

  -- a look leaves the log what it is
  pub log_is_looked : (old new : V) (log : List ℕ) → LogIs seen moment left_at old log → seen new ≡ seen old
      → CrashLeaves moment left_at new (left_at old (moment old)) → LogIs seen moment left_at new log
  log_is_looked old new log is same crash = record { read = ap (λ (i : Image). i.log) same ∙ is.read; left = λ image left. is.left image (crash image left) }

-- what a read gives, of the bytes that it was asked for
pub looked_bytes : (n k at : ℕ) (into log seen : List ℕ) → seen ≡ log → n ≡ min k (length seen - at) → take n into ≡ take n (drop at seen) → take n into ≡ take k (drop at log)
looked_bytes n k at into log seen is count bytes =
    bytes ∙ ap (λ m. take m (drop at seen)) (count ∙ ap (λ m. min k m) (sym (length-drop at seen))) ∙ take_min k (drop at seen) ∙ ap (λ (l : List ℕ). take k (drop at l)) is
