use Rattle.std.proofs.Common.{◌≡◌, ⊎_elim, ℕ, ◌+◌, ◌≤◌, ◌<◌, true, false, Some, List, ◌++◌, length, take, drop, ◌∙◌, ap, arith, length-take, length-drop}
use Rattle.jet_volume.specs.Image.{Image}
use Rattle.jet_volume.specs.declared.files.LogStart.{LogStart}
use Rattle.log_ring.specs.Blocks.{address, begins_block, length_field, ReadsBlock}
use Rattle.log_ring.proofs.Steps.{looks_on}
use Rattle.log_ring.proofs.Headers.{none_begins, none_short, none_cut, begins_open}
use Rattle.log_ring.proofs.scanning.read_block.Goals as goal

pub returns-in-Ok-true-clause-any_moment : goal.returns-in-Ok-true-clause-any_moment
returns-in-Ok-true-clause-any_moment g c =
    looks_on g.V.Volume.seen g.V.Volume.moment g.V.Volume.left_at c.args.volume.now c.read_header.new.volume c.read_payload.new.volume c.read_header.ensures.any_moment c.read_payload.ensures.any_moment

pub returns-in-Ok-false-clause-any_moment : goal.returns-in-Ok-false-clause-any_moment
returns-in-Ok-false-clause-any_moment g c =
    looks_on g.V.Volume.seen g.V.Volume.moment g.V.Volume.left_at c.args.volume.now c.read_header.new.volume c.read_payload.new.volume c.read_header.ensures.any_moment c.read_payload.ensures.any_moment

pub returns-in-Err-read_payload-clause-any_moment : goal.returns-in-Err-read_payload-clause-any_moment
returns-in-Err-read_payload-clause-any_moment g c =
    looks_on g.V.Volume.seen g.V.Volume.moment g.V.Volume.left_at c.args.volume.now c.read_header.new.volume c.read_payload.new.volume c.read_header.ensures.any_moment c.read_payload.ensures.any_moment

-- what was found in the log as it was read, said of the log as it is
same_log : (place : LogStart) (at len : ℕ) (a b old new : List ℕ) → a ≡ b → at ≡ address place → (at + 21 + len ≤ length a) × (new ≡ old ++ take len (drop (at + 21) a))
    → (address place + 21 + len ≤ length b) × (new ≡ old ++ take len (drop (address place + 21) b))
same_log place at len a b old new same is found =
    (omega (arith, found.0, is, ap length same), found.1 ∙ ap (λ (l : List ℕ). old ++ take len (drop (at + 21) l)) same ∙ ap (λ k. old ++ take len (drop (k + 21) b)) is)

reads : (log : List ℕ) (place : LogStart) (len : ℕ) (old new : List ℕ) → (begins_block place (take 21 (drop (address place) log)) ≡ true) × (len ≡ length_field (take 21 (drop (address place) log)))
    → (address place + 21 + len ≤ length log) × (new ≡ old ++ take len (drop (address place + 21) log)) → ReadsBlock log place (Some len) old new
reads log place len old new begins found = (
  take len (drop (address place + 21) log),
  begins_open log place len begins.0 begins.1 found.0,
  omega (arith, length-take len (drop (address place + 21) log), length-drop (address place + 21) log, found.0),
  found.1,
)

pub returns-in-Ok-true-clause-block : goal.returns-in-Ok-true-clause-block
returns-in-Ok-true-clause-block g c tells =
    let log = (g.V.Volume.seen c.args.volume.now).log in
    let begins = rw c.in-Ok-Some.field-0-is at (c.in-Ok-Some.ensures.header tells) in
    let found = rw c.in-Ok-true.field-0-test at (c.in-Ok-true.ensures.whole tells) in
    reads log c.args.place c.in-Ok-Some.len c.args.into.now.items c.read_payload.new.into.items begins
    (same_log c.args.place c.address_of.result c.in-Ok-Some.len (g.V.Volume.seen c.read_header.new.volume).log log c.args.into.now.items c.read_payload.new.into.items
    (ap (λ (i : Image). i.log) c.read_header.ensures.seen) c.address_of.ensures.place found)

pub returns-in-Ok-false-clause-block : goal.returns-in-Ok-false-clause-block
returns-in-Ok-false-clause-block g c tells =
    let log = (g.V.Volume.seen c.args.volume.now).log in
    let begins = rw c.in-Ok-Some.field-0-is at (c.in-Ok-Some.ensures.header tells) in
    let short = rw c.in-Ok-false.field-0-test at (c.in-Ok-false.ensures.short tells) in
    none_cut log c.args.place c.in-Ok-Some.len begins.1
    (is_short c.args.place c.address_of.result c.in-Ok-Some.len (g.V.Volume.seen c.read_header.new.volume).log log (ap (λ (i : Image). i.log) c.read_header.ensures.seen) c.address_of.ensures.place short)
  where
    is_short : (place : LogStart) (at len : ℕ) (a b : List ℕ) → a ≡ b → at ≡ address place → length a < at + 21 + len → length b < address place + 21 + len
    is_short place at len a b same is short = omega (arith, ap length same, is, short)

pub returns-in-Ok-None-clause-block : goal.returns-in-Ok-None-clause-block
returns-in-Ok-None-clause-block g c tells =
    let log = (g.V.Volume.seen c.args.volume.now).log in
    ⊎_elim
    (λ (short : length log < address c.args.place + 21). none_short log c.args.place short)
    (λ (shut : begins_block c.args.place (take 21 (drop (address c.args.place) log)) ≡ false). none_begins log c.args.place shut)
    (rw c.in-Ok-None.field-0-is at (c.in-Ok-None.ensures.header tells))
