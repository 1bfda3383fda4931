-- What files recover to as a log grows and images are written.
use Rattle.std.proofs.Common.{◌≡◌, ◌⊎◌, inl, inr, ⊎_elim, ℕ, zero, suc, ◌+◌, ◌-◌, ◌≤◌, ◌<◌, List, [], ◌∷◌, ◌++◌, length, take, drop, Option, Some, None, refl, sym, ◌∙◌, ap, subst, arith, append_assoc, length-append, take-append-drop, length-take}
use Rattle.std.proofs.lemmas.List.{append-nil, take-append-le}
use Rattle.std.proofs.Math.Seq.{take-append-add, take_all}
use Rattle.std.proofs.lemmas.Bool.{cases_lt}
use Rattle.index_derive.specs.declared.log.Entry.{Entry}
use Rattle.database_state.specs.State.{DatabaseState}
use Rattle.database_state.specs.Step.{state_after_all}
use Rattle.jet_volume.specs.Image.{Image as Files}
use Rattle.laws_images.specs.Settled.{AreAlike}
use Rattle.log_grammar.specs.EntryBytes.{IsCut, entry_bytes}
use Rattle.log_grammar.specs.EntryStreams.{Holds, stream_bytes, stream_fits}
use Rattle.log_grammar.proofs.Streams.{cut_is_not_whole, nothing_is_cut, read_back}
use Rattle.log_keeper.specs.Keeping.{StandsUpTo, between}
use Rattle.loggable_steps.specs.Replays.{closed}
use Rattle.store_core.specs.Stands.{Checkpoint, Stands}
use Rattle.recovered_states.specs.Recovers.{Covers, IsHeld, MayCome, Reaches, Recovers, RecoversFrom, RecoversUpTo, ShowsState}
use Rattle.recovered_states.proofs.Alike.{AlikeLaws, goes, held_after}
use Rattle.recovered_states.proofs.Fronts.{Closes, ShowsHeld, front_recovers, stream_append, stream_more}

-- ---- each entry has a byte

some_byte : (made : Entry) → 1 ≤ length (entry_bytes made)
unfolding entry_bytes
some_byte made = omega arith

-- so more entries have more bytes
longer : (entries more : List Entry) (m : ℕ) → length entries < m → m ≤ length (entries ++ more) → length (stream_bytes entries) < length (stream_bytes (take m (entries ++ more)))
longer entries [] m lt most = absurd (omega (arith, lt, most, length-append entries []))
longer entries (made ∷ more) m lt most =
    let j : ℕ = m - (length entries + 1) in
    let m_is : m ≡ length entries + (j + 1) = omega (arith, lt) in
    let taken : take m (entries ++ made ∷ more) ≡ entries ++ take (j + 1) (made ∷ more) = ap (λ (n : ℕ). take n (entries ++ made ∷ more)) m_is ∙ take-append-add entries (made ∷ more) (j + 1) in
    let bytes_are : stream_bytes (take m (entries ++ made ∷ more)) ≡ stream_bytes entries ++ stream_bytes (take (j + 1) (made ∷ more)) = ap (λ (l : List Entry). stream_bytes l) taken ∙ stream_append entries (take (j + 1) (made ∷ more)) in
    let one : stream_bytes (take (j + 1) (made ∷ more)) ≡ entry_bytes made ++ stream_bytes (take j more) = ap (λ (n : ℕ). stream_bytes (take n (made ∷ more))) (suc_is j) ∙ stream_more made (take j more) in
    omega (arith, some_byte made, ap length bytes_are, length-append (stream_bytes entries) (stream_bytes (take (j + 1) (made ∷ more))), ap length one, length-append (entry_bytes made) (stream_bytes (take j more)))
  where
    suc_is : (j : ℕ) → j + 1 ≡ suc j
    suc_is j = omega arith

-- ---- positions and entries to come

pub recovers_lower : (opening : DatabaseState) (entries : List Entry) (low at : ℕ) (files : Files) → low ≤ at → RecoversUpTo opening entries at files → RecoversUpTo opening entries low files
recovers_lower opening entries low at files le up = record {
  k = up.k;
  within = up.within;
  reaches = λ m most short. up.reaches m most (omega (arith, le, short));
  recovers = up.recovers;
}

pub recovers_more : (opening : DatabaseState) (entries more : List Entry) (at : ℕ) (files : Files) → at ≤ length (stream_bytes entries)
    → RecoversUpTo opening entries at files → RecoversUpTo opening (entries ++ more) at files
recovers_more opening entries more at files within up = record {
  k = up.k;
  within = omega (arith, up.within, length-append entries more);
  reaches = λ m most short. ⊎_elim
      (λ (lt : length entries < m). absurd (omega (arith, longer entries more m lt most, short, within)))
      (λ (le : m ≤ length entries). up.reaches m le (omega (arith, short, ap (λ (l : List Entry). length (stream_bytes l)) (take-append-le m entries more le))))
      (cases_lt (length entries) m);
  recovers = subst (λ (l : List Entry). Recovers files (closed (state_after_all opening l))) (sym (take-append-le up.k entries more up.within)) up.recovers;
}

pub covers_more : (opening : DatabaseState) (entries more : List Entry) (checkpoint : Option Checkpoint) (base : ℕ) → Covers opening entries checkpoint base → Covers opening (entries ++ more) checkpoint base
covers_more opening entries more checkpoint base covers = record {
  before = covers.before;
  behind = covers.behind ++ more;
  split = ap (λ (l : List Entry). l ++ more) covers.split ∙ append_assoc covers.before covers.behind more;
  base_is = covers.base_is;
  shown = covers.shown;
  shows = covers.shows;
  alike = covers.alike;
}

-- ---- images

pub covers_all : (opening : DatabaseState) (entries : List Entry) (checkpoint : Checkpoint) (shown : DatabaseState) → ShowsState (Some checkpoint) shown → AreAlike (state_after_all opening entries) shown
    → Covers opening entries (Some checkpoint) (length (stream_bytes entries))
covers_all opening entries checkpoint shown shows alike = record { before = entries; behind = []; split = sym (append-nil entries); base_is = refl; shown = shown; shows = shows; alike = alike }

pub image_recovers : (opening : DatabaseState) (entries : List Entry) (checkpoint : Checkpoint) (shown : DatabaseState) (at : ℕ) (files : Files) → ShowsState (Some checkpoint) shown
    → closed (state_after_all opening entries) ≡ closed shown → Stands (Some checkpoint) [] files → RecoversUpTo opening entries at files
image_recovers opening entries checkpoint shown at files shows same stands = record {
  k = length entries;
  within = omega arith;
  reaches = λ m most short. most;
  recovers = record {
    checkpoint = Some checkpoint;
    stream = [];
    stands = stands;
    from = record {
      shown = shown;
      shows = shows;
      entries = [];
      rest = [];
      reads = refl;
      cut = nothing_is_cut;
      come = record { lawful = tt; spelled = refl };
      is = ap (λ (l : List Entry). closed (state_after_all opening l)) (take_all (length entries) entries (omega arith)) ∙ same;
    };
  };
}

-- ---- logs

module _ (laws : AlikeLaws) (shows_held : ShowsHeld) (closes : Closes) where
  -- what stands behind a checkpoint that covers some entries recovers up to there
  pub stands_recovers : (opening : DatabaseState) (entries : List Entry) → IsHeld opening → MayCome opening entries → (checkpoint : Option Checkpoint) (base at : ℕ) (files : Files) → Covers opening entries checkpoint base
      → base ≤ at → at ≤ length (stream_bytes entries) → Stands checkpoint (between base at (stream_bytes entries)) files → RecoversUpTo opening entries at files
  stands_recovers opening entries held come checkpoint base at files covers from within stands =
      let found = front_recovers laws shows_held closes opening held entries come checkpoint base at covers from within in
      record {
        k = found.k;
        within = found.within;
        reaches = found.reaches;
        recovers = record { checkpoint = checkpoint; stream = between base at (stream_bytes entries); stands = stands; from = found.from };
      }

  pub since_recovers : (opening : DatabaseState) (entries : List Entry) → IsHeld opening → MayCome opening entries → (checkpoint : Option Checkpoint) (base low high : ℕ) (files : Files) → Covers opening entries checkpoint base
      → base ≤ low → high ≤ length (stream_bytes entries) → StandsUpTo checkpoint base low high (stream_bytes entries) files → RecoversUpTo opening entries low files
  since_recovers opening entries held come checkpoint base low high files covers from within stands =
      recovers_lower opening entries low stands.at files stands.since
      (stands_recovers opening entries held come checkpoint base stands.at files covers (omega (arith, from, stands.since)) (omega (arith, stands.most, within)) stands.stands)

  -- what files recover to is held, once its sessions are given up
  pub recovered_held : ((state : DatabaseState) → IsHeld state → IsHeld (closed state)) → (files : Files) (state : DatabaseState) → Recovers files state → IsHeld state
  recovered_held closed_held files state recovers =
      let from = recovers.from in
      subst IsHeld (sym from.is) (closed_held (state_after_all from.shown from.entries) (held_after laws from.shown from.entries (shows_held recovers.checkpoint from.shown from.shows) from.come))

  -- two readings of one checkpoint and one stream
  pub one_state_from : ((checkpoint : Option Checkpoint) (a b : DatabaseState) → ShowsState checkpoint a → ShowsState checkpoint b → AreAlike a b)
      → (checkpoint : Option Checkpoint) (stream : List ℕ) (a b : DatabaseState) → RecoversFrom checkpoint stream a → RecoversFrom checkpoint stream b → a ≡ b
  one_state_from alike checkpoint stream a b one other =
      let same = read_back one.entries other.entries stream one.rest other.rest (one.come.spelled, one.reads, cut_is_not_whole one.rest one.cut) (other.come.spelled, other.reads, cut_is_not_whole other.rest other.cut) in
      one.is
      ∙ closes (state_after_all one.shown one.entries) (state_after_all other.shown one.entries)
      (goes laws one.shown other.shown one.entries (shows_held checkpoint one.shown one.shows) (shows_held checkpoint other.shown other.shows) (alike checkpoint one.shown other.shown one.shows other.shows) one.come)
      ∙ ap (λ (l : List Entry). closed (state_after_all other.shown l)) same.0
      ∙ sym other.is

  pub one_state : ((checkpoint : Option Checkpoint) (a b : DatabaseState) → ShowsState checkpoint a → ShowsState checkpoint b → AreAlike a b)
      → (files : Files) → ((c d : Option Checkpoint) (s t : List ℕ) → Stands c s files → Stands d t files → (d ≡ c) × (t ≡ s))
      → (a b : DatabaseState) → Recovers files a → Recovers files b → a ≡ b
  one_state alike files stand_once a b one other =
      let same = stand_once one.checkpoint other.checkpoint one.stream other.stream one.stands other.stands in
      one_state_from alike one.checkpoint one.stream a b one.from
      (subst (λ (l : List ℕ). RecoversFrom one.checkpoint l b) same.1 (subst (λ (k : Option Checkpoint). RecoversFrom k other.stream b) same.0 other.from))

-- what files recover to is closed
pub recovered_closed : (files : Files) (state : DatabaseState) → Recovers files state → closed state ≡ state
recovered_closed files state recovers = ap closed recovers.from.is ∙ sym recovers.from.is

pub opening_recovers : (files : Files) (opening : DatabaseState) (entries : List Entry) → Recovers files opening → RecoversUpTo opening entries 0 files
opening_recovers files opening entries recovers = record {
  k = 0;
  within = omega arith;
  reaches = λ m most short. ⊎_elim (λ (lt : 0 < m). absurd (omega (arith, short, longer [] entries m lt most))) (λ (le : m ≤ 0). le) (cases_lt 0 m);
  recovers = subst (λ (s : DatabaseState). Recovers files s) (sym (recovered_closed files opening recovers)) recovers;
}
