-- The texts of what was found on a volume.
use Rattle.std.proofs.Common.{◌≡◌, ◌<◌, ◌+◌, ◌^◌, ◌==◌, refl, sym, ap, subst, ◌∙◌, ℕ, Bool, true, false, not, ◌&&◌, List, [], ◌∷◌, length, Option, Some, None, arith}
use Rattle.std.specs.Prelude.{nat_lt, if◌then◌else◌, IfOk, Result, Ok, Err}
use Rattle.std.proofs.lemmas.Bool.{and_parts}
use Rattle.std.proofs.lemmas.Bool.Decides.{nat_tests}
use Rattle.checkpoint.specs.declared.image.Standing.{Standing}
use Rattle.checkpoint.specs.declared.rest.TheConstants.{FORMAT_VERSION}
use Rattle.database_state.specs.State.{DatabaseState, levels}
use Rattle.database_state.specs.Step.{applied, state_after, state_after_all}
use Rattle.image_findings.specs.Findings.{IsConsistent, engine_in}
use Rattle.image_findings.specs.Images.{ImageContents}
use Rattle.image_writing.specs.EngineImages.{ShowsEngine, contents_of}
use Rattle.index_derive.specs.declared.log.Entry.{Entry}
use Rattle.index_derive.specs.declared.log.EntryKind.{EntryKind}
use Rattle.index_derive.specs.declared.log.EntryKind.TheVariants as entry
use Rattle.jet_volume.specs.declared.files.LogStart.{LogStart}
use Rattle.laws_engine.specs.EngineState.{EngineState}
use Rattle.laws_engine.specs.HoldsState.{HoldsState}
use Rattle.laws_images.specs.Settled.{settled}
use Rattle.log_grammar.specs.EntryBytes.{BeginsWithNone, IsCut}
use Rattle.loggable_steps.specs.Replays.{closed}
use Rattle.page_image.specs.Page.{PageContents}
use Rattle.recovered_states.specs.Recovers.{RecoversFrom, ShowsState}
use Rattle.soft_recovery.specs.Inspecting.{IsFoundDatabase, IsStanding, entries_of, has_session}
use Rattle.soft_recovery.specs.Recovering.{HoldsRecovered}
use Rattle.soft_recovery.specs.declared.found.FoundDatabase.{FoundDatabase}
use Rattle.store_core.specs.Stands.{Checkpoint, number_of, pages_of, start_of}
use Rattle.store_core.specs.Store.{IsCopyOf, may_be_opened}
use Rattle.tool_dump.specs.DumpTexts.{checkpoint_text, header_text}
use Rattle.tool_dump.specs.SpaceTexts.{space_text}
use Rattle.tool_integrity.specs.IntegrityLines.{clean_line}
use Rattle.esentutl.specs.Inspections.{IsHeaderText, IsImageText, IsSpaceText, header_of}

-- what each answer has
pub for_ok : {A E : Type 0} {P Q : A → Type 0} (r : Result A E) → ((x : A) → P x → Q x) → IfOk r P → IfOk r Q
for_ok (Ok x) make is = make x is
for_ok (Err e) make is = tt

-- ---- numbers of entries

number_either : (b : Bool) (one other : DatabaseState) (n : ℕ) → one.number ≡ n → other.number ≡ n → (if b then one else other).number ≡ n
number_either true one other n a b = a
number_either false one other n a b = b

number_applied : (label : ℕ) (kind : EntryKind) (state : DatabaseState) → (applied label kind state).number ≡ state.number
number_applied label entry.Enter state = refl
number_applied label entry.Leave state = refl
number_applied label (entry.Open table) state = refl
number_applied label (entry.Shut table) state = refl
number_applied label entry.Begin state = refl
number_applied label entry.Save state = refl
number_applied label (entry.Change change) state = refl
number_applied label entry.Release state = refl
number_applied label entry.Undo state = number_either (nat_lt 1 (levels state label)) _ _ state.number refl refl
number_applied label entry.UndoAll state = refl
number_applied label entry.Commit state = refl
number_applied label (entry.Schema made) state = refl

number_after : (state : DatabaseState) (made : Entry) → (state_after state made).number ≡ state.number + 1
unfolding state_after
number_after state made = number_applied made.session.0 made.kind (record state { number = state.number + 1 })

number_after_all : (state : DatabaseState) (entries : List Entry) → (state_after_all state entries).number ≡ state.number + length entries
number_after_all state [] = omega arith
number_after_all state (made ∷ entries) =
    let first = number_after state made in
    let others = number_after_all (state_after state made) entries in
    omega (arith, first, others)

-- each entry behind the checkpoint counts one
shown_number : (checkpoint : Option Checkpoint) (shown : DatabaseState) → ShowsState checkpoint shown → shown.number ≡ entries_of checkpoint
shown_number None shown is = ap (λ (s : DatabaseState). s.number) is
shown_number (Some c) shown is = is.1.number

recovered_number : (checkpoint : Option Checkpoint) (stream : List ℕ) (state : DatabaseState) (from : RecoversFrom checkpoint stream state) → state.number ≡ entries_of checkpoint + length from.entries
recovered_number checkpoint stream state from =
    ap (λ (s : DatabaseState). s.number) from.is ∙ number_after_all from.shown from.entries ∙ ap (λ (n : ℕ). n + length from.entries) (shown_number checkpoint from.shown from.shows)

grows : (a n : ℕ) → nat_lt a (a + n) ≡ not (n == 0)
grows a n = grind (arith, nat_tests)

told_below : (a b : ℕ) → nat_lt a b ≡ true → a < b
told_below a b h = grind (arith, nat_tests)

-- ---- what an engine tells of the state that it recovered

number_told : (checkpoint : Option Checkpoint) (stream : List ℕ) (engine : EngineState) (holds : HoldsRecovered checkpoint stream engine) → engine.number ≡ holds.state.number
number_told checkpoint stream engine holds = sym holds.holds.number

tables_told : (checkpoint : Option Checkpoint) (stream : List ℕ) (engine : EngineState) (holds : HoldsRecovered checkpoint stream engine) → length engine.store.tables ≡ length holds.state.tables
tables_told checkpoint stream engine holds = ap (λ (s : DatabaseState). length s.tables) holds.tells

pub clean_told : (checkpoint : Option Checkpoint) (stream : List ℕ) (engine : EngineState) (holds : HoldsRecovered checkpoint stream engine) (number tables : ℕ) → number ≡ engine.number → tables ≡ length engine.store.tables
    → clean_line number tables ≡ clean_line holds.state.number (length holds.state.tables)
clean_told checkpoint stream engine holds number tables number_is tables_are =
    ap (λ (n : ℕ). clean_line n tables) (number_is ∙ number_told checkpoint stream engine holds)
    ∙ ap (λ (n : ℕ). clean_line holds.state.number n) (tables_are ∙ tables_told checkpoint stream engine holds)

-- ---- the header

headers_same : (s t : Bool) (e h : Bool) (f g n m k l : ℕ) → s ≡ t → e ≡ h → f ≡ g → n ≡ m → k ≡ l
    → header_text (record { has_session = s; has_entry = e; format = f; number = n; tables = k }) ≡ header_text (record { has_session = t; has_entry = h; format = g; number = m; tables = l })
headers_same s t e h f g n m k l a b c d x =
    ap (λ (v : Bool). header_text (record { has_session = v; has_entry = e; format = f; number = n; tables = k })) a
    ∙ ap (λ (v : Bool). header_text (record { has_session = t; has_entry = v; format = f; number = n; tables = k })) b
    ∙ ap (λ (v : ℕ). header_text (record { has_session = t; has_entry = h; format = v; number = n; tables = k })) c
    ∙ ap (λ (v : ℕ). header_text (record { has_session = t; has_entry = h; format = g; number = v; tables = k })) d
    ∙ ap (λ (v : ℕ). header_text (record { has_session = t; has_entry = h; format = g; number = m; tables = v })) x

entry_told : (checkpoint : Option Checkpoint) (stream : List ℕ) (database : FoundDatabase) (found : IsFoundDatabase checkpoint stream database) → nat_lt database.number database.engine.number ≡ not (length found.holds.from.entries == 0)
entry_told checkpoint stream database found =
    let behind = recovered_number checkpoint stream found.holds.state found.holds.from in
    ap (λ (n : ℕ). nat_lt n database.engine.number) found.number
    ∙ ap (λ (n : ℕ). nat_lt (entries_of checkpoint) n) (number_told checkpoint stream database.engine found.holds ∙ behind)
    ∙ grows (entries_of checkpoint) (length found.holds.from.entries)

pub header_told : (law : (bytes : List ℕ) → IsCut bytes → BeginsWithNone bytes) (checkpoint : Option Checkpoint) (stream : List ℕ) (standing : Standing) (database : FoundDatabase) (text : List ℕ) (number tables : ℕ) → number ≡ database.engine.number
    → tables ≡ length database.engine.store.tables → IsStanding checkpoint standing → (found : IsFoundDatabase checkpoint stream database)
    → text ≡ header_text (record { has_session = database.has_session; has_entry = nat_lt database.number number; format = standing.format; number = number; tables = tables })
    → IsHeaderText checkpoint stream found.holds.state text
header_told law checkpoint stream standing database text number tables number_is tables_are stands found is =
    let from = found.holds.from in
    record {
      entries = from.entries;
      rest = from.rest;
      holds = (from.come.spelled, from.reads, law from.rest from.cut);
      is = is ∙ headers_same database.has_session (has_session checkpoint) (nat_lt database.number number) (not (length from.entries == 0)) standing.format FORMAT_VERSION
          number found.holds.state.number tables (length found.holds.state.tables)
          found.session (ap (λ (n : ℕ). nat_lt database.number n) number_is ∙ entry_told checkpoint stream database found) stands.format
          (number_is ∙ number_told checkpoint stream database.engine found.holds) (tables_are ∙ tables_told checkpoint stream database.engine found.holds);
    }

-- ---- the checkpoint and its log

pub checkpoint_told : (checkpoint : Option Checkpoint) (standing : Standing) → IsCopyOf checkpoint standing
    → checkpoint_text standing.number standing.start (length standing.pages.items) ≡ checkpoint_text (number_of checkpoint) (start_of checkpoint) (length (pages_of checkpoint))
checkpoint_told checkpoint standing copy =
    ap (λ (n : ℕ). checkpoint_text n standing.start (length standing.pages.items)) copy.number
    ∙ ap (λ (s : LogStart). checkpoint_text (number_of checkpoint) s (length standing.pages.items)) copy.start
    ∙ ap (λ (p : List (Option PageContents)). checkpoint_text (number_of checkpoint) (start_of checkpoint) (length p)) copy.pages

entries_fit : (checkpoint : Option Checkpoint) → may_be_opened checkpoint ≡ true → entries_of checkpoint < 2 ^ 62
entries_fit None within = omega arith
entries_fit (Some c) within = told_below c.entries (2 ^ 62) (and_parts (nat_lt c.entries (2 ^ 62)) _ (and_parts (nat_lt c.number (2 ^ 62)) _ within).1).0

pub number_fits : (checkpoint : Option Checkpoint) (stream : List ℕ) (standing : Standing) (database : FoundDatabase) → IsStanding checkpoint standing → IsFoundDatabase checkpoint stream database → database.number < 2 ^ 62
number_fits checkpoint stream standing database stands found = subst (λ (n : ℕ). n < 2 ^ 62) (sym found.number) (entries_fit checkpoint stands.within)

-- ---- the pages

pub space_of_none : (checkpoint : Option Checkpoint) (state : DatabaseState) (text : List ℕ) → checkpoint ≡ None → text ≡ space_text [] None → IsSpaceText checkpoint state text
space_of_none checkpoint state text none is = subst (λ (c : Option Checkpoint). IsSpaceText c state text) (sym none) is

pub space_of_some : (checkpoint : Option Checkpoint) (standing : Standing) (state : DatabaseState) (text : List ℕ) → IsStanding checkpoint standing → (standing.number ≡ 0 → ⊥) → IsImageText state text → IsSpaceText checkpoint state text
space_of_some None standing state text stands some is = absurd (some stands.copy.number)
space_of_some (Some c) standing state text stands some is = is

-- a state without a past has no undone change
settled_already : (checkpoint : Option Checkpoint) (stream : List ℕ) (state : DatabaseState) → RecoversFrom checkpoint stream state → settled state ≡ state
settled_already checkpoint stream state from = subst (λ (s : DatabaseState). settled s ≡ s) (sym from.is) refl

pub image_told : (checkpoint : Option Checkpoint) (stream : List ℕ) (engine : EngineState) (holds : HoldsRecovered checkpoint stream engine) (image : ImageContents) (text : List ℕ) → ShowsEngine engine holds.state image
    → text ≡ space_text image.pages (Some image.catalog_root) → IsImageText holds.state text
image_told checkpoint stream engine holds image text shows is = record {
  image = image;
  consistent = shows.consistent;
  holds = subst (HoldsState (engine_in 0 image)) (settled_already checkpoint stream holds.state holds.from) (shows.holds 0);
  is = is;
}
