-- Lines with their outcomes, and a line more.
use Rattle.std.proofs.Common.{◌≡◌, ◌≤◌, ◌+◌, ℕ, true, List, [], ◌∷◌, ◌++◌, length, refl, sym, ◌∙◌, ap, arith, append_assoc, length-append}
use Rattle.std.proofs.lemmas.List.{append-nil}
use Rattle.index_derive.specs.declared.log.Entry.{Entry}
use Rattle.database_state.specs.State.{DatabaseState}
use Rattle.database_state.specs.Step.{state_after, state_after_all}
use Rattle.session_local.specs.Run.{Line, LineOutcome, RunState, served, no_memory, flush_failed, unserved, entries_of_line, is_acknowledged, log_from, run_after, run_after_all}
use Rattle.kept_engine.specs.Acknowledged.{ReachesAcknowledged}

abbrev Pairs : Type 0
Pairs = List (Line × LineOutcome)

after_append : (state : DatabaseState) (xs ys : List Entry) → state_after_all state (xs ++ ys) ≡ state_after_all (state_after_all state xs) ys
after_append state [] ys = refl
after_append state (x ∷ xs) ys = after_append (state_after state x) xs ys

module _ (limit : ℕ) where
  pub log_more : (run : RunState) (pairs : Pairs) (line : Line) (outcome : LineOutcome)
      → log_from limit run (pairs ++ (line, outcome) ∷ []) ≡ log_from limit run pairs ++ entries_of_line limit (run_after_all limit run pairs) line outcome
  log_more run [] line outcome = append-nil (entries_of_line limit run line outcome)
  log_more run (pair ∷ pairs) line outcome =
      let here = entries_of_line limit run pair.0 pair.1 in
      let then = run_after limit run pair.0 pair.1 in
      ap (λ (l : List Entry). here ++ l) (log_more then pairs line outcome)
      ∙ sym (append_assoc here (log_from limit then pairs) (entries_of_line limit (run_after_all limit then pairs) line outcome))

  -- lines behind others
  pub after_all-append : (run : RunState) (pairs more : Pairs) → run_after_all limit run (pairs ++ more) ≡ run_after_all limit (run_after_all limit run pairs) more
  after_all-append run [] more = refl
  after_all-append run (pair ∷ pairs) more = after_all-append (run_after limit run pair.0 pair.1) pairs more

  -- more entries reach as far
  pub reaches_higher : (low k n : ℕ) (run : RunState) (pairs : Pairs) → low ≤ k → ReachesAcknowledged limit low n run pairs → ReachesAcknowledged limit k n run pairs
  reaches_higher low k n run [] le reaches = tt
  reaches_higher low k n run (pair ∷ pairs) le reaches =
      (λ acknowledged. omega (arith, le, reaches.0 acknowledged), reaches_higher low k (n + length (entries_of_line limit run pair.0 pair.1)) (run_after limit run pair.0 pair.1) pairs le reaches.1)

  -- a line more: where it is acknowledged its entries are reached, too
  pub reaches_more : (k n : ℕ) (run : RunState) (pairs : Pairs) (line : Line) (outcome : LineOutcome) → ReachesAcknowledged limit k n run pairs
      → (is_acknowledged limit (run_after_all limit run pairs) line outcome ≡ true → n + (length (log_from limit run pairs) + length (entries_of_line limit (run_after_all limit run pairs) line outcome)) ≤ k)
      → ReachesAcknowledged limit k n run (pairs ++ (line, outcome) ∷ [])
  reaches_more k n run [] line outcome reaches more = (λ acknowledged. omega (arith, more acknowledged), tt)
  reaches_more k n run (pair ∷ pairs) line outcome reaches more =
      let here = entries_of_line limit run pair.0 pair.1 in
      let then = run_after limit run pair.0 pair.1 in
      (reaches.0, reaches_more k (n + length here) then pairs line outcome reaches.1 (λ acknowledged. omega (arith, more acknowledged, length-append here (log_from limit then pairs))))

  -- ---- states

  line_state : (run : RunState) (line : Line) (outcome : LineOutcome) → (run_after limit run line outcome).state ≡ state_after_all run.state (entries_of_line limit run line outcome)
  line_state run line served = refl
  line_state run line no_memory = refl
  line_state run line (flush_failed reply) = refl
  line_state run line unserved = refl

  pub run_state : (run : RunState) (pairs : Pairs) → (run_after_all limit run pairs).state ≡ state_after_all run.state (log_from limit run pairs)
  run_state run [] = refl
  run_state run (pair ∷ pairs) =
      let then = run_after limit run pair.0 pair.1 in
      run_state then pairs
      ∙ ap (λ (s : DatabaseState). state_after_all s (log_from limit then pairs)) (line_state run pair.0 pair.1)
      ∙ sym (after_append run.state (entries_of_line limit run pair.0 pair.1) (log_from limit then pairs))
