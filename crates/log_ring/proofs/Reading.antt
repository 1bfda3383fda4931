-- Steps of a scan.
use Rattle.std.proofs.Common.{◌≡◌, ℕ, ◌+◌, ◌*◌, ◌≤◌, ◌<◌, Option, Some, None, List, [], ◌∷◌, ◌++◌, length, refl, sym, ◌∙◌, ap, subst, arith}
use Rattle.std.proofs.lemmas.List.{append-nil}
use Rattle.std.specs.Prelude.{MatchOption}
use Rattle.jet_volume.specs.declared.files.LogStart.{LogStart}
use Rattle.log_ring.specs.Blocks.{open_payload, behind, next_generation, next_block, Leads, payloads, FindsNext, MovesOn, EndsNear}
use Rattle.log_ring.proofs.Paths.{Block, next_turned, next_none, payloads-append}

-- where a place has no open block, what the next generation begins with comes next
pub turned_found : (first : ℕ) (log : List ℕ) (place turn : LogStart) (old mid new : List ℕ) → open_payload log place ≡ None → place.generation + 1 < first + 8 → turn ≡ next_generation place → mid ≡ old
    → (next : Option LogStart)
    → MatchOption next (open_payload log turn ≡ None) (λ behind_it. (payload : List ℕ) × (open_payload log turn ≡ Some payload) × (behind_it ≡ behind turn (length payload)) × (new ≡ mid ++ payload))
    → FindsNext first log place next old new
turned_found first log place turn old mid new none near is same None found =
    next_none first log place none (λ close. subst (λ (p : LogStart). open_payload log p ≡ None) is found)
turned_found first log place turn old mid new none near is same (Some next) found = (
  next_generation place,
  found.0,
  next_turned first log place found.0 none near (subst (λ (p : LogStart). open_payload log p ≡ Some found.0) is found.1),
  found.2 ∙ ap (λ (p : LogStart). behind p (length found.0)) is,
  found.3 ∙ ap (λ (l : List ℕ). l ++ found.0) same,
)

-- one block more
pub leads_more : (first : ℕ) (log : List ℕ) (place : LogStart) (blocks : List Block) (end : LogStart) (block : Block) → Leads first log place blocks end → next_block first log end ≡ Some block
    → Leads first log place (blocks ++ block ∷ []) (behind block.0 (length block.1))
leads_more first log place [] end block is next = (subst (λ (p : LogStart). next_block first log p ≡ Some block) (sym is) next, refl)
leads_more first log place (b ∷ blocks) end block leads next = (leads.0, leads_more first log (behind b.0 (length b.1)) blocks end block leads.1 next)

-- what a scan has found so far
abbrev pub FoundSoFar : List ℕ → LogStart → List ℕ → LogStart → Type 0
FoundSoFar log from bytes place = (blocks : List Block) × Leads from.generation log from blocks place × (bytes ≡ payloads blocks)

pub found_more : (log log_now : List ℕ) (from place next : LogStart) (old new : List ℕ) → log_now ≡ log → FoundSoFar log from old place → FindsNext from.generation log_now place (Some next) old new → FoundSoFar log from new next
found_more log log_now from place next old new same so_far found =
    let block : Block = (found.0, found.1) in (
      so_far.0 ++ block ∷ [],
      subst (λ (p : LogStart). Leads from.generation log from (so_far.0 ++ block ∷ []) p) (sym found.3)
          (leads_more from.generation log from so_far.0 place block so_far.1 (subst (λ (l : List ℕ). next_block from.generation l place ≡ Some block) same found.2)),
      found.4 ∙ ap (λ (l : List ℕ). l ++ found.1) so_far.2 ∙ ap (λ (l : List ℕ). payloads so_far.0 ++ l) (sym (append-nil found.1)) ∙ sym (payloads-append so_far.0 (block ∷ [])),
    )

pub near_more : (from place next : LogStart) (old new : List ℕ) → EndsNear from old place → MovesOn from.generation place (Some next) old new → EndsNear from new next
near_more from place next old new near moves =
    let inside : from.offset < 1048576 → length new + 1048576 * from.generation + from.offset ≤ 1048576 * next.generation + next.offset =
    λ is. let here = near.inside is in let so_far = near.bytes_inside is in let more = moves.6 here in omega (arith, so_far, more) in
    record {
      from_start = omega (arith, near.from_start, moves.0);
      near = moves.1;
      inside = λ is. moves.2;
      position = omega (arith, near.position, moves.3);
      few = omega (arith, near.bytes_bound, moves.5, moves.1, moves.2);
      bytes_bound = omega (arith, near.bytes_bound, moves.5);
      few_inside = λ is. let all = inside is in omega (arith, all, moves.1, moves.2);
      bytes_inside = inside;
    }
