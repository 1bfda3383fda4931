-- A scan has one outcome.
use Rattle.std.proofs.Common.{◌≡◌, ℕ, Option, Some, None, List, [], ◌∷◌, ◌++◌, length, refl, sym, ◌∙◌, ap, subst}
use Rattle.jet_volume.specs.declared.files.LogStart.{LogStart}
use Rattle.log_ring.specs.Blocks.{behind, next_block, Leads, payloads, Scans}
use Rattle.log_ring.proofs.Paths.{Block}

clash : {b : Block} (o : Option Block) → o ≡ None → o ≡ Some b → ⊥
clash o none some = cc

agree : {a b : Block} (o : Option Block) → o ≡ Some a → o ≡ Some b → a ≡ b
agree o x y = cc

pub leads_once : (first : ℕ) (log : List ℕ) (place : LogStart) (a b : List Block) (end last : LogStart) → Leads first log place a end → next_block first log end ≡ None → Leads first log place b last
    → next_block first log last ≡ None → (payloads a ≡ payloads b) × (end ≡ last)
leads_once first log place [] [] end last is stop same halt = (refl, sym is ∙ same)
leads_once first log place [] (y ∷ b) end last is stop goes halt =
    absurd (clash (next_block first log place) (subst (λ (p : LogStart). next_block first log p ≡ None) (sym is) stop) goes.0)
leads_once first log place (x ∷ a) [] end last goes stop is halt =
    absurd (clash (next_block first log place) (subst (λ (p : LogStart). next_block first log p ≡ None) (sym is) halt) goes.0)
leads_once first log place (x ∷ a) (y ∷ b) end last goes stop went halt =
    let same : y ≡ x = agree (next_block first log place) went.0 goes.0 in
    let rest = leads_once first log (behind x.0 (length x.1)) a b end last goes.1 stop (subst (λ (z : Block). Leads first log (behind z.0 (length z.1)) b last) same went.1) halt in
    (ap (λ (l : List ℕ). x.1 ++ l) rest.0 ∙ ap (λ (z : Block). z.1 ++ payloads b) (sym same), rest.1)

pub scans_same_stream : (log : List ℕ) (from : LogStart) (one other : List ℕ) (end last : LogStart) → Scans log from one end → Scans log from other last → (one ≡ other) × (end ≡ last)
scans_same_stream log from one other end last a b =
    let once = leads_once from.generation log from a.blocks b.blocks end last a.leads a.ends b.leads b.ends in
    (a.stream_is ∙ once.0 ∙ sym b.stream_is, once.1)
