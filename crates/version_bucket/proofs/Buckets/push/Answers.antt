-- The last bucket ends where its room begins, and either it or a new one takes the piece.
use Rattle.std.proofs.Common.{◌≡◌, ◌+◌, ◌-◌, ◌<◌, List, [], ◌∷◌, ◌++◌, length, sym, ap, ◌∙◌, arith}
use Rattle.version_bucket.specs.Layout.{cost}
use Rattle.version_bucket.specs.Pieces.{Pieces, one_more}
use Rattle.version_bucket.specs.declared.held.Held.{Held}
use Rattle.version_bucket.specs.declared.Place.{Place}
use Rattle.version_bucket.proofs.HeldLemmas.{bytes_of-get, kept-places, length-held-places}
use Rattle.version_bucket.proofs.HeldSteps.{appended-begins, appended-fits, end-last, push-begins, push-fits, room-fits, room-held, value}
use Rattle.version_bucket.proofs.Buckets.push.Goals as goal

pub overflow_sub-offset : goal.overflow_sub-offset
overflow_sub-offset c = let a = c.self.inside in let k = c.self.invariant in omega (arith, k.is_room, room-fits a.held.items)

pub append-requires-clause-end : goal.append-requires-clause-end
append-requires-clause-end c =
    let a = c.self.inside in let k = c.self.invariant in let n = c.len-last.ensures in let old = c.index_mut.result.now in
    let some : 0 < length a.held.items = room-held a.held.items (omega (arith, k.is_room, c.if-cost-self.true, c.cost_of-cost.ensures)) in
    end-last a.room a.held.items (c.len-last.result - 1) k.is_room (omega (arith, n, a.held.ok.0, some)) ∙ ap length (bytes_of-get a.held.items (c.len-last.result - 1) old (omega (arith, n, a.held.ok.0, some)) ∙ ap (λ (h : Held). h.memory.bytes) (sym c.index_mut.ensures.value))

pub append-requires-clause-count : goal.append-requires-clause-count
append-requires-clause-count c =
    let a = c.self.inside in let k = c.self.invariant in let n = c.len-last.ensures in let old = c.index_mut.result.now in
    let some : 0 < length a.held.items = room-held a.held.items (omega (arith, k.is_room, c.if-cost-self.true, c.cost_of-cost.ensures)) in
    let few = kept-places a.first a.freed a.room a.places.items a.held.items k (c.len-last.result - 1) old (omega (arith, n, a.held.ok.0, some)) in
    omega (arith, few, ap (λ (h : Held). h.kept) c.index_mut.ensures.value, c.if-number.false, c.len.ensures, a.places.ok.0, k.fits)

pub overflow_add-self-inside : goal.overflow_add-self-inside
overflow_add-self-inside c =
    let a = c.self.inside in let k = c.self.invariant in
    record { fits = omega (arith, k.is_freed, k.fits, c.len-last.ensures, a.held.ok.0, length-held-places a.first a.freed a.room a.places.items a.held.items k) }

pub overflow_add-bucket : goal.overflow_add-bucket
overflow_add-bucket c =
    let a = c.self.inside in let k = c.self.invariant in
    record { fits = omega (arith, k.is_freed, k.fits, c.len-else-cost-self.ensures, a.held.ok.0, length-held-places a.first a.freed a.room a.places.items a.held.items k) }

pub invariant_of-self-then-cost-self : goal.invariant_of-self-then-cost-self
invariant_of-self-then-cost-self c =
    let a = c.self.inside in let k = c.self.invariant in let q : Place = record { bucket = a.freed + (c.len-last.result - 1); offset = 65536 - a.room } in
    (push-fits a.first a.freed a.room a.places.items a.held.items k c.args.piece.now c.requires (omega (arith, c.if-number.false, c.len.ensures, a.places.ok.0, k.fits)) c.cost_of-cost.result c.cost_of-cost.ensures c.len-last.result
    c.index_mut.result.now c.append.new.self c.push_back_reserved.new.self.items (c.len-last.ensures ∙ a.held.ok.0) c.if-cost-self.true c.index_mut.ensures.value c.append.ensures.bytes c.append.ensures.kept
    (c.push_back_reserved.ensures.items ∙ ap (λ (l : List Place). l ++ q ∷ []) c.in_ok-reserve.ensures.items)).keeps

pub invariant_of-self-else-cost-self : goal.invariant_of-self-else-cost-self
invariant_of-self-else-cost-self c =
    let a = c.self.inside in let k = c.self.invariant in let q : Place = record { bucket = a.freed + c.len-else-cost-self.result; offset = 0 } in
    (push-begins a.first a.freed a.room a.places.items a.held.items k c.args.piece.now c.requires (omega (arith, c.if-number.false, c.len.ensures, a.places.ok.0, k.fits)) c.cost_of-cost.result c.cost_of-cost.ensures c.len-else-cost-self.result
    c.in_ok-with_piece.field-0 c.push_back_reserved-else-cost-self.new.self.items c.push_back.new.self.items (c.len-else-cost-self.ensures ∙ a.held.ok.0) c.if-cost-self.false c.in_ok-with_piece.ensures.0 c.in_ok-with_piece.ensures.1
    (c.push_back_reserved-else-cost-self.ensures.items ∙ ap (λ (l : List Place). l ++ q ∷ []) c.in_ok-reserve.ensures.items) c.in_ok-push_back.ensures.items).keeps

pub returns-then-cost-self-clause-ok : goal.returns-then-cost-self-clause-ok
returns-then-cost-self-clause-ok c =
    let a = c.self.inside in let k = c.self.invariant in let q : Place = record { bucket = a.freed + (c.len-last.result - 1); offset = 65536 - a.room } in let p = c.args.piece.now in
    let s = push-fits a.first a.freed a.room a.places.items a.held.items k p c.requires (omega (arith, c.if-number.false, c.len.ensures, a.places.ok.0, k.fits)) c.cost_of-cost.result c.cost_of-cost.ensures c.len-last.result
    c.index_mut.result.now c.append.new.self c.push_back_reserved.new.self.items (c.len-last.ensures ∙ a.held.ok.0) c.if-cost-self.true c.index_mut.ensures.value c.append.ensures.bytes c.append.ensures.kept
    (c.push_back_reserved.ensures.items ∙ ap (λ (l : List Place). l ++ q ∷ []) c.in_ok-reserve.ensures.items) in
    let cost_is : c.cost_of-cost.result ≡ cost p = c.cost_of-cost.ensures in
    (λ i. value a.first (s.pieces i) (s.is_counts i) (a.room - cost_is i)) ∙ ap (λ (v : Pieces). value v.first (v.pieces ++ p ∷ []) (one_more v.counts) (v.room - cost p)) c.self.view_is
    ∙ appended-fits c.args.self.now p (omega (arith, c.if-cost-self.true, cost_is, ap (λ (v : Pieces). v.room) c.self.view_is))

pub returns-in_ok-push_back-clause-ok : goal.returns-in_ok-push_back-clause-ok
returns-in_ok-push_back-clause-ok c =
    let a = c.self.inside in let k = c.self.invariant in let q : Place = record { bucket = a.freed + c.len-else-cost-self.result; offset = 0 } in let p = c.args.piece.now in
    let s = push-begins a.first a.freed a.room a.places.items a.held.items k p c.requires (omega (arith, c.if-number.false, c.len.ensures, a.places.ok.0, k.fits)) c.cost_of-cost.result c.cost_of-cost.ensures c.len-else-cost-self.result
    c.in_ok-with_piece.field-0 c.push_back_reserved-else-cost-self.new.self.items c.push_back.new.self.items (c.len-else-cost-self.ensures ∙ a.held.ok.0) c.if-cost-self.false c.in_ok-with_piece.ensures.0 c.in_ok-with_piece.ensures.1
    (c.push_back_reserved-else-cost-self.ensures.items ∙ ap (λ (l : List Place). l ++ q ∷ []) c.in_ok-reserve.ensures.items) c.in_ok-push_back.ensures.items in
    let cost_is : c.cost_of-cost.result ≡ cost p = c.cost_of-cost.ensures in
    (λ i. value a.first (s.pieces i) (s.is_counts i) (65536 - cost_is i)) ∙ ap (λ (v : Pieces). value v.first (v.pieces ++ p ∷ []) (v.counts ++ 1 ∷ []) (65536 - cost p)) c.self.view_is
    ∙ appended-begins c.args.self.now p (omega (arith, c.if-cost-self.false, cost_is, ap (λ (v : Pieces). v.room) c.self.view_is))
