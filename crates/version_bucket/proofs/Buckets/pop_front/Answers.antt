-- The first place goes, and its bucket where it was the last place there.
use Rattle.std.proofs.Common.{◌≡◌, ◌+◌, ◌-◌, ◌<◌, length, drop, set, refl, sym, ap, subst, ◌∙◌, arith}
use Rattle.std.proofs.lemmas.Bool.{eqb-false, eqb-true}
use Rattle.std.proofs.lemmas.List.{length-map}
use Rattle.version_bucket.specs.Held.{Keeps, bytes_of}
use Rattle.version_bucket.specs.Layout.{piece_at}
use Rattle.version_bucket.specs.Pieces.{Pieces, one_less, room_in}
use Rattle.version_bucket.specs.declared.held.Held.{Held}
use Rattle.version_bucket.specs.declared.Place.{Place}
use Rattle.version_bucket.proofs.HeldSteps.{counts_of, is_held, is_kept, length-set_held, pop-goes, pop-stays, room_in-none, room_in-some, value}
use Rattle.version_bucket.proofs.Buckets.pop_front.Goals as goal

pub overflow_sub-oldest : goal.overflow_sub-oldest
overflow_sub-oldest c =
    let a = c.self.inside in
    let some : 0 < length a.places.items = omega (arith, c.requires, ap (λ (v : Pieces). length v.pieces) c.self.view_is, length-map a.places.items (λ (r : Place). piece_at (bytes_of a.held.items (r.bucket - a.freed)) r.offset)) in
    is_kept a.first a.freed a.room a.places.items a.held.items c.self.invariant some c.index_mut-oldest.result.now c.index_mut-oldest.ensures.value

pub invariant_of-self-else-oldest-eq0 : goal.invariant_of-self-else-oldest-eq0
invariant_of-self-else-oldest-eq0 c =
    let a = c.self.inside in let old = c.index_mut-oldest.result.now in
    let some : 0 < length a.places.items = omega (arith, c.requires, ap (λ (v : Pieces). length v.pieces) c.self.view_is, length-map a.places.items (λ (r : Place). piece_at (bytes_of a.held.items (r.bucket - a.freed)) r.offset)) in
    (pop-stays a.first a.freed a.room a.places.items a.held.items c.self.invariant some old c.index_mut-oldest.ensures.value (record { memory = old.memory; alloc = old.alloc; kept = old.kept - 1 }) c.pop_front.new.self.items refl refl
    c.if-oldest-eq0.false c.pop_front.ensures.rest).keeps

pub returns-else-oldest-eq0 : goal.returns-else-oldest-eq0
returns-else-oldest-eq0 c =
    let a = c.self.inside in let old = c.index_mut-oldest.result.now in let left = one_less (counts_of a.held.items) in
    let some : 0 < length a.places.items = omega (arith, c.requires, ap (λ (v : Pieces). length v.pieces) c.self.view_is, length-map a.places.items (λ (r : Place). piece_at (bytes_of a.held.items (r.bucket - a.freed)) r.offset)) in
    let new : Held = record { memory = old.memory; alloc = old.alloc; kept = old.kept - 1 } in
    let s = pop-stays a.first a.freed a.room a.places.items a.held.items c.self.invariant some old c.index_mut-oldest.ensures.value new c.pop_front.new.self.items refl refl c.if-oldest-eq0.false c.pop_front.ensures.rest in
    let lt = is_held a.first a.freed a.room a.places.items a.held.items c.self.invariant some old c.index_mut-oldest.ensures.value in
    let more : a.room ≡ room_in left a.room = room_in-some (set a.held.items 0 new) left a.room s.is_counts (omega (arith, lt, length-set_held a.held.items 0 new)) in
    (λ i. value (a.first + 1) (s.pieces i) (s.is_counts i) (more i)) ∙ ap (λ (v : Pieces). value (v.first + 1) (drop 1 v.pieces) (one_less v.counts) (room_in (one_less v.counts) v.room)) c.self.view_is

pub invariant_of-self : goal.invariant_of-self
invariant_of-self c =
    let a = c.self.inside in let old = c.index_mut-oldest.result.now in let left = one_less (counts_of a.held.items) in
    let some : 0 < length a.places.items = omega (arith, c.requires, ap (λ (v : Pieces). length v.pieces) c.self.view_is, length-map a.places.items (λ (r : Place). piece_at (bytes_of a.held.items (r.bucket - a.freed)) r.offset)) in
    let new : Held = record { memory = old.memory; alloc = old.alloc; kept = old.kept - 1 } in
    let s = pop-goes a.first a.freed a.room a.places.items a.held.items c.self.invariant some old c.index_mut-oldest.ensures.value new c.pop_front.new.self.items c.pop_front-then-oldest-eq0.new.self.items
    c.if-oldest-eq0.true c.pop_front.ensures.rest c.pop_front-then-oldest-eq0.ensures.rest in
    let none : 0 ≡ room_in left a.room = room_in-none c.pop_front-then-oldest-eq0.new.self.items left a.room s.is_counts
    (sym c.pop_front-then-oldest-eq0.new.self.ok.0 ∙ eqb-true _ 0 (sym c.is_empty.ensures ∙ c.if-is_empty.true)) in
    subst (λ j. Keeps (a.first + 1) (a.freed + 1) j c.pop_front.new.self.items c.pop_front-then-oldest-eq0.new.self.items) (sym none) s.keeps

pub invariant_of-self-else-is_empty : goal.invariant_of-self-else-is_empty
invariant_of-self-else-is_empty c =
    let a = c.self.inside in let old = c.index_mut-oldest.result.now in let left = one_less (counts_of a.held.items) in
    let some : 0 < length a.places.items = omega (arith, c.requires, ap (λ (v : Pieces). length v.pieces) c.self.view_is, length-map a.places.items (λ (r : Place). piece_at (bytes_of a.held.items (r.bucket - a.freed)) r.offset)) in
    let new : Held = record { memory = old.memory; alloc = old.alloc; kept = old.kept - 1 } in
    let s = pop-goes a.first a.freed a.room a.places.items a.held.items c.self.invariant some old c.index_mut-oldest.ensures.value new c.pop_front.new.self.items c.pop_front-then-oldest-eq0.new.self.items
    c.if-oldest-eq0.true c.pop_front.ensures.rest c.pop_front-then-oldest-eq0.ensures.rest in
    let more : a.room ≡ room_in left a.room = room_in-some c.pop_front-then-oldest-eq0.new.self.items left a.room s.is_counts
    (omega (arith, c.pop_front-then-oldest-eq0.new.self.ok.0, eqb-false _ 0 (sym c.is_empty.ensures ∙ c.if-is_empty.false))) in
    subst (λ j. Keeps (a.first + 1) (a.freed + 1) j c.pop_front.new.self.items c.pop_front-then-oldest-eq0.new.self.items) (sym more) s.keeps

pub returns-then-is_empty : goal.returns-then-is_empty
returns-then-is_empty c =
    let a = c.self.inside in let old = c.index_mut-oldest.result.now in let left = one_less (counts_of a.held.items) in
    let some : 0 < length a.places.items = omega (arith, c.requires, ap (λ (v : Pieces). length v.pieces) c.self.view_is, length-map a.places.items (λ (r : Place). piece_at (bytes_of a.held.items (r.bucket - a.freed)) r.offset)) in
    let new : Held = record { memory = old.memory; alloc = old.alloc; kept = old.kept - 1 } in
    let s = pop-goes a.first a.freed a.room a.places.items a.held.items c.self.invariant some old c.index_mut-oldest.ensures.value new c.pop_front.new.self.items c.pop_front-then-oldest-eq0.new.self.items
    c.if-oldest-eq0.true c.pop_front.ensures.rest c.pop_front-then-oldest-eq0.ensures.rest in
    let none : 0 ≡ room_in left a.room = room_in-none c.pop_front-then-oldest-eq0.new.self.items left a.room s.is_counts
    (sym c.pop_front-then-oldest-eq0.new.self.ok.0 ∙ eqb-true _ 0 (sym c.is_empty.ensures ∙ c.if-is_empty.true)) in
    (λ i. value (a.first + 1) (s.pieces i) (s.is_counts i) (none i)) ∙ ap (λ (v : Pieces). value (v.first + 1) (drop 1 v.pieces) (one_less v.counts) (room_in (one_less v.counts) v.room)) c.self.view_is

pub returns-else-is_empty : goal.returns-else-is_empty
returns-else-is_empty c =
    let a = c.self.inside in let old = c.index_mut-oldest.result.now in let left = one_less (counts_of a.held.items) in
    let some : 0 < length a.places.items = omega (arith, c.requires, ap (λ (v : Pieces). length v.pieces) c.self.view_is, length-map a.places.items (λ (r : Place). piece_at (bytes_of a.held.items (r.bucket - a.freed)) r.offset)) in
    let new : Held = record { memory = old.memory; alloc = old.alloc; kept = old.kept - 1 } in
    let s = pop-goes a.first a.freed a.room a.places.items a.held.items c.self.invariant some old c.index_mut-oldest.ensures.value new c.pop_front.new.self.items c.pop_front-then-oldest-eq0.new.self.items
    c.if-oldest-eq0.true c.pop_front.ensures.rest c.pop_front-then-oldest-eq0.ensures.rest in
    let more : a.room ≡ room_in left a.room = room_in-some c.pop_front-then-oldest-eq0.new.self.items left a.room s.is_counts
    (omega (arith, c.pop_front-then-oldest-eq0.new.self.ok.0, eqb-false _ 0 (sym c.is_empty.ensures ∙ c.if-is_empty.false))) in
    (λ i. value (a.first + 1) (s.pieces i) (s.is_counts i) (more i)) ∙ ap (λ (v : Pieces). value (v.first + 1) (drop 1 v.pieces) (one_less v.counts) (room_in (one_less v.counts) v.room)) c.self.view_is
