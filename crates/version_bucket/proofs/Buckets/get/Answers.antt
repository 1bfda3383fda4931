-- The place of a kept piece is in a bucket that is held, and its piece is the one of that number.
use Rattle.std.proofs.Common.{◌≡◌, ℕ, ◌-◌, ◌<◌, List, [], length, get_or, sym, ap, subst, ◌∙◌, arith}
use Rattle.std.proofs.lemmas.List.{length-map}
use Rattle.version_bucket.specs.Held.{bytes_of}
use Rattle.version_bucket.specs.Layout.{HasPiece, piece_at}
use Rattle.version_bucket.specs.Pieces.{Pieces}
use Rattle.version_bucket.specs.declared.held.Held.{Held}
use Rattle.version_bucket.specs.declared.Place.{Place}
use Rattle.version_bucket.proofs.HeldLemmas.{bytes_of-get, get-pieces, placed}
use Rattle.version_bucket.proofs.Buckets.get.Goals as goal

pub overflow_sub-place : goal.overflow_sub-place
overflow_sub-place c =
    let a = c.self.inside in let q = c.index-place.result.now in
    let lt : c.args.number - a.first < length a.places.items = omega (arith, c.requires, ap (λ (v : Pieces). v.first) c.self.view_is, ap (λ (v : Pieces). length v.pieces) c.self.view_is, length-map a.places.items (λ (r : Place). piece_at (bytes_of a.held.items (r.bucket - a.freed)) r.offset)) in
    (placed a.first a.freed a.room a.places.items a.held.items c.self.invariant (c.args.number - a.first) q lt c.index-place.ensures).0

pub index-requires : goal.index-requires
index-requires c =
    let a = c.self.inside in let q = c.index-place.result.now in
    let lt : c.args.number - a.first < length a.places.items = omega (arith, c.requires, ap (λ (v : Pieces). v.first) c.self.view_is, ap (λ (v : Pieces). length v.pieces) c.self.view_is, length-map a.places.items (λ (r : Place). piece_at (bytes_of a.held.items (r.bucket - a.freed)) r.offset)) in
    omega (arith, a.held.ok.0, (placed a.first a.freed a.room a.places.items a.held.items c.self.invariant (c.args.number - a.first) q lt c.index-place.ensures).1)

pub piece-requires : goal.piece-requires
piece-requires c =
    let a = c.self.inside in let q = c.index-place.result.now in
    let lt : c.args.number - a.first < length a.places.items = omega (arith, c.requires, ap (λ (v : Pieces). v.first) c.self.view_is, ap (λ (v : Pieces). length v.pieces) c.self.view_is, length-map a.places.items (λ (r : Place). piece_at (bytes_of a.held.items (r.bucket - a.freed)) r.offset)) in
    let is = placed a.first a.freed a.room a.places.items a.held.items c.self.invariant (c.args.number - a.first) q lt c.index-place.ensures in
    subst (λ (bytes : List ℕ). HasPiece bytes q.offset) (bytes_of-get a.held.items (q.bucket - a.freed) c.index.result.now is.1 ∙ ap (λ (h : Held). h.memory.bytes) (sym c.index.ensures)) is.2

pub returns : goal.returns
returns c =
    let a = c.self.inside in let q = c.index-place.result.now in let i = c.args.number - a.first in
    let lt : i < length a.places.items = omega (arith, c.requires, ap (λ (v : Pieces). v.first) c.self.view_is, ap (λ (v : Pieces). length v.pieces) c.self.view_is, length-map a.places.items (λ (r : Place). piece_at (bytes_of a.held.items (r.bucket - a.freed)) r.offset)) in
    let is = placed a.first a.freed a.room a.places.items a.held.items c.self.invariant i q lt c.index-place.ensures in
    let bytes : bytes_of a.held.items (q.bucket - a.freed) ≡ c.index.result.now.memory.bytes = bytes_of-get a.held.items (q.bucket - a.freed) c.index.result.now is.1 ∙ ap (λ (h : Held). h.memory.bytes) (sym c.index.ensures) in
    c.piece.ensures ∙ ap (λ (l : List ℕ). piece_at l q.offset) (sym bytes) ∙ sym (get-pieces a.first a.freed a.room a.places.items a.held.items c.self.invariant i q lt c.index-place.ensures)
    ∙ ap (λ (v : Pieces). get_or v.pieces (c.args.number - v.first) []) c.self.view_is
