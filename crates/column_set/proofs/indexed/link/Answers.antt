use Rattle.std.proofs.Common.{◌≡◌, ◌+◌, ◌-◌, ◌<◌, ℕ, length, Some, refl, ap, sym, subst, ◌∙◌, arith}
use Rattle.std.specs.Prelude.{slice_get}
use Rattle.std.proofs.lemmas.Option.{slice_get_read}
use Rattle.column_set.specs.declared.columns.Column.{Column}
use Rattle.column_set.specs.NameIndex.{IsLinkedFrom, bucket}
use Rattle.column_set.proofs.Indexing.{nothing_linked, one_more_linked}
use Rattle.column_set.proofs.indexed.link.Goals as goal

pub loop-place-init : goal.loop-place-init
loop-place-init c = record {
  within = omega arith;
  linked = nothing_linked c.args.columns.now c.args.firsts.now c.args.nexts.now c.requires.firsts c.requires.nexts;
}

pub loop-place-preserved : goal.loop-place-preserved
loop-place-preserved c =
    let columns = c.args.columns.now in
    let column = c.index-columns-place.result in
    let some : c.loop-place.place ≡ c.loop-place.place - 1 + 1 = omega (arith, c.loop-place-test.true) in
    let small : c.loop-place.place - 1 < length columns = omega (arith, c.loop-place-test.true, c.loop-place.invariant.within) in
    let there : slice_get columns (c.loop-place.place - 1) ≡ Some column = slice_get_read columns (length columns) (c.loop-place.place - 1) column refl small c.index-columns-place.is in
    let own : c.bucket_of-bucket.result ≡ bucket (length columns) column.name = c.bucket_of-bucket.ensures.value ∙ ap (λ (x : Column). bucket (length columns) x.name) (sym c.index-columns-place.is) in
    let before : IsLinkedFrom columns (c.loop-place.place - 1 + 1) c.loop-place.firsts c.loop-place.nexts = subst (λ (n : ℕ). IsLinkedFrom columns n c.loop-place.firsts c.loop-place.nexts) some c.loop-place.invariant.linked in
    record {
      within = omega (arith, c.loop-place.invariant.within);
      linked = one_more_linked columns c.loop-place.firsts c.loop-place.nexts (c.loop-place.place - 1) c.bucket_of-bucket.result column there small own c.bucket_of-bucket.ensures.within before;
    }

pub returns : goal.returns
returns c =
    let columns = c.args.columns.now in
    let none : c.loop-place.place ≡ 0 = omega (arith, c.loop-place-test.false) in
    subst (λ (n : ℕ). IsLinkedFrom columns n c.loop-place.firsts c.loop-place.nexts) none c.loop-place.invariant.linked
