use Rattle.std.proofs.Common.{◌≡◌, ℕ, List, [], ◌∷◌, ◌++◌, length, take, map, suc, subst, sym, ap, ◌∙◌, add-one}
use Rattle.std.specs.Prelude.{option_copied}
use Rattle.std.proofs.lemmas.List.{length_push}
use Rattle.std.proofs.lemmas.Slice.Zip.{zip_turn, zip_end}
use Rattle.key_normal.specs.KeyBytes.{key_bytes, segment_bytes}
use Rattle.key_normal.specs.KeySoFar.{KeySoFar, key_so_far}
use Rattle.index_derive.specs.Walks.{key_column}
use Rattle.index_derive.proofs.Keys.{key_more, key_all}
use Rattle.index_derive.proofs.entry.key_of.Goals as goal

pub loop-part-preserved : goal.loop-part-preserved
loop-part-preserved c =
    let parts = c.args.parts.now in
    let values = c.args.values.now in
    let high = c.args.rule.now.flags.sortnullshigh in
    let n = length c.loop-part.yielded in
    let t = zip_turn parts values c.loop-part.yielded c.into_iter-part-iterator.result c.loop-part.part-iterator c.next.new.self c.next.result (cc) (cc) c.loop-part.yielded_by (c.in-Some.part, c.in-Some.value) c.in-Some.is c.next.ensures.steps in
    let given = key_bytes (map key_column (take n parts)) high (map (option_copied {T = List ℕ}) (take n values)) in
    let segment = segment_bytes c.in-Some.part.now.kind (option_copied {T = List ℕ} c.in-Some.value.now) c.in-Some.part.now.descending high in
    let P : ℕ → Type 0 = λ most. c.loop-part.maker ≡ key_so_far most given → c.add.new.self ≡ key_so_far most (given ++ segment) in
    let added : c.add.new.self ≡ key_so_far c.args.rule.now.key_most (given ++ segment) = subst P (ap (λ (k : KeySoFar). k.most) c.loop-part.invariant) (c.add.ensures given) c.loop-part.invariant in
    let more = key_more key_column (option_copied {T = List ℕ}) high parts values n c.in-Some.part.now c.in-Some.value.now t.0 t.1 (t.2 _) (t.3 _) in
    let one_more : length (c.loop-part.yielded ++ (c.in-Some.part, c.in-Some.value) ∷ []) ≡ suc n = length_push c.loop-part.yielded _ ∙ add-one n in
    added ∙ ap (key_so_far c.args.rule.now.key_most) (sym more)
    ∙ ap (λ k. key_so_far c.args.rule.now.key_most (key_bytes (map key_column (take k parts)) high (map (option_copied {T = List ℕ}) (take k values)))) (sym one_more)

pub returns-clause-key : goal.returns-clause-key
returns-clause-key c =
    let n = zip_end c.args.parts.now c.args.values.now c.loop-part.yielded c.into_iter-part-iterator.result c.loop-part.part-iterator c.next.new.self c.next.result (cc) (cc) c.loop-part.yielded_by c.in-None.is c.next.ensures.steps in
    let all = key_all key_column (option_copied {T = List ℕ}) c.args.rule.now.flags.sortnullshigh c.args.parts.now c.args.values.now (length c.loop-part.yielded) n in
    c.done.ensures.key ∙ ap (λ (k : KeySoFar). k.bytes) c.loop-part.invariant ∙ ap (λ bytes. (key_so_far c.args.rule.now.key_most bytes).bytes) all

pub returns-clause-cut : goal.returns-clause-cut
returns-clause-cut c =
    let n = zip_end c.args.parts.now c.args.values.now c.loop-part.yielded c.into_iter-part-iterator.result c.loop-part.part-iterator c.next.new.self c.next.result (cc) (cc) c.loop-part.yielded_by c.in-None.is c.next.ensures.steps in
    let all = key_all key_column (option_copied {T = List ℕ}) c.args.rule.now.flags.sortnullshigh c.args.parts.now c.args.values.now (length c.loop-part.yielded) n in
    c.done.ensures.lost ∙ ap (λ (k : KeySoFar). k.lost) c.loop-part.invariant ∙ ap (λ bytes. (key_so_far c.args.rule.now.key_most bytes).lost) all
