use Rattle.std.proofs.Common.{◌≡◌, ℕ, ◌-◌, ◌&&◌, true, List, refl, sym, ap, subst, ◌∙◌}
use Rattle.std.specs.Prelude.{drop, is_some, nat_lt}
use Rattle.common_lemmas.proofs.Booleans.{and_left, and_right}
use Rattle.laws_versions.proofs.ChangeLemmas.Tests.{and_second}
use Rattle.laws_engine.specs.HeldRecords.{HeldRecord}
use Rattle.laws_engine.specs.VersionedTables.{without_oldest}
use Rattle.stored_variants.specs.StoredVersions.{StoredVersions, next_to_forget}
use Rattle.engine_core.specs.Cleans.{AreUnneeded}
use Rattle.engine_core.proofs.GivenUp.{drop_later, fewer_left, kept_is, minus_none, more_unneeded, none_yet, one_more, one_within, some_held, some_left}
use Rattle.engine_core.proofs.cleaning.forget_first.Goals as goal

pub loop-more-init : goal.loop-more-init
loop-more-init c = record {
  gone = refl;
  few = none_yet c.args.most;
  unneeded = tt;
  more = c.may_forget-more.ensures ∙ ap (λ (n : ℕ). nat_lt 0 n && is_some (next_to_forget c.args.oldest c.args.tables.now.store.held)) (minus_none c.args.most);
}

pub forget-requires : goal.forget-requires
forget-requires c =
    some_held c.args.oldest c.loop-more.tables.store.held
    (and_right (nat_lt 0 (c.args.most - c.loop-more.count)) (is_some (next_to_forget c.args.oldest c.loop-more.tables.store.held)) (sym c.loop-more.invariant.more ∙ c.loop-more-test.true))

pub loop-more-smaller : goal.loop-more-smaller
loop-more-smaller c =
    fewer_left c.args.most c.loop-more.count
    (and_left (nat_lt 0 (c.args.most - c.loop-more.count)) (is_some (next_to_forget c.args.oldest c.loop-more.tables.store.held)) (sym c.loop-more.invariant.more ∙ c.loop-more-test.true))

pub loop-more-preserved : goal.loop-more-preserved
loop-more-preserved c =
    let first = c.args.tables.now in
    let both = sym c.loop-more.invariant.more ∙ c.loop-more-test.true in
    let left : nat_lt 0 (c.args.most - c.loop-more.count) ≡ true = and_left (nat_lt 0 (c.args.most - c.loop-more.count)) (is_some (next_to_forget c.args.oldest c.loop-more.tables.store.held)) both in
    let there : is_some (next_to_forget c.args.oldest c.loop-more.tables.store.held) ≡ true = and_right (nat_lt 0 (c.args.most - c.loop-more.count)) (is_some (next_to_forget c.args.oldest c.loop-more.tables.store.held)) both in
    record {
      gone =
          c.forget.ensures
          ∙ ap (λ (v : StoredVersions). record v { store = without_oldest v.store }) c.loop-more.invariant.gone
          ∙ ap (λ (held : List HeldRecord). record first { store = record first.store { held = held } }) (drop_later c.loop-more.count first.store.held ∙ ap (λ (n : ℕ). drop n first.store.held) (one_more c.loop-more.count));
      few = one_within c.args.most c.loop-more.count left;
      unneeded =
          subst (λ (n : ℕ). AreUnneeded c.args.oldest n first.store.held) (one_more c.loop-more.count)
          (more_unneeded c.args.oldest c.loop-more.count first.store.held c.loop-more.invariant.unneeded
          (ap (λ (v : StoredVersions). is_some (next_to_forget c.args.oldest v.store.held)) (sym c.loop-more.invariant.gone) ∙ there));
      more = c.may_forget-more-in-loop-more.ensures;
    }

pub returns : goal.returns
returns c =
    let first = c.args.tables.now in
    record {
      gone = c.loop-more.invariant.gone;
      few = c.loop-more.invariant.few;
      unneeded = c.loop-more.invariant.unneeded;
      all = λ fewer.
          ap (λ (held : List HeldRecord). record first.store { held = held })
          (kept_is c.args.oldest c.loop-more.count first.store.held c.loop-more.invariant.unneeded
          (ap (λ (v : StoredVersions). is_some (next_to_forget c.args.oldest v.store.held)) (sym c.loop-more.invariant.gone)
          ∙ and_second (nat_lt 0 (c.args.most - c.loop-more.count)) (is_some (next_to_forget c.args.oldest c.loop-more.tables.store.held)) (some_left c.args.most c.loop-more.count fewer) (sym c.loop-more.invariant.more ∙ c.loop-more-test.false)));
    }
