use Rattle.std.proofs.Common.{List, ℕ, Bool, sym, ◌∙◌}
use Rattle.std.specs.Prelude.{option_copied}
use Rattle.index_derive.specs.Entries.{key_list}
use Rattle.table_versions.specs.KeyConflicts.{is_taken_for}
use Rattle.table_versions.proofs.KeyWalks.{fewer_keys, keys_begin, keys_end, keys_find, keys_go_on}
use Rattle.table_versions.proofs.store.TableVersions.has_taken_key.Goals as goal

pub loop-found-init : goal.loop-found-init
loop-found-init g c =
    let keys : List (List ℕ) = key_list c.args.rule.now c.args.schema.now (g.R.Values.fields c.args.record.now) in
    let test : List ℕ → Bool = is_taken_for c.args.reader c.args.self.now.store c.args.table.0 c.args.rule.now.id.0 (option_copied c.args.own) in
    keys_begin test keys c.next_entry-found.result (c.entries_rise.ensures c.args.rule.now c.args.schema.now (g.R.Values.fields c.args.record.now)) c.next_entry-found.ensures

pub returns-then-is_taken : goal.returns-then-is_taken
returns-then-is_taken g c =
    let keys : List (List ℕ) = key_list c.args.rule.now c.args.schema.now (g.R.Values.fields c.args.record.now) in
    let test : List ℕ → Bool = is_taken_for c.args.reader c.args.self.now.store c.args.table.0 c.args.rule.now.id.0 (option_copied c.args.own) in
    sym (keys_find test keys c.loop-found.found c.in-Some.key c.loop-found.invariant c.in-Some.is (sym c.is_taken.ensures ∙ c.if-is_taken.true))

pub loop-found-smaller : goal.loop-found-smaller
loop-found-smaller g c =
    let keys : List (List ℕ) = key_list c.args.rule.now c.args.schema.now (g.R.Values.fields c.args.record.now) in
    fewer_keys keys c.loop-found.found c.next_entry-found-in-Some.result c.in-Some.key c.in-Some.is c.next_entry-found-in-Some.ensures

pub loop-found-preserved : goal.loop-found-preserved
loop-found-preserved g c =
    let keys : List (List ℕ) = key_list c.args.rule.now c.args.schema.now (g.R.Values.fields c.args.record.now) in
    let test : List ℕ → Bool = is_taken_for c.args.reader c.args.self.now.store c.args.table.0 c.args.rule.now.id.0 (option_copied c.args.own) in
    keys_go_on test keys c.loop-found.found c.next_entry-found-in-Some.result c.in-Some.key (c.entries_rise.ensures c.args.rule.now c.args.schema.now (g.R.Values.fields c.args.record.now))
    c.loop-found.invariant c.in-Some.is (sym c.is_taken.ensures ∙ c.if-is_taken.false) c.next_entry-found-in-Some.ensures

pub returns : goal.returns
returns g c =
    let keys : List (List ℕ) = key_list c.args.rule.now c.args.schema.now (g.R.Values.fields c.args.record.now) in
    let test : List ℕ → Bool = is_taken_for c.args.reader c.args.self.now.store c.args.table.0 c.args.rule.now.id.0 (option_copied c.args.own) in
    sym (keys_end test keys c.loop-found.found c.loop-found.invariant c.in_default.is)
