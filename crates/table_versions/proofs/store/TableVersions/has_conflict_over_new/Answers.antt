use Rattle.std.proofs.Common.{List, ℕ, Bool, Option, not, ◌&&◌, sym, ap, ◌∙◌}
use Rattle.std.specs.Prelude.{option_copied}
use Rattle.column_set.specs.RecordValues.{RecordFields}
use Rattle.database_state.specs.Conflicts.{yields_key}
use Rattle.index_derive.specs.Entries.{key_list}
use Rattle.table_versions.specs.KeyConflicts.{has_conflict_over, replaced_seen}
use Rattle.table_versions.proofs.KeyWalks.{any_new, fewer_keys, keys_begin, keys_end, keys_find, keys_go_on}
use Rattle.table_versions.proofs.store.TableVersions.has_conflict_over_new.Goals as goal

pub loop-found-init : goal.loop-found-init
loop-found-init g c =
    let keys : List (List ℕ) = key_list c.args.rule.now c.args.schema.now (g.R.Values.fields c.args.record.now) in
    let lacks : List ℕ → Bool = λ key. not (yields_key c.args.rule.now c.args.schema.now key (replaced_seen c.args.reader c.args.self.now.store c.args.table.0 (option_copied c.args.own))) in
    let over : List ℕ → Bool = has_conflict_over c.args.reader c.args.self.now.store c.args.table.0 c.args.rule.now c.args.schema.now in
    keys_begin (λ key. lacks key && over key) keys c.next_entry-found.result (c.entries_rise.ensures c.args.rule.now c.args.schema.now (g.R.Values.fields c.args.record.now)) c.next_entry-found.ensures

pub returns-then-is_new_conflict : goal.returns-then-is_new_conflict
returns-then-is_new_conflict g c =
    let keys : List (List ℕ) = key_list c.args.rule.now c.args.schema.now (g.R.Values.fields c.args.record.now) in
    let lacks : List ℕ → Bool = λ key. not (yields_key c.args.rule.now c.args.schema.now key (replaced_seen c.args.reader c.args.self.now.store c.args.table.0 (option_copied c.args.own))) in
    let over : List ℕ → Bool = has_conflict_over c.args.reader c.args.self.now.store c.args.table.0 c.args.rule.now c.args.schema.now in
    sym (sym (any_new lacks over keys)
    ∙ keys_find (λ key. lacks key && over key) keys c.loop-found.found c.in-Some.key c.loop-found.invariant c.in-Some.is
    (sym (c.is_new_conflict.ensures ∙ ap (λ (o : Option RecordFields). not (yields_key c.args.rule.now c.args.schema.now c.in-Some.key o) && over c.in-Some.key) c.replaced_row-seen.ensures) ∙ c.if-is_new_conflict.true))

pub loop-found-smaller : goal.loop-found-smaller
loop-found-smaller g c =
    let keys : List (List ℕ) = key_list c.args.rule.now c.args.schema.now (g.R.Values.fields c.args.record.now) in
    fewer_keys keys c.loop-found.found c.next_entry-found-in-Some.result c.in-Some.key c.in-Some.is c.next_entry-found-in-Some.ensures

pub loop-found-preserved : goal.loop-found-preserved
loop-found-preserved g c =
    let keys : List (List ℕ) = key_list c.args.rule.now c.args.schema.now (g.R.Values.fields c.args.record.now) in
    let lacks : List ℕ → Bool = λ key. not (yields_key c.args.rule.now c.args.schema.now key (replaced_seen c.args.reader c.args.self.now.store c.args.table.0 (option_copied c.args.own))) in
    let over : List ℕ → Bool = has_conflict_over c.args.reader c.args.self.now.store c.args.table.0 c.args.rule.now c.args.schema.now in
    keys_go_on (λ key. lacks key && over key) keys c.loop-found.found c.next_entry-found-in-Some.result c.in-Some.key (c.entries_rise.ensures c.args.rule.now c.args.schema.now (g.R.Values.fields c.args.record.now))
    c.loop-found.invariant c.in-Some.is
    (sym (c.is_new_conflict.ensures ∙ ap (λ (o : Option RecordFields). not (yields_key c.args.rule.now c.args.schema.now c.in-Some.key o) && over c.in-Some.key) c.replaced_row-seen.ensures) ∙ c.if-is_new_conflict.false)
    c.next_entry-found-in-Some.ensures

pub returns : goal.returns
returns g c =
    let keys : List (List ℕ) = key_list c.args.rule.now c.args.schema.now (g.R.Values.fields c.args.record.now) in
    let lacks : List ℕ → Bool = λ key. not (yields_key c.args.rule.now c.args.schema.now key (replaced_seen c.args.reader c.args.self.now.store c.args.table.0 (option_copied c.args.own))) in
    let over : List ℕ → Bool = has_conflict_over c.args.reader c.args.self.now.store c.args.table.0 c.args.rule.now c.args.schema.now in
    sym (sym (any_new lacks over keys) ∙ keys_end (λ key. lacks key && over key) keys c.loop-found.found c.loop-found.invariant c.in_default.is)
