use Rattle.std.proofs.Common.{◌≡◌, true, false, List, [], ◌∷◌, ◌++◌, None, refl, sym, subst, ◌∙◌}
use Rattle.std.proofs.lemmas.List.{append-nil}
use Rattle.common_lemmas.proofs.Booleans.{impossible}
use Rattle.database_state.specs.Computing.{computing}
use Rattle.database_state.specs.Lawful.{is_lawful}
use Rattle.database_state.specs.State.{DatabaseState, empty_state}
use Rattle.database_state.specs.Step.{entry_by}
use Rattle.index_derive.specs.declared.log.Entry.{Entry}
use Rattle.index_derive.specs.declared.log.EntryKind.TheVariants as entry
use Rattle.log_grammar.specs.EntryBytes.{IsCut, entry_bytes, has_spelling}
use Rattle.log_grammar.specs.EntryStreams.{stream_bytes, stream_fits}
use Rattle.log_grammar.proofs.Streams.{cut_is_not_whole, nothing_is_cut, read_back}
use Rattle.recovered_states.specs.Recovers.{MayCome, RecoversFrom}
use Rattle.recovered_states.specs.Samples.{commit_entries, front_of_a_commit, put_entries, table_entries}
use Rattle.recovered_states.proofs.examples.what_logs_recover_to.Goals as goal

front_is_cut : IsCut front_of_a_commit
unfolding entry_bytes has_spelling
front_is_cut = (entry_by 1 entry.Commit, 0, 0 ∷ 0 ∷ [], refl, refl)

-- ---- a Commit of a session that is not there

refused : is_lawful empty_state (entry_by 1 entry.Commit) ≡ false
unfolding computing
refused = refl

spelled : stream_fits commit_entries ≡ true
unfolding has_spelling
spelled = refl

not_recovered : (state : DatabaseState) → RecoversFrom None (stream_bytes commit_entries) state → ⊥
not_recovered state from =
    let same = read_back from.entries commit_entries (stream_bytes commit_entries) from.rest [] (from.come.spelled, from.reads, cut_is_not_whole from.rest from.cut) (spelled, sym (append-nil (stream_bytes commit_entries)), cut_is_not_whole [] nothing_is_cut) in
    let come : MayCome empty_state commit_entries = subst (λ (s : DatabaseState). MayCome s commit_entries) from.shows (subst (λ (l : List Entry). MayCome from.shown l) same.0 from.come) in
    impossible (sym refused ∙ come.lawful.0)

pub returns : goal.returns
unfolding computing entry_bytes has_spelling
returns c = record {
  committed = record {
    shown = empty_state;
    shows = refl;
    entries = table_entries ++ put_entries ++ commit_entries;
    rest = [];
    reads = sym (append-nil (stream_bytes (table_entries ++ put_entries ++ commit_entries)));
    cut = nothing_is_cut;
    come = record { lawful = (refl, (refl, (refl, (refl, (refl, (refl, tt)))))); spelled = refl };
    is = refl;
  };
  undone = record {
    shown = empty_state;
    shows = refl;
    entries = table_entries ++ put_entries;
    rest = [];
    reads = sym (append-nil (stream_bytes (table_entries ++ put_entries)));
    cut = nothing_is_cut;
    come = record { lawful = (refl, (refl, (refl, (refl, (refl, tt))))); spelled = refl };
    is = refl;
  };
  cut = record {
    shown = empty_state;
    shows = refl;
    entries = table_entries ++ put_entries;
    rest = front_of_a_commit;
    reads = refl;
    cut = front_is_cut;
    come = record { lawful = (refl, (refl, (refl, (refl, (refl, tt))))); spelled = refl };
    is = refl;
  };
  not_lawful = not_recovered;
}
