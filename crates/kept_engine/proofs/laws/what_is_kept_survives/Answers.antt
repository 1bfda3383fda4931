use Rattle.kept_engine.proofs.laws.what_is_kept_survives.Goals as goal

pub returns : goal.returns
returns g c = record {
  written = λ store checkpoint stream written. c.opened_stores_stand.ensures.stands store checkpoint stream (c.opened_stores_stand.ensures.opened store checkpoint stream written);
  at = c.a_log_recovers_as_far_as_it_stands.ensures.at;
  lower = c.entries_to_come_change_nothing.ensures.lower;
  opening = c.what_files_recover_to_is_closed.ensures.opening;
  covers = c.an_image_recovers_to_its_state.ensures.covers;
  recovers = c.an_image_recovers_to_its_state.ensures.recovers;
  closes = c.alike_states_stay_alike.ensures.closes;
  sound = c.lawful_entries_keep_states_sound.ensures.kept;
  trimmed = c.a_log_goes_on_with_its_engine.ensures.trimmed;
}
