-- The sessions of an own engine are sound.
use Rattle.std.proofs.Common.{◌≡◌, ℕ, true, ◌&&◌, List, [], ◌∷◌, Option, Some, None, refl, sym, ap, subst, ◌∙◌}
use Rattle.std.specs.Prelude.{◌+◌, ◌^◌, ◌==◌, IfSome, is_some, map, nat_le, option_map}
use Rattle.std.specs.List.{AllByRecursion, list_all}
use Rattle.std.proofs.lemmas.Bool.{and_from}
use Rattle.common_lemmas.proofs.Finding.{find_map}
use Rattle.common_lemmas.proofs.Lists.{all_listed, all_map, all_weaker}
use Rattle.database_state.specs.State.{LiveSession, Transaction}
use Rattle.database_state.specs.Table.{Table, table_with_id}
use Rattle.jet_catalog.specs.Catalog.{CatalogState, without_rows}
use Rattle.laws_engine.specs.EngineState.{ends_in}
use Rattle.laws_images.specs.SoundStates.{DoNotFall, IsSoundSession, IsSoundTransaction}
use Rattle.laws_versions.specs.History.{EachTwo}
use Rattle.version_cleanup.specs.LiveSessions.{LiveState, live_state, without_snapshot}
use Rattle.image_findings.specs.LiveFindings.{are_sound_sessions, do_not_fall, have_room, is_sound_session, is_sound_transaction}
use Rattle.image_findings.specs.TableContents.{TableContents, contents_with_id}
use Rattle.own_images.proofs.Missing.{tables_shown}
use Rattle.own_images.proofs.OwnRows.{at_most}
use Rattle.own_images.specs.OwnEngines.{IsOwnEngine}
use Rattle.own_images.specs.OwnStores.{OwnStore, contents_of}

-- ---- open tables

none_falls : (ids : List ℕ) → EachTwo DoNotFall ids → do_not_fall ids ≡ true
none_falls [] h = refl
none_falls (n ∷ []) h = refl
none_falls (n ∷ m ∷ ids) h = and_from (nat_le n m) (do_not_fall (m ∷ ids)) (at_most n m h.0.0) (none_falls (m ∷ ids) h.1)

same_some : {X Y : Type 0} (f : X → Y) (o : Option X) → is_some (option_map f o) ≡ is_some o
same_some f None = refl
same_some f (Some x) = refl

-- a table that is shown is one of the state
pub shown_there : (sessions : List LiveState) (store : OwnStore) → IsOwnEngine sessions store → (id : ℕ) → is_some (contents_with_id (contents_of store) id) ≡ is_some (table_with_id store.state.tables id)
shown_there sessions store own id =
    sym (same_some (λ (t : TableContents). t.table) (contents_with_id (contents_of store) id))
    ∙ sym (ap is_some (find_map (λ (t : TableContents). t.table) (λ (x : Table). x.id == id) (contents_of store)))
    ∙ ap (λ (tables : List Table). is_some (table_with_id tables id)) (tables_shown store own.kept ∙ sym (ap (λ (c : CatalogState). c.tables) own.kept.catalog))
    ∙ ap is_some (find_map without_rows (λ (x : Table). x.id == id) store.state.tables)
    ∙ same_some without_rows (table_with_id store.state.tables id)

-- ---- transactions

sound_transaction : (number : ℕ) (o : Option Transaction) → IfSome o (IsSoundTransaction number) → is_sound_transaction number (option_map without_snapshot o) ≡ true
sound_transaction number None h = refl
sound_transaction number (Some t) h = and_from (nat_le 1 t.begin) (nat_le t.begin number) (at_most 1 t.begin h.1) (at_most t.begin number h.2)

-- ---- sessions

sound_session : (number : ℕ) (tables : List Table) (shown : List TableContents) → ((id : ℕ) → is_some (contents_with_id shown id) ≡ is_some (table_with_id tables id)) → (s : LiveSession) → IsSoundSession number tables s → is_sound_session number shown (live_state s) ≡ true
sound_session number tables shown same s sound =
    let there = list_all (λ id. is_some (contents_with_id shown id)) s.open_tables in
    and_from (do_not_fall s.open_tables) (there && is_sound_transaction number (option_map without_snapshot s.transaction)) (none_falls s.open_tables sound.in_order)
    (and_from there (is_sound_transaction number (option_map without_snapshot s.transaction))
    (all_listed (λ id. is_some (contents_with_id shown id)) s.open_tables (all_weaker (λ id. is_some (table_with_id tables id) ≡ true) (λ id. is_some (contents_with_id shown id) ≡ true) (λ id there. same id ∙ there) s.open_tables sound.there))
    (sound_transaction number s.transaction sound.transaction))

pub own_sessions : (sessions : List LiveState) (store : OwnStore) → IsOwnEngine sessions store → are_sound_sessions store.number (contents_of store) sessions ≡ true
own_sessions sessions store own =
    and_from (list_all (is_sound_session store.number (contents_of store)) sessions) (have_room store.number sessions)
    (subst (λ (list : List LiveState). list_all (is_sound_session store.number (contents_of store)) list ≡ true) own.holds.sessions
    (all_listed (is_sound_session store.number (contents_of store)) (map live_state store.state.sessions)
    (all_map (λ s. is_sound_session store.number (contents_of store) s ≡ true) live_state store.state.sessions
    (all_weaker (IsSoundSession store.number store.state.tables) (λ s. is_sound_session store.number (contents_of store) (live_state s) ≡ true)
    (sound_session store.number store.state.tables (contents_of store) (shown_there sessions store own)) store.state.sessions
    (subst (λ (n : ℕ). AllByRecursion (IsSoundSession n store.state.tables) store.state.sessions) own.holds.number own.within.each)))))
    (and_from (nat_le (ends_in sessions) store.number) (nat_le (store.number + ends_in sessions) (2 ^ 35 + 1)) (at_most (ends_in sessions) store.number own.room.begun) (at_most (store.number + ends_in sessions) (2 ^ 35 + 1) own.room.room))
