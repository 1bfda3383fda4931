-- What is asked of the changes of a live part, of those that stand and of those that are undone.
use Rattle.std.proofs.Common.{◌≡◌, Bool, true, false, ◌&&◌, List, [], ◌∷◌, Option, Some, None, refl, sym, ap, ◌∙◌}
use Rattle.std.specs.Prelude.{IfOk, IfSome, Result, Ok, Err, not, if◌then◌else◌}
use Rattle.std.specs.List.{list_all}
use Rattle.common_lemmas.proofs.Booleans.{impossible}
use Rattle.database_state.specs.State.{is_undone}
use Rattle.image_findings.specs.LiveFindings.{are_sound_sessions, is_sound_change}
use Rattle.image_findings.specs.TableContents.{TableContents, contents_with_id, long_values}
use Rattle.live_part.specs.LiveBytes.{LivePart, standing}
use Rattle.live_part.specs.LiveReading.{undone_of}
use Rattle.live_part.specs.declared.reading.LoadedPart.{LoadedPart}
use Rattle.version_cleanup.specs.LiveSessions.{LiveState}
use Rattle.version_store.specs.HeldChanges.{HeldChange}
use Rattle.image_live.specs.LoadedParts.{IsLoaded, has_sound_parts}
use Rattle.image_live.specs.TablesRead.{AreTablesOf, HasWholeBefore, NamesWholeValues}
use Rattle.image_live.specs.declared.tables.ImageTables.{ImageTables}

front : (a b c : Bool) → (a && (b && c)) ≡ ((a && b) && c)
front true b c = refl
front false b c = refl

behind : (a b c : Bool) → (a && (b && c)) ≡ (b && (a && c))
behind true b c = refl
behind false true c = refl
behind false false c = refl

parted : (p : HeldChange → Bool) (held : List HeldChange) → list_all p held ≡ (list_all p (standing held) && list_all p (undone_of held))
parted p [] = refl
parted p (h ∷ held) = ap (λ b. p h && b) (parted p held) ∙ by (is_undone h.status)
  where
    by : (b : Bool) → (p h && (list_all p (standing held) && list_all p (undone_of held))) ≡ (list_all p (if not b then h ∷ standing held else standing held) && list_all p (if b then h ∷ undone_of held else undone_of held))
    by true = behind (p h) (list_all p (standing held)) (list_all p (undone_of held))
    by false = front (p h) (list_all p (standing held)) (list_all p (undone_of held))

parts_are : (image : ImageTables) (tables : List TableContents) (live : LivePart) (part : LoadedPart) → IsLoaded live part
    → has_sound_parts image.number tables live ≡ (are_sound_sessions image.number tables part.sessions && (list_all (is_sound_change image.number tables part.sessions) part.versions && list_all (is_sound_change image.number tables part.sessions) part.undone))
parts_are image tables live part of =
    ap (λ b. are_sound_sessions image.number tables live.sessions && b) (parted (is_sound_change image.number tables live.sessions) live.held)
    ∙ ap (λ (s : List LiveState). are_sound_sessions image.number tables s && (list_all (is_sound_change image.number tables s) (standing live.held) && list_all (is_sound_change image.number tables s) (undone_of live.held))) of.sessions
    ∙ ap (λ (l : List HeldChange). are_sound_sessions image.number tables part.sessions && (list_all (is_sound_change image.number tables part.sessions) l && list_all (is_sound_change image.number tables part.sessions) (undone_of live.held))) of.versions
    ∙ ap (λ (l : List HeldChange). are_sound_sessions image.number tables part.sessions && (list_all (is_sound_change image.number tables part.sessions) part.versions && list_all (is_sound_change image.number tables part.sessions) l)) of.undone

-- the sessions are sound, or not; the changes that stand are; and those that are undone
abbrev pub Decided : ImageTables → LoadedPart → Bool → Type 0
Decided image part sound = (tables : List TableContents) (live : LivePart) → AreTablesOf image tables → IsLoaded live part → sound ≡ has_sound_parts image.number tables live

abbrev pub SessionsAre : ImageTables → LoadedPart → Bool → Type 0
SessionsAre image part sound = (tables : List TableContents) → AreTablesOf image tables → sound ≡ are_sound_sessions image.number tables part.sessions

abbrev pub ChangesAre : ImageTables → LoadedPart → List HeldChange → Bool → Type 0
ChangesAre image part changes sound = (tables : List TableContents) → AreTablesOf image tables → sound ≡ list_all (is_sound_change image.number tables part.sessions) changes

decided : (image : ImageTables) (part : LoadedPart) (a b c : Bool) → SessionsAre image part a → ChangesAre image part part.versions b → ChangesAre image part part.undone c → Decided image part (a && (b && c))
decided image part a b c sessions versions undone tables live are of =
    ap (λ x. x && (b && c)) (sessions tables are)
    ∙ ap (λ x. are_sound_sessions image.number tables part.sessions && (x && c)) (versions tables are)
    ∙ ap (λ x. are_sound_sessions image.number tables part.sessions && (list_all (is_sound_change image.number tables part.sessions) part.versions && x)) (undone tables are)
    ∙ sym (parts_are image tables live part of)

pub no_sessions : (image : ImageTables) (part : LoadedPart) → SessionsAre image part false → Decided image part false
no_sessions image part sessions tables live are of =
    ap (λ x. x && (list_all (is_sound_change image.number tables part.sessions) part.versions && list_all (is_sound_change image.number tables part.sessions) part.undone)) (sessions tables are)
    ∙ sym (parts_are image tables live part of)

pub no_versions : (image : ImageTables) (part : LoadedPart) → SessionsAre image part true → ChangesAre image part part.versions false → Decided image part false
no_versions image part sessions versions tables live are of =
    ap (λ x. true && (x && list_all (is_sound_change image.number tables part.sessions) part.undone)) (versions tables are)
    ∙ ap (λ x. x && (list_all (is_sound_change image.number tables part.sessions) part.versions && list_all (is_sound_change image.number tables part.sessions) part.undone)) (sessions tables are)
    ∙ sym (parts_are image tables live part of)

pub by_undone : {E : Type 0} (image : ImageTables) (part : LoadedPart) (r : Result Bool E) → SessionsAre image part true → ChangesAre image part part.versions true → IfOk r (ChangesAre image part part.undone) → IfOk r (Decided image part)
by_undone image part (Ok sound) sessions versions undone = decided image part true true sound sessions versions undone
by_undone image part (Err fault) sessions versions undone = undone

pub nothing_asked : (tables : List TableContents) (h : HeldChange) → is_undone h.status ≡ true → NamesWholeValues tables h
nothing_asked tables h undone = by (contents_with_id tables h.table)
  where
    by : (t : Option TableContents) → IfSome t (λ t. HasWholeBefore (long_values t) h)
    by None = tt
    by (Some t) = λ stands. impossible (sym stands ∙ undone)
