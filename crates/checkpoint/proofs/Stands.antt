-- Which checkpoint stands while the next one is written.
use Rattle.std.proofs.Common.{◌≡◌, ◌⊎◌, inl, inr, ⊎_elim, ℕ, ◌+◌, ◌%◌, ◌<◌, ◌≤◌, List, [], Option, Some, None, Bool, true, false, ◌&&◌, eqb, leb, length, get_or, refl, sym, ◌∙◌, ap, subst, arith, if◌then◌else◌}
use Rattle.std.proofs.lemmas.Bool.{cases_lt, and_parts, lt-ltb, le-ltb, le-leb, leb-true, eq-eqb, ne_eqb, cond-true, cond-false}
use Rattle.std.proofs.lemmas.List.{get_or_past}
use Rattle.jet_volume.specs.declared.files.File.{File}
use Rattle.jet_volume.specs.declared.files.File.TheVariants.{Database, CheckpointA, CheckpointB, Log}
use Rattle.jet_volume.specs.Image.{Image, SameBut, file_bytes}
use Rattle.page_image.specs.Page.{PageContents}
use Rattle.checkpoint.specs.declared.image.Standing.{Standing}
use Rattle.checkpoint.specs.Contents.{Contents, IsLawful, number_at, contents_in, file_of, has_head, has_slots, has_live, is_checkpoint_file}
use Rattle.checkpoint.specs.Opening.{has_open_gate, shown_number, is_greater, chosen, looked_at, IsNew, SlotSays, HoldsPages, HasCheckpoint, KeepsCheckpoint}
use Rattle.checkpoint.specs.Shape.{IsStanding}
use Rattle.checkpoint.specs.Steps.{SparesSlots, SaysOpenly}
use Rattle.checkpoint.proofs.Regions.{says_still}
use Rattle.checkpoint.proofs.ReadsBack.{whole, contents_read, file_reads, number_shows, opened}

-- one of the two checkpoint files, and the other
abbrev pub IsOneOfTwo : File → Type 0
IsOneOfTwo Database = ⊥
IsOneOfTwo CheckpointA = Unit {0}
IsOneOfTwo CheckpointB = Unit {0}
IsOneOfTwo Log = ⊥

abbrev pub other_file : File → File
other_file Database = Database
other_file CheckpointA = CheckpointB
other_file CheckpointB = CheckpointA
other_file Log = Log

-- all but one checkpoint file is the same
pub record SameRest (file : File) (a b : Image) : Type 0 where
  pub database : b.database ≡ a.database
  pub log : b.log ≡ a.log
  pub other : file_bytes (other_file file) b ≡ file_bytes (other_file file) a

pub same_rest : (file : File) (a b : Image) → IsOneOfTwo file → SameBut file a b → SameRest file a b
same_rest Database a b one same = absurd one
same_rest CheckpointA a b one same = record { database = ap (λ (i : Image). i.database) same; log = ap (λ (i : Image). i.log) same; other = ap (λ (i : Image). i.checkpoint_b) same }
same_rest CheckpointB a b one same = record { database = ap (λ (i : Image). i.database) same; log = ap (λ (i : Image). i.log) same; other = ap (λ (i : Image). i.checkpoint_a) same }
same_rest Log a b one same = absurd one

odd_file : (n : ℕ) → n % 2 ≡ 1 → file_of n ≡ CheckpointA
odd_file n odd = cond-true (eqb (n % 2) 1) CheckpointA CheckpointB (eq-eqb (n % 2) 1 odd)

even_file : (n : ℕ) → n % 2 ≡ 0 → file_of n ≡ CheckpointB
even_file n even = cond-false (eqb (n % 2) 1) CheckpointA CheckpointB (ne_eqb (n % 2) 1 (λ one. absurd (omega (arith, one, even))))

parity : (n : ℕ) → (n % 2 ≡ 0) ⊎ (n % 2 ≡ 1)
parity n = ⊎_elim (λ (lt : n % 2 < 1). inl (omega (arith, lt))) (λ (ge : 1 ≤ n % 2). inr (omega (arith, ge))) (cases_lt (n % 2) 1)

pub file_is_one : (n : ℕ) → IsOneOfTwo (file_of n)
file_is_one n = ⊎_elim (λ (even : n % 2 ≡ 0). subst IsOneOfTwo (sym (even_file n even)) tt) (λ (odd : n % 2 ≡ 1). subst IsOneOfTwo (sym (odd_file n odd)) tt) (parity n)

-- a checkpoint goes to the file that the one before it is not in
pub next_file : (n : ℕ) → other_file (file_of (n + 1)) ≡ file_of n
next_file n = ⊎_elim
    (λ (even : n % 2 ≡ 0). let odd : (n + 1) % 2 ≡ 1 = omega (arith, even) in ap other_file (odd_file (n + 1) odd) ∙ sym (even_file n even))
    (λ (odd : n % 2 ≡ 1). let even : (n + 1) % 2 ≡ 0 = omega (arith, odd) in ap other_file (even_file (n + 1) even) ∙ sym (odd_file n odd))
    (parity n)

-- what a choice tells of the gates
chose_first : (a b : Bool) (m n : Option ℕ) → chosen a b m n ≡ Some CheckpointA → a ≡ true
chose_first true b m n is = refl
chose_first false false m n is = cc
chose_first false true m n is = cc

chose_second : (a b : Bool) (m n : Option ℕ) → chosen a b m n ≡ Some CheckpointB → b ≡ true
chose_second a true m n is = refl
chose_second false false m n is = cc
chose_second true false m n is = cc

chose_none : (a b : Bool) (m n : Option ℕ) → chosen a b m n ≡ None → (a ≡ false) × (b ≡ false)
chose_none false false m n is = (refl, refl)
chose_none true false m n is = cc
chose_none false true m n is = cc
chose_none true true m n is = cc

chooses_first : (a b : Bool) (m n : Option ℕ) → a ≡ true → b ≡ false → chosen a b m n ≡ Some CheckpointA
chooses_first true false m n is_open shut = refl
chooses_first true true m n is_open shut = cc
chooses_first false b m n is_open shut = cc

chooses_second : (a b : Bool) (m n : Option ℕ) → a ≡ false → b ≡ true → chosen a b m n ≡ Some CheckpointB
chooses_second false true m n shut is_open = refl
chooses_second false false m n shut is_open = cc
chooses_second true b m n shut is_open = cc

chooses_none : (a b : Bool) (m n : Option ℕ) → a ≡ false → b ≡ false → chosen a b m n ≡ None
chooses_none false false m n shut shut_too = refl
chooses_none true b m n shut shut_too = cc
chooses_none false true m n shut shut_too = cc

-- the file looked at is looked at still where the other one is the same or closed
pub looked_still : (file : File) (a b : Image) → IsOneOfTwo file → looked_at a ≡ Some (other_file file) → file_bytes (other_file file) b ≡ file_bytes (other_file file) a
    → (file_bytes file b ≡ file_bytes file a) ⊎ (has_open_gate (file_bytes file b) ≡ false) → looked_at b ≡ Some (other_file file)
looked_still Database a b one looked same gate = absurd one
looked_still CheckpointA a b one looked same gate = ⊎_elim
    (λ (stays : b.checkpoint_a ≡ a.checkpoint_a).
    ap (λ (l : List ℕ). chosen (has_open_gate l) (has_open_gate b.checkpoint_b) (shown_number l) (shown_number b.checkpoint_b)) stays
    ∙ ap (λ (l : List ℕ). chosen (has_open_gate a.checkpoint_a) (has_open_gate l) (shown_number a.checkpoint_a) (shown_number l)) same ∙ looked)
    (λ (closed : has_open_gate b.checkpoint_a ≡ false).
    chooses_second (has_open_gate b.checkpoint_a) (has_open_gate b.checkpoint_b) (shown_number b.checkpoint_a) (shown_number b.checkpoint_b) closed
    (ap has_open_gate same ∙ chose_second (has_open_gate a.checkpoint_a) (has_open_gate a.checkpoint_b) (shown_number a.checkpoint_a) (shown_number a.checkpoint_b) looked))
    gate
looked_still CheckpointB a b one looked same gate = ⊎_elim
    (λ (stays : b.checkpoint_b ≡ a.checkpoint_b).
    ap (λ (l : List ℕ). chosen (has_open_gate b.checkpoint_a) (has_open_gate l) (shown_number b.checkpoint_a) (shown_number l)) stays
    ∙ ap (λ (l : List ℕ). chosen (has_open_gate l) (has_open_gate a.checkpoint_b) (shown_number l) (shown_number a.checkpoint_b)) same ∙ looked)
    (λ (closed : has_open_gate b.checkpoint_b ≡ false).
    chooses_first (has_open_gate b.checkpoint_a) (has_open_gate b.checkpoint_b) (shown_number b.checkpoint_a) (shown_number b.checkpoint_b)
    (ap has_open_gate same ∙ chose_first (has_open_gate a.checkpoint_a) (has_open_gate a.checkpoint_b) (shown_number a.checkpoint_a) (shown_number a.checkpoint_b) looked) closed)
    gate
looked_still Log a b one looked same gate = absurd one

-- no gate is open where none was, but that of a file that is closed
pub none_still : (file : File) (a b : Image) → IsOneOfTwo file → looked_at a ≡ None → file_bytes (other_file file) b ≡ file_bytes (other_file file) a
    → (file_bytes file b ≡ file_bytes file a) ⊎ (has_open_gate (file_bytes file b) ≡ false) → looked_at b ≡ None
none_still Database a b one looked same gate = absurd one
none_still CheckpointA a b one looked same gate =
    let shut = chose_none (has_open_gate a.checkpoint_a) (has_open_gate a.checkpoint_b) (shown_number a.checkpoint_a) (shown_number a.checkpoint_b) looked in
    chooses_none (has_open_gate b.checkpoint_a) (has_open_gate b.checkpoint_b) (shown_number b.checkpoint_a) (shown_number b.checkpoint_b)
    (⊎_elim (λ (stays : b.checkpoint_a ≡ a.checkpoint_a). ap has_open_gate stays ∙ shut.0) (λ (closed : has_open_gate b.checkpoint_a ≡ false). closed) gate)
    (ap has_open_gate same ∙ shut.1)
none_still CheckpointB a b one looked same gate =
    let shut = chose_none (has_open_gate a.checkpoint_a) (has_open_gate a.checkpoint_b) (shown_number a.checkpoint_a) (shown_number a.checkpoint_b) looked in
    chooses_none (has_open_gate b.checkpoint_a) (has_open_gate b.checkpoint_b) (shown_number b.checkpoint_a) (shown_number b.checkpoint_b)
    (ap has_open_gate same ∙ shut.0)
    (⊎_elim (λ (stays : b.checkpoint_b ≡ a.checkpoint_b). ap has_open_gate stays ∙ shut.1) (λ (closed : has_open_gate b.checkpoint_b ≡ false). closed) gate)
none_still Log a b one looked same gate = absurd one

-- the number of an open file other than a new one: none is open, or a smaller one
abbrev pub IsBelow : ℕ → List ℕ → Type 0
IsBelow n bytes = (has_open_gate bytes ≡ false) ⊎ ((m : ℕ) × (shown_number bytes ≡ Some m) × (m < n))

first_wins : (b : Bool) (m n : ℕ) (x y : Option ℕ) → x ≡ Some n → y ≡ Some m → m < n → chosen true b x y ≡ Some CheckpointA
first_wins false m n x y is_x is_y lt = refl
first_wins true m n x y is_x is_y lt =
    ap (λ o. Some (if is_greater o y then CheckpointB else CheckpointA)) is_x ∙ ap (λ o. Some (if is_greater (Some n) o then CheckpointB else CheckpointA)) is_y
    ∙ ap (λ b. Some (if b then CheckpointB else CheckpointA)) (le-ltb n m (omega (arith, lt)))

second_wins : (b : Bool) (m n : ℕ) (x y : Option ℕ) → x ≡ Some n → y ≡ Some m → m < n → chosen b true y x ≡ Some CheckpointB
second_wins false m n x y is_x is_y lt = refl
second_wins true m n x y is_x is_y lt =
    ap (λ o. Some (if is_greater y o then CheckpointB else CheckpointA)) is_x ∙ ap (λ o. Some (if is_greater o (Some n) then CheckpointB else CheckpointA)) is_y
    ∙ ap (λ b. Some (if b then CheckpointB else CheckpointA)) (lt-ltb m n lt)

-- an open file of a greater number is the one that is looked at
pub looked_new : (file : File) (n : ℕ) (b : Image) → IsOneOfTwo file → has_open_gate (file_bytes file b) ≡ true → shown_number (file_bytes file b) ≡ Some n
    → IsBelow n (file_bytes (other_file file) b) → looked_at b ≡ Some file
looked_new Database n b one is_open shows below = absurd one
looked_new CheckpointA n b one is_open shows below = ⊎_elim
    (λ (closed : has_open_gate b.checkpoint_b ≡ false). chooses_first (has_open_gate b.checkpoint_a) (has_open_gate b.checkpoint_b) (shown_number b.checkpoint_a) (shown_number b.checkpoint_b) is_open closed)
    (λ (lower : (m : ℕ) × (shown_number b.checkpoint_b ≡ Some m) × (m < n)).
    ap (λ g. chosen g (has_open_gate b.checkpoint_b) (shown_number b.checkpoint_a) (shown_number b.checkpoint_b)) is_open
    ∙ first_wins (has_open_gate b.checkpoint_b) lower.0 n (shown_number b.checkpoint_a) (shown_number b.checkpoint_b) shows lower.1 lower.2)
    below
looked_new CheckpointB n b one is_open shows below = ⊎_elim
    (λ (closed : has_open_gate b.checkpoint_a ≡ false). chooses_second (has_open_gate b.checkpoint_a) (has_open_gate b.checkpoint_b) (shown_number b.checkpoint_a) (shown_number b.checkpoint_b) closed is_open)
    (λ (lower : (m : ℕ) × (shown_number b.checkpoint_a ≡ Some m) × (m < n)).
    ap (λ g. chosen (has_open_gate b.checkpoint_a) g (shown_number b.checkpoint_a) (shown_number b.checkpoint_b)) is_open
    ∙ second_wins (has_open_gate b.checkpoint_a) lower.0 n (shown_number b.checkpoint_b) (shown_number b.checkpoint_a) shows lower.1 lower.2)
    below
looked_new Log n b one is_open shows below = absurd one

-- a file that is looked at shows its number
shows_number : (file : File) (bytes : List ℕ) → is_checkpoint_file file bytes ≡ true → shown_number bytes ≡ Some (number_at 8 10 bytes)
unfolding has_head
shows_number file bytes is =
    let head : has_head file bytes ≡ true = (and_parts (has_head file bytes) (has_slots bytes && has_live bytes) is).0 in
    let first : leb 54 (length bytes) ≡ true = (and_parts _ _ head).0 in
    ap (λ b. if b then Some (number_at 8 10 bytes) else None) (le-leb 18 (length bytes) (omega (arith, leb-true 54 (length bytes) first)))

not_both : (a : Image) (file : File) → looked_at a ≡ None → looked_at a ≡ Some file → ⊥
not_both a file none some = let is : None ≡ Some file = sym none ∙ some in cc

closed_other : (file : File) (a : Image) → IsOneOfTwo file → looked_at a ≡ None → has_open_gate (file_bytes (other_file file) a) ≡ false
closed_other Database a one none = absurd one
closed_other CheckpointA a one none = (chose_none (has_open_gate a.checkpoint_a) (has_open_gate a.checkpoint_b) (shown_number a.checkpoint_a) (shown_number a.checkpoint_b) none).1
closed_other CheckpointB a one none = (chose_none (has_open_gate a.checkpoint_a) (has_open_gate a.checkpoint_b) (shown_number a.checkpoint_a) (shown_number a.checkpoint_b) none).0
closed_other Log a one none = absurd one

other_one : (file : File) → IsOneOfTwo file → IsOneOfTwo (other_file file)
other_one Database one = absurd one
other_one CheckpointA one = tt
other_one CheckpointB one = tt
other_one Log one = absurd one

database_others : (file : File) (a b : Image) → IsOneOfTwo file → SameBut Database a b → file_bytes file b ≡ file_bytes file a
database_others Database a b one same = absurd one
database_others CheckpointA a b one same = ap (λ (i : Image). i.checkpoint_a) same
database_others CheckpointB a b one same = ap (λ (i : Image). i.checkpoint_b) same
database_others Log a b one same = absurd one

-- While the next checkpoint is written: the log and the standing file are the same, the slots in use say what they
-- said, and the file that is written is the same or closed.
pub record Undecided (slots : List ℕ) (file : File) (a b : Image) : Type 0 where
  pub log : b.log ≡ a.log
  pub other : file_bytes (other_file file) b ≡ file_bytes (other_file file) a
  pub says : (p : ℕ) (page : Option PageContents) → SlotSays a.database p (get_or slots p 2) page → SlotSays b.database p (get_or slots p 2) page
  pub gate : (file_bytes file b ≡ file_bytes file a) ⊎ (has_open_gate (file_bytes file b) ≡ false)

same_one : (x y : File) → Some x ≡ Some y → x ≡ y
same_one x y is = cc

-- what stands is found still
pub undecided_keeps : (standing : Standing) (a b : Image) → IsStanding standing a → Undecided standing.slots.items (file_of (standing.number + 1)) a b → KeepsCheckpoint a b
undecided_keeps standing a b stands still =
    let file = file_of (standing.number + 1) in
    let one = file_is_one (standing.number + 1) in
    record {
      log = still.log;
      new = λ is_new. record { no_gate = none_still file a b one is_new.no_gate still.other still.gate; no_log = still.log ∙ is_new.no_log };
      old = λ c pages has. ⊎_elim
          (λ (none : (standing.number ≡ 0) × IsNew a × (standing.slots.items ≡ []) × (standing.pages.items ≡ [])). absurd (not_both a (file_of c.number) none.1.no_gate has.file))
          (λ (was : (d : Contents) × HasCheckpoint a d standing.pages.items × (d.number ≡ standing.number) × (d.slots ≡ standing.slots.items)).
          let same_file : file_of c.number ≡ file_of was.0.number = same_one (file_of c.number) (file_of was.0.number) (sym has.file ∙ was.1.file) in
          let its_file : file_of c.number ≡ other_file file = same_file ∙ ap file_of was.2 ∙ sym (next_file standing.number) in
          let same : c ≡ was.0 = sym has.says ∙ ap (λ f. contents_in (file_bytes f a)) same_file ∙ was.1.says in
          let its_slots : standing.slots.items ≡ c.slots = sym was.3 ∙ sym (ap (λ (k : Contents). k.slots) same) in
          let its_bytes : file_bytes (file_of c.number) b ≡ file_bytes (file_of c.number) a = ap (λ f. file_bytes f b) its_file ∙ still.other ∙ sym (ap (λ f. file_bytes f a) its_file) in
          record {
            file = looked_still file a b one (has.file ∙ ap Some its_file) still.other still.gate ∙ ap Some (sym its_file);
            is_file = ap (λ (l : List ℕ). is_checkpoint_file (file_of c.number) l) its_bytes ∙ has.is_file;
            says = ap contents_in its_bytes ∙ has.says;
            holds = record {
              count = has.holds.count;
              each = λ p lt. subst (λ (l : List ℕ). SlotSays a.database p (get_or l p 2) (get_or pages p None) → SlotSays b.database p (get_or l p 2) (get_or pages p None)) its_slots
                  (still.says p (get_or pages p None)) (has.holds.each p lt);
            };
          })
          stands;
    }

-- the new checkpoint stands once its gate is open and its pages are in their slots
pub brings : (standing : Standing) (c : Contents) (pages : List (Option PageContents)) (a b : Image) → IsStanding standing a → IsLawful c → c.number ≡ standing.number + 1
    → file_bytes (other_file (file_of c.number)) b ≡ file_bytes (other_file (file_of c.number)) a → SaysOpenly c (file_bytes (file_of c.number) b) → HoldsPages b.database c.slots pages → HasCheckpoint b c pages
brings standing c pages a b stands lawful number other says holds =
    let file = file_of c.number in
    let bytes_are : file_bytes file b ≡ whole 1 c says.0 = says.1 in
    let other_is : other_file file ≡ file_of standing.number = ap (λ n. other_file (file_of n)) number ∙ next_file standing.number in
    let below : IsBelow c.number (file_bytes (other_file file) b) = subst (IsBelow c.number) (sym other) (⊎_elim
    (λ (none : (standing.number ≡ 0) × IsNew a × (standing.slots.items ≡ []) × (standing.pages.items ≡ [])). inl (closed_other file a (file_is_one c.number) none.1.no_gate))
    (λ (was : (d : Contents) × HasCheckpoint a d standing.pages.items × (d.number ≡ standing.number) × (d.slots ≡ standing.slots.items)).
    let at_old : file_of was.0.number ≡ other_file file = ap file_of was.2 ∙ sym other_is in
    inr (
      was.0.number,
      subst (λ f. shown_number (file_bytes f a) ≡ Some was.0.number) at_old
          (shows_number (file_of was.0.number) (file_bytes (file_of was.0.number) a) was.1.is_file ∙ ap (λ (k : Contents). Some k.number) was.1.says),
      omega (arith, number, was.2),
    ))
    stands) in
    record {
      file = looked_new file c.number b (file_is_one c.number) (ap has_open_gate bytes_are ∙ opened 1 c says.0 refl) (ap shown_number bytes_are ∙ number_shows 1 c says.0 lawful) below;
      is_file = ap (λ (l : List ℕ). is_checkpoint_file file l) bytes_are ∙ file_reads 1 c says.0 lawful;
      says = ap contents_in bytes_are ∙ contents_read 1 c says.0 lawful;
      holds = holds;
    }

-- what the slots say of the pages of the standing checkpoint
pub says_all : (standing : Standing) (a : Image) → IsStanding standing a → (p : ℕ) → SlotSays a.database p (get_or standing.slots.items p 2) (get_or standing.pages.items p None)
says_all standing a stands p = ⊎_elim
    (λ (none : (standing.number ≡ 0) × IsNew a × (standing.slots.items ≡ []) × (standing.pages.items ≡ [])).
    subst (λ (l : List ℕ). SlotSays a.database p (get_or l p 2) (get_or standing.pages.items p None)) (sym none.2)
    (subst (λ (l : List (Option PageContents)). SlotSays a.database p 2 (get_or l p None)) (sym none.3) refl))
    (λ (was : (d : Contents) × HasCheckpoint a d standing.pages.items × (d.number ≡ standing.number) × (d.slots ≡ standing.slots.items)).
    subst (λ (l : List ℕ). SlotSays a.database p (get_or l p 2) (get_or standing.pages.items p None)) was.3
    (⊎_elim (λ (lt : p < length standing.pages.items). was.1.holds.each p lt)
    (λ (ge : length standing.pages.items ≤ p).
    let no_slot : get_or was.0.slots p 2 ≡ 2 = get_or_past was.0.slots p 2 (omega (arith, was.1.holds.count, ge)) in
    subst (λ o. SlotSays a.database p (get_or was.0.slots p 2) o) (sym (get_or_past standing.pages.items p None ge)) no_slot)
    (cases_lt p (length standing.pages.items))))
    stands

-- writing pages leaves it undecided
pub spares_undecided : (slots : List ℕ) (file : File) (a b : Image) → IsOneOfTwo file → SparesSlots slots a b → Undecided slots file a b
spares_undecided slots file a b one spares = record {
  log = ap (λ (i : Image). i.log) spares.others;
  other = database_others (other_file file) a b (other_one file one) spares.others;
  says = λ p page says. says_still slots a b p page spares says;
  gate = inl (database_others file a b one spares.others);
}

-- so does writing the file until its gate is open
pub writes_undecided : (slots : List ℕ) (file : File) (a b d : Image) → IsOneOfTwo file → SparesSlots slots a b → SameRest file b d
    → (file_bytes file d ≡ file_bytes file b) ⊎ (has_open_gate (file_bytes file d) ≡ false) → Undecided slots file a d
writes_undecided slots file a b d one spares rest gate =
    let before = spares_undecided slots file a b one spares in
    record {
      log = rest.log ∙ before.log;
      other = rest.other ∙ before.other;
      says = λ p page says. subst (λ (l : List ℕ). SlotSays l p (get_or slots p 2) page) (sym rest.database) (before.says p page says);
      gate = ⊎_elim (λ (same : file_bytes file d ≡ file_bytes file b). inl (same ∙ database_others file a b one spares.others)) inr gate;
    }
