-- Steps of a transaction's own that call no store, in the midst of a step of its client, and the deeds that tell them: those of the records that they log.
use Rattle.std.proofs.Common.{◌≡◌, ℕ, Bool, true, false, not, List, [], ◌∷◌, ◌++◌, length, map, Option, Some, None, IfSome, is_some, option_map, refl, ap, sym, subst, ◌∙◌, inl, arith}
use Rattle.std.specs.Prelude.{◌==◌, IsSomeAnd, fold, slice_get, take}
use Rattle.std.specs.List.{list_all}
use Rattle.std.proofs.lemmas.List.{append-nil, append_assoc, map-append, take_all}
use Rattle.std.proofs.lemmas.List.Sums.{fold-append}
use Rattle.std.proofs.lemmas.Bool.{and_from}
use Rattle.dali_runs.proofs.CountsLemmas.Lists.{equal, some_same}
use Rattle.dali_record.specs.declared.records.Record.{Record}
use Rattle.dali_record.specs.declared.records.Record.TheVariants.{Forward, Back, Solo}
use Rattle.dali_region.specs.State.{RegionState}
use Rattle.dali_store.specs.Store.{Files as Disk}
use Rattle.dali_store.specs.declared.store.Store.{Ghosts}
use Rattle.dali_runs.specs.Run.{Bases}
use Rattle.dali_runs.specs.State.{SystemState, VaultState, CoreState}
use Rattle.dali_runs.specs.Regions.{RegionStep, Latch, NoteReads, Update, TakeBack, Poke, Check, Die, Clean}
use Rattle.dali_runs.specs.Passes.{Audits as PassAudits}
use Rattle.dali_runs.specs.Flushes.{frame_of}
use Rattle.dali_runs.specs.Courses.{Step, Operates, TakesBack, Frees, Answers, Commits, Ends, AuditBegins, AuditEnds, Locks, OnRegion, Passes, IsStep, AuditsBy}
use Rattle.dali_runs.proofs.PartsLemmas.Vaults.{step_has_vault}
use Rattle.dali_crash.specs.Checkpoints.{StoreStep, Does, Point, IsPointStep, IsPointCourse, is_of_checkpoint, copies_after}
use Rattle.dali_crash.specs.Traces.{Start, bases_of}
use Rattle.dali_core.specs.Vault.Vaulted.{Vaulted}
use Rattle.dali_calls.specs.Operating.{IsOwn}
use Rattle.dali_calls.specs.Others.{is_apart}
use Rattle.dali_calls.specs.Single.Single.{IsOwnStep, Look, look_behind, IsRightOn, LooksRight, LeadsFrom, Leads, is_end}
use Rattle.dali_calls.proofs.StepwiseLemmas.Waiting.{own_apart}
use Rattle.dali_core.specs.Steps.Courses.{is_quiet, calls_none}
use Rattle.dali_core.proofs.StepsLemmas.Courses.{came_same, vault_same, both_true}
use Rattle.dali_core.proofs.StepsLemmas.Steps.{quiet_goes}
use Rattle.dali_clean.specs.Cleaned.{AreDead}
use Rattle.dali_core.specs.Cores.{IsCoreAt, HoldsPlaces}
use Rattle.dali_transcripts.specs.World.{Deed, Logs, World, stray_step, stray_after}
use Rattle.dali_transcripts.specs.Rounds.{by, WasRight}
use Rattle.dali_transcripts.proofs.Looks.{at_once_tells}
use Rattle.dali_transcripts.specs.Telling.Deeds.{HasLookedFor, AreOf}
use Rattle.dali_transcripts.specs.Telling.Tells.{after, AreRightThen, Tells}
use Rattle.dali_transcripts.specs.Telling.Laws.{AreOfCourse}
use Rattle.dali_turns.specs.declared.client.State.{State}
use Rattle.dali_turns.specs.Stood.{IsQuiet, Stood}
use Rattle.dali_turns.specs.Fits.{Owns}
use Rattle.dali_turns.specs.Others.{ImageStays}
use Rattle.dali_turns.proofs.Beside.{is_in_audit, is_beside, is_out_of, step_image, image_still, image_then}
use Rattle.dali_turns.proofs.Refusals.{runs_there}
use Rattle.dali_turns.proofs.Sides.{At, at_next}
use Rattle.dali_turns.proofs.Doing.{Did}
use Rattle.dali_turns.proofs.Coursing.{did_course}

-- the point behind a step that passes no region
abbrev pub point_behind : Point → Step → List Record → CoreState → Point
point_behind p x K e = record p { log = K; core = e; copies = copies_after p.core x p.copies }

-- ---- steps of a transaction's own
-- one that logs a record is told by it, every other one by none
abbrev own_deeds : SystemState → Step → List Deed
own_deeds y (Operates t b) = Logs (Forward t b) ∷ []
own_deeds y (TakesBack t b) = Logs (Back t b) ∷ []
own_deeds y (Frees t b) = Logs (Solo y.next t b) ∷ []
own_deeds y x = []

abbrev logged_of : SystemState → Step → List Record
logged_of y (Operates t b) = Forward t b ∷ []
logged_of y (TakesBack t b) = Back t b ∷ []
logged_of y (Frees t b) = Solo y.next t b ∷ []
logged_of y x = []

pub record OwnStep (L : List Record) (c : CoreState) (x : Step) (M : List Record) (d : CoreState) : Type 0 where
  pub quiet : is_quiet x ≡ true
  pub log : M ≡ L ++ logged_of c.system x
  pub taken : d.system.taken ≡ c.system.taken
  pub out : (b : ℕ) → is_in_audit b x ≡ false
  pub vault : d.vault ≡ c.vault
  pub stop : d.system.stop ≡ c.system.stop

no_region : (o : Option RegionState) → IsSomeAnd o (λ g. ⊥) → ⊥
no_region None h = absurd h
no_region (Some g) h = h

-- none is a stray write, an audit's or a checkpoint's
on_own : (t r : ℕ) (x : RegionStep) (L : List Record) (c : CoreState) (M : List Record) (d : CoreState) → IsStep L c (OnRegion r x) M d → IsSomeAnd (slice_get c.regions r) (IsOwn t x) → OwnStep L c (OnRegion r x) M d
on_own t r (Latch u) L c M d st own = record { quiet = refl; log = st.3.0 ∙ sym (append-nil L); taken = ap (λ (k : CoreState). k.system.taken) st.3.1; out = λ b. refl; vault = ap (λ (z : CoreState). z.vault) st.3.1; stop = ap (λ (z : CoreState). z.system.stop) st.3.1 }
on_own t r (NoteReads mask) L c M d st own = record { quiet = refl; log = st.3.0 ∙ sym (append-nil L); taken = ap (λ (k : CoreState). k.system.taken) st.3.1; out = λ b. refl; vault = ap (λ (z : CoreState). z.vault) st.3.1; stop = ap (λ (z : CoreState). z.system.stop) st.3.1 }
on_own t r (Update word value) L c M d st own = record { quiet = refl; log = st.3.0 ∙ sym (append-nil L); taken = ap (λ (k : CoreState). k.system.taken) st.3.1; out = λ b. refl; vault = ap (λ (z : CoreState). z.vault) st.3.1; stop = ap (λ (z : CoreState). z.system.stop) st.3.1 }
on_own t r TakeBack L c M d st own = record { quiet = refl; log = st.3.0 ∙ sym (append-nil L); taken = ap (λ (k : CoreState). k.system.taken) st.3.1; out = λ b. refl; vault = ap (λ (z : CoreState). z.vault) st.3.1; stop = ap (λ (z : CoreState). z.system.stop) st.3.1 }
on_own t r (Poke word mask) L c M d st own = absurd (no_region (slice_get c.regions r) own)
on_own t r Check L c M d st own = absurd (no_region (slice_get c.regions r) own)
on_own t r Die L c M d st own = absurd (no_region (slice_get c.regions r) own)
on_own t r (Clean side) L c M d st own = absurd (no_region (slice_get c.regions r) own)

own_step : (t : ℕ) (L : List Record) (c : CoreState) (x : Step) (M : List Record) (d : CoreState) → IsStep L c x M d → IsOwnStep t c x → is_end x ≡ false → OwnStep L c x M d
own_step t L c (Operates u b) M d st own e = record { quiet = refl; log = st.3.0; taken = ap (λ (k : CoreState). k.system.taken) st.3.1; out = λ b. refl; vault = ap (λ (z : CoreState). z.vault) st.3.1; stop = ap (λ (z : CoreState). z.system.stop) st.3.1 }
own_step t L c (TakesBack u b) M d st own e = record { quiet = refl; log = st.2.0; taken = ap (λ (k : CoreState). k.system.taken) st.2.1; out = λ b. refl; vault = ap (λ (z : CoreState). z.vault) st.2.1; stop = ap (λ (z : CoreState). z.system.stop) st.2.1 }
own_step t L c (Frees u b) M d st own e = record { quiet = refl; log = st.2.0; taken = ap (λ (k : CoreState). k.system.taken) st.2.1; out = λ b. refl; vault = ap (λ (z : CoreState). z.vault) st.2.1; stop = ap (λ (z : CoreState). z.system.stop) st.2.1 }
own_step t L c (Locks u k m) M d st own e = record { quiet = refl; log = st.2.0 ∙ sym (append-nil L); taken = ap (λ (z : CoreState). z.system.taken) st.2.1; out = λ b. refl; vault = ap (λ (z : CoreState). z.vault) st.2.1; stop = ap (λ (z : CoreState). z.system.stop) st.2.1 }
own_step t L c (OnRegion r x) M d st own e = on_own t r x L c M d st own
own_step t L c (Answers u k a) M d st own e = absurd (cc)
own_step t L c (Commits u) M d st own e = absurd (cc)
own_step t L c (Ends u) M d st own e = absurd (cc)
own_step t L c x M d st own e = absurd own

-- ---- looks
-- where the last look found its region undamaged, no stray write came to it since
abbrev StillRight : World → Look → Type 0
StillRight w o = (r : ℕ) (g : RegionState) → o ≡ Some (r, g) → g.stray ≡ 0 → (g0 : RegionState) → slice_get w.old.regions r ≡ Some g0 → WasRight w (length w.happened) r g0

logs_stray : (r c : ℕ) (rs : List Record) (s : ℕ) → fold (stray_step r) s (by c (map Logs rs)) ≡ s
logs_stray r c [] s = refl
logs_stray r c (x ∷ xs) s = logs_stray r c xs s

right_on : (w : World) (c : ℕ) (rs : List Record) (e : CoreState) (r s : ℕ) → stray_after r s w.happened ≡ 0 → stray_after r s (take (length (w.happened ++ by c (map Logs rs))) (w.happened ++ by c (map Logs rs))) ≡ 0
right_on w c rs e r s now =
    let all = w.happened ++ by c (map Logs rs) in
    ap (stray_after r s) (take_all (length all) all (omega arith)) ∙ (fold-append (stray_step r) s w.happened (by c (map Logs rs)) ∙ (logs_stray r c rs (stray_after r s w.happened) ∙ now))

still_on : (w : World) (c : ℕ) (rs : List Record) (e : CoreState) (o : Look) → StillRight w o → StillRight (after w c (map Logs rs) e) o
still_on w c rs e o still r g there clean g0 was =
    right_on w c rs e r g0.stray (ap (stray_after r g0.stray) (sym (take_all (length w.happened) w.happened (omega arith))) ∙ still r g there clean g0 was)

found_now : (w : World) (c : ℕ) (p : Point) (e : CoreState) (r : ℕ) (s : Option RegionState) → Tells w p → slice_get p.core.regions r ≡ s → StillRight (after w c [] e) (option_map (λ (g : RegionState). (r, g)) s)
found_now w c p e r None told at q g there clean g0 was = absurd (cc)
found_now w c p e r (Some h) told at q g there clean g0 was =
    let pair : (r, h) ≡ (q, g) = some_same there in
    let here : slice_get w.core.regions q ≡ Some h = ap (λ (k : CoreState). slice_get k.regions q) told.core ∙ (ap (slice_get p.core.regions) (sym (ap (λ (l : ℕ × RegionState). l.0) pair)) ∙ at) in
    right_on w c [] e q g0.stray (sym (told.together.pokes q g0 h was here).0 ∙ (ap (λ (l : ℕ × RegionState). l.1.stray) pair ∙ clean))

still_region : (w : World) (c : ℕ) (p : Point) (e : CoreState) (o : Look) (r : ℕ) (x : RegionStep) → Tells w p → StillRight w o → StillRight (after w c [] e) (look_behind p.core (OnRegion r x) o)
still_region w c p e o r (Latch u) told still = found_now w c p e r (slice_get p.core.regions r) told refl
still_region w c p e o r _ told still = still_on w c [] e o still

still_behind : (w : World) (c : ℕ) (p : Point) (e : CoreState) (o : Look) (x : Step) → Tells w p → StillRight w o → StillRight (after w c (map Logs (logged_of p.core.system x)) e) (look_behind p.core x o)
still_behind w c p e o (OnRegion r x) told still = still_region w c p e o r x told still
still_behind w c p e o x told still = still_on w c (logged_of p.core.system x) e o still

-- so its client has looked
abbrev Asks : World → ℕ → Step → Type 0
Asks w c (Operates u b) = HasLookedFor w c (Logs (Forward u b))
Asks w c x = Unit {0}

right_at : (w : World) (o : Look) (r : ℕ) → StillRight w o → IsRightOn r o → (g0 : RegionState) → slice_get w.old.regions r ≡ Some g0 → WasRight w (length w.happened) r g0
right_at w None r still found = absurd found
right_at w (Some l) r still found = subst (λ n. (g0 : RegionState) → slice_get w.old.regions n ≡ Some g0 → WasRight w (length w.happened) n g0) found.0 (still l.0 l.1 refl found.1)

asks_now : (precheck : Bool) (w : World) (c : ℕ) (o : Look) (x : Step) → w.precheck ≡ precheck → StillRight w o → LooksRight precheck o x → Asks w c x
asks_now precheck w c o (Operates u b) same still looks = λ on. at_once_tells.one w c (Logs (Forward u b)) (right_at w o b.region still (looks (sym same ∙ on)))
asks_now precheck w c o _ same still looks = tt

-- ---- the deeds that tell it
on_told : (t r : ℕ) (x : RegionStep) (w : World) (c : ℕ) (p : Point) → IsSomeAnd (slice_get p.core.regions r) (IsOwn t x) → AreOf w c p (Does (OnRegion r x)) []
on_told t r (Poke word mask) w c p own = absurd (no_region (slice_get p.core.regions r) own)
on_told t r _ w c p own = refl

own_told : (t : ℕ) (x : Step) (w : World) (c : ℕ) (p : Point) → Asks w c x → IsOwnStep t p.core x → is_end x ≡ false → AreOf w c p (Does x) (map Logs (logged_of p.core.system x))
own_told t (Operates u b) w c p looked own e = (refl, looked)
own_told t (TakesBack u b) w c p looked own e = refl
own_told t (Frees u b) w c p looked own e = refl
own_told t (Locks u k m) w c p looked own e = inl refl
own_told t (OnRegion r x) w c p looked own e = on_told t r x w c p own
own_told t (Answers u k a) w c p looked own e = absurd (cc)
own_told t (Commits u) w c p looked own e = absurd (cc)
own_told t (Ends u) w c p looked own e = absurd (cc)
own_told t x w c p looked own e = absurd own

audits_same : (t : ℕ) (A : PassAudits) (L : List Record) (c : CoreState) (x : Step) → IsOwnStep t c x → AuditsBy A A L c x
audits_same t A L c AuditBegins own = absurd own
audits_same t A L c (AuditEnds b found) own = absurd own
audits_same t A L c (Passes b r) own = absurd own
audits_same t A L c _ own = refl

other_of : (t u : ℕ) (state : State) → ((n : ℕ) → t ≡ n → Owns state n) → (Owns state u → ⊥) → (t == u) ≡ false
other_of t u state owns other = by_test (t == u) refl
  where
    by_test : (b : Bool) → (t == u) ≡ b → (t == u) ≡ false
    by_test true e = absurd (other (owns u (equal t u e)))
    by_test false e = e

-- the record of such a step has what it asks for: an operation is made while the engine runs
records_right : (bases : Bases) (before : List Record) (w : World) (c : ℕ) (p : Point) (at : At bases before w p) (stops : p.core.vault.stopped ≡ true → is_some p.core.system.stop ≡ true) (x : Step) (K : List Record) (e : CoreState)
    → IsStep p.log p.core x K e → is_end x ≡ false → AreRightThen w c (map Logs (logged_of p.core.system x)) e
records_right bases before w c p at stops (Operates t b) K e step not_end = (runs_there bases before w c p at.run at.tells stops (Logs (Forward t b)) e step.1.runs, tt)
records_right bases before w c p at stops (TakesBack t b) K e step not_end = (tt, tt)
records_right bases before w c p at stops (Frees t b) K e step not_end = (tt, tt)
records_right bases before w c p at stops (Answers t k a) K e step not_end = absurd (cc)
records_right bases before w c p at stops (Commits t) K e step not_end = absurd (cc)
records_right bases before w c p at stops (Ends t) K e step not_end = absurd (cc)
records_right bases before w c p at stops x K e step not_end = tt

-- ---- lists of them
module _ {V : Type 0} (means : Ghosts V) where
  -- they lead from the point p to where log and core are these, and are told by the records that they log
  pub record Led (t : ℕ) (s : Start) (B : List (List Record)) (p : Point) (w : World) (c : ℕ) (gs : List RegionState) (y : SystemState) (v : Vaulted V) (M : List Record) (d : CoreState) : Type 0 where
    pub own : List Record
    pub log : M ≡ p.log ++ own
    pub to : Point
    pub log_there : to.log ≡ M
    pub core_there : to.core ≡ d
    pub steps : List StoreStep
    pub course : IsPointCourse p steps to
    pub are : AreOfCourse w c p steps to (map Logs own)
    pub at : IsCoreAt means s B to d.regions d.system v
    pub image : ImageStays means s B p gs y v B to d.regions d.system v
    pub beside : (u : ℕ) → (t == u) ≡ false → list_all (is_beside u) steps ≡ true
    pub out : (b : ℕ) → list_all (is_out_of b) steps ≡ true

  module _ (precheck : Bool) (t c : ℕ) (s : Start) (B : List (List Record)) (v : Vaulted V) where
    module _ (x : Step) (p : Point) (w : World) (gs : List RegionState) (y : SystemState) (K : List Record) (e : CoreState) (here : IsCoreAt means s B p gs y v) (same : w.precheck ≡ precheck)
        (step : IsStep p.log p.core x K e) (own : IsOwnStep t p.core x) (not_end : is_end x ≡ false) (o : Look) (looks : LooksRight precheck o x) (still : StillRight w o)
        (at : At (bases_of s) s.log w p) (stops : p.core.vault.stopped ≡ true → is_some p.core.system.stop ≡ true) where
      abbrev these : List Deed
      these = map Logs (logged_of p.core.system x)

      told_here : AreOf w c p (Does x) these
      told_here = own_told t x w c p (asks_now precheck w c o x same still looks) own not_end

      is : OwnStep p.log p.core x K e
      is = own_step t p.log p.core x K e step own not_end

      calm : (is_of_checkpoint x ≡ false) × (calls_none x ≡ true)
      calm = both_true (is_of_checkpoint x) (calls_none x) is.quiet

      point_step : IsPointStep p (Does x) (point_behind p x K e)
      point_step = (calm.0, (step, audits_same t p.audits p.log p.core x own), refl)

      at_behind : IsCoreAt means s B (point_behind p x K e) e.regions e.system v
      at_behind = record {
        regions = refl;
        system = refl;
        vault = quiet_goes means s B p (point_behind p x K e) (Does x) v here.vault point_step refl (came_same p.log p.core x calm.1)
            (vault_same (frame_of p.log p.core) p.core.vault e.vault x calm.1 (step_has_vault p.log K p.core e x step));
        none_in_hand = λ up. here.none_in_hand up ∙ (ap (λ (z : SystemState). z.taken) (sym here.system) ∙ sym is.taken);
      }

      right_there : AreRightThen w c these e
      right_there = records_right (bases_of s) s.log w c p at stops x K e step not_end

      at_there : At (bases_of s) s.log (after w c these e) (point_behind p x K e)
      at_there = at_next (bases_of s) s.log c w p (point_behind p x K e) x these at point_step told_here right_there

      stops_there : e.vault.stopped ≡ true → is_some e.system.stop ≡ true
      stops_there failed = ap is_some is.stop ∙ stops (ap (λ (z : VaultState). z.stopped) (sym is.vault) ∙ failed)

      led_more : (M : List Record) (d : CoreState) → Led t s B (point_behind p x K e) (after w c these e) c e.regions e.system v M d → Led t s B p w c gs y v M d
      led_more M d rest = record {
        own = logged_of p.core.system x ++ rest.own;
        log = rest.log ∙ (ap (λ l. l ++ rest.own) is.log ∙ append_assoc p.log (logged_of p.core.system x) rest.own);
        to = rest.to;
        log_there = rest.log_there;
        core_there = rest.core_there;
        steps = Does x ∷ rest.steps;
        course = (point_behind p x K e, point_step, rest.course);
        are = (point_behind p x K e, these, map Logs rest.own, point_step, told_here, right_there, rest.are, map-append Logs (logged_of p.core.system x) rest.own);
        at = rest.at;
        image = image_then means s B B B p (point_behind p x K e) rest.to gs e.regions d.regions y e.system d.system v v v (λ r. r)
            (step_image means s B p (point_behind p x K e) x gs y v is.quiet point_step is.taken here.system) rest.image;
        beside = λ u other. and_from (is_apart u x) (list_all (is_beside u) rest.steps) (own_apart u t p.core x other own) (rest.beside u other);
        out = λ b. and_from (not (is_in_audit b x)) (list_all (is_out_of b) rest.steps) (ap not (is.out b)) (rest.out b);
      }

    led_from : (xs : List Step) (p : Point) (w : World) (gs : List RegionState) (y : SystemState) (M : List Record) (d : CoreState) (o : Look) → StillRight w o → IsCoreAt means s B p gs y v → w.precheck ≡ precheck
        → At (bases_of s) s.log w p → (p.core.vault.stopped ≡ true → is_some p.core.system.stop ≡ true) → LeadsFrom precheck t o p.log p.core xs M d → Led t s B p w c gs y v M d
    led_from [] p w gs y M d o still here same at stops leads = record {
      own = [];
      log = sym leads.0 ∙ sym (append-nil p.log);
      to = p;
      log_there = leads.0;
      core_there = leads.1;
      steps = [];
      course = refl;
      are = (refl, refl);
      at = record {
        regions = ap (λ (k : CoreState). k.regions) leads.1;
        system = ap (λ (k : CoreState). k.system) leads.1;
        vault = here.vault;
        none_in_hand = λ up. here.none_in_hand up ∙ ap (λ (z : SystemState). z.taken) (sym here.system ∙ ap (λ (k : CoreState). k.system) leads.1);
      };
      image = subst (λ (k : CoreState). ImageStays means s B p gs y v B p k.regions k.system v) leads.1
          (subst (λ (rs : List RegionState). ImageStays means s B p gs y v B p rs p.core.system v) (sym here.regions)
          (subst (λ (z : SystemState). ImageStays means s B p gs y v B p gs z v) (sym here.system) (image_still means s B p gs y v)));
      beside = λ u other. refl;
      out = λ b. refl;
    }
    led_from (x ∷ xs) p w gs y M d o still here same at stops (K, e, (step, own, not_end, looks), leads) =
        led_more x p w gs y K e here same step own not_end o looks still at stops M d
        (led_from xs (point_behind p x K e) (after w c (map Logs (logged_of p.core.system x)) e) e.regions e.system M d (look_behind p.core x o) (still_behind w c p e o x at.tells still)
        (at_behind x p w gs y K e here same step own not_end o looks still at stops) same (at_there x p w gs y K e here same step own not_end o looks still at stops)
        (stops_there x p w gs y K e here same step own not_end o looks still at stops) leads)

    pub led : (xs : List Step) (p : Point) (w : World) (gs : List RegionState) (y : SystemState) (M : List Record) (d : CoreState) → IsCoreAt means s B p gs y v → w.precheck ≡ precheck
        → At (bases_of s) s.log w p → (p.core.vault.stopped ≡ true → is_some p.core.system.stop ≡ true) → Leads precheck t p.log p.core xs M d → Led t s B p w c gs y v M d
    led xs p w gs y M d here same at stops leads = led_from xs p w gs y M d None (λ r g e. absurd (cc)) here same at stops leads

  -- ---- a step of the client that ends there
  module _ (precheck : Bool) (t : ℕ) (state : State) (owns : (n : ℕ) → t ≡ n → Owns state n) (s : Start) (B : List (List Record)) (p : Point) (w : World) (c : ℕ) (gs : List RegionState) (y : SystemState) (v : Vaulted V)
      (stood : Stood means s B p w precheck gs y v) where
    pub did_led : (ds : List Deed) (M : List Record) (d : CoreState) → (l : Led t s B p w c gs y v M d) → map Logs l.own ≡ ds → AreDead d.regions → IfSome (means.told v.store) (HoldsPlaces d.regions)
        → IsQuiet d.system → (is_some y.stop ≡ true → is_some d.system.stop ≡ true) → Did means precheck s B p w c state gs y v ds B l.to d.regions d.system v
    did_led ds M d l same dead places quiet stop =
        did_course means precheck s B p w gs y v stood c state l.steps ds B l.to d.regions d.system v l.course (subst (λ es. AreOfCourse w c p l.steps l.to es) same l.are) l.at dead
        places quiet (λ e. stop (stood.stops e))
        (λ u lives other. l.beside u (other_of t u state owns other)) (λ b other. l.out b) (λ flag other. l.image)
