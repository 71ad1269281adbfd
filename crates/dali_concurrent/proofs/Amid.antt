-- What a client amid a call may rely on.
use Rattle.std.proofs.Common.{◌≡◌, ℕ, zero, suc, Bool, true, false, List, [], ◌∷◌, ◌++◌, Option, Some, None, refl, ap, sym, subst, ◌∙◌, ⊎_elim}
use Rattle.std.specs.Prelude.{fold, ◌==◌, ◌||◌, if◌then◌else◌}
use Rattle.std.proofs.lemmas.List.{append-nil, append_assoc}
use Rattle.std.proofs.lemmas.List.Sums.{fold-append}
use Rattle.std.proofs.lemmas.Bool.{eqb-true}
use Rattle.dali_lists.proofs.Tests.{not_both_ways}
use Rattle.dali_lists.proofs.Numbers.{eqb-self}
use Rattle.dali_runs.proofs.CountsLemmas.Lists.{some_same}
use Rattle.dali_record.specs.declared.records.Record.{Record}
use Rattle.dali_record.specs.declared.records.Record.TheVariants.{Begin, Forward, Back, Solo, Done, Commit, Ended, Restarted}
use Rattle.dali_record.specs.declared.operations.Pending.{Pending}
use Rattle.dali_record.specs.Legal.{concerns}
use Rattle.dali_record.specs.Log.{undo_step, undo_added, drop_last}
use Rattle.dali_att.specs.declared.state.State.{State}
use Rattle.dali_runs.specs.State.{hold_of}
use Rattle.dali_runs.specs.Regions.{is_alive}
use Rattle.dali_transcripts.specs.World.{Deed, Logs, DiesOn, GivesBack, logged_by}
use Rattle.dali_transcripts.specs.Rounds.{is_on}
use Rattle.dali_notes.specs.History.{In, signs, IsSeen}
use Rattle.dali_concurrent.specs.Entries.{Entry, Did, Latched, Updated, Freed, Entries, At, client_note, notes_of, deeds_of, live_by, live_step, actor_by}
use Rattle.dali_concurrent.specs.Rules.{Outset, count_of, state_by, dead_in, dead_deed, dead_step, dead_by, acting_for, HoldFits, Fits, AllFit}
use Rattle.dali_concurrent.specs.Kept.{wants}
use Rattle.dali_concurrent.specs.Amid.{OwnHoldIsSeen, NoneLiveIsSeen, OwnHoldStays, DeadIsSeen, FreedStaysFree}
use Rattle.dali_concurrent.proofs.Entries.{Quiet, neither, not_signed, same_client, idle_of, not_its}
use Rattle.dali_concurrent.proofs.Fitting.{good_front, fits_next, quiet_rest}
use Rattle.dali_concurrent.proofs.Holds.{hold_is_of_actor, actor_stays}
use Rattle.dali_concurrent.proofs.Clients.{live_back}

-- ---- its holds
pub own_hold_is_seen : OwnHoldIsSeen
own_hold_is_seen o r t c seen new good is h =
    live_back r t c is.rest (live_by r seen) (idle_of (count_of o) c is.rest (quiet_rest o new (client_note (count_of o) c) seen good is))
    (sym (fold-append (live_step r) None seen is.rest) ∙ (ap (live_by r) (sym is.all) ∙ h))

pub none_live_is_seen : NoneLiveIsSeen
none_live_is_seen o t c seen new good is acts alive none r e h =
    let same : Some e ≡ Some c = sym (hold_is_of_actor o new r t e good h).1 ∙ (actor_stays o t c seen new good is acts alive).0 in
    none r c (own_hold_is_seen o r t c seen new good is (h ∙ ap (λ z. Some (t, z)) (some_same same)))

-- a region with a live hold has no dead one
live_or_dead : (o : Outset) (r : ℕ) (w : ℕ × ℕ) (R : Entries) (l : Option (ℕ × ℕ)) (d : Option ℕ) → ((v : ℕ × ℕ) → l ≡ Some v → d ≡ None) → fold (live_step r) l R ≡ Some w → fold (dead_step r) d R ≡ None
live_or_dead o r w [] l d apart h = apart w h
live_or_dead o r w (p ∷ R) l d apart h = live_or_dead o r w R (live_step r l p) (dead_step r d p) (λ v e. one p v e) h
  where
    clears : (b : Bool) (v : ℕ × ℕ) → (if b then None else l) ≡ Some v → ◌≡◌ {A = Option ℕ} (if b then None else d) None
    clears true v e = refl
    clears false v e = apart v e

    by_deed : (x : Deed) (v : ℕ × ℕ) → (if is_on r x then None else l) ≡ Some v → dead_deed r d x ≡ None
    by_deed (DiesOn t q) v e = by_test (q == r) e
      where
        by_test : (b : Bool) → (if b then None else l) ≡ Some v → (if b then Some t else d) ≡ None
        by_test true f = absurd (cc)
        by_test false f = apart v f
    by_deed (GivesBack t latched) v e = by_test (is_on r (GivesBack t latched)) e
      where
        by_test : (b : Bool) → (if b then None else l) ≡ Some v → d ≡ None
        by_test true f = absurd (cc)
        by_test false f = apart v f
    by_deed x v e = clears (is_on r x) v e

    one : (p : List ℕ × Entry) (v : ℕ × ℕ) → live_step r l p ≡ Some v → dead_step r d p ≡ None
    one (k, Did x c) v e = by_deed x v e
    one (k, Latched q t c) v e = by_test (q == r) e
      where
        by_test : (b : Bool) → (if b then Some (t, c) else l) ≡ Some v → ◌≡◌ {A = Option ℕ} (if b then None else d) None
        by_test true f = refl
        by_test false f = apart v f
    one (k, Freed q c) v e = clears (q == r) v e
    one p v e = apart v e

module _ (o : Outset) (r t c : ℕ) where
  -- no entry of others wants it
  pub unwanted : (P : Entries) (p : List ℕ × Entry) → Fits o P p → signs (client_note (count_of o) c) (notes_of (count_of o) p.1) ≡ false → live_by r P ≡ Some (t, c) → dead_by o r P ≡ None
      → wants r p.1 ≡ false
  unwanted P p f quiet live none = by_test (wants r p.1) refl
    where
      own : (e u q : ℕ) → (e == c) ≡ false → (q == r) ≡ true → live_by q P ≡ Some (u, e) → ⊥
      own e u q apart on held =
          let same : (u, e) ≡ (t, c) = some_same (sym (subst (λ z. live_by z P ≡ Some (u, e)) (eqb-true q r on) held) ∙ live) in
          not_its e c apart (ap (λ (z : ℕ × ℕ). Some z.1) same)

      no_dead : (u q : ℕ) → (q == r) ≡ true → dead_by o q P ≡ Some u → ⊥
      no_dead u q on dead =
          let empty : ◌≡◌ {A = Option ℕ} None (Some u) = sym none ∙ subst (λ z. dead_by o z P ≡ Some u) (eqb-true q r on) dead in
          absurd (cc)

      by_deed : (x : Deed) (e : ℕ) → HoldFits o P x e → (e == c) ≡ false → is_on r x ≡ true → ⊥
      by_deed (Logs (Forward u b)) e h apart on = own e u b.region apart on h
      by_deed (Logs (Back u b)) e h apart on = own e u b.region apart on h
      by_deed (Logs (Solo n u b)) e h apart on = own e u b.region apart on h
      by_deed (DiesOn u q) e h apart on = own e u q apart on h
      by_deed (GivesBack u (Some q)) e h apart on = no_dead u q on h
      by_deed x e h apart on = absurd (cc)

      by_entry : (p : List ℕ × Entry) → Fits o P p → signs (client_note (count_of o) c) (notes_of (count_of o) p.1) ≡ false → wants r p.1 ≡ true → ⊥
      by_entry (k, Did x e) f quiet on = by_deed x e f.fits.held (same_client (count_of o) e c (neither _ _ quiet).0) on
      by_entry (k, Latched q u e) f quiet on =
          let empty : ◌≡◌ {A = Option (ℕ × ℕ)} None (Some (t, c)) = sym (subst (λ z. live_by z P ≡ None) (eqb-true q r on) f.fits.free.0) ∙ live in
          absurd (cc)
      by_entry (k, Updated q e) f quiet on = own e f.fits.0 q (same_client (count_of o) e c (neither _ _ quiet).0) on f.fits.1
      by_entry (k, Freed q e) f quiet on =
          ⊎_elim (λ held. own e f.fits.txn q (same_client (count_of o) e c (neither _ _ quiet).0) on held) (λ dead. no_dead f.fits.txn q on dead) f.fits.held
      by_entry p f quiet on = absurd (cc)

      by_test : (b : Bool) → wants r p.1 ≡ b → b ≡ false
      by_test false is = refl
      by_test true is = absurd (by_entry p f quiet is)

  stays_by : (p : List ℕ × Entry) (l : Option (ℕ × ℕ)) → wants r p.1 ≡ false → live_step r l p ≡ l
  stays_by (k, Did x e) l none = ap (λ b. if b then None else l) none
  stays_by (k, Latched q u e) l none = ap (λ b. if b then Some (u, e) else l) none
  stays_by (k, Freed q e) l none = ap (λ b. if b then None else l) none
  stays_by p l none = refl

  pub no_dead_there : (A : Entries) → live_by r A ≡ Some (t, c) → dead_by o r A ≡ None
  no_dead_there A live = live_or_dead o r (t, c) A None (dead_in (hold_of o.old r)) (λ v e. absurd (cc)) live

  pub hold_on : (A : Entries) (p : List ℕ × Entry) → Fits o A p → signs (client_note (count_of o) c) (notes_of (count_of o) p.1) ≡ false → live_by r A ≡ Some (t, c) → live_by r (A ++ p ∷ []) ≡ Some (t, c)
  hold_on A p f quiet live = fold-append (live_step r) None A (p ∷ []) ∙ (stays_by p (live_by r A) (unwanted A p f quiet live (no_dead_there A live)) ∙ live)

  hold_along : (R A : Entries) → AllFit o (A ++ R) → Quiet (count_of o) (client_note (count_of o) c) R → live_by r A ≡ Some (t, c) → live_by r (A ++ R) ≡ Some (t, c)
  hold_along [] A good quiet live = ap (live_by r) (append-nil A) ∙ live
  hold_along (p ∷ R) A good quiet live =
      let moved : A ++ p ∷ R ≡ (A ++ p ∷ []) ++ R = sym (append_assoc A (p ∷ []) R) in
      ap (live_by r) moved ∙ hold_along R (A ++ p ∷ []) (subst (AllFit o) moved good) (λ i q e. quiet (suc i) q e) (hold_on A p (fits_next o A p R good) (quiet zero p refl) live)

pub own_hold_stays : OwnHoldStays
own_hold_stays o r t c seen new good is live =
    ap (live_by r) is.all ∙ hold_along o r t c is.rest seen (subst (AllFit o) is.all good) (quiet_rest o new (client_note (count_of o) c) seen good is) live

-- ---- a transaction that it acts for, along entries of others
-- the record concerns t, though it is done for another one: a solo of this number, or a restart
abbrev pub is_apart : ℕ → Record → Bool
is_apart t (Solo u p b) = u == t
is_apart t (Restarted rs ds) = true
is_apart t x = false

module _ (o : Outset) (t c : ℕ) where
  pub record Own (A : Entries) : Type 0 where
    pub acts : actor_by t A ≡ Some c
    pub alive : is_alive (state_by o A t) ≡ true

  abbrev pub note : ℕ
  note = client_note (count_of o) c

  abbrev pub Along : Entries → Entries → Type 0
  Along A [] = Unit {0}
  Along A (p ∷ R) = (Own A × Fits o A p × (signs note (notes_of (count_of o) p.1) ≡ false)) × Along (A ++ p ∷ []) R

  only_it : (p x : List ℕ × Entry) → signs note p.0 ≡ false → In (p ∷ []) x → signs note x.0 ≡ false
  only_it p x none (zero, e) = subst (λ (z : List ℕ × Entry). signs note z.0 ≡ false) (some_same e) none
  only_it p x none (suc i, e) = absurd (cc)

  pub own_on : (A : Entries) (p : List ℕ × Entry) → AllFit o (A ++ p ∷ []) → signs note p.0 ≡ false → Own A → Own (A ++ p ∷ [])
  own_on A p good unsigned own =
      let w = actor_stays o t c A (A ++ p ∷ []) good (record { rest = p ∷ []; all = refl; none = λ x w. only_it p x unsigned w }) own.acts own.alive in
      record { acts = w.0; alive = ap is_alive w.1 ∙ own.alive }

  along : (R A : Entries) → AllFit o (A ++ R) → ((x : List ℕ × Entry) → In R x → signs note x.0 ≡ false) → Own A → Along A R
  along [] A good none own = record {}
  along (p ∷ R) A good none own =
      let good_on : AllFit o ((A ++ p ∷ []) ++ R) = subst (AllFit o) (sym (append_assoc A (p ∷ []) R)) good in
      let f : Fits o A p = fits_next o A p R good in
      let unsigned : signs note p.0 ≡ false = none p (zero, refl) in (
        (own, f, not_signed note (notes_of (count_of o) p.1) p.0 (f.by note) unsigned),
        along R (A ++ p ∷ []) good_on (λ x v. none x (suc v.0, v.1)) (own_on A p (good_front o (A ++ p ∷ []) R good_on) unsigned own),
      )

  -- a deed of others isn't done for it, nor begins it
  pub not_for : (A : Entries) (k : List ℕ) (x : Deed) (e u : ℕ) → Own A → Fits o A (k, Did x e) → (e == c) ≡ false → acting_for x ≡ Some u → (u == t) ≡ false
  not_for A k x e u own f apart for_it = by_test (u == t) refl
    where
      by_test : (b : Bool) → (u == t) ≡ b → b ≡ false
      by_test false is = refl
      by_test true is = not_its e c apart (sym (f.fits.acts u for_it) ∙ (ap (λ z. actor_by z A) (eqb-true u t is) ∙ own.acts))

  not_begun : (A : Entries) (k : List ℕ) (e u : ℕ) → Own A → Fits o A (k, Did (Logs (Begin u)) e) → (u == t) ≡ false
  not_begun A k e u own f = by_test (u == t) refl
    where
      gone : (s : Option State) → is_alive s ≡ true → s ≡ None → ⊥
      gone None a g = absurd (cc)
      gone (Some s) a g = absurd (cc)

      by_test : (b : Bool) → (u == t) ≡ b → b ≡ false
      by_test false is = refl
      by_test true is = absurd (gone (state_by o A t) own.alive (subst (λ z. state_by o A z ≡ None) (eqb-true u t is) f.fits.txn.0))

  -- ---- what others log
  pub other_record : (A : Entries) (k : List ℕ) (x : Record) (e : ℕ) → Own A → Fits o A (k, Did (Logs x) e) → (e == c) ≡ false → is_apart t x ≡ false → concerns t x ≡ false
  other_record A k (Begin u) e own f apart h = not_begun A k e u own f
  other_record A k (Forward u b) e own f apart h = not_for A k (Logs (Forward u b)) e u own f apart refl
  other_record A k (Back u b) e own f apart h = not_for A k (Logs (Back u b)) e u own f apart refl
  other_record A k (Done u q a) e own f apart h = not_for A k (Logs (Done u q a)) e u own f apart refl
  other_record A k (Commit u) e own f apart h = not_for A k (Logs (Commit u)) e u own f apart refl
  other_record A k (Ended u) e own f apart h = not_for A k (Logs (Ended u)) e u own f apart refl
  other_record A k (Solo u p b) e own f apart h = ap (λ z. z || (p == t)) h ∙ not_for A k (Logs (Solo u p b)) e p own f apart refl
  other_record A k (Restarted rs ds) e own f apart h = absurd (cc)
  other_record A k x e own f apart h = refl

  undo_left : (A : Entries) (k : List ℕ) (x : Record) (e : ℕ) (us : List Pending) → Own A → Fits o A (k, Did (Logs x) e) → (e == c) ≡ false → undo_step t us x ≡ us
  undo_left A k (Forward u b) e us own f apart = ap (λ z. if z then us ++ undo_added b b.undo else us) (not_for A k (Logs (Forward u b)) e u own f apart refl)
  undo_left A k (Back u b) e us own f apart = ap (λ z. if z then drop_last us else us) (not_for A k (Logs (Back u b)) e u own f apart refl)
  undo_left A k x e us own f apart = refl

  pub undos_along : (R A : Entries) (us : List Pending) → Along A R → fold (undo_step t) us (logged_by (deeds_of R)) ≡ us
  undos_along [] A us w = refl
  undos_along ((k, Did (Logs y) d) ∷ R) A us w =
      ap (λ z. fold (undo_step t) z (logged_by (deeds_of R))) (undo_left A k y d us w.0.0 w.0.1 (same_client (count_of o) d c (neither _ _ w.0.2).0))
      ∙ undos_along R (A ++ (k, Did (Logs y) d) ∷ []) us w.1
  undos_along ((k, Did z d) ∷ R) A us w = undos_along R (A ++ (k, Did z d) ∷ []) us w.1
  undos_along (p ∷ R) A us w = undos_along R (A ++ p ∷ []) us w.1

  -- ---- dead holds
  dead_along : (r : ℕ) (R A : Entries) (s : Option ℕ) → Along A R → fold (dead_step r) s R ≡ Some t → s ≡ Some t
  dead_along r [] A s w h = h
  dead_along r (p ∷ R) A s w h = one p w.0.0 w.0.1 w.0.2 (dead_along r R (A ++ p ∷ []) (dead_step r s p) w.1 h)
    where
      by_test : (b : Bool) → (if b then None else s) ≡ Some t → s ≡ Some t
      by_test true g = absurd (cc)
      by_test false g = g

      by_deed : (x : Deed) (e : ℕ) (k : List ℕ) → Own A → Fits o A (k, Did x e) → (e == c) ≡ false → dead_deed r s x ≡ Some t → s ≡ Some t
      by_deed (DiesOn u q) e k own f apart g = dies (q == r) g
        where
          dies : (b : Bool) → (if b then Some u else s) ≡ Some t → s ≡ Some t
          dies true l = absurd (not_both_ways (subst (λ z. (u == z) ≡ true) (some_same l) (eqb-self u)) (not_for A k (DiesOn u q) e u own f apart refl))
          dies false l = l
      by_deed (GivesBack u latched) e k own f apart g = g
      by_deed x e k own f apart g = by_test (is_on r x) g

      one : (p : List ℕ × Entry) → Own A → Fits o A p → signs note (notes_of (count_of o) p.1) ≡ false → dead_step r s p ≡ Some t → s ≡ Some t
      one (k, Did x e) own f quiet g = by_deed x e k own f (same_client (count_of o) e c (neither _ _ quiet).0) g
      one (k, Latched q u e) own f quiet g = by_test (q == r) g
      one (k, Freed q e) own f quiet g = by_test (q == r) g
      one p own f quiet g = g

pub along_rest : (o : Outset) (t c : ℕ) (seen new : Entries) → AllFit o new → (is : IsSeen new (client_note (count_of o) c) seen) → actor_by t seen ≡ Some c → is_alive (state_by o seen t) ≡ true → Along o t c seen is.rest
along_rest o t c seen new good is acts alive = along o t c is.rest seen (subst (AllFit o) is.all good) is.none (record { acts = acts; alive = alive })

pub dead_is_seen : DeadIsSeen
dead_is_seen o r t c seen new good is acts alive h =
    dead_along o t c r is.rest seen (dead_by o r seen) (along_rest o t c seen new good is acts alive)
    (sym (fold-append (dead_step r) (dead_in (hold_of o.old r)) seen is.rest) ∙ (ap (dead_by o r) (sym is.all) ∙ h))

-- nobody's death on the region is told
no_death : (r t : ℕ) (B : Entries) (s : Option ℕ) → (s ≡ Some t → ⊥) → ((i : ℕ) (j : List ℕ) (d : ℕ) → At B i (j, Did (DiesOn t r) d) → ⊥) → fold (dead_step r) s B ≡ Some t → ⊥
no_death r t [] s none lives h = none h
no_death r t (p ∷ B) s none lives h = no_death r t B (dead_step r s p) (one p (λ j d e. lives zero j d e)) (λ i j d e. lives (suc i) j d e) h
  where
    by_test : (b : Bool) → (if b then None else s) ≡ Some t → ⊥
    by_test true g = absurd (cc)
    by_test false g = none g

    by_deed : (k : List ℕ) (x : Deed) (e : ℕ) → ((j : List ℕ) (d : ℕ) → ◌≡◌ {A = Option (List ℕ × Entry)} (Some (k, Did x e)) (Some (j, Did (DiesOn t r) d)) → ⊥) → dead_deed r s x ≡ Some t → ⊥
    by_deed k (DiesOn u q) e other g = dies (q == r) refl g
      where
        dies : (b : Bool) → (q == r) ≡ b → (if b then Some u else s) ≡ Some t → ⊥
        dies true is l =
            let same : u ≡ t = some_same l in
            other k e (ap (λ z. Some (k, Did (DiesOn z q) e)) same ∙ ap (λ z. Some (k, Did (DiesOn t z) e)) (eqb-true q r is))
        dies false is l = none l
    by_deed k (GivesBack u latched) e other g = none g
    by_deed k x e other g = by_test (is_on r x) g

    one : (p : List ℕ × Entry) → ((j : List ℕ) (d : ℕ) → ◌≡◌ {A = Option (List ℕ × Entry)} (Some p) (Some (j, Did (DiesOn t r) d)) → ⊥) → dead_step r s p ≡ Some t → ⊥
    one (k, Did x e) other g = by_deed k x e other g
    one (k, Latched q u e) other g = by_test (q == r) g
    one (k, Freed q e) other g = by_test (q == r) g
    one p other g = none g

pub freed_stays_free : FreedStaysFree
freed_stays_free o r t c k A B new good is acts alive lives h =
    no_death r t B (dead_step r (dead_by o r A) (k, Freed r c)) (freed (r == r) (eqb-self r) (dead_by o r A)) lives
    (sym (fold-append (dead_step r) (dead_in (hold_of o.old r)) A ((k, Freed r c) ∷ B)) ∙ dead_is_seen o r t c (A ++ (k, Freed r c) ∷ B) new good is acts alive h)
  where
    freed : (b : Bool) → b ≡ true → (s : Option ℕ) → (if b then None else s) ≡ Some t → ⊥
    freed true is s g = absurd (cc)
    freed false is s g = absurd (cc)
