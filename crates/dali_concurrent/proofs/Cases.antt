-- Deeds of a round, each by what the value under the lock gives.
use Rattle.std.proofs.Common.{◌≡◌, ℕ, zero, suc, Bool, true, false, List, [], ◌∷◌, ◌++◌, length, Option, Some, None, refl, ap, sym, subst, ◌∙◌, inl, inr, ⊎_elim}
use Rattle.std.specs.Prelude.{IsSome, slice_get, ◌==◌}
use Rattle.std.proofs.lemmas.List.{take-append-le}
use Rattle.std.proofs.lemmas.Bool.{eqb-true}
use Rattle.dali_lists.proofs.Numbers.{eqb-self}
use Rattle.dali_runs.proofs.CountsLemmas.Lists.{some_same}
use Rattle.dali_record.specs.declared.records.Record.TheVariants.{Begin, Forward, Done, Commit, Ended, Solo, AuditBegin, Back}
use Rattle.dali_region.specs.State.{RegionState, taken_back, dead}
use Rattle.dali_att.specs.declared.state.State.{State}
use Rattle.dali_att.specs.declared.state.State.TheVariants.{Dead, Cleaning}
use Rattle.dali_runs.specs.State.{TxnRow, SystemState, CoreState, state_in, state_of, hold_of, hold_in}
use Rattle.dali_runs.specs.Regions.{Poke}
use Rattle.dali_runs.specs.Courses.{Begins, Operates, TakesBack, Frees, Answers, Commits, Ends, AuditBegins, Locks, Refuses, Dies, Claims, GivesBack, Recovers, Takes}
use Rattle.dali_runs.specs.Keeps.{with_system, MayAdd, IsFree, Latches, MayGiveBack, died}
use Rattle.dali_runs.proofs.Deaths.{dead_at}
use Rattle.dali_runs.specs.Steps.{begun, op_logged, back_logged, solo_logged, done_logged, commit_logged, ended_logged, audit_begun, granted, refused, in_state, taken}
use Rattle.dali_crash.specs.Checkpoints.{Point}
use Rattle.dali_transcripts.specs.World.{Deed, Logs, Strays, DiesOn, Claims as ClaimsTxn, GivesBack as GivesTxnBack, GetsLock, Yields, FindsDead, Happening, World, stray_after}
use Rattle.dali_transcripts.specs.Rounds.{HasLooked}
use Rattle.dali_transcripts.specs.Grown.{world_of}
use Rattle.dali_locks.specs.declared.mode.LockAnswer.TheVariants.{Granted}
use Rattle.dali_locks.specs.Locks.{IsAnswer}
use Rattle.dali_transcripts.specs.Telling.Deeds.{HasLookedFor, refusal_at, refusal_now}
use Rattle.dali_transcripts.specs.Telling.Tells.{AreRightThen}
use Rattle.dali_concurrent.specs.Landing.{who_in, Stands}
use Rattle.dali_concurrent.specs.Entries.{Did, Took, deeds_of}
use Rattle.dali_concurrent.specs.Rules.{log_by, DeedFits}
use Rattle.dali_concurrent.specs.Told.{OnRegion, OnSystem, OnBoth, effect_on, plain, core_told, world_told}
use Rattle.dali_concurrent.specs.Cases.{BeginsLand, AnswersLand, CommitsLand, ClaimsLand, AuditBeginsLand, GrantsLand, YieldsLand, StraysLand, OperatesLand, TakesBackLand, FreesLand, EndsLand, DiesLand, GivesBackLand, RecoversLand, TakesLand, LookIsMade}
use Rattle.dali_concurrent.proofs.Landing.{step_lands}
use Rattle.dali_concurrent.proofs.Sorts.{halts_told, none_said, system_lands, both_land, region_lands, record_is_right, grant_is_right, claim_is_right}
use Rattle.dali_concurrent.proofs.Holds.{live_is, told_live, told_dead, dead_there}
use Rattle.dali_concurrent.proofs.Looks.{look_is}

some_row : (row : Option TxnRow) (s : State) → state_in row ≡ Some s → IsSome row
some_row None s e = absurd (cc)
some_row (Some row) s e = refl

pub begins_land : BeginsLand
begins_land bases p o T ks c y is room =
    system_lands bases p o T ks (Did (Logs (Begin y.next)) c) Begins (log_by o (plain T) ++ Begin y.next ∷ []) y (begun y) is refl (room, (refl, refl))
    (λ q core. ap (λ (z : SystemState). Logs (Begin z.next) ∷ []) (is ∙ ap (λ (k : CoreState). k.system) (sym core)))
    (λ q at. record_is_right bases p o T q c (Begin y.next) (core_told o T) at (ap (λ (z : SystemState). z.stop) (sym is) ∙ room.runs))

pub answers_land : AnswersLand
answers_land bases p o T ks c t k a y is room spelled may =
    system_lands bases p o T ks (Did (Logs (Done t k a)) c) (Answers t k a) (log_by o (plain T) ++ Done t k a ∷ []) y (done_logged y t k a) is refl (room, spelled, may, (refl, refl))
    (λ q core. refl)
    (λ q at. record_is_right bases p o T q c (Done t k a) (core_told o T) at (ap (λ (z : SystemState). z.stop) (sym is) ∙ room.runs))

pub grants_land : GrantsLand
grants_land bases p o T ks c t k m y is runs lives free =
    system_lands bases p o T ks (Did (GetsLock t k m) c) (Locks t k m) (log_by o (plain T)) y (granted y t k m) is refl (some_row _ _ lives, free, (refl, refl))
    (λ q core. inr refl)
    (λ q at. right q at)
  where
    right : (q : Point) → Stands bases p o T q → AreRightThen (world_told o T) c (GetsLock t k m ∷ []) (effect_on (core_told o T) (OnSystem (granted y t k m)))
    right q at = grant_is_right bases p o T q c t k m (effect_on (core_told o T) (OnSystem (granted y t k m))) at (ap (λ (z : SystemState). z.stop) (sym is) ∙ runs) (ap (λ z. state_of z t) (sym is) ∙ lives) (subst (λ (z : SystemState). IsAnswer z.locks t k m Granted) is free)

pub yields_land : YieldsLand
yields_land bases p o T ks c t k h m y x is row busy one right =
    system_lands bases p o T ks (Did x c) (Refuses t k m h) (log_by o (plain T)) y (refused y t k m h) is refl (row, busy, (refl, refl))
    (λ q core.
    let same : refusal_at y t k m h ≡ refusal_now q.core t k m h = ap (λ z. refusal_at z t k m h) (is ∙ ap (λ (k : CoreState). k.system) (sym core)) in
    ⊎_elim (λ e. inl (ap (λ d. d ∷ []) e ∙ ap (λ f. Yields f ∷ []) same)) (λ e. inr (ap (λ d. d ∷ []) e ∙ ap (λ f. FindsDead f ∷ []) same)) one)
    right

pub strays_land : StraysLand
strays_land bases p o T ks c r word mask g there low some fits =
    region_lands bases p o T ks (Did (Strays r word mask) c) r (Poke word mask) g there refl (low, some, fits) tt (λ q core. refl) (λ q at. (tt, tt))

pub operates_land : OperatesLand
operates_land bases p o T ks c t b y g is there room may looked =
    both_land bases p o T ks (Did (Logs (Forward t b)) c) (Operates t b) b (log_by o (plain T) ++ Forward t b ∷ []) y (op_logged y t b) g is there refl (room, may, (refl, refl))
    (λ q core. (refl, looked))
    (λ q at. record_is_right bases p o T q c (Forward t b) (core_told o T) at (ap (λ (z : SystemState). z.stop) (sym is) ∙ room.runs))

pub takes_land : TakesLand
takes_land bases p o T ks y is = system_lands bases p o T ks Took Takes (log_by o (plain T)) y (taken y) is refl (refl, refl) (λ q core. refl) (λ q at. tt)

pub commits_land : CommitsLand
commits_land bases p o T ks c t y is runs may =
    system_lands bases p o T ks (Did (Logs (Commit t)) c) (Commits t) (log_by o (plain T) ++ Commit t ∷ []) y (commit_logged y t) is refl (runs, may, (refl, refl))
    (λ q core. refl)
    (λ q at. record_is_right bases p o T q c (Commit t) (core_told o T) at (ap (λ (z : SystemState). z.stop) (sym is) ∙ runs))

pub claims_land : ClaimsLand
claims_land bases p o T ks c t latched y is dead_now =
    system_lands bases p o T ks (Did (ClaimsTxn t) c) (Claims t) (log_by o (plain T)) y (in_state y t (Cleaning latched)) is refl (latched, dead_now, (refl, refl))
    (λ q core. refl)
    (λ q at. claim_is_right bases p o T q c t latched (core_told o T) at (ap (λ (z : SystemState). state_of z t) (sym is) ∙ dead_now))

pub audit_begins_land : AuditBeginsLand
audit_begins_land bases p o T ks c y is runs room =
    system_lands bases p o T ks (Did (Logs AuditBegin) c) AuditBegins (log_by o (plain T) ++ AuditBegin ∷ []) y (audit_begun y) is refl (runs, room, (refl, refl))
    (λ q core. refl)
    (λ q at. record_is_right bases p o T q c AuditBegin (core_told o T) at (ap (λ (z : SystemState). z.stop) (sym is) ∙ runs))

pub takes_back_land : TakesBackLand
takes_back_land bases p o T ks c t b y g is there may =
    both_land bases p o T ks (Did (Logs (Back t b)) c) (TakesBack t b) b (log_by o (plain T) ++ Back t b ∷ []) y (back_logged y t b) g is there refl (may, (refl, refl))
    (λ q core. refl)
    (λ q at. (tt, tt))

pub frees_land : FreesLand
frees_land bases p o T ks c t b y g is there may =
    both_land bases p o T ks (Did (Logs (Solo y.next t b)) c) (Frees t b) b (log_by o (plain T) ++ Solo y.next t b ∷ []) y (solo_logged y t b) g is there refl (may, (refl, refl))
    (λ q core. ap (λ (z : SystemState). Logs (Solo z.next t b) ∷ []) (is ∙ ap (λ (k : CoreState). k.system) (sym core)))
    (λ q at. (tt, tt))

pub ends_land : EndsLand
ends_land bases p o T ks c t y is runs may led none_live none_dead = step_lands bases p o T ks (Did (Logs (Ended t)) c) (OnSystem (ended_logged y t)) (Ends t) (λ q at. record {
  other = refl;
  log = log_by o (plain T) ++ Ended t ∷ [];
  step = (ap (λ (z : SystemState). z.stop) (sym is) ∙ runs, (subst (λ z. MayAdd (log_by o (plain T)) z t (Ended t)) is may, free), (refl, ap (λ z. with_system (core_told o T) (ended_logged z t)) is));
  audits = q.audits;
  passes = refl;
  are = refl;
  right = record_is_right bases p o T q c (Ended t) (core_told o T) at (ap (λ (z : SystemState). z.stop) (sym is) ∙ runs);
  halts = λ h. subst (λ (z : SystemState). IsSome z.stop) (sym is) (halts_told bases p o T q at h);
})
  where
    free : IsFree (core_told o T) t
    free r h there = by_test (h.txn == t) refl
      where
        none : h.txn ≡ t → (b : Bool) → h.dead ≡ b → ⊥
        none same false e = none_live r (told_live bases p o T led r h there e).0 ((told_live bases p o T led r h there e).1 ∙ ap (λ z. Some (z, (told_live bases p o T led r h there e).0)) same)
        none same true e = let w = told_dead bases p o T led r h there e in none_dead r w.0 (w.1 ∙ ap Some same)

        by_test : (b : Bool) → (h.txn == t) ≡ b → b ≡ false
        by_test false e = refl
        by_test true e = absurd (none (eqb-true h.txn t e) h.dead refl)

pub dies_land : DiesLand
dies_land bases p o T ks c t r y g is there lives held led only looked = step_lands bases p o T ks (Did (DiesOn t r) c) (OnBoth r (dead g) (in_state y t (Dead (Some r)))) (Dies t (Some r)) (λ q at. record {
  other = refl;
  log = log_by o (plain T);
  step = (record { lives = ap (λ (z : SystemState). state_of z t) (sym is) ∙ lives; latched = latched }, (refl, died_is));
  audits = q.audits;
  passes = refl;
  are = (refl, looked);
  right = (tt, tt);
  halts = λ h. subst (λ (z : SystemState). IsSome z.stop) (sym is) (halts_told bases p o T q at h);
})
  where
    latched : Latches (core_told o T) t false (Some r)
    latched = record {
      held = λ q e.
          let same : r ≡ q = some_same e in
          let h = live_is g.hold t held in
          (h.0, subst (λ z. hold_of (core_told o T) z ≡ Some h.0) same (ap hold_in there ∙ h.1), h.2, h.3);
      only = λ q h at own live. let w = told_live bases p o T led q h at live in ap Some (only q w.0 (w.1 ∙ ap (λ z. Some (z, w.0)) own));
    }

    died_is : effect_on (core_told o T) (OnBoth r (dead g) (in_state y t (Dead (Some r)))) ≡ died (core_told o T) t (Some r)
    died_is =
        ap (λ z. effect_on (core_told o T) (OnBoth r (dead g) (in_state z t (Dead (Some r))))) is
        ∙ ap (λ l. record { regions = l; system = in_state (core_told o T).system t (Dead (Some r)); vault = (core_told o T).vault }) (sym (dead_at (core_told o T).regions r g there))

pub gives_back_land : GivesBackLand
gives_back_land bases p o T ks c t was latched y is claimed led none_live named only right = step_lands bases p o T ks (Did (GivesTxnBack t latched) c) (OnSystem (in_state y t (Dead latched))) (GivesBack t latched) (λ q at. record {
  other = refl;
  log = log_by o (plain T);
  step = (may, (refl, ap (λ z. with_system (core_told o T) (in_state z t (Dead latched))) is));
  audits = q.audits;
  passes = refl;
  are = refl;
  right = right q at;
  halts = λ h. subst (λ (z : SystemState). IsSome z.stop) (sym is) (halts_told bases p o T q at h);
})
  where
    may : MayGiveBack (core_told o T) t latched
    may = record {
      was = was;
      claimed = ap (λ (z : SystemState). state_of z t) (sym is) ∙ claimed;
      left = record {
        held = λ r e. dead_there bases p o T led r t (named r e).0 (named r e).1;
        only = λ r h at own is_dead. let w = told_dead bases p o T led r h at is_dead in only r w.0 (w.1 ∙ ap Some own);
      };
      idle = record {
        held = λ r e. absurd (cc);
        only = λ r h at own live. let w = told_live bases p o T led r h at live in absurd (none_live r w.0 (w.1 ∙ ap (λ z. Some (z, w.0)) own));
      };
    }

pub recovers_land : RecoversLand
recovers_land bases p o T ks e r g tie there may = step_lands bases p o T ks e (OnRegion r (taken_back g)) (Recovers r) (λ q at. record {
  other = refl;
  log = log_by o (plain T);
  step = (g, there, may, (refl, refl));
  audits = q.audits;
  passes = refl;
  are = none_said e tie;
  right = subst (λ ds. AreRightThen (world_told o T) (who_in e) ds (effect_on (core_told o T) (OnRegion r (taken_back g)))) (sym (none_said e tie)) tt;
  halts = halts_told bases p o T q at;
})

-- ---- looks
front_at : {X : Type 0} (xs ys : List X) (i : ℕ) (x : X) → slice_get xs i ≡ Some x → slice_get (xs ++ ys) i ≡ Some x
front_at [] ys i x e = absurd (cc)
front_at (z ∷ xs) ys zero x e = e
front_at (z ∷ xs) ys (suc i) x e = front_at xs ys i x e

looked_before : (w : World) (d : CoreState) (xs : List Happening) (z : Happening) (c r : ℕ) (g : RegionState)
    → HasLooked (world_of w.old w.before w.precheck (xs ++ z ∷ []) d) c (length xs) r g → HasLooked (world_of w.old w.before w.precheck xs d) c (length xs) r g
looked_before w d xs z c r g look = record {
  place = look.place;
  before = look.before;
  right = ap (stray_after r g.stray) (sym (take-append-le look.place xs (z ∷ []) look.before)) ∙ look.right;
  held = λ k e y from below there. look.held k e y from below (front_at xs (z ∷ []) k (y, e) there);
}

pub look_is_made : LookIsMade
look_is_made o T c x good fits = by_kind x fits
  where
    by_kind : (x : Deed) → DeedFits o (plain T) x c → HasLookedFor (world_told o T) c x
    by_kind (Logs (Forward t b)) fits = λ check g was.
        looked_before (world_told o T) (core_told o T) (deeds_of (plain T)) (Logs (Forward t b), c) c b.region g
        (look_is o (core_told o T) (plain T) (Logs (Forward t b)) c b.region g good fits (eqb-self b.region) was check)
    by_kind (DiesOn t r) fits = λ check g was.
        looked_before (world_told o T) (core_told o T) (deeds_of (plain T)) (DiesOn t r, c) c r g
        (look_is o (core_told o T) (plain T) (DiesOn t r) c r g good fits (eqb-self r) was check)
    by_kind x fits = λ check. tt
