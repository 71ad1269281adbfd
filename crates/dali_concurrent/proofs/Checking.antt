-- What entries of others leave of a checkpoint.
use Rattle.std.proofs.Common.{◌≡◌, ℕ, zero, suc, Bool, true, false, List, [], ◌∷◌, ◌++◌, length, Option, Some, None, refl, ap, sym, subst, ◌∙◌, ⊎_elim}
use Rattle.std.specs.Prelude.{◌||◌, fold, slice_get}
use Rattle.std.proofs.lemmas.List.{append-nil, append_assoc, map-append}
use Rattle.std.proofs.lemmas.List.Elements.{filter_map-append}
use Rattle.std.proofs.lemmas.List.Sums.{fold-append}
use Rattle.dali_lists.proofs.Lists.{get_behind}
use Rattle.dali_lists.proofs.Numbers.{eqb-self}
use Rattle.dali_lists.proofs.Options.{some_same}
use Rattle.dali_lists.proofs.Tests.{not_both_ways}
use Rattle.dali_runs.specs.Run.{Bases}
use Rattle.dali_runs.specs.Courses.{Flushes, Faults, ReadFails}
use Rattle.dali_crash.specs.Checkpoints.{StoreStep, Does, Starts, Keeps, Copies, Skips, WritesHead, Syncs, Turns, CopyFails, HeadFails, SyncFails, TurnFails, Finishes, Point}
use Rattle.dali_transcripts.specs.World.{Deed, Logs, Strays, DiesOn, Claims, GivesBack, GetsLock, Yields, FindsDead, StartsCheckpoint, MovesAnchor, EndsCheckpoint, Meets, Happening, span_step, under_way}
use Rattle.dali_transcripts.specs.Rounds.{AreSpans}
use Rattle.dali_notes.specs.History.{signs}
use Rattle.dali_concurrent.specs.Entries.{Entry, Did, Latched, Updated, Freed, Passed, Took, Flushed, Kept, Copied, Wrote, Entries, vault_note, client_note, values_of, notes_of, deed_in, deeds_of}
use Rattle.dali_concurrent.specs.Rules.{Outset, count_of}
use Rattle.dali_concurrent.specs.Told.{Line, History, plain, plain_one}
use Rattle.dali_concurrent.specs.Kept.{are_core_steps, is_silent, Follows, AllFollow}
use Rattle.dali_concurrent.specs.Stages.{stage_by, AreCoreSteps, IsBehind}
use Rattle.dali_concurrent.specs.Calls.{is_still, is_calm, AreStill}
use Rattle.dali_concurrent.specs.Checking.{StageSees, CalmSees}
use Rattle.dali_concurrent.proofs.Lists.{take_length}
use Rattle.dali_concurrent.proofs.Stages.{stage_stays}

-- ---- spans, one list behind the other
spans_behind : (o : Option ℕ) (xs ys : List Happening) → AreSpans o (xs ++ ys) → AreSpans (fold span_step o xs) ys
spans_behind o [] ys s = s
spans_behind o ((StartsCheckpoint, c) ∷ xs) ys s = spans_behind (Some c) xs ys s.1
spans_behind o ((EndsCheckpoint, c) ∷ xs) ys s = spans_behind None xs ys s.1
spans_behind o ((Logs r, c) ∷ xs) ys s = spans_behind o xs ys s
spans_behind o ((Strays r w m, c) ∷ xs) ys s = spans_behind o xs ys s
spans_behind o ((DiesOn t r, c) ∷ xs) ys s = spans_behind o xs ys s
spans_behind o ((Claims t, c) ∷ xs) ys s = spans_behind o xs ys s
spans_behind o ((GivesBack t l, c) ∷ xs) ys s = spans_behind o xs ys s
spans_behind o ((GetsLock t k m, c) ∷ xs) ys s = spans_behind o xs ys s
spans_behind o ((Yields f, c) ∷ xs) ys s = spans_behind o xs ys s
spans_behind o ((FindsDead f, c) ∷ xs) ys s = spans_behind o xs ys s
spans_behind o ((MovesAnchor n, c) ∷ xs) ys s = spans_behind o xs ys s
spans_behind o ((Meets why, c) ∷ xs) ys s = spans_behind o xs ys s

clash : {A : Type 0} (b : Bool) → b ≡ true → b ≡ false → A
clash b e f = absurd (not_both_ways e f)

-- who does a deed signs it
does_sign : (n c : ℕ) (x : Deed) → signs (client_note n c) (notes_of n (Did x c)) ≡ true
does_sign n c x = ap (λ b. b || signs (client_note n c) (values_of x)) (eqb-self (client_note n c))

-- ---- an entry that the client hasn't signed leaves its checkpoint under way
entry_leaves : (n c : ℕ) (ks : List ℕ) (e : Entry) (P : Entries) → ((k : ℕ) → signs k (notes_of n e) ≡ true → signs k ks ≡ true) → signs (client_note n c) ks ≡ false
    → AreSpans (Some c) (deeds_of ((ks, e) ∷ P)) → (fold span_step (Some c) (deeds_of ((ks, e) ∷ [])) ≡ Some c) × AreSpans (Some c) (deeds_of P)
entry_leaves n c ks (Did StartsCheckpoint d) P by mine s = absurd (cc)
entry_leaves n c ks (Did EndsCheckpoint d) P by mine s =
    let same : c ≡ d = some_same s.0 in
    clash (signs (client_note n c) ks) (subst (λ z. signs (client_note n z) ks ≡ true) (sym same) (by (client_note n d) (does_sign n d EndsCheckpoint))) mine
entry_leaves n c ks (Did (Logs r) d) P by mine s = (refl, s)
entry_leaves n c ks (Did (Strays r w m) d) P by mine s = (refl, s)
entry_leaves n c ks (Did (DiesOn t r) d) P by mine s = (refl, s)
entry_leaves n c ks (Did (Claims t) d) P by mine s = (refl, s)
entry_leaves n c ks (Did (GivesBack t l) d) P by mine s = (refl, s)
entry_leaves n c ks (Did (GetsLock t k m) d) P by mine s = (refl, s)
entry_leaves n c ks (Did (Yields f) d) P by mine s = (refl, s)
entry_leaves n c ks (Did (FindsDead f) d) P by mine s = (refl, s)
entry_leaves n c ks (Did (MovesAnchor m) d) P by mine s = (refl, s)
entry_leaves n c ks (Did (Meets why) d) P by mine s = (refl, s)
entry_leaves n c ks (Latched r t d) P by mine s = (refl, s)
entry_leaves n c ks (Updated r d) P by mine s = (refl, s)
entry_leaves n c ks (Freed r d) P by mine s = (refl, s)
entry_leaves n c ks (Passed r b right) P by mine s = (refl, s)
entry_leaves n c ks Took P by mine s = (refl, s)
entry_leaves n c ks Flushed P by mine s = (refl, s)
entry_leaves n c ks Kept P by mine s = (refl, s)
entry_leaves n c ks (Copied r) P by mine s = (refl, s)
entry_leaves n c ks Wrote P by mine s = (refl, s)

starts_none : (c d : ℕ) (ks : List ℕ) (e : Entry) (P : Entries) → AreSpans (Some c) (deeds_of ((ks, e) ∷ P)) → e ≡ Did StartsCheckpoint d → ⊥
starts_none c d ks e P s is =
    let t : AreSpans (Some c) (deeds_of ((ks, Did StartsCheckpoint d) ∷ P)) = subst (λ z. AreSpans (Some c) (deeds_of ((ks, z) ∷ P))) is s in absurd (no t.0)
  where
    no : Some c ≡ None → ⊥
    no f = absurd (cc)

deeds_with : (S : History) (e : Line) → under_way (deeds_of (plain (S ++ e ∷ []))) ≡ fold span_step (under_way (deeds_of (plain S))) (deeds_of (plain_one e ∷ []))
deeds_with S e =
    ap (λ P. under_way (deeds_of P)) (map-append plain_one S (e ∷ []))
    ∙ (ap under_way (filter_map-append deed_in (plain S) (plain_one e ∷ [])) ∙ fold-append span_step None (deeds_of (plain S)) (deeds_of (plain_one e ∷ [])))

module _ (bases : Bases) (p : Point) (o : Outset) where
  follows_at : (S : History) (e : Line) (R : History) → AllFollow bases p o (S ++ e ∷ R) → Follows bases p o S e
  follows_at S e R all = subst (λ Z. Follows bases p o Z e) (take_length S (e ∷ R)) (all (length S) e (get_behind S e R))

  along : (c : ℕ) (R S : History) → AllFollow bases p o (S ++ R) → ((i : ℕ) (e : Line) → slice_get R i ≡ Some e → signs (client_note (count_of o) c) e.0 ≡ false)
      → under_way (deeds_of (plain S)) ≡ Some c → AreSpans (Some c) (deeds_of (plain R)) → (under_way (deeds_of (plain (S ++ R))) ≡ Some c) × AreCoreSteps R
  along c [] S all none way s = (ap (λ Z. under_way (deeds_of (plain Z))) (append-nil S) ∙ way, λ i e at. absurd (cc))
  along c (e ∷ R) S all none way s =
      let moved : S ++ e ∷ R ≡ (S ++ e ∷ []) ++ R = sym (append_assoc S (e ∷ []) R) in
      let mine : signs (client_note (count_of o) c) e.0 ≡ false = none zero e refl in
      let one = entry_leaves (count_of o) c e.0 e.1.0 (plain R) (follows_at S e R all).fits.by mine s in
      let next : under_way (deeds_of (plain (S ++ e ∷ []))) ≡ Some c = deeds_with S e ∙ (ap (λ u. fold span_step u (deeds_of (plain_one e ∷ []))) way ∙ one.0) in
      let rest = along c R (S ++ e ∷ []) (subst (AllFollow bases p o) moved all) (λ i x at. none (suc i) x at) next one.1 in
      (ap (λ Z. under_way (deeds_of (plain Z))) moved ∙ rest.0, each rest.1)
    where
      core : (b : Bool) → are_core_steps e.1.2 ≡ b → b ≡ true
      core true f = refl
      core false f =
          let w = (follows_at S e R all).checks f in
          ⊎_elim
          (λ starts. absurd (starts_none c w.0 e.0 e.1.0 (plain R) s starts))
          (λ its. let same : c ≡ w.0 = some_same (sym way ∙ its) in clash (signs (client_note (count_of o) c) e.0) (subst (λ z. signs (client_note (count_of o) z) e.0 ≡ true) (sym same) w.1) (none zero e refl))
          w.2

      each : AreCoreSteps R → AreCoreSteps (e ∷ R)
      each rest zero x at = subst (λ (z : Line). are_core_steps z.1.2 ≡ true) (some_same at) (core (are_core_steps e.1.2) refl)
      each rest (suc i) x at = rest i x at

  still_silent : (x : StoreStep) → is_silent x ≡ true → is_still x ≡ true
  still_silent (Does Flushes) h = absurd (cc)
  still_silent (Does (Faults n)) h = absurd (cc)
  still_silent (Does (ReadFails n)) h = absurd (cc)
  still_silent (Does x) h = refl
  still_silent Starts h = refl
  still_silent Keeps h = absurd (cc)
  still_silent (Skips r n) h = absurd (cc)
  still_silent Finishes h = refl
  still_silent (Copies r n) h = absurd (cc)
  still_silent (WritesHead g) h = absurd (cc)
  still_silent Syncs h = absurd (cc)
  still_silent Turns h = absurd (cc)
  still_silent (CopyFails r ws n) h = absurd (cc)
  still_silent (HeadFails g n) h = absurd (cc)
  still_silent (SyncFails n) h = absurd (cc)
  still_silent (TurnFails n) h = absurd (cc)

  pub still_rest : (R S : History) → AllFollow bases p o (S ++ R) → ((i : ℕ) (e : Line) → slice_get R i ≡ Some e → signs vault_note e.0 ≡ false) → AreStill R
  still_rest [] S all none i e at = absurd (cc)
  still_rest (e ∷ R) S all none zero x at = λ j y there.
      still_silent y ((follows_at S e R all).silent (none zero e refl) j y (ap (λ (z : Line). slice_get z.1.2 j) (some_same at) ∙ there))
  still_rest (e ∷ R) S all none (suc i) x at = still_rest R (S ++ e ∷ []) (subst (AllFollow bases p o) (sym (append_assoc S (e ∷ []) R)) all) (λ k y f. none (suc k) y f) i x at

pub stage_sees : StageSees
stage_sees bases p o seen new q c at all is way =
    let told : AreSpans None (deeds_of (plain new)) = at.tells.together.spans in
    let split : deeds_of (plain new) ≡ deeds_of (plain seen) ++ deeds_of (plain is.rest) = ap (λ T. deeds_of (plain T)) is.all ∙ (ap deeds_of (map-append plain_one seen is.rest) ∙ filter_map-append deed_in (plain seen) (plain is.rest)) in
    let rest : AreSpans (Some c) (deeds_of (plain is.rest)) =
    subst (λ u. AreSpans u (deeds_of (plain is.rest))) way (spans_behind None (deeds_of (plain seen)) (deeds_of (plain is.rest)) (subst (AreSpans None) split told)) in
    let w = along bases p o c is.rest seen (subst (AllFollow bases p o) is.all all) (λ i e f. is.none e (i, f)) way rest in (
      ap (λ T. under_way (deeds_of (plain T))) is.all ∙ w.0,
      subst (λ T. IsBehind (stage_by o seen) (stage_by o T)) (sym is.all) (stage_stays o seen is.rest w.1),
      w.1,
    )

-- a step of the core that calls no store
calm_step : (xs : List StoreStep) (j : ℕ) (x : StoreStep) → are_core_steps xs ≡ true → slice_get xs j ≡ Some x → is_still x ≡ true → is_calm x ≡ true
calm_step [] j x core at still = absurd (cc)
calm_step (Does y ∷ xs) zero x core at still = let same : Does y ≡ x = some_same at in subst (λ z. is_calm z ≡ true) same (subst (λ z. is_still z ≡ true) (sym same) still)
calm_step (Does y ∷ xs) (suc j) x core at still = calm_step xs j x core at still
calm_step (Starts ∷ xs) j x core at still = absurd (cc)
calm_step (Keeps ∷ xs) j x core at still = absurd (cc)
calm_step (Copies r n ∷ xs) j x core at still = absurd (cc)
calm_step (Skips r n ∷ xs) j x core at still = absurd (cc)
calm_step (WritesHead g ∷ xs) j x core at still = absurd (cc)
calm_step (Syncs ∷ xs) j x core at still = absurd (cc)
calm_step (Turns ∷ xs) j x core at still = absurd (cc)
calm_step (CopyFails r ws n ∷ xs) j x core at still = absurd (cc)
calm_step (HeadFails g n ∷ xs) j x core at still = absurd (cc)
calm_step (SyncFails n ∷ xs) j x core at still = absurd (cc)
calm_step (TurnFails n ∷ xs) j x core at still = absurd (cc)
calm_step (Finishes ∷ xs) j x core at still = absurd (cc)

pub calm_sees : CalmSees
calm_sees bases p o seen new all is core i e at j x there =
    calm_step e.1.2 j x (core i e at) there (still_rest bases p o is.rest seen (subst (AllFollow bases p o) is.all all) (λ k y f. is.none y (k, f)) i e at j x there)
