-- What each step leaves of the vault, of the crash images and of each region.
use Rattle.std.proofs.Common.{◌≡◌, ◌≢◌, ℕ, ◌≤◌, arith, Bool, true, false, List, [], ◌∷◌, Some, None, refl, ap, sym, subst, ◌∙◌, ◌⊎◌, inl, inr, ⊎_elim}
use Rattle.std.specs.Prelude.{◌==◌, ◌&&◌, slice_get, slice_set}
use Rattle.std.proofs.lemmas.Bool.{or_left, or_right, eqb-true}
use Rattle.dali_lists.proofs.Lists.{set_cases}
use Rattle.dali_lists.proofs.Tests.{right_true}
use Rattle.dali_record.specs.declared.records.Record.{Record}
use Rattle.dali_record.specs.Files.{Files}
use Rattle.dali_region.specs.declared.Side.TheVariants.{A, B}
use Rattle.dali_region.specs.State.{RegionState, touched, checked}
use Rattle.dali_runs.specs.State.{VaultState, CoreState}
use Rattle.dali_runs.specs.Regions.{RegionStep, Latch, NoteReads, Update, TakeBack, Poke, Check, Die, Clean, region_after}
use Rattle.dali_runs.specs.Flushes.{frame_of, with_frame, longer}
use Rattle.dali_runs.proofs.Deaths.{region_with, dead_at}
use Rattle.dali_runs.specs.Courses.{Step, Begins, Operates, TakesBack, Frees, Answers, Commits, Ends, AuditBegins, AuditEnds, Locks, Refuses, OnRegion, Passes, Dies, Claims, GivesBack, Recovers, Stops, Checkpoints, Takes, Flushes, Faults, ReadFails, Moment, IsStepAt, CameBy}
use Rattle.dali_runs.proofs.Flushes.{longer_flushed}
use Rattle.dali_crash.specs.Checkpoints.{answers_none, passes_region}

-- ---- the vault, and a crash image
pub record VaultGoes (m n : Moment) : Type 0 where
  pub current : n.core.vault.current ≡ m.core.vault.current
  pub flushed : m.core.vault.flushed ≤ n.core.vault.flushed
  pub runs : n.core.vault.stopped ≡ false → m.core.vault.stopped ≡ false

same_vault : (m n : Moment) (e : CoreState) → n.core ≡ e → e.vault ≡ m.core.vault → VaultGoes m n
same_vault m n e is same =
    let vault : n.core.vault ≡ m.core.vault = ap (λ (c : CoreState). c.vault) is ∙ same in
    record {
      current = ap (λ (v : VaultState). v.current) vault;
      flushed = omega (arith, ap (λ (v : VaultState). v.flushed) vault);
      runs = λ h. ap (λ (v : VaultState). v.stopped) (sym vault) ∙ h;
    }

pub longer_parts : (v : VaultState) (frame : List Record) → (longer v frame).current ≡ v.current
longer_parts v [] = refl
longer_parts v (r ∷ rs) = refl

pub vault_goes : (m n : Moment) (x : Step) → IsStepAt m x n → VaultGoes m n
vault_goes m n Begins s = same_vault m n _ s.0.1.1 refl
vault_goes m n (Operates t b) s = same_vault m n _ s.0.3.1 refl
vault_goes m n (TakesBack t b) s = same_vault m n _ s.0.2.1 refl
vault_goes m n (Frees p b) s = same_vault m n _ s.0.2.1 refl
vault_goes m n (Answers t k a) s = same_vault m n _ s.0.3.1 refl
vault_goes m n (Commits t) s = same_vault m n _ s.0.2.1 refl
vault_goes m n (Ends t) s = same_vault m n _ s.0.2.1 refl
vault_goes m n AuditBegins s = same_vault m n _ s.0.2.1 refl
vault_goes m n (AuditEnds b found) s = same_vault m n _ s.0.1.1 refl
vault_goes m n (Locks t k mode) s = same_vault m n _ s.0.2.1 refl
vault_goes m n (Refuses t k mode h) s = same_vault m n _ s.0.2.1 refl
vault_goes m n (OnRegion r x) s = same_vault m n _ s.0.3.1 refl
vault_goes m n (Passes b r) s = same_vault m n _ s.0.2.1 refl
vault_goes m n (Dies t o) s = same_vault m n _ s.0.1.1 refl
vault_goes m n (Claims t) s = same_vault m n _ s.0.2.1 refl
vault_goes m n (GivesBack t o) s = same_vault m n _ s.0.1.1 refl
vault_goes m n (Recovers r) s = same_vault m n _ s.0.3.1 refl
vault_goes m n Stops s = same_vault m n _ s.0.1.1 refl
vault_goes m n (Checkpoints b) s = same_vault m n _ s.0.1.1 refl
vault_goes m n Takes s = same_vault m n _ s.0.1 refl
vault_goes m n Flushes s = record {
  current = ap (λ (c : CoreState). c.vault.current) s.0.1.1 ∙ longer_parts m.core.vault (frame_of m.log m.core);
  flushed = omega (arith, ap (λ (c : CoreState). c.vault.flushed) s.0.1.1, longer_flushed m.core.vault (frame_of m.log m.core));
  runs = λ h. s.0.0;
}
vault_goes m n (Faults k) s = record {
  current = ap (λ (c : CoreState). c.vault.current) s.0.2.1;
  flushed = omega (arith, ap (λ (c : CoreState). c.vault.flushed) s.0.2.1);
  runs = λ h. s.0.0;
}
vault_goes m n (ReadFails k) s = record {
  current = ap (λ (c : CoreState). c.vault.current) s.0.1.1;
  flushed = omega (arith, ap (λ (c : CoreState). c.vault.flushed) s.0.1.1);
  runs = λ h. ap (λ (c : CoreState). c.vault.stopped) (sym s.0.1.1) ∙ h;
}

-- a crash image stays, or has the frame in hand
pub core_came : (L : List Record) (c : CoreState) (x : Step) (D F : Files) → CameBy L c x D F → (F ≡ D) ⊎ (F ≡ with_frame D (frame_of L c))
core_came L c Flushes D F came = inr came
core_came L c (Faults k) D F came = came
core_came L c x D F came = inl came

-- ---- each region
-- a stray write and a missed one are never forgotten; a check that answers 0 misses those that came
pub record Onward (passes : Bool) (g h : RegionState) : Type 0 where
  pub poked : g.poked ≡ true → h.poked ≡ true
  pub missed : g.missed ≡ true → h.missed ≡ true
  pub checked : passes ≡ true → g.poked ≡ true → h.missed ≡ true

pub record RegionGoes (passes : Bool) (old : List RegionState) (q : ℕ) (h : RegionState) : Type 0 where
  pub was : RegionState
  pub at : slice_get old q ≡ Some was
  pub onward : Onward passes was h

stays : (g h : RegionState) → h.poked ≡ g.poked → h.missed ≡ g.missed → Onward false g h
stays g h p m = record { poked = λ e. p ∙ e; missed = λ e. m ∙ e; checked = λ e. absurd (cc) }

unchanged : (old new : List RegionState) (q : ℕ) (h : RegionState) → new ≡ old → slice_get new q ≡ Some h → RegionGoes false old q h
unchanged old new q h same e = record { was = h; at = ap (λ rs. slice_get rs q) (sym same) ∙ e; onward = stays h h refl refl }

one_changed :
    (old new : List RegionState) (r q : ℕ) (g k h : RegionState) (passes : ℕ → Bool)
    → new ≡ slice_set old r k → slice_get old r ≡ Some g → Onward (passes r) g k → ((p : ℕ) → r ≢ p → passes p ≡ false)
    → slice_get new q ≡ Some h → RegionGoes (passes q) old q h
one_changed old new r q g k h passes is at onward others e = ⊎_elim here there (set_cases old r k q h (ap (λ rs. slice_get rs q) (sym is) ∙ e))
  where
    here : (q ≡ r) × (h ≡ k) → RegionGoes (passes q) old q h
    here w = subst (λ p. RegionGoes (passes p) old p h) (sym w.0) (record { was = g; at = at; onward = subst (Onward (passes r) g) (sym w.1) onward })

    there : (r ≢ q) × (slice_get old q ≡ Some h) → RegionGoes (passes q) old q h
    there w = record { was = h; at = w.1; onward = subst (λ b. Onward b h h) (sym (others q w.0)) (stays h h refl refl) }

never : ℕ → Bool
never q = false

touched_one : (old new : List RegionState) (r q : ℕ) (g h : RegionState) → new ≡ slice_set old r (touched g) → slice_get old r ≡ Some g → slice_get new q ≡ Some h → RegionGoes false old q h
unfolding never
touched_one old new r q g h is at e = one_changed old new r q g (touched g) h never is at (stays g (touched g) refl refl) (λ p apart. refl) e

after_check : (b : Bool) (g : RegionState) → (b ≡ true → (g.stray == 0) ≡ true) → Onward b g (checked g)
after_check b g none = record {
  poked = λ e. e;
  missed = λ e. or_left g.missed _ e;
  checked = λ passes e. or_right g.missed _ (rw e (none passes));
}

-- one of the steps that aren't a check
quiet_one : (x : RegionStep) (c : CoreState) (new : List RegionState) (r q : ℕ) (g h : RegionState) → new ≡ slice_set c.regions r (region_after x g) → slice_get c.regions r ≡ Some g → Onward false g (region_after x g) → ((p : ℕ) → passes_region c (OnRegion r x) p ≡ false) → slice_get new q ≡ Some h → RegionGoes (passes_region c (OnRegion r x) q) c.regions q h
quiet_one x c new r q g h is at onward none e = one_changed c.regions new r q g (region_after x g) h (passes_region c (OnRegion r x)) is at (subst (λ b. Onward b g (region_after x g)) (sym (none r)) onward) (λ p apart. none p) e

region_goes : (x : RegionStep) (c : CoreState) (new : List RegionState) (r q : ℕ) (g h : RegionState) → new ≡ slice_set c.regions r (region_after x g) → slice_get c.regions r ≡ Some g → slice_get new q ≡ Some h → RegionGoes (passes_region c (OnRegion r x) q) c.regions q h
region_goes (Latch t) c new r q g h is at e = quiet_one (Latch t) c new r q g h is at (stays g _ refl refl) (λ p. refl) e
region_goes (NoteReads m) c new r q g h is at e = quiet_one (NoteReads m) c new r q g h is at (stays g _ refl refl) (λ p. refl) e
region_goes (Update i v) c new r q g h is at e = quiet_one (Update i v) c new r q g h is at (stays g _ refl refl) (λ p. refl) e
region_goes TakeBack c new r q g h is at e = quiet_one TakeBack c new r q g h is at (stays g _ refl refl) (λ p. refl) e
region_goes (Poke i m) c new r q g h is at e = quiet_one (Poke i m) c new r q g h is at (record { poked = λ f. refl; missed = λ f. f; checked = λ f. absurd (cc) }) (λ p. refl) e
region_goes Die c new r q g h is at e = quiet_one Die c new r q g h is at (stays g _ refl refl) (λ p. refl) e
region_goes (Clean A) c new r q g h is at e = quiet_one (Clean A) c new r q g h is at (stays g _ refl refl) (λ p. refl) e
region_goes (Clean B) c new r q g h is at e = quiet_one (Clean B) c new r q g h is at (stays g _ refl refl) (λ p. refl) e
region_goes Check c new r q g h is at e = quiet_one Check c new r q g h is at (after_check false g (λ f. absurd (cc))) (λ p. refl) e

-- an audit passes a region
pass_goes : (c : CoreState) (new : List RegionState) (b r q : ℕ) (g h : RegionState) → new ≡ slice_set c.regions r (checked g) → slice_get c.regions r ≡ Some g → slice_get new q ≡ Some h → RegionGoes (passes_region c (Passes b r) q) c.regions q h
pass_goes c new b r q g h is at e =
    one_changed c.regions new r q g (checked g) h (passes_region c (Passes b r)) is at
    (after_check (passes_region c (Passes b r) r) g (λ passes. ap answers_none (sym at) ∙ right_true (r == r) (answers_none (slice_get c.regions r)) passes))
    (λ p apart. other p apart (p == r) refl)
    e
  where
    other : (p : ℕ) → r ≢ p → (b : Bool) → (p == r) ≡ b → (b && answers_none (slice_get c.regions r)) ≡ false
    other p apart true f = absurd (apart (sym (eqb-true p r f)))
    other p apart false f = refl

pub regions_go : (m n : Moment) (x : Step) (q : ℕ) (h : RegionState) → IsStepAt m x n → slice_get n.core.regions q ≡ Some h → RegionGoes (passes_region m.core x q) m.core.regions q h
regions_go m n Begins q h s e = unchanged m.core.regions n.core.regions q h (ap (λ (c : CoreState). c.regions) s.0.1.1) e
regions_go m n (Operates t b) q h s e = touched_one m.core.regions n.core.regions b.region q s.0.0 h (ap (λ (c : CoreState). c.regions) s.0.3.1) s.0.2.at e
regions_go m n (TakesBack t b) q h s e = touched_one m.core.regions n.core.regions b.region q s.0.0 h (ap (λ (c : CoreState). c.regions) s.0.2.1) s.0.1.at e
regions_go m n (Frees p b) q h s e = touched_one m.core.regions n.core.regions b.region q s.0.0 h (ap (λ (c : CoreState). c.regions) s.0.2.1) s.0.1.at e
regions_go m n (Answers t k a) q h s e = unchanged m.core.regions n.core.regions q h (ap (λ (c : CoreState). c.regions) s.0.3.1) e
regions_go m n (Commits t) q h s e = unchanged m.core.regions n.core.regions q h (ap (λ (c : CoreState). c.regions) s.0.2.1) e
regions_go m n (Ends t) q h s e = unchanged m.core.regions n.core.regions q h (ap (λ (c : CoreState). c.regions) s.0.2.1) e
regions_go m n AuditBegins q h s e = unchanged m.core.regions n.core.regions q h (ap (λ (c : CoreState). c.regions) s.0.2.1) e
regions_go m n (AuditEnds b found) q h s e = unchanged m.core.regions n.core.regions q h (ap (λ (c : CoreState). c.regions) s.0.1.1) e
regions_go m n (Locks t k mode) q h s e = unchanged m.core.regions n.core.regions q h (ap (λ (c : CoreState). c.regions) s.0.2.1) e
regions_go m n (Refuses t k mode o) q h s e = unchanged m.core.regions n.core.regions q h (ap (λ (c : CoreState). c.regions) s.0.2.1) e
regions_go m n (OnRegion r x) q h s e = region_goes x m.core n.core.regions r q s.0.0 h (ap (λ (c : CoreState). c.regions) s.0.3.1) s.0.1 e
regions_go m n (Passes b r) q h s e = pass_goes m.core n.core.regions b r q s.0.0 h (ap (λ (c : CoreState). c.regions) s.0.2.1) s.0.1 e
regions_go m n (Dies t None) q h s e = unchanged m.core.regions n.core.regions q h (ap (λ (c : CoreState). c.regions) s.0.1.1) e
regions_go m n (Dies t (Some r)) q h s e =
    let held = s.0.0.latched.held r refl in
    let region = region_with (slice_get m.core.regions r) held.0 held.1 in
    region_goes Die m.core n.core.regions r q region.0 h (ap (λ (c : CoreState). c.regions) s.0.1.1 ∙ dead_at m.core.regions r region.0 region.1) region.1 e
regions_go m n (Claims t) q h s e = unchanged m.core.regions n.core.regions q h (ap (λ (c : CoreState). c.regions) s.0.2.1) e
regions_go m n (GivesBack t o) q h s e = unchanged m.core.regions n.core.regions q h (ap (λ (c : CoreState). c.regions) s.0.1.1) e
regions_go m n (Recovers r) q h s e = region_goes TakeBack m.core n.core.regions r q s.0.0 h (ap (λ (c : CoreState). c.regions) s.0.3.1) s.0.1 e
regions_go m n Stops q h s e = unchanged m.core.regions n.core.regions q h (ap (λ (c : CoreState). c.regions) s.0.1.1) e
regions_go m n (Checkpoints b) q h s e = unchanged m.core.regions n.core.regions q h (ap (λ (c : CoreState). c.regions) s.0.1.1) e
regions_go m n Takes q h s e = unchanged m.core.regions n.core.regions q h (ap (λ (c : CoreState). c.regions) s.0.1) e
regions_go m n Flushes q h s e = unchanged m.core.regions n.core.regions q h (ap (λ (c : CoreState). c.regions) s.0.1.1) e
regions_go m n (Faults k) q h s e = unchanged m.core.regions n.core.regions q h (ap (λ (c : CoreState). c.regions) s.0.2.1) e
regions_go m n (ReadFails k) q h s e = unchanged m.core.regions n.core.regions q h (ap (λ (c : CoreState). c.regions) s.0.1.1) e
