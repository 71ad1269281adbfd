-- What audits have passed stays true with each step, and a pass adds what it found.
use Rattle.std.proofs.Common.{◌≡◌, ℕ, suc, zero, ◌+◌, ◌-◌, ◌<◌, ◌≤◌, ◌^◌, ◌⊎◌, Bool, true, false, cond, List, [], ◌∷◌, ◌++◌, length, Option, Some, None, refl, ap, sym, subst, ◌∙◌, inl, inr, ⊎_elim, arith}
use Rattle.std.specs.Prelude.{◌==◌, ◌||◌, slice_get, slice_set, min}
use Rattle.std.specs.Option.{option_map_or}
use Rattle.std.proofs.lemmas.Bool.{or_parts, eqb-true}
use Rattle.std.proofs.lemmas.List.{length_push}
use Rattle.dali_lists.proofs.Lists.{set_cases, EachFrom, each_same, each_set}
use Rattle.dali_lists.proofs.Numbers.{eqb-self}
use Rattle.dali_lists.proofs.Options.{some_same}
use Rattle.dali_record.specs.declared.records.Record.{Record}
use Rattle.dali_record.specs.Epochs.{Epoch, last_epoch, next_number}
use Rattle.dali_record.proofs.Ends.{get_push_cases}
use Rattle.dali_record.proofs.Batches.{number_is_length}
use Rattle.dali_region.specs.State.{RegionState, touched, checked, dead}
use Rattle.dali_runs.proofs.CountsLemmas.SmallLogs.{is_small}
use Rattle.dali_runs.specs.State.{CoreState}
use Rattle.dali_runs.specs.Run.{Bases, RunsOn, base_at, RegionRun}
use Rattle.dali_runs.specs.Regions.{RegionStep, region_after, Latch, NoteReads, Update, TakeBack, Poke, Check, Die, Clean}
use Rattle.dali_region.specs.declared.Side.TheVariants.{A, B}
use Rattle.dali_runs.specs.Keeps.{dead_in}
use Rattle.dali_runs.specs.Audits.{Certifies}
use Rattle.dali_runs.specs.Passes.{Pass, Audits, no_audits, audits_with, is_pass_of, has_passed, MayPass, PassTells, AuditsRun}
use Rattle.dali_runs.specs.Courses.{pass_now}
use Rattle.dali_runs.proofs.OneMore.{is_inside, one_more, last_epoch-push}
use Rattle.dali_runs.proofs.OneMoreTouch.{blocks_few}
use Rattle.dali_runs.proofs.AuditSteps.{pass_certifies, pass_finds, certifies_stays}

-- ---- what a step leaves of a region
pub record IsLater (old new : RegionState) : Type 0 where
  pub sound : old.sound ≤ new.sound
  pub missed : new.missed ≡ false → old.missed ≡ false
  pub poked : old.poked ≡ true → new.poked ≡ true

as_it_was : (g : RegionState) → IsLater g g
as_it_was g = record { sound = omega arith; missed = λ e. e; poked = λ e. e }

pub later_all : (gs : List RegionState) → EachFrom IsLater gs gs
later_all gs = each_same IsLater gs as_it_was

pub later_one : (gs : List RegionState) (r : ℕ) (g h : RegionState) → slice_get gs r ≡ Some g → IsLater g h → EachFrom IsLater gs (slice_set gs r h)
later_one gs r g h at later = each_set IsLater gs r g h as_it_was at later

pub check_later : (g : RegionState) → IsLater g (checked g)
check_later g = record { sound = omega arith; missed = λ e. (or_parts g.missed _ e).0; poked = λ e. e }

pub after_later : (x : RegionStep) (g : RegionState) → IsLater g (region_after x g)
after_later (Latch t) g = record { sound = omega arith; missed = λ e. e; poked = λ e. e }
after_later (NoteReads m) g = record { sound = omega arith; missed = λ e. e; poked = λ e. e }
after_later (Update i v) g = record { sound = omega arith; missed = λ e. e; poked = λ e. e }
after_later TakeBack g = record { sound = omega arith; missed = λ e. e; poked = λ e. e }
after_later (Poke i m) g = record { sound = omega arith; missed = λ e. e; poked = λ e. refl }
after_later Check g = check_later g
after_later Die g = record { sound = omega arith; missed = λ e. e; poked = λ e. e }
after_later (Clean A) g = record { sound = omega arith; missed = λ e. e; poked = λ e. e }
after_later (Clean B) g = record { sound = omega arith; missed = λ e. e; poked = λ e. e }

pub death_later : (gs : List RegionState) (o : Option ℕ) → EachFrom IsLater gs (dead_in gs o)
death_later gs None = later_all gs
death_later gs (Some r) = at_death (slice_get gs r) refl
  where
    at_death : (o : Option RegionState) → slice_get gs r ≡ o → EachFrom IsLater gs (option_map_or (λ (g : RegionState). slice_set gs r (dead g)) o gs)
    at_death None e = later_all gs
    at_death (Some g) e = later_one gs r g (dead g) e (record { sound = omega arith; missed = λ e. e; poked = λ e. e })

counts_up : (p : Bool) (n : ℕ) → n < 2 ^ 40 → n ≤ cond p n (min (n + 1) (2 ^ 64 - 1))
counts_up true n h = omega arith
counts_up false n h = omega (arith, h)

-- an operation is done, in a region of a run
pub touch_later : (bases : Bases) (L : List Record) (c : CoreState) (r : ℕ) (g : RegionState) → RunsOn bases L c → slice_get c.regions r ≡ Some g → IsLater g (touched g)
touch_later bases L c r g run at = record { sound = counts_up g.poked g.sound few; missed = λ e. e; poked = λ e. e }
  where
    here : RegionRun (base_at bases L) (last_epoch L) r g
    here = run.regions r g at

    few : g.sound < 2 ^ 40
    few = omega (arith, here.protected.within, here.touches, blocks_few r 0 (last_epoch L).records, is_small c.system.sizes L run.log.legal, number_is_length L)

-- ---- what was told stays
-- the log is left, or has one record more
abbrev pub Longer : List Record → List Record → Type 0
Longer L M = (M ≡ L) ⊎ ((x : Record) × (is_inside x ≡ true) × (M ≡ L ++ x ∷ []))

certifies_later : (e : Epoch) (b r : ℕ) (g h : RegionState) → IsLater g h → Certifies e b r g → Certifies e b r h
certifies_later e b r g h later was none = omega (arith, was (later.missed none), later.sound)

tells_later : (L M : List Record) (b : ℕ) (p : Pass) (g h : RegionState) → Longer L M → b ≤ next_number (last_epoch L) → IsLater g h → PassTells (last_epoch L) b p g → PassTells (last_epoch M) b p h
tells_later L M b p g h (inl same) within later tells = record {
  certifies = λ e. subst (λ (K : List Record). Certifies (last_epoch K) b p.region h) (sym same) (certifies_later (last_epoch L) b p.region g h later (tells.certifies e));
  finds = λ e. later.poked (tells.finds e);
}
tells_later L M b p g h (inr more) within later tells = record {
  certifies = λ e. subst (λ (d : Epoch). Certifies d b p.region h) (sym (ap last_epoch more.2 ∙ last_epoch-push L more.0 more.1)) (certifies_stays (last_epoch L) more.0 b p.region g h within (tells.certifies e) later.sound later.missed);
  finds = λ e. later.poked (tells.finds e);
}

number_later : (L M : List Record) → Longer L M → next_number (last_epoch L) ≤ next_number (last_epoch M)
number_later L M (inl same) = omega (arith, ap (λ (K : List Record). next_number (last_epoch K)) same)
number_later L M (inr more) = let e : last_epoch M ≡ one_more (last_epoch L) more.0 = ap last_epoch more.2 ∙ last_epoch-push L more.0 more.1 in omega (arith, ap next_number e, length_push (last_epoch L).records more.0)

pub audits_later : (L M : List Record) (c d : CoreState) (audits : Audits) → Longer L M → EachFrom IsLater c.regions d.regions → AuditsRun L c audits → AuditsRun M d audits
audits_later L M c d audits longer later run = record {
  within = λ b i p e. omega (arith, run.within b i p e, number_later L M longer);
  tells = λ b i p h e at. let old = later p.region h at in tells_later L M b p old.0 h longer (run.within b i p e) old.2 (run.tells b i p old.0 e old.1);
  once = run.once;
}

-- ---- an audit begins, and passes a region
no_pass : (i : ℕ) (p : Pass) → slice_get [] i ≡ Some p → ⊥
no_pass i p e = cc

pub audits_begin : (L : List Record) (c : CoreState) (audits : Audits) (b : ℕ) → AuditsRun L c audits → AuditsRun L c (audits_with audits b [])
audits_begin L c audits b run = record {
  within = λ a i p e. within a i p (a == b) e;
  tells = λ a i p g e at. tells a i p g (a == b) e at;
  once = λ a i j p q e f same. once a i j p q (a == b) e f same;
}
  where
    within : (a i : ℕ) (p : Pass) (new : Bool) → slice_get (cond new [] (audits a)) i ≡ Some p → a ≤ next_number (last_epoch L)
    within a i p true e = absurd (no_pass i p e)
    within a i p false e = run.within a i p e

    tells : (a i : ℕ) (p : Pass) (g : RegionState) (new : Bool) → slice_get (cond new [] (audits a)) i ≡ Some p → slice_get c.regions p.region ≡ Some g → PassTells (last_epoch L) a p g
    tells a i p g true e at = absurd (no_pass i p e)
    tells a i p g false e at = run.tells a i p g e at

    once : (a i j : ℕ) (p q : Pass) (new : Bool) → slice_get (cond new [] (audits a)) i ≡ Some p → slice_get (cond new [] (audits a)) j ≡ Some q → p.region ≡ q.region → i ≡ j
    once a i j p q true e f same = absurd (no_pass i p e)
    once a i j p q false e f same = run.once a i j p q e f same

-- a region that was passed stands in the list
pub at_pass : (ps : List Pass) (i : ℕ) (p : Pass) → slice_get ps i ≡ Some p → has_passed ps p.region ≡ true
at_pass [] i p e = absurd (no_pass i p e)
at_pass (q ∷ ps) zero p e = let same : q ≡ p = some_same e in rw (same, eqb-self p.region) refl
at_pass (q ∷ ps) (suc i) p e = or_right (is_pass_of p.region q) (at_pass ps i p e)
  where
    or_right : (b : Bool) {c : Bool} → c ≡ true → (b || c) ≡ true
    or_right true h = refl
    or_right false h = h

-- d is c with the region r checked
pub audits_pass :
    (bases : Bases) (L : List Record) (c d : CoreState) (audits : Audits) (b r : ℕ) (g : RegionState) → RunsOn bases L c → AuditsRun L c audits
    → slice_get c.regions r ≡ Some g → d.regions ≡ slice_set c.regions r (checked g) → MayPass L c audits b r
    → AuditsRun L d (audits_with audits b (audits b ++ record { region = r; answer = g.stray } ∷ []))
audits_pass bases L c d audits b r g run old at is may = record {
  within = λ a i p e. within a i p (a == b) refl e;
  tells = λ a i p h e f. tells a i p h (a == b) refl e f;
  once = λ a i j p q e f same. once a i j p q (a == b) refl e f same;
}
  where
    new : Pass
    new = record { region = r; answer = g.stray }

    here : RegionRun (base_at bases L) (last_epoch L) r g
    here = run.regions r g at

    later : AuditsRun L d audits
    later = audits_later L L c d audits (inl refl) (subst (EachFrom IsLater c.regions) (sym is) (later_one c.regions r g (checked g) at (check_later g))) old

    within : (a i : ℕ) (p : Pass) (mine : Bool) → (a == b) ≡ mine → slice_get (cond mine (audits b ++ new ∷ []) (audits a)) i ≡ Some p → a ≤ next_number (last_epoch L)
    within a i p true m e = omega (arith, eqb-true a b m, may.auditing.within)
    within a i p false m e = old.within a i p e

    -- what the region is now
    now : (h : RegionState) → slice_get d.regions r ≡ Some h → checked g ≡ h
    now h e = ⊎_elim (λ k. sym k.1) (λ k. absurd (k.0 refl)) (set_cases c.regions r (checked g) r h (subst (λ gs. slice_get gs r ≡ Some h) is e))

    told : (h : RegionState) → slice_get d.regions r ≡ Some h → PassTells (last_epoch L) b new h
    told h e = subst (PassTells (last_epoch L) b new) (now h e) (record { certifies = λ k. pass_certifies (base_at bases L) (last_epoch L) b r g here k; finds = λ k. pass_finds (base_at bases L) (last_epoch L) r g here k })

    tells : (a i : ℕ) (p : Pass) (h : RegionState) (mine : Bool) → (a == b) ≡ mine → slice_get (cond mine (audits b ++ new ∷ []) (audits a)) i ≡ Some p → slice_get d.regions p.region ≡ Some h → PassTells (last_epoch L) a p h
    tells a i p h true m e f = subst (λ z. PassTells (last_epoch L) z p h) (sym (eqb-true a b m)) (⊎_elim
        (λ k. later.tells b i p h k.1 f)
        (λ k. subst (λ (z : Pass). PassTells (last_epoch L) b z h) k.1 (told h (subst (λ (z : Pass). slice_get d.regions z.region ≡ Some h) (sym k.1) f)))
        (get_push_cases (audits b) new i p e))
    tells a i p h false m e f = later.tells a i p h e f

    -- the region wasn't passed before
    unpassed : (i : ℕ) (p : Pass) → slice_get (audits b) i ≡ Some p → p.region ≡ r → ⊥
    unpassed i p e same = let was : has_passed (audits b) r ≡ true = subst (λ z. has_passed (audits b) z ≡ true) same (at_pass (audits b) i p e) in let not : has_passed (audits b) r ≡ false = may.unpassed in cc

    by_place : (i j : ℕ) (p q : Pass) → ((i < length (audits b)) × (slice_get (audits b) i ≡ Some p)) ⊎ ((i ≡ length (audits b)) × (new ≡ p)) → ((j < length (audits b)) × (slice_get (audits b) j ≡ Some q)) ⊎ ((j ≡ length (audits b)) × (new ≡ q)) → p.region ≡ q.region → i ≡ j
    by_place i j p q (inl e) (inl f) same = old.once b i j p q e.1 f.1 same
    by_place i j p q (inl e) (inr f) same = absurd (unpassed i p e.1 (same ∙ ap (λ (z : Pass). z.region) (sym f.1)))
    by_place i j p q (inr e) (inl f) same = absurd (unpassed j q f.1 (sym same ∙ ap (λ (z : Pass). z.region) (sym e.1)))
    by_place i j p q (inr e) (inr f) same = e.0 ∙ sym f.0

    once : (a i j : ℕ) (p q : Pass) (mine : Bool) → (a == b) ≡ mine → slice_get (cond mine (audits b ++ new ∷ []) (audits a)) i ≡ Some p → slice_get (cond mine (audits b ++ new ∷ []) (audits a)) j ≡ Some q → p.region ≡ q.region → i ≡ j
    once a i j p q true m e f same = by_place i j p q (get_push_cases (audits b) new i p e) (get_push_cases (audits b) new j q f) same
    once a i j p q false m e f same = old.once a i j p q e f same

-- a core that was just made has no audits
pub no_audits_run : (L : List Record) (c : CoreState) → AuditsRun L c no_audits
no_audits_run L c = record { within = λ b i p e. absurd (no_pass i p e); tells = λ b i p g e at. absurd (no_pass i p e); once = λ b i j p q e f same. absurd (no_pass i p e) }

-- the pass that a region gives
pub pass_at : (c : CoreState) (r : ℕ) (g : RegionState) → slice_get c.regions r ≡ Some g → pass_now c r ≡ record { region = r; answer = g.stray } ∷ []
pass_at c r g at = rw at refl
