-- The pass of an audit and its end, by what the entries tell.
use Rattle.std.proofs.Common.{◌≡◌, ℕ, zero, suc, ◌<◌, Bool, true, false, not, List, [], ◌∷◌, ◌++◌, length, Option, Some, None, refl, ap, sym, subst, ◌∙◌, arith, length-append}
use Rattle.std.specs.Prelude.{slice_get, take, map, ◌==◌, ◌&&◌, ◌||◌, if◌then◌else◌, IsSome}
use Rattle.std.specs.List.{list_any, cons_option}
use Rattle.std.proofs.lemmas.Bool.{eqb-true}
use Rattle.dali_lists.proofs.Lists.{get_behind}
use Rattle.dali_lists.proofs.Numbers.{eqb-self}
use Rattle.dali_geometry.specs.Places.{regions}
use Rattle.dali_record.specs.declared.records.Record.TheVariants.{AuditBegin}
use Rattle.dali_record.specs.Damage.{has}
use Rattle.dali_runs.proofs.CountsLemmas.Lists.{some_same}
use Rattle.dali_region.specs.State.{checked}
use Rattle.dali_runs.specs.State.{SystemState, CoreState}
use Rattle.dali_runs.specs.Run.{Bases}
use Rattle.dali_runs.specs.Keeps.{with_system}
use Rattle.dali_runs.specs.Steps.{audit_ended, audit_record}
use Rattle.dali_runs.specs.Passes.{Pass, audits_with, is_pass_of, is_find_of, has_passed, has_found, IsVerdict}
use Rattle.dali_runs.specs.Courses.{Passes, AuditEnds, pass_now}
use Rattle.dali_runs.specs.Parts.Systems.{MayLogFound}
use Rattle.dali_crash.specs.Checkpoints.{Point}
use Rattle.dali_transcripts.specs.World.{Logs, logged_by}
use Rattle.dali_concurrent.specs.Entries.{Did, Passed, Entries, At, deeds_of}
use Rattle.dali_concurrent.specs.Rules.{Outset, before, count_of, log_by, AuditFits}
use Rattle.dali_concurrent.specs.Told.{OnRegion, OnSystem, effect_on, History, plain, core_told}
use Rattle.dali_concurrent.specs.Landing.{Stands}
use Rattle.dali_concurrent.specs.Holds.{IsLed}
use Rattle.dali_concurrent.specs.Audits.{pass_told, passed_in, passes_by, PassFitsHere, PassesLand, AuditEndsLand, BeganIsHere}
use Rattle.dali_concurrent.proofs.Told.{lengths}
use Rattle.dali_concurrent.proofs.Landing.{step_lands, told_is_whole}
use Rattle.dali_concurrent.proofs.Sorts.{halts_told, record_is_right}
use Rattle.dali_concurrent.proofs.Kept.{stands_of}
use Rattle.dali_concurrent.proofs.Holds.{old_count}
use Rattle.dali_concurrent.proofs.Passed.{log_split, stray_is, passes_are_lines}

-- ---- who began it
pub began_is_here : BeganIsHere
began_is_here o T c b began =
    let w = log_split o (plain T) began.place (began.notes, Did (Logs AuditBegin) c) began.there in
    record {
      since = let l = length-append (before o) (logged_by (deeds_of (take began.place (plain T)))) in omega (arith, began.number, l);
      began = ap (slice_get (log_by o (plain T))) began.number
          ∙ (ap (λ l. slice_get l (length (log_by o (take began.place (plain T))))) w.1 ∙ get_behind (log_by o (take began.place (plain T))) AuditBegin w.0);
    }

-- ---- a pass
pub pass_fits_here : PassFitsHere
pass_fits_here bases p o T b r g led here there = record {
  begun = here.began;
  tells = λ old was.
      let at = stands_of bases p o T led.begins led.all in
      ap (λ n. n == 0) (stray_is bases p o led.begins b T at.0 r g old at.1 (ap (λ (c : CoreState). slice_get c.regions r) at.1.comes.core ∙ there) was);
}

-- what a pass tells stands among the entries, and the other way round
told_there : (b : ℕ) (P : Entries) (i r : ℕ) (right : Bool) → slice_get (passes_by b P) i ≡ Some (r, right) → (j : ℕ) × (k : List ℕ) × At P j (k, Passed r b right)
told_there b [] i r right e = absurd (cc)
told_there b ((k, Passed s a found) ∷ P) i r right e = by_test (λ n h. told_there b P n r right h) (b == a) refl e
  where
    by_test : ((n : ℕ) → slice_get (passes_by b P) n ≡ Some (r, right) → (j : ℕ) × (k : List ℕ) × At P j (k, Passed r b right)) → (t : Bool) → (b == a) ≡ t
        → slice_get (cons_option (if t then Some (s, found) else None) (passes_by b P)) i ≡ Some (r, right) → (j : ℕ) × (n : List ℕ) × At ((k, Passed s a found) ∷ P) j (n, Passed r b right)
    by_test later false is h = let w = later i h in (suc w.0, w.1, w.2)
    by_test later true is h = at i h
      where
        at : (i : ℕ) → slice_get ((s, found) ∷ passes_by b P) i ≡ Some (r, right) → (j : ℕ) × (n : List ℕ) × At ((k, Passed s a found) ∷ P) j (n, Passed r b right)
        at zero f =
            let same : (s, found) ≡ (r, right) = some_same f in
            (zero, k, ap (λ (z : ℕ × Bool). Some (k, Passed z.0 a z.1)) same ∙ ap (λ n. Some (k, Passed r n right)) (sym (eqb-true b a is)))
        at (suc i) f = let w = later i f in (suc w.0, w.1, w.2)
told_there b (e ∷ P) i r right h = let w = told_there b P i r right h in (suc w.0, w.1, w.2)

line_there : (b : ℕ) (P : Entries) (j r : ℕ) (k : List ℕ) (right : Bool) → At P j (k, Passed r b right) → (i : ℕ) × (slice_get (passes_by b P) i ≡ Some (r, right))
line_there b [] j r k right e = absurd (cc)
line_there b (e ∷ P) zero r k right at = (zero, ap (λ z. slice_get (passes_by b (z ∷ P)) zero) (some_same at) ∙ ap (λ t. slice_get (cons_option (if t then Some (r, right) else None) (passes_by b P)) zero) (eqb-self b))
line_there b (e ∷ P) (suc j) r k right at = let w = line_there b P j r k right at in behind (passed_in b e) w
  where
    behind : (q : Option (ℕ × Bool)) → (i : ℕ) × (slice_get (passes_by b P) i ≡ Some (r, right)) → (i : ℕ) × (slice_get (cons_option q (passes_by b P)) i ≡ Some (r, right))
    behind None w = w
    behind (Some z) w = (suc w.0, w.1)

mapped_there : (ps : List Pass) (i : ℕ) (z : ℕ × Bool) → slice_get (map pass_told ps) i ≡ Some z → (x : Pass) × (slice_get ps i ≡ Some x) × (pass_told x ≡ z)
mapped_there [] i z e = absurd (cc)
mapped_there (x ∷ ps) zero z e = (x, refl, some_same e)
mapped_there (x ∷ ps) (suc i) z e = mapped_there ps i z e

map_there : (ps : List Pass) (i : ℕ) (x : Pass) → slice_get ps i ≡ Some x → slice_get (map pass_told ps) i ≡ Some (pass_told x)
map_there [] i x e = absurd (cc)
map_there (y ∷ ps) zero x e = ap (λ z. Some (pass_told z)) (some_same e)
map_there (y ∷ ps) (suc i) x e = map_there ps i x e

-- ---- one of a list, or none
any_at : {X : Type 0} (f : X → Bool) (xs : List X) (i : ℕ) (x : X) → slice_get xs i ≡ Some x → f x ≡ true → list_any f xs ≡ true
any_at f [] i x e h = absurd (cc)
any_at f (y ∷ xs) zero x e h = ap (λ b. b || list_any f xs) (ap f (some_same e) ∙ h)
any_at f (y ∷ xs) (suc i) x e h = or_true (f y) (any_at f xs i x e h)
  where
    or_true : (a : Bool) {b : Bool} → b ≡ true → (a || b) ≡ true
    or_true true g = refl
    or_true false g = g

none_at : {X : Type 0} (f : X → Bool) (xs : List X) → ((i : ℕ) (x : X) → slice_get xs i ≡ Some x → f x ≡ false) → list_any f xs ≡ false
none_at f [] h = refl
none_at f (x ∷ xs) h = ap (λ b. b || list_any f xs) (h zero x refl) ∙ none_at f xs (λ i y e. h (suc i) y e)

-- ---- the verdict
module _ (ps : List Pass) (r : ℕ) (damaged : Bool) (i : ℕ) (x : Pass) (at : slice_get ps i ≡ Some x) (told : pass_told x ≡ (r, not damaged)) where
  is_of : (x.region == r) ≡ true
  is_of = subst (λ n. (x.region == n) ≡ true) (ap (λ (z : ℕ × Bool). z.0) told) (eqb-self x.region)

  answered : (x.answer == 0) ≡ not damaged
  answered = ap (λ (z : ℕ × Bool). z.1) told

  passed_there : has_passed ps r ≡ true
  passed_there = any_at (is_pass_of r) ps i x at is_of

  found_there : ((j : ℕ) (y : Pass) → slice_get ps j ≡ Some y → y.region ≡ x.region → j ≡ i) → damaged ≡ has_found ps r
  found_there once = by_kind damaged refl
    where
      by_kind : (d : Bool) → damaged ≡ d → d ≡ has_found ps r
      by_kind true e = sym (any_at (is_find_of r) ps i x at (ap (λ b. b && not (x.answer == 0)) is_of ∙ ap not (answered ∙ ap not e)))
      by_kind false e = sym (none_at (is_find_of r) ps none)
        where
          none : (j : ℕ) (y : Pass) → slice_get ps j ≡ Some y → is_find_of r y ≡ false
          none j y there = by_test (y.region == r) refl
            where
              by_test : (b : Bool) → (y.region == r) ≡ b → (b && not (y.answer == 0)) ≡ false
              by_test false f = refl
              by_test true f =
                  let same : y.region ≡ x.region = eqb-true y.region r f ∙ sym (ap (λ (z : ℕ × Bool). z.0) told) in
                  let one : y ≡ x = some_same (sym there ∙ (ap (slice_get ps) (once j y there same) ∙ at)) in
                  ap (λ (z : Pass). not (z.answer == 0)) one ∙ ap not (answered ∙ ap not e)

module _ (bases : Bases) (p : Point) (o : Outset) (T : History) (led : IsLed bases p o T) where
  many : regions (core_told o T).system.sizes ≡ count_of o
  many =
      let at = stands_of bases p o T led.begins led.all in
      let whole = told_is_whole bases p o T at.0 led.begins at.1 in
      sym whole.0.regions ∙ (lengths o T ∙ old_count bases p o led.begins)

  verdict : (q : Point) (c b : ℕ) (found : List ℕ) → Stands bases p o T q → AuditFits o (plain T) c b found → IsVerdict (core_told o T).system.sizes (q.audits b) found
  verdict q c b found at fits = record {
    passed = λ r low. let w = pass_there r low in passed_there (q.audits b) r (has found r) w.0 w.1 w.2 w.3;
    named = λ r low. let w = pass_there r low in found_there (q.audits b) r (has found r) w.0 w.1 w.2 w.3 (λ j y there same. at.run.run.audits.once b j w.0 y w.1 there w.2 same);
  }
    where
      pass_there : (r : ℕ) → r < regions (core_told o T).system.sizes → (i : ℕ) × (x : Pass) × (slice_get (q.audits b) i ≡ Some x) × (pass_told x ≡ (r, not (has found r)))
      pass_there r low =
          let line = fits.passed r (subst (λ n. r < n) many low) in
          let told = line_there b (plain T) line.0 r line.1 (not (has found r)) line.2 in
          let are = passes_are_lines bases p o T q b led at (began_is_here o T c b fits.began) in
          let w = mapped_there (q.audits b) told.0 (r, not (has found r)) (ap (λ l. slice_get l told.0) are ∙ told.1) in
          (told.0, w.0, w.1, w.2)

pub passes_land : PassesLand
passes_land bases p o T ks b r right g led here auditing none there = step_lands bases p o T ks (Passed r b right) (OnRegion r (checked g)) (Passes b r) (λ q at. record {
  other = refl;
  log = log_by o (plain T);
  step = (g, there, (refl, refl));
  audits = audits_with q.audits b (q.audits b ++ pass_now (core_told o T) r);
  passes = (record { auditing = auditing; unpassed = unpassed q at }, refl);
  are = refl;
  right = tt;
  halts = halts_told bases p o T q at;
})
  where
    unpassed : (q : Point) → Stands bases p o T q → has_passed (q.audits b) r ≡ false
    unpassed q at = none_at (is_pass_of r) (q.audits b) each
      where
        each : (i : ℕ) (x : Pass) → slice_get (q.audits b) i ≡ Some x → (x.region == r) ≡ false
        each i x e = by_test (x.region == r) refl
          where
            by_test : (t : Bool) → (x.region == r) ≡ t → t ≡ false
            by_test false f = refl
            by_test true f =
                let are = passes_are_lines bases p o T q b led at here in
                let told : slice_get (passes_by b (plain T)) i ≡ Some (x.region, x.answer == 0) = ap (λ l. slice_get l i) (sym are) ∙ map_there (q.audits b) i x e in
                let line = told_there b (plain T) i x.region (x.answer == 0) told in
                absurd (none line.0 line.1 (x.answer == 0) (subst (λ n. At (plain T) line.0 (line.1, Passed n b (x.answer == 0))) (eqb-true x.region r f) line.2))

pub audit_ends_land : AuditEndsLand
audit_ends_land bases p o T ks c b found y led is may fits = step_lands bases p o T ks (Did (Logs (audit_record b found)) c) (OnSystem (audit_ended y b found)) (AuditEnds b found) (λ q at. record {
  other = refl;
  log = log_by o (plain T) ++ audit_record b found ∷ [];
  step = (record { runs = here.runs; auditing = here.auditing; spelled = here.spelled; numbers = here.numbers }, (refl, ap (λ z. with_system (core_told o T) (audit_ended z b found)) is));
  audits = q.audits;
  passes = (verdict bases p o T led q c b found at fits, refl);
  are = (refl, began_is_here o T c b fits.began);
  right = record_is_right bases p o T q c (audit_record b found) (effect_on (core_told o T) (OnSystem (audit_ended y b found))) at here.runs;
  halts = λ h. stops found (halts_told bases p o T q at h);
})
  where
    here : MayLogFound (log_by o (plain T)) (core_told o T).system b found
    here = subst (λ z. MayLogFound (log_by o (plain T)) z b found) is may

    stops : (found : List ℕ) → IsSome (core_told o T).system.stop → IsSome (audit_ended y b found).stop
    stops [] h = subst (λ (z : SystemState). IsSome z.stop) (sym is) h
    stops (r ∷ rs) h = refl
