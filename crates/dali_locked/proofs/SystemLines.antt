-- Lines that client and system sign.
use Rattle.std.proofs.Common.{◌≡◌, ◌⊎◌, ℕ, zero, suc, ◌+◌, ◌<◌, Bool, true, false, List, [], ◌∷◌, ◌++◌, length, Option, Some, None, refl, ap, sym, subst, ◌∙◌, inl, inr, arith}
use Rattle.std.specs.Prelude.{slice_get, ◌==◌, ◌||◌, ◌&&◌}
use Rattle.std.specs.List.{list_any}
use Rattle.std.proofs.lemmas.Bool.{eqb-true, ne_eqb}
use Rattle.dali_lists.proofs.Numbers.{eqb-self}
use Rattle.dali_lists.proofs.Tests.{not_both_ways}
use Rattle.dali_region.specs.State.{RegionState}
use Rattle.dali_runs.specs.State.{SystemState}
use Rattle.dali_runs.specs.Run.{Bases}
use Rattle.dali_crash.specs.Checkpoints.{StoreStep, Point}
use Rattle.dali_transcripts.specs.World.{Deed}
use Rattle.dali_notes.specs.History.{signs}
use Rattle.dali_concurrent.specs.Entries.{Did, system_note, region_note, client_note, values_of, notes_of}
use Rattle.dali_concurrent.specs.Rules.{Outset, count_of, DeedFits}
use Rattle.dali_concurrent.specs.Told.{Effect, Leaves, OnSystem, EffectFits, History, plain, core_told}
use Rattle.dali_concurrent.specs.Landing.{Lands}
use Rattle.dali_concurrent.specs.Kept.{Follows, ChecksFit, StepsFit, is_silent, writes_to, is_wanted}
use Rattle.dali_locked.proofs.Adding.{one_silent}

-- who signs it
abbrev pub by_both : ℕ → ℕ → List ℕ
by_both n c = client_note n c ∷ system_note ∷ []

-- no region of these does
apart : (n c r : ℕ) → r < n → signs (region_note r) (by_both n c) ≡ false
apart n c r low = by_test (client_note n c == region_note r) refl
  where
    by_test : (b : Bool) → (client_note n c == region_note r) ≡ b → signs (region_note r) (by_both n c) ≡ false
    by_test false e = ap (λ z. z || signs (region_note r) (system_note ∷ [])) e ∙ ap (λ z. z || false) (ne_eqb system_note (region_note r) (λ f. absurd (omega (arith, f))))
    by_test true e = let same : client_note n c ≡ region_note r = eqb-true (client_note n c) (region_note r) e in absurd (omega (arith, same, low))

second : (m k : ℕ) → signs k (m ∷ k ∷ []) ≡ true
second m k = more (m == k) (k == k) (eqb-self k)
  where
    more : (a b : Bool) → b ≡ true → (a || (b || false)) ≡ true
    more true b e = refl
    more false true e = refl
    more false false e = absurd (cc)

module _ (bases : Bases) (p : Point) (o : Outset) (T : History) (n c : ℕ) (count : count_of o ≡ n) (d : Deed) (alone : values_of d ≡ system_note ∷ []) (fits : DeedFits o (plain T) d c) where
  by : (k : ℕ) → signs k (notes_of (count_of o) (Did d c)) ≡ true → signs k (by_both n c) ≡ true
  by k h = subst (λ ks. signs k ks ≡ true) (ap (λ vs. client_note (count_of o) c ∷ vs) alone ∙ ap (λ m. by_both m c) count) h

  -- one step of the system
  pub line_follows : (z : SystemState) (s : StoreStep) → Lands bases p o T (by_both n c, (Did d c, OnSystem z, s ∷ [])) → is_silent s ≡ true → StepsFit (Did d c) (s ∷ []) → writes_to s ≡ None
      → ChecksFit o T (by_both n c, (Did d c, OnSystem z, s ∷ [])) → Follows bases p o T (by_both n c, (Did d c, OnSystem z, s ∷ []))
  line_follows z s lands silent steps writes checks = record {
    fits = record { by = by; fits = fits };
    effect = second (client_note n c) system_note;
    lands = lands;
    silent = λ none. one_silent s silent;
    steps = steps;
    writes = ap (λ q. is_wanted (Did d c) q && true) writes;
    holds = λ r g low sign at. absurd (not_both_ways sign (apart n c r (subst (λ m. r < m) count low)));
    checks = checks;
  }

  -- and none
  pub meeting_follows : Lands bases p o T (by_both n c, (Did d c, Leaves, [])) → StepsFit (Did d c) [] → Follows bases p o T (by_both n c, (Did d c, Leaves, []))
  meeting_follows lands steps = record {
    fits = record { by = by; fits = fits };
    effect = tt;
    lands = lands;
    silent = λ none i x e. absurd (cc);
    steps = steps;
    writes = refl;
    holds = λ r g low sign at. absurd (not_both_ways sign (apart n c r (subst (λ m. r < m) count low)));
    checks = λ f. absurd (cc);
  }
