-- Where no client died, before a round or in it, no transaction is claimed for a clean-up.
use Rattle.std.proofs.Common.{◌≡◌, ℕ, zero, suc, ◌==◌, Bool, true, false, List, [], ◌∷◌, ◌++◌, length, take, Option, refl, sym, ◌∙◌, ap, subst, arith}
use Rattle.std.specs.Prelude.{if◌then◌else◌}
use Rattle.std.specs.List.{AllByRecursion}
use Rattle.std.proofs.lemmas.List.{append-nil, append_assoc, length-append, take_all, take-append-le}
use Rattle.std.proofs.lemmas.List.Sums.{fold-append}
use Rattle.dali_att.specs.declared.state.State.{State}
use Rattle.dali_record.specs.declared.records.Record.TheVariants.{Begin, Commit, Ended}
use Rattle.dali_runs.specs.State.{state_of}
use Rattle.dali_transcripts.specs.World.{Deed, Logs, DiesOn, Claims, GivesBack, Happening, World, state_step, state_after, is_dead_in, is_claimed_in}
use Rattle.dali_transcripts.specs.Causes.{IsRight, AreRightFrom}
use Rattle.dali_served.specs.Steady.{IsNoDeath, NoneIsClaimed}

record IsLively (o : Option State) : Type 0 where
  dead : is_dead_in o ≡ false
  claimed : is_claimed_in o ≡ false

lively_if : (b : Bool) (o q : Option State) → IsLively o → IsLively q → IsLively (if b then o else q)
lively_if true o q h g = h
lively_if false o q h g = g

module _ (w : World) where
  at_place : (done xs : List Happening) → w.happened ≡ done ++ xs → take (length done) w.happened ≡ done
  at_place done xs e = ap (take (length done)) e ∙ (take-append-le (length done) done xs (omega arith) ∙ take_all (length done) done (omega arith))

  one : (done : List Happening) (x : Deed) (c : ℕ) → take (length done) w.happened ≡ done → ((t : ℕ) → IsLively (state_after w done t)) → IsRight w c (length done) x → IsNoDeath (x, c)
      → (t : ℕ) (o : Option State) → IsLively o → IsLively (state_step t o (x, c))
  one done (Logs (Begin u)) c at lively right no_death t o h = lively_if (u == t) _ o (record { dead = refl; claimed = refl }) h
  one done (Logs (Commit u)) c at lively right no_death t o h = lively_if (u == t) _ o (record { dead = refl; claimed = refl }) h
  one done (Logs (Ended u)) c at lively right no_death t o h = lively_if (u == t) _ o (record { dead = refl; claimed = refl }) h
  one done (DiesOn u r) c at lively right no_death t o h = absurd no_death
  one done (Claims u) c at lively right no_death t o h =
      let never : true ≡ false = sym right ∙ (ap (λ l. is_dead_in (state_after w l u)) at ∙ (lively u).dead) in absurd cc
  one done (GivesBack u latched) c at lively right no_death t o h =
      let never : true ≡ false = sym (ap is_claimed_in right.1) ∙ (ap (λ l. is_claimed_in (state_after w l u)) at ∙ (lively u).claimed) in absurd cc
  one done x c at lively right no_death t o h = h

  all : (done xs : List Happening) → w.happened ≡ done ++ xs → ((t : ℕ) → IsLively (state_after w done t)) → AreRightFrom w (length done) xs → AllByRecursion IsNoDeath xs
      → (k t : ℕ) → IsLively (state_after w (done ++ take k xs) t)
  all done xs e lively right none zero t = subst (λ l. IsLively (state_after w l t)) (sym (append-nil done)) (lively t)
  all done [] e lively right none (suc k) t = subst (λ l. IsLively (state_after w l t)) (sym (append-nil done)) (lively t)
  all done (x ∷ xs) e lively right none (suc k) t =
      subst (λ l. IsLively (state_after w l t)) (append_assoc done (x ∷ []) (take k xs))
      (all (done ++ x ∷ []) xs (e ∙ sym (append_assoc done (x ∷ []) xs))
      (λ u. subst IsLively (sym (fold-append (state_step u) (state_of w.old.system u) done (x ∷ []))) (one done x.0 x.1 (at_place done (x ∷ xs) e) lively right.0 none.0 u (state_after w done u) (lively u)))
      (subst (λ n. AreRightFrom w n xs) (sym (length-append done (x ∷ []))) right.1) none.1 k t)

pub none_is_claimed : NoneIsClaimed
none_is_claimed w right died none i t =
    (all w [] w.happened refl (λ u. record { dead = (died u).0; claimed = (died u).1 }) right none i t).claimed
