-- What makes a refusal right.
use Rattle.std.proofs.Common.{◌≡◌, ℕ, ◌+◌, Bool, true, false, [], ◌∷◌, ◌++◌, length, Option, Some, None, refl, ap, sym, subst, ◌∙◌, arith}
use Rattle.std.specs.Prelude.{is_some, slice_get, sum_by, take, ◌==◌}
use Rattle.std.proofs.lemmas.Bool.{eqb-true}
use Rattle.std.proofs.lemmas.List.{take-append-le}
use Rattle.dali_record.specs.Epochs.{last_epoch}
use Rattle.dali_record.specs.Spelling.{record_length}
use Rattle.dali_region.specs.State.{RegionState}
use Rattle.dali_runs.specs.State.{SystemState}
use Rattle.dali_runs.specs.Run.{Bases, RunsOn, failed_first}
use Rattle.dali_runs.proofs.CountsLemmas.Tallies.{tallies}
use Rattle.dali_crash.specs.Checkpoints.{Point}
use Rattle.dali_transcripts.specs.Words.{Act, Audits, Checkpoints, Why, StoppedBy, Full, Damaged, StoreFailed, UnderWay}
use Rattle.dali_transcripts.specs.World.{Meets, World, logged_by, has_failed, cause_of, log_at, stop_at, stray_after, under_way}
use Rattle.dali_transcripts.specs.Causes.{IsRoomFor, GoesOn, IsCause, IsRight, limit_of}
use Rattle.dali_transcripts.specs.Rounds.{by}
use Rattle.dali_transcripts.specs.Telling.Laws.{IsNoFault}
use Rattle.dali_concurrent.specs.Entries.{deeds_of}
use Rattle.dali_concurrent.specs.Rules.{Outset, log_by}
use Rattle.dali_concurrent.specs.Told.{History, plain, core_told, world_told}
use Rattle.dali_concurrent.specs.Landing.{Stands}
use Rattle.dali_concurrent.specs.Refused.{refused_in, limit_for, RefusalLands, StoppedFor, FullFor, DamagedFor, UnderWayFor}
use Rattle.dali_concurrent.proofs.Landing.{stop_stands, meets_lands}
use Rattle.dali_concurrent.proofs.Sorts.{front}
use Rattle.dali_concurrent.proofs.Holds.{runs_there}
use Rattle.dali_concurrent.proofs.Passed.{was_there}
use Rattle.dali_concurrent.proofs.Own.{sizes_told}

-- ---- at the place of the refusal
module _ (o : Outset) (T : History) (c : ℕ) (why : Why) where
  abbrev place : ℕ
  place = length (deeds_of (plain T))

  deeds_then : take place (deeds_of (plain T) ++ by c (Meets why ∷ [])) ≡ deeds_of (plain T)
  deeds_then = front (world_told o T) (by c (Meets why ∷ []))

  stop_then : (bases : Bases) (p : Point) (q : Point) → Stands bases p o T q → stop_at (refused_in o T c why) place ≡ (core_told o T).system.stop
  stop_then bases p q at =
      let w : World = world_told o T in
      ap (λ l. cause_of (failed_first (last_epoch (w.before ++ logged_by l)).records) (has_failed w.old.vault.stopped l))
      (take-append-le (length w.happened) w.happened (by c (Meets why ∷ [])) (omega arith))
      ∙ stop_stands bases p o T q at

  log_then : log_at (refused_in o T c why) place ≡ log_by o (plain T)
  log_then = let w : World = world_told o T in ap (λ l. w.before ++ logged_by l) deeds_then

pub refusal_lands : RefusalLands
refusal_lands bases p o T ks c act u why none cause = meets_lands bases p o T ks why c none (λ q at. (right why none (cause q at), tt))
  where
    right : (why : Why) → IsNoFault why → IsCause (refused_in o T c why) c (length (deeds_of (plain T))) act u why → IsRight (refused_in o T c why) c (length (deeds_of (plain T))) (Meets why)
    right StoreFailed none h = tt
    right (StoppedBy cause) none h = (act, u, h)
    right (Full end limit) none h = (act, u, h)
    right (Damaged region codeword found) none h = (act, u, h)
    right UnderWay none h = (act, u, h)

pub stopped_for : StoppedFor
stopped_for bases p o T c act u cause y is stopped can q at = (can, stop_then o T c (StoppedBy cause) bases p q at ∙ (ap (λ (z : SystemState). z.stop) (sym is) ∙ stopped))

limit_is : (w : World) (y : SystemState) (act : Act) → y ≡ w.core.system → limit_for y act ≡ limit_of w act
limit_is w y Audits is = ap (λ (z : SystemState). z.limit + 1048576) is
limit_is w y Checkpoints is = ap (λ (z : SystemState). z.limit + 1048576) is
limit_is w y act is = ap (λ (z : SystemState). z.limit) is

pub full_for : FullFor
full_for bases p o T c act u x y led is runs next spelled passes q at = record {
  limit_is = limit_is (refused_in o T c why) y act is;
  end_is = ap (λ (z : SystemState). z.end) is ∙ (counted ∙ ap (sum_by record_length) (sym (log_then o T c why)));
  refused = x;
  next = subst (λ L. IsRoomFor (core_told o T).system.sizes L act u x) (sym (log_then o T c why)) (subst (λ (z : SystemState). IsRoomFor z.sizes (log_by o (plain T)) act u x) is next);
  spelled = spelled;
  passes = passes;
  runs = stop_then o T c why bases p q at ∙ (ap (λ (z : SystemState). z.stop) (sym is) ∙ runs);
}
  where
    why : Why
    why = Full y.end (limit_for y act)

    counted : (core_told o T).system.end ≡ sum_by record_length (log_by o (plain T))
    counted =
        let run : RunsOn bases (log_by o (plain T)) (core_told o T) = runs_there bases p o T led in
        run.counts.end ∙ (tallies (core_told o T).system.sizes (log_by o (plain T)) run.counts.now run.counts.rules).1

pub damaged_for : DamagedFor
damaged_for bases p o T c t codeword found call b g led check there xor differ goes q at = record {
  compares = check;
  next = b;
  on_region = refl;
  goes_on = subst (λ L. GoesOn (core_told o T).system.sizes L t call b) (sym (log_then o T c why)) (subst (λ s. GoesOn s (log_by o (plain T)) t call b) (sym (sizes_told bases p o T led)) goes);
  old = old.0;
  was = old.1;
  stray = xor ∙ ((at.tells.together.pokes b.region old.0 g old.1 there).0 ∙ ap (stray_after b.region old.0.stray) (sym (deeds_then o T c why)));
  differ = differ;
}
  where
    why : Why
    why = Damaged b.region codeword found

    old : (z : RegionState) × (slice_get o.old.regions b.region ≡ Some z)
    old = was_there bases p o led.begins 0 T b.region g there

pub under_way_for : UnderWayFor
under_way_for bases p o T c u y is checking other q at = by_way (under_way (deeds_of (plain T))) refl
  where
    some : is_some (under_way (deeds_of (plain T))) ≡ true
    some = sym at.tells.flag ∙ (ap (λ (z : SystemState). z.checking) (sym is) ∙ checking)

    by_way : (w : Option ℕ) → under_way (deeds_of (plain T)) ≡ w → IsCause (refused_in o T c UnderWay) c (length (deeds_of (plain T))) Checkpoints u UnderWay
    by_way None e = let none : false ≡ true = sym (ap is_some e) ∙ some in absurd (cc)
    by_way (Some d) e = record { other = d; differs = by_test (d == c) refl; started = ap under_way (deeds_then o T c UnderWay) ∙ e }
      where
        by_test : (b : Bool) → (d == c) ≡ b → b ≡ false
        by_test false same = refl
        by_test true same = absurd (other (e ∙ ap (λ z. Some z) (eqb-true d c same)))
