-- The worked history: what each line asks for is so.
use Rattle.std.proofs.Common.{◌≡◌, ℕ, zero, suc, ◌<◌, ◌≤◌, Bool, true, false, List, [], ◌∷◌, ◌++◌, Option, Some, None, IsSome, refl, ap, sym, subst, ◌∙◌, inl, inr, arith}
use Rattle.std.specs.Prelude.{◌==◌, ◌&&◌, not, slice_get, is_some}
use Rattle.std.specs.FinMap.{get, empty, get-empty}
use Rattle.std.proofs.lemmas.Bool.{eqb-true}
use Rattle.dali_lists.proofs.Tests.{not_both_ways}
use Rattle.dali_runs.proofs.CountsLemmas.Lists.{some_same}
use Rattle.dali_geometry.specs.Places.{formatted_image}
use Rattle.dali_record.specs.declared.operations.Op.TheVariants.{Look}
use Rattle.dali_record.specs.declared.records.Call.TheVariants.{Get}
use Rattle.dali_record.specs.declared.records.Answer.TheVariants.{Missing}
use Rattle.dali_record.specs.declared.records.Record.TheVariants.{Format, Begin, Forward, Done, Commit, Ended, AuditBegin, AuditClean, AuditFail}
use Rattle.dali_record.specs.Blocks.{AreWords, made}
use Rattle.dali_record.specs.Spelling.{IsBlock}
use Rattle.dali_record.specs.Legal.{Rules, passes, rules_start}
use Rattle.dali_record.proofs.Made.{made_is_block}
use Rattle.dali_transcripts.proofs.Worked.{are_made}
use Rattle.dali_region.specs.State.{RegionState, IsProtected, IsLive, loaded, latched, checked}
use Rattle.dali_region.proofs.Holds.{latched_keeps, loaded_keeps}
use Rattle.dali_locks.specs.declared.mode.Mode.TheVariants.{Shared, Exclusive}
use Rattle.dali_locks.specs.Locks.{lock_cmp, stronger_mode, IsConflict, IsOldestConflict}
use Rattle.dali_locks.proofs.Changes.{get-locks_with}
use Rattle.dali_locks.specs.declared.mode.Mode.{Mode}
use Rattle.dali_att.specs.declared.state.State.TheVariants.{Live, Cleaning, Committed}
use Rattle.dali_runs.specs.State.{TxnRow, CoreState, state_of, state_in, row_of, lock_of}
use Rattle.dali_runs.specs.Steps.{audit_record}
use Rattle.dali_runs.specs.Run.{covers}
use Rattle.dali_runs.specs.Passes.{Pass, Audits, audits_with, has_passed, has_found, IsVerdict}
use Rattle.dali_runs.specs.Audits.{IsAuditing}
use Rattle.dali_record.specs.Damage.{has}
use Rattle.dali_runs.specs.Courses.{Begins, Operates, Answers, Commits, Ends, Locks, Refuses, Dies, AuditBegins, AuditEnds, Passes, pass_now, Claims as ClaimsTxn, Recovers, OnRegion as StepsOn}
use Rattle.dali_runs.specs.Regions.{Latch, NoteReads}
use Rattle.dali_transcripts.specs.Telling.Deeds.{HasLookedFor}
use Rattle.dali_runs.specs.Parts.Systems.{MayLogHeld}
use Rattle.dali_runs.specs.Worked.{small, first_vault}
use Rattle.dali_runs.proofs.Loads.{no_lock}
use Rattle.dali_runs.proofs.WholeSteps.{load_is_whole}
use Rattle.dali_runs.proofs.Protected.{noted, ReadsFit}
use Rattle.dali_runs.proofs.Worked.{logs_by, alive_by}
use Rattle.dali_crash.specs.Checkpoints.{StoreStep, Does, Point}
use Rattle.dali_crash.specs.Checkpointed.{checkpoint_from}
use Rattle.dali_crash.proofs.Traces.{bare_start_runs}
use Rattle.dali_crash.proofs.Checkpointed.{starts}
use Rattle.dali_transcripts.specs.World.{Deed, is_claimed_in, stray_after, Logs, DiesOn, Claims, GetsLock, Yields, Meets}
use Rattle.dali_transcripts.specs.Words.{StoreFailed}
use Rattle.dali_transcripts.specs.Worked.{look}
use Rattle.dali_concurrent.specs.Entries.{Did, Latched, Freed, Passed, Entries, At, deeds_of, live_by, actor_by}
use Rattle.dali_concurrent.specs.Rules.{AuditFits, log_by, state_by, NoneLive, DeedFits, LookFits, dead_by}
use Rattle.dali_concurrent.specs.Told.{OnRegion, OnSystem, effect_on, Line, History, plain, core_told, world_told}
use Rattle.dali_concurrent.specs.Landing.{BeginsAt, Stands, Landing, IsTaken}
use Rattle.dali_concurrent.specs.Sorts.{RightHere}
use Rattle.dali_concurrent.specs.Kept.{is_silent, HoldIs, AllFollow}
use Rattle.dali_concurrent.specs.Holds.{IsLed}
use Rattle.dali_concurrent.specs.Worked.{from, worked_bases, outset, refusal, opening, index_words, heap_words, index_held, index_done, heap_held, heap_dead, heap_free, flushed_vault, y0, y1, y2, y3, y4, y5, y6, y7, y8, y9, y10, y11, y12, y13, y14, y16, y17, begins_1, begins_2, gets_lock, yields, latches, operates, answers, commits, takes, flushes, ends_1, ends_2, begins_3, latches_again, dies, claims, recovers, ends_3, audit_begins, passes_index, passes_heap, audit_ends, takes_again, fails, t0, t1, t2, t3, t4, t5, t6, t7, t8, t9, t10, t11, t12, t13, t14, t15, t16, t17, t18, t19, t20, t21, t22, t23, t24, WorkedHistory}
use Rattle.dali_concurrent.proofs.Wrong.{one_more}
use Rattle.dali_concurrent.proofs.Kept.{fit_of}
use Rattle.dali_concurrent.proofs.Holds.{hold_is_of_actor, states_are_told}
use Rattle.dali_concurrent.proofs.Sorts.{record_is_right, region_steps_land, flush_lands, fault_lands}
use Rattle.dali_concurrent.proofs.Landing.{front_stands, step_lands}
use Rattle.dali_concurrent.proofs.Cases.{audit_begins_land, begins_land, answers_land, commits_land, claims_land, grants_land, yields_land, operates_land, ends_land, dies_land, recovers_land, takes_land, look_is_made}

-- ---- silent steps
pub one_silent : (s : StoreStep) → is_silent s ≡ true → (i : ℕ) (x : StoreStep) → slice_get (s ∷ []) i ≡ Some x → is_silent x ≡ true
one_silent s h zero x e = subst (λ z. is_silent z ≡ true) (some_same e) h
one_silent s h (suc i) x e = absurd (cc)

pub two_silent : (s r : StoreStep) → is_silent s ≡ true → is_silent r ≡ true → (i : ℕ) (x : StoreStep) → slice_get (s ∷ r ∷ []) i ≡ Some x → is_silent x ≡ true
two_silent s r h k zero x e = subst (λ z. is_silent z ≡ true) (some_same e) h
two_silent s r h k (suc i) x e = one_silent r k i x e

-- ---- the deeds
abbrev pub is_verdict : Deed → Bool
is_verdict (Logs (AuditClean b)) = true
is_verdict (Logs (AuditFail b found)) = true
is_verdict x = false

pub no_verdict : (x : Deed) → is_verdict x ≡ false → (b : ℕ) (found : List ℕ) → x ≡ Logs (audit_record b found) → ⊥
no_verdict x h b [] e = not_both_ways (ap is_verdict e) h
no_verdict x h b (r ∷ rs) e = not_both_ways (ap is_verdict e) h

pub of_one : (P : Entries) (c t u : ℕ) → Some t ≡ Some u → actor_by t P ≡ Some c → actor_by u P ≡ Some c
of_one P c t u e h = subst (λ v. actor_by v P ≡ Some c) (some_same e) h

-- ---- where it begins
none_there : (t : ℕ) → row_of y0 t ≡ None
none_there t = get-empty _ t

pub begins : BeginsAt worked_bases from outset
begins = record {
  core = refl;
  log = refl;
  run = bare_start_runs checkpoint_from starts.lawful starts.rules starts.rests.none starts.fits starts.rests.vault;
  between = record {
    rests = record {
      stopped = λ e. absurd (cc);
      holds = λ r g at live. none_held r g at live;
      flag = refl;
      free = λ t. ap (λ o. is_claimed_in (state_in o)) (none_there t);
    };
    idle = λ runs t some. absurd (let e : false ≡ true = sym (ap is_some (none_there t)) ∙ some in cc);
  };
  whole = load_is_whole small (formatted_image small) (passes rules_start (Format 1 1)) 1000000 first_vault refl;
  keeps = λ e. absurd (cc);
}
  where
    none_held : (r : ℕ) (g : RegionState) → slice_get from.core.regions r ≡ Some g → IsLive g → ⊥
    none_held zero g at live = subst (λ z. IsLive z → ⊥) (some_same at) (λ no. absurd no) live
    none_held (suc zero) g at live = subst (λ z. IsLive z → ⊥) (some_same at) (λ no. absurd no) live
    none_held (suc (suc r)) g at live = absurd (cc)

pub led : (T : History) → AllFollow worked_bases from outset T → IsLed worked_bases from outset T
led T all = record { begins = begins; all = all }

pub states : (T : History) (all : AllFollow worked_bases from outset T) (t : ℕ) → state_of (core_told outset T).system t ≡ state_by outset (plain T) t
states T all t = states_are_told worked_bases from outset T t (led T all)

all_0 : AllFollow worked_bases from outset t0
all_0 i e at = absurd (cc)

-- begins_1
unbegun_0 : state_by outset (plain t0) 1 ≡ None
unbegun_0 = ap state_in (none_there 1)

free_0 : AllFollow worked_bases from outset t0 → NoneLive (plain t0) 1
free_0 all r c live = go r (hold_is_of_actor outset (plain t0) r 1 c (fit_of worked_bases from outset t0 all) live).0 live
  where
    go : (r : ℕ) → r < 2 → live_by r (plain t0) ≡ Some (1, c) → ⊥
    go zero h e = absurd (cc)
    go (suc zero) h e = absurd (cc)
    go (suc (suc r)) h e = absurd (omega (arith, h))

holds_1 : (r : ℕ) (g : RegionState) → r < 2 → slice_get (core_told outset t1).regions r ≡ Some g → HoldIs outset r g (plain t1)
holds_1 zero g h at = subst (λ z. HoldIs outset 0 z (plain t1)) (some_same at) (record { live = refl; dead = refl })
holds_1 (suc zero) g h at = subst (λ z. HoldIs outset 1 z (plain t1)) (some_same at) (record { live = refl; dead = refl })
holds_1 (suc (suc r)) g h at = absurd (omega (arith, h))

pub all_1 : AllFollow worked_bases from outset t1
all_1 = one_more worked_bases from outset t0 begins_1 all_0 (record {
  fits = record { by = λ k h. h; fits = record { txn = (unbegun_0, free_0 all_0); acts = λ t e. absurd (cc); audited = λ b found e. absurd (no_verdict (Logs (Begin 1)) refl b found e); looked = λ r h. absurd (cc); held = tt } };
  effect = refl;
  lands = begins_land worked_bases from outset t0 (5 ∷ 0 ∷ []) 1 y0 refl (record { runs = refl; room = omega arith });
  silent = λ none. one_silent (Does Begins) refl;
  steps = refl;
  writes = refl;
  holds = λ r g h sign at. holds_1 r g h at;
  checks = λ f. absurd (cc);
})

-- begins_2
unbegun_1 : state_by outset (plain t1) 2 ≡ None
unbegun_1 = ap state_in (none_there 2)

free_1 : AllFollow worked_bases from outset t1 → NoneLive (plain t1) 2
free_1 all r c live = go r (hold_is_of_actor outset (plain t1) r 2 c (fit_of worked_bases from outset t1 all) live).0 live
  where
    go : (r : ℕ) → r < 2 → live_by r (plain t1) ≡ Some (2, c) → ⊥
    go zero h e = absurd (cc)
    go (suc zero) h e = absurd (cc)
    go (suc (suc r)) h e = absurd (omega (arith, h))

holds_2 : (r : ℕ) (g : RegionState) → r < 2 → slice_get (core_told outset t2).regions r ≡ Some g → HoldIs outset r g (plain t2)
holds_2 zero g h at = subst (λ z. HoldIs outset 0 z (plain t2)) (some_same at) (record { live = refl; dead = refl })
holds_2 (suc zero) g h at = subst (λ z. HoldIs outset 1 z (plain t2)) (some_same at) (record { live = refl; dead = refl })
holds_2 (suc (suc r)) g h at = absurd (omega (arith, h))

pub all_2 : AllFollow worked_bases from outset t2
all_2 = one_more worked_bases from outset t1 begins_2 all_1 (record {
  fits = record { by = λ k h. h; fits = record { txn = (unbegun_1, free_1 all_1); acts = λ t e. absurd (cc); audited = λ b found e. absurd (no_verdict (Logs (Begin 2)) refl b found e); looked = λ r h. absurd (cc); held = tt } };
  effect = refl;
  lands = begins_land worked_bases from outset t1 (6 ∷ 0 ∷ []) 2 y1 refl (record { runs = refl; room = omega arith });
  silent = λ none. one_silent (Does Begins) refl;
  steps = refl;
  writes = refl;
  holds = λ r g h sign at. holds_2 r g h at;
  checks = λ f. absurd (cc);
})

-- gets_lock
live_2 : state_of y2 1 ≡ Some Live
live_2 = states t2 all_2 1

holds_3 : (r : ℕ) (g : RegionState) → r < 2 → slice_get (core_told outset t3).regions r ≡ Some g → HoldIs outset r g (plain t3)
holds_3 zero g h at = subst (λ z. HoldIs outset 0 z (plain t3)) (some_same at) (record { live = refl; dead = refl })
holds_3 (suc zero) g h at = subst (λ z. HoldIs outset 1 z (plain t3)) (some_same at) (record { live = refl; dead = refl })
holds_3 (suc (suc r)) g h at = absurd (omega (arith, h))

pub all_3 : AllFollow worked_bases from outset t3
all_3 = one_more worked_bases from outset t2 gets_lock all_2 (record {
  fits = record { by = λ k h. h; fits = record { txn = tt; acts = λ u e. of_one (plain t2) 1 1 u e refl; audited = λ b found e. absurd (no_verdict (GetsLock 1 5 Exclusive) refl b found e); looked = λ r h. absurd (cc); held = tt } };
  effect = refl;
  lands = grants_land worked_bases from outset t2 (5 ∷ 0 ∷ []) 1 1 5 Exclusive y2 refl refl live_2 (λ u n d e. absurd (no_lock u 5 n e));
  silent = λ none. one_silent (Does (Locks 1 5 Exclusive)) refl;
  steps = refl;
  writes = refl;
  holds = λ r g h sign at. holds_3 r g h at;
  checks = λ f. absurd (cc);
})

-- yields
-- transaction 1 holds the key, and nobody else does
holds_key : get y3.locks (1, 5) ≡ Some Exclusive
holds_key = get-locks_with empty 1 5 Exclusive 1 5 ∙ ap (λ (o : Option Mode). Some (stronger_mode o Exclusive)) (get-empty lock_cmp (1, 5))

nobody_else : get y3.locks (0, 5) ≡ None
nobody_else = get-locks_with empty 1 5 Exclusive 0 5 ∙ get-empty lock_cmp (0, 5)

oldest : (u : ℕ) → IsConflict y3.locks 2 5 Shared u → 1 ≤ u
oldest zero way = absurd (let none : None ≡ Some way.mode = sym nobody_else ∙ way.holds in cc)
oldest (suc u) way = omega arith

in_the_way : IsOldestConflict y3.locks 2 5 Shared 1
in_the_way = record { conflict = record { other = refl; mode = Exclusive; holds = holds_key; clash = refl }; oldest = oldest }

row_some : (row : Option TxnRow) → state_in row ≡ Some Live → IsSome row
row_some None e = absurd (cc)
row_some (Some row) e = refl

row_3 : IsSome (row_of y3 2)
row_3 = row_some (row_of y3 2) (states t3 all_3 2)

right_3 : RightHere worked_bases from outset t3 (Did (Yields refusal) 2) (OnSystem y4)
right_3 q at = (
  (
    refl,
    refl,
    refl,
    record {
      mode = Exclusive;
      holds = ap (λ (o : Option Mode). Some (stronger_mode o Exclusive)) (get-empty lock_cmp (1, 5));
      clash = refl;
      by_another = inr (1, Exclusive, refl, (2, omega arith, refl));
      unclaimed = λ e. refl;
    },
  ),
  tt,
)

holds_4 : (r : ℕ) (g : RegionState) → r < 2 → slice_get (core_told outset t4).regions r ≡ Some g → HoldIs outset r g (plain t4)
holds_4 zero g h at = subst (λ z. HoldIs outset 0 z (plain t4)) (some_same at) (record { live = refl; dead = refl })
holds_4 (suc zero) g h at = subst (λ z. HoldIs outset 1 z (plain t4)) (some_same at) (record { live = refl; dead = refl })
holds_4 (suc (suc r)) g h at = absurd (omega (arith, h))

pub all_4 : AllFollow worked_bases from outset t4
all_4 = one_more worked_bases from outset t3 yields all_3 (record {
  fits = record { by = λ k h. h; fits = record { txn = tt; acts = λ u e. of_one (plain t3) 2 2 u e refl; audited = λ b found e. absurd (no_verdict (Yields refusal) refl b found e); looked = λ r h. absurd (cc); held = tt } };
  effect = refl;
  lands = yields_land worked_bases from outset t3 (6 ∷ 0 ∷ []) 2 2 5 1 Shared y3 (Yields refusal) refl row_3 (in_the_way, omega arith) (inl refl) right_3;
  silent = λ none. one_silent (Does (Refuses 2 5 Shared 1)) refl;
  steps = refl;
  writes = refl;
  holds = λ r g h sign at. holds_4 r g h at;
  checks = λ f. absurd (cc);
})

-- latches
holds_5 : (r : ℕ) (g : RegionState) → r < 2 → slice_get (core_told outset t5).regions r ≡ Some g → HoldIs outset r g (plain t5)
holds_5 zero g h at = subst (λ z. HoldIs outset 0 z (plain t5)) (some_same at) (record { live = refl; dead = refl })
holds_5 (suc zero) g h at = subst (λ z. HoldIs outset 1 z (plain t5)) (some_same at) (record { live = refl; dead = refl })
holds_5 (suc (suc r)) g h at = absurd (omega (arith, h))

pub all_5 : AllFollow worked_bases from outset t5
all_5 = one_more worked_bases from outset t4 latches all_4 (record {
  fits = record { by = λ k h. h; fits = record { within = omega arith; acts = refl; free = (refl, refl) } };
  effect = refl;
  lands = region_steps_land worked_bases from outset t4 (5 ∷ 2 ∷ []) (Latched 0 1 1) 0 opening (loaded index_words) refl refl (refl, refl, refl, alive_by _ Live (states t4 all_4 1) refl, (refl, refl, ((refl, refl), omega arith), tt, tt));
  silent = λ none. two_silent (Does (StepsOn 0 (Latch 1))) (Does (StepsOn 0 (NoteReads look.read))) refl refl;
  steps = refl;
  writes = refl;
  holds = λ r g h sign at. holds_5 r g h at;
  checks = λ f. absurd (cc);
})

-- operates
look_5 : LookFits outset (plain t5) 1 0
look_5 = record { place = 4; notes = 5 ∷ 2 ∷ []; txn = 1; there = refl; alone = refl; held = refl; live = refl; right = λ check g at. subst (λ (z : RegionState). stray_after 0 z.stray [] ≡ 0) (some_same at) refl }

fits_5 : DeedFits outset (plain t5) (Logs (Forward 1 look)) 1
fits_5 = record { txn = tt; acts = λ u e. of_one (plain t5) 1 1 u e refl; audited = λ b found e. absurd (no_verdict (Logs (Forward 1 look)) refl b found e); looked = λ r h. subst (LookFits outset (plain t5) 1) (eqb-true 0 r h) look_5; held = refl }

has_looked_5 : HasLookedFor (world_told outset t5) 1 (Logs (Forward 1 look))
has_looked_5 = look_is_made outset t5 1 (Logs (Forward 1 look)) (fit_of worked_bases from outset t5 all_5) fits_5

are_words : AreWords index_words
are_words = (refl, omega arith)

look_made : look ≡ made index_words 5 0 Look
look_made = are_made.looks

is_look : IsBlock look
is_look = subst IsBlock (sym look_made) (made_is_block Look 5 0 index_words tt (omega arith) (omega arith) are_words)

protected_held : IsProtected index_held × ReadsFit index_held.hold
protected_held = noted (latched 1 (loaded index_words)) look.read _ refl (latched_keeps (loaded index_words) 1 (loaded_keeps index_words are_words) refl) (omega arith) (refl, refl) (omega arith)

covered : (d : Bool) → covers (lock_of y4 1 5) d ≡ true
covered d = ap (λ o. covers o d) holds_key

may_look : MayLogHeld (log_by outset (plain t5)) y4 (Forward 1 look) 1 look index_held
may_look = record {
  runs = refl;
  spelled = (omega arith, is_look, refl);
  next = refl;
  by = logs_by _ Live (Forward 1 look) (states t5 all_5 1) refl;
  kind = refl;
  locked = covered false;
  hand = record {
    within = omega arith;
    protected = protected_held.0;
    reads = protected_held.1;
    is_open = record { hold = refl; reads = refl; sound = λ h. sym look_made; stands = λ h. refl };
  };
}

holds_6 : (r : ℕ) (g : RegionState) → r < 2 → slice_get (core_told outset t6).regions r ≡ Some g → HoldIs outset r g (plain t6)
holds_6 zero g h at = subst (λ z. HoldIs outset 0 z (plain t6)) (some_same at) (record { live = refl; dead = refl })
holds_6 (suc zero) g h at = subst (λ z. HoldIs outset 1 z (plain t6)) (some_same at) (record { live = refl; dead = refl })
holds_6 (suc (suc r)) g h at = absurd (omega (arith, h))

pub all_6 : AllFollow worked_bases from outset t6
all_6 = one_more worked_bases from outset t5 operates all_5 (record {
  fits = record { by = λ k h. h; fits = record { txn = tt; acts = λ u e. of_one (plain t5) 1 1 u e refl; audited = λ b found e. absurd (no_verdict (Logs (Forward 1 look)) refl b found e); looked = λ r h. subst (LookFits outset (plain t5) 1) (eqb-true 0 r h) look_5; held = refl } };
  effect = (refl, refl);
  lands = operates_land worked_bases from outset t5 (5 ∷ 0 ∷ 2 ∷ []) 1 1 look y4 index_held refl refl (record { runs = refl; room = omega arith }) may_look has_looked_5;
  silent = λ none. one_silent (Does (Operates 1 look)) refl;
  steps = refl;
  writes = refl;
  holds = λ r g h sign at. holds_6 r g h at;
  checks = λ f. absurd (cc);
})

-- answers
holds_7 : (r : ℕ) (g : RegionState) → r < 2 → slice_get (core_told outset t7).regions r ≡ Some g → HoldIs outset r g (plain t7)
holds_7 zero g h at = subst (λ z. HoldIs outset 0 z (plain t7)) (some_same at) (record { live = refl; dead = refl })
holds_7 (suc zero) g h at = subst (λ z. HoldIs outset 1 z (plain t7)) (some_same at) (record { live = refl; dead = refl })
holds_7 (suc (suc r)) g h at = absurd (omega (arith, h))

pub all_7 : AllFollow worked_bases from outset t7
all_7 = one_more worked_bases from outset t6 answers all_6 (record {
  fits = record { by = λ k h. h; fits = record { txn = tt; acts = λ u e. of_one (plain t6) 1 1 u e refl; audited = λ b found e. absurd (no_verdict (Logs (Done 1 (Get 5) Missing)) refl b found e); looked = λ r h. absurd (cc); held = tt } };
  effect = refl;
  lands = answers_land worked_bases from outset t6 (5 ∷ 0 ∷ []) 1 1 (Get 5) Missing y5 refl (record { runs = refl; room = omega arith }) (omega arith, omega arith, tt, refl) (record { next = refl; by = logs_by _ Live (Done 1 (Get 5) Missing) (states t6 all_6 1) refl });
  silent = λ none. one_silent (Does (Answers 1 (Get 5) Missing)) refl;
  steps = refl;
  writes = refl;
  holds = λ r g h sign at. holds_7 r g h at;
  checks = λ f. absurd (cc);
})

-- commits
holds_8 : (r : ℕ) (g : RegionState) → r < 2 → slice_get (core_told outset t8).regions r ≡ Some g → HoldIs outset r g (plain t8)
holds_8 zero g h at = subst (λ z. HoldIs outset 0 z (plain t8)) (some_same at) (record { live = refl; dead = refl })
holds_8 (suc zero) g h at = subst (λ z. HoldIs outset 1 z (plain t8)) (some_same at) (record { live = refl; dead = refl })
holds_8 (suc (suc r)) g h at = absurd (omega (arith, h))

pub all_8 : AllFollow worked_bases from outset t8
all_8 = one_more worked_bases from outset t7 commits all_7 (record {
  fits = record { by = λ k h. h; fits = record { txn = refl; acts = λ u e. of_one (plain t7) 1 1 u e refl; audited = λ b found e. absurd (no_verdict (Logs (Commit 1)) refl b found e); looked = λ r h. absurd (cc); held = tt } };
  effect = refl;
  lands = commits_land worked_bases from outset t7 (5 ∷ 0 ∷ []) 1 1 y6 refl refl (record { next = refl; by = logs_by _ Live (Commit 1) (states t7 all_7 1) refl });
  silent = λ none. one_silent (Does (Commits 1)) refl;
  steps = refl;
  writes = refl;
  holds = λ r g h sign at. holds_8 r g h at;
  checks = λ f. absurd (cc);
})

-- takes
holds_9 : (r : ℕ) (g : RegionState) → r < 2 → slice_get (core_told outset t9).regions r ≡ Some g → HoldIs outset r g (plain t9)
holds_9 zero g h at = subst (λ z. HoldIs outset 0 z (plain t9)) (some_same at) (record { live = refl; dead = refl })
holds_9 (suc zero) g h at = subst (λ z. HoldIs outset 1 z (plain t9)) (some_same at) (record { live = refl; dead = refl })
holds_9 (suc (suc r)) g h at = absurd (omega (arith, h))

pub all_9 : AllFollow worked_bases from outset t9
all_9 = one_more worked_bases from outset t8 takes all_8 (record {
  fits = record { by = λ k h. h; fits = tt };
  effect = refl;
  lands = takes_land worked_bases from outset t8 (0 ∷ 1 ∷ []) y7 refl;
  silent = λ none. absurd (cc);
  steps = refl;
  writes = refl;
  holds = λ r g h sign at. holds_9 r g h at;
  checks = λ f. absurd (cc);
})

-- flushes
holds_10 : (r : ℕ) (g : RegionState) → r < 2 → slice_get (core_told outset t10).regions r ≡ Some g → HoldIs outset r g (plain t10)
holds_10 zero g h at = subst (λ z. HoldIs outset 0 z (plain t10)) (some_same at) (record { live = refl; dead = refl })
holds_10 (suc zero) g h at = subst (λ z. HoldIs outset 1 z (plain t10)) (some_same at) (record { live = refl; dead = refl })
holds_10 (suc (suc r)) g h at = absurd (omega (arith, h))

pub all_10 : AllFollow worked_bases from outset t10
all_10 = one_more worked_bases from outset t9 flushes all_9 (record {
  fits = record { by = λ k h. h; fits = tt };
  effect = refl;
  lands = flush_lands worked_bases from outset t9 (1 ∷ []) first_vault (Begin 1 ∷ Begin 2 ∷ Forward 1 look ∷ Done 1 (Get 5) Missing ∷ Commit 1 ∷ []) refl refl refl;
  silent = λ none. absurd (cc);
  steps = refl;
  writes = refl;
  holds = λ r g h sign at. holds_10 r g h at;
  checks = λ f. absurd (cc);
})

-- ends_1
free_10 : AllFollow worked_bases from outset t10 → NoneLive (plain t10) 1
free_10 all r c live = go r (hold_is_of_actor outset (plain t10) r 1 c (fit_of worked_bases from outset t10 all) live).0 live
  where
    go : (r : ℕ) → r < 2 → live_by r (plain t10) ≡ Some (1, c) → ⊥
    go zero h e = absurd (cc)
    go (suc zero) h e = absurd (cc)
    go (suc (suc r)) h e = absurd (omega (arith, h))

undead_10 : (r : ℕ) → r < 2 → dead_by outset r (plain t10) ≡ Some 1 → ⊥
undead_10 zero h e = absurd (cc)
undead_10 (suc zero) h e = absurd (cc)
undead_10 (suc (suc r)) h e = absurd (omega (arith, h))

holds_11 : (r : ℕ) (g : RegionState) → r < 2 → slice_get (core_told outset t11).regions r ≡ Some g → HoldIs outset r g (plain t11)
holds_11 zero g h at = subst (λ z. HoldIs outset 0 z (plain t11)) (some_same at) (record { live = refl; dead = refl })
holds_11 (suc zero) g h at = subst (λ z. HoldIs outset 1 z (plain t11)) (some_same at) (record { live = refl; dead = refl })
holds_11 (suc (suc r)) g h at = absurd (omega (arith, h))

pub all_11 : AllFollow worked_bases from outset t11
all_11 = one_more worked_bases from outset t10 ends_1 all_10 (record {
  fits = record { by = λ k h. h; fits = record { txn = tt; acts = λ u e. of_one (plain t10) 1 1 u e refl; audited = λ b found e. absurd (no_verdict (Logs (Ended 1)) refl b found e); looked = λ r h. absurd (cc); held = tt } };
  effect = refl;
  lands = ends_land worked_bases from outset t10 (5 ∷ 0 ∷ []) 1 1 y8 refl refl (record { next = refl; by = logs_by _ Committed (Ended 1) (states t10 all_10 1) refl }) (led t10 all_10) (free_10 all_10) undead_10;
  silent = λ none. one_silent (Does (Ends 1)) refl;
  steps = refl;
  writes = refl;
  holds = λ r g h sign at. holds_11 r g h at;
  checks = λ f. absurd (cc);
})

-- ends_2
free_11 : AllFollow worked_bases from outset t11 → NoneLive (plain t11) 2
free_11 all r c live = go r (hold_is_of_actor outset (plain t11) r 2 c (fit_of worked_bases from outset t11 all) live).0 live
  where
    go : (r : ℕ) → r < 2 → live_by r (plain t11) ≡ Some (2, c) → ⊥
    go zero h e = absurd (cc)
    go (suc zero) h e = absurd (cc)
    go (suc (suc r)) h e = absurd (omega (arith, h))

undead_11 : (r : ℕ) → r < 2 → dead_by outset r (plain t11) ≡ Some 2 → ⊥
undead_11 zero h e = absurd (cc)
undead_11 (suc zero) h e = absurd (cc)
undead_11 (suc (suc r)) h e = absurd (omega (arith, h))

holds_12 : (r : ℕ) (g : RegionState) → r < 2 → slice_get (core_told outset t12).regions r ≡ Some g → HoldIs outset r g (plain t12)
holds_12 zero g h at = subst (λ z. HoldIs outset 0 z (plain t12)) (some_same at) (record { live = refl; dead = refl })
holds_12 (suc zero) g h at = subst (λ z. HoldIs outset 1 z (plain t12)) (some_same at) (record { live = refl; dead = refl })
holds_12 (suc (suc r)) g h at = absurd (omega (arith, h))

pub all_12 : AllFollow worked_bases from outset t12
all_12 = one_more worked_bases from outset t11 ends_2 all_11 (record {
  fits = record { by = λ k h. h; fits = record { txn = tt; acts = λ u e. of_one (plain t11) 2 2 u e refl; audited = λ b found e. absurd (no_verdict (Logs (Ended 2)) refl b found e); looked = λ r h. absurd (cc); held = tt } };
  effect = refl;
  lands = ends_land worked_bases from outset t11 (6 ∷ 0 ∷ []) 2 2 y9 refl refl (record { next = refl; by = logs_by _ Live (Ended 2) (states t11 all_11 2) refl }) (led t11 all_11) (free_11 all_11) undead_11;
  silent = λ none. one_silent (Does (Ends 2)) refl;
  steps = refl;
  writes = refl;
  holds = λ r g h sign at. holds_12 r g h at;
  checks = λ f. absurd (cc);
})

-- begins_3
unbegun_12 : state_by outset (plain t12) 3 ≡ None
unbegun_12 = ap state_in (none_there 3)

free_12 : AllFollow worked_bases from outset t12 → NoneLive (plain t12) 3
free_12 all r c live = go r (hold_is_of_actor outset (plain t12) r 3 c (fit_of worked_bases from outset t12 all) live).0 live
  where
    go : (r : ℕ) → r < 2 → live_by r (plain t12) ≡ Some (3, c) → ⊥
    go zero h e = absurd (cc)
    go (suc zero) h e = absurd (cc)
    go (suc (suc r)) h e = absurd (omega (arith, h))

holds_13 : (r : ℕ) (g : RegionState) → r < 2 → slice_get (core_told outset t13).regions r ≡ Some g → HoldIs outset r g (plain t13)
holds_13 zero g h at = subst (λ z. HoldIs outset 0 z (plain t13)) (some_same at) (record { live = refl; dead = refl })
holds_13 (suc zero) g h at = subst (λ z. HoldIs outset 1 z (plain t13)) (some_same at) (record { live = refl; dead = refl })
holds_13 (suc (suc r)) g h at = absurd (omega (arith, h))

pub all_13 : AllFollow worked_bases from outset t13
all_13 = one_more worked_bases from outset t12 begins_3 all_12 (record {
  fits = record { by = λ k h. h; fits = record { txn = (unbegun_12, free_12 all_12); acts = λ t e. absurd (cc); audited = λ b found e. absurd (no_verdict (Logs (Begin 3)) refl b found e); looked = λ r h. absurd (cc); held = tt } };
  effect = refl;
  lands = begins_land worked_bases from outset t12 (5 ∷ 0 ∷ []) 1 y10 refl (record { runs = refl; room = omega arith });
  silent = λ none. one_silent (Does Begins) refl;
  steps = refl;
  writes = refl;
  holds = λ r g h sign at. holds_13 r g h at;
  checks = λ f. absurd (cc);
})

-- latches_again
holds_14 : (r : ℕ) (g : RegionState) → r < 2 → slice_get (core_told outset t14).regions r ≡ Some g → HoldIs outset r g (plain t14)
holds_14 zero g h at = subst (λ z. HoldIs outset 0 z (plain t14)) (some_same at) (record { live = refl; dead = refl })
holds_14 (suc zero) g h at = subst (λ z. HoldIs outset 1 z (plain t14)) (some_same at) (record { live = refl; dead = refl })
holds_14 (suc (suc r)) g h at = absurd (omega (arith, h))

pub all_14 : AllFollow worked_bases from outset t14
all_14 = one_more worked_bases from outset t13 latches_again all_13 (record {
  fits = record { by = λ k h. h; fits = record { within = omega arith; acts = refl; free = (refl, refl) } };
  effect = refl;
  lands = region_steps_land worked_bases from outset t13 (5 ∷ 3 ∷ []) (Latched 1 3 1) 1 (Latch 3 ∷ []) (loaded heap_words) refl refl (refl, refl, refl, alive_by _ Live (states t13 all_13 3) refl, tt);
  silent = λ none. one_silent (Does (StepsOn 1 (Latch 3))) refl;
  steps = refl;
  writes = refl;
  holds = λ r g h sign at. holds_14 r g h at;
  checks = λ f. absurd (cc);
})

-- dies
look_14 : LookFits outset (plain t14) 1 1
look_14 = record { place = 13; notes = 5 ∷ 3 ∷ []; txn = 3; there = refl; alone = refl; held = refl; live = refl; right = λ check g at. subst (λ (z : RegionState). stray_after 1 z.stray [] ≡ 0) (some_same at) refl }

fits_14 : DeedFits outset (plain t14) (DiesOn 3 1) 1
fits_14 = record { txn = tt; acts = λ u e. of_one (plain t14) 1 3 u e refl; audited = λ b found e. absurd (no_verdict (DiesOn 3 1) refl b found e); looked = λ r h. subst (LookFits outset (plain t14) 1) (eqb-true 1 r h) look_14; held = refl }

has_looked_14 : HasLookedFor (world_told outset t14) 1 (DiesOn 3 1)
has_looked_14 = look_is_made outset t14 1 (DiesOn 3 1) (fit_of worked_bases from outset t14 all_14) fits_14

only_14 : (q d : ℕ) → live_by q (plain t14) ≡ Some (3, d) → 1 ≡ q
only_14 q d live = go q (hold_is_of_actor outset (plain t14) q 3 d (fit_of worked_bases from outset t14 all_14) live).0 live
  where
    go : (q : ℕ) → q < 2 → live_by q (plain t14) ≡ Some (3, d) → 1 ≡ q
    go zero h e = absurd (cc)
    go (suc zero) h e = refl
    go (suc (suc r)) h e = absurd (omega (arith, h))

holds_15 : (r : ℕ) (g : RegionState) → r < 2 → slice_get (core_told outset t15).regions r ≡ Some g → HoldIs outset r g (plain t15)
holds_15 zero g h at = subst (λ z. HoldIs outset 0 z (plain t15)) (some_same at) (record { live = refl; dead = refl })
holds_15 (suc zero) g h at = subst (λ z. HoldIs outset 1 z (plain t15)) (some_same at) (record { live = refl; dead = refl })
holds_15 (suc (suc r)) g h at = absurd (omega (arith, h))

pub all_15 : AllFollow worked_bases from outset t15
all_15 = one_more worked_bases from outset t14 dies all_14 (record {
  fits = record { by = λ k h. h; fits = fits_14 };
  effect = (refl, refl);
  lands = dies_land worked_bases from outset t14 (5 ∷ 0 ∷ 3 ∷ []) 1 3 1 y11 heap_held refl refl (states t14 all_14 3) refl (led t14 all_14) only_14 has_looked_14;
  silent = λ none. one_silent (Does (Dies 3 (Some 1))) refl;
  steps = refl;
  writes = refl;
  holds = λ r g h sign at. holds_15 r g h at;
  checks = λ f. absurd (cc);
})

-- claims
free_15 : AllFollow worked_bases from outset t15 → NoneLive (plain t15) 3
free_15 all r c live = go r (hold_is_of_actor outset (plain t15) r 3 c (fit_of worked_bases from outset t15 all) live).0 live
  where
    go : (r : ℕ) → r < 2 → live_by r (plain t15) ≡ Some (3, c) → ⊥
    go zero h e = absurd (cc)
    go (suc zero) h e = absurd (cc)
    go (suc (suc r)) h e = absurd (omega (arith, h))

holds_16 : (r : ℕ) (g : RegionState) → r < 2 → slice_get (core_told outset t16).regions r ≡ Some g → HoldIs outset r g (plain t16)
holds_16 zero g h at = subst (λ z. HoldIs outset 0 z (plain t16)) (some_same at) (record { live = refl; dead = refl })
holds_16 (suc zero) g h at = subst (λ z. HoldIs outset 1 z (plain t16)) (some_same at) (record { live = refl; dead = refl })
holds_16 (suc (suc r)) g h at = absurd (omega (arith, h))

pub all_16 : AllFollow worked_bases from outset t16
all_16 = one_more worked_bases from outset t15 claims all_15 (record {
  fits = record { by = λ k h. h; fits = record { txn = (refl, free_15 all_15); acts = λ t e. absurd (cc); audited = λ b found e. absurd (no_verdict (Claims 3) refl b found e); looked = λ r h. absurd (cc); held = tt } };
  effect = refl;
  lands = claims_land worked_bases from outset t15 (6 ∷ 0 ∷ []) 2 3 (Some 1) y12 refl (states t15 all_15 3);
  silent = λ none. one_silent (Does (ClaimsTxn 3)) refl;
  steps = refl;
  writes = refl;
  holds = λ r g h sign at. holds_16 r g h at;
  checks = λ f. absurd (cc);
})

-- recovers
holds_17 : (r : ℕ) (g : RegionState) → r < 2 → slice_get (core_told outset t17).regions r ≡ Some g → HoldIs outset r g (plain t17)
holds_17 zero g h at = subst (λ z. HoldIs outset 0 z (plain t17)) (some_same at) (record { live = refl; dead = refl })
holds_17 (suc zero) g h at = subst (λ z. HoldIs outset 1 z (plain t17)) (some_same at) (record { live = refl; dead = refl })
holds_17 (suc (suc r)) g h at = absurd (omega (arith, h))

pub all_17 : AllFollow worked_bases from outset t17
all_17 = one_more worked_bases from outset t16 recovers all_16 (record {
  fits = record { by = λ k h. h; fits = record { txn = 3; acts = refl; held = inr refl } };
  effect = refl;
  lands = recovers_land worked_bases from outset t16 (6 ∷ 3 ∷ []) (Freed 1 2) 1 heap_dead refl refl (record { hold = record { txn = 3; dead = true; read = 0; xor = 0; write = 0 }; at = refl; dead = refl; latched = Some 1; claimed = states t16 all_16 3 });
  silent = λ none. one_silent (Does (Recovers 1)) refl;
  steps = inr refl;
  writes = refl;
  holds = λ r g h sign at. holds_17 r g h at;
  checks = λ f. absurd (cc);
})

-- ends_3
free_17 : AllFollow worked_bases from outset t17 → NoneLive (plain t17) 3
free_17 all r c live = go r (hold_is_of_actor outset (plain t17) r 3 c (fit_of worked_bases from outset t17 all) live).0 live
  where
    go : (r : ℕ) → r < 2 → live_by r (plain t17) ≡ Some (3, c) → ⊥
    go zero h e = absurd (cc)
    go (suc zero) h e = absurd (cc)
    go (suc (suc r)) h e = absurd (omega (arith, h))

undead_17 : (r : ℕ) → r < 2 → dead_by outset r (plain t17) ≡ Some 3 → ⊥
undead_17 zero h e = absurd (cc)
undead_17 (suc zero) h e = absurd (cc)
undead_17 (suc (suc r)) h e = absurd (omega (arith, h))

holds_18 : (r : ℕ) (g : RegionState) → r < 2 → slice_get (core_told outset t18).regions r ≡ Some g → HoldIs outset r g (plain t18)
holds_18 zero g h at = subst (λ z. HoldIs outset 0 z (plain t18)) (some_same at) (record { live = refl; dead = refl })
holds_18 (suc zero) g h at = subst (λ z. HoldIs outset 1 z (plain t18)) (some_same at) (record { live = refl; dead = refl })
holds_18 (suc (suc r)) g h at = absurd (omega (arith, h))

pub all_18 : AllFollow worked_bases from outset t18
all_18 = one_more worked_bases from outset t17 ends_3 all_17 (record {
  fits = record { by = λ k h. h; fits = record { txn = tt; acts = λ u e. of_one (plain t17) 2 3 u e refl; audited = λ b found e. absurd (no_verdict (Logs (Ended 3)) refl b found e); looked = λ r h. absurd (cc); held = tt } };
  effect = refl;
  lands = ends_land worked_bases from outset t17 (6 ∷ 0 ∷ []) 2 3 y13 refl refl (record { next = refl; by = logs_by _ (Cleaning (Some 1)) (Ended 3) (states t17 all_17 3) refl }) (led t17 all_17) (free_17 all_17) undead_17;
  silent = λ none. one_silent (Does (Ends 3)) refl;
  steps = refl;
  writes = refl;
  holds = λ r g h sign at. holds_18 r g h at;
  checks = λ f. absurd (cc);
})

-- audit_begins
holds_19 : (r : ℕ) (g : RegionState) → r < 2 → slice_get (core_told outset t19).regions r ≡ Some g → HoldIs outset r g (plain t19)
holds_19 zero g h at = subst (λ z. HoldIs outset 0 z (plain t19)) (some_same at) (record { live = refl; dead = refl })
holds_19 (suc zero) g h at = subst (λ z. HoldIs outset 1 z (plain t19)) (some_same at) (record { live = refl; dead = refl })
holds_19 (suc (suc r)) g h at = absurd (omega (arith, h))

pub all_19 : AllFollow worked_bases from outset t19
all_19 = one_more worked_bases from outset t18 audit_begins all_18 (record {
  fits = record { by = λ k h. h; fits = record { txn = tt; acts = λ t e. absurd (cc); audited = λ b found e. absurd (no_verdict (Logs AuditBegin) refl b found e); looked = λ r h. absurd (cc); held = tt } };
  effect = refl;
  lands = audit_begins_land worked_bases from outset t18 (6 ∷ 0 ∷ []) 2 y14 refl refl (omega arith);
  silent = λ none. one_silent (Does AuditBegins) refl;
  steps = refl;
  writes = refl;
  holds = λ r g h sign at. holds_19 r g h at;
  checks = λ f. absurd (cc);
})

-- passes_index
-- what the audit has passed so far
last_landing : (T : History) (e : Line) (q : Point) → Stands worked_bases from outset (T ++ e ∷ []) q → (mid : Point) × Stands worked_bases from outset T mid × Landing outset T e mid q
last_landing T e q at =
    let w = front_stands worked_bases from outset T (e ∷ []) (T ++ e ∷ []) q begins refl at in
    (w.0, w.1, subst (λ z. Landing outset T e w.0 z) w.2.2 w.2.1)

index_pass : Pass
index_pass = record { region = 0; answer = 0 }

heap_pass : Pass
heap_pass = record { region = 1; answer = 0 }

set_at : (old : Audits) (n : ℕ) (ps : List Pass) → n ≡ 10 → audits_with old n ps 10 ≡ ps
set_at old n ps e = subst (λ m. audits_with old m ps 10 ≡ ps) (sym e) refl

none_passed : (q : Point) → Stands worked_bases from outset t19 q → q.audits 10 ≡ []
none_passed q at =
    let l = last_landing t18 audit_begins q at in
    let number : l.0.core.system.records ≡ 10 = ap (λ (c : CoreState). c.system.records) l.1.comes.core in
    ap (λ (z : Point). z.audits 10) (sym l.2.course.2) ∙ (ap (λ (z : Audits). z 10) l.2.course.1.1.1 ∙ set_at l.0.audits l.0.core.system.records [] number)

auditing_19 : IsAuditing small (log_by outset (plain t19)) 10
auditing_19 = record { named = λ g e. ap (λ (z : Rules). has z.audits 10 && not (has z.closed 10)) (some_same (sym e)); within = omega arith }

passing_19 : (q : Point) → Stands worked_bases from outset t19 q → IsTaken worked_bases from outset t19 (Passed 0 10 true) (OnRegion 0 (checked index_done)) (Passes 10 0) q
passing_19 q at = record {
  other = refl;
  log = (log_by outset (plain t19));
  step = (index_done, refl, (refl, refl));
  audits = audits_with q.audits 10 (q.audits 10 ++ pass_now (core_told outset t19) 0);
  passes = (record { auditing = auditing_19; unpassed = ap (λ ps. has_passed ps 0) (none_passed q at) }, refl);
  are = refl;
  right = tt;
  halts = λ h. absurd (cc);
}

holds_20 : (r : ℕ) (g : RegionState) → r < 2 → slice_get (core_told outset t20).regions r ≡ Some g → HoldIs outset r g (plain t20)
holds_20 zero g h at = subst (λ z. HoldIs outset 0 z (plain t20)) (some_same at) (record { live = refl; dead = refl })
holds_20 (suc zero) g h at = subst (λ z. HoldIs outset 1 z (plain t20)) (some_same at) (record { live = refl; dead = refl })
holds_20 (suc (suc r)) g h at = absurd (omega (arith, h))

pub all_20 : AllFollow worked_bases from outset t20
all_20 = one_more worked_bases from outset t19 passes_index all_19 (record {
  fits = record { by = λ k h. h; fits = record { begun = refl; tells = λ g at. subst (λ (z : RegionState). true ≡ (stray_after 0 z.stray (deeds_of (plain t19)) == 0)) (some_same at) refl } };
  effect = refl;
  lands = step_lands worked_bases from outset t19 (2 ∷ []) (Passed 0 10 true) (OnRegion 0 (checked index_done)) (Passes 10 0) passing_19;
  silent = λ none. one_silent (Does (Passes 10 0)) refl;
  steps = refl;
  writes = refl;
  holds = λ r g h sign at. holds_20 r g h at;
  checks = λ f. absurd (cc);
})

-- passes_heap
one_passed : (q : Point) → Stands worked_bases from outset t20 q → q.audits 10 ≡ index_pass ∷ []
unfolding index_pass
one_passed q at =
    let l = last_landing t19 passes_index q at in
    ap (λ (z : Point). z.audits 10) (sym l.2.course.2)
    ∙ (ap (λ (z : Audits). z 10) l.2.course.1.1.1.1
    ∙ (ap (λ ps. ps ++ pass_now l.0.core 0) (none_passed l.0 l.1) ∙ ap (λ (c : CoreState). pass_now c 0) l.1.comes.core))

passing_20 : (q : Point) → Stands worked_bases from outset t20 q → IsTaken worked_bases from outset t20 (Passed 1 10 true) (OnRegion 1 (checked heap_free)) (Passes 10 1) q
unfolding index_pass
passing_20 q at = record {
  other = refl;
  log = (log_by outset (plain t20));
  step = (heap_free, refl, (refl, refl));
  audits = audits_with q.audits 10 (q.audits 10 ++ pass_now (core_told outset t20) 1);
  passes = (record { auditing = auditing_19; unpassed = ap (λ ps. has_passed ps 1) (one_passed q at) }, refl);
  are = refl;
  right = tt;
  halts = λ h. absurd (cc);
}

holds_21 : (r : ℕ) (g : RegionState) → r < 2 → slice_get (core_told outset t21).regions r ≡ Some g → HoldIs outset r g (plain t21)
holds_21 zero g h at = subst (λ z. HoldIs outset 0 z (plain t21)) (some_same at) (record { live = refl; dead = refl })
holds_21 (suc zero) g h at = subst (λ z. HoldIs outset 1 z (plain t21)) (some_same at) (record { live = refl; dead = refl })
holds_21 (suc (suc r)) g h at = absurd (omega (arith, h))

pub all_21 : AllFollow worked_bases from outset t21
all_21 = one_more worked_bases from outset t20 passes_heap all_20 (record {
  fits = record { by = λ k h. h; fits = record { begun = refl; tells = λ g at. subst (λ (z : RegionState). true ≡ (stray_after 1 z.stray (deeds_of (plain t20)) == 0)) (some_same at) refl } };
  effect = refl;
  lands = step_lands worked_bases from outset t20 (3 ∷ []) (Passed 1 10 true) (OnRegion 1 (checked heap_free)) (Passes 10 1) passing_20;
  silent = λ none. one_silent (Does (Passes 10 1)) refl;
  steps = refl;
  writes = refl;
  holds = λ r g h sign at. holds_21 r g h at;
  checks = λ f. absurd (cc);
})

-- audit_ends
both_passed : (b : ℕ) (found : List ℕ) → Logs (AuditClean 10) ≡ Logs (audit_record b found) → (r : ℕ) → r < 2 → (n : ℕ) × (k : List ℕ) × At (plain t21) n (k, Passed r b (not (has found r)))
both_passed b [] e r h = let same : 10 ≡ b = cc in go b same r h
  where
    go : (b : ℕ) → 10 ≡ b → (r : ℕ) → r < 2 → (n : ℕ) × (k : List ℕ) × At (plain t21) n (k, Passed r b true)
    go b same zero h = (19, 2 ∷ [], ap (λ z. Some (2 ∷ [], Passed 0 z true)) same)
    go b same (suc zero) h = (20, 3 ∷ [], ap (λ z. Some (3 ∷ [], Passed 1 z true)) same)
    go b same (suc (suc r)) h = absurd (omega (arith, h))
both_passed b (x ∷ xs) e r h = absurd (cc)

audit_fits : (b : ℕ) (found : List ℕ) → Logs (AuditClean 10) ≡ Logs (audit_record b found) → AuditFits outset (plain t21) 2 b found
audit_fits b [] e = record { began = record { place = 18; notes = 6 ∷ 0 ∷ []; there = refl; number = let same : b ≡ 10 = cc in same }; passed = both_passed b [] e }
audit_fits b (x ∷ xs) e = absurd (cc)

all_passed : (q : Point) → Stands worked_bases from outset t21 q → q.audits 10 ≡ index_pass ∷ heap_pass ∷ []
unfolding index_pass heap_pass
all_passed q at =
    let l = last_landing t20 passes_heap q at in
    ap (λ (z : Point). z.audits 10) (sym l.2.course.2)
    ∙ (ap (λ (z : Audits). z 10) l.2.course.1.1.1.1
    ∙ (ap (λ ps. ps ++ pass_now l.0.core 1) (one_passed l.0 l.1) ∙ ap (λ (c : CoreState). index_pass ∷ pass_now c 1) l.1.comes.core))

verdict_of : (ps : List Pass) → index_pass ∷ heap_pass ∷ [] ≡ ps → IsVerdict small ps []
unfolding index_pass heap_pass
verdict_of ps e = subst (λ z. IsVerdict small z []) e (record { passed = passed; named = named })
  where
    passed : (r : ℕ) → r < 2 → has_passed (record { region = 0; answer = 0 } ∷ record { region = 1; answer = 0 } ∷ []) r ≡ true
    passed zero h = refl
    passed (suc zero) h = refl
    passed (suc (suc r)) h = absurd (omega (arith, h))

    named : (r : ℕ) → r < 2 → false ≡ has_found (record { region = 0; answer = 0 } ∷ record { region = 1; answer = 0 } ∷ []) r
    named zero h = refl
    named (suc zero) h = refl
    named (suc (suc r)) h = absurd (omega (arith, h))

ending_21 : (q : Point) → Stands worked_bases from outset t21 q → IsTaken worked_bases from outset t21 (Did (Logs (AuditClean 10)) 2) (OnSystem y16) (AuditEnds 10 []) q
ending_21 q at = record {
  other = refl;
  log = (log_by outset (plain t21)) ++ AuditClean 10 ∷ [];
  step = (record { runs = refl; auditing = auditing_19; spelled = omega arith; numbers = refl }, (refl, refl));
  audits = q.audits;
  passes = (verdict_of (q.audits 10) (sym (all_passed q at)), refl);
  are = (refl, record { since = omega arith; began = refl });
  right = record_is_right worked_bases from outset t21 q 2 (AuditClean 10) (effect_on (core_told outset t21) (OnSystem y16)) at refl;
  halts = λ h. absurd (cc);
}

holds_22 : (r : ℕ) (g : RegionState) → r < 2 → slice_get (core_told outset t22).regions r ≡ Some g → HoldIs outset r g (plain t22)
holds_22 zero g h at = subst (λ z. HoldIs outset 0 z (plain t22)) (some_same at) (record { live = refl; dead = refl })
holds_22 (suc zero) g h at = subst (λ z. HoldIs outset 1 z (plain t22)) (some_same at) (record { live = refl; dead = refl })
holds_22 (suc (suc r)) g h at = absurd (omega (arith, h))

pub all_22 : AllFollow worked_bases from outset t22
all_22 = one_more worked_bases from outset t21 audit_ends all_21 (record {
  fits = record { by = λ k h. h; fits = record { txn = tt; acts = λ t e. absurd (cc); audited = audit_fits; looked = λ r h. absurd (cc); held = tt } };
  effect = refl;
  lands = step_lands worked_bases from outset t21 (6 ∷ 0 ∷ []) (Did (Logs (AuditClean 10)) 2) (OnSystem y16) (AuditEnds 10 []) ending_21;
  silent = λ none. one_silent (Does (AuditEnds 10 [])) refl;
  steps = refl;
  writes = refl;
  holds = λ r g h sign at. holds_22 r g h at;
  checks = λ f. absurd (cc);
})

-- takes_again
holds_23 : (r : ℕ) (g : RegionState) → r < 2 → slice_get (core_told outset t23).regions r ≡ Some g → HoldIs outset r g (plain t23)
holds_23 zero g h at = subst (λ z. HoldIs outset 0 z (plain t23)) (some_same at) (record { live = refl; dead = refl })
holds_23 (suc zero) g h at = subst (λ z. HoldIs outset 1 z (plain t23)) (some_same at) (record { live = refl; dead = refl })
holds_23 (suc (suc r)) g h at = absurd (omega (arith, h))

pub all_23 : AllFollow worked_bases from outset t23
all_23 = one_more worked_bases from outset t22 takes_again all_22 (record {
  fits = record { by = λ k h. h; fits = tt };
  effect = refl;
  lands = takes_land worked_bases from outset t22 (0 ∷ 1 ∷ []) y16 refl;
  silent = λ none. absurd (cc);
  steps = refl;
  writes = refl;
  holds = λ r g h sign at. holds_23 r g h at;
  checks = λ f. absurd (cc);
})

-- fails
holds_24 : (r : ℕ) (g : RegionState) → r < 2 → slice_get (core_told outset t24).regions r ≡ Some g → HoldIs outset r g (plain t24)
holds_24 zero g h at = subst (λ z. HoldIs outset 0 z (plain t24)) (some_same at) (record { live = refl; dead = refl })
holds_24 (suc zero) g h at = subst (λ z. HoldIs outset 1 z (plain t24)) (some_same at) (record { live = refl; dead = refl })
holds_24 (suc (suc r)) g h at = absurd (omega (arith, h))

pub all_24 : AllFollow worked_bases from outset t24
all_24 = one_more worked_bases from outset t23 fails all_23 (record {
  fits = record { by = λ k h. h; fits = record { txn = tt; acts = λ t e. absurd (cc); audited = λ b found e. absurd (no_verdict (Meets StoreFailed) refl b found e); looked = λ r h. absurd (cc); held = tt } };
  effect = (refl, refl);
  lands = fault_lands worked_bases from outset t23 (6 ∷ 0 ∷ 1 ∷ []) 1 2 flushed_vault y17 refl refl refl (inl (omega arith));
  silent = λ none. absurd (cc);
  steps = refl;
  writes = refl;
  holds = λ r g h sign at. holds_24 r g h at;
  checks = λ f. absurd (cc);
})

pub worked_history : WorkedHistory
worked_history = record {
  begins = begins;
  all = all_24;
  log = refl;
  flushed = refl;
  stop = refl;
}
