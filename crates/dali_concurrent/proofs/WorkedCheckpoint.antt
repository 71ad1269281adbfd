-- The worked checkpoint: what each line asks for is so.
use Rattle.std.proofs.Common.{◌≡◌, ℕ, zero, suc, ◌<◌, Bool, true, false, List, [], ◌∷◌, Some, refl, ap, sym, subst, ◌∙◌, inl, inr, arith}
use Rattle.std.specs.Prelude.{◌==◌, ◌&&◌, not, slice_get}
use Rattle.std.specs.List.{list_any}
use Rattle.dali_lists.proofs.Numbers.{eqb-self}
use Rattle.dali_lists.proofs.Tests.{not_both_ways}
use Rattle.dali_runs.proofs.CountsLemmas.Lists.{some_same}
use Rattle.dali_record.specs.declared.records.Record.TheVariants.{Begin, Commit, AuditBegin, AuditClean}
use Rattle.dali_record.specs.Damage.{has}
use Rattle.dali_record.specs.Legal.{Rules}
use Rattle.dali_region.specs.State.{RegionState, loaded}
use Rattle.dali_locks.specs.declared.mode.Mode.TheVariants.{Exclusive}
use Rattle.dali_att.specs.declared.state.State.TheVariants.{Live}
use Rattle.dali_runs.specs.Steps.{audit_record}
use Rattle.dali_runs.specs.Audits.{IsAuditing}
use Rattle.dali_runs.specs.Courses.{Commits, Locks, AuditBegins, AuditEnds, Passes}
use Rattle.dali_runs.specs.Worked.{first_vault}
use Rattle.dali_runs.proofs.Loads.{no_lock}
use Rattle.dali_runs.proofs.Worked.{logs_by}
use Rattle.dali_crash.specs.Checkpoints.{Does, Starts, Finishes}
use Rattle.dali_transcripts.specs.World.{Logs, GetsLock, StartsCheckpoint, MovesAnchor, EndsCheckpoint, stray_after}
use Rattle.dali_transcripts.specs.Telling.Deeds.{BeganHere}
use Rattle.dali_concurrent.specs.Entries.{Entry, Passed, Kept, Copied, Wrote, Entries, At, deeds_of}
use Rattle.dali_concurrent.specs.Rules.{AuditFits, log_by}
use Rattle.dali_concurrent.specs.Told.{plain, core_told, world_told}
use Rattle.dali_concurrent.specs.Kept.{HoldIs, AllFollow}
use Rattle.dali_concurrent.specs.Audits.{NotPassed}
use Rattle.dali_concurrent.specs.Worked.{from, worked_bases, outset, index_words, heap_words, y1}
use Rattle.dali_concurrent.specs.WorkedCheckpoint.{z2, z3, z4, z5, z6, z7, z8, v1, v2, index_copied, heap_copied, head, image, starts, takes, flushes, keeps, writes_header, copies_index, gets_lock, copies_heap, writes_table, syncs, audit_begins, passes_index, commits, passes_heap, audit_ends, takes_again, flushes_again, moves_anchor, ends, u1, u2, u3, u4, u5, u6, u7, u8, u9, u10, u11, u12, u13, u14, u15, u16, u17, u18, u19, u20, WorkedCheckpoint}
use Rattle.dali_concurrent.proofs.Entries.{neither}
use Rattle.dali_concurrent.proofs.Wrong.{one_more, signs_more}
use Rattle.dali_concurrent.proofs.Sorts.{flush_lands}
use Rattle.dali_concurrent.proofs.Cases.{audit_begins_land, commits_land, grants_land, takes_land}
use Rattle.dali_concurrent.proofs.Copying.{starts_land, finishes_land, keeps_land, copies_land, writes_head_land, syncs_land, turns_land}
use Rattle.dali_concurrent.proofs.Stages.{stage_begins, stage_turns}
use Rattle.dali_concurrent.proofs.Audits.{began_is_here, passes_land, audit_ends_land}
use Rattle.dali_concurrent.proofs.Worked.{one_silent, no_verdict, of_one, begins, led, states, all_1}

-- ---- passes
abbrev passes_it : ℕ → ℕ → List ℕ × Entry → Bool
passes_it b r (k, Passed q a right) = (q == r) && (a == b)
passes_it b r p = false

unpassed : (b r : ℕ) (P : Entries) → list_any (passes_it b r) P ≡ false → NotPassed P b r
unpassed b r [] none i k right at = absurd (cc)
unpassed b r (p ∷ P) none zero k right at =
    let not_it : passes_it b r (k, Passed r b right) ≡ false = subst (λ z. passes_it b r z ≡ false) (some_same at) (neither (passes_it b r p) (list_any (passes_it b r) P) none).0 in
    not_both_ways (ap (λ z. z && (b == b)) (eqb-self r) ∙ eqb-self b) not_it
unpassed b r (p ∷ P) none (suc i) k right at = unpassed b r P (neither (passes_it b r p) (list_any (passes_it b r) P) none).1 i k right at

-- starts
holds_2 : (r : ℕ) (g : RegionState) → r < 2 → slice_get (core_told outset u2).regions r ≡ Some g → HoldIs outset r g (plain u2)
holds_2 zero g h at = subst (λ z. HoldIs outset 0 z (plain u2)) (some_same at) (record { live = refl; dead = refl })
holds_2 (suc zero) g h at = subst (λ z. HoldIs outset 1 z (plain u2)) (some_same at) (record { live = refl; dead = refl })
holds_2 (suc (suc r)) g h at = absurd (omega (arith, h))

went_2 : AllFollow worked_bases from outset u2
went_2 = one_more worked_bases from outset u1 starts all_1 (record {
  fits = record { by = λ k h. h; fits = record { txn = tt; acts = λ u e. absurd (cc); audited = λ b found e. absurd (no_verdict StartsCheckpoint refl b found e); looked = λ r h. absurd (cc); held = tt } };
  effect = refl;
  lands = starts_land worked_bases from outset u1 (6 ∷ 0 ∷ []) 2 y1 refl refl;
  silent = λ none. one_silent Starts refl;
  steps = refl;
  writes = refl;
  holds = λ r g h sign at. holds_2 r g h at;
  checks = λ f. (2, refl, inl refl);
})

-- takes
holds_3 : (r : ℕ) (g : RegionState) → r < 2 → slice_get (core_told outset u3).regions r ≡ Some g → HoldIs outset r g (plain u3)
holds_3 zero g h at = subst (λ z. HoldIs outset 0 z (plain u3)) (some_same at) (record { live = refl; dead = refl })
holds_3 (suc zero) g h at = subst (λ z. HoldIs outset 1 z (plain u3)) (some_same at) (record { live = refl; dead = refl })
holds_3 (suc (suc r)) g h at = absurd (omega (arith, h))

went_3 : AllFollow worked_bases from outset u3
went_3 = one_more worked_bases from outset u2 takes went_2 (record {
  fits = record { by = λ k h. h; fits = tt };
  effect = refl;
  lands = takes_land worked_bases from outset u2 (0 ∷ 1 ∷ []) z2 refl;
  silent = λ none. absurd (cc);
  steps = refl;
  writes = refl;
  holds = λ r g h sign at. holds_3 r g h at;
  checks = λ f. absurd (cc);
})

-- flushes
holds_4 : (r : ℕ) (g : RegionState) → r < 2 → slice_get (core_told outset u4).regions r ≡ Some g → HoldIs outset r g (plain u4)
holds_4 zero g h at = subst (λ z. HoldIs outset 0 z (plain u4)) (some_same at) (record { live = refl; dead = refl })
holds_4 (suc zero) g h at = subst (λ z. HoldIs outset 1 z (plain u4)) (some_same at) (record { live = refl; dead = refl })
holds_4 (suc (suc r)) g h at = absurd (omega (arith, h))

went_4 : AllFollow worked_bases from outset u4
went_4 = one_more worked_bases from outset u3 flushes went_3 (record {
  fits = record { by = λ k h. h; fits = tt };
  effect = refl;
  lands = flush_lands worked_bases from outset u3 (1 ∷ []) first_vault (Begin 1 ∷ []) refl refl refl;
  silent = λ none. absurd (cc);
  steps = refl;
  writes = refl;
  holds = λ r g h sign at. holds_4 r g h at;
  checks = λ f. absurd (cc);
})

-- keeps
holds_5 : (r : ℕ) (g : RegionState) → r < 2 → slice_get (core_told outset u5).regions r ≡ Some g → HoldIs outset r g (plain u5)
holds_5 zero g h at = subst (λ z. HoldIs outset 0 z (plain u5)) (some_same at) (record { live = refl; dead = refl })
holds_5 (suc zero) g h at = subst (λ z. HoldIs outset 1 z (plain u5)) (some_same at) (record { live = refl; dead = refl })
holds_5 (suc (suc r)) g h at = absurd (omega (arith, h))

went_5 : AllFollow worked_bases from outset u5
went_5 = one_more worked_bases from outset u4 keeps went_4 (record {
  fits = record { by = λ k h. signs_more k 6 (0 ∷ 1 ∷ []) h; fits = tt };
  effect = tt;
  lands = keeps_land worked_bases from outset u4 (6 ∷ 0 ∷ 1 ∷ []) Kept v1 z3 refl refl refl refl refl refl (stage_begins.none worked_bases from outset u4 begins refl);
  silent = λ none. absurd (cc);
  steps = refl;
  writes = refl;
  holds = λ r g h sign at. holds_5 r g h at;
  checks = λ f. (2, refl, inr refl);
})

-- writes_header
holds_6 : (r : ℕ) (g : RegionState) → r < 2 → slice_get (core_told outset u6).regions r ≡ Some g → HoldIs outset r g (plain u6)
holds_6 zero g h at = subst (λ z. HoldIs outset 0 z (plain u6)) (some_same at) (record { live = refl; dead = refl })
holds_6 (suc zero) g h at = subst (λ z. HoldIs outset 1 z (plain u6)) (some_same at) (record { live = refl; dead = refl })
holds_6 (suc (suc r)) g h at = absurd (omega (arith, h))

went_6 : AllFollow worked_bases from outset u6
went_6 = one_more worked_bases from outset u5 writes_header went_5 (record {
  fits = record { by = λ k h. signs_more k 6 (1 ∷ []) h; fits = tt };
  effect = tt;
  lands = writes_head_land worked_bases from outset u5 (6 ∷ 1 ∷ []) Wrote head v1 refl refl refl (stage_begins.begun worked_bases from outset u5 begins refl);
  silent = λ none. absurd (cc);
  steps = inr (head, refl);
  writes = refl;
  holds = λ r g h sign at. holds_6 r g h at;
  checks = λ f. (2, refl, inr refl);
})

-- copies_index
holds_7 : (r : ℕ) (g : RegionState) → r < 2 → slice_get (core_told outset u7).regions r ≡ Some g → HoldIs outset r g (plain u7)
holds_7 zero g h at = subst (λ z. HoldIs outset 0 z (plain u7)) (some_same at) (record { live = refl; dead = refl })
holds_7 (suc zero) g h at = subst (λ z. HoldIs outset 1 z (plain u7)) (some_same at) (record { live = refl; dead = refl })
holds_7 (suc (suc r)) g h at = absurd (omega (arith, h))

went_7 : AllFollow worked_bases from outset u7
went_7 = one_more worked_bases from outset u6 copies_index went_6 (record {
  fits = record { by = λ k h. signs_more k 6 (2 ∷ 1 ∷ []) h; fits = tt };
  effect = refl;
  lands = copies_land worked_bases from outset u6 (6 ∷ 2 ∷ 1 ∷ []) (Copied 0) 0 2 v1 (loaded index_words) refl refl refl refl refl (record { within = omega arith; none = refl }) (stage_begins.begun worked_bases from outset u6 begins refl);
  silent = λ none. absurd (cc);
  steps = (2, inl refl);
  writes = refl;
  holds = λ r g h sign at. holds_7 r g h at;
  checks = λ f. (2, refl, inr refl);
})

-- gets_lock
holds_8 : (r : ℕ) (g : RegionState) → r < 2 → slice_get (core_told outset u8).regions r ≡ Some g → HoldIs outset r g (plain u8)
holds_8 zero g h at = subst (λ z. HoldIs outset 0 z (plain u8)) (some_same at) (record { live = refl; dead = refl })
holds_8 (suc zero) g h at = subst (λ z. HoldIs outset 1 z (plain u8)) (some_same at) (record { live = refl; dead = refl })
holds_8 (suc (suc r)) g h at = absurd (omega (arith, h))

went_8 : AllFollow worked_bases from outset u8
went_8 = one_more worked_bases from outset u7 gets_lock went_7 (record {
  fits = record { by = λ k h. h; fits = record { txn = tt; acts = λ u e. of_one (plain u7) 1 1 u e refl; audited = λ b found e. absurd (no_verdict (GetsLock 1 5 Exclusive) refl b found e); looked = λ r h. absurd (cc); held = tt } };
  effect = refl;
  lands = grants_land worked_bases from outset u7 (5 ∷ 0 ∷ []) 1 1 5 Exclusive z3 refl refl (states u7 went_7 1) (λ u n d e. absurd (no_lock u 5 n e));
  silent = λ none. one_silent (Does (Locks 1 5 Exclusive)) refl;
  steps = refl;
  writes = refl;
  holds = λ r g h sign at. holds_8 r g h at;
  checks = λ f. absurd (cc);
})

-- copies_heap
holds_9 : (r : ℕ) (g : RegionState) → r < 2 → slice_get (core_told outset u9).regions r ≡ Some g → HoldIs outset r g (plain u9)
holds_9 zero g h at = subst (λ z. HoldIs outset 0 z (plain u9)) (some_same at) (record { live = refl; dead = refl })
holds_9 (suc zero) g h at = subst (λ z. HoldIs outset 1 z (plain u9)) (some_same at) (record { live = refl; dead = refl })
holds_9 (suc (suc r)) g h at = absurd (omega (arith, h))

went_9 : AllFollow worked_bases from outset u9
went_9 = one_more worked_bases from outset u8 copies_heap went_8 (record {
  fits = record { by = λ k h. signs_more k 6 (3 ∷ 1 ∷ []) h; fits = tt };
  effect = refl;
  lands = copies_land worked_bases from outset u8 (6 ∷ 3 ∷ 1 ∷ []) (Copied 1) 1 2 v1 (loaded heap_words) refl refl refl refl refl (record { within = omega arith; none = refl }) (stage_begins.begun worked_bases from outset u8 begins refl);
  silent = λ none. absurd (cc);
  steps = (2, inl refl);
  writes = refl;
  holds = λ r g h sign at. holds_9 r g h at;
  checks = λ f. (2, refl, inr refl);
})

-- writes_table
holds_10 : (r : ℕ) (g : RegionState) → r < 2 → slice_get (core_told outset u10).regions r ≡ Some g → HoldIs outset r g (plain u10)
holds_10 zero g h at = subst (λ z. HoldIs outset 0 z (plain u10)) (some_same at) (record { live = refl; dead = refl })
holds_10 (suc zero) g h at = subst (λ z. HoldIs outset 1 z (plain u10)) (some_same at) (record { live = refl; dead = refl })
holds_10 (suc (suc r)) g h at = absurd (omega (arith, h))

went_10 : AllFollow worked_bases from outset u10
went_10 = one_more worked_bases from outset u9 writes_table went_9 (record {
  fits = record { by = λ k h. signs_more k 6 (1 ∷ []) h; fits = tt };
  effect = tt;
  lands = writes_head_land worked_bases from outset u9 (6 ∷ 1 ∷ []) Wrote head v1 refl refl refl (stage_begins.begun worked_bases from outset u9 begins refl);
  silent = λ none. absurd (cc);
  steps = inr (head, refl);
  writes = refl;
  holds = λ r g h sign at. holds_10 r g h at;
  checks = λ f. (2, refl, inr refl);
})

-- syncs
holds_11 : (r : ℕ) (g : RegionState) → r < 2 → slice_get (core_told outset u11).regions r ≡ Some g → HoldIs outset r g (plain u11)
holds_11 zero g h at = subst (λ z. HoldIs outset 0 z (plain u11)) (some_same at) (record { live = refl; dead = refl })
holds_11 (suc zero) g h at = subst (λ z. HoldIs outset 1 z (plain u11)) (some_same at) (record { live = refl; dead = refl })
holds_11 (suc (suc r)) g h at = absurd (omega (arith, h))

went_11 : AllFollow worked_bases from outset u11
went_11 = one_more worked_bases from outset u10 syncs went_10 (record {
  fits = record { by = λ k h. signs_more k 6 (1 ∷ []) h; fits = tt };
  effect = tt;
  lands = syncs_land worked_bases from outset u10 (6 ∷ 1 ∷ []) Wrote v1 refl refl refl (stage_begins.begun worked_bases from outset u10 begins refl);
  silent = λ none. absurd (cc);
  steps = inl refl;
  writes = refl;
  holds = λ r g h sign at. holds_11 r g h at;
  checks = λ f. (2, refl, inr refl);
})

-- audit_begins
holds_12 : (r : ℕ) (g : RegionState) → r < 2 → slice_get (core_told outset u12).regions r ≡ Some g → HoldIs outset r g (plain u12)
holds_12 zero g h at = subst (λ z. HoldIs outset 0 z (plain u12)) (some_same at) (record { live = refl; dead = refl })
holds_12 (suc zero) g h at = subst (λ z. HoldIs outset 1 z (plain u12)) (some_same at) (record { live = refl; dead = refl })
holds_12 (suc (suc r)) g h at = absurd (omega (arith, h))

went_12 : AllFollow worked_bases from outset u12
went_12 = one_more worked_bases from outset u11 audit_begins went_11 (record {
  fits = record { by = λ k h. h; fits = record { txn = tt; acts = λ u e. absurd (cc); audited = λ b found e. absurd (no_verdict (Logs AuditBegin) refl b found e); looked = λ r h. absurd (cc); held = tt } };
  effect = refl;
  lands = audit_begins_land worked_bases from outset u11 (6 ∷ 0 ∷ []) 2 z4 refl refl (omega arith);
  silent = λ none. one_silent (Does AuditBegins) refl;
  steps = refl;
  writes = refl;
  holds = λ r g h sign at. holds_12 r g h at;
  checks = λ f. absurd (cc);
})

-- passes_index
began_12 : BeganHere (world_told outset u12) 2
began_12 = began_is_here outset u12 2 2 (record { place = 11; notes = 6 ∷ 0 ∷ []; there = refl; number = refl })

auditing_12 : IsAuditing (core_told outset u12).system.sizes (log_by outset (plain u12)) 2
auditing_12 = record { named = λ g e. ap (λ (z : Rules). has z.audits 2 && not (has z.closed 2)) (some_same (sym e)); within = omega arith }

holds_13 : (r : ℕ) (g : RegionState) → r < 2 → slice_get (core_told outset u13).regions r ≡ Some g → HoldIs outset r g (plain u13)
holds_13 zero g h at = subst (λ z. HoldIs outset 0 z (plain u13)) (some_same at) (record { live = refl; dead = refl })
holds_13 (suc zero) g h at = subst (λ z. HoldIs outset 1 z (plain u13)) (some_same at) (record { live = refl; dead = refl })
holds_13 (suc (suc r)) g h at = absurd (omega (arith, h))

went_13 : AllFollow worked_bases from outset u13
went_13 = one_more worked_bases from outset u12 passes_index went_12 (record {
  fits = record { by = λ k h. h; fits = record { begun = refl; tells = λ g at. subst (λ (z : RegionState). true ≡ (stray_after 0 z.stray (deeds_of (plain u12)) == 0)) (some_same at) refl } };
  effect = refl;
  lands = passes_land worked_bases from outset u12 (2 ∷ []) 2 0 true index_copied (led u12 went_12) began_12 auditing_12 (unpassed 2 0 (plain u12) refl) refl;
  silent = λ none. one_silent (Does (Passes 2 0)) refl;
  steps = refl;
  writes = refl;
  holds = λ r g h sign at. holds_13 r g h at;
  checks = λ f. absurd (cc);
})

-- commits
holds_14 : (r : ℕ) (g : RegionState) → r < 2 → slice_get (core_told outset u14).regions r ≡ Some g → HoldIs outset r g (plain u14)
holds_14 zero g h at = subst (λ z. HoldIs outset 0 z (plain u14)) (some_same at) (record { live = refl; dead = refl })
holds_14 (suc zero) g h at = subst (λ z. HoldIs outset 1 z (plain u14)) (some_same at) (record { live = refl; dead = refl })
holds_14 (suc (suc r)) g h at = absurd (omega (arith, h))

went_14 : AllFollow worked_bases from outset u14
went_14 = one_more worked_bases from outset u13 commits went_13 (record {
  fits = record { by = λ k h. h; fits = record { txn = refl; acts = λ u e. of_one (plain u13) 1 1 u e refl; audited = λ b found e. absurd (no_verdict (Logs (Commit 1)) refl b found e); looked = λ r h. absurd (cc); held = tt } };
  effect = refl;
  lands = commits_land worked_bases from outset u13 (5 ∷ 0 ∷ []) 1 1 z5 refl refl (record { next = refl; by = logs_by _ Live (Commit 1) (states u13 went_13 1) refl });
  silent = λ none. one_silent (Does (Commits 1)) refl;
  steps = refl;
  writes = refl;
  holds = λ r g h sign at. holds_14 r g h at;
  checks = λ f. absurd (cc);
})

-- passes_heap
began_14 : BeganHere (world_told outset u14) 2
began_14 = began_is_here outset u14 2 2 (record { place = 11; notes = 6 ∷ 0 ∷ []; there = refl; number = refl })

auditing_14 : IsAuditing (core_told outset u14).system.sizes (log_by outset (plain u14)) 2
auditing_14 = record { named = λ g e. ap (λ (z : Rules). has z.audits 2 && not (has z.closed 2)) (some_same (sym e)); within = omega arith }

holds_15 : (r : ℕ) (g : RegionState) → r < 2 → slice_get (core_told outset u15).regions r ≡ Some g → HoldIs outset r g (plain u15)
holds_15 zero g h at = subst (λ z. HoldIs outset 0 z (plain u15)) (some_same at) (record { live = refl; dead = refl })
holds_15 (suc zero) g h at = subst (λ z. HoldIs outset 1 z (plain u15)) (some_same at) (record { live = refl; dead = refl })
holds_15 (suc (suc r)) g h at = absurd (omega (arith, h))

went_15 : AllFollow worked_bases from outset u15
went_15 = one_more worked_bases from outset u14 passes_heap went_14 (record {
  fits = record { by = λ k h. h; fits = record { begun = refl; tells = λ g at. subst (λ (z : RegionState). true ≡ (stray_after 1 z.stray (deeds_of (plain u14)) == 0)) (some_same at) refl } };
  effect = refl;
  lands = passes_land worked_bases from outset u14 (3 ∷ []) 2 1 true heap_copied (led u14 went_14) began_14 auditing_14 (unpassed 2 1 (plain u14) refl) refl;
  silent = λ none. one_silent (Does (Passes 2 1)) refl;
  steps = refl;
  writes = refl;
  holds = λ r g h sign at. holds_15 r g h at;
  checks = λ f. absurd (cc);
})

-- audit_ends
auditing_15 : IsAuditing (core_told outset u15).system.sizes (log_by outset (plain u15)) 2
auditing_15 = record { named = λ g e. ap (λ (z : Rules). has z.audits 2 && not (has z.closed 2)) (some_same (sym e)); within = omega arith }

both_passed : (b : ℕ) (found : List ℕ) → Logs (AuditClean 2) ≡ Logs (audit_record b found) → (r : ℕ) → r < 2 → (n : ℕ) × (k : List ℕ) × At (plain u15) n (k, Passed r b (not (has found r)))
both_passed b [] e r h = let same : 2 ≡ b = cc in go b same r h
  where
    go : (b : ℕ) → 2 ≡ b → (r : ℕ) → r < 2 → (n : ℕ) × (k : List ℕ) × At (plain u15) n (k, Passed r b true)
    go b same zero h = (12, 2 ∷ [], ap (λ z. Some (2 ∷ [], Passed 0 z true)) same)
    go b same (suc zero) h = (14, 3 ∷ [], ap (λ z. Some (3 ∷ [], Passed 1 z true)) same)
    go b same (suc (suc r)) h = absurd (omega (arith, h))
both_passed b (x ∷ xs) e r h = absurd (cc)

audit_fits : (b : ℕ) (found : List ℕ) → Logs (AuditClean 2) ≡ Logs (audit_record b found) → AuditFits outset (plain u15) 2 b found
audit_fits b [] e = record { began = record { place = 11; notes = 6 ∷ 0 ∷ []; there = refl; number = let same : b ≡ 2 = cc in same }; passed = both_passed b [] e }
audit_fits b (x ∷ xs) e = absurd (cc)

holds_16 : (r : ℕ) (g : RegionState) → r < 2 → slice_get (core_told outset u16).regions r ≡ Some g → HoldIs outset r g (plain u16)
holds_16 zero g h at = subst (λ z. HoldIs outset 0 z (plain u16)) (some_same at) (record { live = refl; dead = refl })
holds_16 (suc zero) g h at = subst (λ z. HoldIs outset 1 z (plain u16)) (some_same at) (record { live = refl; dead = refl })
holds_16 (suc (suc r)) g h at = absurd (omega (arith, h))

went_16 : AllFollow worked_bases from outset u16
went_16 = one_more worked_bases from outset u15 audit_ends went_15 (record {
  fits = record { by = λ k h. h; fits = record { txn = tt; acts = λ u e. absurd (cc); audited = audit_fits; looked = λ r h. absurd (cc); held = tt } };
  effect = refl;
  lands = audit_ends_land worked_bases from outset u15 (6 ∷ 0 ∷ []) 2 2 [] z6 (led u15 went_15) refl (record { runs = refl; auditing = auditing_15; spelled = omega arith; numbers = refl }) (audit_fits 2 [] refl);
  silent = λ none. one_silent (Does (AuditEnds 2 [])) refl;
  steps = refl;
  writes = refl;
  holds = λ r g h sign at. holds_16 r g h at;
  checks = λ f. absurd (cc);
})

-- takes_again
holds_17 : (r : ℕ) (g : RegionState) → r < 2 → slice_get (core_told outset u17).regions r ≡ Some g → HoldIs outset r g (plain u17)
holds_17 zero g h at = subst (λ z. HoldIs outset 0 z (plain u17)) (some_same at) (record { live = refl; dead = refl })
holds_17 (suc zero) g h at = subst (λ z. HoldIs outset 1 z (plain u17)) (some_same at) (record { live = refl; dead = refl })
holds_17 (suc (suc r)) g h at = absurd (omega (arith, h))

went_17 : AllFollow worked_bases from outset u17
went_17 = one_more worked_bases from outset u16 takes_again went_16 (record {
  fits = record { by = λ k h. h; fits = tt };
  effect = refl;
  lands = takes_land worked_bases from outset u16 (0 ∷ 1 ∷ []) z7 refl;
  silent = λ none. absurd (cc);
  steps = refl;
  writes = refl;
  holds = λ r g h sign at. holds_17 r g h at;
  checks = λ f. absurd (cc);
})

-- flushes_again
holds_18 : (r : ℕ) (g : RegionState) → r < 2 → slice_get (core_told outset u18).regions r ≡ Some g → HoldIs outset r g (plain u18)
holds_18 zero g h at = subst (λ z. HoldIs outset 0 z (plain u18)) (some_same at) (record { live = refl; dead = refl })
holds_18 (suc zero) g h at = subst (λ z. HoldIs outset 1 z (plain u18)) (some_same at) (record { live = refl; dead = refl })
holds_18 (suc (suc r)) g h at = absurd (omega (arith, h))

went_18 : AllFollow worked_bases from outset u18
went_18 = one_more worked_bases from outset u17 flushes_again went_17 (record {
  fits = record { by = λ k h. h; fits = tt };
  effect = refl;
  lands = flush_lands worked_bases from outset u17 (1 ∷ []) v1 (AuditBegin ∷ Commit 1 ∷ AuditClean 2 ∷ []) refl refl refl;
  silent = λ none. absurd (cc);
  steps = refl;
  writes = refl;
  holds = λ r g h sign at. holds_18 r g h at;
  checks = λ f. absurd (cc);
})

-- moves_anchor
holds_19 : (r : ℕ) (g : RegionState) → r < 2 → slice_get (core_told outset u19).regions r ≡ Some g → HoldIs outset r g (plain u19)
holds_19 zero g h at = subst (λ z. HoldIs outset 0 z (plain u19)) (some_same at) (record { live = refl; dead = refl })
holds_19 (suc zero) g h at = subst (λ z. HoldIs outset 1 z (plain u19)) (some_same at) (record { live = refl; dead = refl })
holds_19 (suc (suc r)) g h at = absurd (omega (arith, h))

went_19 : AllFollow worked_bases from outset u19
went_19 = one_more worked_bases from outset u18 moves_anchor went_18 (record {
  fits = record { by = λ k h. h; fits = record { txn = tt; acts = λ u e. absurd (cc); audited = λ b found e. absurd (no_verdict (MovesAnchor 1) refl b found e); looked = λ r h. absurd (cc); held = tt } };
  effect = refl;
  lands = turns_land worked_bases from outset u18 (6 ∷ 1 ∷ []) 2 head 2 4 v2 refl refl (λ q at. stage_turns worked_bases from outset u18 q head image 2 4 begins at refl refl refl refl (omega arith));
  silent = λ none. absurd (cc);
  steps = refl;
  writes = refl;
  holds = λ r g h sign at. holds_19 r g h at;
  checks = λ f. (2, refl, inr refl);
})

-- ends
holds_20 : (r : ℕ) (g : RegionState) → r < 2 → slice_get (core_told outset u20).regions r ≡ Some g → HoldIs outset r g (plain u20)
holds_20 zero g h at = subst (λ z. HoldIs outset 0 z (plain u20)) (some_same at) (record { live = refl; dead = refl })
holds_20 (suc zero) g h at = subst (λ z. HoldIs outset 1 z (plain u20)) (some_same at) (record { live = refl; dead = refl })
holds_20 (suc (suc r)) g h at = absurd (omega (arith, h))

went_20 : AllFollow worked_bases from outset u20
went_20 = one_more worked_bases from outset u19 ends went_19 (record {
  fits = record { by = λ k h. h; fits = record { txn = tt; acts = λ u e. absurd (cc); audited = λ b found e. absurd (no_verdict EndsCheckpoint refl b found e); looked = λ r h. absurd (cc); held = tt } };
  effect = refl;
  lands = finishes_land worked_bases from outset u19 (6 ∷ 0 ∷ []) 2 z8 refl refl refl;
  silent = λ none. one_silent Finishes refl;
  steps = refl;
  writes = refl;
  holds = λ r g h sign at. holds_20 r g h at;
  checks = λ f. (2, refl, inr refl);
})

pub worked_checkpoint : WorkedCheckpoint
worked_checkpoint = record {
  all = went_20;
  log = refl;
  ready = record { image = image; stage = refl; header = refl; head = refl; synced = refl; clean = refl; flushed = omega arith };
  current = refl;
  over = refl;
}
