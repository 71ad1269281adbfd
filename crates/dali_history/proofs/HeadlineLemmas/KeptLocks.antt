-- The kept records of a lock-legal epoch are lock-legal, but for conflicts with a transaction that was cut.
use Rattle.std.proofs.Common.{◌≡◌, ◌≢◌, ℕ, suc, ◌<◌, ◌≤◌, Bool, true, false, List, [], ◌∷◌, ◌++◌, length, Some, refl, ap, sym, subst, ◌∙◌, ◌⊎◌, inl, inr, ⊎_elim, arith, take}
use Rattle.std.specs.Prelude.{slice_get, not, ◌&&◌, ◌||◌, ◌==◌}
use Rattle.std.proofs.lemmas.List.{length-take-le}
use Rattle.std.proofs.lemmas.Option.{slice_get_within}
use Rattle.std.proofs.lemmas.Bool.{cases_lt, and_parts, eqb-true}
use Rattle.dali_record.specs.declared.records.Record.{Record}
use Rattle.dali_record.specs.declared.records.Record.TheVariants.{Ended}
use Rattle.dali_record.specs.Blocks.{changes_item}
use Rattle.dali_record.specs.Log.{Touch, touch_of, touch_in, touch_at, undos_of}
use Rattle.dali_record.specs.Damage.{Damage, has, marks, has_corrupt, before_corrupt, Links, IsCorrupt}
use Rattle.dali_record.specs.Locks.{EndedBetween, IsLockLegalIn}
use Rattle.dali_record.proofs.Pushes.{touch_within}
use Rattle.dali_record.proofs.Chains.{IsCorrupt-then}
use Rattle.dali_record.proofs.Scans.{keys, take_get, first_of_txn}
use Rattle.dali_record.proofs.Keeping.{drops, kept_in, PlacedAt, placed, kept_before-mono, kept_before-strict, kept_place, undos_of-kept}
use Rattle.dali_record.proofs.Recovery.{corrupt_has, has_to_corrupt}
use Rattle.dali_record.proofs.Fronts.{touch_get, touch_below, IsCorrupt-whole, kept_place-clean}
use Rattle.dali_history.specs.Kept.Kept.{IsRecordOf, IsCutBefore, IsLockLegalBut}

pub kept_locks : (d : Damage) (E : List Record) (cuts : List ℕ) → ((t : ℕ) → has cuts t ≡ has_corrupt (marks d E) t) → IsLockLegalIn E → IsLockLegalBut cuts (kept_in d E)
kept_locks d E cuts cut locks i j a b lt p q c = by_drop (drops d (take W.0 E) (Ended a.owner)) refl
  where
    ga : (r : Record) × (slice_get (kept_in d E) i ≡ Some r) × (touch_of r ≡ Some a)
    ga = touch_get (kept_in d E) i a p

    gb : (r : Record) × (slice_get (kept_in d E) j ≡ Some r) × (touch_of r ≡ Some b)
    gb = touch_get (kept_in d E) j b q

    A : PlacedAt d E i ga.0
    A = placed d E i ga.0 ga.1

    B : PlacedAt d E j gb.0
    B = placed d E j gb.0 gb.1

    at_a : touch_at E A.place ≡ Some a
    at_a = ap touch_in A.get ∙ ga.2

    at_b : touch_at E B.place ≡ Some b
    at_b = ap touch_in B.get ∙ gb.2

    apart : A.place < B.place
    apart = ⊎_elim (λ x. x) (λ x. absurd (omega (arith, kept_before-mono d E B.place A.place x, A.before, B.before, lt))) (cases_lt A.place B.place)

    -- Ended of the first owner, in the epoch
    W : EndedBetween a.owner A.place B.place E
    W = locks A.place B.place a b apart at_a at_b c

    by_drop : (k : Bool) → drops d (take W.0 E) (Ended a.owner) ≡ k → EndedBetween a.owner i j (kept_in d E) ⊎ IsCutBefore cuts (kept_in d E) a.owner a.block.key j
    by_drop false f = inl (
      length (kept_in d (take W.0 E)),
      omega (arith, A.before, kept_before-strict d E A.place W.0 ga.0 W.1 A.get A.stays),
      omega (arith, B.before, kept_before-strict d E W.0 B.place (Ended a.owner) W.2 W.3 f),
      kept_place d E W.0 (Ended a.owner) W.3 f,
    )
    by_drop true f = inr (cut a.owner ∙ subst (λ u. has_corrupt (marks d E) u ≡ true) F.4 (corrupt_has d E F.0 F.1 F.3 F.5), undone (has (keys (undos_of a.owner (kept_in d E))) a.block.key) refl, before)
      where
        shape : take (suc W.0) E ≡ take W.0 E ++ Ended a.owner ∷ []
        shape = take_get E W.0 (Ended a.owner) W.3

        size : length (take (suc W.0) E) ≡ suc W.0
        size = length-take-le (suc W.0) E (omega (arith, slice_get_within E W.0 (Ended a.owner) W.3))

        -- its transaction was corrupt before
        N : (n : ℕ) × (v : Touch) × (touch_at (take (suc W.0) E) n ≡ Some v) × (v.txn ≡ a.owner) × IsCorrupt d (take (suc W.0) E) n
        N = has_to_corrupt d (take (suc W.0) E) a.owner (subst (λ L. has_corrupt (marks d L) a.owner ≡ true) (sym shape) f)

        low : N.0 < suc W.0
        low = omega (arith, touch_within (take (suc W.0) E) N.0 N.1 N.2, size)

        at_n : touch_at E N.0 ≡ Some N.1
        at_n = sym (touch_below E (suc W.0) N.0 (omega (arith, low, size))) ∙ N.2

        -- its first corrupt block
        F : (n : ℕ) × (v : Touch) × (n ≤ N.0) × (touch_at E n ≡ Some v) × (v.txn ≡ a.owner) × IsCorrupt d E n × (before_corrupt a.owner (marks d E) ≡ take n E)
        F = first_of_txn d E a.owner N.0 N.1 at_n N.3 (IsCorrupt-whole d E (suc W.0) N.0 N.4)

        early : F.0 < B.place
        early = omega (arith, F.2, low, W.2)

        other : F.1.txn ≢ b.txn
        other same = kept_place-clean d E B.place gb.0 b B.get gb.2 B.stays F.0 F.1 (omega (arith, early)) F.3 same F.5

        undone : (k : Bool) → has (keys (undos_of a.owner (kept_in d E))) a.block.key ≡ k → has (keys (undos_of a.owner (kept_in d E))) a.block.key ≡ false
        undone false g = g
        undone true g = absurd (kept_place-clean d E B.place gb.0 b B.get gb.2 B.stays B.place b (omega arith) at_b refl (IsCorrupt-then d E F.0 B.place F.5 link))
          where
            key : a.block.key ≡ b.block.key
            key = eqb-true _ _ (and_parts (a.block.key == b.block.key) (not (a.owner == b.owner)) (and_parts ((a.block.key == b.block.key) && not (a.owner == b.owner)) (changes_item a.block || changes_item b.block) c).0).0

            left : has (keys (undos_of a.owner (take F.0 E))) a.block.key ≡ true
            left = subst (λ us. has (keys us) a.block.key ≡ true) (undos_of-kept d E a.owner ∙ ap (undos_of a.owner) F.6) g

            link : Links E F.0 B.place
            link = (F.1, b, early, F.3, at_b, other, inr (inr (subst (λ k. has (keys (undos_of F.1.txn (take F.0 E))) k ≡ true) key (subst (λ u. has (keys (undos_of u (take F.0 E))) a.block.key ≡ true) (sym F.4) left))))

        before : (k : ℕ) → IsRecordOf a.owner (kept_in d E) k → k < j
        before k w = ⊎_elim sooner later (cases_lt C.place B.place)
          where
            g : (r : Record) × (slice_get (kept_in d E) k ≡ Some r) × (touch_of r ≡ Some w.0)
            g = touch_get (kept_in d E) k w.0 w.1

            C : PlacedAt d E k g.0
            C = placed d E k g.0 g.1

            sooner : C.place < B.place → k < j
            sooner h = omega (arith, kept_before-strict d E C.place B.place g.0 h C.get C.stays, C.before, B.before)

            later : B.place ≤ C.place → k < j
            later h = absurd (kept_place-clean d E C.place g.0 w.0 C.get g.2 C.stays F.0 F.1 (omega (arith, early, h)) F.3 (F.4 ∙ sym w.2) F.5)
