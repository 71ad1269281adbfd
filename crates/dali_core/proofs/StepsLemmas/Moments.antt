-- What a crash at any moment of a call leaves.
use Rattle.std.proofs.Common.{ℕ, refl, inl, inr, ⊎_elim, arith}
use Rattle.dali_store.specs.declared.store.FileName.{FileName}
use Rattle.dali_store.specs.Store.{Files as Disk, TornIn, Elapses, LeavesOnly}

-- what was left before the call, and what is left behind it
pub leaves_by :
    {D : Type 0} (moment : D → ℕ) (left_since : D → ℕ → Disk → Type 0) (may_leave : D → Disk → Type 0) (old new : D) (P : Disk → Type 0)
    → ((c : Disk) → left_since old (moment old) c → may_leave old c)
    → Elapses (moment old) (moment new) (left_since old) (left_since new) (may_leave new)
    → ((c : Disk) → may_leave old c → P c) → ((c : Disk) → may_leave new c → P c)
    → LeavesOnly moment left_since old new P
leaves_by moment left_since may_leave old new P now time was is = record {
  later = time.later;
  each = λ c left. ⊎_elim (λ past. was c (now c past)) (λ here. is c here) (time.nothing_else (moment old) c (omega arith) left);
  before = λ t c le left. ⊎_elim (λ past. inl past) (λ here. inr (is c here)) (time.nothing_else t c le left);
}

-- nothing of it is written yet
pub torn_none : (name : FileName) (at n : ℕ) (c : Disk) → TornIn name at n c c
torn_none name at n c = record { torn = record { before = refl; after = refl; no_shorter = omega arith; no_longer = omega arith }; same = λ g other. refl }
