-- What a crash at any moment of a flush leaves, and how many calls of the store it makes.
use Rattle.std.proofs.Common.{◌≡◌, ℕ, ◌+◌, ◌≤◌, false, List, [], ◌∷◌, length, drop, Option, refl, ap, sym, subst, ◌∙◌, inl, inr, ⊎_elim, arith, length-append}
use Rattle.std.specs.Prelude.{◌==◌, if◌then◌else◌}
use Rattle.std.proofs.lemmas.Bool.{ne_eqb}
use Rattle.std.proofs.lemmas.Option.{IfSome_then}
use Rattle.std.proofs.lemmas.List.{append-nil}
use Rattle.dali_record.specs.declared.records.Record.{Record}
use Rattle.dali_record.specs.declared.records.Record.TheVariants.{Format}
use Rattle.dali_record.specs.Spelling.{spelling}
use Rattle.dali_store.specs.Store.{Files as Disk, LeavesOnly}
use Rattle.dali_store.specs.declared.store.Store.{Ghosts}
use Rattle.dali_log.specs.Appending.{SomeAdded, Adds}
use Rattle.dali_log.specs.Batch.{Framed, Ends, batches}
use Rattle.dali_log.specs.Log.{body_bytes}
use Rattle.dali_runs.specs.State.{SystemState}
use Rattle.dali_runs.specs.Courses.{Takes}
use Rattle.dali_crash.specs.Checkpoints.{Does}
use Rattle.dali_core.proofs.StepsLemmas.Steps.{flush_is_right_in}
use Rattle.dali_core.specs.Flushed.{IsUntaken}
use Rattle.dali_core.specs.Moments.{FlushIsRight, flush_calls}
use Rattle.dali_core.proofs.Flushing.{take_point, takes, took, frame_at}

-- ---- moments, one call behind the other
module _ {D : Type 0} (moment : D → ℕ) (left_since : D → ℕ → Disk → Type 0) where
  pub leaves_more : (old new : D) (P Q : Disk → Type 0) → ((c : Disk) → P c → Q c) → LeavesOnly moment left_since old new P → LeavesOnly moment left_since old new Q
  leaves_more old new P Q more one = record {
    later = one.later;
    each = λ c left. more c (one.each c left);
    before = λ t c le left. ⊎_elim (λ past. inl past) (λ here. inr (more c here)) (one.before t c le left);
  }

  pub leaves_both : (old mid new : D) (P Q R : Disk → Type 0) → ((c : Disk) → P c → R c) → ((c : Disk) → Q c → R c)
      → LeavesOnly moment left_since old mid P → LeavesOnly moment left_since mid new Q → LeavesOnly moment left_since old new R
  leaves_both old mid new P Q R p q one two = record {
    later = omega (arith, one.later, two.later);
    each = λ c left. ⊎_elim (λ past. p c (one.each c past)) (λ here. q c here) (two.before (moment old) c one.later left);
    before = λ t c le left. ⊎_elim (λ past. ⊎_elim (λ early. inl early) (λ here. inr (p c here)) (one.before t c le past)) (λ here. inr (q c here)) (two.before t c (omega (arith, le, one.later)) left);
  }

  -- no call was made
  pub leaves_none : (may_leave : D → Disk → Type 0) (d : D) (P : Disk → Type 0) → ((c : Disk) → left_since d (moment d) c → may_leave d c) → ((c : Disk) → may_leave d c → P c) → LeavesOnly moment left_since d d P
  leaves_none may_leave d P now is = record {
    later = omega arith;
    each = λ c left. is c (now c left);
    before = λ t c le left. inl left;
  }

-- ---- nothing of a flush is written yet
same_adds : (at : ℕ) (log : List ℕ) → Adds at [] log log
same_adds at log p bodies ends =
    let e : at ≡ at + length (batches []) = omega arith in
    subst (λ bs. Ends log p bs (at + length (batches []))) (sym (append-nil bodies)) (subst (λ n. Ends log p bodies n) e ends)

pub none_added : (may : Disk → Type 0) (at : ℕ) (more : List (List ℕ)) (c : Disk) → may c → SomeAdded may at more c
none_added may at more c left = record { others = (c, left, λ g other. refl); log = (c, left, 0, omega arith, same_adds at c.log) }

-- ---- how many calls
some_bytes : (r : Record) → 1 ≤ length (spelling r)
some_bytes (Format i n) = omega arith
some_bytes _ = omega arith

some : (n : ℕ) → 1 ≤ n → (n == 0) ≡ false
some n le = ne_eqb n 0 (λ e. omega (arith, e, le))

none_waits : (rs : List Record) → (length (body_bytes rs) == 0) ≡ (length rs == 0)
none_waits [] = refl
none_waits (r ∷ rs) = some (length (body_bytes (r ∷ rs))) (omega (arith, length-append (spelling r) (body_bytes rs), some_bytes r)) ∙ sym (some (length (r ∷ rs)) (omega arith))

-- the calls that a frame of all records costs
pub calls_of : (y : SystemState) (body : List ℕ) → body ≡ body_bytes (drop y.taken y.since) → (if length body == 0 then 0 else 4) ≡ flush_calls y
calls_of y body e = ap (λ b. if length b == 0 then 0 else 4) e ∙ ap (λ t. if t then 0 else 4) (none_waits (drop y.taken y.since))

-- ---- each moment of a flush restarts right
module _ {V : Type 0} (means : Ghosts V) where
  pub flush_right : FlushIsRight means
  flush_right s B p gs y v at runs =
      let f : Framed = record { body = body_bytes (drop y.taken y.since); records = length (drop y.taken y.since); room = 0 } in
      let untaken : IsUntaken p.core.system f = subst (λ (x : SystemState). IsUntaken x f) (sym at.system) (record { body = refl; records = refl }) in
      let fr = frame_at means s B p v f at.vault (at.none_in_hand runs ∙ ap (λ (x : SystemState). x.taken) (sym at.system)) untaken in
      IfSome_then (means.told v.store) (flush_is_right_in means s B (take_point p) v f (took means s B p v at.vault) fr runs)
      (λ fs all c left. let D = all c left in (D.0, D.1, record { to = take_point p; steps = Does Takes ∷ []; course = (take_point p, takes p, refl); same = refl; regions = refl; right = D.2 }))
