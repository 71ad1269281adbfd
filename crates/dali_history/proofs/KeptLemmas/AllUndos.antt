-- The undos of all transactions without a Commit, in any order of these, lead from the image to the slots that stand for the replay.
use Rattle.std.proofs.Common.{◌≡◌, ℕ, ◌+◌, Bool, true, false, not, List, [], ◌∷◌, Some, IsPermutation, refl, ap, sym, subst, ◌∙◌, ◌⊎◌, inl, inr, ⊎_elim, ◌≢◌, arith}
use Rattle.std.specs.Prelude.{◌==◌, if◌then◌else◌, ⊤, reverse}
use Rattle.std.proofs.lemmas.Bool.Decides.{eqb_tells}
use Rattle.std.proofs.lemmas.Bool.{eq-eqb}
use Rattle.dali_geometry.specs.Sizes.{Sizes}
use Rattle.dali_record.specs.declared.records.Record.{Record}
use Rattle.dali_record.specs.Log.{undos_of, begun, committed}
use Rattle.dali_record.specs.Damage.{has}
use Rattle.dali_record.specs.Settled.{redo_all}
use Rattle.dali_access.specs.Index.Invariant.{IsImage}
use Rattle.dali_history.specs.Kept.Kept.{AreKept, KeepsCalls, uncommitted}
use Rattle.dali_history.specs.Undos.{FindsAll, undone, undos_in}
use Rattle.dali_history.specs.Images.{map_of}
use Rattle.dali_access.proofs.IndexLemmas.Worlds.{part, flags}
use Rattle.dali_history.proofs.SlotsLemmas.SoundBlocks.{image_redo_all}
use Rattle.dali_access.proofs.IndexLemmas.Parts.{Part}
use Rattle.dali_history.proofs.SlotsLemmas.SlotUndos.{Leads, NoneOn, leads_stay, leads_append, none_append, none_reverse}
use Rattle.dali_history.proofs.KeptLemmas.WithoutLast.{left}
use Rattle.dali_history.proofs.KeptLemmas.InvariantSteps.{along_kept, serial_kept}
use Rattle.dali_history.proofs.KeptLemmas.UndoOnImage.{undo_list}
use Rattle.dali_history.specs.Serial.{Map, serial}
use Rattle.dali_history.proofs.KeptLemmas.Invariant.{Keyed}
use Rattle.dali_history.proofs.SlotsLemmas.ValueSlots.{Stands, Reached}
use Rattle.dali_history.proofs.KeptLemmas.Counts.{count, count-permutation, count-passed, count-refused}
use Rattle.dali_history.proofs.KeptLemmas.OneBegin.{once_kept}

-- each of these has no Commit
abbrev pub AreOpen : List Record → List ℕ → Type 0
AreOpen K [] = ⊤
AreOpen K (t ∷ ts) = (has (committed K) t ≡ false) × AreOpen K ts

-- none of them has, where one with a Commit stands there no time
pub open_counts : (K : List Record) (ts : List ℕ) → ((t : ℕ) → has (committed K) t ≡ true → count t ts ≡ 0) → AreOpen K ts
open_counts K [] h = tt
open_counts K (x ∷ xs) h = (first (has (committed K) x) refl, open_counts K xs (λ t e. let n = h t e in omega (arith, n)))
  where
    first : (b : Bool) → has (committed K) x ≡ b → b ≡ false
    first true e = let n : count x (x ∷ xs) ≡ 0 = h x e in let m : 1 + count x xs ≡ 0 = rw (eq-eqb x x refl) at n in absurd (omega (arith, m))
    first false e = refl

-- how often a transaction stands in any order of those without a Commit
pub count_committed : (K : List Record) (order : List ℕ) (t : ℕ) → IsPermutation order (uncommitted K) → has (committed K) t ≡ true → count t order ≡ 0
count_committed K order t h e = sym (count-permutation t order (uncommitted K) h) ∙ count-refused t (λ u. not (has (committed K) u)) (begun K) (ap not e)

pub count_uncommitted : (K : List Record) (order : List ℕ) (t : ℕ) → IsPermutation order (uncommitted K) → has (committed K) t ≡ false → count t order ≡ count t (begun K)
count_uncommitted K order t h e = sym (count-permutation t order (uncommitted K) h) ∙ count-passed t (λ u. not (has (committed K) u)) (begun K) (ap not e)

-- an order of those without a Commit has each at most once, and all that have undos that stand
pub order_once : (s : Sizes) (K : List Record) (order : List ℕ) (t : ℕ) → KeepsCalls s K → IsPermutation order (uncommitted K) → (count t order ≡ 1) ⊎ ((count t order ≡ 0) × (left t K ≡ []))
order_once s K order t calls h = go (has (committed K) t) refl
  where
    go : (b : Bool) → has (committed K) t ≡ b → (count t order ≡ 1) ⊎ ((count t order ≡ 0) × ((if b then [] else undos_of t K) ≡ []))
    go true e = inr (count_committed K order t h e, refl)
    go false e = ⊎_elim (λ a. inl (count_uncommitted K order t h e ∙ a)) (λ a. inr (count_uncommitted K order t h e ∙ a.0, a.1)) (once_kept s t K calls)

pub left_open : (K : List Record) (t : ℕ) → has (committed K) t ≡ false → left t K ≡ undos_of t K
left_open K t e = rw e refl

-- ---- lists
pub none_undos : (k h : ℕ) (K : List Record) (ts : List ℕ) → AreOpen K ts → ((u : ℕ) → u ≢ h → NoneOn k (left u K)) → count h ts ≡ 0 → NoneOn k (undos_in ts K)
none_undos k h K [] o n c = tt
none_undos k h K (t ∷ ts) o n c = go (eqb_tells t h) (λ m. none_undos k h K ts o.1 n m)
  where
    go : (((t == h) ≡ true) × (t ≡ h)) ⊎ (((t == h) ≡ false) × (t ≢ h)) → (count h ts ≡ 0 → NoneOn k (undos_in ts K)) → NoneOn k (undos_in (t ∷ ts) K)
    go (inl a) ih = let m : 1 + count h ts ≡ 0 = rw (a.0) at c in absurd (omega (arith, m))
    go (inr a) ih =
        let m : 0 + count h ts ≡ 0 = rw (a.0) at c in
        none_append k (reverse (undos_of t K)) (undos_in ts K) (none_reverse k (undos_of t K) (subst (λ us. NoneOn k us) (left_open K t o.0) (n t a.1))) (ih (omega (arith, m)))

leads_undos : (s : Sizes) (k h : ℕ) (K : List Record) (ts : List ℕ) (P Q : Part) → AreOpen K ts → ((u : ℕ) → u ≢ h → NoneOn k (left u K)) → count h ts ≡ 1 → Leads s k (reverse (left h K)) P Q → Leads s k (undos_in ts K) P Q
leads_undos s k h K [] P Q o n c l = absurd (omega (arith, c))
leads_undos s k h K (t ∷ ts) P Q o n c l = go (eqb_tells t h) (λ m. leads_undos s k h K ts P Q o.1 n m l)
  where
    go : (((t == h) ≡ true) × (t ≡ h)) ⊎ (((t == h) ≡ false) × (t ≢ h)) → (count h ts ≡ 1 → Leads s k (undos_in ts K) P Q) → Leads s k (undos_in (t ∷ ts) K) P Q
    go (inl a) ih =
        let m : 1 + count h ts ≡ 1 = rw (a.0) at c in
        let own : Leads s k (reverse (undos_of t K)) P Q = subst (λ us. Leads s k (reverse us) P Q) (ap (λ u. left u K) (sym a.1) ∙ left_open K t o.0) l in
        leads_append s k (reverse (undos_of t K)) (undos_in ts K) P Q Q own (leads_stay s k (undos_in ts K) Q (none_undos k h K ts o.1 n (omega (arith, m))))
    go (inr a) ih =
        let m : 0 + count h ts ≡ 1 = rw (a.0) at c in
        let off : NoneOn k (reverse (undos_of t K)) = none_reverse k (undos_of t K) (subst (λ us. NoneOn k us) (left_open K t o.0) (n t a.1)) in
        leads_append s k (reverse (undos_of t K)) (undos_in ts K) P P Q (leads_stay s k (reverse (undos_of t K)) P off) (ih (omega (arith, m)))

pub order_open : (K : List Record) (order : List ℕ) → IsPermutation order (uncommitted K) → AreOpen K order
order_open K order h = open_counts K order (λ t e. count_committed K order t h e)

-- ---- the law
pub all_lists : (s : Sizes) (base : List (List ℕ)) (cuts : List ℕ) (K : List Record) (order : List ℕ) (h : AreKept s base cuts K) → IsPermutation order (uncommitted K) → (k : ℕ) → Leads s k (undos_in order K) (part s (redo_all base K) k) ((along_kept s base cuts K h).keyed k).slots
all_lists s base cuts K order h perm k = go ((along_kept s base cuts K h).keyed k)
  where
    go : (e : Keyed s cuts K (part s (redo_all base K)) (flags (redo_all base K)) (map_of s base k) k) → Leads s k (undos_in order K) (part s (redo_all base K) k) e.slots
    go e = ⊎_elim one none (order_once s K order e.holder h.calls perm)
      where
        one : count e.holder order ≡ 1 → Leads s k (undos_in order K) (part s (redo_all base K) k) e.slots
        one c = leads_undos s k e.holder K order (part s (redo_all base K) k) e.slots (order_open K order perm) e.others c e.leads

        none : (count e.holder order ≡ 0) × (left e.holder K ≡ []) → Leads s k (undos_in order K) (part s (redo_all base K) k) e.slots
        none c =
            let same : part s (redo_all base K) k ≡ e.slots = subst (λ us. Leads s k (reverse us) (part s (redo_all base K) k) e.slots) c.1 e.leads in
            subst (λ (X : Part). Leads s k (undos_in order K) (part s (redo_all base K) k) X) same (leads_stay s k (undos_in order K) (part s (redo_all base K) k) (none_undos k e.holder K order (order_open K order perm) e.others c.0))

-- so each of these undos finds its slot, and after them the slots are those, with the flags as they were
pub all_undone :
    (s : Sizes) (base : List (List ℕ)) (cuts : List ℕ) (K : List Record) (order : List ℕ) (h : AreKept s base cuts K) → IsPermutation order (uncommitted K)
    → FindsAll (redo_all base K) (undos_in order K) × ((k : ℕ) → part s (undone (redo_all base K) (undos_in order K)) k ≡ ((along_kept s base cuts K h).keyed k).slots) × (flags (undone (redo_all base K) (undos_in order K)) ≡ flags (redo_all base K)) × IsImage s (undone (redo_all base K) (undos_in order K))
all_undone s base cuts K order h perm = undo_list s (undos_in order K) (redo_all base K) (λ k. ((along_kept s base cuts K h).keyed k).slots) (image_redo_all s base K h.image) (λ k. all_lists s base cuts K order h perm k)

-- and the slots and flags then stand for the map of the serial replay
pub all_undone_stands :
    (s : Sizes) (base : List (List ℕ)) (cuts : List ℕ) (K : List Record) (order : List ℕ) (h : AreKept s base cuts K) → IsPermutation order (uncommitted K)
    → (m : Map) × (serial (map_of s base) (committed K) K ≡ Some m) × ((k : ℕ) → Stands s (part s (undone (redo_all base K) (undos_in order K)) k) (m k) × Reached s (flags (undone (redo_all base K) (undos_in order K))) k (part s (undone (redo_all base K) (undos_in order K)) k))
all_undone_stands s base cuts K order h perm = (x.0, x.1, λ k. each k ((along_kept s base cuts K h).keyed k) (u.1 k) (x.2 k))
  where
    x : (m : Map) × (serial (map_of s base) (committed K) K ≡ Some m) × ((k : ℕ) → m k ≡ ((along_kept s base cuts K h).keyed k).value)
    x = serial_kept s base cuts K h

    u : FindsAll (redo_all base K) (undos_in order K) × ((k : ℕ) → part s (undone (redo_all base K) (undos_in order K)) k ≡ ((along_kept s base cuts K h).keyed k).slots) × (flags (undone (redo_all base K) (undos_in order K)) ≡ flags (redo_all base K)) × IsImage s (undone (redo_all base K) (undos_in order K))
    u = all_undone s base cuts K order h perm

    each :
        (k : ℕ) (e : Keyed s cuts K (part s (redo_all base K)) (flags (redo_all base K)) (map_of s base k) k) → part s (undone (redo_all base K) (undos_in order K)) k ≡ e.slots → x.0 k ≡ e.value
        → Stands s (part s (undone (redo_all base K) (undos_in order K)) k) (x.0 k) × Reached s (flags (undone (redo_all base K) (undos_in order K))) k (part s (undone (redo_all base K) (undos_in order K)) k)
    each k e there value =
        let stands : Stands s e.slots (x.0 k) = subst (λ o. Stands s e.slots o) (sym value) e.stands in
        let reached : Reached s (flags (undone (redo_all base K) (undos_in order K))) k e.slots = subst (λ F. Reached s F k e.slots) (sym u.2) e.reached in
        (subst (λ (X : Part). Stands s X (x.0 k)) (sym there) stands, subst (λ (X : Part). Reached s (flags (undone (redo_all base K) (undos_in order K))) k X) (sym there) reached)
