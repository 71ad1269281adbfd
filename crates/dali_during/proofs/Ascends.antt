-- The numbers of transactions rise along a log, so the lists of the deleted ascend across its epochs, and are a replay's list.
--     Begun n L                the Begins of L rise, and are below n
use Rattle.std.proofs.Common.{◌≡◌, ℕ, zero, suc, ◌+◌, ◌<◌, ◌≤◌, Bool, true, false, cond, List, [], ◌∷◌, ◌++◌, Option, Some, None, refl, ap, sym, subst, ◌∙◌, arith, append-nil}
use Rattle.std.specs.Prelude.{◌&&◌, IsSome, filter, flat_map, slice_index}
use Rattle.std.specs.List.{AllByRecursion}
use Rattle.std.specs.List.Sorted.{IsStrictlyIncreasing}
use Rattle.std.proofs.lemmas.List.Elements.{filter_map-append}
use Rattle.dali_geometry.specs.Sizes.{Sizes}
use Rattle.dali_record.specs.declared.records.Record.{Record}
use Rattle.dali_record.specs.declared.records.Record.TheVariants.{Format, Begin, Forward, Done, Commit, Ended, Solo, AuditBegin, AuditClean, AuditFail, Restarted, Back}
use Rattle.dali_record.specs.Log.{begin_by, begun, committed}
use Rattle.dali_record.specs.Epochs.{Epoch, epochs}
use Rattle.dali_record.specs.Damage.{has, deleted_list, damage_of, marks, has_corrupt}
use Rattle.dali_record.specs.Legal.{Rules, rules_state, rules_next, rules_step}
use Rattle.dali_record.proofs.Ends.{by_push}
use Rattle.dali_record.proofs.Pushes.{rules_state_push}
use Rattle.dali_runs.specs.Counts.Counts.{next_with}
use Rattle.dali_runs.proofs.CountsLemmas.Tallies.{tells_step}
use Rattle.dali_runs.proofs.CountsLemmas.Begins.{begin_number}
use Rattle.dali_history.proofs.ByEpochs.{in_epochs}
use Rattle.dali_history.proofs.Rising.{Up, up_from, same_up, all_filter}

-- ---- numbers that rise
all_weaker : (x y : ℕ) (xs : List ℕ) → x ≤ y → AllByRecursion (λ z. y < z) xs → AllByRecursion (λ z. x < z) xs
all_weaker x y [] l h = tt
all_weaker x y (z ∷ zs) l h = (omega (arith, l, h.0), all_weaker x y zs l h.1)

all_append : (x : ℕ) (xs ys : List ℕ) → AllByRecursion (λ z. x < z) xs → AllByRecursion (λ z. x < z) ys → AllByRecursion (λ z. x < z) (xs ++ ys)
all_append x [] ys h g = g
all_append x (z ∷ zs) ys h g = (h.0, all_append x zs ys h.1 g)

all_front : (x : ℕ) (xs ys : List ℕ) → AllByRecursion (λ z. x < z) (xs ++ ys) → AllByRecursion (λ z. x < z) xs × AllByRecursion (λ z. x < z) ys
all_front x [] ys h = (tt, h)
all_front x (z ∷ zs) ys h = let y = all_front x zs ys h.1 in ((h.0, y.0), y.1)

-- part of a list that rises, before part of another that rises above it
up_filter : (p : ℕ → Bool) (xs ys zs : List ℕ) → Up (xs ++ ys) → (Up ys → Up zs) → ((x : ℕ) → AllByRecursion (λ y. x < y) ys → AllByRecursion (λ y. x < y) zs) → Up (filter p xs ++ zs)
up_filter p [] ys zs h so all = so h
up_filter p (x ∷ xs) ys zs h so all = by_test (up_filter p xs ys zs h.1 so all) (p x)
  where
    above : AllByRecursion (λ y. x < y) (filter p xs ++ zs)
    above = let parts = all_front x xs ys h.0 in all_append x (filter p xs) zs (all_filter x p xs parts.0) (all x parts.1)

    by_test : Up (filter p xs ++ zs) → (b : Bool) → Up (cond b (x ∷ filter p xs) (filter p xs) ++ zs)
    by_test rest true = (above, rest)
    by_test rest false = rest

-- of each list of a row a part
module _ (p : Epoch → ℕ → Bool) (f : Epoch → List ℕ) where
  all_flat : (x : ℕ) (es : List Epoch) → AllByRecursion (λ y. x < y) (flat_map f es) → AllByRecursion (λ y. x < y) (flat_map (λ e. filter (p e) (f e)) es)
  all_flat x [] h = tt
  all_flat x (e ∷ es) h = let parts = all_front x (f e) (flat_map f es) h in all_append x (filter (p e) (f e)) (flat_map (λ d. filter (p d) (f d)) es) (all_filter x (p e) (f e) parts.0) (all_flat x es parts.1)

  up_flat : (es : List Epoch) → Up (flat_map f es) → Up (flat_map (λ e. filter (p e) (f e)) es)
  up_flat [] h = tt
  up_flat (e ∷ es) h = up_filter (p e) (f e) (flat_map f es) (flat_map (λ d. filter (p d) (f d)) es) h (up_flat es) (λ x. all_flat x es)

pub increasing : (xs : List ℕ) → Up xs → IsStrictlyIncreasing xs
increasing [] up k h = absurd (omega (arith, h))
increasing (x ∷ []) up k h = absurd (omega (arith, h))
increasing (x ∷ y ∷ zs) up zero h = up.0.0
increasing (x ∷ y ∷ zs) up (suc k) h =
    let next : suc k + 1 ≡ suc (k + 1) = omega arith in
    subst (λ (n : ℕ). slice_index (y ∷ zs) k < slice_index (x ∷ y ∷ zs) n) (sym next) (increasing (y ∷ zs) up.1 k (omega (arith, h)))

pub same_increasing : (xs ys : List ℕ) → Up xs → IsStrictlyIncreasing ys → ((t : ℕ) → has xs t ≡ has ys t) → xs ≡ ys
same_increasing xs ys up vp same = same_up xs ys up (up_from ys vp) same

-- ---- the Begins of a log
record Begun (n : ℕ) (L : List Record) : Type 0 where
  up : Up (begun L)
  below : AllByRecursion (λ t. t < n) (begun L)

all_up : (n m : ℕ) (xs : List ℕ) → n ≤ m → AllByRecursion (λ t. t < n) xs → AllByRecursion (λ t. t < m) xs
all_up n m [] l h = tt
all_up n m (x ∷ xs) l h = (omega (arith, l, h.0), all_up n m xs l h.1)

all_push : (m t : ℕ) (xs : List ℕ) → AllByRecursion (λ u. u < m) xs → t < m → AllByRecursion (λ u. u < m) (xs ++ t ∷ [])
all_push m t [] h l = (l, tt)
all_push m t (x ∷ xs) h l = (h.0, all_push m t xs h.1 l)

up_push : (t : ℕ) (xs : List ℕ) → Up xs → AllByRecursion (λ u. u < t) xs → Up (xs ++ t ∷ [])
up_push t [] up h = (tt, tt)
up_push t (x ∷ xs) up h = (all_append x xs (t ∷ []) up.0 (h.0, tt), up_push t xs up.1 h.1)

no_begin : (n m : ℕ) (M : List Record) (r : Record) → begun (r ∷ []) ≡ [] → n ≤ m → Begun n M → Begun m (M ++ r ∷ [])
no_begin n m M r e l h = record { up = subst Up (sym same) h.up; below = subst (AllByRecursion (λ t. t < m)) (sym same) (all_up n m (begun M) l h.below) }
  where
    same : begun (M ++ r ∷ []) ≡ begun M
    same = filter_map-append begin_by M (r ∷ []) ∙ ap (λ ts. begun M ++ ts) e ∙ append-nil (begun M)

begins : (n t : ℕ) (M : List Record) → t ≡ n → Begun n M → Begun (n + 1) (M ++ Begin t ∷ [])
begins n t M e h = record { up = subst Up (sym more) (up_push t (begun M) h.up (subst (λ m. AllByRecursion (λ u. u < m) (begun M)) (sym e) h.below)); below = subst (AllByRecursion (λ u. u < n + 1)) (sym more) (all_push (n + 1) t (begun M) (all_up n (n + 1) (begun M) (omega arith) h.below) (omega (arith, e))) }
  where
    more : begun (M ++ Begin t ∷ []) ≡ begun M ++ t ∷ []
    more = filter_map-append begin_by M (Begin t ∷ [])

begun_next : (s : Sizes) (h g : Rules) (M : List Record) (r : Record) → rules_step s h r ≡ Some g → Begun h.next M → Begun g.next (M ++ r ∷ [])
begun_next s h g M r e b = subst (λ n. Begun n (M ++ r ∷ [])) (sym (tells_step s h r g e).2) (go r e)
  where
    go : (x : Record) → rules_step s h x ≡ Some g → Begun (next_with x h.next) (M ++ x ∷ [])
    go (Begin t) f = begins h.next t M (begin_number s h t (rw f refl)) b
    go (Solo t p c) f = no_begin h.next (h.next + 1) M (Solo t p c) refl (omega arith) b
    go (Format i n) f = no_begin h.next h.next M (Format i n) refl (omega arith) b
    go (Forward t c) f = no_begin h.next h.next M (Forward t c) refl (omega arith) b
    go (Back t c) f = no_begin h.next h.next M (Back t c) refl (omega arith) b
    go (Done t c a) f = no_begin h.next h.next M (Done t c a) refl (omega arith) b
    go (Commit t) f = no_begin h.next h.next M (Commit t) refl (omega arith) b
    go (Ended t) f = no_begin h.next h.next M (Ended t) refl (omega arith) b
    go AuditBegin f = no_begin h.next h.next M AuditBegin refl (omega arith) b
    go (AuditClean n) f = no_begin h.next h.next M (AuditClean n) refl (omega arith) b
    go (AuditFail n rs) f = no_begin h.next h.next M (AuditFail n rs) refl (omega arith) b
    go (Restarted rs ds) f = no_begin h.next h.next M (Restarted rs ds) refl (omega arith) b

all_begun : (s : Sizes) (L : List Record) (g : Rules) → rules_state s L ≡ Some g → Begun g.next L
all_begun s = by_push (λ M. (g : Rules) → rules_state s M ≡ Some g → Begun g.next M) (λ g e. record { up = tt; below = tt }) (λ M r ih g e. step M r ih g (rules_state s M) refl (sym (rules_state_push s M r) ∙ e))
  where
    step : (M : List Record) (r : Record) → ((g : Rules) → rules_state s M ≡ Some g → Begun g.next M) → (g : Rules) (o : Option Rules) → rules_state s M ≡ o → rules_next s o r ≡ Some g → Begun g.next (M ++ r ∷ [])
    step M r ih g None e f = absurd (cc)
    step M r ih g (Some h) e f = begun_next s h g M r f (ih h e)

rules_of : (s : Sizes) (L : List Record) (o : Option Rules) → rules_state s L ≡ o → IsSome o → (g : Rules) × (rules_state s L ≡ Some g)
rules_of s L None e k = absurd (cc)
rules_of s L (Some g) e k = (g, e)

-- so the lists of the deleted rise from epoch to epoch
pub deleted_up : (s : Sizes) (L : List Record) → IsSome (rules_state s L) → Up (flat_map deleted_list (epochs L))
deleted_up s L legal =
    let g = rules_of s L (rules_state s L) refl legal in
    up_flat (λ e t. has (committed e.records) t && has_corrupt (marks (damage_of e) e.records) t) (λ e. begun e.records) (epochs L)
    (subst Up (in_epochs _ begin_by (λ i n. refl) (λ rs ds. refl) s L legal) (all_begun s L g.0 g.1).up)
