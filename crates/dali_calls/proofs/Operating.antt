-- The steps of an operation on its region, and its words, written one after another.
use Rattle.std.proofs.Common.{◌≡◌, ◌≢◌, ℕ, ◌<◌, Bool, true, false, List, [], ◌∷◌, ◌++◌, Option, Some, None, IsSome, IsSomeAnd, refl, sym, ap, subst, ◌∙◌, slice_get, slice_set}
use Rattle.std.specs.Prelude.{◌^◌, ◌==◌}
use Rattle.std.proofs.lemmas.Bool.Decides.{Decides-eqb}
use Rattle.dali_lists.proofs.Lists.{get_set, get_set_other}
use Rattle.dali_record.specs.declared.operations.Block.{Block}
use Rattle.dali_region.specs.declared.Hold.{Hold}
use Rattle.dali_region.specs.State.{RegionState, IsLive, map_hold, writing, latched, with_reads}
use Rattle.dali_runs.specs.State.{SystemState, state_of, hold_in}
use Rattle.dali_runs.specs.Regions.{RegionStep, Latch, NoteReads, Update, TakeBack, Poke, Check, Die, Clean, IsOpen, MayChange, region_after, is_alive, IsAlone}
use Rattle.dali_runs.specs.Courses.{Step, OnRegion}
use Rattle.dali_system.specs.declared.operation.Operation.{Operation}
use Rattle.dali_system.specs.UnderWay.{IsUnderWay, IsUpdated}
use Rattle.dali_system.proofs.UnderWays.{IsSameWay}
use Rattle.dali_calls.specs.Operating.{IsHeldBy, IsOwn, Goes, AreUpdates, AreWritten}

-- ---- who holds the region
live_in : (t : ℕ) (o : Option Hold) → IsSomeAnd o (λ h. (h.txn ≡ t) × (h.dead ≡ false)) → IsSomeAnd o (λ h. h.dead ≡ false)
live_in t None held = held
live_in t (Some h) held = held.1

pub live_of : (t : ℕ) (g : RegionState) → IsHeldBy t g → IsLive g
live_of t g held = live_in t g.hold held

pub is_live : (txn : ℕ) (b : Block) (left taken : ℕ) (g : RegionState) → IsUnderWay txn b left taken g → IsLive g
is_live txn b left taken g way = subst (λ (o : Option Hold). IsSomeAnd o (λ h. h.dead ≡ false)) (sym way.hold) refl

pub still_held : (t i : ℕ) (o : Option Hold) → IsSomeAnd o (λ h. (h.txn ≡ t) × (h.dead ≡ false)) → IsSomeAnd (map_hold (writing i) o) (λ h. (h.txn ≡ t) × (h.dead ≡ false))
still_held t i None held = held
still_held t i (Some h) held = held

pub held_open : (g : RegionState) (t : ℕ) (b : Block) → IsOpen g t b → IsHeldBy t g × IsSome g.hold
held_open g t b o = (subst (λ (h : Option Hold). IsSomeAnd h (λ k. (k.txn ≡ t) × (k.dead ≡ false))) (sym o.hold) (refl, refl), subst (λ (h : Option Hold). IsSome h) (sym o.hold) refl)

pub alone_of : (y : SystemState) (t : ℕ) (x : RegionStep) (g : RegionState) → is_alive (state_of y t) ≡ true → IsOwn t x g → IsAlone y x g
alone_of y t (Latch u) g a o = ap (λ (v : ℕ). is_alive (state_of y v)) o ∙ a
alone_of y t (NoteReads mask) g a o = tt
alone_of y t (Update word value) g a o = tt
alone_of y t TakeBack g a o = live_of t g o
alone_of y t (Poke word mask) g a o = absurd o
alone_of y t Check g a o = absurd o
alone_of y t Die g a o = absurd o
alone_of y t (Clean side) g a o = absurd o

-- ---- steps on the region
abbrev pub steps_on : ℕ → List RegionStep → List Step
steps_on r [] = []
steps_on r (x ∷ xs) = OnRegion r x ∷ steps_on r xs

updates_go : (t : ℕ) (g h : RegionState) (ws : List (ℕ × ℕ)) → IsHeldBy t g → AreUpdates g ws h → (xs : List RegionStep) × Goes t g xs h
updates_go t g h [] held u = ([], u)
updates_go t g h (w ∷ ws) held u = let rest = updates_go t (region_after (Update w.0 w.1) g) h ws (still_held t w.0 g.hold held) u.1 in (Update w.0 w.1 ∷ rest.0, (u.0, held, rest.1))

pub goes_on : (t : ℕ) (g h k : RegionState) (xs ys : List RegionStep) → Goes t g xs h → Goes t h ys k → Goes t g (xs ++ ys) k
goes_on t g h k [] ys p q = subst (λ (x : RegionState). Goes t x ys k) (sym p) q
goes_on t g h k (x ∷ xs) ys p q = (p.0, p.1, goes_on t (region_after x g) h k xs ys p.2 q)

updates_on : (g h k : RegionState) (ws : List (ℕ × ℕ)) (word value : ℕ) → AreUpdates g ws h → MayChange (Update word value) h → k ≡ region_after (Update word value) h → AreUpdates g (ws ++ (word, value) ∷ []) k
updates_on g h k [] word value u may e = (subst (λ (x : RegionState). MayChange (Update word value) x) (sym u) may, ap (region_after (Update word value)) u ∙ sym e)
updates_on g h k (w ∷ ws) word value u may e = (u.0, updates_on (region_after (Update w.0 w.1) g) h k ws word value u.1 may e)

-- ---- one word more
pub more_written : (g0 g h : RegionState) → AreWritten g0 g → IsUpdated g h → AreWritten g0 h
more_written g0 g h w u = (w.0 ++ (u.0, u.1) ∷ [], updates_on g0 g h w.0 u.0 u.1 w.1 u.2 u.3)

pub still_same : (a b c : Option Operation) → IsSameWay a b → IsSameWay b c → IsSameWay a c
still_same None b c p q = tt
still_same (Some o) None c p q = absurd p
still_same (Some o) (Some b) None p q = absurd q
still_same (Some o) (Some b) (Some c) p q = (q.0 ∙ p.0, q.1 ∙ p.1)

-- ---- the region from its latch on
pub opened_by : (t : ℕ) (b : Block) (g g1 g2 : RegionState) → g.hold ≡ None → b.read < 2 ^ 64 → g1 ≡ with_reads b.read (latched t g) → AreWritten g1 g2 → (xs : List RegionStep) × Goes t g xs g2
opened_by t b g g1 g2 free fits is w =
    let held : IsHeldBy t g1 = subst (IsHeldBy t) (sym is) (refl, refl) in
    let rest = updates_go t g1 g2 w.0 held w.1 in
    let first : Goes t g (Latch t ∷ NoteReads b.read ∷ []) g1 = (free, refl, (((refl, refl), fits), (refl, refl), sym is)) in
    (Latch t ∷ NoteReads b.read ∷ [] ++ rest.0, goes_on t g g1 g2 (Latch t ∷ NoteReads b.read ∷ []) rest.0 first rest.1)

-- ---- which hold stands once a region has none
pub held_of : (rs : List RegionState) (r : ℕ) (g h : RegionState) (q : ℕ) (o : Hold) → slice_get rs r ≡ Some g → h.hold ≡ None → hold_in (slice_get (slice_set rs r h) q) ≡ Some o → (r ≢ q) × (hold_in (slice_get rs q) ≡ Some o)
held_of rs r g h q o at none held = by_test (r == q) refl
  where
    no_hold : (let n : Option Hold = None in n ≡ Some o) → ⊥
    no_hold f = cc

    apart : (r == q) ≡ false → r ≢ q
    apart n e = let is : (r == q) ≡ true = (Decides-eqb r q).1 e in cc

    by_test : (b : Bool) → (r == q) ≡ b → (r ≢ q) × (hold_in (slice_get rs q) ≡ Some o)
    by_test true e =
        let same : r ≡ q = (Decides-eqb r q).0 e in
        let is : hold_in (slice_get (slice_set rs r h) q) ≡ None = subst (λ (n : ℕ). hold_in (slice_get (slice_set rs r h) n) ≡ None) same (ap hold_in (get_set rs r g h at) ∙ none) in
        absurd (no_hold (sym is ∙ held))
    by_test false e = (apart e, ap hold_in (sym (get_set_other rs r h q (apart e))) ∙ held)
