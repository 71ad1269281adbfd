-- What a clean-up asks of regions and system, over an index region and a heap region that nobody has latched, or dead clients; for the tests.
use Rattle.std.proofs.Common.{◌≡◌, ℕ, true, false, zero, suc, [], ◌∷◌, Option, Some, None, refl, sym, ap, subst, ◌∙◌, slice_get}
use Rattle.std.specs.Prelude.{◌==◌, IfSome}
use Rattle.std.specs.List.{list_all}
use Rattle.std.proofs.lemmas.Bool.Decides.{Decides-eqb}
use Rattle.std.proofs.lemmas.Option.{same_Some}
use Rattle.dali_geometry.specs.Places.{regions}
use Rattle.dali_region.specs.declared.Hold.{Hold}
use Rattle.dali_region.specs.State.{RegionState}
use Rattle.dali_att.specs.declared.state.State.TheVariants.{Dead}
use Rattle.dali_att.specs.Table.{undos_at}
use Rattle.dali_runs.specs.State.{SystemState, row_of, state_of, hold_in}
use Rattle.dali_runs.specs.Wholes.{is_of_kind, latched_in}
use Rattle.dali_clean.specs.Cleaned.{MayClean}
use Rattle.dali_clean.proofs.Fitting.{kind_of}

no_hold : (g h : RegionState) → h.hold ≡ None → (let o : Option RegionState = Some g in Some h ≡ o) → g.hold ≡ None
no_hold g h none e = let same : h ≡ g = cc in subst (λ (x : RegionState). x.hold ≡ None) same none

unheld : (i h : RegionState) → i.hold ≡ None → h.hold ≡ None → (r : ℕ) (g : RegionState) → slice_get (i ∷ h ∷ []) r ≡ Some g → g.hold ≡ None
unheld i h first second zero g e = no_hold g i first e
unheld i h first second (suc zero) g e = no_hold g h second e
unheld i h first second (suc (suc r)) g e = let no : None ≡ Some g = e in absurd cc

held_by_none : (i h : RegionState) → i.hold ≡ None → h.hold ≡ None → (r : ℕ) → hold_in (slice_get (i ∷ h ∷ []) r) ≡ None
held_by_none i h first second zero = first
held_by_none i h first second (suc zero) = second
held_by_none i h first second (suc (suc r)) = refl

no_some : {A : Type 0} (o : Option A) (x : A) → o ≡ None → o ≡ Some x → ⊥
no_some o x none some = let no : None ≡ Some x = sym none ∙ some in absurd cc

pub may_clean : (i h : RegionState) (y : SystemState) (t : ℕ) → i.hold ≡ None → h.hold ≡ None → regions y.sizes ≡ 2 → latched_in (state_of y t) ≡ None
    → list_all (is_of_kind y.sizes) (undos_at y.table t) ≡ true → MayClean (i ∷ h ∷ []) y t
may_clean i h y t first second two none kind = record {
  regions = sym two;
  kind = kind_of y.sizes (row_of y t) kind;
  dead = λ r g at. subst (λ (o : Option Hold). IfSome o (λ h. h.dead ≡ true)) (sym (unheld i h first second r g at)) tt;
  own = λ r k held own. absurd (no_some (hold_in (slice_get (i ∷ h ∷ []) r)) k (held_by_none i h first second r) held);
  named = λ r is. absurd (no_some (latched_in (state_of y t)) r none (ap latched_in is));
}

-- ---- where a transaction died with region 0 latched, and another one with region 1
if_dead : (o : Option Hold) (a : Hold) → o ≡ Some a → a.dead ≡ true → IfSome o (λ h. h.dead ≡ true)
if_dead o a e dead = subst (λ (p : Option Hold). IfSome p (λ h. h.dead ≡ true)) (sym e) dead

pub may_clean_over : (i h : RegionState) (a b : Hold) (y : SystemState) (t : ℕ) → i.hold ≡ Some a → h.hold ≡ Some b → a.dead ≡ true → b.dead ≡ true → a.txn ≡ t → (b.txn == t) ≡ false
    → regions y.sizes ≡ 2 → state_of y t ≡ Some (Dead (Some 0)) → list_all (is_of_kind y.sizes) (undos_at y.table t) ≡ true → MayClean (i ∷ h ∷ []) y t
may_clean_over i h a b y t first second gone other_gone own apart two state kind = record {
  regions = sym two;
  kind = kind_of y.sizes (row_of y t) kind;
  dead = all_dead;
  own = own_at;
  named = λ r is. by_region r (same_Some 0 r (sym (ap latched_in state) ∙ ap latched_in is));
}
  where
    all_dead : (r : ℕ) (g : RegionState) → slice_get (i ∷ h ∷ []) r ≡ Some g → IfSome g.hold (λ h. h.dead ≡ true)
    all_dead zero g e = let same : i ≡ g = same_Some i g e in subst (λ (x : RegionState). IfSome x.hold (λ h. h.dead ≡ true)) same (if_dead i.hold a first gone)
    all_dead (suc zero) g e = let same : h ≡ g = same_Some h g e in subst (λ (x : RegionState). IfSome x.hold (λ h. h.dead ≡ true)) same (if_dead h.hold b second other_gone)
    all_dead (suc (suc r)) g e = absurd (no_some (slice_get (i ∷ h ∷ []) (suc (suc r))) g refl e)

    never : b.txn ≡ t → ⊥
    never e = let is : (b.txn == t) ≡ true = (Decides-eqb b.txn t).1 e in cc

    own_at : (r : ℕ) (k : Hold) → hold_in (slice_get (i ∷ h ∷ []) r) ≡ Some k → k.txn ≡ t → latched_in (state_of y t) ≡ Some r
    own_at zero k held e = ap latched_in state
    own_at (suc zero) k held e = absurd (never (ap (λ (x : Hold). x.txn) (same_Some b k (sym second ∙ held)) ∙ e))
    own_at (suc (suc r)) k held e = absurd (no_some (hold_in (slice_get (i ∷ h ∷ []) (suc (suc r)))) k refl held)

    by_region : (r : ℕ) → 0 ≡ r → (k : Hold) × (hold_in (slice_get (i ∷ h ∷ []) r) ≡ Some k) × (k.txn ≡ t) × (k.dead ≡ true)
    by_region r e = subst (λ (n : ℕ). (k : Hold) × (hold_in (slice_get (i ∷ h ∷ []) n) ≡ Some k) × (k.txn ≡ t) × (k.dead ≡ true)) e (a, first, own, gone)
