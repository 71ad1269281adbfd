-- Entries by who signs them, and what those leave that a note hasn't signed.
use Rattle.std.proofs.Common.{◌≡◌, ℕ, zero, suc, Bool, true, false, List, [], ◌∷◌, ◌++◌, Option, Some, None, refl, ap, sym, subst, ◌∙◌}
use Rattle.std.specs.Prelude.{slice_get, filter_map, fold, ◌==◌, ◌||◌, if◌then◌else◌}
use Rattle.std.proofs.lemmas.List.{append-nil}
use Rattle.std.proofs.lemmas.List.Elements.{filter_map-append}
use Rattle.std.proofs.lemmas.List.Sums.{fold-append}
use Rattle.std.proofs.lemmas.Bool.{eqb-true}
use Rattle.dali_lists.proofs.Numbers.{eqb-self, eqb-suc}
use Rattle.dali_lists.proofs.Tests.{not_both_ways}
use Rattle.dali_runs.proofs.CountsLemmas.Lists.{some_same}
use Rattle.dali_record.specs.declared.records.Record.TheVariants.{Forward, Back, Solo}
use Rattle.dali_transcripts.specs.World.{Deed, Logs, DiesOn, GivesBack, Happening}
use Rattle.dali_transcripts.specs.Rounds.{is_on}
use Rattle.dali_notes.specs.History.{signs}
use Rattle.dali_concurrent.specs.Entries.{Does, Latches, Entry, Did, Latched, Freed, Entries, At, system_note, region_note, client_note, values_of, notes_of, deed_in, deeds_of, done_in, on_in, live_step}
use Rattle.dali_concurrent.specs.Rules.{dead_deed, dead_step}
use Rattle.dali_concurrent.proofs.Lists.{filter_map-none, fold-same}

-- no entry stands there that the note k signs
abbrev pub Quiet : ℕ → ℕ → Entries → Type 0
Quiet n k R = (i : ℕ) (p : List ℕ × Entry) → At R i p → signs k (notes_of n p.1) ≡ false

pub neither : (a b : Bool) → (a || b) ≡ false → (a ≡ false) × (b ≡ false)
neither true b h = absurd (cc)
neither false b h = (refl, h)

pub not_signed : (k : ℕ) (ks js : List ℕ) → (signs k ks ≡ true → signs k js ≡ true) → signs k js ≡ false → signs k ks ≡ false
not_signed k ks js more none = by_test (signs k ks) refl
  where
    by_test : (b : Bool) → signs k ks ≡ b → b ≡ false
    by_test false e = refl
    by_test true e = absurd (not_both_ways (more e) none)

pub same_region : (q r : ℕ) → (region_note q == region_note r) ≡ false → (q == r) ≡ false
same_region q r h = sym (eqb-suc q r) ∙ (sym (eqb-suc (suc q) (suc r)) ∙ h)

pub same_client : (n d c : ℕ) → (client_note n d == client_note n c) ≡ false → (d == c) ≡ false
same_client n d c h = by_test (d == c) refl
  where
    by_test : (b : Bool) → (d == c) ≡ b → b ≡ false
    by_test false e = refl
    by_test true e = absurd (not_both_ways (eqb-self (client_note n c)) (subst (λ z. (client_note n z == client_note n c) ≡ false) (eqb-true d c e) h))

-- ---- what is left
-- a client that hasn't signed did nothing
pub not_done : (n c : ℕ) (p : List ℕ × Entry) → signs (client_note n c) (notes_of n p.1) ≡ false → done_in c p ≡ None
not_done n c (k, Did x d) h = ap (λ b. if b then Some (Does x) else None) (same_client n d c (neither _ _ h).0)
not_done n c (k, Latched r t d) h = ap (λ b. if b then Some (Latches r) else None) (same_client n d c (neither _ _ h).0)
not_done n c p h = refl

-- nothing was done on a region that hasn't signed
only_one : (r k q : ℕ) → signs (region_note r) (k ∷ region_note q ∷ []) ≡ false → (q == r) ≡ false
only_one r k q h = same_region q r (neither (region_note q == region_note r) false (neither (k == region_note r) _ h).1).0

pub not_on : (r : ℕ) (x : Deed) → signs (region_note r) (values_of x) ≡ false → is_on r x ≡ false
not_on r (Logs (Forward t b)) h = only_one r system_note b.region h
not_on r (Logs (Back t b)) h = only_one r system_note b.region h
not_on r (Logs (Solo n t b)) h = only_one r system_note b.region h
not_on r (DiesOn t q) h = only_one r system_note q h
not_on r (GivesBack t (Some q)) h = only_one r system_note q h
not_on r x h = refl

pub not_on_it : (n r : ℕ) (p : List ℕ × Entry) → signs (region_note r) (notes_of n p.1) ≡ false → on_in r p ≡ None
not_on_it n r (k, Did x c) h = ap (λ b. if b then Some (x, c) else None) (not_on r x (neither (client_note n c == region_note r) _ h).1)
not_on_it n r p h = refl

pub live_left : (n r : ℕ) (s : Option (ℕ × ℕ)) (p : List ℕ × Entry) → signs (region_note r) (notes_of n p.1) ≡ false → live_step r s p ≡ s
live_left n r s (k, Did x c) h = ap (λ b. if b then None else s) (not_on r x (neither (client_note n c == region_note r) _ h).1)
live_left n r s (k, Latched q t c) h = ap (λ b. if b then Some (t, c) else s) (only_one r (client_note n c) q h)
live_left n r s (k, Freed q c) h = ap (λ b. if b then None else s) (only_one r (client_note n c) q h)
live_left n r s p h = refl

dead_by_deed : (r : ℕ) (s : Option ℕ) (x : Deed) → signs (region_note r) (values_of x) ≡ false → dead_deed r s x ≡ s
dead_by_deed r s (DiesOn t q) h = ap (λ b. if b then Some t else s) (only_one r system_note q h)
dead_by_deed r s (GivesBack t latched) h = refl
dead_by_deed r s x h = ap (λ b. if b then None else s) (not_on r x h)

pub dead_left : (n r : ℕ) (s : Option ℕ) (p : List ℕ × Entry) → signs (region_note r) (notes_of n p.1) ≡ false → dead_step r s p ≡ s
dead_left n r s (k, Did x c) h = dead_by_deed r s x (neither (client_note n c == region_note r) _ h).1
dead_left n r s (k, Latched q t c) h = ap (λ b. if b then None else s) (only_one r (client_note n c) q h)
dead_left n r s (k, Freed q c) h = ap (λ b. if b then None else s) (only_one r (client_note n c) q h)
dead_left n r s p h = refl

-- ---- so it suffices what the note has seen
module _ (n k : ℕ) (A R : Entries) (quiet : Quiet n k R) where
  pub picked_seen : {X : Type 0} (f : List ℕ × Entry → Option X) → ((p : List ℕ × Entry) → signs k (notes_of n p.1) ≡ false → f p ≡ None) → filter_map f (A ++ R) ≡ filter_map f A
  picked_seen f h = filter_map-append f A R ∙ (ap (λ l. filter_map f A ++ l) (filter_map-none f R (λ i p e. h p (quiet i p e))) ∙ append-nil (filter_map f A))

  pub folded_seen : {S : Type 0} (f : S → List ℕ × Entry → S) → ((s : S) (p : List ℕ × Entry) → signs k (notes_of n p.1) ≡ false → f s p ≡ s) → (s : S) → fold f s (A ++ R) ≡ fold f s A
  folded_seen f h s = fold-append f s A R ∙ fold-same f (fold f s A) R (λ i p t e. h t p (quiet i p e))

-- ---- deeds among the entries
pub deed_there : (R : Entries) (i : ℕ) (z : Happening) → slice_get (deeds_of R) i ≡ Some z → (j : ℕ) × (k : List ℕ) × At R j (k, Did z.0 z.1)
deed_there [] i z e = absurd (cc)
deed_there ((k, Did x c) ∷ R) zero z e = (zero, k, let same : (x, c) ≡ z = some e in ap (λ (y : Happening). Some (k, Did y.0 y.1)) same)
  where
    some : {X : Type 0} {a b : X} → Some a ≡ Some b → a ≡ b
    some f = cc
deed_there ((k, Did x c) ∷ R) (suc i) z e = let w = deed_there R i z e in (suc w.0, w.1, w.2)
deed_there (p ∷ R) i z e = let w = deed_there R i z e in (suc w.0, w.1, w.2)

-- ---- a client that does nothing in these entries
abbrev pub IdleIn : ℕ → Entries → Type 0
IdleIn c R = (i : ℕ) (p : List ℕ × Entry) → At R i p → done_in c p ≡ None

pub idle_of : (n c : ℕ) (R : Entries) → Quiet n (client_note n c) R → IdleIn c R
idle_of n c R quiet i p e = not_done n c p (quiet i p e)

-- the deed or latch of another client
pub other : {Y : Type 0} (e c : ℕ) (y : Y) → (if e == c then Some y else None) ≡ None → (e == c) ≡ false
other e c y h = by_test y (e == c) h
  where
    by_test : {Y : Type 0} (y : Y) (b : Bool) → (if b then Some y else None) ≡ None → b ≡ false
    by_test y false g = refl
    by_test y true g = absurd (cc)

pub not_its : {A : Type 0} (e c : ℕ) → (e == c) ≡ false → Some e ≡ Some c → A
not_its e c h f = absurd (not_both_ways (subst (λ n. (e == n) ≡ true) (some_same f) (eqb-self e)) h)

-- ---- one entry further
-- a fold over deeds, one entry further
pub deeds_push : {S : Type 0} (f : S → Happening → S) (s : S) (P : Entries) (p : List ℕ × Entry) → fold f s (deeds_of (P ++ p ∷ [])) ≡ fold f (fold f s (deeds_of P)) (deeds_of (p ∷ []))
deeds_push f s P p = ap (fold f s) (filter_map-append deed_in P (p ∷ [])) ∙ fold-append f s (deeds_of P) (deeds_of (p ∷ []))
