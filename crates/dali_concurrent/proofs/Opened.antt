-- A transaction that is open was so since its client began it.
use Rattle.std.proofs.Common.{◌≡◌, ℕ, zero, suc, Bool, true, false, List, [], ◌∷◌, ◌++◌, Option, Some, None, refl, ap, sym, subst, ◌∙◌, ◌⊎◌, inl, inr}
use Rattle.std.specs.Prelude.{fold, ◌==◌, if◌then◌else◌, is_some}
use Rattle.std.proofs.lemmas.List.{append-nil, append_assoc}
use Rattle.std.proofs.lemmas.List.Sums.{fold-append}
use Rattle.std.proofs.lemmas.Bool.{eqb-true}
use Rattle.dali_lists.proofs.Numbers.{eqb-self}
use Rattle.dali_lists.proofs.Tests.{not_both_ways}
use Rattle.dali_record.specs.declared.records.Record.TheVariants.{Begin, Commit, Ended}
use Rattle.dali_att.specs.declared.state.State.{State}
use Rattle.dali_att.specs.declared.state.State.TheVariants.{Live, Dead, Cleaning, Committed}
use Rattle.dali_runs.specs.State.{state_of}
use Rattle.dali_transcripts.specs.World.{Deed, Logs, DiesOn, Claims, GivesBack, state_step, claimed, given_back}
use Rattle.dali_concurrent.specs.Entries.{Does, Entry, Did, Entries, deeds_of, done_in, opener_by, opener_step}
use Rattle.dali_concurrent.specs.Rules.{Outset, state_by, Fits, AllFit}
use Rattle.dali_concurrent.specs.Clients.{is_open_in}
use Rattle.dali_concurrent.proofs.Fitting.{fits_next, by_entries}
use Rattle.dali_concurrent.proofs.Entries.{deeds_push, IdleIn, other, not_its}

module _ (o : Outset) where
  -- behind a deed it is open where it was, or where the deed began it
  pub open_before : (P : Entries) (t : ℕ) (k : List ℕ) (x : Deed) (c : ℕ) (s : Option State) → s ≡ state_by o P t → Fits o P (k, Did x c) → is_open_in (state_step t s (x, c)) ≡ true → (is_open_in s ≡ true) ⊎ (x ≡ Logs (Begin t))
  open_before P t k (Logs (Begin u)) c s e f h = by_test (u == t) refl h
    where
      by_test : (b : Bool) → (u == t) ≡ b → is_open_in (if b then Some Live else s) ≡ true → (is_open_in s ≡ true) ⊎ (Logs (Begin u) ≡ Logs (Begin t))
      by_test true is g = inr (ap (λ z. Logs (Begin z)) (eqb-true u t is))
      by_test false is g = inl g
  open_before P t k (Logs (Commit u)) c s e f h = by_test (u == t) refl h
    where
      by_test : (b : Bool) → (u == t) ≡ b → is_open_in (if b then Some Committed else s) ≡ true → (is_open_in s ≡ true) ⊎ (Logs (Commit u) ≡ Logs (Begin t))
      by_test true is g = inl (ap is_open_in (e ∙ subst (λ z. state_by o P z ≡ Some Live) (eqb-true u t is) f.fits.txn))
      by_test false is g = inl g
  open_before P t k (Logs (Ended u)) c s e f h = by_test (u == t) h
    where
      by_test : (b : Bool) → is_open_in (if b then None else s) ≡ true → (is_open_in s ≡ true) ⊎ (Logs (Ended u) ≡ Logs (Begin t))
      by_test true g = absurd (cc)
      by_test false g = inl g
  open_before P t k (DiesOn u r) c s e f h = by_test (u == t) h
    where
      by_test : (b : Bool) → is_open_in (if b then Some (Dead (Some r)) else s) ≡ true → (is_open_in s ≡ true) ⊎ (DiesOn u r ≡ Logs (Begin t))
      by_test true g = absurd (cc)
      by_test false g = inl g
  open_before P t k (Claims u) c s e f h = by_test (u == t) s h
    where
      takes : (s : Option State) → is_open_in (claimed s) ≡ true → is_open_in s ≡ true
      takes None g = g
      takes (Some (Dead latched)) g = absurd (cc)
      takes (Some st) g = g

      by_test : (b : Bool) (s : Option State) → is_open_in (if b then claimed s else s) ≡ true → (is_open_in s ≡ true) ⊎ (Claims u ≡ Logs (Begin t))
      by_test true s g = inl (takes s g)
      by_test false s g = inl g
  open_before P t k (GivesBack u latched) c s e f h = by_test (u == t) s h
    where
      gives : (s : Option State) → is_open_in (given_back latched s) ≡ true → is_open_in s ≡ true
      gives None g = g
      gives (Some (Cleaning was)) g = absurd (cc)
      gives (Some st) g = g

      by_test : (b : Bool) (s : Option State) → is_open_in (if b then given_back latched s else s) ≡ true → (is_open_in s ≡ true) ⊎ (GivesBack u latched ≡ Logs (Begin t))
      by_test true s g = inl (gives s g)
      by_test false s g = inl g
  open_before P t k x c s e f h = inl h

  state_push : (P : Entries) (t : ℕ) (p : List ℕ × Entry) → state_by o (P ++ p ∷ []) t ≡ fold (state_step t) (state_by o P t) (deeds_of (p ∷ []))
  state_push P t p = deeds_push (state_step t) (state_of o.old.system t) P p

  opener_push : (P : Entries) (t : ℕ) (p : List ℕ × Entry) → opener_by t (P ++ p ∷ []) ≡ opener_step t (opener_by t P) p
  opener_push P t p = fold-append (opener_step t) None P (p ∷ [])

  -- one entry of others than c
  back_one : (P : Entries) (t c : ℕ) (p : List ℕ × Entry) → Fits o P p → done_in c p ≡ None → opener_by t (P ++ p ∷ []) ≡ Some c → is_open_in (state_by o (P ++ p ∷ []) t) ≡ true → (opener_by t P ≡ Some c) × (is_open_in (state_by o P t) ≡ true)
  back_one P t c p f none h g = by p f none (sym (opener_push P t p) ∙ h) (ap is_open_in (sym (state_push P t p)) ∙ g)
    where
      began : (x : Deed) (e : ℕ) (k : List ℕ) → Fits o P (k, Did x e) → (e == c) ≡ false → opener_step t (opener_by t P) (k, Did x e) ≡ Some c → is_open_in (state_step t (state_by o P t) (x, e)) ≡ true → (opener_by t P ≡ Some c) × (is_open_in (state_by o P t) ≡ true)
      began (Logs (Begin u)) e k f apart l m = by_test (u == t) refl l (open_before P t k (Logs (Begin u)) e (state_by o P t) refl f m)
        where
          by_test : (b : Bool) → (u == t) ≡ b → (if b then Some e else opener_by t P) ≡ Some c → (is_open_in (state_by o P t) ≡ true) ⊎ (Logs (Begin u) ≡ Logs (Begin t)) → (opener_by t P ≡ Some c) × (is_open_in (state_by o P t) ≡ true)
          by_test true is q w = not_its e c apart q
          by_test false is q (inl w) = (q, w)
          by_test false is q (inr same) = let eq : u ≡ t = cc in absurd (not_both_ways (subst (λ z. (u == z) ≡ true) eq (eqb-self u)) is)
      began x e k f apart l m = either (open_before P t k x e (state_by o P t) refl f m)
        where
          either : (is_open_in (state_by o P t) ≡ true) ⊎ (x ≡ Logs (Begin t)) → (opener_by t P ≡ Some c) × (is_open_in (state_by o P t) ≡ true)
          either (inl w) = (l, w)
          either (inr same) = absurd (cc)

      by : (p : List ℕ × Entry) → Fits o P p → done_in c p ≡ None → opener_step t (opener_by t P) p ≡ Some c → is_open_in (fold (state_step t) (state_by o P t) (deeds_of (p ∷ []))) ≡ true → (opener_by t P ≡ Some c) × (is_open_in (state_by o P t) ≡ true)
      by (k, Did x e) f none l m = began x e k f (other e c (Does x) none) l m
      by p f none l m = (l, m)

  pub open_back : (t c : ℕ) (R A : Entries) → AllFit o (A ++ R) → IdleIn c R → opener_by t (A ++ R) ≡ Some c → is_open_in (state_by o (A ++ R) t) ≡ true → (opener_by t A ≡ Some c) × (is_open_in (state_by o A t) ≡ true)
  open_back t c [] A good idle h g = (ap (opener_by t) (sym (append-nil A)) ∙ h, ap (λ P. is_open_in (state_by o P t)) (sym (append-nil A)) ∙ g)
  open_back t c (p ∷ R) A good idle h g =
      let moved : A ++ p ∷ R ≡ (A ++ p ∷ []) ++ R = sym (append_assoc A (p ∷ []) R) in
      let later = open_back t c R (A ++ p ∷ []) (subst (AllFit o) moved good) (λ i q e. idle (suc i) q e) (ap (opener_by t) (sym moved) ∙ h) (ap (λ P. is_open_in (state_by o P t)) (sym moved) ∙ g) in
      back_one A t c p (fits_next o A p R good) (idle zero p refl) later.0 later.1

  -- and one that wasn't open at the start has one who began it
  has_opener : (t : ℕ) (P : Entries) (p : List ℕ × Entry) → AllFit o P → Fits o P p → (is_open_in (state_by o P t) ≡ true → is_some (opener_by t P) ≡ true) → is_open_in (state_by o (P ++ p ∷ []) t) ≡ true → is_some (opener_by t (P ++ p ∷ [])) ≡ true
  has_opener t P p good f q g = ap is_some (opener_push P t p) ∙ by p f (ap is_open_in (sym (state_push P t p)) ∙ g)
    where
      began : (x : Deed) (e : ℕ) (k : List ℕ) → (is_open_in (state_by o P t) ≡ true) ⊎ (x ≡ Logs (Begin t)) → is_some (opener_step t (opener_by t P) (k, Did x e)) ≡ true
      began (Logs (Begin u)) e k w = by_test (u == t) refl w
        where
          by_test : (b : Bool) → (u == t) ≡ b → (is_open_in (state_by o P t) ≡ true) ⊎ (Logs (Begin u) ≡ Logs (Begin t)) → is_some (if b then Some e else opener_by t P) ≡ true
          by_test true is v = refl
          by_test false is (inl v) = q v
          by_test false is (inr same) = let eq : u ≡ t = cc in absurd (not_both_ways (subst (λ z. (u == z) ≡ true) eq (eqb-self u)) is)
      began x e k (inl v) = q v
      began x e k (inr same) = absurd (cc)

      by : (p : List ℕ × Entry) → Fits o P p → is_open_in (fold (state_step t) (state_by o P t) (deeds_of (p ∷ []))) ≡ true → is_some (opener_step t (opener_by t P) p) ≡ true
      by (k, Did x e) f m = began x e k (open_before P t k x e (state_by o P t) refl f m)
      by p f m = q m

  pub opened : (t : ℕ) (H : Entries) → AllFit o H → is_open_in (state_of o.old.system t) ≡ false → is_open_in (state_by o H t) ≡ true → is_some (opener_by t H) ≡ true
  opened t H good shut = by_entries o (λ P. is_open_in (state_by o P t) ≡ true → is_some (opener_by t P) ≡ true) (λ h. absurd (not_both_ways h shut)) (has_opener t) H good
