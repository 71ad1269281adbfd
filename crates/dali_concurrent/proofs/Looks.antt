-- Where an entry that needs a look fits, its client has looked.
use Rattle.std.proofs.Common.{◌≡◌, ℕ, zero, suc, ◌+◌, ◌-◌, ◌<◌, ◌≤◌, Bool, true, false, List, [], ◌∷◌, ◌++◌, length, Option, Some, None, refl, ap, sym, ◌∙◌, arith}
use Rattle.std.specs.Prelude.{slice_get, take, drop, filter_map, ◌==◌, if◌then◌else◌}
use Rattle.std.specs.List.{cons_option}
use Rattle.std.proofs.lemmas.List.{append-nil, take-append-le, take-append-drop, append_cancel_left, length-append as append_length}
use Rattle.std.proofs.lemmas.List.Elements.{filter_map-append}
use Rattle.dali_runs.proofs.CountsLemmas.Lists.{some_same}
use Rattle.dali_region.specs.State.{RegionState}
use Rattle.dali_runs.specs.State.{CoreState}
use Rattle.dali_transcripts.specs.World.{Deed, Happening, World, stray_after}
use Rattle.dali_transcripts.specs.Rounds.{HasLooked, is_on}
use Rattle.dali_transcripts.specs.Grown.{world_of}
use Rattle.dali_transcripts.proofs.Growing.{get_back}
use Rattle.dali_concurrent.specs.Entries.{Does, Latches, Did, Entries, At, deed_in, deeds_of, done_by, done_in, on, on_in}
use Rattle.dali_concurrent.specs.Rules.{Outset, before, is_looked, LookFits, DeedFits, AllFit}
use Rattle.dali_concurrent.proofs.Lists.{take_length, get_back_of}
use Rattle.dali_concurrent.proofs.Entries.{deed_there}

module _ (o : Outset) (c : CoreState) where
  -- the deeds before an entry are a front of the deeds
  front_deeds : (P : Entries) (p : ℕ) → (take (length (deeds_of (take p P))) (deeds_of P) ≡ deeds_of (take p P)) × (deeds_of P ≡ deeds_of (take p P) ++ deeds_of (drop p P))
  front_deeds P p =
      let parts : deeds_of P ≡ deeds_of (take p P) ++ deeds_of (drop p P) = ap deeds_of (sym (take-append-drop p P)) ∙ filter_map-append deed_in (take p P) (drop p P) in
      (ap (take (length (deeds_of (take p P)))) parts ∙ take_length (deeds_of (take p P)) (deeds_of (drop p P)), parts)

  front_fits : (P : Entries) (p : ℕ) → length (deeds_of (take p P)) ≤ length (deeds_of P)
  front_fits P p = omega (arith, ap length (front_deeds P p).1, append_length (deeds_of (take p P)) (deeds_of (drop p P)))

  in_picked : {X Y : Type 0} (f : X → Option Y) (xs : List X) (i : ℕ) (x : X) (y : Y) → slice_get xs i ≡ Some x → f x ≡ Some y → (j : ℕ) × (slice_get (filter_map f xs) j ≡ Some y)
  in_picked f [] i x y e h = absurd (cc)
  in_picked f (z ∷ xs) zero x y e h = (zero, ap (λ q. slice_get (cons_option q (filter_map f xs)) 0) (ap f (some_same e) ∙ h))
  in_picked f (z ∷ xs) (suc i) x y e h = behind (filter_map f xs) y (f z) (in_picked f xs i x y e h)
    where
      behind : {Y : Type 0} (l : List Y) (y : Y) (q : Option Y) → (j : ℕ) × (slice_get l j ≡ Some y) → (j : ℕ) × (slice_get (cons_option q l) j ≡ Some y)
      behind l y None w = w
      behind l y (Some a) w = (suc w.0, w.1)

  abbrev world : List Happening → World
  world xs = world_of o.old (before o) o.precheck xs c

  pub look_is : (P : Entries) (x : Deed) (d r : ℕ) (g : RegionState) → AllFit o P → DeedFits o P x d → is_looked r x ≡ true → slice_get o.old.regions r ≡ Some g → o.precheck ≡ true
      → HasLooked (world (deeds_of P ++ (x, d) ∷ [])) d (length (deeds_of P)) r g
  look_is P x d r g good f is was on_check = record {
    place = place;
    before = front_fits P look.place;
    right = ap (stray_after r g.stray) (take-append-le place (deeds_of P) ((x, d) ∷ []) (front_fits P look.place) ∙ (front_deeds P look.place).0) ∙ look.right on_check g was;
    held = λ k e y from below there. held k e y from below there;
  }
    where
      look : LookFits o P d r
      look = f.looked r is

      place : ℕ
      place = length (deeds_of (take look.place P))

      -- its client has latched it, and no more
      own : done_by d (drop look.place P) ≡ Latches r ∷ []
      own = append_cancel_left (done_by d (take look.place P)) (done_by d (drop look.place P)) (Latches r ∷ [])
          (sym (filter_map-append (done_in d) (take look.place P) (drop look.place P)) ∙ (ap (done_by d) (take-append-drop look.place P) ∙ look.alone))

      none : on r (drop look.place P) ≡ []
      none = append_cancel_left (on r (take look.place P)) (on r (drop look.place P)) []
          (sym (filter_map-append (on_in r) (take look.place P) (drop look.place P))
          ∙ (ap (on r) (take-append-drop look.place P) ∙ (look.held ∙ sym (append-nil (on r (take look.place P))))))

      held : (k e : ℕ) (y : Deed) → place ≤ k → k < length (deeds_of P) → slice_get (deeds_of P ++ (x, d) ∷ []) k ≡ Some (y, e) → ((e == d) ≡ false) × (is_on r y ≡ false)
      held k e y from below there = (not_own (e == d) refl, not_on (is_on r y) refl)
        where
          j : ℕ
          j = k - place

          at : slice_get (deeds_of (drop look.place P)) j ≡ Some (y, e)
          at =
              let front : slice_get (deeds_of P) k ≡ Some (y, e) = get_back (deeds_of P) ((x, d) ∷ []) k (y, e) below there in
              let moved : slice_get (deeds_of (take look.place P) ++ deeds_of (drop look.place P)) (place + j) ≡ Some (y, e) =
              ap (λ l. slice_get l (place + j)) (sym (front_deeds P look.place).1) ∙ (ap (slice_get (deeds_of P)) (let h : place + j ≡ k = omega (arith, from) in h) ∙ front) in
              sym (get_back_of (deeds_of (take look.place P)) (deeds_of (drop look.place P)) j) ∙ moved

          entry : (i : ℕ) × (n : List ℕ) × At (drop look.place P) i (n, Did y e)
          entry = deed_there (drop look.place P) j (y, e) at

          not_own : (b : Bool) → (e == d) ≡ b → b ≡ false
          not_own false h = refl
          not_own true h =
              let w = in_picked (done_in d) (drop look.place P) entry.0 (entry.1, Did y e) (Does y) entry.2 (ap (λ t. if t then Some (Does y) else None) h) in
              absurd (one_latch w.0 (ap (λ l. slice_get l w.0) (sym own) ∙ w.1))
            where
              one_latch : (i : ℕ) → slice_get (Latches r ∷ []) i ≡ Some (Does y) → ⊥
              one_latch zero h = absurd (cc)
              one_latch (suc i) h = absurd (cc)

          not_on : (b : Bool) → is_on r y ≡ b → b ≡ false
          not_on false h = refl
          not_on true h =
              let w = in_picked (on_in r) (drop look.place P) entry.0 (entry.1, Did y e) (y, e) entry.2 (ap (λ t. if t then Some (y, e) else None) h) in
              absurd (let f : slice_get [] w.0 ≡ Some (y, e) = ap (λ l. slice_get l w.0) (sym none) ∙ w.1 in cc)
