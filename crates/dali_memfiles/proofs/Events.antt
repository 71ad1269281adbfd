-- How what changed the files goes on by one change, and what each call has to say of it.
use Rattle.std.specs.Prelude.{◌≡◌, ◌⊎◌, ◌≤◌, ◌<◌, ℕ, ◌+◌, List, [], ◌∷◌, ◌++◌, length, take, Some, refl}
use Rattle.std.proofs.Common.{sym, ◌∙◌, ap, subst, arith, inl, inr, ⊎_elim, length-append}
use Rattle.std.proofs.lemmas.List.{take_all, take-append-le}
use Rattle.dali_store.specs.Store.{Torn}
use Rattle.dali_files.specs.Files.{Contents, HoldsIn, TornIn, TornTold, RemovedIn, EmptiedIn, EmptiedTold, Follows, Only, Elapses}
use Rattle.dali_files.specs.declared.key.FileKey.{FileKey}
use Rattle.dali_memfiles.specs.declared.event.Event.{Event}
use Rattle.dali_memfiles.specs.declared.event.Event.TheVariants.{Wrote, Synced, Removed, Cut}
use Rattle.dali_memfiles.specs.Held.{HeldState, held_wrote, held_kept, held_removed, IsGoing}
use Rattle.dali_memfiles.specs.Laws.{sound, seen_crash}
use Rattle.dali_memfiles.specs.Shelf.{number_of, Shelf, apply, shelf, seen_of, IsCrash, LeftSince, HasRemoved}
use Rattle.dali_memfiles.proofs.Shelves.{shelf_push}
use Rattle.dali_memfiles.proofs.Crashes.{wrote_follows, wrote_keeps, wrote_seen, torn_written, same_but, seen_here, torn_in_same, emptied_same}
use Rattle.dali_memfiles.proofs.Crashes.{synced_fewer, synced_only, synced_seen, removed_follows, cut_only, cut_fewer, going_cut, going_same, going_one, going_none}

-- time: from one past to another
abbrev pub Passes : List Event → List Event → Type 0
Passes old new = Elapses (length old) (length new) (LeftSince old) (LeftSince new) (IsCrash (shelf new))

pub elapses_same : (old new : List Event) → new ≡ old → Passes old new
elapses_same old new same = record {
  later = omega (arith, ap (λ (es : List Event). length es) same);
  nothing_else = λ t c le left. inl (subst (λ (es : List Event). LeftSince es t c) same left);
  keeps = λ t c le left. subst (λ (es : List Event). LeftSince es t c) (sym same) left;
}

elapses_more : (old : List Event) (event : Event) → Passes old (old ++ event ∷ [])
elapses_more old event = record {
  later = omega (arith, size);
  nothing_else = λ t c le left. ⊎_elim (λ before. inl (left.0, left.1, before, crash_of c (shorter left.0 before) left.3))
      (λ after. inr (crash_of c (take_all left.0 (old ++ event ∷ []) (omega (arith, after, size))) left.3))
      (le_or_gt left.0 (length old));
  keeps = λ t c le left. (left.0, left.1, omega (arith, left.2, size), crash_of c (sym (shorter left.0 left.2)) left.3);
}
  where
    size : length (old ++ event ∷ []) ≡ length old + 1
    size = length-append old (event ∷ [])

    shorter : (k : ℕ) → k ≤ length old → take k (old ++ event ∷ []) ≡ take k old
    shorter k le = take-append-le k old (event ∷ []) le

    crash_of : {es gs : List Event} (c : Contents) → es ≡ gs → IsCrash (shelf es) c → IsCrash (shelf gs) c
    crash_of c same left = subst (λ (es : List Event). IsCrash (shelf es) c) same left

    le_or_gt : (a b : ℕ) → (a ≤ b) ⊎ (b < a)
    le_or_gt a b = grind arith

pub elapses_push : (event : Event) (old new : List Event) → new ≡ old ++ event ∷ [] → Passes old new
elapses_push event old new is = subst (Passes old) (sym is) (elapses_more old event)

-- a call that changed nothing
pub told_same : (old new : List Event) → new ≡ old → Some (seen_of (shelf new)) ≡ Some (seen_of (shelf old))
told_same old new same = ap (λ (es : List Event). Some (seen_of (shelf es))) same

pub crash_same : (old new : List Event) → new ≡ old → (c : Contents) → IsCrash (shelf new) c → IsCrash (shelf old) c
crash_same old new same c left = subst (λ (es : List Event). IsCrash (shelf es) c) same left

pub going_still : (old new : List Event) → new ≡ old → (g : FileKey) → IsGoing (shelf new (number_of g)).before → IsGoing (shelf old (number_of g)).before
going_still old new same g going = subst (λ (es : List Event). IsGoing (shelf es (number_of g)).before) same going

pub torn_told : (f : FileKey) (at n : ℕ) (old new : List Event) → new ≡ old → TornTold f at n (Some (seen_of (shelf old))) (Some (seen_of (shelf new)))
torn_told f at n old new same =
    subst (λ (es : List Event). TornTold f at n (Some (seen_of (shelf old))) (Some (seen_of (shelf es)))) (sym same) (torn_in_same f at n (seen_of (shelf old)))

pub torn_crash : (f : FileKey) (at n : ℕ) (old new : List Event) → new ≡ old → Follows (TornIn f at n) (IsCrash (shelf old)) (IsCrash (shelf new))
torn_crash f at n old new same c left = (c, crash_same old new same c left, torn_in_same f at n c)

pub emptied_told : (f : FileKey) (old new : List Event) → new ≡ old → EmptiedTold f (Some (seen_of (shelf old))) (Some (seen_of (shelf new)))
emptied_told f old new same =
    subst (λ (es : List Event). EmptiedTold f (Some (seen_of (shelf old))) (Some (seen_of (shelf es)))) (sym same) (emptied_same f (seen_of (shelf old)))

pub emptied_crash : (f : FileKey) (old new : List Event) → new ≡ old → Follows (EmptiedIn f) (IsCrash (shelf old)) (IsCrash (shelf new))
emptied_crash f old new same c left = (c, crash_same old new same c left, emptied_same f c)

-- a write
pub wrote_law : (f : FileKey) (at : ℕ) (bytes : List ℕ) (old new : List Event) → new ≡ old ++ Wrote f at bytes ∷ []
    → HoldsIn f at bytes (Some (seen_of (shelf old))) (Some (seen_of (shelf new)))
wrote_law f at bytes old new is =
    subst (λ (files : Shelf). HoldsIn f at bytes (Some (seen_of (shelf old))) (Some (seen_of files))) (sym (shelf_push old new (Wrote f at bytes) is))
    (wrote_seen f at bytes (shelf old), same_but f (held_wrote at bytes (shelf old (number_of f))) (shelf old))

pub wrote_torn : (f : FileKey) (at : ℕ) (bytes : List ℕ) (old new : List Event) → at ≤ length (seen_of (shelf old) f) → new ≡ old ++ Wrote f at bytes ∷ []
    → TornTold f at (length bytes) (Some (seen_of (shelf old))) (Some (seen_of (shelf new)))
wrote_torn f at bytes old new le is =
    let law : HoldsIn f at bytes (Some (seen_of (shelf old))) (Some (seen_of (shelf new))) = wrote_law f at bytes old new is in
    record {
      torn = subst (λ l. TornedTo l) (sym law.0) (torn_written at bytes (seen_of (shelf old) f) le);
      same = law.1;
    }
  where
    TornedTo : List ℕ → Type 0
    TornedTo l = Torn at (length bytes) (seen_of (shelf old) f) l

pub wrote_crash : (f : FileKey) (at : ℕ) (bytes : List ℕ) (old new : List Event) → at ≤ length (seen_of (shelf old) f) → new ≡ old ++ Wrote f at bytes ∷ []
    → Follows (TornIn f at (length bytes)) (IsCrash (shelf old)) (IsCrash (shelf new))
wrote_crash f at bytes old new le is =
    subst (λ (files : Shelf). Follows (TornIn f at (length bytes)) (IsCrash (shelf old)) (IsCrash files)) (sym (shelf_push old new (Wrote f at bytes) is))
    (wrote_follows f at bytes (shelf old) (sound old) le)

pub wrote_more : (f : FileKey) (at : ℕ) (bytes : List ℕ) (old new : List Event) → at ≤ length (seen_of (shelf old) f) → new ≡ old ++ Wrote f at bytes ∷ []
    → (c : Contents) → IsCrash (shelf old) c → IsCrash (shelf new) c
wrote_more f at bytes old new le is c left =
    subst (λ (files : Shelf). IsCrash files c) (sym (shelf_push old new (Wrote f at bytes) is)) (wrote_keeps f at bytes (shelf old) le c left)

pub more_same : (old new : List Event) → new ≡ old → (c : Contents) → IsCrash (shelf old) c → IsCrash (shelf new) c
more_same old new same c left = subst (λ (es : List Event). IsCrash (shelf es) c) (sym same) left

pub wrote_going : (f : FileKey) (at : ℕ) (bytes : List ℕ) (old new : List Event) → new ≡ old ++ Wrote f at bytes ∷ []
    → (g : FileKey) → IsGoing (shelf new (number_of g)).before → IsGoing (shelf old (number_of g)).before
wrote_going f at bytes old new is g going =
    going_same f g (held_wrote at bytes (shelf old (number_of f))) (shelf old) (λ before. before)
    (subst (λ (files : Shelf). IsGoing (files (number_of g)).before) (shelf_push old new (Wrote f at bytes) is) going)

-- a sync
pub synced_told : (f : FileKey) (old new : List Event) → new ≡ old ++ Synced f ∷ [] → Some (seen_of (shelf new)) ≡ Some (seen_of (shelf old))
synced_told f old new is = ap (λ (files : Shelf). Some (seen_of files)) (shelf_push old new (Synced f) is) ∙ ap (λ (c : Contents). Some c) (synced_seen f (shelf old))

pub synced_crash : (f : FileKey) (old new : List Event) → new ≡ old ++ Synced f ∷ [] → (c : Contents) → IsCrash (shelf new) c → IsCrash (shelf old) c
synced_crash f old new is c left = synced_fewer f (shelf old) (sound old) c (subst (λ (files : Shelf). IsCrash files c) (shelf_push old new (Synced f) is) left)

pub synced_durable : (f : FileKey) (old new : List Event) → new ≡ old ++ Synced f ∷ [] → (c : Contents) → IsCrash (shelf new) c → c f ≡ seen_of (shelf old) f
synced_durable f old new is c left = synced_only f (shelf old) c (subst (λ (files : Shelf). IsCrash files c) (shelf_push old new (Synced f) is) left)

pub synced_going : (f : FileKey) (old new : List Event) → new ≡ old ++ Synced f ∷ [] → (g : FileKey) → IsGoing (shelf new (number_of g)).before → IsGoing (shelf old (number_of g)).before
synced_going f old new is g going =
    going_same f g (held_kept (shelf old (number_of f))) (shelf old) (λ none. absurd none)
    (subst (λ (files : Shelf). IsGoing (files (number_of g)).before) (shelf_push old new (Synced f) is) going)

pub synced_gone : (f : FileKey) (old new : List Event) → new ≡ old ++ Synced f ∷ [] → IsGoing (shelf new (number_of f)).before → ⊥
synced_gone f old new is going = going_none f (shelf old) (subst (λ (files : Shelf). IsGoing (files (number_of f)).before) (shelf_push old new (Synced f) is) going)

-- a removal
pub removed_law : (f : FileKey) (old new : List Event) → HasRemoved f old new → RemovedIn f (Some (seen_of (shelf old))) (Some (seen_of (shelf new)))
removed_law f old new (inl is) =
    subst (λ (files : Shelf). RemovedIn f (Some (seen_of (shelf old))) (Some (seen_of files))) (sym (shelf_push old new (Removed f) is))
    (seen_here f (held_removed (shelf old (number_of f))) (shelf old), same_but f (held_removed (shelf old (number_of f))) (shelf old))
removed_law f old new (inr nothing) =
    subst (λ (es : List Event). RemovedIn f (Some (seen_of (shelf old))) (Some (seen_of (shelf es)))) (sym nothing.0)
    (ap (λ (h : HeldState). h.file.seen) nothing.1, λ g other. refl)

pub removed_emptied : (f : FileKey) (old new : List Event) → HasRemoved f old new → EmptiedTold f (Some (seen_of (shelf old))) (Some (seen_of (shelf new)))
removed_emptied f old new removed =
    let law : RemovedIn f (Some (seen_of (shelf old))) (Some (seen_of (shelf new))) = removed_law f old new removed in
    record { either = inr law.0; same = law.1 }

pub removed_crash : (f : FileKey) (old new : List Event) → HasRemoved f old new → Follows (EmptiedIn f) (IsCrash (shelf old)) (IsCrash (shelf new))
removed_crash f old new (inl is) =
    subst (λ (files : Shelf). Follows (EmptiedIn f) (IsCrash (shelf old)) (IsCrash files)) (sym (shelf_push old new (Removed f) is))
    (removed_follows f (shelf old) (sound old))
removed_crash f old new (inr nothing) = emptied_crash f old new nothing.0

pub removed_going : (f : FileKey) (old new : List Event) → HasRemoved f old new → (g : FileKey) → IsGoing (shelf new (number_of g)).before → (g ≡ f) ⊎ IsGoing (shelf old (number_of g)).before
removed_going f old new (inl is) g going =
    going_one f g (held_removed (shelf old (number_of f))) (shelf old)
    (subst (λ (files : Shelf). IsGoing (files (number_of g)).before) (shelf_push old new (Removed f) is) going)
removed_going f old new (inr nothing) g going = inr (going_still old new nothing.0 g going)

pub elapses_removed : (f : FileKey) (old new : List Event) → HasRemoved f old new → Passes old new
elapses_removed f old new (inl is) = elapses_push (Removed f) old new is
elapses_removed f old new (inr nothing) = elapses_same old new nothing.0

-- a cut
pub cut_chosen : (choice : ℕ) (old new : List Event) → new ≡ old ++ Cut choice ∷ [] → Some (seen_of (shelf new)) ≡ Some (seen_of (apply (Cut choice) (shelf old)))
cut_chosen choice old new is = ap (λ (files : Shelf). Some (seen_of files)) (shelf_push old new (Cut choice) is)

pub cut_crash : (choice : ℕ) (old new : List Event) → new ≡ old ++ Cut choice ∷ [] → (c : Contents) → IsCrash (shelf new) c → IsCrash (shelf old) c
cut_crash choice old new is c left = cut_fewer choice (shelf old) (sound old) c (subst (λ (files : Shelf). IsCrash files c) (shelf_push old new (Cut choice) is) left)

pub cut_told : (choice : ℕ) (old new : List Event) → new ≡ old ++ Cut choice ∷ [] → IsCrash (shelf old) (seen_of (shelf new))
cut_told choice old new is = cut_crash choice old new is (seen_of (shelf new)) (seen_crash (shelf new) (sound new))

pub cut_durable : (choice : ℕ) (old new : List Event) → new ≡ old ++ Cut choice ∷ [] → Only (seen_of (shelf new)) (IsCrash (shelf new))
cut_durable choice old new is c left =
    cut_only choice (shelf old) c (subst (λ (files : Shelf). IsCrash files c) (shelf_push old new (Cut choice) is) left)
    ∙ sym (ap seen_of (shelf_push old new (Cut choice) is))

pub cut_gone : (choice : ℕ) (old new : List Event) → new ≡ old ++ Cut choice ∷ [] → (g : FileKey) → IsGoing (shelf new (number_of g)).before → ⊥
cut_gone choice old new is g going =
    going_cut choice (number_of g) (shelf old (number_of g))
    (subst (λ (files : Shelf). IsGoing (files (number_of g)).before) (shelf_push old new (Cut choice) is) going)
