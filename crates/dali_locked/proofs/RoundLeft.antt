-- What a round leaves is put together, a value and its note at a time.
use Rattle.std.proofs.Common.{◌≡◌, ◌⊎◌, ℕ, zero, suc, ◌+◌, ◌<◌, Bool, true, false, List, [], ◌∷◌, ◌++◌, length, Some, refl, ap, sym, subst, ◌∙◌, inl, inr, arith}
use Rattle.std.specs.Prelude.{slice_get, ◌==◌}
use Rattle.std.proofs.lemmas.List.{append-nil, append_assoc}
use Rattle.atomic_table.specs.Seated.{TableId}
use Rattle.dali_lists.proofs.Lists.{get_front, get_push}
use Rattle.dali_lists.proofs.Tests.{not_both_ways}
use Rattle.dali_region.specs.State.{RegionState}
use Rattle.dali_store.specs.declared.store.Store.{Ghosts}
use Rattle.dali_runs.specs.State.{SystemState}
use Rattle.dali_transcripts.specs.Rounds.{Standing}
use Rattle.dali_core.specs.Vault.Vaulted.{Vaulted}
use Rattle.dali_crash.specs.Checkpoints.{Point}
use Rattle.dali_crash.specs.Traces.{Start}
use Rattle.dali_notes.specs.History.{In, Sight, AreOf, AllMay, IsWhole}
use Rattle.dali_concurrent.specs.Entries.{system_note, vault_note, region_note, client_note}
use Rattle.dali_concurrent.specs.Rules.{Outset, count_of}
use Rattle.dali_concurrent.specs.Told.{Item, History}
use Rattle.dali_concurrent.specs.Kept.{RegionTold, SystemTold}
use Rattle.dali_concurrent.specs.Leads.{Saw}
use Rattle.dali_locked.specs.Begun.{Begun, Led, Of, may_add, outset}
use Rattle.dali_locked.specs.Sights.{ClientSight, client_sight}
use Rattle.dali_locked.specs.Vaults.{IsTold}
use Rattle.dali_locked.specs.Endings.{RegionsAreTold, AreSeen, IsLeftBy, RoundIsLeft, RoundIsToEnd}

-- ---- lists
pub last_or : {X : Type 0} (xs : List X) (x y : X) (i : ℕ) → slice_get (xs ++ x ∷ []) i ≡ Some y → (slice_get xs i ≡ Some y) ⊎ ((i ≡ length xs) × (y ≡ x))
last_or [] x y zero at = inr (refl, sym (some at))
  where
    some : Some x ≡ Some y → x ≡ y
    some e = cc
last_or [] x y (suc i) at = absurd (cc)
last_or (z ∷ xs) x y zero at = inl at
last_or (z ∷ xs) x y (suc i) at = of (last_or xs x y i at)
  where
    of : (slice_get xs i ≡ Some y) ⊎ ((i ≡ length xs) × (y ≡ x)) → (slice_get (z ∷ xs) (suc i) ≡ Some y) ⊎ ((suc i ≡ length (z ∷ xs)) × (y ≡ x))
    of (inl e) = inl e
    of (inr e) = inr (ap suc e.0, e.1)

pub nil_of : {X : Type 0} (xs : List X) → length xs ≡ 0 → xs ≡ []
nil_of [] e = refl
nil_of (x ∷ xs) e = absurd (omega (arith, e))

pub in_front : {X : Type 0} (xs ys : List X) (x : X) → In xs x → In (xs ++ ys) x
in_front xs ys x w = (w.0, get_front xs ys w.0 x w.1)

pub in_last : {X : Type 0} (xs : List X) (x : X) → In (xs ++ x ∷ []) x
in_last xs x = (length xs, get_push xs x)

pub of_more : (t : TableId) (xs : List (Sight Item)) (x : Sight Item) → AreOf t xs → x.table ≡ t → AreOf t (xs ++ x ∷ [])
of_more t [] x all is = (is, tt)
of_more t (y ∷ xs) x all is = (all.0, of_more t xs x all.1 is)

-- ---- notes
pub saw_front : (ns ms : List (Sight Item)) (k : ℕ) (P : History → Type 0) → Saw ns k P → Saw (ns ++ ms) k P
saw_front ns ms k P w = record { note = w.note; there = in_front ns ms w.note w.there; number = w.number; so = w.so }

pub saw_last : (ns : List (Sight Item)) (n : Sight Item) (k : ℕ) (P : History → Type 0) → n.number ≡ k → P n.seen → Saw (ns ++ n ∷ []) k P
saw_last ns n k P is so = record { note = n; there = in_last ns n; number = is; so = so }

pub regions_front : (b : Begun) (gs : List RegionState) (ns ms : List (Sight Item)) → RegionsAreTold b gs ns → RegionsAreTold b gs (ns ++ ms)
regions_front b gs ns ms told r g at = saw_front ns ms (region_note r) (Of b (λ o T. RegionTold o r g T)) (told r g at)

-- one region more
pub regions_more : (b : Begun) (gs : List RegionState) (ns : List (Sight Item)) (g : RegionState) (n : Sight Item) (k : ℕ) → k ≡ length gs → n.number ≡ region_note k → Of b (λ o T. RegionTold o k g T) n.seen
    → RegionsAreTold b gs ns → RegionsAreTold b (gs ++ g ∷ []) (ns ++ n ∷ [])
regions_more b gs ns g n k place is so told r h at = of (last_or gs g h r at)
  where
    of : (slice_get gs r ≡ Some h) ⊎ ((r ≡ length gs) × (h ≡ g)) → Saw (ns ++ n ∷ []) (region_note r) (Of b (λ o T. RegionTold o r h T))
    of (inl e) = saw_front ns (n ∷ []) (region_note r) (Of b (λ o T. RegionTold o r h T)) (told r h e)
    of (inr e) = subst (λ q. Saw (ns ++ n ∷ []) (region_note q) (Of b (λ o T. RegionTold o q h T))) (place ∙ sym e.0)
        (subst (λ j. Saw (ns ++ n ∷ []) (region_note k) (Of b (λ o T. RegionTold o k j T))) (sym e.1) (saw_last ns n (region_note k) (Of b (λ o T. RegionTold o k g T)) is so))

-- one client more, who stood last of those that were to come
pub clients_more : (b : Begun) (all rest : List ClientSight) (ns : List (Sight Item)) (x : ClientSight) (n : Sight Item) → n ≡ client_sight b x
    → ((i : ℕ) (y : ClientSight) → slice_get all i ≡ Some y → (slice_get (rest ++ x ∷ []) i ≡ Some y) ⊎ In ns (client_sight b y))
    → (i : ℕ) (y : ClientSight) → slice_get all i ≡ Some y → (slice_get rest i ≡ Some y) ⊎ In (ns ++ n ∷ []) (client_sight b y)
clients_more b all rest ns x n is seen i y at = of (seen i y at)
  where
    here : y ≡ x → In (ns ++ n ∷ []) (client_sight b y)
    here e = subst (In (ns ++ n ∷ [])) (is ∙ ap (client_sight b) (sym e)) (in_last ns n)

    last : (slice_get rest i ≡ Some y) ⊎ ((i ≡ length rest) × (y ≡ x)) → (slice_get rest i ≡ Some y) ⊎ In (ns ++ n ∷ []) (client_sight b y)
    last (inl e) = inl e
    last (inr e) = inr (here e.1)

    of : (slice_get (rest ++ x ∷ []) i ≡ Some y) ⊎ In ns (client_sight b y) → (slice_get rest i ≡ Some y) ⊎ In (ns ++ n ∷ []) (client_sight b y)
    of (inl e) = last (last_or rest x y i e)
    of (inr w) = inr (in_front ns (n ∷ []) (client_sight b y) w)

-- none is to come any more
pub clients_all : (b : Begun) (all : List ClientSight) (ns : List (Sight Item)) (rest : List ClientSight) → rest ≡ []
    → ((i : ℕ) (y : ClientSight) → slice_get all i ≡ Some y → (slice_get rest i ≡ Some y) ⊎ In ns (client_sight b y)) → AreSeen b all ns
clients_all b all ns rest none seen i y at = of (subst (λ r. (slice_get r i ≡ Some y) ⊎ In ns (client_sight b y)) none (seen i y at))
  where
    of : (slice_get [] i ≡ Some y) ⊎ In ns (client_sight b y) → In ns (client_sight b y)
    of (inl e) = absurd (cc)
    of (inr w) = w

pub one_more : {X : Type 0} (was now xs : List X) (n : X) → now ≡ was ++ xs → now ++ n ∷ [] ≡ was ++ (xs ++ n ∷ [])
one_more was now xs n is = ap (λ ys. ys ++ n ∷ []) is ∙ append_assoc was xs (n ∷ [])

-- ---- the end
module _ {V : Type 0} (means : Ghosts V) (began : Vaulted V → Type 0) (b : Begun) where
  -- the notes of the regions, of the system n, of the vault m, and of the clients
  pub left_so :
      (xs : List ClientSight) (gs : List RegionState) (y : SystemState) (v : Vaulted V) (H : History) (ns rs rest : List (Sight Item)) (n m : Sight Item)
      → ns ≡ ((rs ++ n ∷ []) ++ m ∷ []) ++ rest → n.number ≡ system_note → Led b n.seen → Of b (λ o T. SystemTold o y T) n.seen → m.number ≡ vault_note → IsTold means began b v m.seen
      → RegionsAreTold b gs rs → AreSeen b xs ns → IsWhole H ns → AllMay (may_add b) H → length ns ≡ length xs + (b.count + 2) → length gs ≡ b.count → RoundIsLeft means began b xs gs y v
  left_so xs gs y v H ns rs rest n m is of_system led system of_vault vault regions clients whole may many all = record {
    history = H;
    notes = ns;
    whole = whole;
    may = may;
    many = many;
    system = record { note = n; there = there n (in_front (rs ++ n ∷ []) (m ∷ []) n (in_last rs n)); number = of_system; so = system };
    vault = record { note = m; there = there m (in_last (rs ++ n ∷ []) m); number = of_vault; so = vault };
    all = all;
    regions = subst (RegionsAreTold b gs) (sym is)
        (regions_front b gs ((rs ++ n ∷ []) ++ m ∷ []) rest (regions_front b gs (rs ++ n ∷ []) (m ∷ []) (regions_front b gs rs (n ∷ []) regions)));
    clients = clients;
    counts = λ s p from. (led s p from).count;
    wide = λ s p from. (led s p from).led.begins.whole.regions ∙ (led s p from).count;
  }
    where
      there : (k : Sight Item) → In ((rs ++ n ∷ []) ++ m ∷ []) k → In ns k
      there k w = subst (λ l. In l k) (sym is) (in_front ((rs ++ n ∷ []) ++ m ∷ []) rest k w)

  pub round_is_to_end : RoundIsToEnd means began b
  round_is_to_end whole w xs gs y v ss givens left begins each known all s p from = record {
    system = record { note = left.system.note; there = left.system.there; number = left.system.number; so = left.system.so s p from };
    vault = record {
      note = left.vault.note;
      there = left.vault.there;
      number = left.vault.number;
      so = let stands = left.vault.so s p from in record { batches = stands.batches; held = stands.at; flushed = stands.none; moments = stands.moments w begins };
    };
    all = left.all ∙ sym (left.wide s p from);
    regions = λ r g at. let saw = left.regions r g at in record { note = saw.note; there = saw.there; number = saw.number; so = saw.so s p from };
    each = each;
    clients = λ i x given at handed.
        let by = known i x given at handed in
        let there = left.clients by.there.0 by.client by.there.1 in record {
          note = client_sight b by.client;
          there = there;
          number = ap (λ n. client_note n by.client.id) (sym (left.counts s p from)) ∙ ap (client_note (count_of (outset b s p))) by.id;
          so = by.ends s p from;
        };
    others = λ d low none.
        let counts = left.counts s p from in
        let w = all d (omega (arith, low, left.many, counts)) in
        absurd (not_both_ways w.3 (none w.0 w.1 w.2));
  }
