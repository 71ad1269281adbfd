-- One block of a call: it is an operation of a call on one key, and takes what is known of the call one step on.
use Rattle.std.proofs.Common.{◌≡◌, ℕ, ◌<◌, true, List, [], ◌∷◌, Option, Some, None, refl, ap, sym, subst, ◌∙◌, ◌⊎◌, ◌≢◌, arith}
use Rattle.std.specs.Prelude.{◌==◌, ◌&&◌, bytes_eq}
use Rattle.std.proofs.lemmas.Bool.{eqb-true, and_parts}
use Rattle.std.proofs.lemmas.Slice.Eq.{bytes_eq-Decides}
use Rattle.dali_geometry.specs.Sizes.{Sizes}
use Rattle.dali_geometry.specs.Places.{is_place, region_at, cell_at, home, heap_start}
use Rattle.dali_record.specs.declared.operations.Op.{Op}
use Rattle.dali_record.specs.declared.operations.Op.TheVariants.{Look, Add, KillEntry, Put, Read, Change, KillCell}
use Rattle.dali_record.specs.declared.operations.Outcome.TheVariants.{Found, Absent}
use Rattle.dali_record.specs.declared.operations.Block.{Block}
use Rattle.dali_record.specs.Calls.{Progress, Fresh, Walking, Nowhere, Somewhere, Storing, Adding, Removing, Finished, follow, look_next, after_look, put_next, after_put, store_next, add_next, after_add, cell_next, after_read, after_change, after_kill_cell, entry_next, after_kill_entry, on_item}
use Rattle.dali_record.specs.Legal.{on_kind}
use Rattle.dali_history.specs.Blocks.{HasValue}
use Rattle.dali_access.proofs.IndexLemmas.Worlds.{World, Flags}
use Rattle.dali_history.proofs.SlotsLemmas.BlockOnSlots.{Does}
use Rattle.dali_access.proofs.IndexLemmas.Parts.{Part}
use Rattle.dali_history.proofs.SlotsLemmas.SlotSteps.{IsForward}
use Rattle.dali_access.proofs.IndexLemmas.Reaches.{walk}
use Rattle.dali_history.proofs.SlotsLemmas.ValueSlots.{Reached, Stands}
use Rattle.dali_history.proofs.SlotsLemmas.CallProgress.{Own, IsOn, NoEntryIn, when_some, on_item_is, own_look, own_put, own_add, own_read, own_change, own_kill_cell, own_kill_entry}
use Rattle.dali_access.proofs.IndexLemmas.Gaps.{place_heap}

abbrev pub Stepped : Sizes → Flags → ℕ → Part → Part → Option (List ℕ) → Progress → Op → Type 0
Stepped s G k P R v p op = Own s G k P R v p × IsOn k p × IsForward op

-- ---- by the next operation; the block is on key k
step_look :
    (s : Sizes) (W V : World) (F G : Flags) (k looked region : ℕ) (R : Part) (v : Option (List ℕ)) (b : Block) (op : Op) (p : Progress)
    → 0 < s.index → W k ≡ R → b.key ≡ k → Does W F V G b.key b.region op b.outcome b.undo → Stands s R v → Reached s F k R → looked < s.index → region ≡ walk s looked (home s k) → ((m : ℕ) → m < looked → NoEntryIn R (walk s m (home s k)))
    → look_next s k region looked b op ≡ Some p → Stepped s G k (V k) R v p op
step_look s W V F G k looked region R v b Look p some was on does stands reached below here none e =
    let x = when_some (on_item k region b) (after_look s k region looked b.outcome) p e in
    let y = on_item_is k region b x.0 in
    let at : b.region ≡ walk s looked (home s k) = y.1 ∙ here in
    let now : V k ≡ R = ap (λ (X : World). X k) does.0.0 ∙ was in
    let found : ((i at : ℕ) × (b.outcome ≡ Found i at) × (i < 21) × (R (walk s looked (home s k)) i ≡ 1 ∷ at ∷ [])) ⊎ ((b.outcome ≡ Absent (F (walk s looked (home s k)))) × NoEntryIn R (walk s looked (home s k))) = there on at was does.1 in
    let z = own_look s F k R v looked b.outcome p stands reached below none some found (subst (λ q. after_look s k q looked b.outcome ≡ Some p) here x.1) in
    (rw (now, does.0.1) (z.0), z.1, tt)
  where
    there : b.key ≡ k → b.region ≡ walk s looked (home s k) → W k ≡ R → ((i q : ℕ) × (b.outcome ≡ Found i q) × (i < 21) × (W b.key b.region i ≡ 1 ∷ q ∷ [])) ⊎ ((b.outcome ≡ Absent (F b.region)) × ((i q : ℕ) → W b.key b.region i ≢ 1 ∷ q ∷ [])) → ((i q : ℕ) × (b.outcome ≡ Found i q) × (i < 21) × (R (walk s looked (home s k)) i ≡ 1 ∷ q ∷ [])) ⊎ ((b.outcome ≡ Absent (F (walk s looked (home s k)))) × NoEntryIn R (walk s looked (home s k)))
    there a c d h = subst (λ (X : Part). ((i q : ℕ) × (b.outcome ≡ Found i q) × (i < 21) × (X (walk s looked (home s k)) i ≡ 1 ∷ q ∷ [])) ⊎ ((b.outcome ≡ Absent (F (walk s looked (home s k)))) × NoEntryIn X (walk s looked (home s k)))) d
        (subst (λ r. ((i q : ℕ) × (b.outcome ≡ Found i q) × (i < 21) × (W k r i ≡ 1 ∷ q ∷ [])) ⊎ ((b.outcome ≡ Absent (F r)) × NoEntryIn (W k) r)) c
        (subst (λ x. ((i q : ℕ) × (b.outcome ≡ Found i q) × (i < 21) × (W x b.region i ≡ 1 ∷ q ∷ [])) ⊎ ((b.outcome ≡ Absent (F b.region)) × NoEntryIn (W x) b.region)) a h))
step_look s W V F G k looked region R v b _ p some was on does stands reached below here none e = absurd (cc (e))

step_put :
    (s : Sizes) (W V : World) (F G : Flags) (k region tried : ℕ) (R : Part) (v : Option (List ℕ)) (b : Block) (op : Op) (p : Progress)
    → 0 < s.index → W k ≡ R → b.key ≡ k → Does W F V G b.key b.region op b.outcome b.undo → on_kind s b.region op ≡ true → HasValue op → v ≡ None → put_next s k region tried b op ≡ Some p → Stepped s G k (V k) R v p op
step_put s W V F G k region tried R v b (Put w) p some was on does kind value none e =
    let x = when_some (on_item k region b) (after_put s k w region tried b.outcome) p e in
    let y = on_item_is k region b x.0 in
    let z = own_put s W V F G k b.region R v w tried b.outcome b.undo p none was (subst (λ q. Does W F V G q b.region (Put w) b.outcome b.undo) on does) kind value some (subst (λ q. after_put s k w q tried b.outcome ≡ Some p) (sym y.1) x.1) in
    (z.0, z.1, tt)
step_put s W V F G k region tried R v b _ p some was on does kind value none e = absurd (cc (e))

step_store :
    (s : Sizes) (W V : World) (F G : Flags) (k region tried : ℕ) (R : Part) (v : Option (List ℕ)) (w : List ℕ) (b : Block) (op : Op) (p : Progress)
    → 0 < s.index → W k ≡ R → b.key ≡ k → Does W F V G b.key b.region op b.outcome b.undo → on_kind s b.region op ≡ true → HasValue op → v ≡ None → store_next s k w region tried b op ≡ Some p → Stepped s G k (V k) R v p op
step_store s W V F G k region tried R v w b (Put x) p some was on does kind value none e =
    let y = when_some (on_item k region b && bytes_eq w x) (after_put s k w region tried b.outcome) p e in
    let test = and_parts (on_item k region b) (bytes_eq w x) y.0 in
    let same : w ≡ x = (bytes_eq-Decides w x).0 test.1 in
    let item = on_item_is k region b test.0 in
    let z = own_put s W V F G k b.region R v x tried b.outcome b.undo p none was (subst (λ q. Does W F V G q b.region (Put x) b.outcome b.undo) on does) kind value some (subst (λ q. after_put s k q b.region tried b.outcome ≡ Some p) same (subst (λ q. after_put s k w q tried b.outcome ≡ Some p) (sym item.1) y.1)) in
    (z.0, z.1, tt)
step_store s W V F G k region tried R v w b _ p some was on does kind value none e = absurd (cc (e))

step_add :
    (s : Sizes) (W V : World) (F G : Flags) (k region tried at : ℕ) (P R : Part) (v : Option (List ℕ)) (w : List ℕ) (b : Block) (op : Op) (p : Progress)
    → 0 < s.index → W k ≡ P → b.key ≡ k → Does W F V G b.key b.region op b.outcome b.undo → Own s F k P R v (Adding k w at region tried) → Stands s R v → Reached s F k R → add_next s k w at region tried b op ≡ Some p → Stepped s G k (V k) R v p op
step_add s W V F G k region tried at P R v w b (Add q) p some was on does own stands reached e =
    let y = when_some (on_item k region b && (q == at)) (after_add s k w at region tried b.outcome) p e in
    let test = and_parts (on_item k region b) (q == at) y.0 in
    let same : q ≡ at = eqb-true q at test.1 in
    let item = on_item_is k region b test.0 in
    let d : Does W F V G k region (Add at) b.outcome b.undo = subst (λ x. Does W F V G k region (Add x) b.outcome b.undo) same (subst (λ x. Does W F V G k x (Add q) b.outcome b.undo) item.1 (subst (λ x. Does W F V G x b.region (Add q) b.outcome b.undo) on does)) in
    let z = own_add s W V F G k P R v w at region tried b.outcome b.undo p was own stands reached d some y.1 in
    (z.0, z.1, tt)
step_add s W V F G k region tried at P R v w b _ p some was on does own stands reached e = absurd (cc (e))

step_entry :
    (s : Sizes) (W V : World) (F G : Flags) (k region i at : ℕ) (P R : Part) (v : Option (List ℕ)) (b : Block) (op : Op) (p : Progress)
    → W k ≡ P → b.key ≡ k → Does W F V G b.key b.region op b.outcome b.undo → Own s F k P R v (Removing k region i at) → Stands s R v → Reached s F k R → entry_next k region i at b op ≡ Some p → Stepped s G k (V k) R v p op
step_entry s W V F G k region i at P R v b (KillEntry f) p was on does own stands reached e =
    let y = when_some (on_item k region b && (f == i)) (after_kill_entry k at b.outcome) p e in
    let test = and_parts (on_item k region b) (f == i) y.0 in
    let same : f ≡ i = eqb-true f i test.1 in
    let item = on_item_is k region b test.0 in
    let d : Does W F V G k region (KillEntry i) b.outcome b.undo = subst (λ x. Does W F V G k region (KillEntry x) b.outcome b.undo) same (subst (λ x. Does W F V G k x (KillEntry f) b.outcome b.undo) item.1 (subst (λ x. Does W F V G x b.region (KillEntry f) b.outcome b.undo) on does)) in
    let z = own_kill_entry s W V F G k P R v region i at b.outcome b.undo p was own stands reached d y.1 in
    (z.0, z.1, tt)
step_entry s W V F G k region i at P R v b _ p was on does own stands reached e = absurd (cc (e))

-- the tests of an operation on the cell that an entry names
cell_item : (s : Sizes) (k at c : ℕ) (b : Block) → ((is_place s at && on_item k (region_at at) b) && (c == cell_at at)) ≡ true → (is_place s at ≡ true) × (b.region ≡ region_at at) × (c ≡ cell_at at)
cell_item s k at c b h =
    let x = and_parts (is_place s at && on_item k (region_at at) b) (c == cell_at at) h in
    let y = and_parts (is_place s at) (on_item k (region_at at) b) x.0 in
    (y.0, (on_item_is k (region_at at) b y.1).1, eqb-true c (cell_at at) x.1)

step_cell :
    (s : Sizes) (W V : World) (F G : Flags) (k region i at : ℕ) (R : Part) (v : Option (List ℕ)) (b : Block) (op : Op) (p : Progress)
    → W k ≡ R → b.key ≡ k → Does W F V G b.key b.region op b.outcome b.undo → HasValue op → Stands s R v → region < s.index → R region i ≡ 1 ∷ at ∷ [] → Reached s F k R → cell_next s k region i at b op ≡ Some p → Stepped s G k (V k) R v p op
step_cell s W V F G k region i at R v b (Read c) p was on does value stands below entry reached e =
    let y = when_some _ (after_read k at b.outcome) p e in
    let x = cell_item s k at c b y.0 in
    let d : Does W F V G k (region_at at) (Read (cell_at at)) b.outcome b.undo = subst (λ z. Does W F V G k (region_at at) (Read z) b.outcome b.undo) x.2 (subst (λ z. Does W F V G k z (Read c) b.outcome b.undo) x.1 (subst (λ z. Does W F V G z b.region (Read c) b.outcome b.undo) on does)) in
    let z = own_read s W V F G k R v region i at b.outcome b.undo p was stands below entry reached x.0 d y.1 in
    let small = place_heap s at x.0 in
    (z.0, z.1, (rw (x.2) (small.2), rw (x.2) (small.3)))
step_cell s W V F G k region i at R v b (Change c w) p was on does value stands below entry reached e =
    let y = when_some _ (after_change k at w b.outcome) p e in
    let x = cell_item s k at c b y.0 in
    let d : Does W F V G k (region_at at) (Change (cell_at at) w) b.outcome b.undo = subst (λ z. Does W F V G k (region_at at) (Change z w) b.outcome b.undo) x.2 (subst (λ z. Does W F V G k z (Change c w) b.outcome b.undo) x.1 (subst (λ z. Does W F V G z b.region (Change c w) b.outcome b.undo) on does)) in
    let z = own_change s W V F G k R v region i at w b.outcome b.undo p was stands below entry reached x.0 value d y.1 in
    let small = place_heap s at x.0 in
    (z.0, z.1, (rw (x.2) (small.2), rw (x.2) (small.3)))
step_cell s W V F G k region i at R v b (KillCell c) p was on does value stands below entry reached e =
    let y = when_some _ (after_kill_cell k region i at b.outcome) p e in
    let x = cell_item s k at c b y.0 in
    let d : Does W F V G k (region_at at) (KillCell (cell_at at)) b.outcome b.undo = subst (λ z. Does W F V G k (region_at at) (KillCell z) b.outcome b.undo) x.2 (subst (λ z. Does W F V G k z (KillCell c) b.outcome b.undo) x.1 (subst (λ z. Does W F V G z b.region (KillCell c) b.outcome b.undo) on does)) in
    let z = own_kill_cell s W V F G k R v region i at b.outcome b.undo p was stands below entry x.0 d y.1 in
    let small = place_heap s at x.0 in
    (z.0, z.1, (rw (x.2) (small.2), rw (x.2) (small.3)))
step_cell s W V F G k region i at R v b _ p was on does value stands below entry reached e = absurd (cc (e))

-- ---- a block on the key of the call
pub own_step :
    (s : Sizes) (t : ℕ) (W V : World) (F G : Flags) (k : ℕ) (R : Part) (v : Option (List ℕ)) (b : Block) (q p : Progress)
    → 0 < s.index → b.key ≡ k → Does W F V G b.key b.region b.op b.outcome b.undo → on_kind s b.region b.op ≡ true → HasValue b.op → Stands s R v → Reached s F k R → Own s F k (W k) R v q → IsOn k q → follow s t q b ≡ Some p → Stepped s G k (V k) R v p b.op
own_step s t W V F G k R v b Fresh p some on does kind value stands reached own item e =
    step_look s W V F G k 0 (home s k) R v b b.op p some own on does stands reached some refl (λ m l. absurd (omega (arith, l))) (subst (λ x. look_next s x (home s x) 0 b b.op ≡ Some p) on e)
own_step s t W V F G k R v b (Walking key region looked) p some on does kind value stands reached own item e =
    step_look s W V F G k looked region R v b b.op p some own.0 on does stands reached own.1 own.2 own.3 (subst (λ x. look_next s x region looked b b.op ≡ Some p) item e)
own_step s t W V F G k R v b (Nowhere key) p some on does kind value stands reached own item e =
    step_put s W V F G k (heap_start s t) 0 R v b b.op p some own.0 on does kind value own.1 (subst (λ x. put_next s x (heap_start s t) 0 b b.op ≡ Some p) item e)
own_step s t W V F G k R v b (Somewhere key region i at) p some on does kind value stands reached own item e =
    step_cell s W V F G k region i at R v b b.op p own.0 on does value stands own.1 own.2 reached (subst (λ x. cell_next s x region i at b b.op ≡ Some p) item e)
own_step s t W V F G k R v b (Storing key w region tried) p some on does kind value stands reached own item e =
    step_store s W V F G k region tried R v w b b.op p some own.0 on does kind value own.1 (subst (λ x. store_next s x w region tried b b.op ≡ Some p) item e)
own_step s t W V F G k R v b (Adding key w at region tried) p some on does kind value stands reached own item e =
    step_add s W V F G k region tried at (W k) R v w b b.op p some refl on does own stands reached (subst (λ x. add_next s x w at region tried b b.op ≡ Some p) item e)
own_step s t W V F G k R v b (Removing key region i at) p some on does kind value stands reached own item e =
    step_entry s W V F G k region i at (W k) R v b b.op p refl on does own stands reached (subst (λ x. entry_next x region i at b b.op ≡ Some p) item e)
own_step s t W V F G k R v b (Finished c a) p some on does kind value stands reached own item e = absurd (cc (e))
