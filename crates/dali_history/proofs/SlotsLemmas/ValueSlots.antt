-- The slots of one key that stand for a value, or for none.
--     walk s n r               the index region n steps after r
--     Reach s F k r            the walk of k comes to r: each region before it has its flag raised
--     Stands s k P o           the slots P hold the value o of key k and nothing else that is live
use Rattle.std.proofs.Common.{◌≡◌, ℕ, ◌<◌, true, List, [], ◌∷◌, length, Option, Some, None, refl, ap, sym, subst, ◌∙◌, ◌⊎◌, inl, ⊎_elim, ◌≢◌, arith}
use Rattle.dali_lists.proofs.Numbers.{one_not_two}
use Rattle.dali_words.specs.Values.{unpacked, is_size}
use Rattle.dali_geometry.specs.Sizes.{Sizes}
use Rattle.dali_geometry.specs.Places.{is_place, region_at, cell_at}
use Rattle.dali_access.proofs.IndexLemmas.Worlds.{Flags}
use Rattle.dali_access.proofs.IndexLemmas.Reaches.{Reach, Rises, reach_rises}
use Rattle.dali_history.proofs.SlotsLemmas.BlockOnSlots.{IsLive}
use Rattle.dali_access.proofs.IndexLemmas.Parts.{Part, put_part, put_part-same, put_part-other, put_part-cases, same_slot}
use Rattle.dali_access.proofs.IndexLemmas.Gaps.{place_heap}

-- ---- slots that stand for a value
abbrev pub IsDead : List ℕ → Type 0
IsDead xs = (x : ℕ) (ys : List ℕ) → xs ≡ x ∷ ys → x ≡ 2

pub record Lives (s : Sizes) (P : Part) (v : List ℕ) : Type 0 where
  pub region : ℕ
  pub slot : ℕ
  pub at : ℕ
  pub count : ℕ
  pub words : List ℕ
  pub in_index : region < s.index
  pub entry : P region slot ≡ 1 ∷ at ∷ []
  pub is_place : is_place s at ≡ true
  pub cell : IsLive (P (region_at at) (cell_at at)) count words
  pub value : unpacked count words ≡ v
  pub others : (q i : ℕ) → (q ≢ region) ⊎ (i ≢ slot) → (q ≢ region_at at) ⊎ (i ≢ cell_at at) → IsDead (P q i)

abbrev pub Stands : Sizes → Part → Option (List ℕ) → Type 0
Stands s P None = (q i : ℕ) → IsDead (P q i)
Stands s P (Some v) = Lives s P v

abbrev pub Reached : Sizes → Flags → ℕ → Part → Type 0
Reached s F k P = (r i x : ℕ) (xs : List ℕ) → r < s.index → P r i ≡ x ∷ xs → Reach s F k r

pub reached_rises : (s : Sizes) (F G : Flags) (k : ℕ) (P : Part) → Rises F G → Reached s F k P → Reached s G k P
reached_rises s F G k P up h r i x xs below e = reach_rises s F G k r up (h r i x xs below e)

-- the live entry is the only one
pub lives_entry : (s : Sizes) (P : Part) (v : List ℕ) (h : Lives s P v) (r i : ℕ) (xs : List ℕ) → r < s.index → P r i ≡ 1 ∷ xs → (r ≡ h.region) × (i ≡ h.slot) × (xs ≡ h.at ∷ [])
lives_entry s P v h r i xs below e = ⊎_elim same other (same_slot r i h.region h.slot)
  where
    same : (r ≡ h.region) × (i ≡ h.slot) → (r ≡ h.region) × (i ≡ h.slot) × (xs ≡ h.at ∷ [])
    same a =
        let there : P r i ≡ P h.region h.slot = ap (λ x. P x i) a.0 ∙ ap (λ x. P h.region x) a.1 in
        let entry = h.entry in
        (a.0, a.1, cc)

    other : (r ≢ h.region) ⊎ (i ≢ h.slot) → (r ≡ h.region) × (i ≡ h.slot) × (xs ≡ h.at ∷ [])
    other a =
        let heap = place_heap s h.at h.is_place in
        absurd (one_not_two (h.others r i a (inl (λ x. omega arith)) 1 xs e))

-- the slots stand for one value at most
pub stands_same : (s : Sizes) (P : Part) (o p : Option (List ℕ)) → Stands s P o → Stands s P p → o ≡ p
stands_same s P None None h g = refl
stands_same s P None (Some v) h g = absurd (one_not_two (h g.region g.slot 1 (g.at ∷ []) g.entry))
stands_same s P (Some v) None h g = absurd (one_not_two (g h.region h.slot 1 (h.at ∷ []) h.entry))
stands_same s P (Some v) (Some w) h g =
    let e = lives_entry s P v h g.region g.slot (g.at ∷ []) g.in_index g.entry in
    let at : g.at ≡ h.at = let x = e.2 in cc (x) in
    let cell : P (region_at h.at) (cell_at h.at) ≡ 1 ∷ g.count ∷ g.words = subst (λ x. P (region_at x) (cell_at x) ≡ 1 ∷ g.count ∷ g.words) at g.cell.0 in
    let both : 1 ∷ h.count ∷ h.words ≡ 1 ∷ g.count ∷ g.words = sym h.cell.0 ∙ cell in
    let n : h.count ≡ g.count = cc (both) in
    let ws : h.words ≡ g.words = cc (both) in
    ap (λ x. Some x) (sym h.value ∙ ap (λ x. unpacked x h.words) n ∙ ap (λ x. unpacked g.count x) ws ∙ g.value)

-- other slots for the same value: its entry and its cell stand there, and nothing else is live
pub lives_in :
    (s : Sizes) (P Q : Part) (v : List ℕ) (h : Lives s P v) → Q h.region h.slot ≡ 1 ∷ h.at ∷ [] → Q (region_at h.at) (cell_at h.at) ≡ 1 ∷ h.count ∷ h.words
    → ((q i : ℕ) → (q ≢ h.region) ⊎ (i ≢ h.slot) → (q ≢ region_at h.at) ⊎ (i ≢ cell_at h.at) → IsDead (Q q i))
    → Lives s Q v
lives_in s P Q v h entry cell others = record {
  region = h.region;
  slot = h.slot;
  at = h.at;
  count = h.count;
  words = h.words;
  in_index = h.in_index;
  entry = entry;
  is_place = h.is_place;
  cell = (cell, h.cell.1, h.cell.2);
  value = h.value;
  others = others;
}

-- a dead slot is freed
pub stands_freed : (s : Sizes) (P : Part) (o : Option (List ℕ)) (r i : ℕ) (ys : List ℕ) → P r i ≡ 2 ∷ ys → Stands s P o → Stands s (put_part P r i []) o
stands_freed s P None r i ys e h = λ q j x zs g. ⊎_elim (λ a. let no : [] ≡ x ∷ zs = sym a.2 ∙ g in absurd (cc (no))) (λ a. h q j x zs (sym a.1 ∙ g)) (put_part-cases P r i [] q j)
stands_freed s P (Some v) r i ys e h =
    lives_in s P (put_part P r i []) v h
    (put_part-other P r i [] h.region h.slot (apart h.region h.slot (h.at ∷ []) h.entry) ∙ h.entry)
    (put_part-other P r i [] (region_at h.at) (cell_at h.at) (apart (region_at h.at) (cell_at h.at) (h.count ∷ h.words) h.cell.0) ∙ h.cell.0)
    (λ q j a b x zs g. ⊎_elim (λ c. let no : [] ≡ x ∷ zs = sym c.2 ∙ g in absurd (cc (no))) (λ c. h.others q j a b x zs (sym c.1 ∙ g)) (put_part-cases P r i [] q j))
  where
    apart : (q j : ℕ) (xs : List ℕ) → P q j ≡ 1 ∷ xs → (q ≢ r) ⊎ (j ≢ i)
    apart q j xs g = ⊎_elim (λ a. let there : P q j ≡ P r i = ap (λ x. P x j) a.0 ∙ ap (λ x. P r x) a.1 in let no : 1 ∷ xs ≡ 2 ∷ ys = sym g ∙ there ∙ e in absurd (one_not_two (cc (no)))) (λ a. a) (same_slot q j r i)

-- ---- what calls leave
-- a value is put into the cell that an entry names
pub stands_changed : (s : Sizes) (P : Part) (v w : List ℕ) (h : Lives s P v) (n : ℕ) (ws : List ℕ) → is_size n ≡ true → length ws ≡ 5 → unpacked n ws ≡ w → Lives s (put_part P (region_at h.at) (cell_at h.at) (1 ∷ n ∷ ws)) w
stands_changed s P v w h n ws size long value = record {
  region = h.region;
  slot = h.slot;
  at = h.at;
  count = n;
  words = ws;
  in_index = h.in_index;
  entry = put_part-other P (region_at h.at) (cell_at h.at) (1 ∷ n ∷ ws) h.region h.slot (inl (λ x. omega (arith, (place_heap s h.at h.is_place).1, h.in_index))) ∙ h.entry;
  is_place = h.is_place;
  cell = (put_part-same P (region_at h.at) (cell_at h.at) (1 ∷ n ∷ ws), size, long);
  value = value;
  others = λ q j a b x zs g. h.others q j a b x zs (sym (put_part-other P (region_at h.at) (cell_at h.at) (1 ∷ n ∷ ws) q j b) ∙ g);
}

-- the cell and the entry of the value are dead
pub stands_removed : (s : Sizes) (P : Part) (v : List ℕ) (h : Lives s P v) (n : ℕ) (ws ys : List ℕ) → Stands s (put_part (put_part P (region_at h.at) (cell_at h.at) (2 ∷ ws)) h.region h.slot (2 ∷ ys)) None
stands_removed s P v h n ws ys q j x zs g = ⊎_elim here (λ a. ⊎_elim (there a) (beside a) (put_part-cases P (region_at h.at) (cell_at h.at) (2 ∷ ws) q j)) (put_part-cases (put_part P (region_at h.at) (cell_at h.at) (2 ∷ ws)) h.region h.slot (2 ∷ ys) q j)
  where
    here : (q ≡ h.region) × (j ≡ h.slot) × (put_part (put_part P (region_at h.at) (cell_at h.at) (2 ∷ ws)) h.region h.slot (2 ∷ ys) q j ≡ 2 ∷ ys) → x ≡ 2
    here a = let e : 2 ∷ ys ≡ x ∷ zs = sym a.2 ∙ g in sym (cc (e))

    there : ((q ≢ h.region) ⊎ (j ≢ h.slot)) × (put_part (put_part P (region_at h.at) (cell_at h.at) (2 ∷ ws)) h.region h.slot (2 ∷ ys) q j ≡ put_part P (region_at h.at) (cell_at h.at) (2 ∷ ws) q j) → (q ≡ region_at h.at) × (j ≡ cell_at h.at) × (put_part P (region_at h.at) (cell_at h.at) (2 ∷ ws) q j ≡ 2 ∷ ws) → x ≡ 2
    there a b = let e : 2 ∷ ws ≡ x ∷ zs = sym b.2 ∙ sym a.1 ∙ g in sym (cc (e))

    beside : ((q ≢ h.region) ⊎ (j ≢ h.slot)) × (put_part (put_part P (region_at h.at) (cell_at h.at) (2 ∷ ws)) h.region h.slot (2 ∷ ys) q j ≡ put_part P (region_at h.at) (cell_at h.at) (2 ∷ ws) q j) → ((q ≢ region_at h.at) ⊎ (j ≢ cell_at h.at)) × (put_part P (region_at h.at) (cell_at h.at) (2 ∷ ws) q j ≡ P q j) → x ≡ 2
    beside a b = h.others q j a.0 b.0 x zs (sym b.1 ∙ sym a.1 ∙ g)

-- a cell and an entry that names it are put
pub stands_inserted :
    (s : Sizes) (P : Part) (v : List ℕ) (r i at n : ℕ) (ws : List ℕ) → Stands s P None → r < s.index → is_place s at ≡ true → is_size n ≡ true → length ws ≡ 5 → unpacked n ws ≡ v → Lives s (put_part (put_part P (region_at at) (cell_at at) (1 ∷ n ∷ ws)) r i (1 ∷ at ∷ [])) v
stands_inserted s P v r i at n ws h below place size long value = record {
  region = r;
  slot = i;
  at = at;
  count = n;
  words = ws;
  in_index = below;
  entry = put_part-same (put_part P (region_at at) (cell_at at) (1 ∷ n ∷ ws)) r i (1 ∷ at ∷ []);
  is_place = place;
  cell = (put_part-other (put_part P (region_at at) (cell_at at) (1 ∷ n ∷ ws)) r i (1 ∷ at ∷ []) (region_at at) (cell_at at) (inl (λ x. omega (arith, (place_heap s at place).1))) ∙ put_part-same P (region_at at) (cell_at at) (1 ∷ n ∷ ws), size, long);
  value = value;
  others = λ q j a b x zs g. h q j x zs (sym (put_part-other P (region_at at) (cell_at at) (1 ∷ n ∷ ws) q j b) ∙ sym (put_part-other (put_part P (region_at at) (cell_at at) (1 ∷ n ∷ ws)) r i (1 ∷ at ∷ []) q j a) ∙ g);
}
