-- What a hold has written and read, and that each call keeps what is true of every region.
use Rattle.std.proofs.Common.{◌≡◌, ◌≢◌, ℕ, zero, suc, ◌+◌, ◌-◌, ◌*◌, ◌<◌, ◌≤◌, ◌^◌, Bool, true, false, not, List, length, cond, refl, ap, sym, subst, ◌∙◌, ◌⊎◌, ⊎_elim, arith, get_or, set, max, Option, Some, None}
use Rattle.std.specs.Prelude.{◌==◌, bit_and, bit_or, bit_xor, IsBitSet, IsSomeAnd, IfSome, slice_index, slice_set}
use Rattle.std.specs.Option.{option_map_or}
use Rattle.std.specs.Int.Bits.{xor_assoc, xor_self, xor_zero_r}
use Rattle.std.proofs.lemmas.Nat.{and_le_l, pow_pos, xor_lt}
use Rattle.std.proofs.Math.Nat.{pow-le-pow_right, zero-mul}
use Rattle.std.specs.Int.{bit_at, w64}
use Rattle.std.proofs.lemmas.Nat.Bits.{bit_at_or, bit_at_and, bit_at_not, bit_at-lt, bit_at-zero, bit_at-pow_same, bit_at-pow_other, and_pow}
use Rattle.std.proofs.lemmas.List.{ext_get_or, get_or-set_same, get_or-set_other}
use Rattle.std.proofs.lemmas.Bool.Decides.{Decides-eqb, leb_tells}
use Rattle.std.proofs.lemmas.Bool.{cases_eq}
use Rattle.dali_words.specs.Words.{parity_of, xor_under, AreWords}
use Rattle.dali_region.specs.declared.Hold.{Hold}
use Rattle.dali_region.specs.State.{RegionState, IsProtected, HasRead, IsUnwritten, latched, is_in, has_written, is_written, unread, damaged, poked, loaded, taken_back, counted, touched, updated, writing, map_hold}
use Rattle.dali_words.proofs.Lowest.{xor_under-nothing}
use Rattle.dali_words.proofs.Widths.{word_fits, are_words_with}
use Rattle.dali_region.proofs.Words.{parity_of-set, twice, damage, xor_under-apart}

-- ---- bits

bit_of_product : (b p : ℕ) → b < 2 → 0 < p → b * p ≡ 0 → b ≡ 0
bit_of_product zero p lt pos e = refl
bit_of_product (suc zero) p lt pos e = absurd (omega (arith, lt, pos, e))
bit_of_product (suc (suc b)) p lt pos e = absurd (omega (arith, lt))

product_of_bit : (b p : ℕ) → b < 2 → b * p < p → b * p ≡ 0
product_of_bit zero p lt e = omega arith
product_of_bit (suc zero) p lt e = absurd (omega (arith, e))
product_of_bit (suc (suc b)) p lt e = absurd (omega (arith, lt))

pub out_is_zero : (m i : ℕ) → is_in m i ≡ false → bit_at m i ≡ 0
out_is_zero m i h = bit_of_product (bit_at m i) (2 ^ i) (bit_at-lt m i) (pow_pos i) (sym (and_pow m i) ∙ by_test (bit_and m (2 ^ i) == 0) refl)
  where
    by_test : (c : Bool) → (bit_and m (2 ^ i) == 0) ≡ c → bit_and m (2 ^ i) ≡ 0
    by_test true e = (Decides-eqb (bit_and m (2 ^ i)) 0).0 e
    by_test false e = let t : not (bit_and m (2 ^ i) == 0) ≡ true = ap not e in absurd (cc)

pub zero_is_out : (m i : ℕ) → bit_at m i ≡ 0 → is_in m i ≡ false
zero_is_out m i h =
    let z : bit_and m (2 ^ i) ≡ 0 = and_pow m i ∙ ap (λ b. b * 2 ^ i) h ∙ zero-mul (2 ^ i) in
    ap not ((Decides-eqb (bit_and m (2 ^ i)) 0).1 z)

-- a word in a set of 64 words has a number below 64
pub in_is_below : (m i : ℕ) → m < 2 ^ 64 → IsBitSet m i → i < 64
in_is_below m i fits h = ⊎_elim (λ t. above t.1) (λ t. t.1) (leb_tells 64 i)
  where
    above : 64 ≤ i → i < 64
    above ge =
        let big : 2 ^ 64 ≤ 2 ^ i = pow-le-pow_right {n = 2} (omega arith) ge in
        let small : bit_at m i * 2 ^ i < 2 ^ i = omega (arith, big, fits, and_le_l m (2 ^ i), and_pow m i) in
        absurd (h (and_pow m i ∙ product_of_bit (bit_at m i) (2 ^ i) (bit_at-lt m i) small))

-- ---- the words outside what the hold has written
abbrev AgreeOutside : ℕ → List ℕ → List ℕ → Type 0
AgreeOutside m ws bs = (i : ℕ) → is_in m i ≡ false → get_or ws i 0 ≡ get_or bs i 0

not_just_written : (m k i : ℕ) → is_in (bit_or m (2 ^ k)) i ≡ false → (i ≢ k) × (is_in m i ≡ false)
not_just_written m k i h =
    let z : bit_at (bit_or m (2 ^ k)) i ≡ 0 = out_is_zero (bit_or m (2 ^ k)) i h in
    let both : max (bit_at m i) (bit_at (2 ^ k) i) ≡ 0 = sym (bit_at_or m (2 ^ k) i) ∙ z in
    (λ e. let one : bit_at (2 ^ k) i ≡ 1 = ap (λ j. bit_at (2 ^ k) j) e ∙ bit_at-pow_same k in omega (arith, both, one), zero_is_out m i (omega (arith, both)))

pub outside-set : (m k v : ℕ) (ws bs : List ℕ) → AgreeOutside m ws bs → AgreeOutside (bit_or m (2 ^ k)) (set ws k v) bs
outside-set m k v ws bs same i h =
    let apart = not_just_written m k i h in
    get_or-set_other ws k i v 0 apart.0 ∙ same i apart.1

-- words that agree where a test fails
abbrev AgreeBut : (ℕ → Bool) → List ℕ → List ℕ → Type 0
AgreeBut f ws bs = (i : ℕ) → f i ≡ false → get_or ws i 0 ≡ get_or bs i 0

-- a change of a word where the test holds
but-set : (f : ℕ → Bool) (k v : ℕ) (ws bs : List ℕ) → f k ≡ true → AgreeBut f ws bs → AgreeBut f (set ws k v) bs
but-set f k v ws bs at same i h =
    let apart : i ≢ k = λ e. let t : f i ≡ true = ap f e ∙ at in absurd (cc) in
    get_or-set_other ws k i v 0 apart ∙ same i h

-- the same change of any other word in both
but-both : (f : ℕ → Bool) (k x : ℕ) (ws bs : List ℕ) → k < length ws → k < length bs → f k ≡ false → AgreeBut f ws bs → AgreeBut f (damaged k x ws) (damaged k x bs)
but-both f k x ws bs lw lb out same i h = ⊎_elim here there (cases_eq i k)
  where
    here : i ≡ k → get_or (damaged k x ws) i 0 ≡ get_or (damaged k x bs) i 0
    here e = ap (λ j. get_or (damaged k x ws) j 0) e ∙ get_or-set_same ws k _ 0 lw ∙ ap (λ n. bit_xor n x) (same k out) ∙ sym (get_or-set_same bs k _ 0 lb) ∙ ap (λ j. get_or (damaged k x bs) j 0) (sym e)

    there : i ≢ k → get_or (damaged k x ws) i 0 ≡ get_or (damaged k x bs) i 0
    there ne = get_or-set_other ws k i _ 0 ne ∙ same i h ∙ sym (get_or-set_other bs k i _ 0 ne)

pub outside_nothing : (ws bs : List ℕ) → length ws ≡ length bs → AgreeOutside 0 ws bs → ws ≡ bs
outside_nothing ws bs e same = ext_get_or 0 ws bs e (λ i _. same i refl)

-- ---- each call keeps what is true of every region
pub unwritten-same : (g : RegionState) (h : Hold) → IsProtected g → g.hold ≡ Some h → h.write ≡ 0 → g.words ≡ g.back
unwritten-same g h p e z = outside_nothing g.words g.back (p.words.0 ∙ sym p.back.0) agree
  where
    agree : AgreeOutside 0 g.words g.back
    agree i out = p.rest i (ap (λ o. option_map_or (λ k. is_in k.write i) o false) e ∙ ap (λ m. is_in m i) z ∙ out)

pub updated_keeps : (g : RegionState) (h : Hold) (i v b : ℕ) → IsProtected g → g.hold ≡ Some h → i < 64 → b ≡ 2 ^ i → v < 2 ^ 64 → bit_at h.read i ≡ 1 → IsProtected (record g { words = slice_set g.words i v; codeword = bit_xor g.codeword (bit_xor (slice_index g.words i) v); hold = Some (record h { write = bit_or h.write b }) })
updated_keeps g h i v b p e lt is small has = record {
  words = are_words_with g.words i v small p.words;
  back = p.back;
  codeword = law;
  rest = λ k out. outside-set h.write i v g.words g.back agree k (ap (λ m. is_in (bit_or h.write m) k) (sym is) ∙ out);
  within = p.within;
  all_sound = p.all_sound;
  no_stray = p.no_stray;
  reads = λ un. subst (λ (o : Option Hold). IfSome o (λ k. k.xor ≡ xor_under k.read g.back)) e (p.reads un);
  writes = λ k w. writes k (subst (λ m. bit_at (bit_or h.write m) k ≡ 1) is w);
  none_missed = p.none_missed;
}
  where
    writes : (k : ℕ) → bit_at (bit_or h.write (2 ^ i)) k ≡ 1 → bit_at h.read k ≡ 1
    writes k w = ⊎_elim (λ a. ap (bit_at h.read) a ∙ has) (λ a. was k (omega (arith, w, bit_at_or h.write (2 ^ i) k, bit_at-pow_other i k a))) (cases_eq k i)
      where
        was : (j : ℕ) → bit_at h.write j ≡ 1 → bit_at h.read j ≡ 1
        was = subst (λ (o : Option Hold). IfSome o (λ x. (j : ℕ) → bit_at x.write j ≡ 1 → bit_at x.read j ≡ 1)) e p.writes

    agree : AgreeOutside h.write g.words g.back
    agree k out = p.rest k (ap (λ o. option_map_or (λ j. is_in j.write k) o false) e ∙ out)

    law : bit_xor (bit_xor g.codeword (bit_xor (slice_index g.words i) v)) (parity_of (slice_set g.words i v)) ≡ g.stray
    law =
        let within : i < length g.words = omega (arith, p.words.0, lt) in
        ap (bit_xor (bit_xor g.codeword (bit_xor (slice_index g.words i) v))) (parity_of-set g.words i v within) ∙ twice g.codeword (parity_of g.words) (bit_xor (slice_index g.words i) v) ∙ p.codeword

pub poked_keeps : (g : RegionState) (i m : ℕ) → IsProtected g → i < 64 → m < 2 ^ 64 → IsProtected (poked i m g)
poked_keeps g i m p lt small = record {
  words = fits g.words p.words;
  back = back (is_written g i);
  codeword = law;
  rest = rest (is_written g i) refl;
  within = p.within;
  all_sound = λ h. absurd (cc);
  no_stray = λ h. absurd (cc);
  reads = λ h. absurd (cc);
  writes = p.writes;
  none_missed = λ h. absurd (cc);
}
  where
    within : i < length g.words
    within = omega (arith, p.words.0, lt)

    within_back : i < length g.back
    within_back = omega (arith, p.back.0, lt)

    fits : (ws : List ℕ) → AreWords ws → AreWords (damaged i m ws)
    fits ws are = are_words_with ws i (bit_xor (get_or ws i 0) m) (xor_lt 64 (get_or ws i 0) m (word_fits ws i are) small) are

    law : bit_xor g.codeword (parity_of (damaged i m g.words)) ≡ bit_xor g.stray m
    law = ap (bit_xor g.codeword) (parity_of-set g.words i _ within) ∙ damage g.codeword (parity_of g.words) (slice_index g.words i) m ∙ ap (λ n. bit_xor n m) p.codeword

    -- the words behind, where the hold has written this one, and where it hasn't
    back : (c : Bool) → AreWords (cond c g.back (damaged i m g.back))
    back true = p.back
    back false = fits g.back p.back

    rest : (c : Bool) → is_written g i ≡ c → AgreeBut (is_written g) (damaged i m g.words) (cond c g.back (damaged i m g.back))
    rest true e = but-set (is_written g) i _ g.words g.back e p.rest
    rest false e = but-both (is_written g) i m g.words g.back within within_back e p.rest

pub read_word_is_below : (g g' : RegionState) (h : Hold) (i : ℕ) → g ≡ g' → g.hold ≡ Some h → h.read < 2 ^ 64 → HasRead g' i → i < 64
read_word_is_below g g' h i same e fits read =
    let at : HasRead g i = subst (λ (s : RegionState). HasRead s i) (sym same) read in
    let both : (h.dead ≡ false) × IsBitSet h.read i = subst (λ (o : Option Hold). IsSomeAnd o (λ k. (k.dead ≡ false) × IsBitSet k.read i)) e at in
    in_is_below h.read i fits both.1

-- the words of m that aren't in r, and those in r, are those in either
unread-split : (r m i : ℕ) → r < 2 ^ 64 → i < 64 → bit_at (bit_or r m) i ≡ bit_at r i + bit_at (unread m r) i
unread-split r m i fits lt = omega (arith, bit_at_or r m i, bit_at_and m (2 ^ 64 - 1 - r) i, bit_at_not w64 r i fits lt, bit_at-lt r i, bit_at-lt m i)

pub reading_keeps : (g : RegionState) (h : Hold) (m x r : ℕ) → IsProtected g → g.hold ≡ Some h → h.write ≡ 0 → h.read < 2 ^ 64 → r ≡ bit_or h.read m → x ≡ bit_xor h.xor (xor_under (unread m h.read) g.words) → IsProtected (record g { hold = Some (record h { read = r; xor = x }) })
reading_keeps g h m x r p e z fits is_r is_x = record {
  words = p.words;
  back = p.back;
  writes = λ k w. absurd (omega (arith, ap (λ n. bit_at n k) (sym z), bit_at-zero k, w));
  codeword = p.codeword;
  rest = λ k out. p.rest k (ap (λ o. has_written o k) e ∙ out);
  within = p.within;
  all_sound = p.all_sound;
  no_stray = p.no_stray;
  none_missed = p.none_missed;
  reads = λ un.
      let was : h.xor ≡ xor_under h.read g.back = subst (λ (o : Option Hold). IfSome o (λ k. k.xor ≡ xor_under k.read g.back)) e (p.reads un) in
      let same : g.words ≡ g.back = unwritten-same g h p e z in
      let split : xor_under (bit_or h.read m) g.back ≡ bit_xor (xor_under h.read g.back) (xor_under (unread m h.read) g.back) = xor_under-apart h.read (unread m h.read) (bit_or h.read m) g.back (λ i lt. unread-split h.read m i fits (omega (arith, lt, p.back.0))) in
      is_x ∙ ap (λ n. bit_xor n (xor_under (unread m h.read) g.words)) was ∙ ap (λ ws. bit_xor (xor_under h.read g.back) (xor_under (unread m h.read) ws)) same ∙ sym split ∙ ap (λ n. xor_under n g.back) (sym is_r);
}

pub latched_keeps : (g : RegionState) (t : ℕ) → IsProtected g → g.hold ≡ None → IsProtected (latched t g)
latched_keeps g t p e = record {
  words = p.words;
  back = p.back;
  writes = λ k w. absurd (omega (arith, bit_at-zero k, w));
  codeword = p.codeword;
  rest = λ k out. p.rest k (ap (λ o. has_written o k) e);
  within = p.within;
  all_sound = p.all_sound;
  no_stray = p.no_stray;
  none_missed = p.none_missed;
  reads = λ un. sym (xor_under-nothing g.back);
}

-- a live hold that has written nothing
pub unwritten_hold : (g g' : RegionState) (h : Hold) → g ≡ g' → g.hold ≡ Some h → IsUnwritten g' → h.write ≡ 0
unwritten_hold g g' h same e unwritten =
    let at : IsUnwritten g = subst (λ (s : RegionState). IsUnwritten s) (sym same) unwritten in
    let both : (h.dead ≡ false) × (h.write ≡ 0) = subst (λ (o : Option Hold). IsSomeAnd o (λ k. (k.dead ≡ false) × (k.write ≡ 0))) e at in
    both.1

-- without a hold the words are as they would be without it
pub unheld-same : (g : RegionState) → IsProtected g → g.hold ≡ None → g.words ≡ g.back
unheld-same g p e = outside_nothing g.words g.back (p.words.0 ∙ sym p.back.0) (λ i out. p.rest i (ap (λ o. has_written o i) e))

-- ---- what was computed anew is the same
pub with_back : (g : RegionState) (bs : List ℕ) → bs ≡ g.back → IsProtected g → IsProtected (record g { back = bs })
with_back g bs e p = rw e p

-- a set bit
pub set_is_one : (m i : ℕ) → IsBitSet m i → bit_at m i ≡ 1
set_is_one m i h = one (bit_at m i) (bit_at-lt m i) (λ z. h (and_pow m i ∙ ap (λ b. b * 2 ^ i) z ∙ zero-mul (2 ^ i)))
  where
    one : (b : ℕ) → b < 2 → b ≢ 0 → b ≡ 1
    one b lt ne = omega arith

pub has_read_word : (g g' : RegionState) (h : Hold) (i : ℕ) → g ≡ g' → g.hold ≡ Some h → HasRead g' i → bit_at h.read i ≡ 1
has_read_word g g' h i same e read =
    let at : HasRead g i = subst (λ (s : RegionState). HasRead s i) (sym same) read in
    let both : (h.dead ≡ false) × IsBitSet h.read i = subst (λ (o : Option Hold). IsSomeAnd o (λ k. (k.dead ≡ false) × IsBitSet k.read i)) e at in
    set_is_one h.read i both.1

-- ---- a taking back
-- the codeword, changed by what the words changed by, tells the same pokes
pub same_stray : (g : RegionState) (c b a : ℕ) → IsProtected g → b ≡ parity_of g.words → c ≡ bit_xor g.codeword (bit_xor b a) → c ≡ bit_xor g.stray a
same_stray g c b a p e f = f ∙ ap (λ n. bit_xor g.codeword (bit_xor n a)) e ∙ sym (xor_assoc g.codeword (parity_of g.words) a) ∙ ap (λ n. bit_xor n a) p.codeword

pub taken_back_keeps : (g : RegionState) → IsProtected g → IsProtected (taken_back g)
taken_back_keeps g p = record {
  words = p.back;
  back = p.back;
  codeword = xor_assoc g.stray (parity_of g.back) (parity_of g.back) ∙ ap (bit_xor g.stray) (xor_self (parity_of g.back)) ∙ xor_zero_r g.stray;
  rest = λ i out. refl;
  within = p.within;
  all_sound = p.all_sound;
  no_stray = p.no_stray;
  reads = λ un. tt;
  writes = tt;
  none_missed = p.none_missed;
}

pub touched_keeps : (g : RegionState) → IsProtected g → g.touches < 2 ^ 64 → IsProtected (touched g)
touched_keeps g p small = by_poked g.poked refl
  where
    higher : (a b : ℕ) → a ≤ b → b < 2 ^ 64 → a ≤ counted b
    higher a b h lt = omega arith

    both : (a b : ℕ) → a ≤ b → counted a ≤ counted b
    both a b h = omega arith

    by_poked : (b : Bool) → g.poked ≡ b → IsProtected (touched g)
    by_poked true e = record {
      words = p.words;
      back = p.words;
      codeword = p.codeword;
      rest = λ i out. refl;
      within = rw e (higher g.sound g.touches p.within small);
      all_sound = λ h. absurd (cc);
      no_stray = λ h. absurd (cc);
      reads = λ h. tt;
      writes = tt;
      none_missed = λ h. absurd (cc);
    }
    by_poked false e = record {
      words = p.words;
      back = p.words;
      codeword = p.codeword;
      rest = λ i out. refl;
      within = rw e (both g.sound g.touches p.within);
      all_sound = λ h. rw e (ap counted (p.all_sound h));
      no_stray = p.no_stray;
      reads = λ h. tt;
      writes = tt;
      none_missed = p.none_missed;
    }

-- ---- what contracts say of a call, from the fields
pub updated_is : (g g' : RegionState) (h : Hold) (i v b : ℕ) (bs : List ℕ) → g ≡ g' → g.hold ≡ Some h → b ≡ 2 ^ i → bs ≡ g.back → record g { words = slice_set g.words i v; back = bs; codeword = bit_xor g.codeword (bit_xor (slice_index g.words i) v); hold = Some (record h { write = bit_or h.write b }) } ≡ updated i v g'
updated_is g g' h i v b bs same e is_bit is_back = rw (is_bit, is_back) (step ∙ ap (updated i v) same)
  where
    step : record g { words = slice_set g.words i v; codeword = bit_xor g.codeword (bit_xor (slice_index g.words i) v); hold = Some (writing i h) } ≡ updated i v g
    step = ap (λ o. record g { words = slice_set g.words i v; codeword = bit_xor g.codeword (bit_xor (slice_index g.words i) v); hold = o }) (sym (ap (map_hold (writing i)) e))

pub poked_is : (g g' : RegionState) (i m : ℕ) (ws bs : List ℕ) → g ≡ g' → ws ≡ damaged i m g.words → bs ≡ cond (is_written g i) g.back (damaged i m g.back) → record g { words = ws; back = bs; stray = bit_xor g.stray m; poked = true } ≡ poked i m g'
poked_is g g' i m ws bs same e f = rw (e, f) (ap (poked i m) same)

pub taken_back_is : (g g' : RegionState) (c : ℕ) (ws bs : List ℕ) → g ≡ g' → ws ≡ g.back → bs ≡ g.back → c ≡ bit_xor g.stray (parity_of g.back) → record g { words = ws; back = bs; codeword = c; hold = None } ≡ taken_back g'
taken_back_is g g' c ws bs same e f h = rw (e, f, h) (ap taken_back same)

pub to_same : (g g' : RegionState) → g ≡ g' → IsProtected g' → IsProtected g
to_same g g' e p = subst (λ (s : RegionState). IsProtected s) (sym e) p

pub loaded_keeps : (ws : List ℕ) → AreWords ws → IsProtected (loaded ws)
loaded_keeps ws are = record {
  words = are;
  back = are;
  codeword = xor_self (parity_of ws);
  rest = λ i out. refl;
  within = omega arith;
  all_sound = λ h. refl;
  no_stray = λ h. refl;
  reads = λ h. tt;
  writes = tt;
  none_missed = λ h. refl;
}

-- words that the hold hasn't written stay
pub others_stay : (g g' : RegionState) (ws : List ℕ) → g ≡ g' → IsProtected g → ws ≡ g.back → (i : ℕ) → is_written g' i ≡ false → slice_index ws i ≡ slice_index g'.words i
others_stay g g' ws same p e = subst (λ (s : RegionState). (i : ℕ) → is_written s i ≡ false → slice_index ws i ≡ slice_index s.words i) same (λ i h. ap (λ (xs : List ℕ). get_or xs i 0) e ∙ sym (p.rest i h))
