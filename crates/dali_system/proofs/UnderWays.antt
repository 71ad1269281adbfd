-- An operation under way: its start, each of its updates, and its end.
use Rattle.std.proofs.Common.{◌≡◌, ◌≢◌, ℕ, zero, suc, ◌+◌, ◌-◌, ◌*◌, ◌<◌, ◌^◌, Bool, true, false, not, ◌&&◌, List, [], ◌∷◌, length, drop, get_or, set, Option, Some, None, IsSomeAnd, IsBitSet, refl, sym, ap, subst, ◌∙◌, arith, count_ones, bit_and, bit_or, bit_xor}
use Rattle.std.specs.Prelude.{◌==◌, if◌then◌else◌, Result, Ok, Err, IfSome}
use Rattle.std.specs.Int.{bit_at}
use Rattle.std.specs.Int.Count.{count_trailing_zeros}
use Rattle.std.specs.Int.Bits.{or_zero_l, or_zero_r, xor_zero_l, xor_self}
use Rattle.std.proofs.lemmas.Nat.{and_mask, and_assoc, and_comm, and_le_l, zero_from_ones, pow_pos}
use Rattle.std.proofs.lemmas.Nat.Bits.{bit_at_and, bit_at-lt, and_pow, bit_at-trailing_zeros}
use Rattle.std.proofs.lemmas.List.{length-set}
use Rattle.std.proofs.lemmas.Bool.Decides.{Decides-eqb}
use Rattle.std.specs.Int.{w64}
use Rattle.dali_words.specs.Words.{xor_under, write_under, parity_of}
use Rattle.dali_words.proofs.Rows.{or_assoc}
use Rattle.dali_record.specs.declared.operations.Op.{Op}
use Rattle.dali_record.specs.declared.operations.Block.{Block}
use Rattle.dali_record.specs.Spelling.{IsBlock, is_within, is_outcome_of, undoes}
use Rattle.dali_record.specs.Blocks.{made}
use Rattle.dali_record.proofs.Whole.{made_reads}
use Rattle.dali_region.specs.declared.Hold.{Hold}
use Rattle.dali_region.specs.State.{RegionState, IsProtected, HasRead, latched, with_reads, updated, map_hold, writing}
use Rattle.dali_region.specs.declared.LatchError.{LatchError}
use Rattle.dali_region.specs.declared.LatchError.TheVariants.{Latched, DeadHolder, Damaged}
use Rattle.dali_region.specs.Answers.{latch_answer}
use Rattle.dali_region.proofs.Holds.{unheld-same}
use Rattle.dali_words.proofs.Writes.{write_nothing}
use Rattle.dali_runs.specs.Regions.{IsOpen}
use Rattle.dali_system.specs.declared.operation.Operation.{Operation}
use Rattle.dali_system.specs.declared.take_back.TakeBack.{TakeBack}
use Rattle.dali_system.specs.TakenBack.{IsUndoBlock}
use Rattle.dali_system.specs.UnderWay.{IsUnderWay, WrittenIsOpen}
use Rattle.dali_system.proofs.Lowest.{lowest_or, lowest_count, lowest_write}

-- ---- steps of a plan
-- the operation that makes the next undo of the plan is open on the region, which was g before its latch
abbrev pub IsMadeBack : TakeBack → RegionState → Option Operation → RegionState → Type 0
IsMadeBack p g o h = IsSomeAnd o (λ o. (o.txn ≡ p.txn) × IsUndoBlock p.next o.block × IsUnderWay o.txn o.block o.left o.taken h × (h ≡ with_reads o.block.read (latched p.txn g)))

-- and it is the same one behind an update
abbrev pub IsSameWay : Option Operation → Option Operation → Type 0
IsSameWay o p = IfSome o (λ o. IsSomeAnd p (λ p. (p.txn ≡ o.txn) × (p.block ≡ o.block)))

-- ---- the start
whole_mask : (m : ℕ) → m < 2 ^ 64 → bit_and m (2 ^ 64 - 1) ≡ m
whole_mask m fits = and_mask m 64 ∙ omega (arith, fits)

abbrev hold_of : ℕ → ℕ → ℕ → Option Hold
hold_of txn read xor = Some (record { txn = txn; dead = false; read = read; xor = xor; write = 0 })

first_true : (a b c : Bool) → (a && b && c) ≡ true → a ≡ true
first_true true b c e = refl
first_true false b c e = absurd cc

pub starts : (txn number key : ℕ) (op : Op) (b : Block) (g : RegionState) → IsProtected g → g.hold ≡ None → b ≡ made g.words key number op → IsBlock b → IsUnderWay txn b b.write 0 (with_reads b.read (latched txn g))
starts txn number key op b g safe none is block = record {
  written = 0;
  hold =
      ap (λ n. hold_of txn n (bit_xor 0 (xor_under (bit_and b.read (2 ^ 64 - 1)) g.words))) (or_zero_l b.read)
      ∙ ap (hold_of txn b.read) (xor_zero_l (xor_under (bit_and b.read (2 ^ 64 - 1)) g.words) ∙ ap (λ n. xor_under n g.words) (whole_mask b.read block.read) ∙ sym xor_is);
  parts = or_zero_l b.write;
  within = (Decides-eqb (bit_and b.write b.read) b.write).0 (first_true (is_within b.write b.read) (is_outcome_of b.op b.outcome) (undoes b.op b.outcome b.undo) block.fit);
  fits = block.write;
  size = safe.words.0;
  count = omega (arith, block.count);
  reads = ap (λ (x : Block). not (x.read == 0)) is ∙ made_reads op key number g.words;
  sound = λ un. ap (λ ws. made ws b.key b.region b.op) (sym same) ∙ (ap (λ (x : Block). made g.words x.key x.region x.op) is ∙ sym is);
  stands = λ un. ap (write_under b.write b.after) same;
}
  where
    same : g.words ≡ g.back
    same = unheld-same g safe none

    xor_is : b.xor ≡ xor_under b.read g.words
    xor_is = ap (λ (x : Block). x.xor) is ∙ ap (λ (x : Block). xor_under x.read g.words) (sym is)

-- ---- an update
abbrev pub lowest : ℕ → ℕ
lowest left = count_trailing_zeros 64 left

within_bit : (left read i : ℕ) → bit_and left read ≡ left → bit_at left i ≡ 1 → bit_at read i ≡ 1
within_bit left read i e h = omega (arith, sym (bit_at_and left read i) ∙ ap (λ n. bit_at n i) e, h, bit_at-lt read i)

bit_set : (n i : ℕ) → bit_at n i ≡ 1 → IsBitSet n i
bit_set n i h e = let is : bit_at n i * 2 ^ i ≡ 0 = sym (and_pow n i) ∙ e in absurd (pos i (ap (λ k. k * 2 ^ i) (sym h) ∙ is))
  where
    pos : (k : ℕ) → 1 * 2 ^ k ≡ 0 → ⊥
    pos k f = let some : 0 < 2 ^ k = pow_pos k in omega (arith, f, some)

pub some_left : (left : ℕ) → left ≢ 0 → 0 < left
some_left zero e = absurd (e refl)
some_left (suc n) e = omega arith

some_ones : (left : ℕ) → 0 < left → 0 < count_ones left
some_ones left some = by_count (count_ones left) refl
  where
    by_count : (n : ℕ) → count_ones left ≡ n → 0 < count_ones left
    by_count zero e = absurd (omega (arith, some, zero_from_ones left e))
    by_count (suc n) e = omega (arith, e)

module _ (txn : ℕ) (b : Block) (left taken : ℕ) (g : RegionState) (w : IsUnderWay txn b left taken g) (some : 0 < left) where
  at_lowest : (lowest left < 64) × (bit_at left (lowest left) ≡ 1)
  at_lowest = let p = bit_at-trailing_zeros w64 left some w.fits in (p.0, p.1)

  pub has_read : HasRead g (lowest left)
  has_read = subst (λ (o : Option Hold). IsSomeAnd o (λ h. (h.dead ≡ false) × IsBitSet h.read (lowest left))) (sym w.hold) (refl, bit_set b.read (lowest left) (within_bit left b.read (lowest left) w.within at_lowest.1))

  pub one_more : taken < length b.after
  one_more = omega (arith, w.count, some_ones left some)

-- the first of what is left
drop_next : (xs : List ℕ) (n : ℕ) → n < length xs → drop n xs ≡ get_or xs n 0 ∷ drop (suc n) xs
drop_next [] n h = absurd (omega (arith, h))
drop_next (x ∷ xs) zero h = refl
drop_next (x ∷ xs) (suc n) h = drop_next xs n (omega (arith, h))

others_within : (left read : ℕ) → bit_and left read ≡ left → bit_and (bit_and left (left - 1)) read ≡ bit_and left (left - 1)
others_within left read e =
    and_assoc read left (left - 1)
    ∙ (ap (bit_and left) (and_comm (left - 1) read)
    ∙ (sym (and_assoc (left - 1) left read) ∙ ap (λ n. bit_and n (left - 1)) e))

pub goes_on : (txn : ℕ) (b : Block) (left taken : ℕ) (g : RegionState) → IsUnderWay txn b left taken g → 0 < left
    → IsUnderWay txn b (bit_and left (left - 1)) (taken + 1) (updated (lowest left) (get_or b.after taken 0) g)
goes_on txn b left taken g w some = record {
  written = bit_or w.written (2 ^ lowest left);
  hold = ap (map_hold (writing (lowest left))) w.hold;
  parts = or_assoc w.written (2 ^ lowest left) others ∙ (ap (bit_or w.written) (lowest_or 64 left some w.fits) ∙ w.parts);
  within = others_within left b.read w.within;
  fits = omega (arith, and_le_l left (left - 1), w.fits);
  size = length-set g.words (lowest left) value ∙ w.size;
  count = omega (arith, w.count, lowest_count 64 left some w.fits);
  reads = w.reads;
  sound = w.sound;
  stands = λ un. writes ∙ w.stands un;
}
  where
    others : ℕ
    others = bit_and left (left - 1)

    value : ℕ
    value = get_or b.after taken 0

    next : drop taken b.after ≡ value ∷ drop (taken + 1) b.after
    next = let one : suc taken ≡ taken + 1 = omega arith in drop_next b.after taken (one_more txn b left taken g w some) ∙ ap (λ n. value ∷ drop n b.after) one

    writes : write_under others (drop (taken + 1) b.after) (set g.words (lowest left) value) ≡ write_under left (drop taken b.after) g.words
    writes =
        let first = lowest_write left value (drop (taken + 1) b.after) g.words some (subst (λ n. left < 2 ^ n) (sym w.size) w.fits) in
        sym (ap (λ vs. write_under left vs g.words) next ∙ (first ∙ ap (λ n. write_under others (drop (taken + 1) b.after) (set g.words (count_trailing_zeros n left) value)) w.size))

-- ---- the end

all_written : (txn : ℕ) (b : Block) (written : ℕ) → bit_or written 0 ≡ b.write → written ≡ b.write
all_written txn b written e = sym (or_zero_r written) ∙ e

pub is_done : (txn : ℕ) (b : Block) (left taken : ℕ) (g : RegionState) → IsUnderWay txn b left taken g → left ≡ 0 → IsOpen g txn b
is_done txn b left taken g w none = record {
  hold = w.hold ∙ ap (hold_with txn b) (all_written txn b w.written (ap (bit_or w.written) (sym none) ∙ w.parts));
  reads = w.reads;
  sound = w.sound;
  stands = λ un. sym (write_nothing (drop taken b.after) g.words) ∙ (ap (λ n. write_under n (drop taken b.after) g.words) (sym none) ∙ w.stands un);
}
  where
    hold_with : ℕ → Block → ℕ → Option Hold
    hold_with t x m = Some (record { txn = t; dead = false; read = x.read; xor = x.xor; write = m })

pub written_is_open : WrittenIsOpen
written_is_open None g way all = absurd way
written_is_open (Some o) g way all = is_done o.txn o.block o.left o.taken g way ((Decides-eqb o.left 0).0 all)

-- ---- a latch that was taken
pub latched_unheld : (precheck : Bool) (g : RegionState) → Ok tt ≡ latch_answer precheck g → g.hold ≡ None
latched_unheld precheck g e = by_hold g.hold refl
  where
    refused : (h : Hold) → (b : Bool) → h.dead ≡ b → (let r : Result (Unit {0}) LatchError = Ok tt in r ≡ (if b then Err (DeadHolder h.txn) else Err (Latched h.txn))) → ⊥
    refused h true d f = absurd cc
    refused h false d f = absurd cc

    by_hold : (o : Option Hold) → g.hold ≡ o → g.hold ≡ None
    by_hold None is = is
    by_hold (Some h) is = absurd (refused h h.dead refl (e ∙ ap (λ (o : Option Hold). latch_answer precheck (record g { hold = o })) is))

-- with precheck the codeword told no damage
pub clean_latched : (g : RegionState) → IsProtected g → Ok tt ≡ latch_answer true g → g.stray ≡ 0
clean_latched g whole e = by_parity (g.codeword == parity_of g.words) refl
  where
    damaged : Bool → Result (Unit {0}) LatchError
    damaged same = if not same then Err (Damaged g.codeword (parity_of g.words)) else Ok tt

    stands : Ok tt ≡ damaged (g.codeword == parity_of g.words)
    stands = e ∙ ap (λ (o : Option Hold). latch_answer true (record g { hold = o })) (latched_unheld true g e)

    by_parity : (same : Bool) → (g.codeword == parity_of g.words) ≡ same → g.stray ≡ 0
    by_parity true i =
        let same : g.codeword ≡ parity_of g.words = (Decides-eqb g.codeword (parity_of g.words)).0 i in
        sym whole.codeword ∙ (ap (λ (n : ℕ). bit_xor n (parity_of g.words)) same ∙ xor_self (parity_of g.words))
    by_parity false i = absurd (let f : Ok tt ≡ damaged false = stands ∙ ap damaged i in cc)

pub checked_latch : (precheck : Bool) (g : RegionState) → IsProtected g → Ok tt ≡ latch_answer precheck g → precheck ≡ true → g.stray ≡ 0
checked_latch precheck g whole e on = clean_latched g whole (e ∙ ap (λ (b : Bool). latch_answer b g) on)
