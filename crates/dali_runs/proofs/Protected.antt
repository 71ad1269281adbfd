-- What ties a region's words, codeword and hold is kept by the steps on it.
use Rattle.std.proofs.Common.{◌≡◌, ℕ, ◌<◌, ◌^◌, Bool, true, false, Option, Some, None, refl, sym, subst, ◌∙◌}
use Rattle.std.specs.Prelude.{IfSome, ◌&&◌, ◌||◌, ◌==◌}
use Rattle.std.specs.Int.{bit_at}
use Rattle.std.proofs.lemmas.Nat.{or_lt}
use Rattle.dali_words.specs.Words.{xor_under}
use Rattle.dali_region.specs.declared.Hold.{Hold}
use Rattle.dali_region.specs.declared.Side.{Side}
use Rattle.dali_region.specs.declared.Side.TheVariants.{A, B}
use Rattle.dali_region.specs.State.{RegionState, IsProtected, IsUnwritten, HasRead, has_written, map_hold, reading, with_reads, writing, updated, checked, dead}
use Rattle.dali_region.specs.Answers.{cleaned}
use Rattle.dali_region.proofs.Holds.{unwritten_hold, reading_keeps, updated_keeps, read_word_is_below, has_read_word}

-- a set of words read is one of 64
abbrev pub ReadsFit : Option Hold → Type 0
ReadsFit o = IfSome o (λ h. h.read < 2 ^ 64)

pub noted : (g : RegionState) (m : ℕ) (o : Option Hold) → g.hold ≡ o → IsProtected g → ReadsFit g.hold → IsUnwritten g → m < 2 ^ 64 → IsProtected (with_reads m g) × ReadsFit (with_reads m g).hold
noted g m None e p fits unwritten small = absurd (rw e at unwritten)
noted g m (Some h) e p fits unwritten small =
    (subst (λ (o : Option Hold). IsProtected (record g { hold = map_hold (reading m g.words) o })) (sym e) (reading_keeps g h m _ _ p e (unwritten_hold g g h refl e unwritten) below refl refl), subst (λ (o : Option Hold). ReadsFit (map_hold (reading m g.words) o)) (sym e) (or_lt 64 h.read m below small))
  where
    below : h.read < 2 ^ 64
    below = subst ReadsFit e fits

pub wrote_word : (g : RegionState) (i v : ℕ) (o : Option Hold) → g.hold ≡ o → IsProtected g → ReadsFit g.hold → HasRead g i → v < 2 ^ 64 → IsProtected (updated i v g) × ReadsFit (updated i v g).hold
wrote_word g i v None e p fits read small = absurd (rw e at read)
wrote_word g i v (Some h) e p fits read small =
    (subst (λ (o : Option Hold). IsProtected (record (updated i v g) { hold = map_hold (writing i) o })) (sym e) (updated_keeps g h i v (2 ^ i) p e (read_word_is_below g g h i refl e below read) refl small (has_read_word g g h i refl e read)), subst (λ (o : Option Hold). ReadsFit (map_hold (writing i) o)) (sym e) below)
  where
    below : h.read < 2 ^ 64
    below = subst ReadsFit e fits

-- ---- a hold that dies
same_written : (o : Option Hold) (i : ℕ) → has_written (map_hold (λ h. record h { dead = true }) o) i ≡ has_written o i
same_written None i = refl
same_written (Some h) i = refl

if_dead : (P : Hold → Type 0) (o : Option Hold) → ((h : Hold) → P h → P (record h { dead = true })) → IfSome o P → IfSome (map_hold (λ h. record h { dead = true }) o) P
if_dead P None keeps h = tt
if_dead P (Some k) keeps h = keeps k h

pub reads_same : (o : Option Hold) → ReadsFit o → ReadsFit (map_hold (λ h. record h { dead = true }) o)
reads_same o fits = if_dead (λ h. h.read < 2 ^ 64) o (λ h k. k) fits

pub dead_keeps : (g : RegionState) → IsProtected g → IsProtected (dead g)
dead_keeps g p = record {
  words = p.words;
  back = p.back;
  codeword = p.codeword;
  rest = λ i out. p.rest i (sym (same_written g.hold i) ∙ out);
  within = p.within;
  all_sound = p.all_sound;
  no_stray = p.no_stray;
  reads = λ un. if_dead (λ h. h.xor ≡ xor_under h.read g.back) g.hold (λ h k. k) (p.reads un);
  writes = if_dead (λ h. (i : ℕ) → bit_at h.write i ≡ 1 → bit_at h.read i ≡ 1) g.hold (λ h k. k) p.writes;
  none_missed = p.none_missed;
}

-- ---- an audit, and a copy
marked_keeps : (g : RegionState) (a b m : Bool) → IsProtected g → (g.poked ≡ false → m ≡ false) → IsProtected (record g { dirty_a = a; dirty_b = b; missed = m })
marked_keeps g a b m p missed = record {
  words = p.words;
  back = p.back;
  codeword = p.codeword;
  rest = p.rest;
  within = p.within;
  all_sound = p.all_sound;
  no_stray = p.no_stray;
  reads = p.reads;
  writes = p.writes;
  none_missed = missed;
}

pub checked_keeps : (g : RegionState) → IsProtected g → IsProtected (checked g)
checked_keeps g p = marked_keeps g g.dirty_a g.dirty_b (g.missed || (g.poked && (g.stray == 0))) p (λ un. none g.missed g.poked (g.stray == 0) (p.none_missed un) un)
  where
    none : (a b c : Bool) → a ≡ false → b ≡ false → (a || (b && c)) ≡ false
    none true b c e f = absurd (cc)
    none false true c e f = absurd (cc)
    none false false c e f = refl

pub cleaned_keeps : (side : Side) (g : RegionState) → IsProtected g → IsProtected (cleaned side g)
cleaned_keeps A g p = marked_keeps g false g.dirty_b g.missed p p.none_missed
cleaned_keeps B g p = marked_keeps g g.dirty_a false g.missed p p.none_missed
