-- What calls of regions do to the flags of images.
use Rattle.std.proofs.Common.{◌≡◌, ℕ, Bool, true, false, List, [], ◌∷◌, Some, refl, ap, sym, subst, ◌∙◌, ⊎_elim, slice_get, slice_set}
use Rattle.std.proofs.lemmas.List.{length-set}
use Rattle.dali_lists.proofs.Lists.{set_cases}
use Rattle.dali_lists.proofs.Tests.{left_false}
use Rattle.dali_region.specs.declared.Side.TheVariants.{A, B}
use Rattle.dali_region.specs.State.{RegionState, touched, taken_back, wrote}
use Rattle.dali_runs.specs.State.{SystemState}
use Rattle.dali_runs.specs.Regions.{RegionStep, Latch, NoteReads, Update, TakeBack, Poke, Check, Die, Clean, region_after}
use Rattle.dali_system.specs.declared.take_back.TakeBack.{TakeBack as Back}
use Rattle.dali_calls.specs.Flags.{FlagStays, FlagsStay}
use Rattle.dali_calls.specs.Operating.{IsOwn, Goes, IsTakenBack, Undone}

-- ---- one region
pub flag_same : (g : RegionState) → FlagStays g g
flag_same g side e = e

pub flag_equal : (g h : RegionState) → h ≡ g → FlagStays g h
flag_equal g h e = subst (λ (k : RegionState). FlagStays g k) (sym e) (flag_same g)

pub flag_further : (g h k : RegionState) → FlagStays g h → FlagStays h k → FlagStays g k
flag_further g h k one two side e = one side (two side e)

pub flag_kept : (g h : RegionState) → h.dirty_a ≡ g.dirty_a → h.dirty_b ≡ g.dirty_b → FlagStays g h
flag_kept g h a b A e = sym a ∙ e
flag_kept g h a b B e = sym b ∙ e

pub flag_touched : (g : RegionState) → FlagStays g (touched g)
flag_touched g A e = left_false g.dirty_a (wrote g) e
flag_touched g B e = left_false g.dirty_b (wrote g) e

pub flag_taken_back : (g : RegionState) → FlagStays g (taken_back g)
flag_taken_back g = flag_kept g (taken_back g) refl refl

-- all but a checkpoint's
abbrev pub leaves_flags : RegionStep → Bool
leaves_flags (Clean side) = false
leaves_flags x = true

pub flag_after : (x : RegionStep) (g : RegionState) → leaves_flags x ≡ true → FlagStays g (region_after x g)
flag_after (Latch t) g e = flag_kept g (region_after (Latch t) g) refl refl
flag_after (NoteReads mask) g e = flag_kept g (region_after (NoteReads mask) g) refl refl
flag_after (Update word value) g e = flag_kept g (region_after (Update word value) g) refl refl
flag_after TakeBack g e = flag_taken_back g
flag_after (Poke word mask) g e = flag_kept g (region_after (Poke word mask) g) refl refl
flag_after Check g e = flag_kept g (region_after Check g) refl refl
flag_after Die g e = flag_kept g (region_after Die g) refl refl
flag_after (Clean side) g e = absurd cc

-- ---- the operations of one transaction
own_flag : (t : ℕ) (x : RegionStep) (g : RegionState) → IsOwn t x g → FlagStays g (region_after x g)
own_flag t (Latch u) g own = flag_after (Latch u) g refl
own_flag t (NoteReads mask) g own = flag_after (NoteReads mask) g refl
own_flag t (Update word value) g own = flag_after (Update word value) g refl
own_flag t TakeBack g own = flag_after TakeBack g refl
own_flag t x g own = absurd own

pub goes_flag : (t : ℕ) (g : RegionState) (xs : List RegionStep) (h : RegionState) → Goes t g xs h → FlagStays g h
goes_flag t g [] h goes = flag_equal g h (sym goes)
goes_flag t g (x ∷ xs) h goes = flag_further g (region_after x g) h (own_flag t x g goes.1) (goes_flag t (region_after x g) xs h goes.2)

pub done_flag : (t : ℕ) (g opened h : RegionState) (xs : List RegionStep) → Goes t g xs opened → h ≡ touched opened → FlagStays g h
done_flag t g opened h xs goes done = subst (λ (k : RegionState). FlagStays g k) (sym done) (flag_further g opened (touched opened) (goes_flag t g xs opened goes) (flag_touched opened))

pub undone_flag : (p q : Back) (g h : RegionState) (y z : SystemState) → Undone p g y q h z → FlagStays g h
undone_flag p q g h y z o = done_flag p.txn g o.opened h o.steps o.goes o.region

pub taken_back_flag : (t : ℕ) (g h : RegionState) → IsTakenBack t g h → FlagStays g h
taken_back_flag t g h back = goes_flag t g back.0 h back.1

-- ---- all regions
pub flags_same : (gs : List RegionState) → FlagsStay gs gs
flags_same gs = record { count = refl; each = λ r h at. (h, at, flag_same h) }

pub flags_equal : (gs hs : List RegionState) → hs ≡ gs → FlagsStay gs hs
flags_equal gs hs e = subst (λ (l : List RegionState). FlagsStay gs l) (sym e) (flags_same gs)

pub flags_further : (gs hs ks : List RegionState) → FlagsStay gs hs → FlagsStay hs ks → FlagsStay gs ks
flags_further gs hs ks one two = record {
  count = two.count ∙ one.count;
  each = λ r k at. let h = two.each r k at in let g = one.each r h.0 h.1 in (g.0, g.1, flag_further g.0 h.0 k g.2 h.2);
}

pub flags_set : (gs : List RegionState) (r : ℕ) (g h : RegionState) → slice_get gs r ≡ Some g → FlagStays g h → FlagsStay gs (slice_set gs r h)
flags_set gs r g h at stays = record {
  count = length-set gs r h;
  each = λ q k is. ⊎_elim
      (λ e. (g, ap (λ n. slice_get gs n) e.0 ∙ at, subst (λ (x : RegionState). FlagStays g x) (sym e.1) stays))
      (λ e. (k, e.1, flag_same k)) (set_cases gs r h q k is);
}
