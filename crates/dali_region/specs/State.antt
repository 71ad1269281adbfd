-- What contracts see of a region, what is true of every region, and what each call leaves.
--     RegionState                  what contracts see of a region
--     IsLive g, IsUnwritten g      a live hold stands; and it has written nothing
--     HasRead g i                  the hold has read word i
--     damaged i m ws               words of which word i is changed by the mask m
--     has_written o i              whether the hold o, if there is one, has written word i
--     is_written g i               whether the region's hold has written word i
--     restored m olds ws           ws with the words in the set m as they are in olds
--     written o                    the set of the words that the hold o, if there is one, has written
--     IsProtected g                what is true of every region
--     loaded ws                    a region as it is loaded
--     counted n                    a count one higher, up to its type's end
--     latched t g                  with a live hold of t that has read nothing
--     with_reads m g               with the words in m that weren't read yet added to the hold's reads
--     updated i v g                with word i set to v, the codeword changed by the difference
--     taken_back g                 with each word that the hold has written as before its first update, all others as they
--                                  stand, a codeword that tells the same pokes, and no hold
--     KeepsOthers g h              the words that the hold of g hasn't written are in h as in g
--     touched g                    with the hold's operation done, and no hold
--     poked i m g                  with a word damaged
--     checked g                    after a check: a check that answers 0 misses the pokes that came
--     dead g                       with its hold dead
use Rattle.std.specs.Prelude.{◌≡◌, ℕ, ◌+◌, ◌-◌, ◌^◌, ◌≤◌, Bool, true, false, not, ◌&&◌, ◌||◌, if◌then◌else◌, ◌==◌, List, Option, Some, None, IfSome, IsSomeAnd, IsBitSet, slice_index, slice_set, bit_and, bit_or, bit_xor, min}
use Rattle.std.specs.Option.{option_map_or}
use Rattle.std.specs.Int.{bit_at}
use Rattle.dali_words.specs.Words.{parity_of, xor_under, under, write_under, AreWords}
use Rattle.dali_region.specs.declared.Hold.{Hold}

pub record RegionState : Type 0 where
  pub words : List ℕ
  -- the words with the updates of the hold taken back: each word that it has written has its value from before
  -- the first update, all others are as they stand
  pub back : List ℕ
  pub hold : Option Hold
  pub codeword : ℕ
  pub dirty_a : Bool
  pub dirty_b : Bool
  -- the operations done since the load
  pub touches : ℕ
  -- the exclusive-or of the masks of all pokes since the load
  pub stray : ℕ
  -- whether a poke came since the load
  pub poked : Bool
  -- the touches before the first poke
  pub sound : ℕ
  -- whether a check answered 0 although the region was poked
  pub missed : Bool

abbrev pub IsLive : RegionState → Type 0
IsLive g = IsSomeAnd g.hold (λ h. h.dead ≡ false)

abbrev pub IsUnwritten : RegionState → Type 0
IsUnwritten g = IsSomeAnd g.hold (λ h. (h.dead ≡ false) × (h.write ≡ 0))

abbrev pub HasRead : RegionState → ℕ → Type 0
HasRead g i = IsSomeAnd g.hold (λ h. (h.dead ≡ false) × IsBitSet h.read i)

abbrev pub damaged : ℕ → ℕ → List ℕ → List ℕ
damaged i m ws = slice_set ws i (bit_xor (slice_index ws i) m)

abbrev pub is_in : ℕ → ℕ → Bool
is_in m i = not (bit_and m (2 ^ i) == 0)

abbrev pub has_written : Option Hold → ℕ → Bool
has_written o i = option_map_or (λ h. is_in h.write i) o false

abbrev pub is_written : RegionState → ℕ → Bool
is_written g i = has_written g.hold i

abbrev pub restored : ℕ → List ℕ → List ℕ → List ℕ
restored m olds ws = write_under m (under m olds) ws

-- olds with the value of word i, where it isn't in the set m
abbrev pub kept : ℕ → ℕ → List ℕ → List ℕ → List ℕ
kept m i ws olds = if is_in m i then olds else slice_set olds i (slice_index ws i)

abbrev pub written : Option Hold → ℕ
written o = option_map_or (λ h. h.write) o 0

pub record IsProtected (g : RegionState) : Type 0 where
  pub words : AreWords g.words
  pub back : AreWords g.back
  -- the codeword tells exactly the masks of the pokes
  pub codeword : bit_xor g.codeword (parity_of g.words) ≡ g.stray
  -- a word that the hold hasn't written is as it would be without the hold
  pub rest : (i : ℕ) → is_written g i ≡ false → slice_index g.words i ≡ slice_index g.back i
  pub within : g.sound ≤ g.touches
  pub all_sound : g.poked ≡ false → g.sound ≡ g.touches
  pub no_stray : g.poked ≡ false → g.stray ≡ 0
  -- what a hold keeps of its reads is the exclusive-or of the words as they are without it
  pub reads : g.poked ≡ false → IfSome g.hold (λ h. h.xor ≡ xor_under h.read g.back)
  -- a hold has written only words that it has read
  pub writes : IfSome g.hold (λ h. (i : ℕ) → bit_at h.write i ≡ 1 → bit_at h.read i ≡ 1)
  pub none_missed : g.poked ≡ false → g.missed ≡ false

abbrev pub loaded : List ℕ → RegionState
loaded ws = record {
  words = ws;
  back = ws;
  hold = None;
  codeword = parity_of ws;
  dirty_a = true;
  dirty_b = true;
  touches = 0;
  stray = 0;
  poked = false;
  sound = 0;
  missed = false;
}

abbrev pub latched : ℕ → RegionState → RegionState
latched t g = record g { hold = Some (record { txn = t; dead = false; read = 0; xor = 0; write = 0 }) }

abbrev pub map_hold : (Hold → Hold) → Option Hold → Option Hold
map_hold f None = None
map_hold f (Some h) = Some (f h)

-- the words in m that aren't in r
abbrev pub unread : ℕ → ℕ → ℕ
unread m r = bit_and m (2 ^ 64 - 1 - r)

abbrev pub reading : ℕ → List ℕ → Hold → Hold
reading m ws h = record h { read = bit_or h.read m; xor = bit_xor h.xor (xor_under (unread m h.read) ws) }

abbrev pub with_reads : ℕ → RegionState → RegionState
with_reads m g = record g { hold = map_hold (reading m g.words) g.hold }

abbrev pub writing : ℕ → Hold → Hold
writing i h = record h { write = bit_or h.write (2 ^ i) }

abbrev pub updated : ℕ → ℕ → RegionState → RegionState
updated i v g = record g {
  words = slice_set g.words i v;
  codeword = bit_xor g.codeword (bit_xor (slice_index g.words i) v);
  hold = map_hold (writing i) g.hold;
}

abbrev pub taken_back : RegionState → RegionState
taken_back g = record g {
  words = g.back;
  codeword = bit_xor g.stray (parity_of g.back);
  hold = None;
}

abbrev pub KeepsOthers : RegionState → RegionState → Type 0
KeepsOthers g h = (i : ℕ) → is_written g i ≡ false → slice_index h.words i ≡ slice_index g.words i

-- a count one higher, up to its type's end
abbrev pub counted : ℕ → ℕ
counted n = min (n + 1) (2 ^ 64 - 1)

abbrev pub wrote : RegionState → Bool
wrote g = option_map_or (λ h. not (h.write == 0)) g.hold false

abbrev pub touched : RegionState → RegionState
touched g = record g {
  back = g.words;
  hold = None;
  dirty_a = g.dirty_a || wrote g;
  dirty_b = g.dirty_b || wrote g;
  touches = counted g.touches;
  sound = if g.poked then g.sound else counted g.sound;
}

-- a word that the hold has written gets its value from before the hold by a taking back, whatever the poke did
abbrev pub poked : ℕ → ℕ → RegionState → RegionState
poked i m g = record g {
  words = damaged i m g.words;
  back = if is_written g i then g.back else damaged i m g.back;
  stray = bit_xor g.stray m;
  poked = true;
}

abbrev pub checked : RegionState → RegionState
checked g = record g { missed = g.missed || (g.poked && (g.stray == 0)) }

abbrev pub dead : RegionState → RegionState
dead g = record g { hold = map_hold (λ h. record h { dead = true }) g.hold }
