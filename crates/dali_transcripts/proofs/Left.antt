-- Who has a row behind a round.
use Rattle.std.proofs.Common.{◌≡◌, ℕ, zero, suc, Bool, true, false, List, [], ◌∷◌, length, Option, Some, None, refl, ap, sym, subst, ◌∙◌, ◌⊎◌, inl, inr, ⊎_elim, arith}
use Rattle.std.specs.Prelude.{◌+◌, ◌==◌, if◌then◌else◌, Contains, IsSome, filter_map, fold, slice_get, take}
use Rattle.std.specs.List.{list_all}
use Rattle.std.proofs.lemmas.List.{length-append}
use Rattle.dali_lists.proofs.Members.{contains_first}
use Rattle.dali_runs.proofs.CountsLemmas.Lists.{equal, some_same}
use Rattle.dali_record.proofs.Chains.{and_true}
use Rattle.dali_record.specs.declared.records.Record.TheVariants.{Begin, Commit, Ended}
use Rattle.dali_att.specs.declared.state.State.{State}
use Rattle.dali_att.specs.declared.state.State.TheVariants.{Live, Dead, Cleaning, Committed}
use Rattle.dali_runs.specs.declared.causes.Cause.{Cause}
use Rattle.dali_runs.specs.State.{CoreState, TxnRow, row_of, state_in, state_of}
use Rattle.dali_transcripts.specs.World.{Deed, Logs, DiesOn, Claims, GivesBack, Happening, World, logged_by, log_at, claimed, given_back, state_step, is_dead_in}
use Rattle.dali_transcripts.specs.Words.{Act, Said, Died}
use Rattle.dali_transcripts.specs.Moves.{Receipt}
use Rattle.dali_transcripts.specs.Transcripts.{IsTranscript, deeds_of, Told, is_among, EachTells}
use Rattle.dali_transcripts.specs.Laws.{deed_told, line_of_deed}
use Rattle.dali_transcripts.specs.Left.{LeftHaveDied}
use Rattle.dali_transcripts.proofs.Deeds.{deeds_are_told}
use Rattle.dali_transcripts.proofs.Owned.{each_is_owned}

-- dead, or claimed
pub is_left : Option State → Bool
is_left (Some (Dead latched)) = true
is_left (Some (Cleaning latched)) = true
is_left o = false

-- ---- one deed
chosen : (b : Bool) (p o : Option State) → is_left (if b then p else o) ≡ true → (is_left p ≡ true → is_left o ≡ true) → is_left o ≡ true
chosen true p o e f = f e
chosen false p o e f = e

claimed_left : (o : Option State) → is_left (claimed o) ≡ true → is_left o ≡ true
unfolding is_left
claimed_left None e = e
claimed_left (Some (Dead latched)) e = refl
claimed_left (Some Live) e = e
claimed_left (Some (Cleaning latched)) e = refl
claimed_left (Some Committed) e = e

given_left : (latched : Option ℕ) (o : Option State) → is_left (given_back latched o) ≡ true → is_left o ≡ true
unfolding is_left
given_left latched None e = e
given_left latched (Some (Dead was)) e = refl
given_left latched (Some Live) e = e
given_left latched (Some (Cleaning was)) e = refl
given_left latched (Some Committed) e = e

IsDeath : ℕ → Happening → Type 0
IsDeath t y = (c r : ℕ) × (y ≡ (DiesOn t r, c))

died : (b : Bool) (t u r c : ℕ) (o : Option State) → (u == t) ≡ b → is_left (if b then Some (Dead (Some r)) else o) ≡ true → (is_left o ≡ true) ⊎ IsDeath t (DiesOn u r, c)
unfolding IsDeath
died true t u r c o same e = inr (c, r, ap (λ k. (DiesOn k r, c)) (equal u t same))
died false t u r c o same e = inl e

by_deed : (t : ℕ) (o : Option State) (y : Happening) → is_left (state_step t o y) ≡ true → (is_left o ≡ true) ⊎ IsDeath t y
unfolding is_left
by_deed t o (Logs (Begin u), c) e = inl (chosen (u == t) (Some Live) o e (λ f. absurd (cc)))
by_deed t o (Logs (Commit u), c) e = inl (chosen (u == t) (Some Committed) o e (λ f. absurd (cc)))
by_deed t o (Logs (Ended u), c) e = inl (chosen (u == t) None o e (λ f. absurd (cc)))
by_deed t o (DiesOn u r, c) e = died (u == t) t u r c o refl e
by_deed t o (Claims u, c) e = inl (chosen (u == t) (claimed o) o e (claimed_left o))
by_deed t o (GivesBack u latched, c) e = inl (chosen (u == t) (given_back latched o) o e (given_left latched o))
by_deed t o y e = inl e

-- ---- all deeds
abbrev pub DiedIn : ℕ → List Happening → Type 0
DiedIn t xs = (i c r : ℕ) × (slice_get xs i ≡ Some (DiesOn t r, c))

pub left_by_deeds : (t : ℕ) (o : Option State) (xs : List Happening) → is_left (fold (state_step t) o xs) ≡ true → (is_left o ≡ true) ⊎ DiedIn t xs
unfolding IsDeath
left_by_deeds t o [] e = inl e
left_by_deeds t o (y ∷ ys) e =
    ⊎_elim
    (λ before. ⊎_elim (λ h. inl h) (λ h. inr (zero, h.0, h.1, ap Some h.2)) (by_deed t o y before))
    (λ later. inr (suc later.0, later.1, later.2, later.3))
    (left_by_deeds t (state_step t o y) ys e)

-- ---- the line of a death
some_died : List Said → Bool
some_died [] = false
some_died (Died ∷ lines) = true
some_died (line ∷ lines) = some_died lines

told_died : (lines : List Said) → some_died (filter_map deed_told lines) ≡ some_died lines
unfolding some_died
told_died [] = refl
told_died (Died ∷ lines) = refl
told_died (line ∷ lines) = told_died lines

one_more : (y : Receipt) (ys : List Receipt) → some_died (filter_map line_of_deed ys) ≡ true → some_died (filter_map line_of_deed (y ∷ ys)) ≡ true
unfolding some_died
one_more (n, DiesOn t r) ys e = refl
one_more y ys e = e

deeds_died : (did : List Receipt) (n t r : ℕ) → Contains did (n, DiesOn t r) → some_died (filter_map line_of_deed did) ≡ true
unfolding some_died
deeds_died [] n t r (k, below, is) = absurd (omega (arith, below))
deeds_died (y ∷ ys) n t r (zero, below, is) = subst (λ z. some_died (filter_map line_of_deed (z ∷ ys)) ≡ true) (sym is) refl
deeds_died (y ∷ ys) n t r (suc k, below, is) = one_more y ys (deeds_died ys n t r (k, omega (arith, below), is))

from_died : (lines : List Said) → some_died lines ≡ true → Contains lines Died
unfolding some_died
from_died [] e = absurd (cc)
from_died (Died ∷ lines) e = contains_first Died lines
from_died (line ∷ lines) e = let h = from_died lines e in (suc h.0, omega (arith, h.1), h.2)

says_so : (w : World) (c : ℕ) (acts : List Act) (lines : List Said) (n t r : ℕ) → IsTranscript w c acts lines (deeds_of w c) → Contains (deeds_of w c) (n, DiesOn t r) → Contains lines Died
says_so w c acts lines n t r transcript has =
    from_died lines (sym (told_died lines) ∙ (ap some_died (deeds_are_told w c acts lines (deeds_of w c) transcript) ∙ deeds_died (deeds_of w c) n t r has))

-- ---- the block of a client
among : (blocks : List Told) (xs : List Happening) (i : ℕ) (x : Deed) (c : ℕ) → list_all (λ (y : Happening). is_among blocks y.1) xs ≡ true → slice_get xs i ≡ Some (x, c) → is_among blocks c ≡ true
among blocks [] i x c e at = absurd (cc)
among blocks (y ∷ ys) zero x c e at = ap (λ (z : Happening). is_among blocks z.1) (sym (some_same at)) ∙ (and_true (is_among blocks y.1) (list_all (λ (z : Happening). is_among blocks z.1) ys) e).0
among blocks (y ∷ ys) (suc i) x c e at = among blocks ys i x c (and_true (is_among blocks y.1) (list_all (λ (z : Happening). is_among blocks z.1) ys) e).1 at

record IsFound (w : World) (c : ℕ) (blocks : List Told) (lines : List (List Said)) : Type 0 where
  place : ℕ
  block : Told
  there : slice_get blocks place ≡ Some block
  own : block.client ≡ c
  said : List Said
  lines_are : slice_get lines place ≡ Some said
  transcript : IsTranscript w c block.acts said (deeds_of w c)

one_further : (w : World) (c : ℕ) (b : Told) (blocks : List Told) (said : List Said) (lines : List (List Said)) → IsFound w c blocks lines → IsFound w c (b ∷ blocks) (said ∷ lines)
one_further w c b blocks said lines h = record { place = suc h.place; block = h.block; there = h.there; own = h.own; said = h.said; lines_are = h.lines_are; transcript = h.transcript }

found_by : (w : World) (c : ℕ) (b : Told) (blocks : List Told) (said : List Said) (lines : List (List Said)) (t : Bool) → (b.client == c) ≡ t → (if t then true else is_among blocks c) ≡ true
    → IsTranscript w b.client b.acts said (deeds_of w b.client) → (is_among blocks c ≡ true → IsFound w c blocks lines) → IsFound w c (b ∷ blocks) (said ∷ lines)
found_by w c b blocks said lines true same e first more =
    let own : b.client ≡ c = equal b.client c same in
    record { place = zero; block = b; there = refl; own = own; said = said; lines_are = refl; transcript = subst (λ k. IsTranscript w k b.acts said (deeds_of w k)) own first }
found_by w c b blocks said lines false same e first more = one_further w c b blocks said lines (more e)

found : (w : World) (c : ℕ) (blocks : List Told) (lines : List (List Said)) → is_among blocks c ≡ true → EachTells true w blocks lines → IsFound w c blocks lines
found w c [] lines e each = absurd (cc)
found w c (b ∷ blocks) [] e each = absurd each
found w c (b ∷ blocks) (said ∷ lines) e each = found_by w c b blocks said lines (b.client == c) refl e each.0 (λ more. found w c blocks lines more each.1)

-- ---- a round
pub dead_left : (o : Option State) → is_dead_in o ≡ true → is_left o ≡ true
unfolding is_left
dead_left (Some (Dead latched)) e = refl
dead_left o e = absurd (cc)

pub has_row : (o : Option TxnRow) → is_left (state_in o) ≡ true → IsSome o
unfolding is_left
has_row None e = absurd (cc)
has_row (Some row) e = refl

running : (o : Option Cause) → ((z : Cause) → o ≡ Some z → ⊥) → o ≡ None
running None f = refl
running (Some z) f = absurd (f z refl)

pub left_have_died : LeftHaveDied
left_have_died precheck before old new blocks lines receipts round between runs t row =
    let w = round.world in
    let still : old.system.stop ≡ None =
    running old.system.stop (λ z e.
    let on : w.core.system.stop ≡ Some z = round.grew.stopped z e in
    let no : Some z ≡ None = sym on ∙ (ap (λ (k : CoreState). k.system.stop) round.core_is ∙ runs) in absurd (cc)) in
    let dead : is_dead_in (state_of new.system t) ≡ true = (round.between refl).idle runs t row in
    let told = round.together.states t in
    let left : is_left (fold (state_step t) (state_of w.old.system t) w.happened) ≡ true =
    ap is_left (sym told ∙ ap (λ (k : CoreState). state_of k.system t) round.core_is) ∙ dead_left (state_of new.system t) dead in
    let was : state_of w.old.system t ≡ state_of old.system t = ap (λ (k : CoreState). state_of k.system t) round.old_is in
    let owned = round.transcripts in
    ⊎_elim
    (λ h. inl (ap is_dead_in was ∙ between.idle still t (has_row (row_of old.system t) (ap is_left (sym was) ∙ h))))
    (λ h.
    let told = found w h.1 blocks lines (among blocks w.happened h.0 (DiesOn t h.2) h.1 owned.owners h.3) owned.each in
    let number = length w.before + length (logged_by (take h.0 w.happened)) in
    let at : length (log_at w h.0) ≡ number = length-append w.before (logged_by (take h.0 w.happened)) in
    inr (record {
      client = h.1;
      region = h.2;
      number = number;
      done = record { place = h.0; there = h.3; number = at };
      place = told.place;
      block = told.block;
      there = told.there;
      own = told.own;
      said = told.said;
      lines_are = told.lines_are;
      tells = says_so w h.1 told.block.acts told.said number t h.2 told.transcript (each_is_owned h.1 (length w.before) w.happened h.0 (DiesOn t h.2) h.3);
    }))
    (left_by_deeds t (state_of w.old.system t) w.happened left)
