-- Wrong transcripts: none of these is one.
use Rattle.std.proofs.Common.{◌≡◌, ℕ, zero, suc, ◌+◌, ◌<◌, ◌≤◌, Bool, true, false, List, [], ◌∷◌, ◌++◌, length, Option, Some, None, ap, refl, sym, subst, ◌∙◌, inl, inr, ⊎_elim, ◌⊎◌, arith}
use Rattle.std.specs.Prelude.{◌==◌, if◌then◌else◌, Contains, bit_xor, filter_map, slice_get, sum_by, take, drop}
use Rattle.std.specs.Int.Bits.{xor_assoc, xor_self, xor_zero_l, xor_zero_r}
use Rattle.std.proofs.lemmas.Bool.{cases_lt}
use Rattle.std.proofs.lemmas.List.{append_assoc, append-nil, take-append-drop}
use Rattle.std.proofs.lemmas.List.Elements.{filter_map-append}
use Rattle.std.proofs.lemmas.List.Sums.{sum_by-append}
use Rattle.dali_runs.proofs.CountsLemmas.Lists.{self, some_same}
use Rattle.dali_record.specs.declared.operations.Block.{Block}
use Rattle.dali_record.specs.declared.operations.Pending.{Pending}
use Rattle.dali_record.specs.declared.operations.Undo.TheVariants.{FreeCell as UndoCell}
use Rattle.dali_record.specs.declared.records.Call.{Call}
use Rattle.dali_record.specs.declared.records.Record.{Record}
use Rattle.dali_record.specs.declared.records.Record.TheVariants.{Begin, Forward, Done, Commit, Ended}
use Rattle.dali_locks.specs.declared.mode.Mode.{Mode}
use Rattle.dali_locks.specs.declared.mode.Mode.TheVariants.{Shared, Exclusive}
use Rattle.dali_locks.specs.Locks.{both_shared}
use Rattle.dali_runs.specs.declared.causes.Cause.{Cause}
use Rattle.dali_runs.specs.declared.causes.Cause.TheVariants.{Damage}
use Rattle.dali_runs.specs.declared.refusals.Refusal.{Refusal}
use Rattle.dali_runs.specs.Run.{damage_in, failed_first}
use Rattle.dali_region.specs.State.{RegionState}
use Rattle.dali_runs.specs.State.{CoreState, state_of, lock_of, stable}
use Rattle.dali_runs.specs.Steps.{audit_record}
use Rattle.dali_transcripts.specs.Words.{Act, Calls, Commits as CommitAct, Checkpoints as CheckpointAct, Why, StoppedBy, Full, Damaged, UnderWay, Said, CommitOk, CheckpointSaid, Aborted, LeftOpen, Died, Busy, Refused, is_stop}
use Rattle.dali_record.specs.Epochs.{last_epoch}
use Rattle.dali_record.specs.Spelling.{record_length}
use Rattle.dali_record.specs.Blocks.{pending}
use Rattle.dali_transcripts.specs.World.{Deed, Logs, Claims, GivesBack, GetsLock, Yields, MovesAnchor, Meets, Happening, World, record_of, logged_by, log_of, log_at, HasDone, lock_at, IsNoWeaker, state_after, state_at, is_dead_in, has_failed, cause_of, stop_at, stray_after, refused_by}
use Rattle.dali_transcripts.specs.Moves.{Receipt, TakenBack, Move, IsRefusedCall, GivesWay, said as says, own as does}
use Rattle.dali_transcripts.specs.Causes.{IsDamaged, MetCause, IsRight, AreRightFrom, AreRight, IsAsking, AreAsking, IsTried, AreTried, WasGranted, undos_behind, spares, IsUnanswered, IsTurnedBack, IsGivingWay, HasCause}
use Rattle.dali_transcripts.specs.Transcripts.{IsTranscript, line_told, lines_of_records}
use Rattle.dali_transcripts.specs.Table.{Tells, TellsRefused}
use Rattle.dali_transcripts.specs.Rounds.{HasLooked, AreAnchors, VerdictsTell}
use Rattle.dali_transcripts.specs.Laws.{behind_died}
use Rattle.dali_transcripts.specs.Worked.{put}
use Rattle.dali_transcripts.specs.Wrong.{WasLastAt, IsDamagedFrom, RunsThroughout, WrongOnes}
use Rattle.dali_transcripts.proofs.Lists.{all_get}
use Rattle.dali_transcripts.proofs.Lines.{lines_tell}
use Rattle.dali_transcripts.proofs.Matches.{lines_are_records}
use Rattle.dali_transcripts.proofs.Gone.{nothing_after_died}

module _ (w : World) (c : ℕ) (acts : List Act) where
  -- the lines and the records that have to agree
  agree : (said lines : List Said) (did : List Receipt) → said ≡ lines → IsTranscript w c acts said did → filter_map line_told lines ≡ lines_of_records (stable w.core) None did
  agree said lines did e transcript = ap (λ l. filter_map line_told l) (sym e) ∙ lines_are_records w c acts said did transcript

  tells : (said : List Said) (did : List Receipt) (line : Said) → IsTranscript w c acts said did → Contains said line → Tells w c did line
  tells said did line transcript has = all_get (Tells w c did) said line (lines_tell w c acts said did transcript) has

  only : (x y : Receipt) → Contains (x ∷ []) y → x ≡ y
  only x y (zero, below, e) = e
  only x y (suc k, below, e) = absurd (omega (arith, below))

not_nil : (first : List Said) (line : Said) (later : List Said) → first ++ line ∷ later ≡ [] → ⊥
not_nil [] line later e = absurd (cc)
not_nil (x ∷ first) line later e = absurd (cc)

died_behind : (first : List Said) (line : Said) (later : List Said) → behind_died (first ++ Died ∷ line ∷ later) ≡ [] → ⊥
died_behind [] line later e = absurd (cc)
died_behind (Died ∷ first) line later e = not_nil first Died (line ∷ later) e
died_behind (x ∷ first) line later e = died_behind first line later e

-- a stop is told at its place
stop_told : (w : World) (c : ℕ) (did : List Receipt) (act : Act) (cause : Cause) → TellsRefused w c did act (StoppedBy cause) → (i : ℕ) × (stop_at w i ≡ Some cause)
stop_told w c did CommitAct cause h = (h.2.met.place, h.2.cause.1)
stop_told w c did act cause h = (h.2.met.place, h.2.cause.1)

sum_of_part : (xs ys : List Record) → sum_by record_length xs ≤ sum_by record_length (xs ++ ys)
sum_of_part xs ys = let e = sum_by-append record_length xs ys in omega (arith, e)

-- the log at a place is a first part of the log
part_of : (w : World) (i : ℕ) → sum_by record_length (log_at w i) ≤ sum_by record_length (log_of w)
part_of w i =
    let whole : log_of w ≡ log_at w i ++ logged_by (drop i w.happened) =
    ap (λ l. w.before ++ logged_by l) (sym (take-append-drop i w.happened))
    ∙ (ap (λ l. w.before ++ l) (filter_map-append record_of (take i w.happened) (drop i w.happened))
    ∙ sym (append_assoc w.before (logged_by (take i w.happened)) (logged_by (drop i w.happened)))) in
    subst (λ l. sum_by record_length (log_at w i) ≤ sum_by record_length l) (sym whole) (sum_of_part (log_at w i) (logged_by (drop i w.happened)))

damage_of : (o : Option ℕ) (failed : Bool) (r : ℕ) → cause_of o failed ≡ Some (Damage r) → o ≡ Some r
damage_of (Some q) failed r e = ap (λ (z : Option Cause). damage_in z) e
damage_of None true r e = absurd (cc)
damage_of None false r e = absurd (cc)

damage_stops : (w : World) (c : ℕ) (did : List Receipt) (act : Act) (r : ℕ) → TellsRefused w c did act (StoppedBy (Damage r)) → (i : ℕ) × (failed_first (last_epoch (log_at w i)).records ≡ Some r)
damage_stops w c did act r h =
    let told = stop_told w c did act (Damage r) h in
    (told.0, damage_of (failed_first (last_epoch (log_at w told.0)).records) (has_failed w.old.vault.stopped (take told.0 w.happened)) r told.1)

full_told : (w : World) (c : ℕ) (did : List Receipt) (act : Act) (end limit : ℕ) → TellsRefused w c did act (Full end limit) → end ≤ sum_by record_length (log_of w)
full_told w c did CommitAct end limit h = let m = h.2 in let e = m.cause.end_is in let p = part_of w m.met.place in omega (arith, e, p)
full_told w c did act end limit h = let m = h.2 in let e = m.cause.end_is in let p = part_of w m.met.place in omega (arith, e, p)

full_met : (w : World) (c : ℕ) (did : List Receipt) (act : Act) (end limit : ℕ) → TellsRefused w c did act (Full end limit) → (o : Option ℕ) × (n : ℕ) × MetCause w c n act o (Full end limit)
full_met w c did CommitAct end limit h = h
full_met w c did act end limit h = h

no_place : (w : World) (c n : ℕ) (why : Why) → w.happened ≡ [] → HasDone w c n (Meets why) → ⊥
no_place w c n why e m = let at : slice_get {X = Happening} [] m.place ≡ Some (Meets why, c) = ap (λ (l : List Happening). slice_get l m.place) (sym e) ∙ m.there in absurd (cc)

damaged_told : (w : World) (c : ℕ) (did : List Receipt) (call : Call) (r codeword found : ℕ) → TellsRefused w c did (Calls call) (Damaged r codeword found)
    → (i t : ℕ) × IsDamaged w i t call r codeword found
damaged_told w c did call r codeword found (Some t, n, m) = (m.met.place, t, m.cause)
damaged_told w c did call r codeword found (None, n, m) = absurd m.cause

xor_same : (a b : ℕ) → bit_xor a b ≡ 0 → a ≡ b
xor_same a b e = sym (xor_zero_r a) ∙ (ap (bit_xor a) (sym (xor_self b)) ∙ (sym (xor_assoc a b b) ∙ (ap (λ n. bit_xor n b) e ∙ xor_zero_l b)))

two_of : (x y : Receipt) (m k : ℕ) → Contains (x ∷ y ∷ []) (m, MovesAnchor k) → (x.1 ≡ MovesAnchor k) ⊎ (y.1 ≡ MovesAnchor k)
two_of x y m k (zero, below, e) = inl (ap (λ (z : Receipt). z.1) e)
two_of x y m k (suc zero, below, e) = inr (ap (λ (z : Receipt). z.1) e)
two_of x y m k (suc (suc i), below, e) = absurd (omega (arith, below))

-- a transaction that stays open tells of a stop
open_stops : (w : World) (c n : ℕ) (act : Act) (o : Option ℕ) (cause : Cause) → RunsThroughout w → MetCause w c n act o (StoppedBy cause) → ⊥
open_stops w c n act o cause runs h = let e = sym (runs h.met.place) ∙ h.cause.1 in absurd (cc)

-- each deed of a round has what it asks for
right_from : (w : World) (n : ℕ) (xs : List Happening) (i c : ℕ) (x : Deed) → AreRightFrom w n xs → slice_get xs i ≡ Some (x, c) → IsRight w c (i + n) x
right_from w n [] i c x h e = absurd (cc)
right_from w n (y ∷ ys) zero c x h e = let same : n ≡ 0 + n = omega arith in subst (λ k. IsRight w c k x) same (subst (λ (z : Happening). IsRight w z.1 n z.0) (some_same e) h.0)
right_from w n (y ∷ ys) (suc i) c x h e =
    let same : i + (n + 1) ≡ suc i + n = omega arith in
    subst (λ k. IsRight w c k x) same (right_from w (n + 1) ys i c x h.1 e)

right_at : (w : World) (i c : ℕ) (x : Deed) → AreRight w → slice_get w.happened i ≡ Some (x, c) → IsRight w c i x
right_at w i c x h e = let same : i + 0 ≡ i = omega arith in subst (λ k. IsRight w c k x) same (right_from w 0 w.happened i c x h e)

-- an audit names a region only where some stray writes were left
named : (w : World) (i b c r : ℕ) (found : List ℕ) (g : RegionState) → VerdictsTell w → slice_get w.happened i ≡ Some (Logs (audit_record b found), c) → slice_get w.old.regions r ≡ Some g
    → ((j : ℕ) → stray_after r g.stray (take j w.happened) ≡ 0) → Contains found r → ⊥
named w i b c r found g told e was clean has =
    let at = told i b c found e r g was in (at.3.0 has) (clean at.0)

-- the operation of a step is one of the transaction of its call
of_txn : (w : World) (c u : ℕ) (call : Call) (xs : List Receipt) (k : ℕ) (why : Why) (ys : List Receipt) (t n : ℕ) (b : Block) (more : List Receipt)
    → xs ++ (k, Meets why) ∷ ys ≡ (n, Logs (Forward t b)) ∷ more → AreTried w c u call xs → t ≡ u
of_txn w c u call [] k why ys t n b more e h =
    let first : (k, Meets why) ≡ (n, Logs (Forward t b)) = cc in
    let other : Meets why ≡ Logs (Forward t b) = ap (λ (z : Receipt). z.1) first in absurd (cc)
of_txn w c u call (z ∷ zs) k why ys t n b more e h = let first : z ≡ (n, Logs (Forward t b)) = cc in (subst (IsTried w c u call) first h.0).0

-- an insert that nothing takes back
kept : (w : World) (c : ℕ) (x : Move) (call : Call) (t n m end limit : ℕ) → says x ≡ Refused (Calls call) (Full end limit) ∷ []
    → does x ≡ (n, Logs (Forward t (put 97 0))) ∷ (m, Meets (Full end limit)) ∷ [] → HasCause w c x → ⊥
kept w c (IsRefusedCall u tries cs d s xs k ys other why rest) call t n m end limit e is h =
    let full : why ≡ Full end limit = cc in
    let own : t ≡ u = of_txn w c u other xs k why ys t n (put 97 0) ((m, Meets (Full end limit)) ∷ []) is h.0 in
    let back : undos_behind u [] (xs ++ (k, Meets why) ∷ ys) ≡ [] = h.3 (ap is_stop full) [] in
    let left : (if t == u then pending (put 97 0) (UndoCell 1) ∷ [] else []) ≡ [] = subst (λ rs. undos_behind u [] rs ≡ []) is back in
    let same : (t == u) ≡ true = ap (λ z. t == z) (sym own) ∙ self t in
    let some : pending (put 97 0) (UndoCell 1) ∷ [] ≡ [] = subst (λ (z : Bool). (if z then pending (put 97 0) (UndoCell 1) ∷ [] else []) ≡ []) same left in
    absurd (cc)
kept w c (GivesWay u tries cs d xs other f ys (TakenBack k) rest) call t n m end limit e is h = absurd (cc)
kept w c _ call t n m end limit e is h = absurd (cc)

-- what was there before is taken back too
more_back : (t : ℕ) (p : Pending) → (if t == t then [] else p ∷ []) ≡ p ∷ [] → ⊥
more_back t p e = let none : [] ≡ p ∷ [] = subst (λ (z : Bool). (if z then [] else p ∷ []) ≡ p ∷ []) (self t) e in absurd (cc)

-- a client that is to die in its next operation makes none
alone : (x : Receipt) (n t : ℕ) (b : Block) (xs ys : List Receipt) → (n, Logs (Forward t b)) ∷ [] ≡ xs ++ x ∷ ys → x.1 ≡ Logs (Forward t b)
alone x n t b [] ys e = let first : (n, Logs (Forward t b)) ≡ x = cc in ap (λ (z : Receipt). z.1) (sym first)
alone x n t b (y ∷ []) ys e = absurd (cc)
alone x n t b (y ∷ z ∷ xs) ys e = absurd (cc)

one_spared : (x : Receipt) (z : Bool) → z ≡ true → (let xs : List Receipt = if z then x ∷ [] else [] in spares (Some 1) (length xs) ≡ true) → ⊥
one_spared x true e h = let no : false ≡ true = h in absurd (cc)
one_spared x false e h = absurd (cc)

operated : (w : World) (c t : ℕ) (call : Call) (n : ℕ) (b : Block)
    → IsUnanswered w c t (Some 1) call ((n, Logs (Forward t b)) ∷ []) ⊎ (IsTurnedBack w c t (Some 1) call ((n, Logs (Forward t b)) ∷ []) ⊎ IsGivingWay w c t call ((n, Logs (Forward t b)) ∷ [])) → ⊥
operated w c t call n b (inl h) = one_spared (n, Logs (Forward t b)) (t == t) (self t) h.spared
operated w c t call n b (inr (inl h)) = let same : Meets h.why ≡ Logs (Forward t b) = alone (h.at, Meets h.why) n t b h.work h.back h.is in absurd (cc)
operated w c t call n b (inr (inr h)) = let same : Yields h.refusal ≡ Logs (Forward t b) = alone (h.refusal.at, Yields h.refusal) n t b h.work h.back h.is in absurd (cc)

-- an operation that comes first in a call comes before its grant
not_granted : (n t : ℕ) (b : Block) (more xs : List Receipt) (x : Receipt) (ys : List Receipt) → (n, Logs (Forward t b)) ∷ more ≡ xs ++ x ∷ ys → WasGranted xs → ⊥
not_granted n t b more [] x ys e h = h
not_granted n t b more (z ∷ zs) x ys e h = let first : (n, Logs (Forward t b)) ≡ z = cc in subst (λ (y : Receipt). WasGranted (y ∷ zs)) (sym first) h

not_asking : (w : World) (c u : ℕ) (call : Call) (n t : ℕ) (b : Block) (more xs : List Receipt) (m : ℕ) (f : Refusal) (ys : List Receipt)
    → (n, Logs (Forward t b)) ∷ more ≡ xs ++ (m, Yields f) ∷ ys → AreAsking w c u call xs → ⊥
not_asking w c u call n t b more [] m f ys e h =
    let first : (n, Logs (Forward t b)) ≡ (m, Yields f) = cc in
    let other : Logs (Forward t b) ≡ Yields f = ap (λ (z : Receipt). z.1) first in absurd (cc)
not_asking w c u call n t b more (z ∷ zs) m f ys e h = let first : (n, Logs (Forward t b)) ≡ z = cc in subst (IsAsking w c u call) (sym first) h.0

cut_first : (w : World) (c t : ℕ) (d : Option ℕ) (call : Call) (n : ℕ) (b : Block) (more : List Receipt)
    → IsUnanswered w c t d call ((n, Logs (Forward t b)) ∷ more) ⊎ (IsTurnedBack w c t d call ((n, Logs (Forward t b)) ∷ more) ⊎ IsGivingWay w c t call ((n, Logs (Forward t b)) ∷ more)) → ⊥
cut_first w c t d call n b more (inl h) = h.asks
cut_first w c t d call n b more (inr (inl h)) = not_granted n t b more h.work (h.at, Meets h.why) h.back h.is h.granted
cut_first w c t d call n b more (inr (inr h)) = not_asking w c t call n t b more h.work h.refusal.at h.refusal h.back h.is h.asking

-- a look is behind each such place, and finds no damage
never_looked : (w : World) (c i r k d : ℕ) (x : Deed) (g : RegionState) → HasLooked w c i r g → WasLastAt w k i c r x d → IsDamagedFrom w k i r g → ⊥
never_looked w c i r k d x g look last damaged = ⊎_elim behind before (cases_lt k look.place)
  where
    behind : k < look.place → ⊥
    behind later = damaged look.place later look.before look.right

    before : look.place ≤ k → ⊥
    before from =
        let held = look.held k d x from last.before last.there in
        ⊎_elim (λ own. let no : true ≡ false = sym own ∙ held.0 in absurd (cc)) (λ on. let no : true ≡ false = sym on ∙ held.1 in absurd (cc)) last.wants

shared_conflict : (m n : Mode) (o : Option Mode) → m ≡ Shared → o ≡ Some Shared → o ≡ Some n → both_shared m n ≡ false → ⊥
shared_conflict Shared Shared o e f g clash = absurd (cc)
shared_conflict Shared Exclusive o e f g clash = absurd (cc)
shared_conflict Exclusive n o e f g clash = absurd (cc)

lacks : (o : Option Mode) (m : Mode) → o ≡ None → IsNoWeaker o (Some m) → ⊥
lacks None m e h = absurd (cc)
lacks (Some n) m e h = absurd (cc)

pub wrong_ones : WrongOnes
wrong_ones = record {
  another_number = λ w c acts said says transcript. let e = agree w c acts said _ _ says transcript in absurd (cc);
  untold = λ w c acts said says transcript. let e = agree w c acts said _ _ says transcript in absurd (cc);
  told_twice = λ w c acts said says transcript. let e = agree w c acts said _ _ says transcript in absurd (cc);
  another_answer = λ call w c acts said says transcript. let e = agree w c acts said _ _ says transcript in absurd (cc);
  not_flushed = λ t n w c acts said says transcript.
      let told = tells w c acts said _ CommitOk transcript says.1 in
      let same : n ≡ told.1 = ap (λ (x : Receipt). x.0) (only w c acts _ _ told.2) in
      omega (arith, says.0, told.3, same);
  busy_by_itself = λ h did w c acts said says transcript.
      let told = tells w c acts said did (Busy h) transcript says.1 in
      let done = told.3.done in says.0 done.place c told.2 done.there;
  busy_of_a_dead_one = λ h did w c acts said says transcript.
      let told = tells w c acts said did (Busy h) transcript says.1 in
      let dead : is_dead_in (state_at w told.3.done.place told.2.holder) ≡ true = subst (λ t. is_dead_in (state_at w told.3.done.place t) ≡ true) (sym told.4) (says.0 told.3.done.place) in
      let clash : true ≡ false = sym dead ∙ told.3.runs in absurd (cc);
  stopped_by_itself = λ act cause did w c acts said says transcript.
      let told = stop_told w c did act cause (tells w c acts said did _ transcript says.1) in
      let e = sym (says.0 told.0) ∙ told.1 in absurd (cc);
  open_by_itself = λ did w c acts said says transcript.
      let told = tells w c acts said did LeftOpen transcript says.1 in open_stops w c told.2 told.0 told.1 told.3 says.0 told.4;
  not_ended = λ t n w c acts said says transcript.
      let told = tells w c acts said _ Aborted transcript says in
      let same : Logs (Begin t) ≡ Logs (Ended told.0) = ap (λ (x : Receipt). x.1) (only w c acts _ _ told.2) in absurd (cc);
  end_never_had = λ act end limit did w c acts said says transcript.
      let told = full_told w c did act end limit (tells w c acts said did _ transcript says.1) in omega (arith, says.0, told);
  stopped_too_early = λ act r did w c acts said says transcript.
      let told = damage_stops w c did act r (tells w c acts said did _ transcript says.1) in
      let e = sym told.1 ∙ says.0 told.0 in absurd (cc);
  under_way_by_itself = λ did w c acts said says transcript.
      let told = tells w c acts said did (Refused CheckpointAct UnderWay) transcript says.1 in
      let e = sym (says.0 told.2.met.place) ∙ told.2.cause.started in absurd (cc);
  unchecked = λ call r codeword found did w c acts said says transcript.
      let told = damaged_told w c did call r codeword found (tells w c acts said did _ transcript says.1) in
      let e = sym says.0 ∙ told.2.compares in absurd (cc);
  unpoked = λ call r codeword found did w c acts said says transcript.
      let told = damaged_told w c did call r codeword found (tells w c acts said did _ transcript says.1) in
      let same : codeword ≡ found = xor_same codeword found (told.2.stray ∙ says.0 told.0 told.2.old told.2.was) in
      let no : (found == found) ≡ false = ap (λ n. n == found) (sym same) ∙ told.2.differ in
      let clash : true ≡ false = sym (self found) ∙ no in absurd (cc);
  not_moved = λ k b n m w c acts said says transcript.
      let told = tells w c acts said _ (CheckpointSaid k) transcript says in
      ⊎_elim (λ e. absurd (cc)) (λ e. absurd (cc)) (two_of _ _ told.2 k told.5);
  never_met = λ act end limit did w c acts said says transcript.
      let told = full_met w c did act end limit (tells w c acts said did _ transcript says.1) in
      no_place w c told.1 (Full end limit) says.0 told.2.met;
  refused_and_kept = λ call t n m end limit w c x e is h. kept w c x call t n m end limit e is h;
  refused_and_more = λ w c t tries n m end limit call cs rest h. more_back t (pending (put 97 0) (UndoCell 1)) (h.3 refl (pending (put 97 0) (UndoCell 1) ∷ []));
  refused_and_on = λ w c t tries m n k end limit b call cs rest h. h.4.0;
  said_after_death = λ first later line did w c acts said says transcript.
      died_behind first line later (ap behind_died (sym says) ∙ nothing_after_died w c acts said did transcript);
  dropped = λ w b told. absurd told;
  left_under_way = λ precheck whole before old new blocks lines receipts round under. let e = sym under ∙ round.rests.flag in absurd (cc);
  left_held = λ r g precheck whole before old new blocks lines receipts round h. round.rests.holds r g h.0 h.1;
  left_claimed = λ t precheck whole before old new blocks lines receipts round claimed. let e = sym claimed ∙ round.rests.free t in absurd (cc);
  left_running = λ precheck whole before old new blocks lines receipts round h.
      let stop = round.rests.stopped h.0 in
      let e = sym h.1 ∙ stop.1 in absurd (cc);
  live_claimed = λ i c t precheck whole before old new blocks lines receipts round h. let e = sym (right_at round.world i c (Claims t) round.right h.0) ∙ h.1 in absurd (cc);
  given_back_by_another = λ i c t latched precheck whole before old new blocks lines receipts round h. h.1 (right_at round.world i c (GivesBack t latched) round.right h.0).3;
  refused_behind_a_stop = λ i c f precheck whole before old new blocks lines receipts round h. h.1 (right_at round.world i c (Yields f) round.right h.0).2;
  gave_way_to_none = λ i c f precheck whole before old new blocks lines receipts round h.
      let e = sym h.1 ∙ (right_at round.world i c (Yields f) round.right h.0).3.holds in absurd (cc);
  gave_way_to_a_share = λ i c f precheck whole before old new blocks lines receipts round h.
      let hindered = (right_at round.world i c (Yields f) round.right h.0).3 in shared_conflict f.mode hindered.mode (lock_at round.world i f.holder f.key) h.1 h.2 hindered.holds hindered.clash;
  gave_way_to_its_own = λ i c f precheck whole before old new blocks lines receipts round h.
      ⊎_elim (λ dead. let e = sym dead ∙ h.1 in absurd (cc)) (λ got. let e = sym got.2 ∙ h.2 got.0 got.1 got.3 in absurd (cc)) (right_at round.world i c (Yields f) round.right h.0).3.by_another;
  gave_way_to_its_claim = λ i c f precheck whole before old new blocks lines receipts round h.
      let e = sym ((right_at round.world i c (Yields f) round.right h.0).3.unclaimed h.1) ∙ h.2 in absurd (cc);
  granted_to_none_live = λ i c t k m precheck whole before old new blocks lines receipts round h. h.1 (right_at round.world i c (GetsLock t k m) round.right h.0).0;
  granted_in_the_way = λ i c t k u m n precheck whole before old new blocks lines receipts round h.
      let e = sym ((right_at round.world i c (GetsLock t k m) round.right h.0).2 u n h.1 h.2) ∙ h.3 in absurd (cc);
  granted_behind_a_stop = λ i c t k m precheck whole before old new blocks lines receipts round h. h.1 (right_at round.world i c (GetsLock t k m) round.right h.0).1;
  granted_and_gave_way = λ w c t tries n k m d call f back end cs rest h. h.0.0;
  answered_ungranted = λ w c t tries n d call a cs rest h. h.3;
  operated_ungranted = λ w c t tries n m d s b work back call why cs rest h. h.5.0;
  operated_and_cut = λ w c t tries n d s b work call cs rest h. cut_first w c t d call n b work h;
  refused_ungranted = λ w c t tries m d s back call why cs rest no h. h.5.1 no;
  had_by_nobody = λ t k m precheck whole before old new blocks lines receipts round h.
      let held : lock_of round.world.core.system t k ≡ None = ap (λ (j : CoreState). lock_of j.system t k) round.core_is ∙ h.1 in
      lacks (lock_of round.world.core.system t k) m held (subst (IsNoWeaker (lock_of round.world.core.system t k)) h.0 (round.together.locks t k));
  begun_behind_a_stop = λ i c t precheck whole before old new blocks lines receipts round h. h.1 (right_at round.world i c (Logs (Begin t)) round.right h.0);
  answered_behind_a_stop = λ i c t call a precheck whole before old new blocks lines receipts round h. h.1 (right_at round.world i c (Logs (Done t call a)) round.right h.0);
  operated_behind_a_stop = λ i c t b precheck whole before old new blocks lines receipts round h. h.1 (right_at round.world i c (Logs (Forward t b)) round.right h.0);
  committed_behind_a_stop = λ i c t precheck whole before old new blocks lines receipts round h. h.1 (right_at round.world i c (Logs (Commit t)) round.right h.0);
  operated_on_damage = λ i c t k d b x g precheck whole before old new blocks lines receipts round h. never_looked round.world c i b.region k d x g ((round.together.prechecks h.0).operations i t c b g h.1 h.2) h.3 h.4;
  died_on_damage = λ i c t r k d x g precheck whole before old new blocks lines receipts round h. never_looked round.world c i r k d x g ((round.together.prechecks h.0).deaths i t r c g h.1 h.2) h.3 h.4;
  begun_twice = λ w c a b s rest h. h;
  committed_and_cut = λ w c t tries n d s cs rest h. absurd (cc);
  operated_and_died = λ w c t tries n b s cs rest call h. operated w c t call n b h;
  poked_by_nobody = λ r g h precheck whole before old new blocks lines receipts round wrong.
      let now : slice_get round.world.core.regions r ≡ Some h = ap (λ (k : CoreState). slice_get k.regions r) round.core_is ∙ wrong.2 in
      wrong.3 ((round.together.pokes r g h wrong.1 now).0 ∙ ap (λ (xs : List Happening). stray_after r g.stray xs) wrong.0);
  failed_by_nobody = λ precheck whole before old new blocks lines receipts round wrong.
      wrong.1 (sym (ap (λ (k : CoreState). k.vault.faults) round.core_is) ∙ round.together.faults.none (ap (λ (xs : List Happening). has_failed false xs) wrong.0));
  refused_by_nobody = λ precheck whole before old new blocks lines receipts round wrong.
      wrong.1 (sym (ap (λ (k : CoreState). k.system.refusals) round.core_is) ∙ (round.together.refusals ∙ (ap (λ (xs : List Happening). round.world.old.system.refusals ++ refused_by xs) wrong.0 ∙ append-nil round.world.old.system.refusals)));
  begun_by_nobody = λ t precheck whole before old new blocks lines receipts round wrong.
      wrong.1 (sym (ap (λ (k : CoreState). state_of k.system t) round.core_is) ∙ (round.together.states t ∙ ap (λ (xs : List Happening). state_after round.world xs t) wrong.0));
  moved_by_nobody = λ precheck whole before old new blocks lines receipts round wrong.
      let anchors : AreAnchors round.world.old.vault.current [] round.world.core.vault.current =
      subst (λ (xs : List Happening). AreAnchors round.world.old.vault.current xs round.world.core.vault.current) wrong.0 round.together.anchors in
      wrong.1 (sym (ap (λ (k : CoreState). k.vault.current) round.core_is) ∙ anchors);
  clean_one_named = λ i b c r found g precheck whole before old new blocks lines receipts round wrong.
      named round.world i b c r found g round.together.verdicts wrong.0 wrong.1 (λ j. wrong.2 j g wrong.1) wrong.3;
  of_nobody = λ are. let e = are.owners in absurd (cc);
}
