-- Behind a line that says that the engine is stopped, no line matches a record.
use Rattle.std.proofs.Common.{◌≡◌, ℕ, Bool, true, false, List, [], ◌∷◌, ◌++◌, Option, Some, None, refl, ap, sym, subst, ◌∙◌}
use Rattle.std.specs.Prelude.{not, if◌then◌else◌}
use Rattle.std.specs.List.{list_all}
use Rattle.std.proofs.lemmas.List.Concat.{flat_map-cons}
use Rattle.std.proofs.lemmas.Bool.{or_left, or_right}
use Rattle.dali_transcripts.specs.Words.{Act, Begins as BeginAct, Calls, Commits as CommitAct, Aborts as AbortAct, Audits as AuditAct, Checkpoints as CheckpointAct, Why, StoreFailed, Said, Refused, is_stop, closes}
use Rattle.dali_transcripts.specs.World.{World}
use Rattle.dali_transcripts.specs.Moves.{Place, Outside, Within, Again, LeftOut, Gone, Spot, Ending, TakenBack, LeftBehind, Move, IsRefusedBegin, Skips, Rests, IsRefusedCall, IsArmed, GivesWay, GivesUp, CommitFails, IsRefusedCommit, IsRefusedAbort, StaysOpen, Pokes, PokesNothing, IsRefusedAudit, IsRefusedCheckpoint, from, said, to, end_line}
use Rattle.dali_transcripts.specs.Causes.{MayBegin, MetCause, HasCause}
use Rattle.dali_transcripts.specs.Transcripts.{IsPath, said_by}
use Rattle.dali_transcripts.specs.Laws.{has_record, behind_stop, NothingAfterStop}
use Rattle.dali_transcripts.proofs.Operations.{split}

abbrev is_halted : Place → Bool
is_halted (Outside s) = s
is_halted (Within t tries cs d s) = s
is_halted (Again tries h s) = s
is_halted (LeftOut s) = s
is_halted (Gone t) = true

abbrev none_match : List Said → Bool
none_match lines = list_all (λ line. not (has_record line)) lines

Holds : Move → Type 0
Holds x = (none_match (said x) ≡ true) × (is_halted (to x).place ≡ true)

none_append : (xs ys : List Said) → none_match xs ≡ true → none_match ys ≡ true → none_match (xs ++ ys) ≡ true
none_append [] ys e f = f
none_append (x ∷ xs) ys e f = split (not (has_record x)) (none_match xs) (none_match (xs ++ ys)) e (λ g. none_append xs ys g f)

-- a refusal that has a cause matches no record
no_record : (w : World) (c n : ℕ) (act : Act) (o : Option ℕ) (why : Why) → MetCause w c n act o why → none_match (Refused act why ∷ []) ≡ true
no_record w c n CommitAct o StoreFailed h = absurd h.cause
no_record w c n act o why h = refl

begins_halted : (place : Place) (s : Bool) → MayBegin place s → is_halted place ≡ s
begins_halted (Outside u) s h = h
begins_halted (Again tries held u) s h = h
begins_halted place s h = absurd h

skipped_halted : (s b : Bool) → s ≡ true → is_halted (if b then Outside s else LeftOut s) ≡ true
skipped_halted s true e = e
skipped_halted s false e = e

holds : (w : World) (c : ℕ) (x : Move) → HasCause w c x → is_halted (from x).place ≡ true → Holds x
unfolding Holds
holds w c (IsRefusedBegin place s n why rest) h e = (no_record w c n BeginAct None why h.1, or_left s (is_stop why) (sym (begins_halted place s h.0) ∙ e))
holds w c (Skips s act rest) h e = (refl, skipped_halted s (closes act) e)
holds w c (Rests t act rest) h e = (refl, refl)
holds w c (IsRefusedCall t tries cs d s xs n ys call why rest) h e = (no_record w c n (Calls call) (Some t) why h.1.0, or_left s (is_stop why) e)
holds w c (IsArmed t tries cs d s count rest) h e = (refl, e)
holds w c (IsRefusedCommit t tries cs d s n why rest) h e = (no_record w c n CommitAct (Some t) why h, refl)
holds w c (IsRefusedAbort t tries cs d s xs n why rest) h e = (no_record w c n AbortAct (Some t) why h.1, refl)
holds w c (StaysOpen t tries cs d s xs n z) h e = (refl, refl)
holds w c (Pokes s n r word m rest) h e = (refl, e)
holds w c (PokesNothing s r word m rest) h e = (refl, e)
holds w c (IsRefusedAudit s xs n why rest) h e = (no_record w c n AuditAct None why h.1, or_left s (is_stop why) e)
holds w c (IsRefusedCheckpoint s span late xs n why rest) h e = (no_record w c n CheckpointAct None why h.2.0, or_left s (is_stop why) e)
holds w c x h e = absurd (cc)

all_hold : (w : World) (c : ℕ) (p : Spot) (xs : List Move) (q : Spot) → is_halted p.place ≡ true → IsPath w c p xs q → none_match (said_by xs) ≡ true
unfolding Holds
all_hold w c p [] q e path = refl
all_hold w c p (x ∷ xs) q e path =
    let here = holds w c x path.1 (subst (λ (s : Spot). is_halted s.place ≡ true) path.0 e) in
    ap none_match (flat_map-cons said x xs) ∙ none_append (said x) (said_by xs) here.0 (all_hold w c (to x) xs q here.1 path.2)

-- ---- the line that says so
Owes : Move → List Said → Type 0
Owes x lines = (is_halted (to x).place ≡ true → none_match lines ≡ true) → none_match (behind_stop lines) ≡ true → none_match (behind_stop (said x ++ lines)) ≡ true

choose : (b : Bool) (xs ys : List Said) → (b ≡ true → none_match xs ≡ true) → none_match ys ≡ true → none_match (if b then xs else ys) ≡ true
choose true xs ys f e = f refl
choose false xs ys f e = e

ended_on : (end : Ending) (lines : List Said) → behind_stop (end_line end ∷ lines) ≡ behind_stop lines
ended_on (TakenBack n) lines = refl
ended_on (LeftBehind n z) lines = refl

owes : (x : Move) (lines : List Said) → Owes x lines
unfolding Owes
owes (IsRefusedBegin place s n why rest) lines f e = choose (is_stop why) lines (behind_stop lines) (λ z. f (or_right s (is_stop why) z)) e
owes (IsRefusedCall t tries cs d s xs n ys call why rest) lines f e = choose (is_stop why) lines (behind_stop lines) (λ z. f (or_right s (is_stop why) z)) e
owes (CommitFails t tries cs d n m why rest) lines f e = f refl
owes (IsRefusedCommit t tries cs d s n why rest) lines f e = choose (is_stop why) lines (behind_stop lines) (λ z. f refl) e
owes (IsRefusedAbort t tries cs d s xs n why rest) lines f e = choose (is_stop why) lines (behind_stop lines) (λ z. f refl) e
owes (IsRefusedAudit s xs n why rest) lines f e = choose (is_stop why) lines (behind_stop lines) (λ z. f (or_right s (is_stop why) z)) e
owes (IsRefusedCheckpoint s span late xs n why rest) lines f e = choose (is_stop why) lines (behind_stop lines) (λ z. f (or_right s (is_stop why) z)) e
owes (GivesWay t tries cs d xs call refusal ys end rest) lines f e = ap none_match (ended_on end lines) ∙ e
owes (GivesUp t tries cs d xs call refusal ys end rest) lines f e = ap none_match (ended_on end lines) ∙ e
owes x lines f e = e

all_owe : (w : World) (c : ℕ) (p : Spot) (xs : List Move) (q : Spot) → IsPath w c p xs q → none_match (behind_stop (said_by xs)) ≡ true
unfolding Owes
all_owe w c p [] q path = refl
all_owe w c p (x ∷ xs) q path =
    ap (λ l. none_match (behind_stop l)) (flat_map-cons said x xs)
    ∙ owes x (said_by xs) (λ e. all_hold w c (to x) xs q e path.2) (all_owe w c (to x) xs q path.2)

pub nothing_after_stop : NothingAfterStop
nothing_after_stop w c acts lines did transcript = let so = transcript.so_far in ap (λ l. none_match (behind_stop l)) so.lines_are ∙ all_owe w c _ so.moves _ so.path
