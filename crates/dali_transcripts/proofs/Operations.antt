-- A step that logs an operation tells of it.
use Rattle.std.proofs.Common.{◌≡◌, ℕ, Bool, true, false, List, [], ◌∷◌, ◌++◌, Option, Some, None, refl}
use Rattle.std.specs.Prelude.{not, ◌&&◌}
use Rattle.std.specs.List.{list_all}
use Rattle.std.proofs.lemmas.Bool.{and_from}
use Rattle.dali_record.specs.declared.records.Call.{Call}
use Rattle.dali_record.specs.declared.records.Record.TheVariants.{Ended, AuditBegin, AuditClean, AuditFail, Forward}
use Rattle.dali_runs.specs.declared.refusals.Refusal.{Refusal}
use Rattle.dali_transcripts.specs.Words.{Why, StoppedBy, Full, Damaged, StoreFailed, UnderWay}
use Rattle.dali_transcripts.specs.World.{Logs, Yields, EndsCheckpoint, Meets, World}
use Rattle.dali_transcripts.specs.Moves.{Receipt, Ending, TakenBack, LeftBehind, IsRefusedCall, Answers, Dies, GivesWay, GivesUp, Commits, CommitFails, Aborts, IsRefusedAbort, Ends, StaysOpen, Audits, IsRefusedAudit, FailsCheckpoint, IsRefusedCheckpoint, end_own, spanned, refused_own, audit_own, failure_own}
use Rattle.dali_transcripts.specs.Causes.{IsAside, AreAside, IsAsking, AreAsking, IsBehind, AreBehind, IsCutAudit, IsCutBy}
use Rattle.dali_transcripts.specs.Laws.{is_forward, OperationsAreTold}

abbrev none : List Receipt → Bool
none xs = list_all (λ (y : Receipt). not (is_forward y)) xs

pub split : (a b c : Bool) → (a && b) ≡ true → (b ≡ true → c ≡ true) → (a && c) ≡ true
split true b c e f = f e
split false b c e f = absurd (cc)

none_append : (xs ys : List Receipt) → none xs ≡ true → none ys ≡ true → none (xs ++ ys) ≡ true
none_append [] ys e f = f
none_append (x ∷ xs) ys e f = split (not (is_forward x)) (none xs) (none (xs ++ ys)) e (λ g. none_append xs ys g f)

aside_none : (w : World) (c t : ℕ) (x : Receipt) → IsAside w c t x → not (is_forward x) ≡ true
aside_none w c t (n, Logs (Forward u b)) h = absurd h
aside_none w c t _ h = refl

asking_none : (w : World) (c t : ℕ) (call : Call) (x : Receipt) → IsAsking w c t call x → not (is_forward x) ≡ true
asking_none w c t call (n, Logs (Forward u b)) h = absurd h
asking_none w c t call _ h = refl

behind_none : (w : World) (c t : ℕ) (x : Receipt) → IsBehind w c t x → not (is_forward x) ≡ true
behind_none w c t (n, Logs (Forward u b)) h = absurd h
behind_none w c t _ h = refl

asides_none : (w : World) (c t : ℕ) (xs : List Receipt) → AreAside w c t xs → none xs ≡ true
asides_none w c t [] h = refl
asides_none w c t (x ∷ xs) h = and_from (not (is_forward x)) (none xs) (aside_none w c t x h.0) (asides_none w c t xs h.1)

askings_none : (w : World) (c t : ℕ) (call : Call) (xs : List Receipt) → AreAsking w c t call xs → none xs ≡ true
askings_none w c t call [] h = refl
askings_none w c t call (x ∷ xs) h = and_from (not (is_forward x)) (none xs) (asking_none w c t call x h.0) (askings_none w c t call xs h.1)

behinds_none : (w : World) (c t : ℕ) (xs : List Receipt) → AreBehind w c t xs → none xs ≡ true
behinds_none w c t [] h = refl
behinds_none w c t (x ∷ xs) h = and_from (not (is_forward x)) (none xs) (behind_none w c t x h.0) (behinds_none w c t xs h.1)

cut_none : (w : World) (later : Bool) (xs : List Receipt) → IsCutAudit w later xs → none xs ≡ true
cut_none w later [] h = refl
cut_none w later ((b, Logs AuditBegin) ∷ []) h = refl
cut_none w later ((b, Logs AuditBegin) ∷ (n, Logs (AuditClean a)) ∷ []) h = refl
cut_none w later ((b, Logs AuditBegin) ∷ (n, Logs (AuditFail a rs)) ∷ []) h = refl
cut_none w later xs h = absurd h

nil_none : (xs : List Receipt) → xs ≡ [] → none xs ≡ true
nil_none xs e = rw e refl

cut_by_none : (w : World) (later : Bool) (why : Why) (xs : List Receipt) → IsCutBy w later why xs → none xs ≡ true
cut_by_none w later (StoppedBy z) xs h = cut_none w later xs h
cut_by_none w true StoreFailed xs h = cut_none w true xs h
cut_by_none w false StoreFailed xs h = cut_none w false xs h.0
cut_by_none w later (Full end limit) xs h = nil_none xs h
cut_by_none w later (Damaged r codeword found) xs h = nil_none xs h
cut_by_none w later UnderWay xs h = nil_none xs h

span_none : (span : Option (ℕ × ℕ)) (xs : List Receipt) → none xs ≡ true → none (spanned span xs) ≡ true
span_none None xs e = e
span_none (Some (since, until)) xs e = none_append xs ((until, EndsCheckpoint) ∷ []) e refl

late_none : (late : Bool) (span : Option (ℕ × ℕ)) (xs : List Receipt) (n : ℕ) (why : Why) → none xs ≡ true → none (refused_own late span xs (n, Meets why)) ≡ true
late_none false span xs n why e = span_none span (xs ++ (n, Meets why) ∷ []) (none_append xs ((n, Meets why) ∷ []) e refl)
late_none true span xs n why e = none_append (spanned span xs) ((n, Meets why) ∷ []) (span_none span xs e) refl

end_none : (t : ℕ) (end : Ending) → none (end_own t end) ≡ true
end_none t (TakenBack n) = refl
end_none t (LeftBehind n z) = refl

-- what a try that got Busy did
busy_none : (w : World) (c t : ℕ) (call : Call) (xs ys : List Receipt) (f : Refusal) (end : Ending) → AreAsking w c t call xs → AreAside w c t ys → none (xs ++ (f.at, Yields f) ∷ ys ++ end_own t end) ≡ true
busy_none w c t call xs ys f end work back = none_append (xs ++ (f.at, Yields f) ∷ ys) (end_own t end) (none_append xs ((f.at, Yields f) ∷ ys) (askings_none w c t call xs work) (asides_none w c t ys back)) (end_none t end)

-- what an audit did
audit_none : (b n : ℕ) (found : List ℕ) (failed : Option ℕ) → none (audit_own b n found ++ failure_own failed) ≡ true
audit_none b n [] None = refl
audit_none b n [] (Some m) = refl
audit_none b n (r ∷ rs) None = refl
audit_none b n (r ∷ rs) (Some m) = refl

pub operations_are_told : OperationsAreTold
operations_are_told w c (Answers t tries cs d xs n call a rest) h e = absurd (cc)
operations_are_told w c (IsRefusedCall t tries cs d s xs n ys call why rest) h e = absurd (cc)
operations_are_told w c (Dies t tries cs d xs n r call rest) h e = absurd (cc)
operations_are_told w c (GivesWay t tries cs d xs call f ys end rest) h e = busy_none w c t call xs ys f end h.0 h.2
operations_are_told w c (GivesUp t tries cs d xs call f ys end rest) h e = busy_none w c t call xs ys f end h.0 h.2
operations_are_told w c (Commits t tries cs d n xs rest) h e = behinds_none w c t xs h.1
operations_are_told w c (CommitFails t tries cs d n m why rest) h e = refl
operations_are_told w c (Aborts t tries cs d xs n rest) h e = none_append xs ((n, Logs (Ended t)) ∷ []) (asides_none w c t xs h.0) refl
operations_are_told w c (IsRefusedAbort t tries cs d s xs n why rest) h e = none_append xs ((n, Meets why) ∷ []) (asides_none w c t xs h.0) refl
operations_are_told w c (Ends t tries cs d xs n) h e = none_append xs ((n, Logs (Ended t)) ∷ []) (asides_none w c t xs h.0) refl
operations_are_told w c (StaysOpen t tries cs d s xs n z) h e = none_append xs ((n, Meets (StoppedBy z)) ∷ []) (asides_none w c t xs h.0) refl
operations_are_told w c (Audits b n found failed rest) h e = audit_none b n found failed
operations_are_told w c (FailsCheckpoint since b n until r rs None rest) h e = refl
operations_are_told w c (FailsCheckpoint since b n until r rs (Some m) rest) h e = refl
operations_are_told w c (IsRefusedAudit s xs n why rest) h e = none_append xs ((n, Meets why) ∷ []) (cut_by_none w false why xs h.0) refl
operations_are_told w c (IsRefusedCheckpoint s span late xs n why rest) h e = late_none late span xs n why (cut_by_none w true why xs h.0)
operations_are_told w c x h e = refl
