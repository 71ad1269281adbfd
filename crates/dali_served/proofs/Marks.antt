-- The records by which a client's transactions are told: its answers and commits.
--     is_mark x            such a record
--     is_alarm x           the record of an audit that failed
--     Dones t calls xs     t answered these calls, each with room
--     Marks f css xs       transactions were begun one after another, each with its calls, and each commit is flushed
use Rattle.std.proofs.Common.{◌≡◌, ℕ, ◌<◌, Bool, true, false, List, [], ◌∷◌, ◌++◌, cond, None, map, refl, sym, ◌∙◌, ap, subst}
use Rattle.std.specs.Prelude.{filter}
use Rattle.std.specs.List.{list_all, AllByRecursion}
use Rattle.std.proofs.lemmas.List.Concat.{flat_map-cons}
use Rattle.std.proofs.lemmas.List.Elements.{filter-append}
use Rattle.std.proofs.lemmas.Bool.{and_parts}
use Rattle.dali_record.specs.declared.records.Call.{Call}
use Rattle.dali_record.specs.declared.records.Answer.{Answer}
use Rattle.dali_record.specs.declared.records.Record.TheVariants.{Forward, Done, Commit, Ended, Solo, AuditFail, Back}
use Rattle.dali_runs.specs.State.{stable}
use Rattle.dali_transcripts.specs.Words.{Act, Begins as BeginAct, Calls, Commits as CommitAct, Said, StoreFailed}
use Rattle.dali_transcripts.specs.World.{Logs, Claims, GivesBack, GetsLock, FindsDead, Meets, World}
use Rattle.dali_transcripts.specs.Moves.{Receipt, Place, Outside, Within, Move, Spot, at, said, own}
use Rattle.dali_transcripts.specs.Causes.{IsWork, AreWork, IsBehind, AreBehind}
use Rattle.dali_transcripts.specs.Transcripts.{IsPath, said_by, own_by}
use Rattle.dali_served.specs.Served.{has_room, is_served, acts_of}
use Rattle.dali_served.proofs.Walked.{Serves, begins, answers, commits, ends}

abbrev pub is_mark : Receipt → Bool
is_mark (n, Logs (Done t c a)) = true
is_mark (n, Logs (Commit t)) = true
is_mark x = false

abbrev pub is_alarm : Receipt → Bool
is_alarm (n, Logs (AuditFail b rs)) = true
is_alarm x = false

abbrev pub marks : List Receipt → List Receipt
marks xs = filter is_mark xs

abbrev pub NoAlarm : List Receipt → Type 0
NoAlarm xs = AllByRecursion (λ x. is_alarm x ≡ false) xs

abbrev pub Dones : ℕ → List Call → List Receipt → Type 0
Dones t [] xs = xs ≡ []
Dones t (c ∷ cs) xs = (n : ℕ) × (a : Answer) × (later : List Receipt) × (has_room a ≡ true) × Dones t cs later × (xs ≡ (n, Logs (Done t c a)) ∷ later)

abbrev pub Marks : ℕ → List (List Call) → List Receipt → Type 0
Marks f [] xs = xs ≡ []
Marks f (cs ∷ css) xs = (t n : ℕ) × (dones later : List Receipt) × Dones t cs dones × (n < f) × Marks f css later × (xs ≡ dones ++ (n, Logs (Commit t)) ∷ later)

-- ---- what stands between them
abbrev IsBetween : Receipt → Type 0
IsBetween x = (is_mark x ≡ false) × (is_alarm x ≡ false)

no_mark : (xs : List Receipt) → AllByRecursion IsBetween xs → marks xs ≡ []
no_mark [] all = refl
no_mark (x ∷ xs) all = ap (λ b. cond b (x ∷ marks xs) (marks xs)) all.0.0 ∙ no_mark xs all.1

no_alarm : (xs : List Receipt) → AllByRecursion IsBetween xs → NoAlarm xs
no_alarm [] all = tt
no_alarm (x ∷ xs) all = (all.0.1, no_alarm xs all.1)

one_work : (w : World) (c t : ℕ) (call : Call) (x : Receipt) → IsWork w c t call x → IsBetween x
one_work w c t call (n, Logs (Forward u b)) h = (refl, refl)
one_work w c t call (n, Logs (Back u b)) h = (refl, refl)
one_work w c t call (n, Logs (Ended u)) h = (refl, refl)
one_work w c t call (n, Logs x) h = absurd h
one_work w c t call (n, Claims u) h = (refl, refl)
one_work w c t call (n, GivesBack u o) h = (refl, refl)
one_work w c t call (n, GetsLock u k m) h = (refl, refl)
one_work w c t call (n, FindsDead f) h = (refl, refl)
one_work w c t call (n, x) h = absurd h

work : (w : World) (c t : ℕ) (call : Call) (xs : List Receipt) → AreWork w c t call xs → AllByRecursion IsBetween xs
work w c t call [] h = tt
work w c t call (x ∷ xs) h = (one_work w c t call x h.0, work w c t call xs h.1)

one_behind : (w : World) (c t : ℕ) (x : Receipt) → IsBehind w c t x → IsBetween x
one_behind w c t (n, Meets StoreFailed) h = (refl, refl)
one_behind w c t (n, Meets why) h = absurd h
one_behind w c t (n, Logs (Solo u p b)) h = (refl, refl)
one_behind w c t (n, Logs (Back u b)) h = (refl, refl)
one_behind w c t (n, Logs (Ended u)) h = (refl, refl)
one_behind w c t (n, Logs x) h = absurd h
one_behind w c t (n, Claims u) h = (refl, refl)
one_behind w c t (n, GivesBack u o) h = (refl, refl)
one_behind w c t (n, x) h = absurd h

behind : (w : World) (c t : ℕ) (xs : List Receipt) → AreBehind w c t xs → AllByRecursion IsBetween xs
behind w c t [] h = tt
behind w c t (x ∷ xs) h = (one_behind w c t x h.0, behind w c t xs h.1)

-- ---- along a path

all_split : (xs ys : List Said) → list_all is_served (xs ++ ys) ≡ true → (list_all is_served xs ≡ true) × (list_all is_served ys ≡ true)
all_split [] ys e = (refl, e)
all_split (x ∷ xs) ys e =
    let one = and_parts (is_served x) (list_all is_served (xs ++ ys)) e in
    let rest = all_split xs ys one.1 in
    (rw (one.0) rest.0, rest.1)

alarm_append : (xs ys : List Receipt) → NoAlarm xs → NoAlarm ys → NoAlarm (xs ++ ys)
alarm_append [] ys h g = g
alarm_append (x ∷ xs) ys h g = (h.0, alarm_append xs ys h.1 g)

-- one step, and those behind it
record Split (x : Move) (xs : List Move) : Type 0 where
  serves : Serves x
  later : list_all is_served (said_by xs) ≡ true
  marked : marks (own_by (x ∷ xs)) ≡ marks (own x) ++ marks (own_by xs)
  alarms : NoAlarm (own x) → NoAlarm (own_by xs) → NoAlarm (own_by (x ∷ xs))

split : (x : Move) (xs : List Move) → list_all is_served (said_by (x ∷ xs)) ≡ true → Split x xs
split x xs e =
    let two = all_split (said x) (said_by xs) (subst (λ l. list_all is_served l ≡ true) (flat_map-cons said x xs) e) in
    let cons : own_by (x ∷ xs) ≡ own x ++ own_by xs = flat_map-cons own x xs in
    record {
      serves = two.0;
      later = two.1;
      marked = ap marks cons ∙ filter-append is_mark (own x) (own_by xs);
      alarms = λ h g. subst NoAlarm (sym cons) (alarm_append (own x) (own_by xs) h g);
    }

module _ (w : World) (c : ℕ) where
  -- ---- the calls of a transaction, up to its commit
  record Answered (t : ℕ) (ks : List Act) (calls : List Call) (rest : List Act) (xs : List Move) (place : Place) : Type 0 where
    dones : List Receipt
    later : List Move
    are : Dones t calls dones
    path : IsPath w c (at (Within t 0 ks None false) (CommitAct ∷ rest)) later (at place [])
    served : list_all is_served (said_by later) ≡ true
    marked : marks (own_by xs) ≡ dones ++ marks (own_by later)
    alarms : NoAlarm (own_by later) → NoAlarm (own_by xs)

  calls_answered : (t : ℕ) (ks : List Act) (calls : List Call) (rest : List Act) (xs : List Move) (place : Place)
      → IsPath w c (at (Within t 0 ks None false) (map Calls calls ++ CommitAct ∷ rest)) xs (at place []) → list_all is_served (said_by xs) ≡ true → Answered t ks calls rest xs place
  calls_answered t ks [] rest xs place path served = record { dones = []; later = xs; are = refl; path = path; served = served; marked = refl; alarms = λ h. h }
  calls_answered t ks (k ∷ calls) rest [] place path served = let never : Calls k ∷ (map Calls calls ++ CommitAct ∷ rest) ≡ [] = ap (λ (q : Spot). q.rest) path in absurd cc
  calls_answered t ks (k ∷ calls) rest (x ∷ xs) place path served =
      let s = split x xs served in
      let one = answers w c t ks k (map Calls calls ++ CommitAct ∷ rest) x path.1 (ap (λ (q : Spot). q.place) path.0) (ap (λ (q : Spot). q.rest) path.0) s.serves in
      let more = calls_answered t ks calls rest xs place (subst (λ p. IsPath w c p xs (at place [])) one.to_is path.2) s.later in
      let between = work w c t k one.work one.are_work in
      let done : Receipt = (one.number, Logs (Done t k one.answer)) in
      let here : marks (own x) ≡ done ∷ [] = ap marks one.own_is ∙ (filter-append is_mark one.work (done ∷ []) ∙ ap (λ l. l ++ done ∷ []) (no_mark one.work between)) in
      record {
        dones = done ∷ more.dones;
        later = more.later;
        are = (one.number, one.answer, more.dones, one.is_so, more.are, refl);
        path = more.path;
        served = more.served;
        marked = s.marked ∙ (ap (λ l. l ++ marks (own_by xs)) here ∙ ap (λ l. done ∷ l) more.marked);
        alarms = λ h. s.alarms (subst NoAlarm (sym one.own_is) (alarm_append one.work (done ∷ []) (no_alarm one.work between) (refl, tt))) (more.alarms h);
      }

  -- ---- its commit
  record Closed (t : ℕ) (rest : List Act) (xs : List Move) (place : Place) : Type 0 where
    number : ℕ
    later : List Move
    flushed : number < stable w.core
    path : IsPath w c (at (Outside false) rest) later (at place [])
    served : list_all is_served (said_by later) ≡ true
    marked : marks (own_by xs) ≡ (number, Logs (Commit t)) ∷ marks (own_by later)
    alarms : NoAlarm (own_by later) → NoAlarm (own_by xs)

  committed : (t : ℕ) (ks rest : List Act) (xs : List Move) (place : Place)
      → IsPath w c (at (Within t 0 ks None false) (CommitAct ∷ rest)) xs (at place []) → list_all is_served (said_by xs) ≡ true → Closed t rest xs place
  committed t ks rest [] place path served = let never : CommitAct ∷ rest ≡ [] = ap (λ (q : Spot). q.rest) path in absurd cc
  committed t ks rest (x ∷ xs) place path served =
      let s = split x xs served in
      let one = commits w c t ks rest x path.1 (ap (λ (q : Spot). q.place) path.0) (ap (λ (q : Spot). q.rest) path.0) s.serves in
      let between = behind w c t one.behind one.are_behind in
      record {
        number = one.number;
        later = xs;
        flushed = one.flushed;
        path = subst (λ p. IsPath w c p xs (at place [])) one.to_is path.2;
        served = s.later;
        marked = s.marked ∙ ap (λ l. l ++ marks (own_by xs)) (ap marks one.own_is ∙ ap (λ l. (one.number, Logs (Commit t)) ∷ l) (no_mark one.behind between));
        alarms = λ h. s.alarms (subst NoAlarm (sym one.own_is) (refl, no_alarm one.behind between)) h;
      }

  -- ---- all of them
  pub record Marked (css : List (List Call)) (xs : List Move) : Type 0 where
    pub are : Marks (stable w.core) css (marks (own_by xs))
    pub alarms : NoAlarm (own_by xs)

  pub all_marked : (css : List (List Call)) (xs : List Move) (place : Place)
      → IsPath w c (at (Outside false) (acts_of css)) xs (at place []) → list_all is_served (said_by xs) ≡ true → Marked css xs
  all_marked [] [] place path served = record { are = refl; alarms = tt }
  all_marked [] (x ∷ xs) place path served = absurd (ends w c x (ap (λ (q : Spot). q.place) path.0) (ap (λ (q : Spot). q.rest) path.0))
  all_marked (cs ∷ css) [] place path served = let never : BeginAct ∷ (map Calls cs ++ CommitAct ∷ acts_of css) ≡ [] = ap (λ (q : Spot). q.rest) path in absurd cc
  all_marked (cs ∷ css) (x ∷ xs) place path served =
      let s = split x xs served in
      let one = begins w c (map Calls cs ++ CommitAct ∷ acts_of css) x path.1 (ap (λ (q : Spot). q.place) path.0) (ap (λ (q : Spot). q.rest) path.0) s.serves in
      let ks = BeginAct ∷ (map Calls cs ++ CommitAct ∷ acts_of css) in
      let calls = calls_answered one.txn ks cs (acts_of css) xs place (subst (λ p. IsPath w c p xs (at place [])) one.to_is path.2) s.later in
      let end = committed one.txn ks (acts_of css) calls.later place calls.path calls.served in
      let more = all_marked css end.later place end.path end.served in
      record {
        are = (
          one.txn,
          end.number,
          calls.dones,
          marks (own_by end.later),
          calls.are,
          end.flushed,
          more.are,
          s.marked ∙ (ap (λ l. marks l ++ marks (own_by xs)) one.own_is ∙ (calls.marked ∙ ap (λ l. calls.dones ++ l) end.marked)),
        );
        alarms = s.alarms (subst NoAlarm (sym one.own_is) (refl, tt)) (calls.alarms (end.alarms more.alarms));
      }
