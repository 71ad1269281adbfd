-- What a round that served all leaves.
use Rattle.std.proofs.Common.{◌≡◌, ℕ, suc, ◌+◌, ◌-◌, ◌<◌, ◌≤◌, ◌==◌, Bool, true, false, List, [], ◌∷◌, ◌++◌, length, take, Some, refl, sym, ◌∙◌, ap, subst, arith, ⊎_elim}
use Rattle.std.specs.Prelude.{Contains, slice_get, if◌then◌else◌}
use Rattle.std.specs.List.{list_all, AllByRecursion}
use Rattle.std.proofs.lemmas.Bool.{cases_lt, ne_eqb, eqb-true, and_parts}
use Rattle.std.proofs.lemmas.List.{append-nil, append_assoc, length-append, take_all, take-append-le}
use Rattle.std.proofs.lemmas.List.Elements.{All-contains, All-from_recursion, filter_map-append}
use Rattle.dali_record.specs.declared.records.Call.{Call}
use Rattle.dali_record.specs.declared.records.Record.{Record}
use Rattle.dali_record.specs.declared.records.Record.TheVariants.{Format, AuditFail}
use Rattle.dali_record.specs.Log.{committed}
use Rattle.dali_record.specs.Legal.{sizes_of}
use Rattle.dali_runs.specs.State.{stable}
use Rattle.dali_transcripts.specs.Words.{Said}
use Rattle.dali_transcripts.specs.World.{World, Happening, record_of, logged_by, log_of}
use Rattle.dali_transcripts.specs.Moves.{Receipt, at, start}
use Rattle.dali_transcripts.specs.Transcripts.{IsPath, IsTranscript, own_by, owned, owned_one, count_with, deeds_of, Told, EachTells, is_among}
use Rattle.dali_transcripts.proofs.Rounds.{owned_append}
use Rattle.dali_served.specs.Served.{is_served, AllServed, acts_of, HaveMade, IsFront, Once, ServedRounds}
use Rattle.dali_served.proofs.Marks.{marks, Marks, NoAlarm, all_marked}
use Rattle.dali_served.proofs.Commits.{commits_once}
use Rattle.dali_served.proofs.Fronts.{front_marked}
use Rattle.dali_served.proofs.Owners.{fails, none_fails, cut_at}
use Rattle.dali_served.proofs.Made.{have_made}

-- ---- each client
record Each (w : World) (calls : ℕ → List (List Call)) (c : ℕ) : Type 0 where
  are : Marks (stable w.core) (calls c) (marks (deeds_of w c))
  alarms : NoAlarm (deeds_of w c)

module _ (w : World) (calls : ℕ → List (List Call)) where
  one : (b : Told) (lines : List Said) → IsTranscript w b.client b.acts lines (deeds_of w b.client) → list_all is_served lines ≡ true → b.acts ≡ acts_of (calls b.client) → Each w calls b.client
  one b lines t served acts =
      let so = t.so_far in
      let did : deeds_of w b.client ≡ own_by so.moves = so.did_are ∙ append-nil (own_by so.moves) in
      let path = subst (λ l. IsPath w b.client (start l) so.moves (at t.place [])) acts so.path in
      let all = all_marked w b.client (calls b.client) so.moves t.place path (ap (list_all is_served) (sym so.lines_are) ∙ served) in
      record { are = subst (λ l. Marks (stable w.core) (calls b.client) (marks l)) (sym did) all.are; alarms = subst NoAlarm (sym did) all.alarms }

  among : (bs : List Told) (ls : List (List Said)) → EachTells true w bs ls → AllServed ls → ((i : ℕ) (b : Told) → slice_get bs i ≡ Some b → b.acts ≡ acts_of (calls b.client))
      → (c : ℕ) → is_among bs c ≡ true → Each w calls c
  among [] [] tells served acts c is = absurd cc
  among (b ∷ bs) (lines ∷ ls) tells served acts c is = by_test (among bs ls tells.1 served.1 (λ i a at. acts (suc i) a at) c) (b.client == c) refl is
    where
      by_test : (is_among bs c ≡ true → Each w calls c) → (x : Bool) → (b.client == c) ≡ x → (if x then true else is_among bs c) ≡ true → Each w calls c
      by_test ih true e is = subst (Each w calls) (eqb-true b.client c e) (one b lines tells.0 served.0 (acts 0 b refl))
      by_test ih false e is = ih is
  among [] (lines ∷ ls) tells served acts c is = absurd tells
  among (b ∷ bs) [] tells served acts c is = absurd tells

pub none_of : (bs : List Told) (c n : ℕ) (xs : List Happening) → list_all (λ (x : Happening). is_among bs x.1) xs ≡ true → is_among bs c ≡ false → owned c n xs ≡ []
none_of bs c n [] all none = refl
none_of bs c n (x ∷ xs) all none =
    let here = and_parts (is_among bs x.1) (list_all (λ (y : Happening). is_among bs y.1) xs) all in
    let other : (x.1 == c) ≡ false = ne_eqb x.1 c (λ e. let never : true ≡ false = sym here.0 ∙ (ap (is_among bs) e ∙ none) in absurd cc) in
    ap (λ b. owned_one b (n, x.0) (owned c (count_with n x.0) xs)) other ∙ none_of bs c (count_with n x.0) xs here.1 none

-- ---- a front of the log
record Front (w : World) (K : List Record) : Type 0 where
  front : List Happening
  log : K ≡ w.before ++ logged_by front
  marked : (c : ℕ) (css : List (List Call)) → Marks (stable w.core) css (marks (deeds_of w c)) → Marks (stable w.core) css (marks (owned c (length w.before) front))
  alarms : (c : ℕ) → NoAlarm (deeds_of w c) → NoAlarm (owned c (length w.before) front)

front_alarms : (xs ys : List Receipt) → NoAlarm (xs ++ ys) → NoAlarm xs
front_alarms [] ys h = tt
front_alarms (x ∷ xs) ys h = (h.0, front_alarms xs ys h.1)

front_of : (w : World) (K : List Record) → IsFront w K → Front w K
front_of w K f = ⊎_elim part whole (cases_lt f.count (length (log_of w)))
  where
    size : length (log_of w) ≡ length w.before + length (logged_by w.happened)
    size = length-append w.before (logged_by w.happened)

    whole : length (log_of w) ≤ f.count → Front w K
    whole le = record { front = w.happened; log = f.is ∙ take_all f.count (log_of w) le; marked = λ c css m. m; alarms = λ c a. a }

    part : f.count < length (log_of w) → Front w K
    part lt =
        let cut = cut_at (f.count - length w.before) w.happened (omega (arith, lt, size)) in
        let F = cut.front in
        let n : f.count ≡ length w.before + length (logged_by F) = omega (arith, f.begun, cut.count) in
        let longer : length (w.before ++ logged_by F) ≡ f.count = length-append w.before (logged_by F) ∙ sym n in
        let parts : log_of w ≡ (w.before ++ logged_by F) ++ logged_by cut.behind =
        ap (λ l. w.before ++ logged_by l) cut.is ∙ (ap (λ l. w.before ++ l) (filter_map-append record_of F cut.behind) ∙ sym (append_assoc w.before (logged_by F) (logged_by cut.behind))) in
        record {
          front = F;
          log = f.is ∙ (ap (take f.count) parts ∙ (take-append-le f.count (w.before ++ logged_by F) (logged_by cut.behind) (omega (arith, longer)) ∙ take_all f.count (w.before ++ logged_by F) (omega (arith, longer))));
          marked = λ c css m.
              front_marked (stable w.core) c (length w.before) css F cut.behind (omega (arith, f.flushed, n)) (subst (λ l. Marks (stable w.core) css (marks (owned c (length w.before) l))) cut.is m);
          alarms = λ c a.
              front_alarms (owned c (length w.before) F) (owned c (length w.before + length (logged_by F)) cut.behind)
              (subst NoAlarm (owned_append c (length w.before) F cut.behind) (subst (λ l. NoAlarm (owned c (length w.before) l)) cut.is a));
        }

-- ---- the law
no_fail : (K : List Record) → AllByRecursion (λ x. fails x ≡ false) K → (b : ℕ) (rs : List ℕ) → Contains K (AuditFail b rs) → ⊥
no_fail K all b rs has = let never : fails (AuditFail b rs) ≡ false = All-contains (λ x. fails x ≡ false) K (AuditFail b rs) (All-from_recursion (λ x. fails x ≡ false) K all) has in absurd cc

pub served_rounds : ServedRounds
served_rounds precheck before old new blocks lines receipts calls i h K round format told served front legal =
    let w = round.world in
    let f = front_of w K front in
    let log : K ≡ Format i h ∷ logged_by f.front = f.log ∙ ap (λ l. l ++ logged_by f.front) format in
    let once : Once (committed (logged_by f.front)) = subst (λ l. Once (committed l)) log (commits_once (sizes_of K) K legal) in
    let made : HaveMade calls (Format i h ∷ logged_by f.front) (committed (logged_by f.front)) = have_made calls (stable w.core) (length w.before) f.front (λ c. f.marked c (calls c) (each c).are) i h once in
    record {
      made = subst (λ l. HaveMade calls l (committed l)) (sym log) made;
      once = commits_once (sizes_of K) K legal;
      none_failed = no_fail K (subst (λ l. AllByRecursion (λ x. fails x ≡ false) l) (sym log) (refl, none_fails (length w.before) f.front (λ c. f.alarms c (each c).alarms)));
    }
  where
    by_test : (c : ℕ) (b : Bool) → is_among blocks c ≡ b → Each round.world calls c
    by_test c true e = among round.world calls blocks lines round.transcripts.each served told.acts c e
    by_test c false e =
        let none : deeds_of round.world c ≡ [] = none_of blocks c (length round.world.before) round.world.happened round.transcripts.owners e in
        record {
          are = subst (λ l. Marks (stable round.world.core) (calls c) (marks l)) (sym none) (subst (λ css. Marks (stable round.world.core) css []) (sym (told.others c e)) refl);
          alarms = subst NoAlarm (sym none) tt;
        }

    each : (c : ℕ) → Each round.world calls c
    each c = by_test c (is_among blocks c) refl
