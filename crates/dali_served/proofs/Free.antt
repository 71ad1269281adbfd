-- A round of whole transactions that nothing hinders serves all its lines.
use Rattle.std.proofs.Common.{◌≡◌, ℕ, zero, suc, ◌+◌, ◌*◌, ◌<◌, ◌≤◌, ◌==◌, Bool, true, false, List, [], ◌∷◌, ◌++◌, length, take, fold, Option, Some, None, refl, sym, ◌∙◌, ap, subst, arith}
use Rattle.std.specs.Prelude.{Contains, if◌then◌else◌, slice_get}
use Rattle.std.specs.List.{list_all, AllByRecursion}
use Rattle.std.proofs.lemmas.Bool.{eqb-true}
use Rattle.std.proofs.lemmas.List.{append-nil}
use Rattle.std.proofs.lemmas.List.Sums.{fold-append}
use Rattle.dali_lists.proofs.Members.{contains_from_get}
use Rattle.dali_record.specs.declared.records.Answer.{Answer}
use Rattle.dali_record.specs.declared.records.Answer.TheVariants.{FullHeap, FullIndex}
use Rattle.dali_record.specs.declared.records.Call.{Call}
use Rattle.dali_record.specs.declared.records.Record.{Record}
use Rattle.dali_record.specs.declared.records.Record.TheVariants.{Format, Begin, Done, Commit, AuditFail, Restarted}
use Rattle.dali_record.specs.Epochs.{Cut, cut_step, cut, last_epoch, failing, failing_step}
use Rattle.dali_record.specs.Legal.{sizes_of}
use Rattle.dali_record.specs.Log.{begin_by, begun, commit_by, committed}
use Rattle.dali_record.proofs.Survivors.{begin_is}
use Rattle.dali_history.specs.History.{IsHistory}
use Rattle.dali_history.proofs.Places.{get_from_Contains}
use Rattle.dali_history.specs.Room.Room.{inserts, IsPlain, AllAnswer}
use Rattle.dali_runs.proofs.CountsLemmas.Begins.{one_begin}
use Rattle.dali_runs.specs.Run.{first_of, fail_step, failed_first}
use Rattle.dali_runs.specs.State.{CoreState, TxnRow, row_of, state_in, state_of}
use Rattle.dali_transcripts.specs.Words.{Said, StoreFailed}
use Rattle.dali_transcripts.specs.World.{Deed, Logs, DiesOn, Meets, Happening, World, record_of, logged_by, log_of, failing as fails_by, has_failed, failed_at, stop_at, is_dead_in, is_claimed_in}
use Rattle.dali_transcripts.specs.Moves.{Receipt, at, start}
use Rattle.dali_transcripts.specs.Transcripts.{IsPath, IsTranscript, own_by, owned, deeds_of, Told, EachTells, is_among}
use Rattle.dali_transcripts.specs.Rounds.{IsRound}
use Rattle.dali_transcripts.specs.Laws.{IsIn}
use Rattle.dali_transcripts.proofs.Lists.{all_get}
use Rattle.dali_transcripts.proofs.Owned.{each_is_owned, owned_by_one, own_ascend}
use Rattle.dali_history.proofs.RoomLemmas.Plain as plain
use Rattle.dali_history.proofs.RoomLemmas.Counting.{from_filter_map, in_filter_map}
use Rattle.dali_served.specs.Served.{has_room, is_served, AllServed, acts_of, AreTold}
use Rattle.dali_served.specs.Steady.{is_answered, steady_by, IsNoDeath, IsAlone}
use Rattle.dali_served.specs.Apart.{AreAtHome}
use Rattle.dali_served.specs.Free.{fits_log, AllFit, HasNoRows, inserts_in, told_inserts, RoundsAreServed}
use Rattle.dali_served.proofs.AtHome.{IsTold}
use Rattle.dali_served.proofs.Alone.{log_is_steady}
use Rattle.dali_served.proofs.Apart.{IsHome, told_by_each, none_gives_way}
use Rattle.dali_served.proofs.Calm.{IsCalm, Made, all_made}
use Rattle.dali_served.proofs.Commits.{commits_once}
use Rattle.dali_served.proofs.Counted.{all_answered, few_inserts, all_counted, blocks_same}
use Rattle.dali_served.proofs.Finding.{all_there, logged_is, got_owned, beginner, began_there}
use Rattle.dali_served.proofs.Law.{none_of}
use Rattle.dali_served.proofs.Roomy.{HasRooms, path_served}
use Rattle.dali_served.proofs.Steady.{own_is_steady}
use Rattle.dali_served.proofs.Unclaimed.{none_is_claimed}
use Rattle.dali_served.proofs.Whole.{begin_in, commit_in, begun_in, insert_answers, IsOfThese, IsMade, is_made}

-- ---- records that no client of whole transactions logs
abbrev is_plain : Record → Bool
is_plain (AuditFail b rs) = false
is_plain (Restarted rs ds) = false
is_plain r = true

abbrev ArePlain : List Record → Type 0
ArePlain L = AllByRecursion (λ r. is_plain r ≡ true) L

told_plain : (P : ℕ → Type 0) (n : ℕ) (r : Record) → IsTold P (n, Logs r) → is_plain r ≡ true
told_plain P n (AuditFail b rs) h = absurd h
told_plain P n (Restarted rs ds) h = absurd h
told_plain P n r h = refl

told_lives : (P : ℕ → Type 0) (n c : ℕ) (x : Deed) → IsTold P (n, x) → IsNoDeath (x, c)
told_lives P n c (DiesOn t r) h = h
told_lives P n c x h = tt

plain_logged : (xs : List Happening) → ((j c : ℕ) (r : Record) → slice_get xs j ≡ Some (Logs r, c) → is_plain r ≡ true) → ArePlain (logged_by xs)
plain_logged [] h = tt
plain_logged ((Logs r, c) ∷ xs) h = (h 0 c r refl, plain_logged xs (λ j d s e. h (suc j) d s e))
plain_logged ((x, c) ∷ xs) h = plain_logged xs (λ j d s e. h (suc j) d s e)

-- one epoch, without damage
cut_on : (L : List Record) (c : Cut) → ArePlain L → c.closed ≡ [] → fold failing_step [] c.now.records ≡ [] → ((fold cut_step c L).closed ≡ []) × (failing (fold cut_step c L).now ≡ [])
cut_on [] c all closed calm = (closed, calm)
cut_on (Format i h ∷ L) c all closed calm = cut_on L (cut_step c (Format i h)) all.1 closed refl
cut_on (AuditFail b rs ∷ L) c all closed calm = let never : false ≡ true = all.0 in absurd cc
cut_on (Restarted rs ds ∷ L) c all closed calm = let never : false ≡ true = all.0 in absurd cc
cut_on (r ∷ L) c all closed calm = cut_on L (cut_step c r) all.1 closed (fold-append failing_step [] c.now.records (r ∷ []) ∙ ap (λ l. failing_step l r) calm)

plain_cut : (L : List Record) → ArePlain L → ((cut L).closed ≡ []) × (failing (last_epoch L) ≡ [])
plain_cut L all = cut_on L (record { closed = []; now = record { first = 0; records = [] } }) all refl refl

first_failed : (E : List Record) (rs : List ℕ) → fold fail_step (first_of rs) E ≡ first_of (fold failing_step rs E)
first_failed [] rs = refl
first_failed (AuditFail b fs ∷ E) rs = first_failed E fs
first_failed (r ∷ E) rs = first_failed E rs

none_failed : (L : List Record) → ArePlain L → failed_first (last_epoch L).records ≡ None
none_failed L all = first_failed (last_epoch L).records [] ∙ ap first_of (plain_cut L all).1

plain_take : (i : ℕ) (xs : List Happening) → ArePlain (logged_by xs) → ArePlain (logged_by (take i xs))
plain_take zero xs all = tt
plain_take (suc i) [] all = tt
plain_take (suc i) ((Logs r, c) ∷ xs) all = (all.0, plain_take i xs all.1)
plain_take (suc i) ((x, c) ∷ xs) all = plain_take i xs all

-- ---- the store
fails_on : (b : Bool) (x : Happening) → b ≡ true → fails_by b x ≡ true
fails_on b (Meets StoreFailed, c) e = refl
fails_on b x e = e

stays_failed : (b : Bool) (xs : List Happening) → b ≡ true → has_failed b xs ≡ true
stays_failed b [] e = e
stays_failed b (x ∷ xs) e = stays_failed (fails_by b x) xs (fails_on b x e)

failed_later : (b : Bool) (i : ℕ) (xs : List Happening) → has_failed b (take i xs) ≡ true → has_failed b xs ≡ true
failed_later b zero xs e = stays_failed b xs e
failed_later b (suc i) [] e = e
failed_later b (suc i) (x ∷ xs) e = failed_later (fails_by b x) i xs e

no_row : (o : Option TxnRow) → o ≡ None → (is_dead_in (state_in o) ≡ false) × (is_claimed_in (state_in o) ≡ false)
no_row None e = (refl, refl)
no_row (Some row) e = absurd cc

receipt_is : (f : Receipt → Option ℕ) → ℕ → Receipt → Type 0
receipt_is f t x = f x ≡ Some t

begun_is : (x : Receipt) (t : ℕ) → begin_in x ≡ Some t → x ≡ (x.0, Logs (Begin t))
begun_is (n, Logs (Begin u)) t e = let same : u ≡ t = cc in ap (λ v. (n, Logs (Begin v))) same
begun_is x t e = absurd cc

committed_is : (x : Receipt) (t : ℕ) → commit_in x ≡ Some t → x ≡ (x.0, Logs (Commit t))
committed_is (n, Logs (Commit u)) t e = let same : u ≡ t = cc in ap (λ v. (n, Logs (Commit v))) same
committed_is x t e = absurd cc

room_of : (L : List Record) (t : ℕ) (call : Call) (a : Answer) → Contains L (Done t call a) → (Contains L (Done t call FullHeap) → ⊥) → (Contains L (Done t call FullIndex) → ⊥) → has_room a ≡ true
room_of L t call FullHeap has heap index = absurd (heap has)
room_of L t call FullIndex has heap index = absurd (index has)
room_of L t call _ has heap index = refl

module _ (before : List Record) (old new : CoreState) (blocks : List Told) (lines : List (List Said)) (receipts : List (List ℕ)) (calls : ℕ → List (List Call)) (home : ℕ → ℕ) (i h : ℕ)
    (round : IsRound false true before old new blocks lines receipts) (format : round.world.before ≡ Format i h ∷ []) (rows : HasNoRows old) (history : IsHistory (log_of round.world))
    (told : AreTold calls blocks) (at_home : AreAtHome home calls) (heap : told_inserts calls blocks < 7 * h) (index : told_inserts calls blocks < 21 * i)
    (runs : new.system.stop ≡ None) (fit : AllFit lines) where
  abbrev w : World
  w = round.world

  abbrev F : List Happening
  F = w.happened

  -- what is so of each deed
  each_told : (j c : ℕ) (x : Deed) → slice_get F j ≡ Some (x, c) → IsTold (IsHome home c) (length w.before + length (logged_by (take j F)), x)
  each_told j c x e = all_get (IsTold (IsHome home c)) (deeds_of w c) _ (told_by_each false before old new blocks lines receipts calls home round told at_home c) (each_is_owned c (length w.before) F j x e)

  no_death : AllByRecursion IsNoDeath F
  no_death = all_there IsNoDeath F (λ j x e. told_lives (IsHome home x.1) (length w.before + length (logged_by (take j F))) x.1 x.0 (each_told j x.1 x.0 e))

  plain_all : ArePlain (logged_by F)
  plain_all = plain_logged F (λ j c r e. told_plain (IsHome home c) (length w.before + length (logged_by (take j F))) r (each_told j c (Logs r) e))

  store : w.core.vault.stopped ≡ false
  store = by_test w.core.vault.stopped refl
    where
      by_test : (b : Bool) → w.core.vault.stopped ≡ b → w.core.vault.stopped ≡ false
      by_test false e = e
      by_test true e =
          let stop = round.rests.stopped (ap (λ (k : CoreState). k.vault.stopped) (sym round.core_is) ∙ e) in
          let never : None ≡ Some stop.0 = sym runs ∙ stop.1 in absurd cc

  none_fails : (k : ℕ) → has_failed w.old.vault.stopped (take k F) ≡ false
  none_fails k = by_test (has_failed w.old.vault.stopped (take k F)) refl
    where
      by_test : (b : Bool) → has_failed w.old.vault.stopped (take k F) ≡ b → has_failed w.old.vault.stopped (take k F) ≡ false
      by_test false e = e
      by_test true e =
          let last : w.core.vault.stopped ≡ true = round.together.faults.stopped ∙ failed_later w.old.vault.stopped k F e in
          let never : true ≡ false = sym last ∙ store in absurd cc

  runs_there : (k : ℕ) → stop_at w k ≡ None
  runs_there k =
      let damage : failed_at w k ≡ None = ap (λ l. failed_first (last_epoch (l ++ logged_by (take k F))).records) format ∙ none_failed (Format i h ∷ logged_by (take k F)) (refl, plain_take k F plain_all) in
      rw (damage, none_fails k) refl

  none_there : (t : ℕ) → (is_dead_in (state_of w.old.system t) ≡ false) × (is_claimed_in (state_of w.old.system t) ≡ false)
  none_there t = no_row (row_of w.old.system t) (ap (λ (k : CoreState). row_of k.system t) round.old_is ∙ rows t)

  calm : IsCalm w
  calm = record {
    looks = round.precheck_is;
    runs = runs_there;
    store = store;
    waits = λ j d f e. none_gives_way false before old new blocks lines receipts calls home round (λ t dead. let never : true ≡ false = sym dead ∙ (none_there t).0 in absurd cc) told at_home j d f e;
    claims = none_is_claimed w round.right none_there no_death;
  }

  -- ---- each client
  record Each (c : ℕ) : Type 0 where
    made : Made (calls c) (deeds_of w c)
    steady : (t : ℕ) → fold (steady_by t) (Some false) (deeds_of w c) ≡ Some false

  record Lines (b : Told) (said : List Said) : Type 0 where
    each : Each b.client
    served : HasRooms (deeds_of w b.client) → list_all is_served said ≡ true

  one : (b : Told) (said : List Said) → IsTranscript w b.client b.acts said (deeds_of w b.client) → list_all fits_log said ≡ true → b.acts ≡ acts_of (calls b.client) → Lines b said
  one b said t fits acts =
      let so = t.so_far in
      let did : deeds_of w b.client ≡ own_by so.moves = so.did_are ∙ append-nil (own_by so.moves) in
      let path = subst (λ l. IsPath w b.client (start l) so.moves (at t.place [])) acts so.path in
      let all = all_made w b.client calm (calls b.client) so.moves t.place path (ap (list_all fits_log) (sym so.lines_are) ∙ fits) in
      record {
        each = record {
          made = subst (Made (calls b.client)) (sym did) all.are;
          steady = λ u. own_is_steady w b.client b.acts said (deeds_of w b.client) calm.claims t (ap (list_all is_answered) so.lines_are ∙ all.tells) u;
        };
        served = λ rooms. ap (list_all is_served) so.lines_are ∙ path_served so.moves all.tells (subst HasRooms did rooms);
      }

  among : (bs : List Told) (ls : List (List Said)) → EachTells true w bs ls → AllFit ls → ((k : ℕ) (b : Told) → slice_get bs k ≡ Some b → b.acts ≡ acts_of (calls b.client)) → (c : ℕ) → is_among bs c ≡ true → Each c
  among [] [] tells fits acts c is = absurd cc
  among (b ∷ bs) (said ∷ ls) tells fits acts c is = by_test (among bs ls tells.1 fits.1 (λ k a e. acts (suc k) a e) c) (b.client == c) refl is
    where
      by_test : (is_among bs c ≡ true → Each c) → (x : Bool) → (b.client == c) ≡ x → (if x then true else is_among bs c) ≡ true → Each c
      by_test ih true e is = subst Each (eqb-true b.client c e) (one b said tells.0 fits.0 (acts 0 b refl)).each
      by_test ih false e is = ih is
  among [] (said ∷ ls) tells fits acts c is = absurd tells
  among (b ∷ bs) [] tells fits acts c is = absurd tells

  each : (c : ℕ) → Each c
  each c = by_test (is_among blocks c) refl
    where
      by_test : (b : Bool) → is_among blocks c ≡ b → Each c
      by_test true e = among blocks lines round.transcripts.each fit told.acts c e
      by_test false e =
          let none : deeds_of w c ≡ [] = none_of blocks c (length w.before) F round.transcripts.owners e in
          record {
            made = subst (Made (calls c)) (sym none) (subst (λ css. Made css []) (sym (told.others c e)) refl);
            steady = λ t. ap (fold (steady_by t) (Some false)) none;
          }

  whole : (c : ℕ) → IsMade (calls c) (deeds_of w c)
  whole c = is_made (calls c) (deeds_of w c) (each c).made

  -- ---- the log
  abbrev L : List Record
  L = log_of w

  log_is : L ≡ Format i h ∷ logged_by F
  log_is = ap (λ l. l ++ logged_by F) format

  -- a client's deed, in the log
  in_log : (c n : ℕ) (r : Record) → Contains (deeds_of w c) (n, Logs r) → slice_get L n ≡ Some r
  in_log c n r has = all_get (IsIn L) (deeds_of w c) (n, Logs r) (own_ascend w c).logged has

  commits : (t : ℕ) → Contains (begun L) t → Contains (committed L) t
  commits t has =
      let (r, there_r, is_r) = from_filter_map begin_by (logged_by F) t (subst (λ l. Contains (begun l) t) log_is has) in
      let (z, there_z, is_z) = from_filter_map record_of F r there_r in
      let (j, at_j) = get_from_Contains F z there_z in
      let same : z ≡ (Logs (Begin t), z.1) = logged_is z r is_z ∙ ap (λ x. (Logs x, z.1)) (begin_is r t is_r) in
      let owned_z = each_is_owned z.1 (length w.before) F j (Logs (Begin t)) (at_j ∙ ap (λ x. Some x) same) in
      let begun_z : Contains (begun_in (deeds_of w z.1)) t = in_filter_map begin_in (deeds_of w z.1) _ t owned_z refl in
      let (x, there_x, is_x) = from_filter_map commit_in (deeds_of w z.1) t (subst (λ l. Contains l t) (whole z.1).closed begun_z) in
      let logged = in_log z.1 x.0 (Commit t) (subst (Contains (deeds_of w z.1)) (committed_is x t is_x) there_x) in
      in_filter_map commit_by L (Commit t) t (contains_from_get L x.0 (Commit t) logged) refl

  -- whose a transaction is
  alone : (t : ℕ) → AllByRecursion (IsAlone t (beginner t F)) F
  alone t = all_there (IsAlone t (beginner t F)) F (λ j x e. by_deed j x.1 x.0 e)
    where
      begins_by : (d n : ℕ) → Contains (deeds_of w d) (n, Logs (Begin t)) → d ≡ beginner t F
      begins_by d n has =
          let first = got_owned d (length w.before) F n (Logs (Begin t)) has in
          let found = began_there t F first.0 d first.1 in
          let its = each_is_owned (beginner t F) (length w.before) F found.0 (Logs (Begin t)) found.1 in
          let same : n ≡ length w.before + length (logged_by (take found.0 F)) = one_begin (sizes_of L) L n _ t history.legal.rules (in_log d n (Begin t) has) (in_log (beginner t F) _ (Begin t) its) in
          owned_by_one d (beginner t F) (length w.before) F n (Begin t) (Begin t) has (subst (λ k. Contains (deeds_of w (beginner t F)) (k, Logs (Begin t))) (sym same) its)

      by_deed : (j d : ℕ) (x : Deed) → slice_get F j ≡ Some (x, d) → IsAlone t (beginner t F) (x, d)
      by_deed j d (Logs r) e = λ is.
          let has : Contains (begun_in (deeds_of w d)) t = all_get (IsOfThese (begun_in (deeds_of w d))) (deeds_of w d) _ (whole d).of (each_is_owned d (length w.before) F j (Logs r) e) t is in
          let (x, there_x, is_x) = from_filter_map begin_in (deeds_of w d) t has in
          begins_by d x.0 (subst (Contains (deeds_of w d)) (begun_is x t is_x) there_x)
      by_deed j d x e = tt

  all_answer : AllAnswer L
  all_answer = record {
    commits = commits;
    steady = λ t. log_is_steady w t (beginner t F) i h format (alone t) ((each (beginner t F)).steady t);
  }

  is_plain_log : IsPlain L
  is_plain_log =
      let one_cut = plain_cut (Format i h ∷ logged_by F) (refl, plain_all) in
      record {
        history = history;
        no_restart = ap (λ l. (cut l).closed) log_is ∙ one_cut.0;
        no_damage = ap (λ l. failing (last_epoch l)) log_is ∙ one_cut.1;
      }

  few : inserts L ≤ told_inserts calls blocks
  few =
      let first = few_inserts (committed L) L (commits_once (sizes_of L) L history.legal) in
      let second = all_counted blocks (length w.before) F round.transcripts.owners in
      let third = blocks_same (λ (b : Told). insert_answers (owned b.client (length w.before) F)) (λ (b : Told). inserts_in (calls b.client)) blocks (λ b. (whole b.client).count) in
      let same : all_answered L ≡ all_answered (logged_by F) = ap all_answered log_is in
      omega (arith, first, second, third, same)

  rooms : (c : ℕ) → HasRooms (deeds_of w c)
  rooms c n t call a has =
      let here = contains_from_get L n (Done t call a) (in_log c n (Done t call a) has) in
      let none = plain.none_is_full L t call is_plain_log all_answer in
      room_of L t call a here
      (none.0 (subst (λ k. inserts L < 7 * k) (sym (ap (λ l. (sizes_of l).heap) log_is)) (omega (arith, few, heap))))
      (none.1 (subst (λ k. inserts L < 21 * k) (sym (ap (λ l. (sizes_of l).index) log_is)) (omega (arith, few, index))))

  serves : (bs : List Told) (ls : List (List Said)) → EachTells true w bs ls → AllFit ls → ((k : ℕ) (b : Told) → slice_get bs k ≡ Some b → b.acts ≡ acts_of (calls b.client)) → AllServed ls
  serves [] [] tells fits acts = tt
  serves (b ∷ bs) (said ∷ ls) tells fits acts = ((one b said tells.0 fits.0 (acts 0 b refl)).served (rooms b.client), serves bs ls tells.1 fits.1 (λ k a e. acts (suc k) a e))
  serves [] (said ∷ ls) tells fits acts = absurd tells
  serves (b ∷ bs) [] tells fits acts = absurd tells

  pub all_served : AllServed lines
  all_served = serves blocks lines round.transcripts.each fit told.acts

pub rounds_are_served : RoundsAreServed
rounds_are_served before old new blocks lines receipts calls home i h round format rows history told at_home heap index runs fit =
    all_served before old new blocks lines receipts calls home i h round format rows history told at_home heap index runs fit
