-- A step of a client with the receipts of what it logged.
use Rattle.std.proofs.Common.{◌≡◌, ℕ, zero, suc, ◌+◌, ◌-◌, ◌<◌, ◌≤◌, Bool, true, false, List, [], ◌∷◌, ◌++◌, length, map, Option, refl, ap, sym, subst, ◌∙◌, arith}
use Rattle.std.specs.List.{range_with_len}
use Rattle.std.proofs.lemmas.List.{append-nil, append_assoc, length-append}
use Rattle.std.proofs.lemmas.List.Elements.{filter_map-append}
use Rattle.dali_record.specs.declared.records.Record.{Record}
use Rattle.dali_region.specs.State.{RegionState}
use Rattle.dali_store.specs.Store.{Files as Disk}
use Rattle.dali_store.specs.declared.store.Store.{Ghosts}
use Rattle.dali_runs.specs.State.{SystemState}
use Rattle.dali_crash.specs.Checkpoints.{Point}
use Rattle.dali_crash.specs.Traces.{Start, bases_of}
use Rattle.dali_core.specs.Vault.Vaulted.{Vaulted}
use Rattle.dali_transcripts.specs.World.{Deed, Logs, Strays, DiesOn, Claims, GivesBack, GetsLock, Yields, FindsDead, StartsCheckpoint, MovesAnchor, EndsCheckpoint, Meets, Happening, World, record_of, logged_by, log_of, Grows}
use Rattle.dali_transcripts.specs.Transcripts.{count_with, owned, deeds_of, number_in, numbers_of}
use Rattle.dali_transcripts.specs.Rounds.{Standing, by}
use Rattle.dali_transcripts.specs.Laws.{receipts_from}
use Rattle.dali_transcripts.proofs.Owned.{own_goes_on}
use Rattle.dali_transcripts.specs.Clients.Said.{Transcribed, logged}
use Rattle.dali_transcripts.specs.Clients.Told.{said_of, act_of}
use Rattle.dali_transcripts.specs.Telling.Tells.{Goes}
use Rattle.dali_turns.specs.declared.client.Client.{Client}
use Rattle.dali_turns.specs.declared.client.State.{State}
use Rattle.dali_turns.specs.Stood.{Stood}
use Rattle.dali_turns.specs.Fits.{rest_of, IsOf, Speaks, Fits}
use Rattle.dali_turns.specs.Goes.{Came, RowsTell, Went, StepGoes}
use Rattle.dali_turns.specs.Turns.{own_numbers, AreReceipts, Turned, TurnGoes, Halted, HaltGoes}
use Rattle.dali_turns.proofs.Refusals.{records_are}
use Rattle.dali_checkpoint.proofs.Calls.{course_join}
use Rattle.dali_turns.proofs.Beside.{course_longer}
use Rattle.dali_turns.proofs.Deeds.{goes_on}
use Rattle.dali_turns.proofs.Doing.{others_then, still_ran}

-- ---- the client's own deeds
one_counts : (m : ℕ) (xs : List Happening) (x : Deed) (c : ℕ) → m + length (logged_by (xs ++ (x, c) ∷ [])) ≡ count_with (m + length (logged_by xs)) x
one_counts m xs x c = ap (λ l. m + length l) (filter_map-append record_of xs ((x, c) ∷ [])) ∙ (ap (λ k. m + k) (length-append (logged_by xs) (logged_by ((x, c) ∷ []))) ∙ by_deed (length (logged_by xs)) x)
  where
    by_deed : (n : ℕ) (x : Deed) → m + (n + length (logged_by ((x, c) ∷ []))) ≡ count_with (m + n) x
    by_deed n (Logs y) = omega arith
    by_deed n (Strays r word mask) = omega arith
    by_deed n (DiesOn t r) = omega arith
    by_deed n (Claims u) = omega arith
    by_deed n (GivesBack u latched) = omega arith
    by_deed n (Yields f) = omega arith
    by_deed n (GetsLock t k j) = omega arith
    by_deed n (FindsDead f) = omega arith
    by_deed n StartsCheckpoint = omega arith
    by_deed n (MovesAnchor k) = omega arith
    by_deed n EndsCheckpoint = omega arith
    by_deed n (Meets why) = omega arith

pub own_grown : (c m : ℕ) (xs : List Happening) (ds : List Deed) → owned c m (xs ++ by c ds) ≡ owned c m xs ++ receipts_from (m + length (logged_by xs)) ds
own_grown c m xs [] = ap (owned c m) (append-nil xs) ∙ sym (append-nil (owned c m xs))
own_grown c m xs (x ∷ ds) =
    ap (owned c m) (sym (append_assoc xs ((x, c) ∷ []) (by c ds)))
    ∙ (own_grown c m (xs ++ (x, c) ∷ []) ds
    ∙ (ap (λ l. l ++ receipts_from (m + length (logged_by (xs ++ (x, c) ∷ []))) ds) (own_goes_on c m xs x)
    ∙ (ap (λ k. (owned c m xs ++ (m + length (logged_by xs), x) ∷ []) ++ receipts_from k ds) (one_counts m xs x c)
    ∙ append_assoc (owned c m xs) ((m + length (logged_by xs), x) ∷ []) (receipts_from (count_with (m + length (logged_by xs)) x) ds))))

pub deeds_grown : (w x : World) (c : ℕ) (ds : List Deed) → (g : Grows w x) → g.more ≡ by c ds → deeds_of x c ≡ deeds_of w c ++ receipts_from (length (log_of w)) ds
deeds_grown w x c ds g more =
    ap (λ (b : List Record). owned c (length b) x.happened) g.before
    ∙ (ap (owned c (length w.before)) (g.happened ∙ ap (λ l. w.happened ++ l) more)
    ∙ (own_grown c (length w.before) w.happened ds
    ∙ ap (λ k. deeds_of w c ++ receipts_from k ds) (sym (length-append w.before (logged_by w.happened)))))

log_grown : (w x : World) (c : ℕ) (ds : List Deed) → (g : Grows w x) → g.more ≡ by c ds → length (log_of x) ≡ length (log_of w) + length (logged_by (by c ds))
log_grown w x c ds g more =
    ap length (ap (λ b. b ++ logged_by x.happened) g.before ∙ ap (λ l. w.before ++ logged_by l) (g.happened ∙ ap (λ l. w.happened ++ l) more)
    ∙ (ap (λ l. w.before ++ l) (filter_map-append record_of w.happened (by c ds)) ∙ sym (append_assoc w.before (logged_by w.happened) (logged_by (by c ds)))))
    ∙ length-append (log_of w) (logged_by (by c ds))

-- ---- their numbers
numbers_from : (n c : ℕ) (ds : List Deed) → numbers_of (receipts_from n ds) ≡ range_with_len n (length (logged_by (by c ds)))
numbers_from n c [] = refl
numbers_from n c (Logs x ∷ ds) = ap (λ l. n ∷ l) (numbers_from (n + 1) c ds)
numbers_from n c (_ ∷ ds) = numbers_from n c ds

range_split : (n k m : ℕ) → range_with_len n (k + m) ≡ range_with_len n k ++ range_with_len (n + k) m
range_split n zero m = let e : n + 0 ≡ n = omega arith in let f : 0 + m ≡ m = omega arith in ap (range_with_len n) f ∙ ap (λ k. range_with_len k m) (sym e)
range_split n (suc k) m =
    let e : n + 1 + k ≡ n + suc k = omega arith in
    let f : suc k + m ≡ suc (k + m) = omega arith in
    ap (range_with_len n) f ∙ ap (λ l. n ∷ l) (range_split (n + 1) k m ∙ ap (λ z. range_with_len (n + 1) k ++ range_with_len z m) e)

-- the receipts up to a number that the step reached
pub record NotesTo (k j : Client) (first upto behind : ℕ) : Type 0 where
  pub from : first ≤ upto
  pub to : upto ≤ behind
  pub receipts : j.transcript.receipts ≡ k.transcript.receipts ++ range_with_len first (upto - first)

-- ---- a client that differs in nothing that a step looks at
pub record LooksSame (k j : Client) : Type 0 where
  pub state : j.state ≡ k.state
  pub rest : j.rest.now ≡ k.rest.now
  pub client : j.transcript.client ≡ k.transcript.client
  pub lines : j.transcript.lines ≡ k.transcript.lines

module _ {V : Type 0} (means : Ghosts V) where
  pub is_same : (w : World) (a : Standing) (k j : Client) → LooksSame k j → IsOf w a k → IsOf w a j
  is_same w a k j same is = record { client = is.client ∙ sym same.client; lines = is.lines ∙ ap (map said_of) (sym same.lines); stands = is.stands; others = is.others }

  speaks_same : (w : World) (a : Standing) (k j : Client) → LooksSame k j → Speaks w a k → Speaks w a j
  speaks_same w a k j same is = record { client = is.client ∙ sym same.client; lines = is.lines ∙ ap (map said_of) (sym same.lines); stands = is.stands }

  pub fits_same : (s : Start) (B : List (List Record)) (p : Point) (w : World) (gs : List RegionState) (y : SystemState) (v : Vaulted V) (a : Standing) (k j : Client) → LooksSame k j
      → Fits means s B p w gs y v a (rest_of k) k.state → Fits means s B p w gs y v a (rest_of j) j.state
  fits_same s B p w gs y v a k j same fits =
      subst (λ (st : State). Fits means s B p w gs y v a (rest_of j) st) (sym same.state)
      (subst (λ l. Fits means s B p w gs y v a l k.state) (sym (ap (map act_of) same.rest)) fits)

  came_same : (ok : Bool) (s : Start) (B : List (List Record)) (p : Point) (w : World) (gs : List RegionState) (y : SystemState) (v : Vaulted V) (a : Standing) (k j : Client) → LooksSame k j
      → Came means ok s B p w gs y v a k → Came means ok s B p w gs y v a j
  came_same true s B p w gs y v a k j same came = fits_same s B p w gs y v a k j same came
  came_same false s B p w gs y v a k j same came = came

  -- the log grows
  records_grow : (precheck : Bool) (k before behind : Client) (gs hs : List RegionState) (y z : SystemState) (v u : Vaulted V) (ok : Bool) → LooksSame k before → StepGoes means precheck before.state before gs y v ok behind hs z u
      → (s : Start) (B : List (List Record)) (p : Point) (w : World) (a : Standing) → Stood means s B p w precheck gs y v → IsOf w a k → Fits means s B p w gs y v a (rest_of k) k.state → y.records ≤ z.records
  records_grow precheck k before behind gs hs y z v u ok same goes s B p w a stood is fits =
      let went : Went means precheck s B p w a before.state gs y v ok behind hs z u = goes s B p w a stood (is_same w a k before same is) (fits_same s B p w gs y v a k before same fits) in
      let first : y.records ≡ length (log_of w) = ap (λ (x : SystemState). x.records) (sym stood.stands.at.system) ∙ records_are (bases_of s) s.log w p stood.stands.at.vault.run stood.tells in
      let last : z.records ≡ length (log_of went.world) =
      ap (λ (x : SystemState). x.records) (sym went.stood.stands.at.system) ∙ records_are (bases_of s) s.log went.world went.to went.stood.stands.at.vault.run went.stood.tells in
      omega (arith, first, last, log_grown w went.world a.client went.deeds went.goes.grows went.goes.more)

  pub never_shrinks : (precheck : Bool) (k before behind j : Client) (gs hs : List RegionState) (y z : SystemState) (v u : Vaulted V) (ok cut : Bool) → LooksSame k before → StepGoes means precheck before.state before gs y v ok behind hs z u
      → z.records < y.records → TurnGoes means precheck k gs y v cut j hs z u
  never_shrinks precheck k before behind j gs hs y z v u ok cut same goes less s B p w a stood is fits handed =
      let grows : y.records ≤ z.records = records_grow precheck k before behind gs hs y z v u ok same goes s B p w a stood is fits in absurd (omega (arith, grows, less))

  module _ (precheck : Bool) (k before behind j : Client) (gs hs : List RegionState) (y z : SystemState) (v u : Vaulted V) (ok : Bool)
      (same : LooksSame k before) (goes : StepGoes means precheck before.state before gs y v ok behind hs z u) (also : LooksSame behind j)
      (upto : ℕ) (notes : NotesTo k j y.records upto z.records) where
    module _ (s : Start) (B : List (List Record)) (p : Point) (w : World) (a : Standing) (stood : Stood means s B p w precheck gs y v) (is : IsOf w a k)
        (fits : Fits means s B p w gs y v a (rest_of k) k.state) (handed : AreReceipts true w k) where
      abbrev went : Went means precheck s B p w a k.state gs y v ok behind hs z u
      went = subst (λ (st : State). Went means precheck s B p w a st gs y v ok behind hs z u) same.state (goes s B p w a stood (is_same w a k before same is) (fits_same s B p w gs y v a k before same fits))

      abbrev noted : Went means precheck s B p w a k.state gs y v ok j hs z u
      noted = record {
        to = went.to;
        batches = went.batches;
        steps = went.steps;
        course = went.course;
        deeds = went.deeds;
        world = went.world;
        goes = went.goes;
        stood = went.stood;
        standing = went.standing;
        client = went.client;
        acts = went.acts;
        is = speaks_same went.world went.standing behind j also went.is;
        came = came_same ok s went.batches went.to went.world hs z u went.standing behind j also went.came;
        rows = λ e. subst (λ (st : State). RowsTell k.state y st z) (sym also.state) (went.rows e);
        others = went.others;
      }

      first_is : y.records ≡ length (log_of w)
      first_is = ap (λ (m : SystemState). m.records) (sym stood.stands.at.system) ∙ records_are (bases_of s) s.log w p stood.stands.at.vault.run stood.tells

      behind_is : z.records ≡ length (log_of went.world)
      behind_is = ap (λ (m : SystemState). m.records) (sym went.stood.stands.at.system) ∙ records_are (bases_of s) s.log went.world went.to went.stood.stands.at.vault.run went.stood.tells

      abbrev many : ℕ
      many = length (logged_by (by a.client went.deeds))

      longer : length (log_of went.world) ≡ length (log_of w) + many
      longer = log_grown w went.world a.client went.deeds went.goes.grows went.goes.more

      client_is : j.transcript.client ≡ a.client
      client_is = sym noted.is.client ∙ went.client

      -- all that it has logged now
      numbers : own_numbers went.world j ≡ k.transcript.receipts ++ range_with_len y.records (z.records - y.records)
      numbers =
          ap (λ c. numbers_of (deeds_of went.world c)) client_is
          ∙ (ap numbers_of (deeds_grown w went.world a.client went.deeds went.goes.grows went.goes.more)
          ∙ (filter_map-append number_in (deeds_of w a.client) (receipts_from (length (log_of w)) went.deeds)
          ∙ (ap (λ l. l ++ numbers_of (receipts_from (length (log_of w)) went.deeds)) (ap (λ c. numbers_of (deeds_of w c)) is.client ∙ sym handed)
          ∙ ap (λ l. k.transcript.receipts ++ l) (numbers_from (length (log_of w)) a.client went.deeds
          ∙ (ap (λ n. range_with_len n many) (sym first_is) ∙ ap (range_with_len y.records) (let e : many ≡ z.records - y.records = omega (arith, first_is, behind_is, longer) in e))))))

      some_numbers : AreReceipts false went.world j
      some_numbers = (
        range_with_len upto (z.records - upto),
        numbers
            ∙ (ap (λ l. k.transcript.receipts ++ l)
            (let split : z.records - y.records ≡ (upto - y.records) + (z.records - upto) = omega (arith, notes.from, notes.to) in
            let place : y.records + (upto - y.records) ≡ upto = omega (arith, notes.from) in
            ap (range_with_len y.records) split ∙ (range_split y.records (upto - y.records) (z.records - upto) ∙ ap (λ n. range_with_len y.records (upto - y.records) ++ range_with_len n (z.records - upto)) place))
            ∙ (sym (append_assoc k.transcript.receipts (range_with_len y.records (upto - y.records)) (range_with_len upto (z.records - upto))) ∙ ap (λ l. l ++ range_with_len upto (z.records - upto)) (sym notes.receipts))),
      )

      by_ok : (c : Bool) → (c ≡ true → upto ≡ z.records) → AreReceipts c went.world j
      by_ok true e = notes.receipts ∙ (ap (λ n. k.transcript.receipts ++ range_with_len y.records (n - y.records)) (e refl) ∙ sym numbers)
      by_ok false e = some_numbers

    pub turn_goes : (ok ≡ true → upto ≡ z.records) → TurnGoes means precheck k gs y v ok j hs z u
    turn_goes all s B p w a stood is fits handed = record { went = noted s B p w a stood is fits handed; receipts = by_ok s B p w a stood is fits handed ok all }

    -- the step was made, and memory for a receipt is refused: the client is halted
    module _ (done : ok ≡ true) (is : List RegionState) (x : SystemState) (t : Vaulted V) (halts : HaltGoes means j hs z u is x t)
        (s : Start) (B : List (List Record)) (p : Point) (w : World) (a : Standing) (stood : Stood means s B p w precheck gs y v) (of : IsOf w a k)
        (fits : Fits means s B p w gs y v a (rest_of k) k.state) (handed : AreReceipts true w k) where
      abbrev one : Went means precheck s B p w a k.state gs y v ok j hs z u
      one = noted s B p w a stood of fits handed

      abbrev two : Halted means precheck k.state s one.batches one.to one.world one.standing j hs z u is x t
      two = halts precheck k.state s one.batches one.to one.world one.standing one.stood one.is (subst (λ (b : Bool). Came means b s one.batches one.to one.world hs z u one.standing j) done one.came)

      some : AreReceipts false one.world j
      some = some_numbers s B p w a stood of fits handed

      halted_there : Turned means precheck s B p w a k gs y v false j is x t
      halted_there = record {
        went = record {
          to = two.went.to;
          batches = two.went.batches;
          steps = one.steps ++ two.went.steps;
          course = course_join p one.to two.went.to one.steps two.went.steps one.course two.went.course;
          deeds = one.deeds ++ two.went.deeds;
          world = two.went.world;
          goes = goes_on w one.world two.went.world a.client p one.to two.went.to one.deeds two.went.deeds one.goes (subst (λ c. Goes one.world c one.to two.went.deeds two.went.world two.went.to) one.client two.went.goes);
          stood = two.went.stood;
          standing = two.went.standing;
          client = two.went.client ∙ one.client;
          acts = two.went.acts ∙ one.acts;
          is = two.went.is;
          came = two.went.came;
          rows = λ e. absurd (cc);
          others = others_then means k.state s B one.batches two.went.batches p one.to two.went.to gs hs is y z x v u t stood.stands.at.system one.stood.stands.at.system (course_longer p one.to one.steps one.course)
              (still_ran means precheck s one.batches one.to one.world one.standing k.state hs is z x u t false j one.stood two.went) one.others two.went.others;
        };
        receipts = (some.0, two.numbers ∙ some.1);
      }

    pub halted_goes : ok ≡ true → (is : List RegionState) (x : SystemState) (t : Vaulted V) → HaltGoes means j hs z u is x t → TurnGoes means precheck k gs y v false j is x t
    halted_goes done is x t halts s B p w a stood of fits handed = halted_there done is x t halts s B p w a stood of fits handed

  -- ---- as the code does it: the receipts stand apart during the step
  pub looks_put : (k : Client) (t : Transcribed) (rs : List ℕ) → t ≡ record k.transcript { receipts = rs } → LooksSame k (record k { transcript = t })
  looks_put k t rs e = record { state = refl; rest = refl; client = ap (λ (x : Transcribed). x.client) e; lines = ap (λ (x : Transcribed). x.lines) e }

  also_same : (behind : Client) (t2 t3 : Transcribed) (rs : List ℕ) (first upto : ℕ) → t2 ≡ record behind.transcript { receipts = rs } → t3 ≡ logged t2 first upto → LooksSame behind (record behind { transcript = t3 })
  also_same behind t2 t3 rs first upto back noted =
      record { state = refl; rest = refl; client = ap (λ (x : Transcribed). x.client) noted ∙ ap (λ (x : Transcribed). x.client) back; lines = ap (λ (x : Transcribed). x.lines) noted ∙ ap (λ (x : Transcribed). x.lines) back }

  notes_to : (k behind : Client) (t2 t3 : Transcribed) (rs : List ℕ) (y z : SystemState) (first last upto : ℕ) → rs ≡ k.transcript.receipts → t2 ≡ record behind.transcript { receipts = rs } → first ≡ y.records → last ≡ z.records → t3 ≡ logged t2 first upto
      → first ≤ upto → upto ≤ last → NotesTo k (record behind { transcript = t3 }) y.records upto z.records
  notes_to k behind t2 t3 rs y z first last upto taken back is_first is_last noted from to = record {
    from = omega (arith, from, is_first);
    to = omega (arith, to, is_last);
    receipts =
        ap (λ (x : Transcribed). x.receipts) noted
        ∙ (ap (λ l. l ++ range_with_len first (upto - first)) (ap (λ (x : Transcribed). x.receipts) back ∙ taken) ∙ ap (λ n. k.transcript.receipts ++ range_with_len n (upto - n)) is_first);
  }

  pub turned : (precheck : Bool) (k behind : Client) (t1 t2 t3 : Transcribed) (none rs : List ℕ) (gs hs : List RegionState) (y z : SystemState) (v u : Vaulted V) (ok cut : Bool) (first last upto : ℕ)
      → t1 ≡ record k.transcript { receipts = none } → rs ≡ k.transcript.receipts
      → StepGoes means precheck k.state (record k { transcript = t1 }) gs y v ok behind hs z u
      → t2 ≡ record behind.transcript { receipts = rs } → first ≡ y.records → last ≡ z.records → t3 ≡ logged t2 first upto → first ≤ upto → upto ≤ last → cut ≡ ok → (ok ≡ true → upto ≡ last)
      → TurnGoes means precheck k gs y v cut (record behind { transcript = t3 }) hs z u
  turned precheck k behind t1 t2 t3 none rs gs hs y z v u ok cut first last upto put taken goes back is_first is_last noted from to same_ok all =
      subst (λ (b : Bool). TurnGoes means precheck k gs y v b (record behind { transcript = t3 }) hs z u) (sym same_ok)
      (turn_goes precheck k (record k { transcript = t1 }) behind (record behind { transcript = t3 }) gs hs y z v u ok (looks_put k t1 none put) goes (also_same behind t2 t3 rs first upto back noted)
      upto (notes_to k behind t2 t3 rs y z first last upto taken back is_first is_last noted from to) (λ e. all e ∙ is_last))

  pub halted : (precheck : Bool) (k behind : Client) (t1 t2 t3 : Transcribed) (none rs : List ℕ) (gs hs is : List RegionState) (y z x : SystemState) (v u t : Vaulted V) (ok cut : Bool) (first last upto : ℕ)
      → t1 ≡ record k.transcript { receipts = none } → rs ≡ k.transcript.receipts
      → StepGoes means precheck k.state (record k { transcript = t1 }) gs y v ok behind hs z u
      → t2 ≡ record behind.transcript { receipts = rs } → first ≡ y.records → last ≡ z.records → t3 ≡ logged t2 first upto → first ≤ upto → upto ≤ last → cut ≡ false → ok ≡ true
      → HaltGoes means (record behind { transcript = t3 }) hs z u is x t → TurnGoes means precheck k gs y v cut (record behind { transcript = t3 }) is x t
  halted precheck k behind t1 t2 t3 none rs gs hs is y z x v u t ok cut first last upto put taken goes back is_first is_last noted from to unsaid done halts =
      subst (λ (b : Bool). TurnGoes means precheck k gs y v b (record behind { transcript = t3 }) is x t) (sym unsaid)
      (halted_goes precheck k (record k { transcript = t1 }) behind (record behind { transcript = t3 }) gs hs y z v u ok (looks_put k t1 none put) goes (also_same behind t2 t3 rs first upto back noted)
      upto (notes_to k behind t2 t3 rs y z first last upto taken back is_first is_last noted from to) done is x t halts)
