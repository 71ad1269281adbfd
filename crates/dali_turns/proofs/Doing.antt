-- What a client does in a step: deeds, which tell steps of the core, and then a line or none.
use Rattle.std.proofs.Common.{◌≡◌, ℕ, ◌<◌, ◌≤◌, Bool, true, false, List, [], ◌∷◌, ◌++◌, length, map, Option, is_some, refl, ap, sym, subst, ◌∙◌, inl, inr, ⊎_elim, arith}
use Rattle.dali_record.specs.declared.records.Record.{Record}
use Rattle.dali_region.specs.State.{RegionState}
use Rattle.dali_store.specs.Store.{Files as Disk}
use Rattle.dali_store.specs.declared.store.Store.{Ghosts}
use Rattle.std.specs.FinMap as finmap
use Rattle.dali_runs.specs.State.{SystemState, CoreState, state_in, state_of}
use Rattle.dali_runs.specs.Courses.{Step}
use Rattle.dali_crash.specs.Checkpoints.{StoreStep, Does, Point, IsPointStep, IsPointCourse}
use Rattle.dali_crash.specs.Traces.{Start, bases_of}
use Rattle.dali_core.specs.Vault.Vaulted.{Vaulted}
use Rattle.dali_calls.specs.Others.{is_apart}
use Rattle.dali_core.specs.Steps.Courses.{is_quiet}
use Rattle.dali_clean.specs.Cleaned.{AreDead}
use Rattle.dali_core.specs.Cores.{HoldsPlaces}
use Rattle.dali_checkpoint.proofs.Calls.{course_join}
use Rattle.dali_transcripts.specs.Words.{Act, Why}
use Rattle.dali_transcripts.specs.World.{Deed, Meets, World, log_of}
use Rattle.dali_transcripts.specs.Moves.{Move, Outside as IsOutside, at, from, said, own, to}
use Rattle.dali_transcripts.specs.Causes.{HasCause}
use Rattle.dali_transcripts.specs.Rounds.{Standing, IsPlaced, Stands}
use Rattle.dali_transcripts.specs.Laws.{receipts_from}
use Rattle.dali_transcripts.proofs.Paths.{one_more_step}
use Rattle.dali_transcripts.proofs.Rounds.{deeds_are_done}
use Rattle.dali_calls.proofs.StepwiseLemmas.Waiting.{further}
use Rattle.dali_transcripts.specs.Telling.Deeds.{AreOf}
use Rattle.dali_transcripts.specs.Telling.Tells.{after, AreRightThen, Goes}
use Rattle.dali_transcripts.specs.Telling.Laws.{IsNoFault}
use Rattle.dali_turns.specs.declared.client.Client.{Client}
use Rattle.dali_turns.specs.declared.client.State.{State}
use Rattle.dali_turns.specs.Stood.{IsQuiet, Stood}
use Rattle.dali_turns.specs.Fits.{lines_of, Speaks, IsOf, Owns, Audits}
use Rattle.dali_turns.specs.Others.{LeavesOthers}
use Rattle.dali_turns.specs.Outside.{FitsOutside, MaySay}
use Rattle.dali_turns.specs.Goes.{RowsTell, Came, Went}
use Rattle.dali_turns.proofs.Deeds.{course_tells, meets_tells, goes_on}
use Rattle.dali_transcripts.specs.Clients.Told.{said_of}
use Rattle.dali_turns.proofs.Beside.{is_in_audit, audit_still, audit_then, image_still, image_then, course_leaves, course_longer}
use Rattle.dali_turns.proofs.Quietly.{is_older, quiet_deeds, quiet_stands, quiet_others}
use Rattle.dali_transactions.specs.Beside.Went.{is_open}

-- the client behind some deeds of the step that is under way
abbrev pub behind : Standing → World → List Deed → Standing
behind a w ds = record a { pending = a.pending ++ receipts_from (length (log_of w)) ds }

-- and behind the step
abbrev pub ended : Standing → Move → Standing
ended a x = record a { lines = a.lines ++ said x; pending = []; spot = to x }

-- outside a transaction
pub outside_by : (y : SystemState) (a : Standing) (x : Move) (b : Bool) (more rest : List Act) → rest ≡ more → MaySay y b → to x ≡ at (IsOutside b) more → IsPlaced false more → FitsOutside y (ended a x) rest
outside_by y a x b more rest same may spot placed = record {
  said = b;
  may = may;
  spot = spot ∙ ap (at (IsOutside b)) (sym same);
  none = refl;
  placed = subst (IsPlaced false) (sym same) placed;
}

module _ {V : Type 0} (means : Ghosts V) where
  pub record Did (precheck : Bool) (s : Start) (B : List (List Record)) (p : Point) (w : World) (c : ℕ) (state : State) (gs : List RegionState) (y : SystemState) (v : Vaulted V)
      (ds : List Deed) (C : List (List Record)) (q : Point) (hs : List RegionState) (z : SystemState) (u : Vaulted V) : Type 0 where
    pub steps : List StoreStep
    pub course : IsPointCourse p steps q
    pub goes : Goes w c p ds (after w c ds q.core) q
    pub stood : Stood means s C q (after w c ds q.core) precheck hs z u
    pub others : LeavesOthers means state s B p gs y v C q hs z u

  -- a store that failed has stopped the engine
  pub vault_stops : (precheck : Bool) (s : Start) (B : List (List Record)) (p : Point) (w : World) (gs : List RegionState) (y : SystemState) (v : Vaulted V) → Stood means s B p w precheck gs y v
      → p.core.vault.stopped ≡ true → is_some p.core.system.stop ≡ true
  vault_stops precheck s B p w gs y v stood e = ap (λ (m : SystemState). is_some m.stop) stood.stands.at.system ∙ stood.stops (sym stood.stands.at.vault.vault.stopped ∙ e)

  -- ---- nothing
  others_still : (state : State) (s : Start) (B : List (List Record)) (p : Point) (gs : List RegionState) (y : SystemState) (v : Vaulted V)
      → ((t : ℕ) → is_open (state_of y t) ≡ true → t < p.core.system.next) → LeavesOthers means state s B p gs y v B p gs y v
  others_still state s B p gs y v older = record {
    txns = λ t lives other. course_leaves t p p [] (older t lives) refl refl;
    audits = λ b less other. audit_still p b;
    image = λ flag other. image_still means s B p gs y v;
  }

  module _ (precheck : Bool) (s : Start) (B : List (List Record)) (p : Point) (w : World) (gs : List RegionState) (y : SystemState) (v : Vaulted V) (stood : Stood means s B p w precheck gs y v)
      (c : ℕ) (state : State) where
    pub older : (t : ℕ) → is_open (state_of y t) ≡ true → t < p.core.system.next
    older t lives = is_older (bases_of s) s.log p t stood.stands.at.vault.run (ap (λ (z : SystemState). is_open (state_of z t)) stood.stands.at.system ∙ lives)

    still_stood : (ds : List Deed) → Goes w c p ds (after w c ds p.core) p → Stood means s B p (after w c ds p.core) precheck gs y v
    still_stood ds goes = record {
      stands = stood.stands;
      files = stood.files;
      quiet = stood.quiet;
      stops = stood.stops;
      tells = goes.tells;
      precheck_is = stood.precheck_is;
      began = stood.began;
      since = stood.since;
      keeps = stood.keeps;
    }

    without_steps : (ds : List Deed) → Goes w c p ds (after w c ds p.core) p → Did precheck s B p w c state gs y v ds B p gs y v
    without_steps ds goes = record {
      steps = [];
      course = refl;
      goes = goes;
      stood = still_stood ds goes;
      others = others_still state s B p gs y v older;
    }

    pub did_nothing : Did precheck s B p w c state gs y v [] B p gs y v
    did_nothing = without_steps [] (course_tells (bases_of s) s.log w c p p [] [] stood.stands.at.vault.run stood.tells (refl, refl))

    -- it is refused
    pub did_meet : (why : Why) → IsNoFault why → AreRightThen w c (Meets why ∷ []) p.core → Did precheck s B p w c state gs y v (Meets why ∷ []) B p gs y v
    did_meet why fair right = without_steps (Meets why ∷ []) (meets_tells w c p why stood.tells fair right)

    -- ---- a step that calls no store
    pub did_quietly : (q : Point) (x : Step) (ds : List Deed) (z : SystemState) (hs : List RegionState) → is_quiet x ≡ true → IsPointStep p (Does x) q → AreOf w c p (Does x) ds → AreRightThen w c ds q.core → q.core.system ≡ z → q.core.regions ≡ hs
        → z.taken ≡ y.taken → AreDead hs → ((fs : Disk) → HoldsPlaces gs fs → HoldsPlaces hs fs) → IsQuiet z → (is_some y.stop ≡ true → is_some z.stop ≡ true)
        → ((t : ℕ) → is_open (state_of y t) ≡ true → (Owns state t → ⊥) → is_apart t x ≡ true) → ((b : ℕ) → (Audits state b → ⊥) → is_in_audit b x ≡ false)
        → Did precheck s B p w c state gs y v ds B q hs z v
    did_quietly q x ds z hs quiet step are right system regions taken dead places calm stop apart out =
        subst (λ (rs : List RegionState). Did precheck s B p w c state gs y v ds B q rs z v) regions
        (subst (λ (m : SystemState). Did precheck s B p w c state gs y v ds B q q.core.regions m v) system (record {
          steps = Does x ∷ [];
          course = (q, step, refl);
          goes = quiet_deeds means s B p q w precheck gs y v stood x quiet step c ds are right;
          stood = quiet_stands means s B p q w precheck gs y v stood x quiet step c ds are right same
              (subst AreDead (sym regions) dead) (λ fs held. subst (λ (rs : List RegionState). HoldsPlaces rs fs) (sym regions) (places fs held))
              (subst IsQuiet (sym system) calm) (λ e. ap (λ (m : SystemState). is_some m.stop) system ∙ stop e);
          others = quiet_others means s B p q w precheck gs y v stood x quiet step state apart out same;
        }))
      where
        same : q.core.system.taken ≡ p.core.system.taken
        same = ap (λ (m : SystemState). m.taken) system ∙ (taken ∙ ap (λ (m : SystemState). m.taken) (sym stood.stands.at.system))

  -- ---- one behind another
  pub others_then : (state : State) (s : Start) (B C D : List (List Record)) (p q r : Point) (gs hs ks : List RegionState) (y z x : SystemState) (v u t : Vaulted V) → p.core.system ≡ y → q.core.system ≡ z → length p.log ≤ length q.log → (t.stopped ≡ false → u.stopped ≡ false)
      → LeavesOthers means state s B p gs y v C q hs z u → LeavesOthers means state s C q hs z u D r ks x t → LeavesOthers means state s B p gs y v D r ks x t
  others_then state s B C D p q r gs hs ks y z x v u t is_y is_z longer ran f g = record {
    txns = λ n lives other.
        let one = f.txns n lives other in
        further n p.log q.log r.log p.core q.core r.core one
        (g.txns n (ap (λ (m : SystemState). is_open (state_of m n)) (sym is_z) ∙ (ap (λ r. is_open (state_in r)) one.row ∙ (ap (λ (m : SystemState). is_open (state_of m n)) is_y ∙ lives))) other);
    audits = λ b less other. audit_then p q r b (f.audits b less other) (g.audits b (omega (arith, less, longer)) other);
    image = λ flag other. let one = f.image flag other in image_then means s B C D p q r gs hs ks y z x v u t ran one (g.image (one.flag ∙ flag) other);
  }

  pub did_then : (precheck : Bool) (s : Start) (B C D : List (List Record)) (p q r : Point) (w : World) (c : ℕ) (state : State) (gs hs ks : List RegionState) (y z x : SystemState) (v u t : Vaulted V) (ds es : List Deed)
      → Stood means s B p w precheck gs y v → (t.stopped ≡ false → u.stopped ≡ false) → Did precheck s B p w c state gs y v ds C q hs z u → Did precheck s C q (after w c ds q.core) c state hs z u es D r ks x t
      → Did precheck s B p w c state gs y v (ds ++ es) D r ks x t
  did_then precheck s B C D p q r w c state gs hs ks y z x v u t ds es stood ran one two = record {
    steps = one.steps ++ two.steps;
    course = course_join p q r one.steps two.steps one.course two.course;
    goes = subst (λ (m : World). Goes w c p (ds ++ es) m r) whole.is whole;
    stood = subst (λ (m : World). Stood means s D r m precheck ks x t) whole.is two.stood;
    others = others_then state s B C D p q r gs hs ks y z x v u t stood.stands.at.system one.stood.stands.at.system (course_longer p q one.steps one.course) ran one.others two.others;
  }
    where
      whole : Goes w c p (ds ++ es) (after (after w c ds q.core) c es r.core) r
      whole = goes_on w (after w c ds q.core) (after (after w c ds q.core) c es r.core) c p q r ds es one.goes two.goes

  -- and then the client ends its step, or stays in it
  pub did_went_live : (precheck : Bool) (s : Start) (B C : List (List Record)) (p q : Point) (w : World) (a : Standing) (state : State) (gs hs ks : List RegionState) (y z x : SystemState) (v u t : Vaulted V) (ds : List Deed) (ok : Bool) (j : Client)
      → Stood means s B p w precheck gs y v → (t.stopped ≡ false → u.stopped ≡ false) → ((n : ℕ) → is_open (state_of z n) ≡ true → is_open (state_of y n) ≡ true) → Did precheck s B p w a.client state gs y v ds C q hs z u
      → Went means precheck s C q (after w a.client ds q.core) (behind a w ds) state hs z u ok j ks x t → Went means precheck s B p w a state gs y v ok j ks x t
  did_went_live precheck s B C p q w a state gs hs ks y z x v u t ds ok j stood ran lived one two = record {
    to = two.to;
    batches = two.batches;
    steps = one.steps ++ two.steps;
    course = course_join p q two.to one.steps two.steps one.course two.course;
    deeds = ds ++ two.deeds;
    world = two.world;
    goes = goes_on w (after w a.client ds q.core) two.world a.client p q two.to ds two.deeds one.goes two.goes;
    stood = two.stood;
    standing = two.standing;
    client = two.client;
    acts = two.acts;
    is = two.is;
    came = two.came;
    rows = λ e runs n lives. ⊎_elim (λ own. inl own) (λ was. inr (lived n was.0, was.1)) (two.rows e runs n lives);
    others = others_then state s B C two.batches p q two.to gs hs ks y z x v u t stood.stands.at.system one.stood.stands.at.system (course_longer p q one.steps one.course) ran one.others two.others;
  }

  pub did_went : (precheck : Bool) (s : Start) (B C : List (List Record)) (p q : Point) (w : World) (a : Standing) (state : State) (gs hs ks : List RegionState) (y z x : SystemState) (v u t : Vaulted V) (ds : List Deed) (ok : Bool) (j : Client)
      → Stood means s B p w precheck gs y v → (t.stopped ≡ false → u.stopped ≡ false) → z.table ≡ y.table → Did precheck s B p w a.client state gs y v ds C q hs z u
      → Went means precheck s C q (after w a.client ds q.core) (behind a w ds) state hs z u ok j ks x t → Went means precheck s B p w a state gs y v ok j ks x t
  did_went precheck s B C p q w a state gs hs ks y z x v u t ds ok j stood ran same one two =
      did_went_live precheck s B C p q w a state gs hs ks y z x v u t ds ok j stood ran (λ n lives. ap (λ m. is_open (state_in (finmap.get m n))) (sym same) ∙ lives) one two

  -- a vault that runs in the end ran in between
  pub still_ran : (precheck : Bool) (s : Start) (B : List (List Record)) (p : Point) (w : World) (a : Standing) (state : State) (gs ks : List RegionState) (y x : SystemState) (v t : Vaulted V) (ok : Bool) (j : Client)
      → Stood means s B p w precheck gs y v → Went means precheck s B p w a state gs y v ok j ks x t → t.stopped ≡ false → v.stopped ≡ false
  still_ran precheck s B p w a state gs ks y x v t ok j stood two e = by_test v.stopped refl
    where
      by_test : (b : Bool) → v.stopped ≡ b → v.stopped ≡ false
      by_test false f = f
      by_test true f =
          let first : w.core.vault.stopped ≡ true = ap (λ (c : CoreState). c.vault.stopped) stood.tells.core ∙ (stood.stands.at.vault.vault.stopped ∙ f) in
          let last : two.world.core.vault.stopped ≡ true = two.goes.grows.failed first in
          let there : t.stopped ≡ true = sym (ap (λ (c : CoreState). c.vault.stopped) two.goes.tells.core ∙ two.stood.stands.at.vault.vault.stopped) ∙ last in
          let both : true ≡ false = sym there ∙ e in absurd (cc)

  -- ---- the end of a step
  -- the world is the one behind its deeds, and there the client stands
  unfoldable pub went_to : (precheck : Bool) (s : Start) (B C : List (List Record)) (p q : Point) (w : World) (a b : Standing) (state : State) (gs hs : List RegionState) (y z : SystemState) (v u : Vaulted V) (ds : List Deed) (ok : Bool) (j : Client)
      → Did precheck s B p w a.client state gs y v ds C q hs z u → b.client ≡ a.client → b.acts ≡ a.acts → Speaks (after w a.client ds q.core) b j → Came means ok s C q (after w a.client ds q.core) hs z u b j → (ok ≡ true → RowsTell state y j.state z)
      → Went means precheck s B p w a state gs y v ok j hs z u
  went_to precheck s B C p q w a b state gs hs y z v u ds ok j did client acts is came rows = record {
    to = q;
    batches = C;
    steps = did.steps;
    course = did.course;
    deeds = ds;
    world = after w a.client ds q.core;
    goes = did.goes;
    stood = did.stood;
    standing = b;
    client = client;
    acts = acts;
    is = is;
    came = came;
    rows = rows;
    others = did.others;
  }

  module _ (precheck : Bool) (s : Start) (B C : List (List Record)) (p q : Point) (w : World) (a : Standing) (state : State) (gs hs : List RegionState) (y z : SystemState) (v u : Vaulted V) (ds : List Deed) (k j : Client)
      (is : IsOf w a k) (did : Did precheck s B p w a.client state gs y v ds C q hs z u) where
    pub so_far : Stands (after w a.client ds q.core) (behind a w ds)
    so_far = deeds_are_done w (after w a.client ds q.core) a.client a.acts a.lines a.pending a.spot ds did.goes.grows did.goes.more is.stands

    -- the command is under way still
    pub went_on : (ok : Bool) → j.transcript ≡ k.transcript → Came means ok s C q (after w a.client ds q.core) hs z u (behind a w ds) j → (ok ≡ true → RowsTell state y j.state z)
        → Went means precheck s B p w a state gs y v ok j hs z u
    went_on ok same came rows =
        went_to precheck s B C p q w a (behind a w ds) state gs hs y z v u ds ok j did refl refl
        (record { client = is.client ∙ ap (λ t. t.client) (sym same); lines = is.lines ∙ ap (λ t. map said_of t.lines) (sym same); stands = so_far }) came rows

    module _ (x : Move) (starts : a.spot ≡ from x) (own_is : a.pending ++ receipts_from (length (log_of w)) ds ≡ own x) (cause : HasCause (after w a.client ds q.core) a.client x) where
      -- it is done, and its line is said
      pub went_by : j.transcript.client ≡ k.transcript.client → lines_of j ≡ lines_of k ++ said x → Came means true s C q (after w a.client ds q.core) hs z u (ended a x) j → RowsTell state y j.state z
          → Went means precheck s B p w a state gs y v true j hs z u
      went_by client lines came rows =
          went_to precheck s B C p q w a (ended a x) state gs hs y z v u ds true j did refl refl
          (record {
            client = is.client ∙ sym client;
            lines = ap (λ l. l ++ said x) is.lines ∙ sym lines;
            stands = one_more_step (after w a.client ds q.core) a.client a.acts a.lines _ (a.pending ++ receipts_from (length (log_of w)) ds) a.spot x so_far starts own_is cause;
          })
          came (λ e. rows)

      -- or memory for the line was refused
      pub went_silent : j.transcript ≡ k.transcript → Went means precheck s B p w a state gs y v false j hs z u
      went_silent same = went_on false same (inr (record { move = x; starts = starts; own_is = own_is; cause = cause; lacking = said x; said_is = refl })) (λ e. absurd (cc))
