-- An operation is opened, and logged or taken back; then its region is as before.
use Rattle.std.proofs.Common.{◌≡◌, ℕ, Bool, true, false, not, ◌&&◌, List, [], ◌∷◌, Option, Some, None, IsSomeAnd, IfSome, Result, Ok, Err, refl, sym, ap, subst, ◌∙◌}
use Rattle.std.specs.Int.Bits.{bit_xor, xor_self, xor_assoc, xor_zero_r}
use Rattle.dali_words.specs.Words.{parity_of}
use Rattle.dali_record.specs.declared.operations.Block.{Block}
use Rattle.dali_record.specs.declared.records.Record.TheVariants.{Forward}
use Rattle.dali_record.specs.Blocks.{IsSoundOn}
use Rattle.dali_record.specs.Spelling.{record_length}
use Rattle.dali_region.specs.declared.Hold.{Hold}
use Rattle.dali_region.specs.declared.Receipt.{Receipt}
use Rattle.dali_region.specs.State.{RegionState, IsProtected, IsLive, taken_back, touched, dead}
use Rattle.dali_region.specs.Answers.{latch_answer}
use Rattle.dali_region.proofs.Holds.{unheld-same}
use Rattle.dali_runs.specs.State.{SystemState}
use Rattle.dali_runs.specs.Steps.{op_logged, back_logged}
use Rattle.dali_runs.specs.Keeps.{HasRoom}
use Rattle.dali_runs.specs.Regions.{RegionStep, Latch, NoteReads, Update, TakeBack, Poke, Check, Die, Clean, IsOpen, region_after}
use Rattle.dali_system.specs.declared.error.SystemError.{SystemError}
use Rattle.dali_system.specs.declared.error.SystemError.TheVariants.{OutOfMemory as Memory}
use Rattle.dali_system.specs.Served.{Served}
use Rattle.dali_system.proofs.UnderWays.{latched_unheld, IsSameWay}
use Rattle.dali_calls.specs.Plans.{Planned, is_back, went_back, with_operation, commit_refusal, GoesOn}
use Rattle.dali_calls.specs.Operating.{Goes, AreWritten}
use Rattle.dali_calls.specs.declared.single.error.StepError.TheVariants.{System}
use Rattle.dali_calls.specs.Single.Refusals.{IsRefusedOn}
use Rattle.dali_calls.proofs.SingleLemmas.Writing.{IsMade as IsLatchedFor, Written, written, as_before, refused_so, promised_still}
use Rattle.dali_calls.specs.Stepwise.Opened.{Opens, IsLogged, IsMade, DiesOn}

-- ---- the region
-- an operation changes only the words, the codeword and the hold
pub kept_by : (t : ℕ) (g h : RegionState) (xs : List RegionStep) → Goes t g xs h → h ≡ record g { words = h.words; codeword = h.codeword; hold = h.hold }
kept_by t g h [] go = subst (λ (k : RegionState). k ≡ record g { words = k.words; codeword = k.codeword; hold = k.hold }) go refl
kept_by t g h (Latch u ∷ xs) go = kept_by t (region_after (Latch u) g) h xs go.2
kept_by t g h (NoteReads mask ∷ xs) go = kept_by t (region_after (NoteReads mask) g) h xs go.2
kept_by t g h (Update word value ∷ xs) go = kept_by t (region_after (Update word value) g) h xs go.2
kept_by t g h (TakeBack ∷ xs) go = kept_by t (region_after TakeBack g) h xs go.2
kept_by t g h (Poke word mask ∷ xs) go = absurd go.1
kept_by t g h (Check ∷ xs) go = absurd go.1
kept_by t g h (Die ∷ xs) go = absurd go.1
kept_by t g h (Clean side ∷ xs) go = absurd go.1

xor_undone : (a b c : ℕ) → bit_xor a b ≡ c → bit_xor c b ≡ a
xor_undone a b c e = ap (λ (n : ℕ). bit_xor n b) (sym e) ∙ (xor_assoc a b b ∙ (ap (bit_xor a) (xor_self b) ∙ xor_zero_r a))

-- nothing was written to it
unheld_back : (g : RegionState) → IsProtected g → g.hold ≡ None → taken_back g ≡ g
unheld_back g p free =
    let same = unheld-same g p free in
    let codeword : bit_xor g.stray (parity_of g.back) ≡ g.codeword = ap (λ (ws : List ℕ). bit_xor g.stray (parity_of ws)) (sym same) ∙ xor_undone g.codeword (parity_of g.words) g.stray p.codeword in
    ap (λ (ws : List ℕ). record g { words = ws; codeword = bit_xor g.stray (parity_of g.back); hold = None }) (sym same)
    ∙ (ap (λ (n : ℕ). record g { codeword = n; hold = None }) codeword ∙ ap (λ (o : Option Hold). record g { hold = o }) (sym free))

pub same_region : (t : ℕ) (g h : RegionState) (xs : List RegionStep) → IsProtected g → g.hold ≡ None → Goes t g xs h → taken_back h ≡ g
same_region t g h xs p free go = ap taken_back (kept_by t g h xs go) ∙ unheld_back g p free

-- ---- the operation is open
pub opens : (precheck : Bool) (p p1 p2 : Planned) (g g1 g2 : RegionState) → Ok tt ≡ latch_answer (not (is_back p) && precheck) g → (is_back p ≡ false → precheck ≡ true → g.stray ≡ 0)
    → IsLatchedFor p g p1.operation g1 → IsSomeAnd p1.operation (λ o. IsSoundOn g.words o.block) → p1 ≡ with_operation p p1.operation
    → IsSomeAnd p2.operation (λ o. IsOpen g2 o.txn o.block) → IsSameWay p1.operation p2.operation → p2 ≡ with_operation p1 p2.operation → AreWritten g1 g2
    → Opens precheck p g p2 g2
opens precheck p p1 p2 g g1 g2 latch checked made sound one opened same two w =
    let all = written p p1 p2 g g1 g2 (latched_unheld (not (is_back p) && precheck) g latch) made sound one opened same two w in
    record {
      operation = all.operation;
      is = all.is;
      own = all.txn;
      opened = record {
        latch = latch;
        checked = checked;
        of = all.of;
        sound = all.sound;
        steps = all.steps;
        goes = all.goes;
        is_open = subst (λ (t : ℕ). IsOpen g2 t all.operation.block) all.txn all.is_open;
      };
    }

pub as_written : (precheck : Bool) (p : Planned) (g : RegionState) (q : Planned) (h : RegionState) → Opens precheck p g q h → Written p g q h
as_written precheck p g q h o = record {
  operation = o.operation;
  is = o.is;
  txn = o.own;
  of = o.opened.of;
  sound = o.opened.sound;
  steps = o.opened.steps;
  goes = o.opened.goes;
  is_open = subst (λ (t : ℕ). IsOpen h t o.operation.block) (sym o.own) o.opened.is_open;
}

pub is_held : (g : RegionState) (t : ℕ) (b : Block) → IsOpen g t b → IsLive g
is_held g t b o = subst (λ (h : Option Hold). IsSomeAnd h (λ k. k.dead ≡ false)) (sym o.hold) refl

pub open_now : (precheck : Bool) (p : Planned) (g : RegionState) (q : Planned) (h : RegionState) → Opens precheck p g q h → IsSomeAnd q.operation (λ o. IsOpen h o.txn o.block)
open_now precheck p g q h o =
    subst (λ (x : Planned). IsSomeAnd x.operation (λ o. IsOpen h o.txn o.block)) (sym o.is) (subst (λ (t : ℕ). IsOpen h t o.operation.block) (sym o.own) o.opened.is_open)

-- ---- it is taken back
pub nothing_made : (precheck : Bool) (p q r : Planned) (g h k : RegionState) (y z : Served) → IsProtected g → p.operation ≡ None → Opens precheck p g q h → z ≡ y → k ≡ taken_back h → r ≡ with_operation q None
    → (r ≡ p) × (k ≡ g) × (z ≡ y)
nothing_made precheck p q r g h k y z safe closed o still region plan = (
  as_before p q r g h closed (as_written precheck p g q h o) plan,
  region ∙ same_region p.txn g h o.opened.steps safe (latched_unheld (not (is_back p) && precheck) g o.opened.latch) o.opened.goes,
  still,
)

-- ---- it is logged
pub made : (precheck : Bool) (p q r : Planned) (g h k : RegionState) (y z : Served) → Opens precheck p g q h
    → (is_back q ≡ false → IfSome q.operation (λ o. (z ≡ record y { state = op_logged y.state q.txn o.block }) × HasRoom y.state (Forward q.txn o.block) × GoesOn q o.block r))
    → (is_back q ≡ true → IfSome q.operation (λ o. (z ≡ record y { state = back_logged y.state q.txn o.block }) × (y.state.stop ≡ None) × (r ≡ went_back q)))
    → k ≡ touched h → IsMade precheck p g y.state r k z.state
made precheck p q r g h k y z o onward back is = record { block = b; opened = h; is = o.opened; region = is; logged = by_way (is_back p) refl }
  where
    b : Block
    b = o.operation.block

    went_on : (z ≡ record y { state = op_logged y.state p.txn b }) × HasRoom y.state (Forward p.txn b) × GoesOn (with_operation p (Some o.operation)) b r
        → (z.state ≡ op_logged y.state p.txn b) × HasRoom y.state (Forward p.txn b) × GoesOn p b r
    went_on h = (ap (λ (x : Served). x.state) h.0, h.1, record { follows = h.2.follows; begun = h.2.begun; changes = h.2.changes; rest = h.2.rest })

    came_back : (z ≡ record y { state = back_logged y.state p.txn b }) × (y.state.stop ≡ None) × (r ≡ went_back p)
        → (z.state ≡ back_logged y.state p.txn b) × (y.state.stop ≡ None) × (r ≡ went_back p)
    came_back h = (ap (λ (x : Served). x.state) h.0, h.1, h.2)

    by_way : (way : Bool) → is_back p ≡ way → IsLogged way p b y.state r z.state
    by_way false e = went_on (subst (λ (x : Planned). is_back x ≡ false → IfSome x.operation (λ o. (z ≡ record y { state = op_logged y.state x.txn o.block }) × HasRoom y.state (Forward x.txn o.block) × GoesOn x o.block r)) o.is onward e)
    by_way true e = came_back (subst (λ (x : Planned). is_back x ≡ true → IfSome x.operation (λ o. (z ≡ record y { state = back_logged y.state x.txn o.block }) × (y.state.stop ≡ None) × (r ≡ went_back x))) o.is back e)

pub refused_then : (precheck : Bool) (p q : Planned) (g h : RegionState) (y : SystemState) (cause : SystemError) → Opens precheck p g q h
    → IfSome q.operation (λ o. IfSome (commit_refusal (is_back q) y (record_length (Forward q.txn o.block))) (λ e. let r : Result Receipt SystemError = Err e in let q : Result Receipt SystemError = Err cause in q ≡ r))
    → IfSome q.operation (λ o. commit_refusal (is_back q) y (record_length (Forward q.txn o.block)) ≡ None → cause ≡ Memory)
    → IsRefusedOn precheck p g y (System cause)
refused_then precheck p q g h y cause o refused memory = refused_so precheck p q g h y cause (as_written precheck p g q h o) o.opened.latch refused memory

pub still_promised : (precheck : Bool) (p q r : Planned) (g h : RegionState) (y z : Served) → Opens precheck p g q h
    → (is_back q ≡ false → IfSome q.operation (λ o. (z ≡ record y { state = op_logged y.state q.txn o.block }) × HasRoom y.state (Forward q.txn o.block) × GoesOn q o.block r))
    → (is_back q ≡ true → IfSome q.operation (λ o. (z ≡ record y { state = back_logged y.state q.txn o.block }) × (y.state.stop ≡ None) × (r ≡ went_back q)))
    → z.promised ≡ y.promised
still_promised precheck p q r g h y z o onward back = promised_still p q r g h y z (as_written precheck p g q h o) onward back

-- ---- its client dies
pub dies_on : (precheck : Bool) (p q : Planned) (g h : RegionState) (o : Option Hold) (hold : Hold) (k : RegionState) → Opens precheck p g q h → o ≡ h.hold → o ≡ Some hold → k ≡ dead h → DiesOn precheck p g k hold.txn
dies_on precheck p q g h o hold k opened is some region = record { own = own_of hold _ (sym some ∙ (is ∙ opened.opened.is_open.hold)); block = opened.operation.block; opened = h; is = opened.opened; region = region }
  where
    own_of : (a b : Hold) → (let s : Option Hold = Some b in Some a ≡ s) → a.txn ≡ b.txn
    own_of a b e = cc
