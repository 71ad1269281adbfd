-- A plan's next operation, among all regions and in words of the log; and the death in it.
use Rattle.std.proofs.Common.{◌≡◌, ℕ, Bool, true, false, List, [], ◌∷◌, ◌++◌, Option, Some, IsSomeAnd, OnOk, Result, Ok, Err, refl, sym, ap, subst, ◌∙◌, slice_get, slice_set}
use Rattle.std.specs.Prelude.{◌==◌}
use Rattle.std.specs.Option.{option_map_or}
use Rattle.std.specs.FinMap.{get}
use Rattle.std.proofs.lemmas.Bool.Decides.{Decides-eqb}
use Rattle.std.proofs.lemmas.List.{append_cancel_left, set-set}
use Rattle.dali_lists.proofs.Lists.{get_set, get_set_other, set_same}
use Rattle.dali_record.specs.declared.operations.Block.{Block}
use Rattle.dali_record.specs.declared.records.Record.{Record}
use Rattle.dali_region.specs.declared.Hold.{Hold}
use Rattle.dali_region.specs.State.{RegionState, dead}
use Rattle.dali_locks.specs.Locks.{Locks}
use Rattle.dali_att.specs.declared.state.State.TheVariants.{Live, Dead}
use Rattle.dali_att.specs.Table.{with_state}
use Rattle.dali_runs.specs.State.{SystemState, VaultState, CoreState, state_of, hold_in, hold_of}
use Rattle.dali_runs.specs.Steps.{in_state}
use Rattle.dali_runs.specs.Keeps.{IsFree, MayDie, dead_in, with_region}
use Rattle.dali_runs.specs.Regions.{IsOpen}
use Rattle.dali_runs.specs.Courses.{Step}
use Rattle.dali_system.specs.Served.{Served}
use Rattle.dali_system.specs.declared.want.Want.{Want}
use Rattle.dali_system.specs.declared.want.Want.TheVariants.{Region}
use Rattle.dali_calls.specs.Plans.{Planned, want_of, is_back, IsWhole}
use Rattle.dali_calls.proofs.Following.{first_of}
use Rattle.dali_calls.proofs.Operating.{steps_on}
use Rattle.dali_calls.proofs.Rows.{row_apart}
use Rattle.dali_calls.specs.declared.single.error.StepError.{StepError}
use Rattle.dali_calls.specs.Single.Operated.{Operated}
use Rattle.dali_calls.specs.Single.Refusals.{IsRefusedOn, IsRefusedIn, IsRefusal}
use Rattle.dali_calls.specs.Single.Stands.{core, IsAtRest, AtPlan}
use Rattle.dali_calls.specs.Single.Single.{Leads, OthersStay}
use Rattle.dali_calls.specs.Single.Advanced.{Advanced}
use Rattle.dali_calls.proofs.SingleLemmas.Leading.{leads_there}
use Rattle.dali_calls.proofs.SingleLemmas.Going.{alive, one_operated}
use Rattle.dali_calls.proofs.SingleLemmas.Reaching.{wanted}
use Rattle.dali_calls.specs.Stepwise.Opened.{IsOpened, IsLogged, IsMade, DiesOn, record_on}
use Rattle.dali_calls.specs.Stepwise.Stepwise.{LeadsOnce, OneFurther, DiesIn, IsDeath}
use Rattle.dali_calls.proofs.StepwiseLemmas.Growing.{led_grows}

-- ---- an operation that is logged
as_operated : (precheck : Bool) (p q : Planned) (g h : RegionState) (y z : SystemState) → IsMade precheck p g y q h z → Operated precheck p g y q h z
as_operated precheck p q g h y z m = record {
  block = m.block;
  of = m.is.of;
  opened = m.opened;
  steps = m.is.steps;
  goes = m.is.goes;
  is_open = m.is.is_open;
  region = m.region;
  checked = m.is.checked;
  onward = λ e. subst (λ (way : Bool). IsLogged way p m.block y q z) e m.logged;
  back = λ e. subst (λ (way : Bool). IsLogged way p m.block y q z) e m.logged;
}

since_then : (way : Bool) (p q : Planned) (b : Block) (y z : SystemState) → IsLogged way p b y q z → z.since ≡ y.since ++ record_on way p.txn b ∷ []
since_then false p q b y z l = ap (λ (s : SystemState). s.since) l.0
since_then true p q b y z l = ap (λ (s : SystemState). s.since) l.0

-- where the operation is made
place_of : (p : Planned) (r : ℕ) (g h : RegionState) (b : Block) (precheck : Bool) → Region r ≡ want_of p → IsOpened precheck p g b h → r ≡ b.region
place_of p r g h b precheck want is = let next = wanted p r want in first_of (r, next.0) (b.region, b.op) (sym next.1 ∙ is.of.op)

advanced : (precheck : Bool) (rs : List RegionState) (y z : SystemState) (p q : Planned) (r : ℕ) (g h : RegionState) → IsAtRest rs y p → IsWhole p → Region r ≡ want_of p → slice_get rs r ≡ Some g
    → IsMade precheck p g y q h z → Advanced precheck rs y p (slice_set rs r h) z q
advanced precheck rs y z p q r g h rest w want at m = let next = wanted p r want in one_operated precheck rs y z p q r next.0 g h rest w next.1 at (as_operated precheck p q g h y z m)

pub one_further : (precheck : Bool) (rs : List RegionState) (y z : SystemState) (p q : Planned) (r : ℕ) (g h : RegionState) → IsAtRest rs y p → IsWhole p → Region r ≡ want_of p → slice_get rs r ≡ Some g
    → IsMade precheck p g y q h z → OneFurther precheck p rs y q (slice_set rs r h) z
one_further precheck rs y z p q r g h rest w want at m =
    let here = place_of p r g m.opened m.block precheck want m.is in
    let go = advanced precheck rs y z p q r g h rest w want at m in
    record {
      block = m.block;
      region = g;
      opened = m.opened;
      at = subst (λ (n : ℕ). slice_get rs n ≡ Some g) here at;
      is = m.is;
      regions = ap (λ (n : ℕ). slice_set rs n h) here ∙ ap (slice_set rs m.block.region) m.region;
      logged = m.logged;
      rest = go.rest;
      same = go.same;
      undos = go.undos;
      leads = λ L v plan.
          let led = go.goes L v plan in
          let grown = led_grows precheck p.txn L led.log (core rs y v) (core (slice_set rs r h) z v) led.steps led.leads in
          let own : grown.0 ≡ record_on (is_back p) p.txn m.block ∷ [] = append_cancel_left y.since grown.0 (record_on (is_back p) p.txn m.block ∷ []) (sym grown.2 ∙ since_then (is_back p) p q m.block y z m.logged) in
          behind L led.log (core rs y v) (core (slice_set rs r h) z v) led.steps led.leads led.at (grown.1 ∙ ap (λ (xs : List Record). L ++ xs) own);
    }
  where
    behind : (L M : List Record) (c d : CoreState) (steps : List Step) → Leads precheck p.txn L c steps M d → AtPlan M d q → M ≡ L ++ record_on (is_back p) p.txn m.block ∷ [] → LeadsOnce precheck L c p m.block d q
    behind L M c d steps leads plan is = record {
      steps = steps;
      leads = subst (λ (l : List Record). Leads precheck p.txn L c steps l d) is leads;
      at = subst (λ (l : List Record). AtPlan l d q) is plan;
    }

pub others_then : (precheck : Bool) (rs : List RegionState) (y z : SystemState) (p q : Planned) (r : ℕ) (g h : RegionState) → IsAtRest rs y p → IsWhole p → Region r ≡ want_of p → slice_get rs r ≡ Some g
    → IsMade precheck p g y q h z → OthersStay y p.txn z
others_then precheck rs y z p q r g h rest w want at m =
    let go = advanced precheck rs y z p q r g h rest w want at m in
    λ u e. (go.rows u e, λ k. ap (λ (l : Locks). get l (u, k)) go.locks)

-- ---- one that is refused
pub refused_there : (precheck : Bool) (rs : List RegionState) (y : SystemState) (p : Planned) (r : ℕ) (g : RegionState) (e : StepError) → Region r ≡ want_of p → slice_get rs r ≡ Some g
    → IsRefusedOn precheck p g y e → IsRefusal precheck p rs y e
refused_there precheck rs y p r g e want at why =
    subst (λ (w : Want). IsRefusedIn w precheck p rs y e) want (subst (λ (o : Option RegionState). IsSomeAnd o (λ g. IsRefusedOn precheck p g y e)) (sym at) why)

pub all_same : (rs : List RegionState) (r : ℕ) (g h : RegionState) → slice_get rs r ≡ Some g → h ≡ g → slice_set rs r h ≡ rs
all_same rs r g h at same = set_same rs r h (at ∙ ap Some (sym same))

-- ---- a death
abbrev hold_with : ℕ → Block → Hold
hold_with t b = record { txn = t; dead = false; read = b.read; xor = b.xor; write = b.write }

may_die : (rs : List RegionState) (y : SystemState) (v : VaultState) (t r : ℕ) (b : Block) (g opened : RegionState) → state_of y t ≡ Some Live → IsFree (core rs y v) t → slice_get rs r ≡ Some g → IsOpen opened t b
    → MayDie (with_region (core rs y v) r opened) t (Some r)
may_die rs y v t r b g opened lives free at is = record {
  lives = lives;
  latched = record {
    held = λ q e. (hold_with t b, held_at q (same_place r q e), refl, refl);
    only = λ q h held own live. by_place q h held own (r == q) refl;
  };
}
  where
    same_place : (a c : ℕ) → (let o : Option ℕ = Some c in Some a ≡ o) → a ≡ c
    same_place a c e = cc

    held_here : hold_of (with_region (core rs y v) r opened) r ≡ Some (hold_with t b)
    held_here = ap hold_in (get_set rs r g opened at) ∙ is.hold

    held_at : (q : ℕ) → r ≡ q → hold_of (with_region (core rs y v) r opened) q ≡ Some (hold_with t b)
    held_at q e = subst (λ (n : ℕ). hold_of (with_region (core rs y v) r opened) n ≡ Some (hold_with t b)) e held_here

    by_place : (q : ℕ) (h : Hold) → hold_of (with_region (core rs y v) r opened) q ≡ Some h → h.txn ≡ t → (c : Bool) → (r == q) ≡ c → (let o : Option ℕ = Some r in o ≡ Some q)
    by_place q h held own true i = ap (λ (n : ℕ). let o : Option ℕ = Some n in o) ((Decides-eqb r q).0 i)
    by_place q h held own false i =
        let before : hold_of (core rs y v) q ≡ Some h = ap hold_in (sym (get_set_other rs r opened q (λ same. apart same i))) ∙ held in
        absurd (let no : (h.txn == t) ≡ false = free q h before in let yes : (h.txn == t) ≡ true = (Decides-eqb h.txn t).1 own in let both : false ≡ true = sym no ∙ yes in cc)
      where
        apart : r ≡ q → (r == q) ≡ false → ⊥
        apart f n = let is : (r == q) ≡ true = (Decides-eqb r q).1 f in cc

dead_there : (rs : List RegionState) (r : ℕ) (g opened : RegionState) → slice_get rs r ≡ Some g → dead_in (slice_set rs r opened) (Some r) ≡ slice_set rs r (dead opened)
dead_there rs r g opened at =
    ap (λ (o : Option RegionState). option_map_or (λ (k : RegionState). slice_set (slice_set rs r opened) r (dead k)) o (slice_set rs r opened)) (get_set rs r g opened at) ∙ set-set rs r opened (dead opened)

dies_in : (precheck : Bool) (rs : List RegionState) (y : SystemState) (p : Planned) (b : Block) (g opened : RegionState) → IsAtRest rs y p → slice_get rs b.region ≡ Some g → IsOpened precheck p g b opened
    → (L : List Record) (v : VaultState) → IsFree (core rs y v) p.txn → DiesIn precheck L (core rs y v) p.txn b.region (core (slice_set rs b.region (dead opened)) (in_state y p.txn (Dead (Some b.region))) v)
dies_in precheck rs y p b g opened rest at is L v free = record {
  mid = with_region (core rs y v) b.region opened;
  steps = steps_on b.region is.steps;
  leads = leads_there precheck L (core rs y v) p.txn b.region g opened is.steps (alive (state_of y p.txn) rest.lives) at is.goes;
  dies = (may_die rs y v p.txn b.region b g opened rest.lives free at is.is_open, (refl, ap (λ (gs : List RegionState). core gs (in_state y p.txn (Dead (Some b.region))) v) (sym (dead_there rs b.region g opened at))));
}

pub death : (precheck : Bool) (rs : List RegionState) (y z : SystemState) (p : Planned) (r t : ℕ) (g h : RegionState) → IsAtRest rs y p → Region r ≡ want_of p → slice_get rs r ≡ Some g → DiesOn precheck p g h t
    → z ≡ in_state y t (Dead (Some r)) → IsDeath precheck p rs y (slice_set rs r h) z
death precheck rs y z p r t g h rest want at d now =
    let here = place_of p r g d.opened d.block precheck want d.is in
    let there = subst (λ (n : ℕ). slice_get rs n ≡ Some g) here at in
    let regions = ap (λ (n : ℕ). slice_set rs n h) here ∙ ap (slice_set rs d.block.region) d.region in
    let system : z ≡ in_state y p.txn (Dead (Some d.block.region)) = now ∙ (ap (λ (n : ℕ). in_state y n (Dead (Some r))) d.own ∙ ap (λ (n : ℕ). in_state y p.txn (Dead (Some n))) here) in
    record {
      block = d.block;
      region = g;
      opened = d.opened;
      at = there;
      is = d.is;
      regions = regions;
      system = system;
      leads = λ L v free.
          subst (λ (gs : List RegionState). DiesIn precheck L (core rs y v) p.txn d.block.region (core gs z v)) (sym regions)
          (subst (λ (x : SystemState). DiesIn precheck L (core rs y v) p.txn d.block.region (core (slice_set rs d.block.region (dead d.opened)) x v)) (sym system)
          (dies_in precheck rs y p d.block g d.opened rest there d.is L v free));
    }

pub others_dead : (y z : SystemState) (p : Planned) (t r : ℕ) → t ≡ p.txn → z ≡ in_state y t (Dead (Some r)) → OthersStay y p.txn z
others_dead y z p t r own now =
    subst (λ (x : SystemState). OthersStay y p.txn x) (sym (now ∙ ap (λ (n : ℕ). in_state y n (Dead (Some r))) own)) (λ u e. (row_apart y.table p.txn u (with_state (Dead (Some r))) e, λ k. refl))

pub may_mark : (y : SystemState) (p : Planned) (t : ℕ) → t ≡ p.txn → state_of y p.txn ≡ Some Live → state_of y t ≡ Some Live
may_mark y p t own lives = ap (state_of y) own ∙ lives

-- ---- by how it ended
pub on_ok : {T E : Type 0} (r : Result T E) (P Q : Type 0) → (P → Q) → OnOk r P → OnOk r Q
on_ok (Ok x) P Q f h = f h
on_ok (Err e) P Q f h = tt

pub same_others : (y z : Served) (p : Planned) → z ≡ y → OthersStay y.state p.txn z.state
same_others y z p same = subst (λ (x : Served). OthersStay y.state p.txn x.state) (sym same) (λ u e. (refl, λ k. refl))
