-- What client and system know wherever the history has come before they tell a step together, and behind it.
use Rattle.std.proofs.Common.{◌≡◌, ℕ, Bool, true, false, List, [], ◌∷◌, ◌++◌, length, Option, Some, None, refl, ap, sym, subst, ◌∙◌, append_assoc}
use Rattle.std.specs.Prelude.{slice_get, filter_map, fold}
use Rattle.dali_lists.proofs.Lists.{get_behind}
use Rattle.std.proofs.lemmas.List.Elements.{filter_map-append}
use Rattle.std.proofs.lemmas.List.Sums.{fold-append}
use Rattle.dali_record.specs.declared.records.Record.{Record}
use Rattle.dali_record.specs.declared.records.Record.TheVariants.{Begin, Ended}
use Rattle.dali_runs.specs.State.{SystemState, CoreState}
use Rattle.dali_runs.specs.Run.{Bases, RunsOn}
use Rattle.dali_runs.proofs.FactsLemmas.KeysAndUndos.{has_counts}
use Rattle.dali_calls.specs.Single.Stands.{core}
use Rattle.dali_crash.specs.Checkpoints.{StoreStep, Point}
use Rattle.dali_crash.specs.Traces.{Start, bases_of}
use Rattle.dali_transcripts.specs.World.{Deed, Logs, Claims, Happening, logged_by, record_of, state_step}
use Rattle.dali_notes.specs.History.{IsSeen, Sight, AllMay, MayAdd, Added}
use Rattle.dali_concurrent.specs.Entries.{Entry, Did, system_note, client_note, deed_in, deeds_of, actor_by, actor_step}
use Rattle.dali_concurrent.specs.Rules.{Outset, before, count_of, log_by, state_by, AllFit}
use Rattle.dali_concurrent.specs.Told.{Effect, Leaves, OnSystem, effect_on, Item, Line, History, plain, plain_one, core_told}
use Rattle.dali_concurrent.specs.Kept.{Follows, SystemTold}
use Rattle.dali_concurrent.specs.Holds.{IsLed}
use Rattle.dali_concurrent.specs.Own.{HasOnly, takes_one, lets_one}
use Rattle.dali_concurrent.proofs.Entries.{deeds_push}
use Rattle.dali_concurrent.proofs.Told.{plain-append, plain_seen, told_push}
use Rattle.dali_concurrent.proofs.Kept.{fit_of, system_meets}
use Rattle.dali_concurrent.proofs.Holds.{runs_there}
use Rattle.dali_concurrent.proofs.Own.{only_begins, only_ends, only_claims, only_lets, only_stays, only_seen}
use Rattle.dali_locked.specs.Begun.{Begun, outset, FromEach, Of, may_add, Led, LedFrom}
use Rattle.dali_locked.proofs.Adding.{led_now, may_add_both, Behind, added_both}
use Rattle.dali_locked.proofs.SystemLines.{by_both}

-- the history has come to now; the client has seen so much of it, and the system y is the one that is told
pub record InHand (bases : Bases) (p : Point) (o : Outset) (n c : ℕ) (seen : History) (y : SystemState) (now : History) : Type 0 where
  pub led : IsLed bases p o now
  pub count : count_of o ≡ n
  pub mine : IsSeen now (client_note (count_of o) c) seen
  pub is : y ≡ (core_told o now).system

-- client and system are in hand, with these notes: x of the client c, and y of the system with the state st
pub record Hands (b : Begun) (x y : Sight Item) (c : ℕ) (st : SystemState) : Type 0 where
  pub client : x.number ≡ client_note b.count c
  pub system : y.number ≡ system_note
  pub led : Led b x.seen
  pub told : Of b (λ o T. SystemTold o st T) y.seen

module _ (b : Begun) (x y : Sight Item) (c : ℕ) (st : SystemState) (h : Hands b x y c st) where
  hand : (s : Start) (p : Point) → b.each s p → (now : History) → LedFrom b s p now → IsSeen now x.number x.seen → IsSeen now y.number y.seen → InHand (bases_of s) p (outset b s p) b.count c x.seen st now
  hand s p from now is mine theirs = record {
    led = is.led;
    count = is.count;
    mine = subst (λ k. IsSeen now k x.seen) (h.client ∙ ap (λ m. client_note m c) (sym is.count)) mine;
    is = system_meets (bases_of s) p (outset b s p) y.seen now st (subst (λ k. IsSeen now k y.seen) h.system theirs) is.led.all (h.told s p from);
  }

  -- the system's note has met the client's
  pub met : (new : History) → IsSeen new x.number x.seen → IsSeen new y.number y.seen → AllMay (may_add b) new → (s : Start) (p : Point) → b.each s p → InHand (bases_of s) p (outset b s p) b.count c x.seen st new
  met new mine theirs all s p from = hand s p from new (led_now b x.seen new h.led all s p from) mine theirs

  pub met_kept : (n : Sight Item) → n.table ≡ b.table → n.number ≡ y.number → IsSeen n.seen x.number x.seen → IsSeen n.seen y.number y.seen → AllMay (may_add b) n.seen
      → (n.table ≡ b.table) × (n.number ≡ system_note) × Led b n.seen × Of b (λ o T. SystemTold o st T) n.seen
  met_kept n home number mine theirs all = (home, number ∙ h.system, led_now b x.seen n.seen h.led all, λ s p from. (met n.seen mine theirs all s p from).is)

  numbers : (item : Item) → ◌≡◌ {A = Line} (x.number ∷ y.number ∷ [], item) (by_both b.count c, item)
  numbers item = ap (λ k. (k ∷ y.number ∷ [], item)) h.client ∙ ap (λ k. (client_note b.count c ∷ k ∷ [], item)) h.system

  pub may_tell : (item : Item)
      → ((s : Start) (p : Point) → b.each s p → (now : History) → InHand (bases_of s) p (outset b s p) b.count c x.seen st now → Follows (bases_of s) p (outset b s p) now (by_both b.count c, item))
      → MayAdd (may_add b) (x ∷ y ∷ []) item
  may_tell item each = may_add_both b x y item h.led (λ s p from now is mine theirs.
      subst (Follows (bases_of s) p (outset b s p) now) (sym (numbers item)) (each s p from now (hand s p from now is mine theirs)))

  -- behind it
  pub record Came (s : Start) (p : Point) (item : Item) (new : History) : Type 0 where
    pub now : History
    pub before : InHand (bases_of s) p (outset b s p) b.count c x.seen st now
    pub is : new ≡ now ++ (by_both b.count c, item) ∷ []
    pub behind : IsLed (bases_of s) p (outset b s p) new

  pub came : (item : Item) (new : History) → Added (x ∷ y ∷ []) item new → AllMay (may_add b) new → (s : Start) (p : Point) → b.each s p → Came s p item new
  came item new added all s p from =
      let w : Behind b s p x y item new = added_both b x y item new h.led added all s p from in
      record {
        now = w.now;
        before = hand s p from w.now w.before w.mine w.theirs;
        is = w.is ∙ ap (λ e. w.now ++ e ∷ []) (numbers item);
        behind = w.behind.led;
      }

  -- what is so behind the line is so of what they have seen
  pub known : (item : Item) (new : History) → Added (x ∷ y ∷ []) item new → AllMay (may_add b) new → (P : Outset → History → Type 0)
      → ((s : Start) (p : Point) → b.each s p → (now : History) → InHand (bases_of s) p (outset b s p) b.count c x.seen st now
      → IsLed (bases_of s) p (outset b s p) (now ++ (by_both b.count c, item) ∷ []) → P (outset b s p) (now ++ (by_both b.count c, item) ∷ []))
      → Of b P new
  known item new added all P each s p from =
      let w : Came s p item new = came item new added all s p from in
      subst (P (outset b s p)) (sym w.is) (each s p from w.now w.before (subst (IsLed (bases_of s) p (outset b s p)) w.is w.behind))

  -- the values behind it
  pub client_kept : (n : Sight Item) → (n.number ≡ x.number) × (n.table ≡ x.table) → x.table ≡ b.table → AllMay (may_add b) n.seen
      → (n.table ≡ b.table) × (n.number ≡ client_note b.count c) × Led b n.seen
  client_kept n same home all = (same.1 ∙ home, same.0 ∙ h.client, led_now b x.seen n.seen h.led all)

  pub system_kept : (n : Sight Item) (e : Entry) (z : SystemState) (xs : List StoreStep) (new : History) → n ≡ record { table = y.table; number = y.number; seen = new } → y.table ≡ b.table
      → Added (x ∷ y ∷ []) (e, OnSystem z, xs) new → AllMay (may_add b) new
      → (n.table ≡ b.table) × (n.number ≡ system_note) × Led b n.seen × Of b (λ o T. SystemTold o z T) n.seen
  system_kept n e z xs new is home added all =
      subst (λ (m : Sight Item). (m.table ≡ b.table) × (m.number ≡ system_note) × Led b m.seen × Of b (λ o T. SystemTold o z T) m.seen) (sym is) (
        home,
        h.system,
        led_now b x.seen new h.led all,
        known (e, OnSystem z, xs) new added all (λ o T. SystemTold o z T) (λ s p from now before behind. ap (λ (d : CoreState). d.system) (sym (told_push (outset b s p) now (by_both b.count c, (e, OnSystem z, xs))))),
      )

  pub system_met : (n : Sight Item) (e : Entry) (new : History) → n ≡ record { table = y.table; number = y.number; seen = new } → y.table ≡ b.table
      → Added (x ∷ y ∷ []) (e, Leaves, []) new → AllMay (may_add b) new
      → (n.table ≡ b.table) × (n.number ≡ system_note) × Led b n.seen × Of b (λ o T. SystemTold o st T) n.seen
  system_met n e new is home added all =
      subst (λ (m : Sight Item). (m.table ≡ b.table) × (m.number ≡ system_note) × Led b m.seen × Of b (λ o T. SystemTold o st T) m.seen) (sym is) (
        home,
        h.system,
        led_now b x.seen new h.led all,
        known (e, Leaves, []) new added all (λ o T. SystemTold o st T) (λ s p from now before behind. before.is ∙ ap (λ (d : CoreState). d.system) (sym (told_push (outset b s p) now (by_both b.count c, (e, Leaves, []))))),
      )

-- ---- one line more
module _ (o : Outset) (S : History) (e : Line) where
  pub plain_push : plain (S ++ e ∷ []) ≡ plain S ++ plain_one e ∷ []
  plain_push = plain-append S (e ∷ [])

  pub log_push : log_by o (plain (S ++ e ∷ [])) ≡ log_by o (plain S) ++ logged_by (deeds_of (plain_one e ∷ []))
  log_push =
      ap (λ P. before o ++ logged_by (deeds_of P)) plain_push
      ∙ (ap (λ l. before o ++ logged_by l) (filter_map-append deed_in (plain S) (plain_one e ∷ []))
      ∙ (ap (λ l. before o ++ l) (filter_map-append record_of (deeds_of (plain S)) (deeds_of (plain_one e ∷ [])))
      ∙ sym (append_assoc (before o) (logged_by (deeds_of (plain S))) (logged_by (deeds_of (plain_one e ∷ []))))))

  pub fold_push : {X : Type 0} (f : X → Happening → X) (z : X) → fold f z (deeds_of (plain (S ++ e ∷ []))) ≡ fold f (fold f z (deeds_of (plain S))) (deeds_of (plain_one e ∷ []))
  fold_push f z = ap (λ P. fold f z (deeds_of P)) plain_push ∙ deeds_push f z (plain S) (plain_one e)

  pub state_push : (t : ℕ) → state_by o (plain (S ++ e ∷ [])) t ≡ fold (state_step t) (state_by o (plain S) t) (deeds_of (plain_one e ∷ []))
  state_push t = fold_push (state_step t) _

  pub actor_push : (t : ℕ) → actor_by t (plain (S ++ e ∷ [])) ≡ actor_step t (actor_by t (plain S)) (plain_one e)
  actor_push t = ap (actor_by t) plain_push ∙ fold-append (actor_step t) None (plain S) (plain_one e ∷ [])

-- ---- what is in hand
module _ (bases : Bases) (p : Point) (o : Outset) (n c : ℕ) (seen : History) (y : SystemState) (now : History) (hand : InHand bases p o n c seen y now) where
  pub runs_now : RunsOn bases (log_by o (plain now)) (core_told o now)
  runs_now = runs_there bases p o now hand.led

  -- its records are those of the log
  pub counted : y.records ≡ length (log_by o (plain now))
  counted = ap (λ (z : SystemState). z.records) hand.is ∙ (has_counts bases (log_by o (plain now)) (core_told o now) runs_now).records

  pub core_is : core_told o now ≡ core (core_told o now).regions y (core_told o now).vault
  core_is = ap (λ (z : SystemState). core (core_told o now).regions z (core_told o now).vault) (sym hand.is)

  pub fit : AllFit o (plain now)
  fit = fit_of bases p o now hand.led.all

  pub plain_mine : IsSeen (plain now) (client_note (count_of o) c) (plain seen)
  plain_mine = plain_seen now (client_note (count_of o) c) seen hand.mine

  -- a record that is told stands behind it
  pub logged_there : (k : List ℕ) (x : Record) (f : Effect) (xs : List StoreStep) → slice_get (log_by o (plain (now ++ (k, (Did (Logs x) c, f, xs)) ∷ []))) y.records ≡ Some x
  logged_there k x f xs =
      ap (λ l. slice_get l y.records) (log_push o now (k, (Did (Logs x) c, f, xs)))
      ∙ (ap (slice_get (log_by o (plain now) ++ x ∷ [])) counted ∙ get_behind (log_by o (plain now)) x [])

-- ---- what a client has, behind a line of its own
module _ (b : Begun) (x y : Sight Item) (c : ℕ) (st : SystemState) (h : Hands b x y c st) (d : Deed) (f : Effect) (xs : List StoreStep) (new : History) (added : Added (x ∷ y ∷ []) (Did d c, f, xs) new) (all : AllMay (may_add b) new) where
  abbrev own : Line
  own = (by_both b.count c, (Did d c, f, xs))

  has_then : (t k u m : Option ℕ)
      → ((bases : Bases) (p : Point) (o : Outset) (now : History) → IsLed bases p o (now ++ own ∷ []) → HasOnly o (plain now) c t k → HasOnly o (plain (now ++ own ∷ [])) c u m)
      → Of b (λ o T. HasOnly o (plain T) c t k) x.seen → Of b (λ o T. HasOnly o (plain T) c u m) new
  has_then t k u m goes had = known b x y c st h (Did d c, f, xs) new added all (λ o T. HasOnly o (plain T) c u m) (λ s p from now hand behind.
      goes (bases_of s) p (outset b s p) now behind (only_seen (bases_of s) p (outset b s p) x.seen now c t k hand.led hand.mine (had s p from)))

  pub has_still : takes_one c (Did d c) ≡ false → (t k : Option ℕ) → Of b (λ o T. HasOnly o (plain T) c t k) x.seen → Of b (λ o T. HasOnly o (plain T) c t k) new
  has_still none t k = has_then t k t k (λ bases p o now behind had. only_stays bases p o now own c t k behind none had)

  pub has_begun : (u : ℕ) → d ≡ Logs (Begin u) → (k : Option ℕ) → Of b (λ o T. HasOnly o (plain T) c None k) x.seen → Of b (λ o T. HasOnly o (plain T) c (Some u) k) new
  has_begun u is k = has_then None k (Some u) k (λ bases p o now behind had.
      subst (λ P. HasOnly o P c (Some u) k) (sym (plain_push o now own ∙ ap (λ z. plain now ++ (by_both b.count c, Did z c) ∷ []) is)) (only_begins o (plain now) (by_both b.count c) c u k had))

  pub has_ended : (u : ℕ) → d ≡ Logs (Ended u) → (k : Option ℕ) → Of b (λ o T. HasOnly o (plain T) c (Some u) k) x.seen → Of b (λ o T. HasOnly o (plain T) c None k) new
  has_ended u is k = has_then (Some u) k None k (λ bases p o now behind had.
      subst (λ P. HasOnly o P c None k) (sym (plain_push o now own ∙ ap (λ z. plain now ++ (by_both b.count c, Did z c) ∷ []) is)) (only_ends o (plain now) (by_both b.count c) c c u k had))

  pub has_claimed : (u : ℕ) → d ≡ Claims u → (t : Option ℕ) → Of b (λ o T. HasOnly o (plain T) c t None) x.seen → Of b (λ o T. HasOnly o (plain T) c t (Some u)) new
  has_claimed u is t = has_then t None t (Some u) (λ bases p o now behind had.
      subst (λ P. HasOnly o P c t (Some u)) (sym (plain_push o now own ∙ ap (λ z. plain now ++ (by_both b.count c, Did z c) ∷ []) is)) (only_claims o (plain now) (by_both b.count c) c u t had))

  pub has_let : (u : ℕ) → lets_one u (Did d c) ≡ true → (t : Option ℕ) → Of b (λ o T. HasOnly o (plain T) c t (Some u)) x.seen → Of b (λ o T. HasOnly o (plain T) c t None) new
  has_let u lets t = has_then t (Some u) t None (λ bases p o now behind had.
      subst (λ P. HasOnly o P c t None) (sym (plain_push o now own)) (only_lets o (plain now) (by_both b.count c) (Did d c) c u t lets had))
