-- Lines that lack what an entry asks for.
use Rattle.std.proofs.Common.{◌≡◌, ℕ, zero, suc, ◌+◌, ◌<◌, ◌≤◌, Bool, true, false, List, [], ◌∷◌, ◌++◌, length, Option, Some, None, refl, ap, sym, subst, ◌∙◌, ⊎_elim, arith}
use Rattle.std.specs.Prelude.{◌==◌, ◌||◌, if◌then◌else◌, not, filter_map, slice_get, take}
use Rattle.std.specs.List.{cons_option}
use Rattle.std.proofs.lemmas.Bool.{eqb-true}
use Rattle.std.proofs.lemmas.List.Elements.{filter_map-append}
use Rattle.std.proofs.lemmas.Option.{slice_get_within}
use Rattle.dali_lists.proofs.Numbers.{eqb-self}
use Rattle.dali_lists.proofs.Tests.{not_both_ways}
use Rattle.dali_runs.proofs.CountsLemmas.Lists.{some_same}
use Rattle.dali_record.specs.declared.records.Record.TheVariants.{Forward, Back, Solo}
use Rattle.dali_record.specs.Damage.{has}
use Rattle.dali_runs.specs.Run.{Bases}
use Rattle.dali_runs.specs.State.{CoreState, hold_in}
use Rattle.dali_region.specs.declared.Hold.{Hold}
use Rattle.dali_region.specs.State.{RegionState}
use Rattle.dali_runs.specs.Steps.{audit_record}
use Rattle.dali_crash.specs.Checkpoints.{Point}
use Rattle.dali_transcripts.specs.Words.{Damaged, StoreFailed}
use Rattle.dali_transcripts.specs.World.{Deed, Logs, Strays, DiesOn, GivesBack, MovesAnchor, Meets, Happening}
use Rattle.dali_transcripts.specs.Rounds.{is_on}
use Rattle.dali_transcripts.specs.Touches.{touches, is_at}
use Rattle.dali_notes.specs.History.{signs}
use Rattle.dali_concurrent.specs.Entries.{Mark, Does, Latches, Entry, Did, Latched, Updated, Freed, live_by, Passed, Flushed, system_note, vault_note, region_note, client_note, region_of, note_in, values_of, notes_of, done_by, done_in, on_in, actor_by}
use Rattle.dali_concurrent.specs.Rules.{Outset, count_of, LookFits, DeedFits, LatchFits, UpdateFits, FreeFits, PassFits, EntryFits, live_in, dead_in, dead_by}
use Rattle.dali_concurrent.specs.Told.{Effect, Leaves, OnRegion, OnSystem, OnVault, OnBoth, OnStop, EffectFits, effect_on, Line, History, plain, plain_one, core_told}
use Rattle.dali_concurrent.specs.Kept.{txn_in, HoldIs, Follows, AllFollow}
use Rattle.dali_concurrent.specs.Holds.{IsLed}
use Rattle.dali_concurrent.proofs.Kept.{fit_of}
use Rattle.dali_concurrent.proofs.Held.{spared}
use Rattle.dali_concurrent.proofs.Holds.{live_is, dead_is, dead_there, holds_are_told, hold_is_of_actor}
use Rattle.dali_concurrent.specs.Wrong.{NoLatch, Unsigned, Unlatched, Unaudited}
use Rattle.dali_concurrent.proofs.Lists.{take_length, take_more, get_of_front, get_sides}
use Rattle.dali_concurrent.proofs.Told.{plain-append, told_push, system_left, region_left}

-- ---- one line more
pub one_more : (bases : Bases) (p : Point) (o : Outset) (T : History) (e : Line) → AllFollow bases p o T → Follows bases p o T e → AllFollow bases p o (T ++ e ∷ [])
one_more bases p o T e all follows i d at = ⊎_elim here there (get_sides T (e ∷ []) i d at)
  where
    here : slice_get T i ≡ Some d → Follows bases p o (take i (T ++ e ∷ [])) d
    here h = subst (λ S. Follows bases p o S d) (sym (get_of_front T (e ∷ []) i d h).1) (all i d h)

    there : (j : ℕ) × (slice_get (e ∷ []) j ≡ Some d) × (i ≡ length T + j) → Follows bases p o (take i (T ++ e ∷ [])) d
    there (zero, h, k) =
        let place : i ≡ length T = omega (arith, k) in
        let same : take i (T ++ e ∷ []) ≡ T = ap (λ n. take n (T ++ e ∷ [])) place ∙ take_length T (e ∷ []) in
        subst (λ S. Follows bases p o S d) (sym same) (subst (Follows bases p o T) (some_same h) follows)
    there (suc j, h, k) = absurd (cc)

-- ---- who signs
pub signs_first : (n : ℕ) (ns : List ℕ) → signs n (n ∷ ns) ≡ true
signs_first n ns = ap (λ b. b || signs n ns) (eqb-self n)

pub signs_more : (n m : ℕ) (ns : List ℕ) → signs n ns ≡ true → signs n (m ∷ ns) ≡ true
signs_more n m ns h = by_test (m == n)
  where
    by_test : (b : Bool) → (b || signs n ns) ≡ true
    by_test true = refl
    by_test false = h

region_signs : (q r : ℕ) → (q == r) ≡ true → signs (region_note r) (system_note ∷ region_note q ∷ []) ≡ true
region_signs q r e = signs_more (region_note r) system_note (region_note q ∷ []) (subst (λ n. signs (region_note n) (region_note q ∷ []) ≡ true) (eqb-true q r e) (signs_first (region_note q) []))

at_region : (r : ℕ) (x : Deed) → is_at r x ≡ true → signs (region_note r) (values_of x) ≡ true
at_region r (Logs (Forward t b)) h = region_signs b.region r h
at_region r (Logs (Back t b)) h = region_signs b.region r h
at_region r (Logs (Solo n t b)) h = region_signs b.region r h
at_region r (Strays q word m) h = subst (λ n. signs (region_note n) (region_note q ∷ []) ≡ true) (eqb-true q r h) (signs_first (region_note q) [])
at_region r (DiesOn t q) h = region_signs q r h
at_region r (GivesBack t (Some q)) h = region_signs q r h
at_region r (Meets (Damaged q codeword found)) h = region_signs q r h
at_region r x h = absurd (cc)

at_system : (x : Deed) → (touches x).system ≡ true → signs system_note (values_of x) ≡ true
at_system (Strays q word m) h = absurd (cc)
at_system (MovesAnchor n) h = absurd (cc)
at_system (Meets StoreFailed) h = signs_first system_note (vault_note ∷ [])
at_system x h = signs_first system_note (note_in (region_of x))

at_vault : (x : Deed) → (touches x).vault ≡ true → signs vault_note (values_of x) ≡ true
at_vault (MovesAnchor n) h = signs_first vault_note []
at_vault (Meets StoreFailed) h = signs_more vault_note system_note (vault_note ∷ []) (signs_first vault_note [])
at_vault x h = absurd (cc)

vault_left : (ks : List ℕ) (f : Effect) (d : CoreState) → EffectFits ks f → signs vault_note ks ≡ false → (effect_on d f).vault ≡ d.vault
vault_left ks Leaves d g h = refl
vault_left ks (OnRegion r x) d g h = refl
vault_left ks (OnSystem y) d g h = refl
vault_left ks (OnVault v) d g h = absurd (not_both_ways g h)
vault_left ks (OnBoth r x y) d g h = refl
vault_left ks (OnStop v y) d g h = absurd (not_both_ways g.0 h)

module _ (bases : Bases) (p : Point) (o : Outset) (T : History) (e : Line) (follows : Follows bases p o T e) where
  lacks : (k : ℕ) (z : Entry) → e.1.0 ≡ z → signs k (notes_of (count_of o) z) ≡ true → signs k e.0 ≡ false → ⊥
  lacks k z is owes none = not_both_ways (follows.fits.by k (subst (λ y. signs k (notes_of (count_of o) y) ≡ true) (sym is) owes)) none

  pub entry_fits : (z : Entry) → e.1.0 ≡ z → EntryFits o (plain T) z
  entry_fits z is = subst (EntryFits o (plain T)) is follows.fits.fits

  pub system_stays : signs system_note e.0 ≡ false → (core_told o (T ++ e ∷ [])).system ≡ (core_told o T).system
  system_stays none = ap (λ (c : CoreState). c.system) (told_push o T e) ∙ system_left e.0 e.1.1 (core_told o T) follows.effect none

pub unsigned : Unsigned
unsigned = record {
  entry = λ k bases p o T e led w f. not_both_ways (f.fits.by k w.0) w.1;
  by_client = λ c x bases p o T e led w f. lacks bases p o T e f (client_note (count_of o) c) (Did x c) w.0 (signs_first (client_note (count_of o) c) (values_of x)) w.1;
  by_region = λ r c x at bases p o T e led w f.
      lacks bases p o T e f (region_note r) (Did x c) w.0 (signs_more (region_note r) (client_note (count_of o) c) (values_of x) (at_region r x at)) w.1;
  by_system = λ c x at bases p o T e led w f.
      lacks bases p o T e f system_note (Did x c) w.0 (signs_more system_note (client_note (count_of o) c) (values_of x) (at_system x at)) w.1;
  by_vault = λ c x at bases p o T e led w f. lacks bases p o T e f vault_note (Did x c) w.0 (signs_more vault_note (client_note (count_of o) c) (values_of x) (at_vault x at)) w.1;
  flushed = λ bases p o T e led w f. lacks bases p o T e f vault_note Flushed w.0 (signs_first vault_note []) w.1;
  region = λ r bases p o T e led w f. w.1 (ap (λ (c : CoreState). slice_get c.regions r) (told_push o T e) ∙ region_left e.0 e.1.1 (core_told o T) r f.effect w.0);
  system = λ bases p o T e led w f. w.1 (system_stays bases p o T e f w.0);
  vault = λ bases p o T e led w f. w.1 (ap (λ (c : CoreState). c.vault) (told_push o T e) ∙ vault_left e.0 e.1.1 (core_told o T) f.effect w.0);
  called = λ i x bases p o T e led w f. not_both_ways (f.silent w.0 i x w.1) w.2;
}

-- ---- latches
take_none : {X : Type 0} (xs : List X) → take zero xs ≡ []
take_none [] = refl
take_none (x ∷ xs) = refl

none_first : {Y : Type 0} (o : Option Y) (ys : List Y) → cons_option o ys ≡ [] → (o ≡ None) × (ys ≡ [])
none_first None ys e = (refl, e)
none_first (Some y) ys e = absurd (cc)

same_first : {Y : Type 0} (o : Option Y) (ys zs : List Y) → cons_option o ys ≡ cons_option o zs → ys ≡ zs
same_first None ys zs e = e
same_first (Some y) ys zs e = cc

-- nothing is picked behind a front that has all that is picked
none_behind : {X Y : Type 0} (f : X → Option Y) (A : List X) (x : X) (R : List X) (i : ℕ) → i ≤ length A → filter_map f (A ++ x ∷ R) ≡ filter_map f (take i (A ++ x ∷ R)) → f x ≡ None
none_behind f [] x R zero h e = (none_first (f x) (filter_map f R) e).0
none_behind f [] x R (suc i) h e = absurd (omega (arith, h))
none_behind f (a ∷ A) x R zero h e = none_behind f A x R zero (omega arith) ((none_first (f a) (filter_map f (A ++ x ∷ R)) e).1 ∙ sym (ap (filter_map f) (take_none (A ++ x ∷ R))))
none_behind f (a ∷ A) x R (suc i) h e = none_behind f A x R i (omega (arith, h)) (same_first (f a) (filter_map f (A ++ x ∷ R)) (filter_map f (take i (A ++ x ∷ R))) e)

not_latched : (l : Line) (x : Deed) (c : ℕ) (ks : List ℕ) (r t d : ℕ) → l.1.0 ≡ Did x c → ◌≡◌ {A = Option (List ℕ × Entry)} (Some (plain_one l)) (Some (ks, Latched r t d)) → ⊥
not_latched l x c ks r t d is e = let same : Did x c ≡ Latched r t d = sym is ∙ ap (λ (z : List ℕ × Entry). z.1) (some_same e) in absurd (cc)

wants_it : (r c : ℕ) (x : Deed) (l : Line) → is_on r x ≡ true → l.1.0 ≡ Did x c → on_in r (plain_one l) ≡ None → ⊥
wants_it r c x l wants is none =
    let one : on_in r (l.0, Did x c) ≡ None = subst (λ z. on_in r (l.0, z) ≡ None) is none in
    let two : ◌≡◌ {A = Option Happening} (Some (x, c)) None = sym (ap (λ b. if b then Some (x, c) else None) wants) ∙ one in absurd (cc)

did_it : (c : ℕ) (x : Deed) (l : Line) → l.1.0 ≡ Did x c → done_in c (plain_one l) ≡ None → ⊥
did_it c x l is none =
    let one : done_in c (l.0, Did x c) ≡ None = subst (λ z. done_in c (l.0, z) ≡ None) is none in
    let two : ◌≡◌ {A = Option Mark} (Some (Does x)) None = sym (ap (λ b. if b then Some (Does x) else None) (eqb-self c)) ∙ one in absurd (cc)

module _ (o : Outset) (A R : History) (l : Line) (x : Deed) (r c d : ℕ) (is : l.1.0 ≡ Did x c) (none : NoLatch (plain R) r d) (look : LookFits o (plain A ++ plain_one l ∷ plain R) d r) where
  -- the look stands before that deed
  looked_before : (look.place < length (plain A) → ⊥) → ⊥
  looked_before later = ⊎_elim (λ at. later (slice_get_within (plain A) look.place _ at)) behind (get_sides (plain A) (plain_one l ∷ plain R) look.place (look.notes, Latched r look.txn d) look.there)
    where
      behind : (j : ℕ) × (slice_get (plain_one l ∷ plain R) j ≡ Some (look.notes, Latched r look.txn d)) × (look.place ≡ length (plain A) + j) → ⊥
      behind (zero, e, h) = not_latched l x c look.notes r look.txn d is e
      behind (suc j, e, h) = none j look.txn look.notes e

  pub held_since : is_on r x ≡ true → ⊥
  held_since wants = looked_before (λ low. wants_it r c x l wants is (none_behind (on_in r) (plain A) (plain_one l) (plain R) look.place (omega (arith, low)) look.held))

  pub idle_since : c ≡ d → ⊥
  idle_since same = looked_before (λ low. did_it d x l (subst (λ n. l.1.0 ≡ Did x n) same is) (none_behind (done_in d) (plain A) (plain_one l) (plain R) (suc look.place) (omega (arith, low)) whole))
    where
      whole : done_by d (plain A ++ plain_one l ∷ plain R) ≡ done_by d (take (suc look.place) (plain A ++ plain_one l ∷ plain R))
      whole =
          look.alone
          ∙ sym (ap (done_by d) (take_more look.place (plain A ++ plain_one l ∷ plain R) (look.notes, Latched r look.txn d) look.there)
          ∙ (filter_map-append (done_in d) (take look.place (plain A ++ plain_one l ∷ plain R)) ((look.notes, Latched r look.txn d) ∷ [])
          ∙ ap (λ b. done_by d (take look.place (plain A ++ plain_one l ∷ plain R)) ++ cons_option (if b then Some (Latches r) else None) []) (eqb-self d)))

split_at : (T A R : History) (l : Line) → T ≡ A ++ l ∷ R → plain T ≡ plain A ++ plain_one l ∷ plain R
split_at T A R l is = ap plain is ∙ plain-append A (l ∷ R)

region_with : (q : Option RegionState) (h : Hold) → hold_in q ≡ Some h → (g : RegionState) × (q ≡ Some g) × (g.hold ≡ Some h)
region_with None h e = absurd (cc)
region_with (Some g) h e = (g, refl, e)

-- a region has one hold at a time
freed_by : (bases : Bases) (p : Point) (o : Outset) (T : History) → IsLed bases p o T → (r c t d : ℕ) → FreeFits o (plain T) r c → live_by r (plain T) ≡ Some (t, d) → (c == d) ≡ false → ⊥
freed_by bases p o T led r c t d fits live other = ⊎_elim own dead fits.held
  where
    own : live_by r (plain T) ≡ Some (fits.txn, c) → ⊥
    own e =
        let same : (t, d) ≡ (fits.txn, c) = some_same (sym live ∙ e) in
        not_both_ways (subst (λ n. (c == n) ≡ true) (sym (ap (λ (z : ℕ × ℕ). z.1) same)) (eqb-self c)) other

    one : (q : Option Hold) → live_in q ≡ Some t → dead_in q ≡ Some fits.txn → ⊥
    one q e f = let a = live_is q t e in let b = dead_is q fits.txn f in not_both_ways b.3 (subst (λ (h : Hold). h.dead ≡ false) (some_same (sym a.1 ∙ b.1)) a.3)

    dead : dead_by o r (plain T) ≡ Some fits.txn → ⊥
    dead e =
        let low = (hold_is_of_actor o (plain T) r t d (fit_of bases p o T led.all) live).0 in
        let h = dead_there bases p o T led r fits.txn low e in
        let g = region_with (slice_get (core_told o T).regions r) h.0 h.1 in
        let is : HoldIs o r g.0 (plain T) = (holds_are_told bases p o T led r g.0 g.1).1 in
        one g.0.hold (is.live ∙ ap txn_in live) (is.dead ∙ e)

pub unlatched : Unlatched
unlatched = record {
  operated = λ r c x looks bases p o T e led w f. let fits : DeedFits o (plain T) x c = entry_fits bases p o T e f (Did x c) w.0 in let look = fits.looked r looks in w.1 look.place look.txn look.notes look.there;
  twice = λ r c d x y A R l wants looks bases p o T e led w f.
      let fits : DeedFits o (plain T) y d = entry_fits bases p o T e f (Did y d) w.2 in
      held_since o A R l x r c d w.1 w.3 (subst (λ P. LookFits o P d r) (split_at T A R l w.0) (fits.looked r looks)) wants;
  behind_another = λ r c x y A R l looks bases p o T e led w f.
      let fits : DeedFits o (plain T) y c = entry_fits bases p o T e f (Did y c) w.2 in
      idle_since o A R l x r c c w.1 w.3 (subst (λ P. LookFits o P c r) (split_at T A R l w.0) (fits.looked r looks)) refl;
  deed_of_another = λ c t x acts bases p o T e led w f. let fits : DeedFits o (plain T) x c = entry_fits bases p o T e f (Did x c) w.0 in w.1 (fits.acts t acts);
  latch_of_another = λ r c t bases p o T e led w f. let fits : LatchFits o (plain T) r t c = entry_fits bases p o T e f (Latched r t c) w.0 in w.1 fits.acts;
  latched_twice = λ r c t u d bases p o T e led w f.
      let fits : LatchFits o (plain T) r t c = entry_fits bases p o T e f (Latched r t c) w.0 in let none : Some (u, d) ≡ None = sym w.1 ∙ fits.free.0 in absurd (cc);
  let_go = λ r c x looks bases p o T e led w f.
      let fits : DeedFits o (plain T) x c = entry_fits bases p o T e f (Did x c) w.0 in
      let look = fits.looked r looks in let none : None ≡ Some (look.txn, c) = sym w.1 ∙ look.live in absurd (cc);
  updated_by_another = λ r c t d bases p o T e led w f.
      let fits : UpdateFits (plain T) r c = entry_fits bases p o T e f (Updated r c) w.0 in
      let same : (fits.0, c) ≡ (t, d) = some_same (sym fits.1 ∙ w.1) in
      not_both_ways (subst (λ n. (c == n) ≡ true) (ap (λ (z : ℕ × ℕ). z.1) same) (eqb-self c)) w.2;
  freed_by_another = λ r c t d bases p o T e led w f.
      let fits : FreeFits o (plain T) r c = entry_fits bases p o T e f (Freed r c) w.0 in freed_by bases p o T led r c t d fits w.1 w.2;
  dead_freed_by_another = λ r c t bases p o T e led w f.
      let fits : FreeFits o (plain T) r c = entry_fits bases p o T e f (Freed r c) w.0 in
      ⊎_elim (λ live. w.3 fits.txn live) (λ dead. w.2 (subst (λ u. actor_by u (plain T) ≡ Some c) (some_same (sym dead ∙ w.1)) fits.acts)) fits.held;
  back_unheld = λ t c b bases p o T e led w f. let fits : DeedFits o (plain T) (Logs (Back t b)) c = entry_fits bases p o T e f (Did (Logs (Back t b)) c) w.0 in w.1 fits.held;
  solo_unheld = λ n t c b bases p o T e led w f. let fits : DeedFits o (plain T) (Logs (Solo n t b)) c = entry_fits bases p o T e f (Did (Logs (Solo n t b)) c) w.0 in w.1 fits.held;
  given_unheld = λ t r c bases p o T e led w f. let fits : DeedFits o (plain T) (GivesBack t (Some r)) c = entry_fits bases p o T e f (Did (GivesBack t (Some r)) c) w.0 in w.1 fits.held;
  written = λ r i x bases p o T e led w f. spared r e.1.0 e.1.2 f.writes w.2 i x w.0 w.1;
  damaged = λ t c b g bases p o T e led w f.
      let fits : DeedFits o (plain T) (Logs (Forward t b)) c = entry_fits bases p o T e f (Did (Logs (Forward t b)) c) w.0 in
      let look = fits.looked b.region (eqb-self b.region) in w.3 look.place look.txn look.notes look.there (look.right w.1 g w.2);
  hold = λ r g bases p o T e led w f. w.3 (f.holds r g w.0 w.1 w.2);
}

-- ---- audits
not_same : (b : Bool) → not b ≡ b → ⊥
not_same true e = absurd (cc)
not_same false e = absurd (cc)

pub unaudited : Unaudited
unaudited = record {
  unpassed = λ b r c found bases p o T e led w f.
      let fits : DeedFits o (plain T) (Logs (audit_record b found)) c = entry_fits bases p o T e f (Did (Logs (audit_record b found)) c) w.0 in
      let pass = (fits.audited b found refl).passed r w.1 in w.2 pass.0 pass.1 (not (has found r)) pass.2;
  contrary = λ b r c found bases p o T e led w f.
      let fits : DeedFits o (plain T) (Logs (audit_record b found)) c = entry_fits bases p o T e f (Did (Logs (audit_record b found)) c) w.0 in
      let pass = (fits.audited b found refl).passed r w.1 in not_same (has found r) (w.2 pass.0 pass.1 (not (has found r)) pass.2);
  pass = λ b r right g bases p o T e led w f. let fits : PassFits o (plain T) r b right = entry_fits bases p o T e f (Passed r b right) w.0 in w.2 (fits.tells g w.1);
}
