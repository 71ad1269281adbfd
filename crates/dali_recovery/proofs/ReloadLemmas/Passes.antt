-- The damages that passes over a log tell.
use Rattle.std.proofs.Common.{◌≡◌, ◌⊎◌, inl, inr, ⊎_elim, ℕ, ◌+◌, ◌≤◌, ◌<◌, ◌^◌, Bool, true, false, cond, List, [], ◌∷◌, ◌++◌, None, map, refl, ap, sym, subst, ◌∙◌, arith, length, append_assoc, length-append}
use Rattle.std.specs.Prelude.{Contains, fold, ◌&&◌, ◌==◌}
use Rattle.std.specs.List.{list_any}
use Rattle.std.proofs.lemmas.Bool.{cases_eq, eqb-true}
use Rattle.std.proofs.lemmas.List.{append-nil}
use Rattle.std.proofs.lemmas.List.Elements.{Contains-append_cases, Contains-append_right, Contains-push_cases}
use Rattle.std.proofs.lemmas.List.Sums.{fold-append, fold_push}
use Rattle.dali_lists.proofs.Members.{contains_none, contains_first}
use Rattle.dali_lists.proofs.Tests.{left_true, right_true}
use Rattle.dali_geometry.specs.Sizes.{Sizes}
use Rattle.dali_record.specs.declared.records.Record.{Record}
use Rattle.dali_record.specs.declared.records.Record.TheVariants.{Format, Restarted}
use Rattle.dali_record.specs.Damage.{Damage}
use Rattle.dali_record.specs.Epochs.{separates}
use Rattle.dali_record.specs.Files.{Files, is_restarted}
use Rattle.dali_log.specs.Log.{TailOf}
use Rattle.dali_resume.specs.Batches.{records_of}
use Rattle.dali_resume.specs.Laws.{is_audit_fail}
use Rattle.dali_resume.specs.Onward.{Going, goes_through, going_at, going_next}
use Rattle.dali_resume.specs.Tests.{Known, may_follow}
use Rattle.dali_resume.proofs.Batches.{is_a_restart}
use Rattle.dali_recovery.specs.Laws.{IsBehind, damage_through}
use Rattle.dali_recovery.specs.Standing.{EndsScanned, IsFor, SameDamage, Stands, Takes, is_unscanned}
use Rattle.dali_recovery.specs.declared.recovery.Damage.{Damage as Told}
use Rattle.dali_recovery.specs.declared.recovery.Recovery.{Recovery}
use Rattle.dali_recovery.proofs.Whole.{plain_further, stays_assumed, tells_unscanned, number_through}
use Rattle.dali_recovery.specs.Reload.Laws.{FindsLater}
use Rattle.dali_recovery.specs.Reload.Reading.{HasRecords}
use Rattle.dali_recovery.specs.Reload.Scanning.{AreFound, AreSome, HasDamageFor, ScansKnown, damages_on, damages_through, told_of}
use Rattle.dali_recovery.proofs.ReloadLemmas.Lists.{records_with}
use Rattle.dali_recovery.proofs.ReloadLemmas.Tails.{Meets, Ahead, Here, Behind, has_batch, meets, one_tail}

-- ---- lists

later_in : {X : Type 0} (d : X) (ds : List X) (e : X) → Contains ds e → Contains (d ∷ ds) e
later_in d ds e c = Contains-append_right (d ∷ []) ds e c

cases_in : {X : Type 0} (d : X) (ds : List X) (e : X) → Contains (d ∷ ds) e → (d ≡ e) ⊎ Contains ds e
cases_in d ds e c =
    ⊎_elim (λ z. ⊎_elim (λ n. absurd (contains_none e n)) (λ q. inl q) (Contains-push_cases [] d e z)) (λ z. inr z) (Contains-append_cases (d ∷ []) ds e c)

map_in : {X Y : Type 0} (f : X → Y) (xs : List X) (x : X) → Contains xs x → Contains (map f xs) (f x)
map_in f [] x c = absurd (contains_none x c)
map_in f (y ∷ ys) x c =
    ⊎_elim (λ (e : y ≡ x). subst (λ z. Contains (f y ∷ map f ys) (f z)) e (contains_first (f y) (map f ys))) (λ z. later_in (f y) (map f ys) (f x) (map_in f ys x z)) (cases_in y ys x c)

map_from : {X Y : Type 0} (f : X → Y) (xs : List X) (y : Y) → Contains (map f xs) y → (x : X) × Contains xs x × (f x ≡ y)
map_from f [] y c = absurd (contains_none y c)
map_from f (x ∷ xs) y c =
    ⊎_elim (λ (e : f x ≡ y). (x, contains_first x xs, e)) (λ z. let w = map_from f xs y z in (w.0, later_in x xs w.0 w.1, w.2)) (cases_in (f x) (map f xs) y c)

-- ---- kinds of record

not_none : (n : ℕ) → 0 < n → (n == 0) ≡ true → ⊥
not_none n some e = omega (arith, some, eqb-true n 0 e)

inside : (s : Sizes) (n : ℕ) (k : Known) (r : Record) → 0 < k.number → may_follow s n k r ≡ true → is_restarted r ≡ false → separates r ≡ false
inside s n k (Restarted rs ds) some e f = absurd (cc)
inside s n k (Format i h) some e f = absurd (not_none k.number some (left_true (k.number == 0) _ e))
inside s n k _ some e f = refl

abbrev pub closing : Record
closing = Restarted [] []

module _ (s : Sizes) (F : Files) where
  abbrev step : Going → Record → Going
  step c r = going_next s F.first c r

  abbrev pub known_by : List Record → Known
  known_by Q = (goes_through s F Q).known

  -- ---- the numbers of first records ascend
  push : (Q : List Record) (r : Record) → goes_through s F (Q ++ r ∷ []) ≡ step (goes_through s F Q) r
  push Q r = fold_push (going_next s F.first) (going_at F) Q r

  steps : (c : Going) (r : Record) → c.known.first ≤ c.known.number
      → (c.known.first ≤ (step c r).known.first) × ((step c r).known.first ≤ (step c r).known.number)
  steps c r low = by_kind (separates r)
    where
      by_kind : (b : Bool) → (c.known.first ≤ cond b (c.known.number + 1) c.known.first) × (cond b (c.known.number + 1) c.known.first ≤ c.known.number + 1)
      by_kind true = (omega (arith, low), omega arith)
      by_kind false = (omega arith, omega (arith, low))

  rises_from : (Z : List Record) (c : Going) → c.known.first ≤ c.known.number
      → (c.known.first ≤ (fold (going_next s F.first) c Z).known.first) × ((fold (going_next s F.first) c Z).known.first ≤ (fold (going_next s F.first) c Z).known.number)
  rises_from [] c low = (omega arith, low)
  rises_from (r ∷ Z) c low =
      let one = steps c r low in
      let w = rises_from Z (step c r) one.1 in (omega (arith, one.0, w.0), w.1)

  low_first : (Q : List Record) → (F.first ≤ (known_by Q).first) × ((known_by Q).first ≤ (known_by Q).number)
  low_first Q = rises_from Q (going_at F) (omega arith)

  rises : (Q Z : List Record) → (known_by Q).first ≤ (known_by (Q ++ Z)).first
  rises Q Z = subst (λ (c : Going). (known_by Q).first ≤ c.known.first) (sym (fold-append (going_next s F.first) (going_at F) Q Z)) (rises_from Z (goes_through s F Q) (low_first Q).1).0

  next_first : (Q : List Record) (r : Record) → is_restarted r ≡ true → (known_by (Q ++ r ∷ [])).first ≡ (known_by Q).number + 1
  next_first Q r e =
      let w = is_a_restart r e in
      ap (λ (c : Going). c.known.first) (push Q r) ∙ ap (λ (q : Record). (step (goes_through s F Q) q).known.first) w.2

  next_number : (Q : List Record) (r : Record) → (known_by (Q ++ r ∷ [])).number ≡ (known_by Q).number + 1
  next_number Q r = ap (λ (c : Going). c.known.number) (push Q r)

  same_first : (Q : List Record) (r : Record) → separates r ≡ false → (known_by (Q ++ r ∷ [])).first ≡ (known_by Q).first
  same_first Q r e = ap (λ (c : Going). c.known.first) (push Q r) ∙ ap (λ b. cond b ((known_by Q).number + 1) (known_by Q).first) e

  closes : (Q : List Record) (r : Record) → is_restarted r ≡ true → (known_by Q).first < (known_by (Q ++ r ∷ [])).first
  closes Q r e = omega (arith, next_first Q r e, (low_first Q).1)

  -- ---- the damages
  with_first : (b : Bool) (d : Damage) (x y z : List Damage) → x ≡ y ++ z → cond b (d ∷ x) x ≡ cond b (d ∷ y) y ++ z
  with_first true d x y z e = ap (λ q. d ∷ q) e
  with_first false d x y z e = e

  on_append : (Z Y Q : List Record) → damages_on s F Q (Z ++ Y) ≡ damages_on s F Q Z ++ damages_on s F (Q ++ Z) Y
  on_append [] Y Q = ap (λ q. damages_on s F q Y) (sym (append-nil Q))
  on_append (r ∷ Z) Y Q =
      with_first (is_restarted r && (known_by Q).failed) (damage_through s F Q) (damages_on s F (Q ++ r ∷ []) (Z ++ Y)) (damages_on s F (Q ++ r ∷ []) Z) (damages_on s F (Q ++ r ∷ Z) Y)
      (on_append Z Y (Q ++ r ∷ []) ∙ ap (λ q. damages_on s F (Q ++ r ∷ []) Z ++ damages_on s F q Y) (append_assoc Q (r ∷ []) Z))

  through_push : (Q : List Record) (r : Record) → damages_through s F (Q ++ r ∷ []) ≡ damages_through s F Q ++ damages_on s F Q (r ∷ [])
  through_push Q r = on_append Q (r ∷ []) []

  closed_damage : (Q : List Record) (r : Record) → is_restarted r ≡ true → (known_by Q).failed ≡ true → damages_on s F Q (r ∷ []) ≡ damage_through s F Q ∷ []
  closed_damage Q r e f = ap (λ b. cond b (damage_through s F Q ∷ []) []) (ap (λ b. b && (known_by Q).failed) e ∙ f)

  between : (Z Q : List Record) (e : Damage) → Contains (damages_on s F Q Z) e → ((known_by Q).first ≤ e.first) × (e.first < (known_by (Q ++ Z)).first)
  between [] Q e c = absurd (contains_none e c)
  between (r ∷ Z) Q e c = by_test (λ m. later (between Z (Q ++ r ∷ []) e m)) (is_restarted r && (known_by Q).failed) refl c
    where
      later : ((known_by (Q ++ r ∷ [])).first ≤ e.first) × (e.first < (known_by ((Q ++ r ∷ []) ++ Z)).first)
          → ((known_by Q).first ≤ e.first) × (e.first < (known_by (Q ++ r ∷ Z)).first)
      later w = (omega (arith, rises Q (r ∷ []), w.0), subst (λ (q : List Record). e.first < (known_by q).first) (append_assoc Q (r ∷ []) Z) w.1)

      here : is_restarted r ≡ true → damage_through s F Q ≡ e → ((known_by Q).first ≤ e.first) × (e.first < (known_by (Q ++ r ∷ Z)).first)
      here k same =
          let at : (known_by Q).first ≡ e.first = ap (λ (d : Damage). d.first) same in (
            omega (arith, at),
            omega (arith, at, closes Q r k, subst (λ (q : List Record). (known_by (Q ++ r ∷ [])).first ≤ (known_by q).first) (append_assoc Q (r ∷ []) Z) (rises (Q ++ r ∷ []) Z)),
          )

      by_test : (Contains (damages_on s F (Q ++ r ∷ []) Z) e → ((known_by Q).first ≤ e.first) × (e.first < (known_by (Q ++ r ∷ Z)).first))
          → (b : Bool) → is_restarted r && (known_by Q).failed ≡ b → Contains (cond b (damage_through s F Q ∷ damages_on s F (Q ++ r ∷ []) Z) (damages_on s F (Q ++ r ∷ []) Z)) e
          → ((known_by Q).first ≤ e.first) × (e.first < (known_by (Q ++ r ∷ Z)).first)
      by_test more true k m = ⊎_elim (here (left_true (is_restarted r) _ k)) more (cases_in (damage_through s F Q) (damages_on s F (Q ++ r ∷ []) Z) e m)
      by_test more false k m = more m

  before : (Q : List Record) (e : Damage) → Contains (damages_through s F Q) e → e.first < (known_by Q).first
  before Q e c = (between Q [] e c).1

  -- where the epoch ends at the record w
  here_is : (Q Y : List Record) (w : Record) (e : Damage) → is_restarted w ≡ true → Contains (damages_through s F Q ++ damages_on s F Q (w ∷ Y)) e
      → e.first ≡ (known_by Q).first
      → damage_through s F Q ≡ e
  here_is Q Y w e k c same =
      ⊎_elim (λ m. absurd (omega (arith, before Q e m, same))) (λ m. by_test (is_restarted w && (known_by Q).failed) m) (Contains-append_cases (damages_through s F Q) (damages_on s F Q (w ∷ Y)) e c)
    where
      none_behind : Contains (damages_on s F (Q ++ w ∷ []) Y) e → ⊥
      none_behind m = omega (arith, same, closes Q w k, (between Y (Q ++ w ∷ []) e m).0)

      by_test : (b : Bool) → Contains (cond b (damage_through s F Q ∷ damages_on s F (Q ++ w ∷ []) Y) (damages_on s F (Q ++ w ∷ []) Y)) e
          → damage_through s F Q ≡ e
      by_test true m = ⊎_elim (λ z. z) (λ z. absurd (none_behind z)) (cases_in (damage_through s F Q) (damages_on s F (Q ++ w ∷ []) Y) e m)
      by_test false m = absurd (none_behind m)

  has_here : (Q Y : List Record) (w : Record) → is_restarted w ≡ true → (known_by Q).failed ≡ true
      → Contains (damages_through s F Q ++ damages_on s F Q (w ∷ Y)) (damage_through s F Q)
  has_here Q Y w k f =
      Contains-append_right (damages_through s F Q) (damages_on s F Q (w ∷ Y)) (damage_through s F Q)
      (subst (λ b. Contains (cond b (damage_through s F Q ∷ damages_on s F (Q ++ w ∷ []) Y) (damages_on s F (Q ++ w ∷ []) Y)) (damage_through s F Q))
      (sym (ap (λ b. b && (known_by Q).failed) k ∙ f)) (contains_first (damage_through s F Q) (damages_on s F (Q ++ w ∷ []) Y)))

pub finds_later : FindsLater
finds_later log s F es d f =
    let Q = records_of f.unscanned.front in (
      subst (λ (q : Damage). F.first ≤ q.first) (sym f.damage_is) (low_first s F Q).0,
      λ e m. subst (λ (q : Damage). e.first < q.first) (sym f.damage_is) (before s F Q e (subst (λ z. Contains z e) f.before m)),
    )

-- ---- what is scanned
pub record Assumes (ds : List Told) (p : ℕ) (x : Recovery) : Type 0 where
  pub damage : Told
  pub known : Contains ds damage
  pub first : damage.first ≡ p
  pub assumed : IsFor damage.clean damage.failing.items x.scan

abbrev pub Judges : List Told → ℕ → Recovery → Type 0
Judges ds p x = ((HasDamageFor ds p → ⊥) × (x.scan ≡ None)) ⊎ Assumes ds p x

-- at an epoch's first record it is known soon
pub record IsScanning (s : Sizes) (F : Files) (Q : List Record) (ds : List Told) (x : Recovery) : Type 0 where
  pub fresh : (known_by s F Q).number ≡ (known_by s F Q).first → x.scan ≡ None
  pub inside : ((known_by s F Q).number ≡ (known_by s F Q).first → ⊥) → Judges ds (known_by s F Q).first x

module _ (s : Sizes) (F : Files) (Q : List Record) (ds : List Told) where
  abbrev p : ℕ
  p = (known_by s F Q).first

  pub judges : (x y : Recovery) → IsBehind s F Q x → IsScanning s F Q ds x → ScansKnown x y ds → Judges ds p y
  judges x y b sc (inl z) = subst (Judges ds p) (sym z.0) (⊎_elim new (λ old. sc.inside old) (cases_eq (known_by s F Q).number p))
    where
      new : (known_by s F Q).number ≡ p → Judges ds p x
      new e = inl (λ h. z.1 (b.stands.number ∙ (e ∙ sym b.stands.first)) (subst (HasDamageFor ds) (sym b.stands.first) h), sc.fresh e)
  judges x y b sc (inr z) = inr (record { damage = z.damage; known = z.known; first = z.first ∙ b.stands.first; assumed = z.scans.assumes })

  module _ (y z : Recovery) (g : Record) (b : IsBehind s F Q y) (t : Takes y z g) (room : F.first + length Q + 1 < 2 ^ 64) (j : Judges ds p y) where
    all : (may_follow s F.first (known_by s F Q) g ≡ true) × Stands s F.first z (going_next s F.first (goes_through s F Q) g) × (is_restarted g ≡ false → SameDamage y.scan z.scan) × (is_restarted g ≡ true → z.scan ≡ None)
    all = t s F.first (goes_through s F Q) b.stands (subst (λ m. m + 1 < 2 ^ 64) (sym (number_through s F.first Q (going_at F))) room)

    stays : is_restarted g ≡ false → Judges ds p z
    stays e = ⊎_elim
        (λ w. inl (w.0, plain_further s F Q y z g b t room w.1))
        (λ (w : Assumes ds p y). inr (record { damage = w.damage; known = w.known; first = w.first; assumed = stays_assumed s F Q y z g w.damage.clean w.damage.failing.items b t room e w.assumed }))
        j

    pub scanning_on : IsScanning s F (Q ++ g ∷ []) ds z
    scanning_on = by_kind (is_restarted g) refl
      where
        by_kind : (k : Bool) → is_restarted g ≡ k → IsScanning s F (Q ++ g ∷ []) ds z
        by_kind true e = record {
          fresh = λ same. all.3 e;
          inside = λ apart. absurd (apart (next_number s F Q g ∙ sym (next_first s F Q g e)));
        }
        by_kind false e =
            let keeps : (known_by s F (Q ++ g ∷ [])).first ≡ p = same_first s F Q g (inside s F.first (known_by s F Q) g (omega (arith, b.stands.positive, b.stands.behind)) all.0 e) in record {
              fresh = λ same. absurd (omega (arith, same, keeps, next_number s F Q g, (low_first s F Q).1));
              inside = λ apart. subst (λ q. Judges ds q z) (sym keeps) (stays e);
            }

-- ---- against the damages that were told
-- all of them are of epochs that ended, or the last one was found further on
pub record Short (log : List ℕ) (s : Sizes) (F : Files) (ds : List Told) (Q : List Record) : Type 0 where
  pub some : AreSome log s F (map told_of ds)
  pub rest : List Record
  pub ahead : records_of some.found.unscanned.front ≡ Q ++ rest

abbrev pub Past : Sizes → Files → List Told → List Record → Type 0
Past s F ds Q = map told_of ds ≡ damages_through s F Q

abbrev pub AreAmong : List ℕ → Sizes → Files → List Told → List Record → Type 0
AreAmong log s F ds Q = Past s F ds Q ⊎ Short log s F ds Q

-- the epoch ends at the record w, by what was told
pub record Ends (s : Sizes) (F : Files) (ds : List Told) (Q : List Record) (w : Record) : Type 0 where
  pub behind : List Record
  pub told : map told_of ds ≡ damages_through s F Q ++ damages_on s F Q (w ∷ behind)

module _ (log : List ℕ) (s : Sizes) (F : Files) (ds : List Told) where
  abbrev told : List Damage
  told = map told_of ds

  pub none_read : AreFound log s F ds → AreAmong log s F ds []
  none_read (inl e) = inl (ap (λ (z : List Told). map told_of z) e)
  none_read (inr a) = inr (record { some = a; rest = records_of a.found.unscanned.front; ahead = refl })

  -- all that was told, where the epoch that was found last ends
  told_to : (a : AreSome log s F told) (w : Record) → is_restarted w ≡ true
      → told ≡ damages_through s F (records_of a.found.unscanned.front) ++ damages_on s F (records_of a.found.unscanned.front) (w ∷ [])
  told_to a w k =
      let Q' = records_of a.found.unscanned.front in
      a.all
      ∙ (ap (λ z. z ++ a.last ∷ []) a.found.before
      ∙ (ap (λ d. damages_through s F Q' ++ d ∷ []) a.found.damage_is
      ∙ ap (λ z. damages_through s F Q' ++ z) (sym (closed_damage s F Q' w k a.found.unscanned.failed))))

  module _ (Q : List Record) where
    further : (a : AreSome log s F told) (g : Record) (Z : List Record) → records_of a.found.unscanned.front ≡ Q ++ g ∷ Z
        → Ends s F ds Q g × AreAmong log s F ds (Q ++ g ∷ [])
    further a g Z e = (
      record {
        behind = Z ++ closing ∷ [];
        told =
            told_to a closing refl
            ∙ (sym (through_push s F (records_of a.found.unscanned.front) closing)
            ∙ (ap (λ (q : List Record). damages_through s F (q ++ closing ∷ [])) e
            ∙ (ap (damages_through s F) (append_assoc Q (g ∷ Z) (closing ∷ []))
            ∙ on_append s F Q (g ∷ Z ++ closing ∷ []) [])));
      },
      inr (record { some = a; rest = Z; ahead = e ∙ sym (append_assoc Q (g ∷ []) Z) }),
    )

    just_here : (a : AreSome log s F told) (g : Record) → is_restarted g ≡ true → records_of a.found.unscanned.front ≡ Q
        → Ends s F ds Q g × AreAmong log s F ds (Q ++ g ∷ [])
    just_here a g k e =
        let same : told ≡ damages_through s F Q ++ damages_on s F Q (g ∷ []) =
        subst (λ (q : List Record). told ≡ damages_through s F q ++ damages_on s F q (g ∷ [])) e (told_to a g k) in
        (record { behind = []; told = same }, inl (same ∙ sym (through_push s F Q g)))

    too_long : (a : AreSome log s F told) (Z : List Record) → records_of a.found.unscanned.front ≡ Q ++ Z
        → length (records_of a.found.unscanned.front) < length Q → ⊥
    too_long a Z e lt = omega (arith, lt, ap length e, length-append Q Z)

    -- the record g is the next one
    pub next_is : (front : List (List Record)) (done : List Record) (g : Record) → Q ≡ records_of front ++ done
        → HasRecords log F.place front (done ++ g ∷ []) → AreAmong log s F ds Q
        → Past s F ds Q ⊎ (Ends s F ds Q g × AreAmong log s F ds (Q ++ g ∷ []))
    next_is front done g at has (inl past) = inl past
    next_is front done g at has (inr h) = inr (by_end h.some.found.unscanned.ends)
      where
        front' : List (List Record)
        front' = h.some.found.unscanned.front

        within : (later : List Record) (others : List (List Record)) → front' ≡ front ++ (done ++ g ∷ later) ∷ others
            → Ends s F ds Q g × AreAmong log s F ds (Q ++ g ∷ [])
        within later others e =
            further h.some g (later ++ records_of others)
            (ap records_of e
            ∙ (records_with front (done ++ g ∷ later) others
            ∙ (ap (λ z. records_of front ++ z) (append_assoc done (g ∷ later) (records_of others))
            ∙ (sym (append_assoc (records_of front) done (g ∷ later ++ records_of others))
            ∙ ap (λ z. z ++ (g ∷ later ++ records_of others)) (sym at)))))

        by_meeting : (r : Record) → is_restarted r ≡ true → Meets front front' done g r → Ends s F ds Q g × AreAmong log s F ds (Q ++ g ∷ [])
        by_meeting r k (Ahead later others e) = within later others e
        by_meeting r k (Here e none same) =
            just_here h.some g (subst (λ q. is_restarted q ≡ true) same k)
            (ap records_of e ∙ (sym (append-nil (records_of front)) ∙ (ap (λ z. records_of front ++ z) (sym none) ∙ sym at)))
        by_meeting r k (Behind lt) = absurd (too_long h.some h.rest h.ahead (subst (λ z. length (records_of front') < length z) (sym at) lt))

        by_end : ((e : ℕ) × TailOf log F.place front' e) ⊎ ((r : Record) × (is_restarted r ≡ true) × HasRecords log F.place front' (r ∷ []))
            → Ends s F ds Q g × AreAmong log s F ds (Q ++ g ∷ [])
        by_end (inl z) =
            let w = has_batch log F.place front front' (done ++ g ∷ []) z.0 has z.1 in
            within w.0 w.1 (w.2 ∙ ap (λ b. front ++ b ∷ w.1) (append_assoc done (g ∷ []) w.0))
        by_end (inr z) = by_meeting z.0 z.1 (meets log F.place front front' done g z.0 has z.2)

    -- or the log ends
    pub end_is : (front : List (List Record)) (e : ℕ) → records_of front ≡ Q → TailOf log F.place front e → AreAmong log s F ds Q
        → Past s F ds Q ⊎ Ends s F ds Q closing
    end_is front e at tail (inl past) = inl past
    end_is front e at tail (inr h) = by_end h.some.found.unscanned.ends
      where
        front' : List (List Record)
        front' = h.some.found.unscanned.front

        by_end : ((q : ℕ) × TailOf log F.place front' q) ⊎ ((r : Record) × (is_restarted r ≡ true) × HasRecords log F.place front' (r ∷ []))
            → Past s F ds Q ⊎ Ends s F ds Q closing
        by_end (inl z) = inr (just_here h.some closing refl (ap records_of (one_tail log F.place front' front z.0 e z.1 tail).0 ∙ at)).0
        by_end (inr z) =
            let w = has_batch log F.place front' front (z.0 ∷ []) e z.2 tail in
            absurd (too_long h.some h.rest h.ahead (omega (arith, ap length at, ap (λ (q : List (List Record)). length (records_of q)) w.2, ap length (records_with front' (z.0 ∷ [] ++ w.0) w.1), length-append (records_of front') ((z.0 ∷ [] ++ w.0) ++ records_of w.1))))

    -- ---- an epoch's end
    unlike : (x : Recovery) → Past s F ds Q → Assumes ds (known_by s F Q).first x → ⊥
    unlike x past a =
        let low : a.damage.first < (known_by s F Q).first = before s F Q (told_of a.damage) (subst (λ z. Contains z (told_of a.damage)) past (map_in told_of ds a.damage a.known)) in omega (arith, low, a.first)

    -- where it has to be read again, its damage wasn't known, and what was known is that of those before it
    pub found_here : (w : Record) (x : Recovery) → is_restarted w ≡ true → IsBehind s F Q x → Judges ds (known_by s F Q).first x
        → is_unscanned x ≡ true → Past s F ds Q ⊎ Ends s F ds Q w
        → Past s F ds Q × ((known_by s F Q).failed ≡ true)
    found_here w x k b (inl j) bad (inl past) = (past, ((tells_unscanned s F Q x b).0 j.1).0 bad)
    found_here w x k b (inr a) bad (inl past) = absurd (unlike x past a)
    found_here w x k b (inl j) bad (inr ends) =
        let m = map_from told_of ds (damage_through s F Q) (subst (λ z. Contains z (damage_through s F Q)) (sym ends.told) (has_here s F Q ends.behind w k (((tells_unscanned s F Q x b).0 j.1).0 bad))) in
        absurd (j.0 (m.0, m.1, ap (λ (d : Damage). d.first) m.2))
    found_here w x k b (inr a) bad (inr ends) =
        let same : damage_through s F Q ≡ told_of a.damage = here_is s F Q ends.behind w (told_of a.damage) k (subst (λ z. Contains z (told_of a.damage)) ends.told (map_in told_of ds a.damage a.known)) a.first in
        let good : is_unscanned x ≡ false = (tells_unscanned s F Q x b).1 (subst (λ (d : Damage). IsFor d.clean d.failing x.scan) (sym same) a.assumed) in absurd (cc)

    -- where it is taken as it is, none more is to be known
    pub past_on : (g : Record) (y : Recovery) → IsBehind s F Q y → Judges ds (known_by s F Q).first y → EndsScanned y g → Past s F ds Q
        → Past s F ds (Q ++ g ∷ [])
    past_on g y b j scanned past =
        past
        ∙ sym (through_push s F Q g ∙ (ap (λ z. damages_through s F Q ++ z) (none_closed (is_restarted g && (known_by s F Q).failed) refl) ∙ append-nil (damages_through s F Q)))
      where
        at_image : y.number ≡ y.image → (known_by s F Q).failed ≡ true → ⊥
        at_image e f =
            let none : (known_by s F Q).seen ≡ [] = b.stands.fresh (sym b.stands.number ∙ (e ∙ b.stands.image)) in
            let good : (known_by s F Q).failed ≡ false = sym b.stands.fails ∙ ap (list_any is_audit_fail) none in cc

        not_both : is_restarted g ≡ true → (known_by s F Q).failed ≡ true → ⊥
        not_both k f = by_judgement j (scanned k)
          where
            by_judgement : Judges ds (known_by s F Q).first y → (y.number ≡ y.image) ⊎ (is_unscanned y ≡ false) → ⊥
            by_judgement (inr a) z = unlike y past a
            by_judgement (inl w) (inl z) = at_image z f
            by_judgement (inl w) (inr z) = let bad : is_unscanned y ≡ true = ((tells_unscanned s F Q y b).0 w.1).1 f in cc

        none_closed : (c : Bool) → is_restarted g && (known_by s F Q).failed ≡ c → cond c (damage_through s F Q ∷ []) [] ≡ []
        none_closed true e = absurd (not_both (left_true (is_restarted g) _ e) (right_true (is_restarted g) _ e))
        none_closed false e = refl
