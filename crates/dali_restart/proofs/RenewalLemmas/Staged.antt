-- What a renewal makes of the stages of a restart.
use Rattle.std.proofs.Common.{◌≡◌, ◌≢◌, ℕ, ◌+◌, ◌<◌, ◌≤◌, ◌^◌, List, [], ◌∷◌, ◌++◌, length, Option, Some, None, IfSome, refl, ap, sym, subst, ◌∙◌, inl, inr, arith}
use Rattle.std.specs.Prelude.{is_some, sum_by}
use Rattle.std.specs.List.{AllByRecursion}
use Rattle.std.proofs.lemmas.List.{append-nil}
use Rattle.std.proofs.lemmas.List.Sums.{sum_by-append}
use Rattle.dali_lists.proofs.Lists.{get_push}
use Rattle.dali_geometry.specs.Places.{regions}
use Rattle.dali_record.specs.declared.records.Record.{Record}
use Rattle.dali_record.specs.Blocks.{AllAreWords}
use Rattle.dali_record.specs.Legal.{sizes_of, IsLegalFor}
use Rattle.dali_record.specs.Spelling.{record_length, spelling}
use Rattle.dali_record.specs.Files.{Files, batch_length, next_after}
use Rattle.dali_history.specs.Recovered.{recovered}
use Rattle.dali_region.specs.declared.Side.{Side}
use Rattle.dali_region.specs.declared.Side.TheVariants.{A, B as SideB}
use Rattle.dali_store.specs.declared.store.FileName.{FileName}
use Rattle.dali_store.specs.declared.store.FileName.TheVariants.{Log, Anchor}
use Rattle.dali_store.specs.Store.{Files as Disk, LeavesOnly}
use Rattle.dali_store.proofs.Moments.{started, weaker, joins}
use Rattle.dali_log.specs.Appending.{next_place, SomeAdded, AllAdded}
use Rattle.dali_log.specs.Batch.{IsClosedAt, batches}
use Rattle.dali_log.specs.Log.{AreSpelled, bodies, records_in}
use Rattle.dali_log.proofs.Bytes.{batches_length}
use Rattle.dali_history.proofs.Restarts.{none_in_nothing}
use Rattle.dali_crash.specs.Checkpoints.{side_of}
use Rattle.dali_crash.proofs.Closing.{lawful_restarts}
use Rattle.dali_crash.proofs.RecoveredWords.{recovered_words}
use Rattle.dali_crash.specs.Disks.Disks.{AllSpell, CanBeImage, IsImageOf, image_file, image_name}
use Rattle.dali_log.specs.Anchors.{IsAnchor}
use Rattle.dali_log.specs.Anchors.{HasMoved, MayHaveMoved, AreAnchored}
use Rattle.dali_crash.specs.Disks.Bridges.{closed_head}
use Rattle.dali_crash.proofs.DisksLemmas.Heads.{heads_fit}
use Rattle.dali_resume.specs.Again.{closing}
use Rattle.dali_resume.specs.Interrupted.Stages.{IsLogged, IsAppending, IsMoving, AnswersAs, HoldsImage, closing_bodies}
use Rattle.dali_resume.proofs.InterruptedLemmas.Stages.{append_stages, appended, every_stage_answers, move_stages, moved, starts_behind, written}
use Rattle.dali_restart.specs.declared.renewal.renewing.Standing.{Standing}
use Rattle.dali_restart.specs.Renewal.Written.{LeftBeside, ToldBeside, WritesOnly, head_in}
use Rattle.dali_restart.specs.Renewal.Logged.{restart_body}
use Rattle.dali_restart.specs.Renewal.Renewed.{AnyStage, AnswersAlike, AreReady, EndsBehind, KeepLogs, ImageTurns, IsStanding, LeftAt, LogStops, LogTurns, Names, Renews, SpellsSome, StandsAt, StartsRun, Stops, TurnStops, header_at}
use Rattle.dali_restart.proofs.RenewalLemmas.Beside.{now_beside}

-- ---- the anchor, where another file changed
pub not_image : (side : Side) → Anchor ≢ image_name side
not_image A = λ e. cc
not_image SideB = λ e. cc

pub not_log : Anchor ≢ Log
not_log = λ e. cc

pub anchored_beside : (old new : Disk → Type 0) (f : FileName) (n : ℕ) → Anchor ≢ f → ((c : Disk) → new c → LeftBeside old f c) → AreAnchored old n → AreAnchored new n
anchored_beside old new f n other beside anchored c is = let d = beside c is in subst (λ bytes. IsAnchor bytes n) (sym (d.2 Anchor other)) (anchored d.0 d.1)

pub tells_beside : (f : FileName) (t u : Option Disk) → ToldBeside f t u → is_some u ≡ is_some t
tells_beside f None u same = ap is_some same
tells_beside f (Some fs) None same = absurd same
tells_beside f (Some fs) (Some gs) same = refl

-- ---- the log, where other files changed
log_not_image : (side : Side) → Log ≢ image_name side
log_not_image A = λ e. cc
log_not_image SideB = λ e. cc

log_not_anchor : Log ≢ Anchor
log_not_anchor = λ e. cc

pub logs_kept : (old mid new : Disk → Type 0) (f : FileName) (side : Side) (n : ℕ) → f ≡ image_name side → ((c : Disk) → mid c → LeftBeside old f c) → ((c : Disk) → new c → HasMoved mid n c) → KeepLogs old new
logs_kept old mid new f side n name beside has c is =
    let d = (has c is).others in
    let e = beside d.0 d.1 in
    (e.0, e.1, d.2 Log log_not_anchor ∙ e.2 Log (subst (λ g. Log ≢ g) (sym name) (log_not_image side)))

pub now_anchored_next : (mid new : Disk → Type 0) (n : ℕ) → ((c : Disk) → new c → HasMoved mid n c) → AreAnchored new (n + 1)
now_anchored_next mid new n has c is = (has c is).anchor

pub ready_by : (old new : Disk → Type 0) (end n : ℕ) → ((c : Disk) → old c → IsClosedAt end c.log) → KeepLogs old new → AreAnchored new n → AreReady new end n
ready_by old new end n closed logs anchored = record {
  closed = λ c is. let d = logs c is in subst (IsClosedAt end) (sym d.2) (closed d.0 d.1);
  anchored = anchored;
}

-- ---- the image

module _ (L : List Record) (B : List (List Record)) (n : ℕ) (p : Standing) (words : List (List ℕ)) (is : IsStanding L B n p words) where
  -- whatever the words are
  pub any_image_fits : (image : List (List ℕ)) → p.current < 2 ^ 62 → p.place < 2 ^ 62 → length image ≡ regions p.geometry → AllAreWords image → CanBeImage p.geometry (head_in (header_at p)) image
  any_image_fits image current place whole all =
      heads_fit p.geometry L (head_in (header_at p)) image (subst (λ s. IsLegalFor s L) (sym is.sizes) is.restarting.lawful.legal) is.restarting.lawful.spelled
      (none_in_nothing L is.restarting.some.0 is.restarting.some.1 is.restarting.some.2)
      (record { first = is.first; weight = is.weight; next = is.next; table = inr refl }) (omega (arith, current)) (omega (arith, place)) whole all

  image_fits : p.current < 2 ^ 62 → p.place < 2 ^ 62 → length words ≡ regions p.geometry → CanBeImage p.geometry (head_in (header_at p)) words
  image_fits current place whole = any_image_fits words current place whole (subst AllAreWords (sym is.image) (recovered_words L is.restarting.lawful.spelled))

  head_is : head_in (header_at p) ≡ closed_head (n + 1) B
  head_is =
      let number : p.current + 1 ≡ n + 1 = ap (λ m. m + 1) is.current in
      let first : p.first ≡ length (records_in B) = is.first ∙ ap length (sym is.restarting.batches) in
      let weight : p.weight ≡ sum_by record_length (records_in B) = is.weight ∙ ap (sum_by record_length) (sym is.restarting.batches) in
      let next : p.next ≡ next_after (records_in B) = is.next ∙ ap next_after (sym is.restarting.batches) in
      λ i. record { number = number i; place = is.place i; first = first i; weight = weight i; next = next i; table = [] }

  holds : (d : Disk) → IsImageOf p.geometry (image_file (side_of (p.current + 1)) d) (head_in (header_at p)) words → HoldsImage L B n d
  holds d image =
      subst (λ m. IsImageOf (sizes_of L) (image_file (side_of (m + 1)) d) (closed_head (n + 1) B) (recovered (sizes_of L) L)) is.current
      (subst (IsImageOf (sizes_of L) (image_file (side_of (p.current + 1)) d) (closed_head (n + 1) B)) is.image
      (subst (λ h. IsImageOf (sizes_of L) (image_file (side_of (p.current + 1)) d) h words) head_is
      (subst (λ s. IsImageOf s (image_file (side_of (p.current + 1)) d) (head_in (header_at p)) words) is.sizes image)))

  logged_beside : (f : FileName) (old : Disk → Type 0) → f ≡ image_name (side_of (p.current + 1)) → AllSpell old (IsLogged L B n) → AllSpell (LeftBeside old f) (IsLogged L B n)
  logged_beside f old name all =
      (written old (LeftBeside old f) L B n (λ c q. subst (λ g. LeftBeside old g c) (name ∙ ap (λ m. image_name (side_of (m + 1))) is.current) q)).1 all

  anchored_now : (old : Disk → Type 0) → AreAnchored old p.current → AreAnchored old n
  anchored_now old anchored = subst (AreAnchored old) is.current anchored

-- ---- over a store
moving : (L : List Record) (B : List (List Record)) (n : ℕ) (F : Files) → IsMoving L B n F → AnyStage L B n F
moving L B n F (inl g) = inl (inr g)
moving L B n F (inr t) = inr t

pub any_stage : (logged : Option ℕ) (L : List Record) (B : List (List Record)) (n : ℕ) (F : Files) → LeftAt logged L B n F → AnyStage L B n F
any_stage None L B n F left = left
any_stage (Some end) L B n F left = moving L B n F left

module _ {V : Type 0} (told : V → Option Disk) (may_leave : V → Disk → Type 0) (moment : V → ℕ) (left_since : V → ℕ → Disk → Type 0) (counts : (s : V) (t : ℕ) (c : Disk) → t ≤ moment s → may_leave s c → left_since s t c) where
  -- behind the image's writes
  pub image_stops : (f : FileName) (p : Standing) (words : List (List ℕ)) (old new : V) → f ≡ image_name (side_of (p.current + 1)) → WritesOnly told may_leave moment left_since f old new → TurnStops may_leave moment left_since p words old new
  image_stops f p words old new name only L B n is all =
      weaker moment left_since old new (LeftBeside (may_leave old) f) (SpellsSome (IsMoving L B n)) only.any_moment
      (λ c q. let w = logged_beside L B n p words is f (may_leave old) name all c q in (w.0, w.1, inl w.2))

  module _ (f : FileName) (p : Standing) (words : List (List ℕ)) (old mid new : V) (name : f ≡ image_name (side_of (p.current + 1))) (only : WritesOnly told may_leave moment left_since f old mid) (current : p.current < 2 ^ 62) (place : p.place < 2 ^ 62) (whole : length words ≡ regions p.geometry) (image : CanBeImage p.geometry (head_in (header_at p)) words → (c : Disk) → may_leave mid c → IsImageOf p.geometry (image_file (side_of (p.current + 1)) c) (head_in (header_at p)) words) (anchored : AreAnchored (may_leave old) p.current) where
    module _ (L : List Record) (B : List (List Record)) (n : ℕ) (is : IsStanding L B n p words) (all : AllSpell (may_leave old) (IsLogged L B n)) where
      now_logged : AllSpell (may_leave mid) (IsMoving L B n)
      now_logged c left = let w = logged_beside L B n p words is f (may_leave old) name all c (now_beside told may_leave moment left_since f old mid counts only c left) in (w.0, w.1, inl w.2)

      now_anchored : AreAnchored (may_leave mid) n
      now_anchored = anchored_now L B n p words is (may_leave mid) (anchored_beside (may_leave old) (may_leave mid) f p.current (subst (λ g. Anchor ≢ g) (sym name) (not_image (side_of (p.current + 1)))) (now_beside told may_leave moment left_since f old mid counts only) anchored)

      now_holds : (d : Disk) → may_leave mid d → HoldsImage L B n d
      now_holds d left = holds L B n p words is d (image (image_fits L B n p words is current place whole) d left)

    pub image_turns : ((c : Disk) → may_leave new c → HasMoved (may_leave mid) p.current c) → ImageTurns may_leave moment left_since p words old new
    image_turns has L B n is all c left =
        moved (may_leave mid) L B n is.restarting (now_logged L B n is all) (now_anchored L B n is all) (now_holds L B n is all) c (subst (λ m. HasMoved (may_leave mid) m c) is.current (has c left))

    pub move_stops : LeavesOnly moment left_since mid new (MayHaveMoved (may_leave mid) p.current) → TurnStops may_leave moment left_since p words old new
    move_stops run L B n is all =
        joins moment left_since old mid new (SpellsSome (IsMoving L B n)) (MayHaveMoved (may_leave mid) p.current) (SpellsSome (IsMoving L B n)) (image_stops f p words old mid name only L B n is all) run (λ c q. q)
        (λ c q. move_stages (may_leave mid) L B n is.restarting (now_logged L B n is all) (now_anchored L B n is all) (now_holds L B n is all) c (subst (λ m. MayHaveMoved (may_leave mid) m c) is.current q))

  -- ---- the record before it
  module _ (p : Standing) (body : List ℕ) (words : List (List ℕ)) (old mid new : V) (closed : (c : Disk) → may_leave old c → IsClosedAt p.place c.log) where
    module _ (L : List Record) (B : List (List Record)) (n : ℕ) (is : IsStanding L B n p words) (same : body ≡ spelling (closing L)) (all : AllSpell (may_leave old) (IsAppending L B n)) where
      body_is : body ∷ [] ≡ closing_bodies L
      body_is = ap (λ (b : List ℕ). b ∷ []) (same ∙ sym (append-nil (spelling (closing L))))

      closed_there : (d : Disk) → may_leave old d → IsClosedAt (sum_by batch_length B) d.log
      closed_there d left = subst (λ at. IsClosedAt at d.log) is.place (closed d left)

      some_there : (c : Disk) → SomeAdded (may_leave old) p.place (body ∷ []) c → SpellsSome (AnyStage L B n) c
      some_there c q =
          let w = append_stages (may_leave old) L B n is.restarting all closed_there c (subst (λ at. SomeAdded (may_leave old) at (closing_bodies L) c) is.place (subst (λ more. SomeAdded (may_leave old) p.place more c) body_is q)) in
          (w.0, w.1, inl w.2)

      all_there : (c : Disk) → AllAdded (may_leave old) p.place (body ∷ []) c → SpellsSome (IsLogged L B n) c
      all_there c q = appended (may_leave old) L B n is.restarting all closed_there c (subst (λ at. AllAdded (may_leave old) at (closing_bodies L) c) is.place (subst (λ more. AllAdded (may_leave old) p.place more c) body_is q))

    pub append_stops : LeavesOnly moment left_since old new (SomeAdded (may_leave old) p.place (body ∷ [])) → LogStops may_leave moment left_since p body words old new
    append_stops run L B n is same all = weaker moment left_since old new (SomeAdded (may_leave old) p.place (body ∷ [])) (SpellsSome (AnyStage L B n)) run (some_there L B n is same all)

    pub log_turns : ((c : Disk) → may_leave mid c → AllAdded (may_leave old) p.place (body ∷ []) c) → ImageTurns may_leave moment left_since p words mid new → LogTurns may_leave moment left_since p body words old new
    log_turns added turns L B n is same all = turns L B n is (λ c left. all_there L B n is same all c (added c left))

    pub log_stops : LeavesOnly moment left_since old mid (SomeAdded (may_leave old) p.place (body ∷ [])) → ((c : Disk) → may_leave mid c → AllAdded (may_leave old) p.place (body ∷ []) c) → TurnStops may_leave moment left_since p words mid new → LogStops may_leave moment left_since p body words old new
    log_stops run added stops L B n is same all =
        joins moment left_since old mid new (SomeAdded (may_leave old) p.place (body ∷ [])) (SpellsSome (IsMoving L B n)) (SpellsSome (AnyStage L B n)) run (stops L B n is (λ c left. all_there L B n is same all c (added c left)))
        (some_there L B n is same all) (λ c q. (q.0, q.1, moving L B n q.0 q.2))

  -- ---- both
  module _ (p : Standing) (logged : Option ℕ) (rs ds : List ℕ) (words : List (List ℕ)) (old new : V) where
    pub nothing_stops : ((s : V) (c : Disk) → left_since s (moment s) c → may_leave s c) → Stops may_leave moment left_since p logged rs ds words old old
    nothing_stops now L B n is names all = started moment left_since old (SpellsSome (LeftAt logged L B n)) (λ c left. let w = all c (now old c left) in (w.0, w.1, stands logged w.0 w.2))
      where
        stands : (m : Option ℕ) (F : Files) → StandsAt m L B n F → LeftAt m L B n F
        stands None F f = inl f
        stands (Some end) F f = inl f

    pub stops_logged : (end : ℕ) → logged ≡ Some end → TurnStops may_leave moment left_since p words old new → Stops may_leave moment left_since p logged rs ds words old new
    stops_logged end stands stops L B n is names all =
        subst (λ m. LeavesOnly moment left_since old new (SpellsSome (LeftAt m L B n))) (sym stands) (stops L B n is (subst (λ m. AllSpell (may_leave old) (StandsAt m L B n)) stands all))

    pub renews_logged : (end : ℕ) → logged ≡ Some end → ImageTurns may_leave moment left_since p words old new → Renews may_leave moment left_since p logged rs ds words old new
    renews_logged end stands turns L B n is names all = turns L B n is (subst (λ m. AllSpell (may_leave old) (StandsAt m L B n)) stands all)

    named : (L : List Record) (body : List ℕ) → logged ≡ None → body ≡ restart_body rs ds → Names logged rs ds L → body ≡ spelling (closing L)
    named L body none same names = same ∙ ap spelling (subst (λ m. Names m rs ds L) none names)

    pub stops_unlogged : (body : List ℕ) → logged ≡ None → body ≡ restart_body rs ds → LogStops may_leave moment left_since p body words old new → Stops may_leave moment left_since p logged rs ds words old new
    stops_unlogged body none same stops L B n is names all =
        subst (λ m. LeavesOnly moment left_since old new (SpellsSome (LeftAt m L B n))) (sym none)
        (stops L B n is (named L body none same names) (subst (λ m. AllSpell (may_leave old) (StandsAt m L B n)) none all))

    pub renews_unlogged : (body : List ℕ) → logged ≡ None → body ≡ restart_body rs ds → LogTurns may_leave moment left_since p body words old new → Renews may_leave moment left_since p logged rs ds words old new
    renews_unlogged body none same turns L B n is names all = turns L B n is (named L body none same names) (subst (λ m. AllSpell (may_leave old) (StandsAt m L B n)) none all)

    answers_alike : Stops may_leave moment left_since p logged rs ds words old new → AnswersAlike may_leave moment left_since p logged rs ds words old new
    answers_alike stops L B n history is names all = weaker moment left_since old new (SpellsSome (LeftAt logged L B n)) (SpellsSome (AnswersAs L)) (stops L B n is names all) (λ c q. (q.0, q.1, answer q.0 (any_stage logged L B n q.0 q.2)))
      where
        answer : (F : Files) → AnyStage L B n F → AnswersAs L F
        answer F (inl (inl f)) = (every_stage_answers L B n F history is.restarting).found f
        answer F (inl (inr g)) = (every_stage_answers L B n F history is.restarting).logged g
        answer F (inr t) = (every_stage_answers L B n F history is.restarting).turned t

    pub answered : (o : Option Disk) → IfSome o (λ _. Stops may_leave moment left_since p logged rs ds words old new) → IfSome o (λ _. AnswersAlike may_leave moment left_since p logged rs ds words old new)
    answered None stops = tt
    answered (Some fs) stops = answers_alike stops

-- ---- a run behind it
pub starts_run : {V : Type 0} (may_leave : V → Disk → Type 0) → StartsRun may_leave
starts_run may_leave L B n store s w all log rules fits may end current c left =
    let q = all c left in (
      q.0,
      q.1,
      starts_behind L B n q.0 s w q.2 log rules fits may
          (end ∙ ap (λ (bs : List (List Record)). sum_by batch_length (bs ++ (closing L ∷ []) ∷ [])) (sym q.2.1.batches) ∙ ap (λ (F : Files). sum_by batch_length F.batches) (sym q.2.2)) current,
    )

pub ends_behind : EndsBehind
ends_behind L B n p words rs ds is names =
    ap (λ (r : Record). next_place p.place (bodies ((r ∷ []) ∷ []))) names
    ∙ (ap (λ k. k + length (batches (closing_bodies L))) is.place
    ∙ (ap (λ k. sum_by batch_length B + k) (batches_length ((closing L ∷ []) ∷ []) spelled)
    ∙ sym (sum_by-append batch_length B ((closing L ∷ []) ∷ []))))
  where
    spelled : AllByRecursion AreSpelled ((closing L ∷ []) ∷ [])
    spelled = (((lawful_restarts L is.restarting.some.0 is.restarting.some.1 is.restarting.lawful is.restarting.some.2).spelled (length L) (closing L) (get_push L (closing L)), tt), tt)
