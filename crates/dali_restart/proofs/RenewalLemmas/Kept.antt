-- A renewal only adds to the log, whatever the words of the image are.
use Rattle.std.proofs.Common.{◌≡◌, ℕ, zero, suc, ◌+◌, ◌≤◌, List, [], ◌∷◌, length, take, Option, Some, None, ap, sym, subst, ◌∙◌, ◌⊎◌, inl, inr, ⊎_elim, arith}
use Rattle.std.specs.List.{AllByRecursion}
use Rattle.std.proofs.lemmas.List.{append-nil}
use Rattle.std.proofs.lemmas.List.Concat.{flat_map-append}
use Rattle.dali_record.specs.declared.records.Record.{Record}
use Rattle.dali_record.specs.Legal.{sizes_of}
use Rattle.dali_record.specs.Spelling.{spelling}
use Rattle.dali_record.specs.Files.{Files}
use Rattle.dali_history.proofs.Restarts.{sizes_of-restarted}
use Rattle.dali_store.specs.declared.store.FileName.{FileName}
use Rattle.dali_store.specs.declared.store.FileName.TheVariants.{Log}
use Rattle.dali_store.specs.Store.{Files as Disk, LeavesOnly, SameBut}
use Rattle.dali_store.proofs.Moments.{joins, started, weaker}
use Rattle.dali_log.specs.Anchors.{IsAnchor, MayHaveMoved}
use Rattle.dali_log.specs.Appending.{Adds, AllAdded, SomeAdded, next_place}
use Rattle.dali_log.specs.Log.{AreSpelled, LogOf, bodies}
use Rattle.dali_log.proofs.Rows.{grown}
use Rattle.dali_runs.specs.Run.{log_in}
use Rattle.dali_crash.specs.Checkpoints.{side_of}
use Rattle.dali_crash.specs.Disks.Disks.{CanBeImage, IsImageOf, Spells, image_file, image_name, sizes_in}
use Rattle.dali_crash.proofs.DisksLemmas.Bridges.{ends_at, spells_unmoved}
use Rattle.dali_crash.proofs.DisksLemmas.Changes.{spells_beside, spells_longer, spells_turned}
use Rattle.dali_restart.specs.declared.renewal.renewing.Standing.{Standing}
use Rattle.dali_restart.specs.Renewal.Logged.{restart_body, restart_of}
use Rattle.dali_restart.specs.Renewal.Renewed.{AllAre, EndsWith, IsLeftOf, Keeps, LogKeeps, MayAdd, TurnKeeps, head_at, with_image, with_restart}
use Rattle.dali_restart.specs.Renewal.Written.{LeftBeside, WritesOnly}
use Rattle.dali_restart.proofs.RenewalLemmas.Beside.{now_beside}

-- ---- the other image
beside_spells : (old : Disk → Type 0) (f : FileName) (p : Standing) (F : Files) → f ≡ image_name (side_of (p.current + 1)) → F.gates ≡ p.current → AllAre old F → (c : Disk) → LeftBeside old f c → Spells c F
beside_spells old f p F name gates all c q =
    spells_beside c q.0 F (all q.0 q.1) (subst (λ g. SameBut g q.0 c) (name ∙ ap (λ m. image_name (side_of (m + 1))) (sym gates)) q.2)

-- ---- the record
same_sizes : (F : Files) (rs ds : List ℕ) → sizes_in (with_restart rs ds F) ≡ sizes_in F
same_sizes F rs ds = ap sizes_of (flat_map-append (λ b. b) F.batches ((restart_of rs ds ∷ []) ∷ [])) ∙ sizes_of-restarted (log_in F) rs ds

module _ (old : Disk → Type 0) (p : Standing) (F : Files) (rs ds : List ℕ) (ends : EndsWith p (restart_of rs ds) F) (all : AllAre old F) where
  abbrev more : List (List Record)
  more = (restart_of rs ds ∷ []) ∷ []

  spelled : AllByRecursion AreSpelled more
  spelled = ((ends.spelled, tt), tt)

  log_there : (d : Disk) → old d → LogOf d.log F.batches p.place
  log_there d left =
      let is = all d left in
      subst (LogOf d.log F.batches) (ends_at d.log F.batches is.end is.log ∙ ends.place) is.log

  with_record : (c d l : Disk) → old d → SameBut Log d c → old l → Adds p.place (bodies more) l.log c.log → Spells c (with_restart rs ds F)
  with_record c d l left same there adds =
      spells_longer c d F more (next_place p.place (bodies more)) (all d left) same (grown l.log c.log F.batches more p.place (log_there l there) spelled adds)

  without_record : (c d l : Disk) → old d → SameBut Log d c → old l → Adds p.place [] l.log c.log → Spells c F
  without_record c d l left same there adds =
      subst (Spells c)
      (ap (λ bs. let G : Files = record { batches = bs; gates = F.gates; number = F.number; place = F.place; first = F.first; weight = F.weight; next = F.next; image = F.image; table = F.table } in G) (append-nil F.batches))
      (spells_longer c d F [] (next_place p.place []) (all d left) same (grown l.log c.log F.batches [] p.place (log_there l there) tt adds))

  module _ (body : List ℕ) (same_body : body ≡ restart_body rs ds) where
    body_is : body ∷ [] ≡ bodies more
    body_is = ap (λ (b : List ℕ). b ∷ []) (same_body ∙ sym (append-nil (spelling (restart_of rs ds))))

    some_spell : (c : Disk) → SomeAdded old p.place (body ∷ []) c → Spells c F ⊎ Spells c (with_restart rs ds F)
    some_spell c q = by_count q.log.2 q.log.3 (subst (λ bs. Adds p.place (take q.log.2 bs) q.log.0.log c.log) body_is q.log.4)
      where
        by_count : (k : ℕ) → k ≤ length (body ∷ []) → Adds p.place (take k (bodies more)) q.log.0.log c.log → Spells c F ⊎ Spells c (with_restart rs ds F)
        by_count zero le adds = inl (without_record c q.others.0 q.log.0 q.others.1 q.others.2 q.log.1 adds)
        by_count (suc zero) le adds = inr (with_record c q.others.0 q.log.0 q.others.1 q.others.2 q.log.1 adds)
        by_count (suc (suc k)) le adds = absurd (omega (arith, le))

    all_spell : (c : Disk) → AllAdded old p.place (body ∷ []) c → Spells c (with_restart rs ds F)
    all_spell c q = with_record c q.others.0 q.log.0 q.others.1 q.others.2 q.log.1 (subst (λ bs. Adds p.place bs q.log.0.log c.log) body_is q.log.2)

-- ---- over a store
module _ {V : Type 0} (told : V → Option Disk) (may_leave : V → Disk → Type 0) (moment : V → ℕ) (left_since : V → ℕ → Disk → Type 0) (counts : (s : V) (t : ℕ) (c : Disk) → t ≤ moment s → may_leave s c → left_since s t c) where
  -- behind the image's writes
  pub image_keeps : (f : FileName) (p : Standing) (words : List (List ℕ)) (old new : V) → f ≡ image_name (side_of (p.current + 1)) → WritesOnly told may_leave moment left_since f old new → TurnKeeps may_leave moment left_since p words old new
  image_keeps f p words old new name only F is all =
      weaker moment left_since old new (LeftBeside (may_leave old) f) (λ c. Spells c F ⊎ Spells c (with_image p words F)) only.any_moment
      (λ c q. inl (beside_spells (may_leave old) f p F name is.gates all c q))

  -- and behind the anchor's move
  pub move_keeps :
      (f : FileName) (p : Standing) (words : List (List ℕ)) (old mid new : V) → f ≡ image_name (side_of (p.current + 1)) → WritesOnly told may_leave moment left_since f old mid
      → (CanBeImage p.geometry (head_at p) words → (c : Disk) → may_leave mid c → IsImageOf p.geometry (image_file (side_of (p.current + 1)) c) (head_at p) words)
      → LeavesOnly moment left_since mid new (MayHaveMoved (may_leave mid) p.current)
      → TurnKeeps may_leave moment left_since p words old new
  move_keeps f p words old mid new name only image run F is all =
      joins moment left_since old mid new (λ c. Spells c F ⊎ Spells c (with_image p words F)) (MayHaveMoved (may_leave mid) p.current) (λ c. Spells c F ⊎ Spells c (with_image p words F))
      (image_keeps f p words old mid name only F is all) run (λ c q. q) one
    where
      there : (d : Disk) → may_leave mid d → Spells d F
      there d left = beside_spells (may_leave old) f p F name is.gates all d (now_beside told may_leave moment left_since f old mid counts only d left)

      holds : (d : Disk) → may_leave mid d → IsImageOf (sizes_in F) (image_file (side_of (F.gates + 1)) d) (head_at p) words
      holds d left =
          subst (λ n. IsImageOf (sizes_in F) (image_file (side_of (n + 1)) d) (head_at p) words) (sym is.gates)
          (subst (λ s. IsImageOf s (image_file (side_of (p.current + 1)) d) (head_at p) words) (sym is.sizes) (image is.image d left))

      one : (c : Disk) → MayHaveMoved (may_leave mid) p.current c → Spells c F ⊎ Spells c (with_image p words F)
      one c q =
          let o = q.others in
          ⊎_elim
          (λ stays. inl (spells_unmoved c o.0 F o.2 (subst (IsAnchor c.anchor) (sym is.gates) stays) (there o.0 o.1)))
          (λ more. inr (spells_turned c o.0 F (head_at p) words (there o.0 o.1) o.2 (subst (λ n. IsAnchor c.anchor (n + 1)) (sym is.gates) more) (holds o.0 o.1)))
          q.anchor

  -- ---- the record before it
  module _ (p : Standing) (body : List ℕ) (words : List (List ℕ)) (old mid new : V) where
    pub append_keeps : LeavesOnly moment left_since old new (SomeAdded (may_leave old) p.place (body ∷ [])) → LogKeeps may_leave moment left_since p body words old new
    append_keeps run F rs ds is ends same all =
        weaker moment left_since old new (SomeAdded (may_leave old) p.place (body ∷ [])) (IsLeftOf p None rs ds words F) run
        (λ c q. ⊎_elim (λ s. inl s) (λ s. inr (inl s)) (some_spell (may_leave old) p F rs ds ends all body same c q))

    pub log_keeps :
        LeavesOnly moment left_since old mid (SomeAdded (may_leave old) p.place (body ∷ [])) → ((c : Disk) → may_leave mid c → AllAdded (may_leave old) p.place (body ∷ []) c)
        → TurnKeeps may_leave moment left_since p words mid new → LogKeeps may_leave moment left_since p body words old new
    log_keeps run added keeps F rs ds is ends same all =
        let G = with_restart rs ds F in
        joins moment left_since old mid new (SomeAdded (may_leave old) p.place (body ∷ [])) (λ c. Spells c G ⊎ Spells c (with_image p words G)) (IsLeftOf p None rs ds words F) run
        (keeps G (record { gates = is.gates; sizes = same_sizes F rs ds ∙ is.sizes; image = is.image }) (λ c left. all_spell (may_leave old) p F rs ds ends all body same c (added c left)))
        (λ c q. ⊎_elim (λ s. inl s) (λ s. inr (inl s)) (some_spell (may_leave old) p F rs ds ends all body same c q))
        (λ c q. ⊎_elim (λ s. inr (inl s)) (λ s. inr (inr s)) q)

  -- ---- both
  module _ (p : Standing) (logged : Option ℕ) (rs ds : List ℕ) (words : List (List ℕ)) (old new : V) where
    pub nothing_keeps : ((s : V) (c : Disk) → left_since s (moment s) c → may_leave s c) → Keeps may_leave moment left_since p logged rs ds words old old
    nothing_keeps now F is adds all = started moment left_since old (IsLeftOf p logged rs ds words F) (λ c left. stays logged c (all c (now old c left)))
      where
        stays : (m : Option ℕ) (c : Disk) → Spells c F → IsLeftOf p m rs ds words F c
        stays None c s = inl s
        stays (Some end) c s = inl s

    pub keeps_logged : (end : ℕ) → logged ≡ Some end → TurnKeeps may_leave moment left_since p words old new → Keeps may_leave moment left_since p logged rs ds words old new
    keeps_logged end stands keeps F is adds all = subst (λ m. LeavesOnly moment left_since old new (IsLeftOf p m rs ds words F)) (sym stands) (keeps F is all)

    pub keeps_unlogged : (body : List ℕ) → logged ≡ None → body ≡ restart_body rs ds → LogKeeps may_leave moment left_since p body words old new → Keeps may_leave moment left_since p logged rs ds words old new
    keeps_unlogged body none same keeps F is adds all =
        subst (λ m. LeavesOnly moment left_since old new (IsLeftOf p m rs ds words F)) (sym none) (keeps F rs ds is (subst (λ m. MayAdd p m rs ds F) none adds) same all)
