-- A restart only adds to the log, also where the words of the image aren't those that the log wants.
use Rattle.std.proofs.Common.{◌≡◌, ℕ, ◌+◌, ◌<◌, List, [], ◌∷◌, ◌++◌, length, fold, Option, Some, None, refl, ap, sym, subst, ◌∙◌, ◌⊎◌, inl, inr, ⊎_elim}
use Rattle.std.specs.Prelude.{sum_by, if◌then◌else◌}
use Rattle.std.proofs.lemmas.List.{append-nil}
use Rattle.dali_lists.proofs.Lists.{get_push}
use Rattle.dali_geometry.specs.Sizes.{Sizes}
use Rattle.dali_geometry.specs.Places.{formatted_image, regions}
use Rattle.dali_record.specs.declared.records.Record.{Record}
use Rattle.dali_record.specs.Blocks.{AllAreWords}
use Rattle.dali_record.specs.Files.{Files, batch_length, with_batch}
use Rattle.dali_record.specs.Legal.{sizes_of}
use Rattle.dali_record.specs.Spelling.{CanBeSpelled}
use Rattle.dali_history.specs.Recovered.{recovered}
use Rattle.dali_history.proofs.Prefixes.{sizes_of-front}
use Rattle.dali_region.specs.declared.Side.{Side}
use Rattle.dali_region.specs.declared.Side.TheVariants.{A, B as SideB}
use Rattle.dali_store.specs.Store.{Files as Disk, Only}
use Rattle.dali_store.proofs.Moments.{started, weaker}
use Rattle.dali_runs.specs.Run.{log_in}
use Rattle.dali_crash.specs.Checkpoints.{side_of}
use Rattle.dali_crash.specs.Disks.Disks.{IsImageOf, Spells, head_of, image_bytes, image_file, sizes_in, unchecked}
use Rattle.dali_crash.proofs.RecoveredWords.{recovered_words}
use Rattle.dali_resume.specs.Again.{Outcome, closing, turned, with_closing}
use Rattle.dali_resume.specs.Batches.{bad_of, earlier, misplaced, records_of}
use Rattle.dali_resume.specs.Onward.{Going, HandedOut, goes_through, going_at, going_next, hands_on, verdict_by}
use Rattle.dali_resume.specs.Resumed.{rolled_by, deleted_by, scan, damage_from}
use Rattle.dali_resume.specs.Tests.{Known, known_next}
use Rattle.dali_resume.specs.Onward.{rolled_behind, deleted_behind}
use Rattle.dali_resume.specs.Interrupted.Rests.{EndsLogged, IsToBegin, SaysOf}
use Rattle.dali_resume.specs.Interrupted.Found.{FindsIt}
use Rattle.dali_resume.proofs.InterruptedLemmas.Saying.{stages_say}
use Rattle.dali_resume.proofs.InterruptedLemmas.Stages.{closed_lawful, same_sizes}
use Rattle.dali_recovery.specs.Laws.{outcome_of}
use Rattle.dali_recovery.specs.Reload.Reading.{IsReloaded}
use Rattle.dali_restart.specs.Renewal.Logged.{restart_of}
use Rattle.dali_restart.specs.Renewal.Renewed.{AllAre, EndsWith, IsLeftOf, IsStanding, Keeps, MayBeRenewed, with_image, with_restart}
use Rattle.dali_restart.specs.declared.renewal.renewing.Standing.{Standing}
use Rattle.dali_restart.specs.Deciding.{IsBase, IsInOrder, ReadsAll, at_end, due_of}
use Rattle.dali_restart.specs.Restarting.{FindsBut, GoesOnFrom, IsLaterOf, SpellsLater, StopsAppending, with_words}
use Rattle.dali_restart.specs.declared.restarting.Due.TheVariants as dues
use Rattle.dali_restart.specs.declared.restarting.Found.{Found}
use Rattle.dali_restart.proofs.Beginning.{begins_but}
use Rattle.dali_restart.proofs.Due.{is_before, same_sizes as due_sizes}
use Rattle.dali_restart.proofs.RenewalLemmas.Staged.{any_image_fits}
use Rattle.dali_restart.proofs.Settling.{EndsSo, IsReadOf, ended_log, ends_so, names, stands_begun, stands_ended, to_begin}

-- ---- what is read doesn't depend on the words, but for the words that are handed out
record AreAlike (c d : Going) : Type 0 where
  known : c.known ≡ d.known
  rolled : c.rolled ≡ d.rolled
  deleted : c.deleted ≡ d.deleted

alike_through : (s : Sizes) (n : ℕ) (Q : List Record) (c d : Going) → AreAlike c d → AreAlike (fold (going_next s n) c Q) (fold (going_next s n) d Q)
alike_through s n [] c d a = a
alike_through s n (r ∷ Q) c d a =
    alike_through s n Q (going_next s n c r) (going_next s n d r)
    (record { known = ap (λ k. known_next k r) a.known; rolled = ap (λ ts. rolled_behind ts r) a.rolled; deleted = ap (λ ts. deleted_behind ts r) a.deleted })

abbrev rolled_at : Known → List ℕ → List ℕ
rolled_at k ts = if k.restarted then ts else rolled_by k.table k.seen

abbrev deleted_at : Known → List ℕ → List ℕ
deleted_at k ts = if k.restarted then ts else deleted_by k.table k.seen (scan (damage_from k.first k.seen) k.table k.seen)

same_rolled : (s : Sizes) (c d : Going) → AreAlike c d → (hands_on s c).rolled ≡ (hands_on s d).rolled
same_rolled s c d a = ap (λ k. rolled_at k c.rolled) a.known ∙ ap (λ ts. rolled_at d.known ts) a.rolled

same_deleted : (s : Sizes) (c d : Going) → AreAlike c d → (hands_on s c).deleted ≡ (hands_on s d).deleted
same_deleted s c d a = ap (λ k. deleted_at k c.deleted) a.known ∙ ap (λ ts. deleted_at d.known ts) a.deleted

handed : (n : ℕ) (o p : Outcome) (e : Option ℕ) → verdict_by n o e ≡ HandedOut p → (e ≡ None) × (o ≡ p)
handed n o p None is = (refl, let same : o ≡ p = cc in same)
handed n o p (Some i) is = absurd cc

-- ---- files with the right words
module _ (fs : Disk) (F : Files) (is : Spells fs F) (but : FindsBut F) where
  abbrev G : Files
  G = with_words F but.right

  abbrev bytes : List ℕ
  bytes = image_bytes (sizes_in F) (head_of F) but.right

  abbrev gs : Disk
  gs = record { log = fs.log; a = bytes; b = bytes; anchor = fs.anchor }

  on_side : (side : Side) → image_file side gs ≡ bytes
  on_side A = refl
  on_side SideB = refl

  front_sizes : sizes_of but.finds.found.front ≡ sizes_in F
  front_sizes = sym (sizes_of-front but.finds.found.front (records_of but.finds.found.more) but.finds.found.some) ∙ ap sizes_of but.finds.found.log

  held : 0 < F.gates → IsImageOf (sizes_in F) bytes (head_of F) but.right
  held some =
      let f = (is.image some).fits in
      record {
        fits = record {
          number = f.number;
          place = f.place;
          first = f.first;
          weight = f.weight;
          some = f.some;
          next = f.next;
          whole = but.finds.found.fits.1.image_whole ∙ ap regions front_sizes;
          words = but.words;
          count = f.count;
          size = f.size;
          rows = f.rows;
          ascending = f.ascending;
        };
        rest = [];
        spells = sym (append-nil bytes);
      }

  none : F.gates ≡ 0 → with_words F but.right ≡ unchecked (sizes_in F) F.batches
  none e =
      let formatted : but.right ≡ formatted_image (sizes_in F) = (but.finds.found.fits.1.fits.fresh e).3 ∙ ap formatted_image front_sizes in
      ap (λ (H : Files). with_words H but.right) (is.none e) ∙ ap (λ (w : List (List ℕ)). with_words (unchecked (sizes_in F) F.batches) w) formatted

  spells : Spells gs G
  spells = record {
    end = is.end;
    log = is.log;
    anchor = is.anchor;
    none = none;
    image = λ some. subst (λ l. IsImageOf (sizes_in F) l (head_of F) but.right) (sym (on_side (side_of F.gates))) (held some);
  }

  module _ (x : Found) (all : ReadsAll fs x) where
    here : IsBase (sizes_in F) F x.base × IsReloaded fs.log (sizes_in F) F x.reloaded
    here = all (sizes_in F) F (begins_but fs F is but.right but.finds)

    abbrev Q : List Record
    Q = records_of here.1.batches

    abbrev own_going : Going
    own_going = goes_through (sizes_in F) F Q

    abbrev right_going : Going
    right_going = goes_through (sizes_in F) G Q

    alike : AreAlike own_going right_going
    alike = alike_through (sizes_in F) F.first Q (going_at F) (going_at G) (record { known = refl; rolled = refl; deleted = refl })

    own : (earlier (bad_of (sizes_in F) F here.1.batches) (misplaced here.1.batches) ≡ None) × (hands_on (sizes_in F) own_going ≡ outcome_of x.reloaded.recovered)
    own = handed F.first (hands_on (sizes_in F) own_going) (outcome_of x.reloaded.recovered) (earlier (bad_of (sizes_in F) F here.1.batches) (misplaced here.1.batches)) here.1.verdict

    read : IsBase (sizes_in G) G x.base × IsReadOf gs G x
    read = (
      record { geometry = here.0.geometry; current = here.0.current; header = here.0.header },
      record {
        batches = here.1.batches;
        tail = here.1.tail;
        outcome = hands_on (sizes_in F) right_going;
        verdict = ap (verdict_by F.first (hands_on (sizes_in F) right_going)) own.0;
        rolled = ap (λ (o : Outcome). o.rolled) (sym own.1) ∙ same_rolled (sizes_in F) own_going right_going alike;
        deleted = ap (λ (o : Outcome). o.deleted) (sym own.1) ∙ same_deleted (sizes_in F) own_going right_going alike;
        next = here.1.next ∙ ap (λ (k : Known). k.next) alike.known;
        counted = here.1.counted;
      },
    )

-- ---- files that come of them
later_self : (F : Files) → FindsBut F → IsLaterOf F F
later_self F but = record { finds = but; log = inl refl }

finds_but : (H : Files) (L : List Record) (right : List (List ℕ)) (M : Files) → AllAreWords right → with_words H right ≡ M → SaysOf L M → FindsBut H
finds_but H L right M words same says = record { right = right; words = words; finds = subst FindsIt (sym same) says.finds }

module _ {V : Type 0} (may_leave : V → Disk → Type 0) (moment : V → ℕ) (left_since : V → ℕ → Disk → Type 0) (fs : Disk) (x : Found) (order : IsInOrder x) (words : AllAreWords x.reloaded.recovered.regions.items) (old new : V)
    (only : Only fs (may_leave old)) (all : ReadsAll fs x) where
  abbrev told_rolled : List ℕ
  told_rolled = x.reloaded.recovered.rolled_back.items

  abbrev told_deleted : List ℕ
  told_deleted = x.reloaded.recovered.deleted.items

  abbrev told_words : List (List ℕ)
  told_words = x.reloaded.recovered.regions.items

  there : (F : Files) → Spells fs F → AllAre (may_leave old) F
  there F is c left = subst (λ d. Spells d F) (sym (only c left)) is

  -- ---- the record is due
  module _ (due : due_of x ≡ dues.Record) (F : Files) (is : Spells fs F) (but : FindsBut F) where
    abbrev K : Files
    K = with_words F but.right

    begun : IsToBegin (with_words F but.right)
    begun = to_begin (gs fs F is but) K (spells fs F is but) but.finds x (read fs F is but x all) due

    stands : IsStanding (log_in F) F.batches F.gates (at_end x) (read fs F is but x all).1.outcome.image
    stands = stands_begun (gs fs F is but) K (spells fs F is but) but.finds x (read fs F is but x all) begun

    named : restart_of told_rolled told_deleted ≡ closing (log_in F)
    named = names (gs fs F is but) K (spells fs F is but) but.finds x (read fs F is but x all) begun

    may_be : MayBeRenewed (at_end x) told_words F
    may_be = record {
      gates = sym (here fs F is but x all).0.current;
      sizes = sym (here fs F is but x all).0.geometry;
      image = any_image_fits (log_in F) F.batches F.gates (at_end x) (read fs F is but x all).1.outcome.image stands told_words order.room.current order.small.end order.ordered.whole words;
    }

    ends : EndsWith (at_end x) (restart_of told_rolled told_deleted) F
    ends = record {
      place = sym stands.place;
      spelled = subst CanBeSpelled (sym named) ((closed_lawful (log_in F) F.batches begun.restarting).spelled (length (log_in F)) (closing (log_in F)) (get_push (log_in F) (closing (log_in F))));
    }

    logged_says : SaysOf (log_in F) (with_closing (log_in F) K)
    logged_says = (stages_say (log_in F) F.batches F.gates (with_closing (log_in F) K) begun.restarting).logged (K, but.finds.found, refl)

    turned_says : SaysOf (log_in F) (turned (log_in F) K)
    turned_says = (stages_say (log_in F) F.batches F.gates (turned (log_in F) K) begun.restarting).turned (K, but.finds.found, refl)

    with_record : with_words (with_restart told_rolled told_deleted F) but.right ≡ with_closing (log_in F) K
    with_record = ap (λ (r : Record). with_batch K (r ∷ [])) named

    with_both : with_words (with_image (at_end x) told_words (with_restart told_rolled told_deleted F)) (recovered (sizes_of (log_in F)) (log_in F)) ≡ turned (log_in F) K
    with_both =
        let number : (at_end x).current + 1 ≡ F.gates + 1 = ap (λ n. n + 1) stands.current in
        let batches : F.batches ++ (restart_of told_rolled told_deleted ∷ []) ∷ [] ≡ F.batches ++ (closing (log_in F) ∷ []) ∷ [] = ap (λ (r : Record). F.batches ++ (r ∷ []) ∷ []) named in
        λ i. record {
          batches = batches i;
          gates = F.gates + 1;
          number = number i;
          place = stands.place i;
          first = stands.first i;
          weight = stands.weight i;
          next = stands.next i;
          image = recovered (sizes_of (log_in F)) (log_in F);
          table = [];
        }

    closed : (H : Files) → log_in H ≡ log_in (with_restart told_rolled told_deleted F) → GoesOnFrom (log_in F) (log_in H)
    closed H same =
        ⊎_elim (λ e. inl (same ∙ (ap log_in with_record ∙ e))) (λ e. inr (same ∙ (ap log_in with_record ∙ e))) logged_says.log

    later : (c : Disk) → IsLeftOf (at_end x) None told_rolled told_deleted told_words F c → SpellsLater F c
    later c (inl s) = (F, s, later_self F but)
    later c (inr (inl s)) =
        let H = with_restart told_rolled told_deleted F in (
          H,
          s,
          record { finds = finds_but H (log_in F) but.right (with_closing (log_in F) K) but.words with_record logged_says; log = closed H refl },
        )
    later c (inr (inr s)) =
        let H = with_image (at_end x) told_words (with_restart told_rolled told_deleted F) in (
          H,
          s,
          record {
            finds = finds_but H (log_in F) (recovered (sizes_of (log_in F)) (log_in F)) (turned (log_in F) K) (recovered_words (log_in F) begun.restarting.lawful.spelled) with_both turned_says;
            log = closed H refl;
          },
        )

  pub appends_record : due_of x ≡ dues.Record → Keeps may_leave moment left_since (at_end x) None told_rolled told_deleted told_words old new → StopsAppending may_leave moment left_since fs old new
  appends_record due keeps F is but =
      weaker moment left_since old new (IsLeftOf (at_end x) None told_rolled told_deleted told_words F) (λ c. may_leave old c ⊎ SpellsLater F c)
      (keeps F (may_be due F is but) (ends due F is but) (there F is)) (λ c q. inr (later due F is but c q))

  -- ---- the image is due
  module _ (p : Standing) (due : due_of x ≡ dues.Image p) (F : Files) (is : Spells fs F) (but : FindsBut F) where
    stage : EndsSo (gs fs F is but) (with_words F but.right) (spells fs F is but) but.finds x (read fs F is but x all) p
    stage = ends_so (gs fs F is but) (with_words F but.right) (spells fs F is but) but.finds x (read fs F is but x all) p due

    abbrev e : EndsLogged (with_words F but.right)
    e = stage.0

    abbrev M : List Record
    M = e.log

    abbrev D : Files
    D = e.logged.0

    stands_there : IsStanding e.log e.batches F.gates p (read fs F is but x all).1.outcome.image
    stands_there =
        subst (λ z. IsStanding M e.batches F.gates z (read fs F is but x all).1.outcome.image) (sym stage.3)
        (stands_ended (gs fs F is but) (with_words F but.right) (spells fs F is but) but.finds x (read fs F is but x all) e stage.1 stage.2)

    sizes_there : sizes_in F ≡ p.geometry
    sizes_there = ap sizes_of (ended_log (gs fs F is but) (with_words F but.right) (spells fs F is but) but.finds x (read fs F is but x all) e) ∙ (same_sizes M ∙ sym stands_there.sizes)

    may_be_there : MayBeRenewed p told_words F
    may_be_there =
        let small = is_before x p order due in
        record {
          gates = sym stands_there.current;
          sizes = sizes_there;
          image = any_image_fits M e.batches F.gates p (read fs F is but x all).1.outcome.image stands_there told_words small.1 small.0 (order.ordered.whole ∙ ap regions (sym (due_sizes x p due))) words;
        }

    says_there : SaysOf e.log (turned e.log e.logged.0)
    says_there = (stages_say M e.batches F.gates (turned M D) e.restarting).turned (D, e.logged.1, refl)

    with_new : with_words (with_image p told_words F) (recovered (sizes_of e.log) e.log) ≡ turned e.log e.logged.0
    with_new =
        let batches : F.batches ≡ D.batches ++ (closing M ∷ []) ∷ [] = ap (λ (z : Files). z.batches) e.logged.2 in
        let gates : F.gates + 1 ≡ D.gates + 1 = ap (λ n. n + 1) (sym e.logged.1.gates) in
        let number : p.current + 1 ≡ D.gates + 1 = ap (λ n. n + 1) (stands_there.current ∙ sym e.logged.1.gates) in
        let place : p.place ≡ sum_by batch_length D.batches = stands_there.place ∙ ap (sum_by batch_length) (sym e.logged.1.batches) in
        λ i. record {
          batches = batches i;
          gates = gates i;
          number = number i;
          place = place i;
          first = stands_there.first i;
          weight = stands_there.weight i;
          next = stands_there.next i;
          image = recovered (sizes_of M) M;
          table = [];
        }

    later_there : (end : ℕ) (c : Disk) → IsLeftOf p (Some end) [] [] told_words F c → SpellsLater F c
    later_there end c (inl s) = (F, s, later_self F but)
    later_there end c (inr s) =
        let H = with_image p told_words F in
        (H, s, record { finds = finds_but H M (recovered (sizes_of M) M) (turned M D) (recovered_words M e.restarting.lawful.spelled) with_new says_there; log = inl refl })

  pub appends_image : (p : Standing) → due_of x ≡ dues.Image p → Keeps may_leave moment left_since p (Some x.reloaded.end) [] [] told_words old new → StopsAppending may_leave moment left_since fs old new
  appends_image p due keeps F is but =
      weaker moment left_since old new (IsLeftOf p (Some x.reloaded.end) [] [] told_words F) (λ c. may_leave old c ⊎ SpellsLater F c)
      (keeps F (may_be_there p due F is but) tt (there F is)) (λ c q. inr (later_there p due F is but x.reloaded.end c q))

-- ---- nothing is written
module _ {V : Type 0} (may_leave : V → Disk → Type 0) (moment : V → ℕ) (left_since : V → ℕ → Disk → Type 0) where
  pub appends_nothing : (fs : Disk) (s : V) → ((c : Disk) → left_since s (moment s) c → may_leave s c) → StopsAppending may_leave moment left_since fs s s
  appends_nothing fs s now F is but = started moment left_since s (λ c. may_leave s c ⊎ SpellsLater F c) (λ c left. inl (now c left))
