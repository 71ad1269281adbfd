-- What the calls of a checkpoint leave is behind steps of a run.
use Rattle.std.proofs.Common.{◌≡◌, ℕ, ◌+◌, ◌<◌, ◌≤◌, Bool, true, false, cond, List, [], ◌∷◌, ◌++◌, length, Option, Some, None, IfSome, refl, ap, sym, subst, ◌∙◌, arith}
use Rattle.std.specs.Prelude.{◌==◌, ◌&&◌, is_some, slice_get, slice_set}
use Rattle.std.proofs.Math.ListN.{drop_of_length-le}
use Rattle.std.proofs.lemmas.Bool.{eq-eqb}
use Rattle.std.proofs.lemmas.Option.{slice_get_within}
use Rattle.dali_lists.proofs.Options.{some_same}
use Rattle.dali_runs.specs.Run.{blocks_on}
use Rattle.dali_geometry.specs.Sizes.{Sizes}
use Rattle.dali_geometry.specs.Places.{regions}
use Rattle.dali_record.specs.declared.records.Record.{Record}
use Rattle.dali_record.specs.declared.records.Record.TheVariants.{AuditClean}
use Rattle.dali_record.specs.Spelling.{words_bytes}
use Rattle.dali_region.specs.declared.Side.{Side}
use Rattle.dali_region.specs.declared.Side.TheVariants.{A as SideA, B as SideB}
use Rattle.dali_region.specs.State.{RegionState}
use Rattle.dali_region.specs.Answers.{is_dirty, cleaned}
use Rattle.dali_store.specs.Store.{Files as Disk}
use Rattle.dali_store.specs.declared.store.Store.{Ghosts}
use Rattle.dali_runs.specs.State.{SystemState, stable}
use Rattle.dali_runs.specs.Run.{RunsOn, no_image}
use Rattle.dali_runs.specs.Steps.{taken, in_checkpoint}
use Rattle.dali_runs.specs.Keeps.{with_region}
use Rattle.dali_runs.specs.ImageSteps.{told_with}
use Rattle.dali_runs.specs.Courses.{Takes, Flushes}
use Rattle.dali_runs.proofs.ImageSteps.{side_self}
use Rattle.dali_runs.proofs.FactsLemmas.KeysAndUndos.{has_counts}
use Rattle.dali_crash.specs.Checkpoints.{Head, Copy, StoreStep, Does, Starts, Keeps, WritesHead, Syncs, Turns, Finishes, Point, IsPointStep, IsPointCourse, target, side_of, head_now, head_with, synced_with, copies_with, copy_at, image_in, with_flag, with_current, IsUntouched, MayTurn, IsCertified}
use Rattle.dali_crash.specs.StoreRuns.{StoreRun, IsKept}
use Rattle.dali_crash.specs.Traces.{Start, bases_of}
use Rattle.dali_crash.specs.Disks.Disks.{header_bytes, table_bytes, image_file, image_name, CanBeImage}
use Rattle.dali_crash.specs.Disks.Places.{place_of}
use Rattle.dali_crash.proofs.DisksLemmas.Heads.{next_fits}
use Rattle.dali_core.specs.Vault.Vaulted.{Vaulted}
use Rattle.dali_core.specs.Steps.At.{Goes}
use Rattle.dali_core.specs.Steps.Said.{HasWritten, HasSynced}
use Rattle.dali_core.specs.Steps.Called.{HeaderWritten, TableWritten, Copied, Skipped, IsSynced, IsUnderWayIn, IsHeldIn}
use Rattle.dali_core.proofs.StepsLemmas.Steps.{quiet_goes, header_goes, table_goes, copy_goes, skip_goes, sync_goes, turn_goes}
use Rattle.dali_core.specs.Cores.{IsCoreAt}
use Rattle.dali_core.specs.Flushed.{FlushesFrame, AllFlushed}
use Rattle.dali_core.proofs.Flushing.{flushes_all}
use Rattle.dali_image.specs.declared.header.Header.{Header}
use Rattle.dali_image.specs.Headers.{heading}
use Rattle.dali_image.specs.Rows.{rows_of}
use Rattle.dali_image.specs.Laws.{header_of}
use Rattle.dali_image.proofs.OneHeader.{headers_are_bytes}
use Rattle.dali_checkpoint.specs.Kept.{Checkpointed, side_in}
use Rattle.dali_checkpoint.specs.Done.{Writes}
use Rattle.dali_checkpoint.specs.Running.{IsCopiedAt, AreCopied, IsOf, IsIdle, IsCopying, IsSettled, IsCertifiedAt}
use Rattle.dali_checkpoint.specs.Laws.{StartGoes, CopyGoes, SkipGoes, SettleGoes, CertifyGoes}
use Rattle.dali_checkpoint.proofs.Rows.{rows_are}
use Rattle.dali_checkpoint.proofs.Stays.{Stays, both_stay, is_of_on, copied_on, passed_on, all_copied_on, same_target}

-- ---- the header
abbrev made : SystemState → ℕ → ℕ → ℕ → Header
made y number place n = record { geometry = y.sizes; number = number; place = place; first = y.records; weight = y.end; next = y.next; table = n }

-- ---- a checkpoint has begun
abbrev pub flagged : Point → Point
flagged p = record p { core = with_flag p.core true }

-- ---- the records are counted
pub runs_on_log : (s : Start) (p : Point) → StoreRun (bases_of s) s.log no_image p → RunsOn (bases_of s) p.log p.core
runs_on_log s p run = subst (λ (L : List Record). RunsOn (bases_of s) L p.core) (sym run.run.log) run.run.run.runs

-- ---- small facts on points
not_equal : (i r : ℕ) → (i == r) ≡ false → (i ≡ r → ⊥)
not_equal i r e same = let f : (i == r) ≡ true = eq-eqb i r same in absurd (cc)

if_two : (o : Option Disk) (P Q R : Disk → Type 0) → ((a : Disk) → P a → Q a → R a) → IfSome o P → IfSome o Q → IfSome o R
if_two (Some a) P Q R go x y = go a x y
if_two None P Q R go x y = tt

pub untouched_now : (L : List Record) (r : ℕ) → IsUntouched L r (length L)
untouched_now L r = record { within = omega arith; none = ap (blocks_on r) (drop_of_length-le L (omega arith)) }

head_there : (side : Side) (heads : Side → Head) (h : Head) → head_with heads side h side ≡ h
head_there SideA heads h = refl
head_there SideB heads h = refl

-- one region more was brought up to date
pub next_copied : (p q : Point) (h : Head) (r i : ℕ) → i < r + 1 → h.first ≤ length p.log → q.log ≡ p.log → target q ≡ target p
    → q.copies ≡ copies_with p.copies (target p) r (Some (copy_at (length p.log)))
    → AreCopied p h (length p.log) r → IsCopiedAt q h (length q.log) i
next_copied p q h r i l since log side copies are = by_test (i == r) refl
  where
    at : (o : Option Copy) → copies_with p.copies (target p) r (Some (copy_at (length p.log))) (target p) i ≡ o → q.copies (target q) i ≡ o
    at o e = ap (λ t. q.copies t i) side ∙ (ap (λ c. c (target p) i) copies ∙ e)

    here : (b : Bool) → (i == r) ≡ b → copies_with p.copies (target p) r (Some (copy_at (length p.log))) (target p) i ≡ cond b (Some (copy_at (length p.log))) (p.copies (target p) i)
    here b e = ap (λ a. cond (a && (i == r)) (Some (copy_at (length p.log))) (p.copies (target p) i)) (side_self (target p)) ∙ ap (λ a. cond a (Some (copy_at (length p.log))) (p.copies (target p) i)) e

    by_test : (b : Bool) → (i == r) ≡ b → IsCopiedAt q h (length q.log) i
    by_test true e = record { copy = copy_at (length p.log); there = at _ (here true e); since = since; until = omega (arith, ap length log) }
    by_test false e =
        let k = are i (omega (arith, l, not_equal i r e)) in
        record { copy = k.copy; there = at _ (here false e ∙ k.there); since = k.since; until = omega (arith, k.until, ap length log) }

-- steps, one list behind the other
pub course_join : (p q r : Point) (xs ys : List StoreStep) → IsPointCourse p xs q → IsPointCourse q ys r → IsPointCourse p (xs ++ ys) r
course_join p q r [] ys a b = subst (λ z. IsPointCourse z ys r) (sym a) b
course_join p q r (x ∷ xs) ys a b = (a.0, a.1, course_join a.0 q r xs ys a.2 b)

pub both_heads : (p q : Point) → IsPointCourse p (Does Takes ∷ Does Flushes ∷ []) q → q.heads ≡ p.heads
both_heads p q c = ap (λ (z : Point). z.heads) (sym c.2.2) ∙ (ap (λ (z : Point). z.heads) c.2.1.2 ∙ ap (λ (z : Point). z.heads) c.1.2)

synced_there : (side : Side) (old : Side → Bool) → synced_with old side true side ≡ true
synced_there SideA old = refl
synced_there SideB old = refl

-- a flush led to a point where all records are flushed, and where this is so
pub record FlushedSo (p : Point) (IsSo : List (List Record) → Point → Type 0) : Type 0 where
  pub to : Point
  pub batches : List (List Record)
  pub course : IsPointCourse p (Does Takes ∷ Does Flushes ∷ []) to
  pub is : IsSo batches to
  pub all : stable to.core ≡ length to.log
  pub stay : Stays p to

module _ {V : Type 0} (means : Ghosts V) where
  -- ---- what the calls say of the vault
  pub flush_ran : (y : SystemState) (v w : Vaulted V) → FlushesFrame means y v w → v.stopped ≡ false
  flush_ran y v w said = sym (ap (λ (z : Vaulted V). z.stopped) said.2.vault) ∙ said.2.ok.runs

  -- ---- a flush, while a checkpoint is under way
  flushed_so : (IsSo : List (List Record) → Point → Type 0) (s : Start) (B : List (List Record)) (p : Point) (gs : List RegionState) (y z : SystemState) (v w : Vaulted V)
      → IsCoreAt means s B p gs y v → FlushesFrame means y v w → z ≡ taken y
      → ((f : AllFlushed means s p gs v z w) → Stays p f.to → IsSo f.batches f.to) → FlushedSo p IsSo
  flushed_so IsSo s B p gs y z v w at said is there = record { to = f.to; batches = f.batches; course = f.course; is = there f stay; all = f.all; stay = stay }
    where
      f : AllFlushed means s p gs v z w
      f = flushes_all means gs y z v w (flush_ran y v w said) said is s B p at

      stay : Stays p f.to
      stay = both_stay p f.to f.course

  abbrev pub CopyingFlushed : Start → Point → List RegionState → SystemState → Vaulted V → Checkpointed → Head → Type 0
  CopyingFlushed s p gs z w c h = FlushedSo p (λ B q. IsCopying means s B q gs z w c h)

  pub copying_flushed : (s : Start) (B : List (List Record)) (p : Point) (gs : List RegionState) (y z : SystemState) (v w : Vaulted V) (c : Checkpointed) (h : Head)
      → IsCopying means s B p gs y v c h → FlushesFrame means y v w → z ≡ taken y
      → CopyingFlushed s p gs z w c h
  copying_flushed s B p gs y z v w c h k said is = flushed_so (λ C q. IsCopying means s C q gs z w c h) s B p gs y z v w k.at said is (λ f stay. record {
    at = f.at;
    flag = ap (λ (x : SystemState). x.checking) is ∙ k.flag;
    is = is_of_on p f.to c h stay k.is;
    copies = all_copied_on p f.to h (length p.log) (length f.to.log) c.copied stay stay.longer k.copies;
    under_way = f.keeps.under_way h c.copied k.under_way;
  })

  abbrev pub SettledFlushed : Start → Point → List RegionState → SystemState → Vaulted V → Checkpointed → Head → ℕ → Type 0
  SettledFlushed s p gs z w c h n = FlushedSo p (λ B q. IsSettled means s B q gs z w c h n)

  pub settled_flushed : (s : Start) (B : List (List Record)) (p : Point) (gs : List RegionState) (y z : SystemState) (v w : Vaulted V) (c : Checkpointed) (h : Head) (n : ℕ)
      → IsSettled means s B p gs y v c h n → FlushesFrame means y v w → z ≡ taken y
      → SettledFlushed s p gs z w c h n
  settled_flushed s B p gs y z v w c h n k said is = flushed_so (λ C q. IsSettled means s C q gs z w c h n) s B p gs y z v w k.at said is (λ f stay. record {
    at = f.at;
    flag = ap (λ (x : SystemState). x.checking) is ∙ k.flag;
    is = is_of_on p f.to c h stay k.is;
    settled = k.settled;
    within = omega (arith, k.within, stay.longer);
    copies = subst (λ (z : Sizes). AreCopied f.to h n (regions z)) (sym stay.sizes) (all_copied_on p f.to h n n (regions p.core.system.sizes) stay (omega arith) k.copies);
    head = ap f.to.heads (same_target p f.to stay.current) ∙ (ap (λ hs. hs (target p)) (both_heads p f.to f.course) ∙ k.head);
    whole = f.keeps.whole k.whole;
  })

  -- ---- a start
  -- what the records come to is kept
  pub record KeptAt (s : Start) (p : Point) (gs : List RegionState) (z : SystemState) (w : Vaulted V) : Type 0 where
    pub to : Point
    pub batches : List (List Record)
    pub course : IsPointCourse p (Starts ∷ Does Takes ∷ Does Flushes ∷ Keeps ∷ []) to
    pub at : IsCoreAt means s batches to gs z w
    pub begun : to.begun ≡ Some (head_now to.log to.core)

  pub flag_rises : (s : Start) (B : List (List Record)) (p : Point) (gs : List RegionState) (y : SystemState) (v : Vaulted V) → IsIdle means s B p gs y v → IsPointStep p Starts (flagged p)
  flag_rises s B p gs y v idle = (ap (λ (x : SystemState). x.checking) idle.at.system ∙ idle.flag, refl)

  pub flagged_at : (s : Start) (B : List (List Record)) (p : Point) (gs : List RegionState) (y : SystemState) (v : Vaulted V) → IsIdle means s B p gs y v
      → IsCoreAt means s B (flagged p) gs (in_checkpoint y true) v
  flagged_at s B p gs y v idle = record {
    regions = idle.at.regions;
    system = ap (λ (x : SystemState). in_checkpoint x true) idle.at.system;
    vault = quiet_goes means s B p (flagged p) Starts v idle.at.vault (flag_rises s B p gs y v idle) refl (λ F. refl) refl;
    none_in_hand = idle.at.none_in_hand;
  }

  pub start_keeps : (s : Start) (B : List (List Record)) (p : Point) (gs : List RegionState) (y : SystemState) (v w : Vaulted V)
      → IsIdle means s B p gs y v → FlushesFrame means y v w
      → KeptAt s p gs (in_checkpoint (taken y) true) w
  start_keeps s B p gs y v w idle said = record {
    to = p3;
    batches = f.batches;
    course = (p1, flag_rises s B p gs y v idle, course_join p1 f.to p3 (Does Takes ∷ Does Flushes ∷ []) (Keeps ∷ []) f.course (p3, keeps, refl));
    at = record {
      regions = f.at.regions;
      system = f.at.system;
      vault = quiet_goes means s f.batches f.to p3 Keeps w f.at.vault keeps refl (λ F. refl) refl;
      none_in_hand = f.at.none_in_hand;
    };
    begun = refl;
  }
    where
      y1 : SystemState
      y1 = in_checkpoint y true

      p1 : Point
      p1 = flagged p

      frame : FlushesFrame means y1 v w
      frame = (said.0, record { body = said.1.body; records = said.1.records }, said.2)

      f : AllFlushed means s p1 gs v (taken y1) w
      f = flushes_all means gs y1 (taken y1) v w (flush_ran y v w said) frame refl s B p1 (flagged_at s B p gs y v idle)

      stay : Stays p1 f.to
      stay = both_stay p1 f.to f.course

      p3 : Point
      p3 = record f.to { begun = Some (head_now f.to.log f.to.core) }

      keeps : IsPointStep f.to Keeps p3
      keeps = (
        f.at.vault.vault.stopped ∙ said.2.ok.runs,
        ap (λ (x : SystemState). x.checking) f.at.system,
        stay.begun ∙ idle.begun,
        f.all ∙ sym (has_counts (bases_of s) f.to.log f.to.core (runs_on_log s f.to f.at.vault.run)).records,
        refl,
      )

  pub start_goes : StartGoes means
  start_goes s B p gs y z v w c idle said is = record {
    to = to;
    batches = k.batches;
    head = h;
    course = course_join p k.to to (Starts ∷ Does Takes ∷ Does Flushes ∷ Keeps ∷ []) (WritesHead h ∷ []) k.course (to, head.goes.step, refl);
    is = record {
      at = record {
        regions = ap (λ (q : Point). q.core.regions) same ∙ k.at.regions;
        system = ap (λ (q : Point). q.core.system) same ∙ (k.at.system ∙ sym is);
        vault = head.goes.is;
        none_in_hand = λ runs. ap (λ (x : Vaulted V). x.flushed) wr.written.vault ∙ (k.at.none_in_hand wr.flushed.2.ok.runs ∙ ap (λ (x : SystemState). x.taken) (sym is));
      };
      flag = ap (λ (x : SystemState). x.checking) is;
      is = record {
        begun = ap (λ (q : Point). q.begun) same ∙ k.begun;
        header = header_is ∙ ap (λ (q : Point). header_of q.core.system.sizes h) (sym same);
        table = said.table ∙ ap table_bytes table_is;
      };
      copies = λ r l. absurd (omega (arith, l, said.copied));
      under_way = subst (λ i. IsUnderWayIn means to h i w.store) (sym said.copied) head.begins;
    };
    first = ap (λ (x : SystemState). x.records) k.at.system;
  }
    where
      wr : Writes means y v (image_name (side_in c)) 0 (heading c.header) w
      wr = said.writes

      k : KeptAt s p gs (in_checkpoint (taken y) true) wr.mid
      k = start_keeps s B p gs y v wr.mid idle wr.flushed

      h : Head
      h = head_now k.to.log k.to.core

      table_is : rows_of y.table ≡ h.table
      table_is = ap (λ (x : SystemState). rows_of x.table) (sym k.at.system) ∙ rows_are (bases_of s) k.to.log k.to.core (runs_on_log s k.to k.at.vault.run)

      header_is : c.header ≡ header_of k.to.core.system.sizes h
      header_is =
          said.header
          ∙ (ap (λ i. made y (i + 1) w.end (length c.table)) (ap (λ (x : Vaulted V). x.current) wr.written.vault ∙ sym k.at.vault.vault.current)
          ∙ (ap (λ i. made y (k.to.core.vault.current + 1) i (length c.table)) (ap (λ (x : Vaulted V). x.end) wr.written.vault ∙ sym k.at.vault.vault.end)
          ∙ (ap (λ i. made y (k.to.core.vault.current + 1) k.to.core.vault.end i) (ap length (said.table ∙ ap table_bytes table_is))
          ∙ ap (λ (x : SystemState). made x (k.to.core.vault.current + 1) k.to.core.vault.end (length (table_bytes h.table))) (sym k.at.system))))

      side_is : side_in c ≡ target k.to
      side_is = ap (λ (x : Header). side_of x.number) header_is

      written : HasWritten means wr.mid (image_name (target k.to)) 0 (header_bytes k.to.core.system.sizes h) w
      written =
          subst (λ b. HasWritten means wr.mid (image_name (target k.to)) 0 b w) (ap heading header_is ∙ headers_are_bytes k.to.core.system.sizes h)
          (subst (λ side. HasWritten means wr.mid (image_name side) 0 (heading c.header) w) side_is wr.written)

      head : HeaderWritten means s k.batches k.to h wr.mid w
      head = header_goes means s k.batches k.to wr.mid w h k.at.vault (ap is_some k.begun) written

      to : Point
      to = head.goes.to

      same : to ≡ record k.to { heads = head_with k.to.heads (target k.to) h; synced = synced_with k.to.synced (target k.to) false }
      same = head.goes.step.1

  -- ---- a copy
  -- the side is that of the next image
  pub side_is_next : (s : Start) (B : List (List Record)) (p : Point) (gs : List RegionState) (y : SystemState) (v : Vaulted V) (c : Checkpointed) (h : Head) → StoreRun (bases_of s) s.log no_image p → IsOf p c h → side_in c ≡ target p
  side_is_next s B p gs y v c h run is = ap (λ (x : Header). side_of x.number) is.header ∙ ap side_of (run.kept h is.begun).number

  pub copy_goes_on : CopyGoes means
  copy_goes_on s B p gs y v w c h g k at dirty said = record {
    to = to;
    step = done.goes.step;
    is = record {
      at = record {
        regions = ap (λ (q : Point). q.core.regions) same ∙ (ap (λ x. slice_set p.core.regions r (cleaned (target p) x)) g_is ∙ (ap (λ l. slice_set l r (cleaned (target p) g)) k.at.regions ∙ ap (λ side. slice_set gs r (cleaned side g)) (sym side_is)));
        system = ap (λ (q : Point). q.core.system) same ∙ k.at.system;
        vault = done.goes.is;
        none_in_hand = λ runs. ap (λ (x : Vaulted V). x.flushed) said.vault ∙ k.at.none_in_hand (sym (ap (λ (x : Vaulted V). x.stopped) said.vault) ∙ runs);
      };
      flag = k.flag;
      is = record {
        begun = ap (λ (q : Point). q.begun) same ∙ k.is.begun;
        header = k.is.header ∙ ap (λ (q : Point). header_of q.core.system.sizes h) (sym same);
        table = k.is.table;
      };
      copies = λ q l. copied_next q l;
      under_way = done.further h r k.under_way (omega arith);
    };
  }
    where
      r : ℕ
      r = c.copied

      n : ℕ
      n = length p.log

      side_is : side_in c ≡ target p
      side_is = side_is_next s B p gs y v c h k.at.vault.run k.is

      untouched : IsUntouched p.log r n
      untouched = untouched_now p.log r

      done : Copied means s B p r n v w
      done = copy_goes means s B p v w r n g k.at.vault
          (record { at = ap (λ l. slice_get l r) k.at.regions ∙ at; under_way = ap is_some k.is.begun; dirty = subst (λ side. is_dirty g side ≡ true) side_is dirty; untouched = untouched })
          (subst (λ side. HasWritten means v (image_name side) (place_of r) (words_bytes g.back) w) side_is said)

      to : Point
      to = done.goes.to

      g_is : done.goes.step.0 ≡ g
      g_is = some_same (sym done.goes.step.1 ∙ (ap (λ l. slice_get l r) k.at.regions ∙ at))

      same : to ≡ record p {
        core = with_region p.core r (cleaned (target p) done.goes.step.0);
        told = told_with p.told (target p) r done.goes.step.0.back;
        synced = synced_with p.synced (target p) false;
        copies = copies_with p.copies (target p) r (Some (copy_at n));
      }
      same = done.goes.step.5

      kept : IsKept p.log p.core.vault no_image h
      kept = k.at.vault.run.kept h k.is.begun

      copied_next : (q : ℕ) → q < r + 1 → IsCopiedAt to h (length to.log) q
      copied_next q l = next_copied p to h r q l kept.to (ap (λ (z : Point). z.log) same) (ap target same) (ap (λ (z : Point). z.copies) same) k.copies

  pub skip_goes_on : SkipGoes means
  skip_goes_on s B p gs y v c h g k at clean reaches = record {
    to = to;
    step = done.goes.step;
    is = record {
      at = record {
        regions = ap (λ (q : Point). q.core.regions) same ∙ k.at.regions;
        system = ap (λ (q : Point). q.core.system) same ∙ k.at.system;
        vault = done.goes.is;
        none_in_hand = k.at.none_in_hand;
      };
      flag = k.flag;
      is = record {
        begun = ap (λ (q : Point). q.begun) same ∙ k.is.begun;
        header = k.is.header ∙ ap (λ (q : Point). header_of q.core.system.sizes h) (sym same);
        table = k.is.table;
      };
      copies = copied_next;
      under_way = if_two (means.told v.store) _ _ _ (λ fs a b. record { copied = λ i l. ap is_some (copied_next i l).there; header = a.header; long = subst (λ side. place_of (r + 1) ≤ length (image_file side fs)) (side_is ∙ ap target (sym same)) b }) (done.still h r k.under_way) reaches;
    };
  }
    where
      r : ℕ
      r = c.copied

      side_is : side_in c ≡ target p
      side_is = side_is_next s B p gs y v c h k.at.vault.run k.is

      done : Skipped means s B p r (length p.log) v
      done = skip_goes means s B p v r (length p.log) g k.at.vault
          (record { at = ap (λ l. slice_get l r) k.at.regions ∙ at; under_way = ap is_some k.is.begun; clear = subst (λ side. is_dirty g side ≡ false) side_is clean; untouched = untouched_now p.log r })

      to : Point
      to = done.goes.to

      same : to ≡ record p { copies = copies_with p.copies (target p) r (Some (copy_at (length p.log))) }
      same = done.goes.step.5

      kept : IsKept p.log p.core.vault no_image h
      kept = k.at.vault.run.kept h k.is.begun

      copied_next : (q : ℕ) → q < r + 1 → IsCopiedAt to h (length to.log) q
      copied_next q l = next_copied p to h r q l kept.to (ap (λ (z : Point). z.log) same) (ap target same) (ap (λ (z : Point). z.copies) same) k.copies

  -- ---- a settlement
  pub settle_goes_on : SettleGoes means
  settle_goes_on s B p gs y z v w c h k full said is = record {
    to = to;
    batches = f.batches;
    course = course_join p f.to to (Does Takes ∷ Does Flushes ∷ []) (WritesHead h ∷ []) f.course (to, done.goes.step, refl);
    is = record {
      at = record {
        regions = ap (λ (q : Point). q.core.regions) same ∙ f.is.at.regions;
        system = ap (λ (q : Point). q.core.system) same ∙ (f.is.at.system ∙ sym is);
        vault = done.goes.is;
        none_in_hand = λ runs. ap (λ (x : Vaulted V). x.flushed) said.written.vault ∙ (f.is.at.none_in_hand said.flushed.2.ok.runs ∙ ap (λ (x : SystemState). x.taken) (sym is));
      };
      flag = ap (λ (x : SystemState). x.checking) is ∙ k.flag;
      is = record {
        begun = ap (λ (q : Point). q.begun) same ∙ f.is.is.begun;
        header = f.is.is.header ∙ ap (λ (q : Point). header_of q.core.system.sizes h) (sym same);
        table = f.is.is.table;
      };
      settled = refl;
      within = omega (arith, count, ap (λ (q : Point). length q.log) same, f.stay.longer);
      copies = λ r l. settled_copy r l;
      head = ap (λ (q : Point). q.heads (target q)) same ∙ head_there (target f.to) f.to.heads h;
      whole = done.whole (subst (λ i. IsUnderWayIn means f.to h i said.mid.store) all_is f.is.under_way);
    };
  }
    where
      f : CopyingFlushed s p gs (taken y) said.mid c h
      f = copying_flushed s B p gs y (taken y) v said.mid c h k said.flushed refl

      all_is : c.copied ≡ regions f.to.core.system.sizes
      all_is = full ∙ ap (λ (x : Header). regions x.geometry) f.is.is.header

      side_is : side_in c ≡ target f.to
      side_is = side_is_next s f.batches f.to gs (taken y) said.mid c h f.is.at.vault.run f.is.is

      done : TableWritten means s f.batches f.to h said.mid w
      done = table_goes means s f.batches f.to said.mid w h f.is.at.vault (ap is_some f.is.is.begun)
          (subst (λ i. HasWritten means said.mid (image_name (target f.to)) (place_of i) (table_bytes h.table) w) all_is
          (subst (λ b. HasWritten means said.mid (image_name (target f.to)) (place_of c.copied) b w) k.is.table
          (subst (λ side. HasWritten means said.mid (image_name side) (place_of c.copied) c.table w) side_is said.written)))

      to : Point
      to = done.goes.to

      same : to ≡ record f.to { heads = head_with f.to.heads (target f.to) h; synced = synced_with f.to.synced (target f.to) false }
      same = done.goes.step.1

      count : y.records ≡ length p.log
      count = ap (λ (x : SystemState). x.records) (sym k.at.system) ∙ (has_counts (bases_of s) p.log p.core (runs_on_log s p k.at.vault.run)).records

      settled_copy : (r : ℕ) → r < regions to.core.system.sizes → IsCopiedAt to h y.records r
      settled_copy r l =
          let was = k.copies r (omega (arith, l, ap (λ (q : Point). regions q.core.system.sizes) same, all_is)) in
          let now = copied_on p f.to h (length p.log) y.records r (both_stay p f.to f.course) (omega (arith, count)) was in
          record { copy = now.copy; there = ap (λ (q : Point). q.copies (target q) r) same ∙ now.there; since = now.since; until = now.until }

  -- ---- the anchor
  -- before its move all records are flushed, and the image is synced
  pub record CertifyTurn (s : Start) (p : Point) (gs : List RegionState) (z : SystemState) (w : Vaulted V) (h : Head) (b : ℕ) : Type 0 where
    pub to : Point
    pub batches : List (List Record)
    pub course : IsPointCourse p (Does Takes ∷ Does Flushes ∷ Syncs ∷ []) to
    pub at : IsCoreAt means s batches to gs z w
    pub end : ℕ
    pub may : MayTurn to h b end
    pub held : IsHeldIn means to w.store
    pub all : stable to.core ≡ length to.log

  pub certify_turn : (s : Start) (B : List (List Record)) (p : Point) (gs : List RegionState) (y : SystemState) (v mid late : Vaulted V) (c : Checkpointed) (h : Head) (n b : ℕ)
      → IsSettled means s B p gs y v c h n → IsCertifiedAt p n b → FlushesFrame means y v mid → HasSynced means mid (image_name (side_in c)) late
      → CertifyTurn s p gs (taken y) late h b
  certify_turn s B p gs y v mid late c h n b k certified frame said = record {
    to = q;
    batches = f.batches;
    course = course_join p f.to q (Does Takes ∷ Does Flushes ∷ []) (Syncs ∷ []) f.course (q, synced.goes.step, refl);
    at = record {
      regions = ap (λ (z : Point). z.core.regions) same ∙ f.is.at.regions;
      system = ap (λ (z : Point). z.core.system) same ∙ f.is.at.system;
      vault = synced.goes.is;
      none_in_hand = λ runs. ap (λ (x : Vaulted V). x.flushed) said.vault ∙ f.is.at.none_in_hand frame.2.ok.runs;
    };
    end = certified.end;
    may = record {
      begun = ap (λ (z : Point). z.begun) same ∙ f.is.is.begun;
      head = ap (λ (z : Point). z.heads (target z)) same ∙ f.is.head;
      synced = ap (λ (z : Point). z.synced (target z)) same ∙ synced_there (target f.to) f.to.synced;
      clean = ap (λ (z : Point). slice_get z.log certified.end) same ∙ f.stay.log certified.end (AuditClean b) certified.clean;
      ends = certified.ends;
      flushed = omega (arith, slice_get_within p.log certified.end (AuditClean b) certified.clean, f.stay.longer, f.all, ap (λ (z : Point). stable z.core) same);
      copies = λ r l. certified_copy r (subst (λ (z : Point). r < regions z.core.system.sizes) same l);
    };
    held = synced.held fits f.is.whole;
    all = ap (λ (z : Point). stable z.core) same ∙ (f.all ∙ sym (ap (λ (z : Point). length z.log) same));
  }
    where
      f : SettledFlushed s p gs (taken y) mid c h n
      f = settled_flushed s B p gs y (taken y) v mid c h n k frame refl

      side_is : side_in c ≡ target f.to
      side_is = side_is_next s f.batches f.to gs (taken y) mid c h f.is.at.vault.run f.is.is

      synced : IsSynced means s f.batches f.to mid late
      synced = sync_goes means s f.batches f.to mid late f.is.at.vault (ap is_some f.is.is.begun)
          (subst (λ side. HasSynced means mid (image_name side) late) side_is said)

      q : Point
      q = synced.goes.to

      same : q ≡ record f.to { synced = synced_with f.to.synced (target f.to) true }
      same = synced.goes.step.1

      fits : CanBeImage f.to.core.system.sizes (f.to.heads (target f.to)) (image_in f.to.core.system.sizes f.to.told (target f.to))
      fits = subst (λ x. CanBeImage f.to.core.system.sizes x (image_in f.to.core.system.sizes f.to.told (target f.to))) (sym f.is.head)
          (next_fits (bases_of s) s.log f.to h f.is.at.vault.run f.is.is.begun (λ r l. ap is_some (f.is.copies r l).there))

      certified_copy : (r : ℕ) → r < regions f.to.core.system.sizes → (x : Copy) × (q.copies (target q) r ≡ Some x) × IsCertified h b x
      certified_copy r l =
          let i = f.is.copies r l in
          let j = passed_on p f.to r f.stay (certified.passed r (subst (λ (z : Sizes). r < regions z) f.stay.sizes l)) in
          let one : i.copy ≡ j.copy = some_same (sym i.there ∙ j.there) in
          (i.copy, ap (λ (z : Point). z.copies (target z) r) same ∙ i.there, record { since = i.since; until = omega (arith, i.until, certified.behind); passed = ap (λ (x : Copy). x.passed) one ∙ j.passed })

  pub certify_goes_on : CertifyGoes means
  certify_goes_on s B p gs y z v w c h n b k certified said is = record {
    to = to;
    batches = t.batches;
    course = course_join p t.to to (Does Takes ∷ Does Flushes ∷ Syncs ∷ []) (Turns ∷ Finishes ∷ []) t.course (turned.to, turned.step, (to, finishes, refl));
    is = record {
      at = record {
        regions = ap (λ (q : Point). q.core.regions) same ∙ t.at.regions;
        system = ap (λ (q : Point). in_checkpoint q.core.system false) same ∙ (ap (λ (x : SystemState). in_checkpoint x false) t.at.system ∙ sym is);
        vault = quiet_goes means s t.batches turned.to to Finishes w turned.is finishes refl (λ F. refl) refl;
        none_in_hand = λ runs. ap (λ (x : Vaulted V). x.flushed) said.turned.vault ∙ (t.at.none_in_hand said.synced.ok.runs ∙ ap (λ (x : SystemState). x.taken) (sym is));
      };
      flag = ap (λ (x : SystemState). x.checking) is;
      begun = refl;
    };
    head = ap to.heads (ap side_of (ap (λ (x : Vaulted V). x.current) said.turned.vault ∙ sym (ap (λ n. n + 1) t.at.vault.vault.current))) ∙ (ap (λ (q : Point). q.heads (target t.to)) same ∙ t.may.head);
    all = ap (λ (q : Point). stable q.core) same ∙ (t.all ∙ sym (ap (λ (q : Point). length q.log) same));
  }
    where
      t : CertifyTurn s p gs (taken y) said.late h b
      t = certify_turn s B p gs y v said.mid said.late c h n b k certified said.flushed said.synced

      turned : Goes means s t.to Turns t.batches w
      turned = turn_goes means s t.batches t.to said.late w h b t.end t.at.vault (ap is_some t.may.begun) t.may t.held said.turned

      same : turned.to ≡ record t.to { core = with_current t.to.core; begun = None }
      same = turned.step.5

      to : Point
      to = record turned.to { core = with_flag turned.to.core false; begun = None }

      finishes : IsPointStep turned.to Finishes to
      finishes = (ap (λ (q : Point). q.core.system.checking) same ∙ (ap (λ (x : SystemState). x.checking) t.at.system ∙ k.flag), refl)
