-- A run of regions that one call of the store wrote is behind steps of a run, one a region: between two of them stands a store of its own.
use Rattle.std.proofs.Common.{◌≡◌, ◌≢◌, ℕ, zero, suc, ◌+◌, ◌<◌, ◌≤◌, true, false, List, [], ◌∷◌, ◌++◌, length, take, drop, Option, Some, None, IfSome, refl, ap, sym, subst, ◌∙◌, arith, length-append}
use Rattle.std.specs.Prelude.{is_some, flat_map, slice_get, slice_set}
use Rattle.std.proofs.lemmas.List.{append-nil, length-take-le}
use Rattle.std.proofs.lemmas.List.Concat.{flat_map-cons}
use Rattle.dali_lists.proofs.Lists.{get_within, get_set_other}
use Rattle.dali_record.specs.declared.records.Record.{Record}
use Rattle.dali_record.specs.Spelling.{words_bytes}
use Rattle.dali_record.proofs.Lengths.{words_are_8}
use Rattle.dali_region.specs.declared.Side.{Side}
use Rattle.dali_region.specs.State.{RegionState}
use Rattle.dali_region.specs.Answers.{is_dirty, cleaned}
use Rattle.dali_store.specs.declared.store.FileName.{FileName}
use Rattle.dali_store.specs.Store.{Files as Disk, TornIn}
use Rattle.dali_store.proofs.Moments.{if_some_with}
use Rattle.dali_store.specs.declared.store.Store.{Ghosts}
use Rattle.dali_runs.specs.State.{SystemState}
use Rattle.dali_crash.specs.Checkpoints.{Head, Point, IsPointCourse}
use Rattle.dali_crash.specs.Traces.{Start}
use Rattle.dali_crash.specs.Disks.Disks.{image_file, image_name, AllSpell}
use Rattle.dali_crash.specs.Disks.Bridges.{TracedTo}
use Rattle.dali_crash.specs.Disks.NewFiles.{IsUnderWay, ReadsCopies}
use Rattle.dali_crash.specs.Disks.Places.{place_of}
use Rattle.dali_core.specs.Vault.Vaulted.{Vaulted}
use Rattle.dali_core.specs.Steps.Said.{TornFrom, HasWritten}
use Rattle.dali_checkpoint.specs.Kept.{Checkpointed, side_in}
use Rattle.dali_checkpoint.specs.Done.{Reaches}
use Rattle.dali_checkpoint.specs.Running.{IsCopying}
use Rattle.dali_checkpoint.specs.Runs.{is_first_dirty, AreNext, words_of, run_at, change}
use Rattle.dali_checkpoint.specs.Laws.{WentOver, copy_steps, skip_steps, RunGoes, RunSkips, WordsGo, WordsSkip}
use Rattle.dali_checkpoint.proofs.Calls.{runs_on_log, copy_goes_on, skip_goes_on}
use Rattle.dali_checkpoint.proofs.Pieces.{change_none, change_first, run_next, run_length, run_some, run_clean}
use Rattle.dali_checkpoint.proofs.Splits.{held_between, held_first, held_rest, held_inside, torn_between, torn_in_split}

-- ---- stores with one more between
abbrev told_with : {V : Type 0} → (V → Option Disk) → Option Disk → Option V → Option Disk
told_with told mid None = mid
told_with told mid (Some v) = told v

abbrev leaves_with : {V : Type 0} → (V → Disk → Type 0) → (Disk → Type 0) → Option V → Disk → Type 0
leaves_with may_leave mid None = mid
leaves_with may_leave mid (Some v) = may_leave v

abbrev faults_with : {V : Type 0} → (V → ℕ) → ℕ → Option V → ℕ
faults_with faults n None = n
faults_with faults n (Some v) = faults v

abbrev over : {V : Type 0} → Vaulted V → Option V → Vaulted (Option V)
over v store = record { store = store; end = v.end; flushed = v.flushed; current = v.current; stopped = v.stopped }

-- a copy under way looks at no store: another one serves as well that tells the same, leaves no more, and counts as many faults
carried : {V W : Type 0} (means : Ghosts V) (other : Ghosts W)
    (s : Start) (B : List (List Record)) (p : Point) (gs : List RegionState) (y : SystemState) (v : Vaulted V) (c : Checkpointed) (h : Head) (store : W)
    → other.told store ≡ means.told v.store → ((d : Disk) → other.may_leave store d → means.may_leave v.store d) → other.faults store ≡ means.faults v.store
    → IsCopying means s B p gs y v c h → IsCopying other s B p gs y (record { store = store; end = v.end; flushed = v.flushed; current = v.current; stopped = v.stopped }) c h
carried means other s B p gs y v c h store same fewer count k = record {
  at = record {
    regions = k.at.regions;
    system = k.at.system;
    vault = record {
      run = k.at.vault.run;
      vault = record { stopped = k.at.vault.vault.stopped; end = k.at.vault.vault.end; flushed = k.at.vault.vault.flushed; current = k.at.vault.vault.current; counted = k.at.vault.vault.counted ∙ sym count };
      files = subst (λ (t : Option Disk). IfSome t (λ _. AllSpell (other.may_leave store) (TracedTo s B p))) (sym same)
          (if_some_with {P = AllSpell (means.may_leave v.store) (TracedTo s B p)} (AllSpell (other.may_leave store) (TracedTo s B p)) (means.told v.store) (λ spell d left. spell d (fewer d left)) k.at.vault.files);
      reads = λ runs. subst (λ (t : Option Disk). IfSome t (ReadsCopies p)) (sym same) (k.at.vault.reads runs);
    };
    none_in_hand = k.at.none_in_hand;
  };
  flag = k.flag;
  is = k.is;
  copies = k.copies;
  under_way = subst (λ (t : Option Disk). IfSome t (IsUnderWay p h c.copied)) (sym same) k.under_way;
}

-- ---- a write in two parts
between_tells : (f : FileName) (p : ℕ) (us : List ℕ) (o : Option Disk) → is_some (held_between f p us o) ≡ is_some o
between_tells f p us None = refl
between_tells f p us (Some d) = refl

module _ {V : Type 0} (means : Ghosts V) (v w : Vaulted V) (f : FileName) (at : ℕ) (us bs : List ℕ) (said : HasWritten means v f at (us ++ bs) w) where
  abbrev mid : Ghosts (Option V)
  mid = record {
    told = told_with means.told (held_between f at us (means.told v.store));
    may_leave = leaves_with means.may_leave (TornFrom (means.may_leave v.store) f at (length us));
    moment = λ x. 0;
    left_since = λ x n. leaves_with means.may_leave (TornFrom (means.may_leave v.store) f at (length us)) x;
    faults = faults_with means.faults (means.faults v.store);
    lets_pass = λ x. None;
    cuts = λ x choice. None;
    droppable = λ x below. 0;
    dropped_to = λ x. 0;
  }

  first_part : HasWritten mid (over v (Some v.store)) f at us (over v None)
  first_part = record {
    ok = record { runs = sym (ap (λ (x : Vaulted V). x.stopped) said.vault) ∙ said.ok.runs; kept = refl; tells = between_tells f at us (means.told v.store) };
    vault = refl;
    inside = said.inside;
    written = held_first f at us (means.told v.store);
    crash = λ c lost. lost;
  }

  other_part : HasWritten mid (over v None) f (at + length us) bs (over w (Some w.store))
  other_part = record {
    ok = record { runs = said.ok.runs; kept = said.ok.kept; tells = said.ok.tells ∙ sym (between_tells f at us (means.told v.store)) };
    vault = ap (λ (x : Vaulted V). over x (Some w.store)) said.vault;
    inside = held_inside f at us (means.told v.store) said.inside;
    written = held_rest f at us bs (means.told v.store) (means.told w.store) said.inside said.written;
    crash = λ c lost.
        let x = said.crash c lost in
        let t = torn_in_split f at (length us) (length bs) x.0 c (subst (λ n. TornIn f at n x.0 c) (length-append us bs) x.2) in
        (torn_between f (at + length us) x.0 c, (x.0, x.1, t.0), t.1);
  }

-- ---- the copies of a run
abbrev bytes_of : List RegionState → List ℕ
bytes_of run = flat_map (λ (g : RegionState). words_bytes g.back) run

run_far : {V : Type 0} (means : Ghosts V) (s : Start) (B : List (List Record)) (p : Point) (gs : List RegionState) (y : SystemState) (v w : Vaulted V) (c : Checkpointed) (h : Head) (g : RegionState) (rest : List RegionState)
    → IsCopying means s B p gs y v c h → AreNext (side_in c) true gs c.copied (g ∷ rest)
    → HasWritten means v (image_name (side_in c)) (place_of c.copied) (bytes_of (g ∷ rest)) w
    → WentOver means s B p (copy_steps c.copied (suc (length rest)) (length p.log)) (change (cleaned (side_in c)) c.copied (suc (length rest)) gs) y w (record c { copied = c.copied + suc (length rest) }) h
run_far means s B p gs y v w c h g [] k next said =
    let one = next 0 g refl in
    let at : slice_get gs c.copied ≡ Some g = ap (slice_get gs) (let e : c.copied ≡ c.copied + 0 = omega arith in e) ∙ one.0 in
    let bytes : bytes_of (g ∷ []) ≡ words_bytes g.back = flat_map-cons (λ (x : RegionState). words_bytes x.back) g [] ∙ append-nil (words_bytes g.back) in
    let x = copy_goes_on means s B p gs y v w c h g k at one.1 (subst (λ l. HasWritten means v (image_name (side_in c)) (place_of c.copied) l w) bytes said) in
    record {
      to = x.to;
      course = (x.to, x.step, refl);
      is = subst (λ (l : List RegionState). IsCopying means s B x.to l y w (record c { copied = c.copied + 1 }) h)
          (sym (change_none (cleaned (side_in c)) (suc c.copied) (slice_set gs c.copied (cleaned (side_in c) g))) ∙ change_first (cleaned (side_in c)) c.copied 0 gs g at) x.is;
    }
run_far {V = V} means s B p gs y v w c h g (g2 ∷ more) k next said =
    let one = next 0 g refl in
    let at : slice_get gs c.copied ≡ Some g = ap (slice_get gs) (let e : c.copied ≡ c.copied + 0 = omega arith in e) ∙ one.0 in
    let us : List ℕ = words_bytes g.back in
    let bs : List ℕ = bytes_of (g2 ∷ more) in
    let name : FileName = image_name (side_in c) in
    let both : HasWritten means v name (place_of c.copied) (us ++ bs) w =
    subst (λ l. HasWritten means v name (place_of c.copied) l w) (flat_map-cons (λ (x : RegionState). words_bytes x.back) g (g2 ∷ more)) said in
    let back : length g.back ≡ 64 = ((runs_on_log s p k.at.vault.run).regions c.copied g (ap (λ (l : List RegionState). slice_get l c.copied) k.at.regions ∙ at)).protected.back.0 in
    let size : length us ≡ 512 = words_are_8 g.back ∙ omega (arith, back) in
    let place : place_of c.copied + length us ≡ place_of (c.copied + 1) = omega (arith, size) in
    let between : Ghosts (Option V) = mid means v w name (place_of c.copied) us bs both in
    let x = copy_goes_on between s B p gs y (over v (Some v.store)) (over v None) c h g
    (carried means between s B p gs y v c h (Some v.store) refl (λ d left. left) refl k)
    at one.1 (first_part means v w name (place_of c.copied) us bs both) in
    let z = run_far between s B x.to (slice_set gs c.copied (cleaned (side_in c) g)) y (over v None) (over w (Some w.store)) (record c { copied = c.copied + 1 }) h g2 more x.is
    (λ j a e.
    let t = next (suc j) a e in
    let other : c.copied ≢ c.copied + 1 + j = omega arith in
    (get_set_other gs c.copied (cleaned (side_in c) g) (c.copied + 1 + j) other ∙ (ap (slice_get gs) (let i : c.copied + 1 + j ≡ c.copied + suc j = omega arith in i) ∙ t.0), t.1))
    (subst (λ n. HasWritten between (over v None) name n bs (over w (Some w.store))) place (other_part means v w name (place_of c.copied) us bs both)) in
    let log : length x.to.log ≡ length p.log = ap (λ (q : Point). length q.log) x.step.5 in
    record {
      to = z.to;
      course = (x.to, x.step, subst (λ m. IsPointCourse x.to (copy_steps (c.copied + 1) (suc (length more)) m) z.to) log z.course);
      is = carried between means s B z.to (change (cleaned (side_in c)) c.copied (suc (suc (length more))) gs) y (over w (Some w.store)) (record c { copied = c.copied + suc (suc (length more)) }) h
          w.store refl (λ d left. left) refl
          (subst (λ m. IsCopying between s B z.to (change (cleaned (side_in c)) c.copied (suc (suc (length more))) gs) y (over w (Some w.store)) (record c { copied = m }) h)
          (let e : c.copied + 1 + suc (length more) ≡ c.copied + suc (suc (length more)) = omega arith in e)
          (subst (λ (l : List RegionState). IsCopying between s B z.to l y (over w (Some w.store)) (record c { copied = c.copied + 1 + suc (length more) }) h)
          (ap (λ m. change (cleaned (side_in c)) m (suc (length more)) (slice_set gs c.copied (cleaned (side_in c) g))) (let e : c.copied + 1 ≡ suc c.copied = omega arith in e) ∙ change_first (cleaned (side_in c)) c.copied (suc (length more)) gs g at) z.is));
    }

-- ---- regions that need no copy
reaches_less : (o : Option Disk) (side : Side) (m n : ℕ) → m ≤ n → IfSome o (λ fs. place_of n ≤ length (image_file side fs)) → IfSome o (λ fs. place_of m ≤ length (image_file side fs))
reaches_less None side m n le r = tt
reaches_less (Some fs) side m n le r = omega (arith, le, r)

dirty_some : (side : Side) (gs : List RegionState) → is_first_dirty side gs ≡ true → 0 < length gs
dirty_some side [] e = absurd (cc)
dirty_some side (g ∷ gs) e = omega arith

length_dropped : {A : Type 0} (i k : ℕ) (xs : List A) → k < length (drop i xs) → i + k < length xs
length_dropped zero k xs lt = omega (arith, lt)
length_dropped (suc i) k [] lt = absurd (omega (arith, lt))
length_dropped (suc i) k (x ∷ xs) lt = omega (arith, length_dropped i k xs lt)

module _ {V : Type 0} (means : Ghosts V) where
  skip_far : (s : Start) (B : List (List Record)) (p : Point) (gs : List RegionState) (y : SystemState) (v : Vaulted V) (c : Checkpointed) (h : Head) (n : ℕ)
      → IsCopying means s B p gs y v c h → ((k : ℕ) → k < n → (g : RegionState) × (slice_get gs (c.copied + k) ≡ Some g) × (is_dirty g (side_in c) ≡ false)) → Reaches means.told (side_in c) (c.copied + n) v
      → WentOver means s B p (skip_steps c.copied n (length p.log)) gs y v (record c { copied = c.copied + n }) h
  skip_far s B p gs y v c h zero k each reaches = record {
    to = p;
    course = refl;
    is = subst (λ m. IsCopying means s B p gs y v (record c { copied = m }) h) (let e : c.copied ≡ c.copied + 0 = omega arith in e) k;
  }
  skip_far s B p gs y v c h (suc n) k each reaches =
      let one = each 0 (omega arith) in
      let at : slice_get gs c.copied ≡ Some one.0 = ap (slice_get gs) (let e : c.copied ≡ c.copied + 0 = omega arith in e) ∙ one.1 in
      let x = skip_goes_on means s B p gs y v c h one.0 k at one.2 (reaches_less (means.told v.store) (side_in c) (c.copied + 1) (c.copied + suc n) (omega arith) reaches) in
      let z = skip_far s B x.to gs y v (record c { copied = c.copied + 1 }) h n x.is
      (λ j lt. let t = each (suc j) (omega (arith, lt)) in (t.0, ap (slice_get gs) (let i : c.copied + 1 + j ≡ c.copied + suc j = omega arith in i) ∙ t.1, t.2))
      (subst (λ m. Reaches means.told (side_in c) m v) (let e : c.copied + suc n ≡ c.copied + 1 + n = omega arith in e) reaches) in
      let log : length x.to.log ≡ length p.log = ap (λ (q : Point). length q.log) x.step.5 in
      record {
        to = z.to;
        course = (x.to, x.step, subst (λ m. IsPointCourse x.to (skip_steps (c.copied + 1) n m) z.to) log z.course);
        is = subst (λ m. IsCopying means s B z.to gs y v (record c { copied = m }) h) (let e : c.copied + 1 + n ≡ c.copied + suc n = omega arith in e) z.is;
      }

  -- ---- the run of a checkpoint
  pub run_goes_on : RunGoes means
  run_goes_on s B p gs y v w c h k dirty said = by_run (take (run_at c gs) (drop c.copied gs)) refl
    where
      some : 0 < length (drop c.copied gs)
      some = dirty_some (side_in c) (drop c.copied gs) dirty

      count : length (take (run_at c gs) (drop c.copied gs)) ≡ run_at c gs
      count = length-take-le (run_at c gs) (drop c.copied gs) (run_length (side_in c) (drop c.copied gs))

      by_run : (run : List RegionState) → take (run_at c gs) (drop c.copied gs) ≡ run
          → WentOver means s B p (copy_steps c.copied (run_at c gs) (length p.log)) (change (cleaned (side_in c)) c.copied (run_at c gs) gs) y w (record c { copied = c.copied + run_at c gs }) h
      by_run [] e = absurd (omega (arith, ap length e, count, run_some (side_in c) (drop c.copied gs) some))
      by_run (g ∷ rest) e =
          subst (λ m. WentOver means s B p (copy_steps c.copied m (length p.log)) (change (cleaned (side_in c)) c.copied m gs) y w (record c { copied = c.copied + m }) h) (sym (ap length e) ∙ count)
          (run_far means s B p gs y v w c h g rest k (subst (AreNext (side_in c) true gs c.copied) e (run_next (side_in c) c.copied gs dirty))
          (subst (λ l. HasWritten means v (image_name (side_in c)) (place_of c.copied) (bytes_of l) w) e said))

  pub run_skips_on : RunSkips means
  run_skips_on s B p gs y v c h k clean reaches = skip_far s B p gs y v c h (run_at c gs) k each reaches
    where
      each : (j : ℕ) → j < run_at c gs → (g : RegionState) × (slice_get gs (c.copied + j) ≡ Some g) × (is_dirty g (side_in c) ≡ false)
      each j lt =
          let at = get_within gs (c.copied + j) (length_dropped c.copied j gs (omega (arith, lt, run_length (side_in c) (drop c.copied gs)))) in
          (at.0, at.1, run_clean (side_in c) c.copied gs clean j at.0 lt at.1)

  -- ---- words that were copied before
  pub words_go : WordsGo means
  words_go s B p gs y v w c h g rest k next said =
      run_far means s B p gs y v w c h g rest k next
      (subst (λ l. HasWritten means v (image_name (side_in c)) (place_of c.copied) l w) (bytes_are (g ∷ rest)) said)
    where
      bytes_are : (run : List RegionState) → flat_map words_bytes (words_of run) ≡ bytes_of run
      bytes_are [] = refl
      bytes_are (x ∷ xs) = flat_map-cons words_bytes x.back (words_of xs) ∙ (ap (λ l. words_bytes x.back ++ l) (bytes_are xs) ∙ sym (flat_map-cons (λ (z : RegionState). words_bytes z.back) x xs))

  pub words_skip : WordsSkip means
  words_skip s B p gs y v c h run k next reaches = skip_far s B p gs y v c h (length run) k each reaches
    where
      each : (j : ℕ) → j < length run → (g : RegionState) × (slice_get gs (c.copied + j) ≡ Some g) × (is_dirty g (side_in c) ≡ false)
      each j lt = let at = get_within run j lt in (at.0, (next j at.0 at.1).0, (next j at.0 at.1).1)
