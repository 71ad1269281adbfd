-- A core whose store was only read stands where it stood, or one step behind: where the store's count of faults rose.
use Rattle.std.proofs.Common.{◌≡◌, ℕ, List, Option, refl, sym, ◌∙◌, ap, subst}
use Rattle.std.specs.Prelude.{IfSome}
use Rattle.dali_log.specs.Reads.{OnlyReads}
use Rattle.dali_crash.specs.Checkpoints.{Does, IsPointStep, Point}
use Rattle.dali_crash.specs.Traces.{Start, bases_of}
use Rattle.dali_crash.proofs.Flags.{flag_stays}
use Rattle.dali_fuse.specs.declared.fuse.Fuse.{Fuse}
use Rattle.dali_record.specs.declared.records.Record.{Record}
use Rattle.dali_region.specs.State.{RegionState}
use Rattle.dali_round.specs.Leads.{BeginsAt}
use Rattle.dali_core.proofs.StepsLemmas.Steps.{read_faults, read_stays}
use Rattle.dali_store.specs.Faults.{Rose}
use Rattle.dali_store.specs.Store.{Files as Disk}
use Rattle.dali_store.specs.declared.store.Store.{Ghosts}
use Rattle.dali_runs.specs.Courses.{ReadFails}
use Rattle.dali_runs.specs.Flushes.{read_failed, with_vault}
use Rattle.dali_runs.specs.Run.{RunsOn}
use Rattle.dali_runs.specs.State.{CoreState, SystemState}
use Rattle.dali_runs.proofs.WholeSteps.{whole_keeps}
use Rattle.dali_transcripts.specs.Rounds.{IsBetween}
use Rattle.dali_core.specs.Vault.Vaulted.{Vaulted, with_store}
use Rattle.dali_core.specs.Cores.{HoldsPlaces}
use Rattle.dali_run.specs.Program.{told_in, leaves_in, moment_in, since_in, faults_in, fused}

-- nothing that a round asks for speaks of the count
between_there : (c d : CoreState) (n : ℕ) → d ≡ with_vault c (read_failed c.vault n) → IsBetween c → IsBetween d
between_there c d n same between =
    subst IsBetween (sym same)
    (record {
      rests = record { stopped = between.rests.stopped; holds = between.rests.holds; flag = between.rests.flag; free = between.rests.free };
      idle = between.idle;
    })

module _ {V : Type 0} (g : Ghosts V) where
  abbrev pub Reads : Fuse V → Fuse V → Type 0
  Reads old f = OnlyReads (told_in g) (moment_in g) (since_in g) (leaves_in g) old f

  abbrev pub Begins : Start → List (List Record) → Point → List RegionState → SystemState → Vaulted (Fuse V) → Type 0
  Begins s B p gs y v = BeginsAt (fused g) s B p gs y v

  -- ---- no read failed
  pub read_begins : (f : Fuse V) (s : Start) (B : List (List Record)) (p : Point) (gs : List RegionState) (y : SystemState) (v : Vaulted (Fuse V)) → Reads v.store f
      → faults_in g f ≡ faults_in g v.store → Begins s B p gs y v → Begins s B p gs y (with_store v f)
  read_begins f s B p gs y v reads kept begins =
      let at = begins.stands.at in
      let stays = read_stays (fused g) s B p v (with_store v f) at.vault (record { vault = refl; same = reads.same; crash = reads.crash }, kept) in
      record {
        stands = record {
          at = record { regions = at.regions; system = at.system; vault = stays.0; none_in_hand = at.none_in_hand };
          whole = begins.stands.whole;
          dead = begins.stands.dead;
        };
        files = subst (λ (o : Option Disk). IfSome o (HoldsPlaces gs)) (sym reads.same) begins.files;
        keeps = begins.keeps;
        between = begins.between;
      }

  -- ---- one did
  pub record Unread (s : Start) (B : List (List Record)) (p : Point) (gs : List RegionState) (y : SystemState) (v : Vaulted (Fuse V)) : Type 0 where
    pub to : Point
    pub step : IsPointStep p (Does (ReadFails (faults_in g v.store))) to
    pub begins : Begins s B to gs y v

  pub unread : (f : Fuse V) (s : Start) (B : List (List Record)) (p : Point) (gs : List RegionState) (y : SystemState) (v : Vaulted (Fuse V)) → Reads v.store f
      → Rose (faults_in g v.store) (faults_in g f) → Begins s B p gs y v → Unread s B p gs y (with_store v f)
  unread f s B p gs y v reads rose begins =
      let at = begins.stands.at in
      let n = faults_in g f in
      let failed = read_faults (fused g) s B p v (with_store v f) at.vault (record { vault = refl; same = reads.same; crash = reads.crash }, rose) in
      let q = failed.goes.to in
      let step = failed.goes.step in
      let same : q.core ≡ with_vault p.core (read_failed p.core.vault n) = step.1.0.1.1 in
      let runs = at.vault.run.run in
      record {
        to = q;
        step = step;
        begins = record {
          stands = record {
            at = record {
              regions = ap (λ (c : CoreState). c.regions) same ∙ at.regions;
              system = ap (λ (c : CoreState). c.system) same ∙ at.system;
              vault = failed.goes.is;
              none_in_hand = at.none_in_hand;
            };
            whole =
                whole_keeps (bases_of s) p.log q.log p.core q.core (ReadFails n) (subst (λ (L : List Record). RunsOn (bases_of s) L p.core) (sym runs.log) runs.run.runs) begins.stands.whole step.1.0;
            dead = begins.stands.dead;
          };
          files = subst (λ (o : Option Disk). IfSome o (HoldsPlaces gs)) (sym reads.same) begins.files;
          keeps = flag_stays p q (Does (ReadFails n)) begins.keeps step;
          between = between_there p.core q.core n same begins.between;
        };
      }
