-- A database into which nobody wrote astray is shown as its log is expected to leave it.
use Rattle.std.proofs.Common.{◌≡◌, ℕ, true, List, Option, Some, None, refl, sym, subst, ◌≤◌}
use Rattle.std.specs.Prelude.{IfSome, IsSome}
use Rattle.dali_att.specs.declared.state.State.{State}
use Rattle.dali_att.specs.declared.state.State.TheVariants.{Live, Dead, Cleaning, Committed}
use Rattle.dali_run.specs.Shown.{IsServing, HoldsExpected}
use Rattle.dali_run.proofs.Shown.{shows_expected}
use Rattle.dali_run.proofs.Verifying.{verifies}
use Rattle.dali_clean.specs.Cleaned.{IsDead}
use Rattle.dali_crash.specs.CrashLogs.{IsUnpoked}
use Rattle.dali_fuse.specs.Fuse.{inner}
use Rattle.dali_fuse.specs.declared.fuse.Fuse.{Fuse}
use Rattle.dali_record.specs.declared.records.Record.{Record}
use Rattle.dali_store.specs.Store.{Files as Disk}
use Rattle.dali_store.specs.declared.store.Store.{Ghosts}
use Rattle.dali_runs.specs.State.{SystemState, TxnRow, row_of, state_in}
use Rattle.dali_transcripts.specs.World.{is_dead_in}
use Rattle.dali_core.specs.declared.whole.Core.{Core}
use Rattle.dali_run.specs.Program.{fused}
use Rattle.dali_run.specs.Survives.{IsPointOf}
use Rattle.dali_run.specs.Unpoked.{AreUnpoked, HasServed, UnpokedShows, UnpokedVerifies}
use Rattle.dali_run.proofs.Surviving.{Behind, cleaned_point}

is_dead : (o : Option State) → is_dead_in o ≡ true → IsDead o
is_dead (Some (Dead latched)) is = (latched, refl)
is_dead (Some Live) is = absurd cc
is_dead (Some (Cleaning latched)) is = absurd cc
is_dead (Some Committed) is = absurd cc
is_dead None is = absurd cc

no_row : (o row : Option TxnRow) → o ≡ row → (IsSome row → is_dead_in (state_in row) ≡ true) → (IsDead (state_in row) → ⊥) → o ≡ None
no_row o None is dead none = is
no_row o (Some row) is dead none = absurd (none (is_dead (state_in (Some row)) (dead refl)))

module _ {V : Type 0} (g : Ghosts V)
    (reads_now : (s : V) → IfSome (g.told s) (λ fs. g.may_leave s fs)) (counts_now : (s : V) (t : ℕ) (c : Disk) → t ≤ g.moment s → g.may_leave s c → g.left_since s t c) where
  behind_of : (base : List Record) (c d : Core (Fuse V)) → HasServed g base c d → Behind g base d
  behind_of base c d served = cleaned_point g reads_now counts_now base c d served.cleaned served.ran served.at

  abbrev log_of : (base : List Record) (c d : Core (Fuse V)) → HasServed g base c d → List Record
  log_of base c d served = (behind_of base c d served).log

  point_of : (base : List Record) (c d : Core (Fuse V)) → (served : HasServed g base c d) → IsPointOf g (log_of base c d served) d
  point_of base c d served = (behind_of base c d served).point

  serving : (base : List Record) (c d : Core (Fuse V)) → HasServed g base c d → IsServing d.system.state
  serving base c d served = let at = (point_of base c d served).begins in record {
    runs = served.runs;
    nobody = λ t.
        no_row (row_of d.system.state t) (row_of d.system.state t) refl
        (subst (λ (y : SystemState). IsSome (row_of y t) → is_dead_in (state_in (row_of y t)) ≡ true) at.stands.at.system (at.between.idle (subst (λ (y : SystemState). y.stop ≡ None) (sym at.stands.at.system) served.runs) t))
        (served.cleaned.none t);
  }

  unpoked_at : (base : List Record) (c d : Core (Fuse V)) → (served : HasServed g base c d) → IsUnpoked (point_of base c d served).point.core
  unpoked_at base c d served = subst AreUnpoked (sym (point_of base c d served).begins.stands.at.regions) served.unpoked

  expects : (base : List Record) (c d : Core (Fuse V)) → (served : HasServed g base c d) → HoldsExpected (point_of base c d served).point.log d.regions.items d.system.state
  expects base c d served =
      let a = point_of base c d served in
      shows_expected (fused g) (λ f. reads_now (inner f)) a.start a.batches a.point d.regions.items d.system.state d.vault a.begins a.tells a.history
      (serving base c d served) (unpoked_at base c d served)

  pub unpoked_shows : UnpokedShows g
  unpoked_shows base c d text served lists =
      let held = expects base c d served in (
        log_of base c d served,
        (behind_of base c d served).more,
        point_of base c d served,
        record {
          expects = held.expects;
          defined = held.defined;
          rows = lists.rows;
          each = λ k v. (λ h. (held.records k v).0 ((lists.listing.exact k v).0 h), λ h. (lists.listing.exact k v).1 ((held.records k v).1 h));
          ascending = lists.listing.ascending;
          printed = lists.printed;
        },
      )

  pub unpoked_verifies : UnpokedVerifies g
  unpoked_verifies base c d served =
      let a = point_of base c d served in
      verifies (fused g) (λ f. reads_now (inner f)) a.start a.batches a.point d.regions.items d.system.state d.vault a.begins a.tells a.history
      (serving base c d served) (unpoked_at base c d served)
